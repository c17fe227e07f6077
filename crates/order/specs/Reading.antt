-- What the plan's part of an order says: a plan and the offset behind it, or a fault.
use Rattle.std.specs.Prelude.{◌≡◌, ℕ, zero, suc, ◌+◌, ◌-◌, ◌*◌, cond, List, [], ◌∷◌, ◌++◌, length, Ok, Err, Result, nat_lt, slice_index}
use Rattle.refusal.specs.Numbers.{IsOnSheet}
use Rattle.refusal.specs.declared.Refusal.{Refusal}
use Rattle.refusal.specs.declared.Refusal.TheVariants.{OrderTooLong}
use Rattle.plan.specs.Trees.{Tree, tree, tree_of, planned}
use Rattle.plan.specs.declared.shape.Shape.{Shape}
use Rattle.order.specs.Bytes.{pair_at, quad_at}
use Rattle.order.specs.Commands.{bad, checked, run, then, letter_E, letter_G, letter_H, letter_K}
use Rattle.order.specs.declared.fault.Fault.{Fault}
use Rattle.order.specs.declared.read.PlanRead.{PlanRead}

-- a plan, and the offset behind its last command
pub record Reading : Type 0 where
  pub plan : Tree
  pub end : ℕ

-- the numbers behind H
abbrev pub shape_in : List ℕ → Shape
shape_in bs = record {
  ranks = pair_at bs 1;
  elements = pair_at bs 3;
  levels = slice_index bs 5;
  spacing = pair_at bs 6;
  reader_threshold = quad_at bs 8;
  writer_threshold = pair_at bs 12;
  level2_threshold = pair_at bs 14;
  level3_threshold = pair_at bs 16;
  level4_threshold = pair_at bs 18;
}

-- how many E and K commands are due
abbrev pub parents_due : List ℕ → ℕ
parents_due bs = (shape_in bs).elements - 1

abbrev pub ranks_due : List ℕ → ℕ
ranks_due bs = (shape_in bs).ranks

-- where the K commands begin, and where G stands
abbrev pub ranks_place : List ℕ → ℕ
ranks_place bs = 20 + 3 * parents_due bs

abbrev pub go_place : List ℕ → ℕ
go_place bs = ranks_place bs + 3 * ranks_due bs

-- the operands of n commands of three bytes, from a place on
abbrev pub operands : List ℕ → ℕ → ℕ → List ℕ
operands bs at zero = []
operands bs at (suc n) = operands bs at n ++ (pair_at bs (at + 3 * n + 1) ∷ [])

-- the parts of the plan, lawful or not
abbrev pub tree_in : List ℕ → Tree
tree_in bs = tree (shape_in bs) (operands bs 20 (parents_due bs)) (operands bs (ranks_place bs) (ranks_due bs))

-- H, then the E commands, then the K commands, then G: the first bad one counts
abbrev pub commands_checked : List ℕ → Result (Unit {0}) Fault
commands_checked bs =
    then (checked bs 0 letter_H)
    (then (run bs letter_E 20 (parents_due bs))
    (then (run bs letter_K (ranks_place bs) (ranks_due bs))
    (checked bs (go_place bs) letter_G)))

-- the faults of a plan are reported at G
abbrev pub at_go : ℕ → Result Tree Refusal → Result Reading Fault
at_go at (Ok t) = Ok (record { plan = t; end = at + 1 })
at_go at (Err e) = Err (bad e at)

-- the whole: an order that is too long is refused before its first command
abbrev pub reading : List ℕ → Result Reading Fault
reading bs =
    cond (nat_lt 65535 (length bs)) (Err (bad OrderTooLong 65535))
    (then (commands_checked bs) (at_go (go_place bs) (planned (tree_in bs))))

abbrev pub reading_of : PlanRead → Reading
reading_of x = record { plan = tree_of x.plan; end = x.end }

-- the answer is the defined one; only want of memory, which has no number, can stand in its place
abbrev pub Answers : Result PlanRead Fault → Result Reading Fault → Type 0
Answers (Ok x) r = r ≡ Ok (reading_of x)
Answers (Err f) r = IsOnSheet f.refusal → r ≡ Err f
