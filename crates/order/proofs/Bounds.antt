-- What a whole order can hold: a plan of lawful sizes, and no more calls than a third of its bytes.
use Rattle.std.proofs.Common.{◌≡◌, ℕ, zero, suc, ◌+◌, ◌-◌, ◌*◌, ◌≤◌, Bool, true, cond, ltb, List, length, Ok, Err, Result, arith}
use Rattle.std.proofs.lemmas.Bool.Decides.{nat_tests}
use Rattle.refusal.specs.declared.Refusal.{Refusal}
use Rattle.plan.proofs.Facts.{Sizes, sizes_of}
use Rattle.plan.specs.Trees.{Tree, planned, sizes_right}
use Rattle.law.specs.declared.call.Call.{Call}
use Rattle.order.specs.Calls.{call_at, call_of, script_from}
use Rattle.order.specs.Commands.{size, then}
use Rattle.order.specs.Reading.{Reading, at_go, commands_checked, go_place, reading, tree_in}
use Rattle.order.specs.Whole.{Whole, read_whole}
use Rattle.order.specs.declared.fault.Fault.{Fault}
use Rattle.order.proofs.Wholes.{plan_read_of}

-- a call has three bytes
call_size : (c p at : ℕ) (k : Call) → call_of c p at ≡ Ok k → size c ≡ 3
call_size c p at k e = grind (arith, nat_tests)

call_whole : (bs : List ℕ) (at : ℕ) (k : Call) → call_at bs at ≡ Ok k → at + 3 ≤ length bs
call_whole bs at k e = grind (arith, nat_tests, call_size)

few_calls : (bs : List ℕ) (n at : ℕ) → 3 * length (script_from bs n at).calls ≤ length bs - at
few_calls bs zero at = omega arith
few_calls bs (suc n) at =
    let rest = few_calls bs n (at + 3) in
    grind (arith, nat_tests, call_whole)

-- a plan that is made has lawful sizes
sized : (t u : Tree) → planned t ≡ Ok u → (u ≡ t) × (sizes_right t ≡ true)
sized t u e = grind arith

made_from : (b : Bool) (f : Fault) (c : Result (Unit {0}) Fault) (at : ℕ) (p : Result Tree Refusal) (r : Reading)
    → cond b (Err f) (then c (at_go at p)) ≡ Ok r → p ≡ Ok r.plan
made_from b f c at p r e = grind arith

sized_reading : (bs : List ℕ) (r : Reading) → reading bs ≡ Ok r → sizes_right r.plan ≡ true
sized_reading bs r e =
    let made = made_from (ltb 65535 (length bs)) _ (commands_checked bs) (go_place bs) (planned (tree_in bs)) r e in
    let s = sized (tree_in bs) r.plan made in
    rw s.0 s.1

-- both, of a whole order
pub record Bounds (bs : List ℕ) (w : Whole) : Type 0 where
  pub sizes : Sizes w.plan
  pub calls : 3 * length w.script.calls ≤ length bs

pub bounds_of : (bs : List ℕ) (w : Whole) → read_whole bs ≡ Ok w → Bounds bs w
bounds_of bs w e =
    let p = plan_read_of bs w e in
    let few = few_calls bs (length bs) p.plan_read.end in
    let right : sizes_right w.plan ≡ true = rw p.is (sized_reading bs p.plan_read p.was) in
    record { sizes = sizes_of w.plan right; calls = rw p.is (omega (arith, few)) }
