-- What a whole order says: a plan and a script of calls, or a fault before they begin.
use Rattle.std.specs.Prelude.{◌≡◌, ℕ, List, Ok, Err, vec_items, Result}
use Rattle.refusal.specs.Numbers.{IsOnSheet}
use Rattle.plan.specs.Trees.{Tree, tree_of}
use Rattle.order.specs.Calls.{Script, script, script_at}
use Rattle.order.specs.Reading.{Reading, reading}
use Rattle.order.specs.declared.fault.Fault.{Fault}
use Rattle.order.specs.declared.whole.OrderRead.{OrderRead}

pub record Whole : Type 0 where
  pub plan : Tree
  pub script : Script

abbrev pub with_calls : List ℕ → Result Reading Fault → Result Whole Fault
with_calls bs (Ok r) = Ok (record { plan = r.plan; script = script_at bs r.end })
with_calls bs (Err f) = Err f

abbrev pub read_whole : List ℕ → Result Whole Fault
read_whole bs = with_calls bs (reading bs)

abbrev pub whole_of : OrderRead → Whole
whole_of x = record { plan = tree_of x.plan; script = script (vec_items x.calls) x.fault }

-- the answer is the defined one; only want of memory, which has no number, can stand in its place
abbrev pub AnswersWhole : Result OrderRead Fault → Result Whole Fault → Type 0
AnswersWhole (Ok x) r = r ≡ Ok (whole_of x)
AnswersWhole (Err f) r = IsOnSheet f.refusal → r ≡ Err f
