-- The lines of a run: one for each call, and one for the fault that ends the order, if any.
use Rattle.std.specs.Prelude.{ℕ, ◌≤◌, List, [], ◌∷◌, ◌++◌, Some, None, Ok, Err, Option, Result}
use Rattle.refusal.specs.declared.Refusal.{Refusal}
use Rattle.memory.specs.Layout.{byte_words}
use Rattle.plan.specs.Trees.{Tree}
use Rattle.places.specs.declared.answer.Answer.{Answer}
use Rattle.places.specs.declared.record.Record.{Record}
use Rattle.law.specs.Calls.{State, answers, laid}
use Rattle.law.specs.Law.{Law}
use Rattle.law.specs.declared.call.Call.{Call}
use Rattle.job.specs.Outcomes.{job_answer}
use Rattle.order.specs.Lines.{bad_line, reply_line}
use Rattle.order.specs.Whole.{Whole, read_whole}
use Rattle.order.specs.declared.fault.Fault.{Fault}

-- a line for each call with its answer
abbrev pub reply_lines : List Call → List (Result Answer Refusal) → List ℕ
reply_lines [] rs = []
reply_lines (c ∷ cs) [] = []
reply_lines (c ∷ cs) (r ∷ rs) = reply_line c r ++ reply_lines cs rs

abbrev pub fault_line : Option Fault → List ℕ
fault_line None = []
fault_line (Some f) = bad_line f

-- the offset of a fault, if there is one, is one that an order can have
abbrev pub NearEnd : Option Fault → Type 0
NearEnd None = Unit {0}
NearEnd (Some f) = f.offset ≤ 65535

-- the lines of an order's script, run from a state
abbrev pub script_lines : Whole → State → List ℕ
script_lines w s =
    reply_lines w.script.calls (answers w.plan s w.script.calls) ++ fault_line w.script.fault

-- right after layout over a window of bytes and a table of records
abbrev pub start : Tree → List ℕ → List Record → State
start t window rs = laid t (byte_words window) rs

-- the lines, if the job is run; else its refusal
abbrev pub if_run : Result (Unit {0}) Refusal → List ℕ → Result (List ℕ) Refusal
if_run (Ok x) ls = Ok ls
if_run (Err e) ls = Err e

-- an order with no plan has one line; any other is run
abbrev pub told : Result Whole Fault → List ℕ → List Record → List (Result Answer Refusal) → Result (List ℕ) Refusal
told (Err f) window rs out = Ok (bad_line f)
told (Ok w) window rs out =
    if_run (job_answer w.plan (byte_words window) rs w.script.calls out) (script_lines w (start w.plan window rs))

abbrev pub transcript : List ℕ → List ℕ → List Record → List (Result Answer Refusal) → Result (List ℕ) Refusal
transcript order window rs out = told (read_whole order) window rs out

-- and the law holds of its plan and its calls
abbrev pub LawfulRun : Result Whole Fault → List ℕ → List Record → Type 0
LawfulRun (Err f) window rs = Unit {0}
LawfulRun (Ok w) window rs = Law w.plan (start w.plan window rs) w.script.calls
