-- Calls and answers as bytes and numbers: what an exchange asks, and how its answer is told.
use Rattle.std.specs.Prelude.{ℕ, List, [], ◌∷◌, Some, None, Ok, Err, Option, Result}
use Rattle.std.specs.Option.{unwrap_or}
use Rattle.refusal.specs.Numbers.{number_of}
use Rattle.refusal.specs.declared.Refusal.{Refusal}
use Rattle.refusal.specs.declared.Refusal.TheVariants.{Misplaced}
use Rattle.memory.specs.Words.{Words}
use Rattle.plan.specs.Trees.{Tree}
use Rattle.places.specs.declared.answer.Answer.{Answer}
use Rattle.places.specs.declared.answer.Answer.TheVariants.{Asked, Leaving, Entered, Free, Waiting, Moved}
use Rattle.places.specs.declared.record.Record.{Record}
use Rattle.lock.specs.Outcomes.{Outcome}
use Rattle.law.specs.Calls.{State, called, state}
use Rattle.law.specs.declared.call.Call.{Call}
use Rattle.order.specs.Calls.{named_call}
use Rattle.treelock_c.specs.declared.exchange.Exchange.{Exchange}

-- the call of an exchange; its letters are those of an order, and any other is none of a call's
abbrev pub call_in : Exchange → Option Call
call_in e = named_call e.letter e.rank

-- the calls of a table: the job
abbrev pub with_call : Option Call → List Call → List Call
with_call (Some c) cs = c ∷ cs
with_call None cs = cs

abbrev pub calls_in : List Exchange → List Call
calls_in [] = []
calls_in (e ∷ es) = with_call (call_in e) (calls_in es)

-- what comes of an exchange: no call is refused by 14, and changes nothing
abbrev pub made_call : Tree → Words → List Record → Option Call → Outcome
made_call t ws rs (Some c) = called t ws rs c
made_call t ws rs None = record { answer = Err Misplaced; words = ws; records = rs }

abbrev pub state_in : Outcome → State
state_in o = state o.words o.records

-- a refusal by its number; want of memory, which has none, by 255
abbrev pub number_code : Refusal → ℕ
number_code e = unwrap_or (number_of e) 255

-- an answer by the first letter of its word, all of them different and above every number
abbrev pub answer_code : Result Answer Refusal → ℕ
answer_code (Ok Asked) = 97
answer_code (Ok Leaving) = 108
answer_code (Ok Entered) = 101
answer_code (Ok Free) = 102
answer_code (Ok Waiting) = 119
answer_code (Ok Moved) = 109
answer_code (Err e) = number_code e

abbrev pub replied : Exchange → Result Answer Refusal → Exchange
replied e r = record { letter = e.letter; answer = answer_code r; rank = e.rank }

-- the exchanges one after another, each with what it answers
abbrev pub replies : Tree → State → List Exchange → List Exchange
replies t s [] = []
replies t s (e ∷ es) =
    replied e (made_call t s.words s.records (call_in e)).answer
    ∷ replies t (state_in (made_call t s.words s.records (call_in e))) es
