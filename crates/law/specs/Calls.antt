-- A job: a list of calls, right after an accepted layout. Refused calls are part of it and change nothing.
use Rattle.std.specs.Prelude.{List, [], ◌∷◌, Result}
use Rattle.refusal.specs.declared.Refusal.{Refusal}
use Rattle.memory.specs.Words.{Words}
use Rattle.plan.specs.Trees.{Tree}
use Rattle.places.specs.declared.answer.Answer.{Answer}
use Rattle.places.specs.declared.record.Record.{Record}
use Rattle.lock.specs.Layouts.{laid_records, laid_words}
use Rattle.lock.specs.Outcomes.{Outcome}
use Rattle.lock.specs.Steps.{stepped}
use Rattle.lock.specs.Turns.{Turn, asked_to_read, asked_to_write, left}
use Rattle.law.specs.declared.call.Call.{Call}
use Rattle.law.specs.declared.call.Call.TheVariants.{AskWrite, AskRead, Step, Leave}

-- all words and all records
pub record State : Type 0 where
  pub words : Words
  pub records : List Record

abbrev pub state : Words → List Record → State
state ws rs = record { words = ws; records = rs }

-- right after layout
abbrev pub laid : Tree → Words → List Record → State
laid t ws rs = state (laid_words t ws rs) (laid_records t ws rs)

-- asks and leaves touch no word
abbrev pub with_words : Words → Turn → Outcome
with_words ws t = record { answer = t.answer; words = ws; records = t.records }

-- one call
abbrev pub called : Tree → Words → List Record → Call → Outcome
called t ws rs (AskWrite p) = with_words ws (asked_to_write t rs p)
called t ws rs (AskRead p) = with_words ws (asked_to_read t rs p)
called t ws rs (Step p) = stepped t ws rs p
called t ws rs (Leave p) = with_words ws (left t rs p)

-- what a call answers, and the state after it
abbrev pub answer_to : Tree → State → Call → Result Answer Refusal
answer_to t s c = (called t s.words s.records c).answer

abbrev pub after : Tree → State → Call → State
after t s c = state (called t s.words s.records c).words (called t s.words s.records c).records

-- the calls one after another: the state after them, and what they answer
abbrev pub ran : Tree → State → List Call → State
ran t s [] = s
ran t s (c ∷ cs) = ran t (after t s c) cs

abbrev pub answers : Tree → State → List Call → List (Result Answer Refusal)
answers t s [] = []
answers t s (c ∷ cs) = answer_to t s c ∷ answers t (after t s c) cs
