-- What a job answers and leaves.
use Rattle.std.specs.Prelude.{Bool, cond, ◌&&◌, List, ◌++◌, length, drop, Ok, Err, Result, nat_le}
use Rattle.refusal.specs.declared.Refusal.{Refusal}
use Rattle.refusal.specs.declared.Refusal.TheVariants.{BufferTooSmall, TooShort}
use Rattle.memory.specs.Words.{Words}
use Rattle.plan.specs.Trees.{Tree}
use Rattle.places.specs.declared.answer.Answer.{Answer}
use Rattle.places.specs.declared.record.Record.{Record}
use Rattle.lock.specs.Outcomes.{roomy}
use Rattle.law.specs.Calls.{State, answers, laid, ran, state}
use Rattle.law.specs.declared.call.Call.{Call}

-- there is a place in the table of answers for each call
abbrev pub answers_fit : List Call → List (Result Answer Refusal) → Bool
answers_fit calls out = nat_le (length calls) (length out)

-- the job is run
abbrev pub accepted : Tree → Words → List Record → List Call → List (Result Answer Refusal) → Bool
accepted t ws rs calls out = roomy t ws rs && answers_fit calls out

-- too few records or homes are refused first, then a table of answers that is too short
abbrev pub job_answer : Tree → Words → List Record → List Call → List (Result Answer Refusal) → Result (Unit {0}) Refusal
job_answer t ws rs calls out =
    cond (roomy t ws rs) (cond (answers_fit calls out) (Ok tt) (Err BufferTooSmall)) (Err TooShort)

-- the words and records after it; a refusal changes nothing
abbrev pub job_state : Tree → Words → List Record → List Call → List (Result Answer Refusal) → State
job_state t ws rs calls out = cond (accepted t ws rs calls out) (ran t (laid t ws rs) calls) (state ws rs)

-- and the table of answers: one for each call, what lies behind them as before
abbrev pub job_answers : Tree → Words → List Record → List Call → List (Result Answer Refusal)
    → List (Result Answer Refusal)
job_answers t ws rs calls out =
    cond (accepted t ws rs calls out) (answers t (laid t ws rs) calls ++ drop (length calls) out) out
