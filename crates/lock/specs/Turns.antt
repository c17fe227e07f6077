-- Asks and leaves: calls that touch no word.
use Rattle.std.specs.Prelude.{ℕ, cond, List, Some, None, Ok, Err, Option, Result, nat_le}
use Rattle.refusal.specs.declared.Refusal.{Refusal}
use Rattle.refusal.specs.declared.Refusal.TheVariants.{NotIdle, NotIn, Spoiled, TooShort, UnknownRank}
use Rattle.plan.specs.Trees.{Tree, has_rank, own_level}
use Rattle.places.specs.Records.{parsed}
use Rattle.places.specs.Standings.{standing_at}
use Rattle.places.specs.declared.answer.Answer.{Answer}
use Rattle.places.specs.declared.answer.Answer.TheVariants.{Asked, Leaving}
use Rattle.places.specs.declared.place.Place.{Place}
use Rattle.places.specs.declared.place.Place.TheVariants.{R1, R7, U1, U4, W1}
use Rattle.places.specs.declared.place.Standing.{Standing}
use Rattle.places.specs.declared.place.Standing.TheVariants.{Reading, Resting, UnderWay, Writing}
use Rattle.places.specs.declared.record.Record.{Record}
use Rattle.lock.specs.Outcomes.{enough_records, placed, record_at}

-- the answer of such a call, and all records after it
pub record Turn : Type 0 where
  pub answer : Result Answer Refusal
  pub records : List Record

abbrev pub unchanged : List Record → Refusal → Turn
unchanged rs e = record { answer = Err e; records = rs }

abbrev pub turned : List Record → ℕ → Place → Answer → Turn
turned rs p q a = record { answer = Ok a; records = placed rs p q }

-- refusals in the order of their numbers, up to a spoiled record; then what the call does at its place
abbrev pub turn_from : List Record → (Place → Turn) → Option Place → Turn
turn_from rs f None = unchanged rs Spoiled
turn_from rs f (Some q) = f q

abbrev pub turn_of : Tree → List Record → ℕ → (Place → Turn) → Turn
turn_of t rs p f =
    cond (enough_records t rs)
    (cond (has_rank t p) (turn_from rs f (parsed t p (record_at rs p))) (unchanged rs UnknownRank))
    (unchanged rs TooShort)

-- an ask sends an idle rank to a place
abbrev pub asked_at : List Record → ℕ → Place → Standing → Turn
asked_at rs p q Resting = turned rs p q Asked
asked_at rs p q UnderWay = unchanged rs NotIdle
asked_at rs p q Writing = unchanged rs NotIdle
asked_at rs p q Reading = unchanged rs NotIdle

abbrev pub asked : Tree → List Record → ℕ → Place → Turn
asked t rs p to = turn_of t rs p (λ q. asked_at rs p to (standing_at q))

-- ask to write: to W1 at the rank's own level; ask to read: to R1
abbrev pub asked_to_write : Tree → List Record → ℕ → Turn
asked_to_write t rs p = asked t rs p (W1 (own_level t p))

abbrev pub asked_to_read : Tree → List Record → ℕ → Turn
asked_to_read t rs p = asked t rs p R1

-- where a writer begins to leave: at its own level, which may be level 1
abbrev pub exit_of : Tree → ℕ → Place
exit_of t p = cond (nat_le 2 (own_level t p)) (U1 (own_level t p)) U4

-- a leave sends a rank that is in on its way out
abbrev pub left_at : Tree → List Record → ℕ → Standing → Turn
left_at t rs p Resting = unchanged rs NotIn
left_at t rs p UnderWay = unchanged rs NotIn
left_at t rs p Writing = turned rs p (exit_of t p) Leaving
left_at t rs p Reading = turned rs p R7 Leaving

abbrev pub left : Tree → List Record → ℕ → Turn
left t rs p = turn_of t rs p (λ q. left_at t rs p (standing_at q))
