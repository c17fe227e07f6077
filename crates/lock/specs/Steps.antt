-- One step: one row of the table, so one word and one record.
use Rattle.std.specs.Prelude.{ℕ, cond, List, Some, None, Ok, Err, Option, Result}
use Rattle.refusal.specs.declared.Refusal.{Refusal}
use Rattle.refusal.specs.declared.Refusal.TheVariants.{NotUnderWay, Spoiled, TooShort, UnknownRank}
use Rattle.memory.specs.Operations.{answered, performed}
use Rattle.memory.specs.Words.{Words}
use Rattle.plan.specs.Trees.{Tree, has_rank}
use Rattle.places.specs.Records.{parsed}
use Rattle.places.specs.Table.{access_of, next_of}
use Rattle.places.specs.declared.access.Access.{Access}
use Rattle.places.specs.declared.follow.Next.{Next}
use Rattle.places.specs.declared.place.Place.{Place}
use Rattle.places.specs.declared.record.Record.{Record}
use Rattle.lock.specs.Outcomes.{Outcome, placed, record_at, refused, roomy}

-- what follows from what the memory answered; its refusals are passed on
abbrev pub followed : Tree → ℕ → Place → Result ℕ Refusal → Result Next Refusal
followed t p q (Err e) = Err e
followed t p q (Ok w) = next_of t p q w

abbrev pub answered_by : Words → Access → Result ℕ Refusal
answered_by ws a = answered ws a.home a.offset a.operation

abbrev pub performed_by : Words → Access → Words
performed_by ws a = performed ws a.home a.offset a.operation

-- the row of rank p at place q: what comes of it
abbrev pub row_next : Tree → Words → ℕ → Place → Option Access → Result Next Refusal
row_next t ws p q None = Err NotUnderWay
row_next t ws p q (Some a) = followed t p q (answered_by ws a)

-- and the words after it, if it is not refused
abbrev pub row_words : Words → Option Access → Words
row_words ws None = ws
row_words ws (Some a) = performed_by ws a

abbrev pub stepped_to : Words → Words → List Record → ℕ → Result Next Refusal → Outcome
stepped_to before after rs p (Err e) = refused before rs e
stepped_to before after rs p (Ok n) =
    record { answer = Ok n.answer; words = after; records = placed rs p n.place }

abbrev pub stepped_from : Tree → Words → List Record → ℕ → Option Place → Outcome
stepped_from t ws rs p None = refused ws rs Spoiled
stepped_from t ws rs p (Some q) =
    stepped_to ws (row_words ws (access_of t p q)) rs p (row_next t ws p q (access_of t p q))

-- a step of rank p: refusals in the order of their numbers
abbrev pub stepped : Tree → Words → List Record → ℕ → Outcome
stepped t ws rs p =
    cond (roomy t ws rs)
    (cond (has_rank t p) (stepped_from t ws rs p (parsed t p (record_at rs p))) (refused ws rs UnknownRank))
    (refused ws rs TooShort)
