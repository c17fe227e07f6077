-- What a call leaves: its answer or refusal, all words and all records.
use Rattle.std.specs.Prelude.{ℕ, ◌-◌, Bool, ◌&&◌, List, length, Err, Result, nat_le, slice_index_or, slice_set}
use Rattle.refusal.specs.declared.Refusal.{Refusal}
use Rattle.memory.specs.Words.{Words}
use Rattle.plan.specs.Trees.{Tree, homes}
use Rattle.places.specs.Records.{recorded}
use Rattle.places.specs.declared.answer.Answer.{Answer}
use Rattle.places.specs.declared.place.Place.{Place}
use Rattle.places.specs.declared.place.Place.TheVariants.{Idle}
use Rattle.places.specs.declared.record.Record.{Record}

pub record Outcome : Type 0 where
  pub answer : Result Answer Refusal
  pub words : Words
  pub records : List Record

-- a refused call changes nothing
abbrev pub refused : Words → List Record → Refusal → Outcome
refused ws rs e = record { answer = Err e; words = ws; records = rs }

-- the record of rank p
abbrev pub record_at : List Record → ℕ → Record
record_at rs p = slice_index_or rs (p - 1) (recorded Idle)

-- rank p stands at q; the other records are as they were
abbrev pub placed : List Record → ℕ → Place → List Record
placed rs p q = slice_set rs (p - 1) (recorded q)

-- there is a record for each rank
abbrev pub enough_records : Tree → List Record → Bool
enough_records t rs = nat_le t.shape.ranks (length rs)

-- and a home for each rank and element
abbrev pub roomy : Tree → Words → List Record → Bool
roomy t ws rs = enough_records t rs && nat_le (homes t) ws.count
