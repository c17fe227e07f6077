-- A lock laid out: zeros in its words, idle records, and nothing else changed. And whether some rank is in.
use Rattle.std.specs.Prelude.{ℕ, zero, suc, ◌+◌, Bool, false, cond, ◌&&◌, ◌||◌, List, ◌++◌, drop, replicate, Ok, Err, Result, ◌==◌, nat_le, nat_lt, slice_index_or}
use Rattle.refusal.specs.declared.Refusal.{Refusal}
use Rattle.refusal.specs.declared.Refusal.TheVariants.{TooShort}
use Rattle.memory.specs.Sizes.{home_words}
use Rattle.memory.specs.Words.{Words}
use Rattle.plan.specs.Trees.{Tree, homes}
use Rattle.places.specs.Records.{recorded}
use Rattle.places.specs.declared.place.Place.TheVariants.{Idle}
use Rattle.places.specs.declared.record.Record.{Record}
use Rattle.lock.specs.Outcomes.{enough_records, roomy}

-- zeros in the first n words of a home
abbrev pub home_cleared : Words → ℕ → ℕ → Words
home_cleared ws home n = record {
  count = ws.count;
  word = λ h o. cond (h == home && nat_lt o n) 0 (ws.word h o);
}

-- zeros in the words of homes 1 on, below n
abbrev pub cleared : Words → ℕ → Words
cleared ws n = record {
  count = ws.count;
  word = λ h o. cond (nat_le 1 h && nat_lt h n && nat_lt o home_words) 0 (ws.word h o);
}

-- the first n records idle
abbrev pub idled : List Record → ℕ → List Record
idled rs n = replicate n (recorded Idle) ++ drop n rs

-- layout's answer, and the words and records after it
abbrev pub laid_answer : Tree → Words → List Record → Result (Unit {0}) Refusal
laid_answer t ws rs = cond (roomy t ws rs) (Ok tt) (Err TooShort)

abbrev pub laid_words : Tree → Words → List Record → Words
laid_words t ws rs = cond (roomy t ws rs) (cleared ws (homes t + 1)) ws

abbrev pub laid_records : Tree → Words → List Record → List Record
laid_records t ws rs = cond (roomy t ws rs) (idled rs t.shape.ranks) rs

-- the record says that its rank is in; an unknown place is not
abbrev pub is_in : Record → Bool
is_in r = r.place == 27 || r.place == 28

-- some of the first n records says so
abbrev pub any_in : List Record → ℕ → Bool
any_in rs zero = false
any_in rs (suc n) = is_in (slice_index_or rs n (recorded Idle)) || any_in rs n

abbrev pub occupied_by : Tree → List Record → Result Bool Refusal
occupied_by t rs = cond (enough_records t rs) (Ok (any_in rs t.shape.ranks)) (Err TooShort)
