-- A job of exchanges: its table afterwards, or why it is refused.
use Rattle.std.specs.Prelude.{◌≡◌, ℕ, ◌⊎◌, List, replicate, Ok, Err, Result}
use Rattle.refusal.specs.declared.Refusal.{Refusal}
use Rattle.memory.specs.Layout.{table_words}
use Rattle.plan.specs.Trees.{Tree}
use Rattle.places.specs.Records.{recorded}
use Rattle.places.specs.declared.place.Place.TheVariants.{Idle}
use Rattle.places.specs.declared.record.Record.{Record}
use Rattle.law.specs.Calls.{State, laid}
use Rattle.law.specs.Law.{Law}
use Rattle.order.specs.Reading.{Reading, reading}
use Rattle.order.specs.declared.fault.Fault.{Fault}
use Rattle.treelock_c.specs.Exchanges.{calls_in, number_code, replies}
use Rattle.treelock_c.specs.declared.exchange.Exchange.{Exchange}

-- room for the largest plan: 1,280 homes of five words, 1,024 records
abbrev pub blank_table : List ℕ
blank_table = replicate 6400 0

abbrev pub idle_records : List Record
idle_records = replicate 1024 (recorded Idle)

-- right after layout
abbrev pub start : Tree → State
start t = laid t (table_words blank_table) idle_records

-- the table with its answers, or the fault of the plan
abbrev pub outcome_of : Result Reading Fault → List Exchange → Result (List Exchange) Refusal
outcome_of (Err f) es = Err f.refusal
outcome_of (Ok r) es = Ok (replies r.plan (start r.plan) es)

abbrev pub outcome : List ℕ → List Exchange → Result (List Exchange) Refusal
outcome plan es = outcome_of (reading plan) es

-- as a number and a table: a refusal leaves the table as it was
abbrev pub ToldAs : ℕ → Result (List Exchange) Refusal → List Exchange → List Exchange → Type 0
ToldAs n (Ok es) before behind = (n ≡ 0) × (behind ≡ es)
ToldAs n (Err e) before behind = (n ≡ number_code e) × (behind ≡ before)

-- the defined outcome, or want of memory and nothing changed
abbrev pub Told : ℕ → Result (List Exchange) Refusal → List Exchange → List Exchange → Type 0
Told n r before behind = ToldAs n r before behind ⊎ ((n ≡ 255) × (behind ≡ before))

-- the law holds of the plan and the calls
abbrev pub Lawful : Result Reading Fault → List Exchange → Type 0
Lawful (Err f) es = Unit {0}
Lawful (Ok r) es = Law r.plan (start r.plan) (calls_in es)
