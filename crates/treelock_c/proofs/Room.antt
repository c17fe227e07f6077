-- There is room for every plan: no job is refused for want of homes or records.
use Rattle.std.proofs.Common.{◌≡◌, ℕ, ◌≤◌, List, length, Ok, arith}
use lib.ListN.{length-replicate}
use Rattle.std.proofs.lemmas.Bool.{le-leb}
use Rattle.memory.specs.Layout.{table_words}
use Rattle.plan.proofs.Facts.{Sizes, sizes_of}
use Rattle.plan.specs.Trees.{homes, tree_of}
use Rattle.plan.specs.declared.plan.Plan.{Plan}
use Rattle.places.specs.Records.{recorded}
use Rattle.places.specs.declared.place.Place.TheVariants.{Idle}
use Rattle.places.specs.declared.record.Record.{Record}
use Rattle.lock.specs.Layouts.{laid_answer}
use Rattle.treelock_c.specs.Runs.{blank_table, idle_records}

room_in : (plan : Plan) (table : List ℕ) (rs : List Record) → length table ≡ 6400 → length rs ≡ 1024
    → laid_answer (tree_of plan) (table_words table) rs ≡ Ok tt
room_in plan table rs table_is records_are =
    let b : Sizes (tree_of plan) = sizes_of (tree_of plan) plan.sized in
    let ranks : (tree_of plan).shape.ranks ≤ length rs = omega (arith, b.few_ranks, records_are) in
    let count : (table_words table).count ≡ 1280 = rw table_is in
    let all : homes (tree_of plan) ≤ (table_words table).count = omega (arith, b.few_ranks, b.few_elements, count) in
    rw (le-leb _ _ ranks, le-leb _ _ all)

pub room_for : (plan : Plan) → laid_answer (tree_of plan) (table_words blank_table) idle_records ≡ Ok tt
room_for plan =
    room_in plan blank_table idle_records (length-replicate {A = ℕ} 6400 0) (length-replicate 1024 (recorded Idle))
