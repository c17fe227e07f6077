-- The tests of a lawful plan, read as facts about its numbers.
use Rattle.std.proofs.Common.{◌≡◌, ℕ, ◌+◌, ◌<◌, ◌≤◌, Bool, true, ◌&&◌, length, get_or, arith}
use Rattle.std.proofs.lemmas.Bool.Decides.{nat_tests}
use Rattle.plan.specs.Shapes.{parent_ok, rank_ok, thresholds_ok, within}
use Rattle.plan.specs.Trees.{Tree, sizes_right, parents_right, ranks_right}
use Rattle.plan.specs.declared.shape.Shape.{Shape}
use Rattle.plan.proofs.Every.{every_at}

pub record Sizes (t : Tree) : Type 0 where
  pub some_rank : 1 ≤ t.shape.ranks
  pub few_ranks : t.shape.ranks ≤ 1024
  pub some_element : 1 ≤ t.shape.elements
  pub few_elements : t.shape.elements ≤ 256
  pub some_level : 1 ≤ t.shape.levels
  pub few_levels : t.shape.levels ≤ 4
  pub some_spacing : 1 ≤ t.shape.spacing
  pub small_spacing : t.shape.spacing ≤ t.shape.ranks
  pub parents_listed : length t.parents + 1 ≡ t.shape.elements
  pub ranks_listed : length t.seats ≡ t.shape.ranks

pub sizes_of : (t : Tree) → sizes_right t ≡ true → Sizes t
sizes_of t e = grind (arith, nat_tests)

pub record Thresholds (s : Shape) : Type 0 where
  pub readers : s.reader_threshold ≤ 1000000
  pub writers : s.writer_threshold ≤ 1000
  pub second : s.level2_threshold ≤ 1000
  pub third : s.level3_threshold ≤ 1000
  pub fourth : s.level4_threshold ≤ 1000

pub thresholds_of : (s : Shape) → thresholds_ok s ≡ true → Thresholds s
thresholds_of s e = grind (arith, nat_tests)

within_high : (low high n : ℕ) (b : Bool) → (within low high n && b) ≡ true → n ≤ high
within_high low high n b e = grind (arith, nat_tests)

-- the parent of element j + 2 lies below it
pub parent_below : (t : Tree) (j : ℕ) → parents_right t ≡ true → j < length t.parents
    → get_or t.parents j 0 ≤ j + 1
parent_below t j e h =
    within_high 1 (j + 1) (get_or t.parents j 0) _
    (every_at (parent_ok t.shape t.parents) (length t.parents) j e h)

-- the element of rank j + 1 is one of the plan's
pub rank_within : (t : Tree) (j : ℕ) → ranks_right t ≡ true → j < length t.seats
    → get_or t.seats j 0 ≤ t.shape.elements
rank_within t j e h =
    within_high 1 t.shape.elements (get_or t.seats j 0) _
    (every_at (rank_ok t.shape t.parents t.seats) (length t.seats) j e h)
