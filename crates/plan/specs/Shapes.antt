-- When the parts of a plan are lawful. ps lists the parents of elements 2, 3, ..; es the elements of ranks 1, 2, ..
use Rattle.std.specs.Prelude.{ℕ, zero, suc, ◌+◌, ◌-◌, Bool, true, cond, ◌&&◌, List, length, ◌==◌, nat_le, slice_index}
use Rattle.plan.specs.declared.shape.Shape.{Shape}

-- a number from low to high
abbrev pub within : ℕ → ℕ → ℕ → Bool
within low high n = nat_le low n && nat_le n high

-- a test holds of each number below n
abbrev pub every : (ℕ → Bool) → ℕ → Bool
every p zero = true
every p (suc n) = p n && every p n

-- the parent of element k above 1
abbrev pub parent : List ℕ → ℕ → ℕ
parent ps k = slice_index ps (k - 2)

-- the level of element k, counted at most f deep: 1 for element 1, else one more than its parent's
abbrev pub level_in : ℕ → List ℕ → ℕ → ℕ
level_in zero ps k = 0
level_in (suc f) ps k = cond (nat_le k 1) 1 (level_in f ps (parent ps k) + 1)

-- the level of element k: 1 to 4, and 5 for all that lie deeper than any plan allows
abbrev pub level : List ℕ → ℕ → ℕ
level ps k = level_in 5 ps k

-- 1 to 1,024 ranks, 1 to 256 elements, 1 to 4 levels, a spacing from 1 to the number of ranks,
-- a parent for each element above 1, and an element for each rank
abbrev pub sizes_ok : Shape → List ℕ → List ℕ → Bool
sizes_ok s ps es =
    within 1 1024 s.ranks && within 1 256 s.elements && within 1 4 s.levels
    && within 1 s.ranks s.spacing
    && length ps == s.elements - 1 && length es == s.ranks

-- the threshold n of level i, 2 to 4: 1 to 1,000 at a level that the plan has, else 0
abbrev pub level_threshold_ok : Shape → ℕ → ℕ → Bool
level_threshold_ok s i n = cond (nat_le i s.levels) (within 1 1000 n) (n == 0)

abbrev pub thresholds_ok : Shape → Bool
thresholds_ok s =
    within 1 1000000 s.reader_threshold && within 1 1000 s.writer_threshold
    && level_threshold_ok s 2 s.level2_threshold
    && level_threshold_ok s 3 s.level3_threshold
    && level_threshold_ok s 4 s.level4_threshold

-- element j + 2 has a parent below it, and lies at a level that the plan has
abbrev pub parent_ok : Shape → List ℕ → ℕ → Bool
parent_ok s ps j = within 1 (j + 1) (slice_index ps j) && nat_le (level ps (j + 2)) s.levels

-- a rank may hang on element k, one of the lowest level
abbrev pub seat_ok : Shape → List ℕ → ℕ → Bool
seat_ok s ps k = within 1 s.elements k && level ps k == s.levels

-- rank j + 1 hangs on such an element
abbrev pub rank_ok : Shape → List ℕ → List ℕ → ℕ → Bool
rank_ok s ps es j = seat_ok s ps (slice_index es j)
