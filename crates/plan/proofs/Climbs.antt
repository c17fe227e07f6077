-- The way up the tree, one element at a time.
use Rattle.std.proofs.Common.{◌≡◌, ℕ, zero, suc, ◌+◌, ◌<◌, List, refl, add-one, arith}
use Rattle.std.proofs.lemmas.Bool.Decides.{nat_tests}
use Rattle.plan.specs.Shapes.{level_in, parent}
use Rattle.plan.specs.Trees.{above}

-- an element above the first counts one more than its parent
pub level_up : (f g : ℕ) (ps : List ℕ) (k p : ℕ) → f ≡ g + 1 → p ≡ parent ps k → 1 < k
    → level_in f ps k ≡ level_in g ps p + 1
level_up f g ps k p e q h = rw (e, q, add-one g) (grind (arith, nat_tests))

-- one step more
pub above_more : (ps : List ℕ) (d k : ℕ) → above ps (suc d) k ≡ parent ps (above ps d k)
above_more ps zero k = refl
above_more ps (suc d) k = above_more ps d (parent ps k)
