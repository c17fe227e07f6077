-- Whether a plan fits, by its length.
use Rattle.std.proofs.Common.{◌≡◌, ◌+◌, ◌*◌, ◌<◌, ◌≤◌, ℕ, true, false, List, length, arith}
use Rattle.std.proofs.lemmas.Bool.{le-leb, lt-leb}
use Rattle.plan.specs.Trees.{Tree}
use Rattle.order.specs.Writing.{fits, plan_bytes}
use Rattle.order.proofs.RoundTrip.{length_plan}

module _ (t : Tree) (out : List ℕ) where
  pub tight : length out < 20 + 3 * length t.parents + 3 * length t.seats + 1 → fits t out ≡ false
  tight h = lt-leb (length (plan_bytes t)) (length out) (omega (arith, length_plan t))

  pub roomy : 20 + 3 * length t.parents + 3 * length t.seats + 1 ≤ length out → fits t out ≡ true
  roomy h = le-leb (length (plan_bytes t)) (length out) (omega (arith, length_plan t))
