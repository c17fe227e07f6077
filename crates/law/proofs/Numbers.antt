-- What a lawful plan says of the numbers of its tree and of its counters: levels, elements, nodes and counters are in
-- range. These records are shown from the plan's tests and put together as its geometry.
use Rattle.std.proofs.Common.{◌≡◌, ℕ, suc, ◌+◌, ◌<◌, ◌≤◌}
use Rattle.queues.specs.Machine.{On, Tree}

-- P ranks, E elements, N levels
pub record Sized (P E N : ℕ) (T : Tree) : Type 0 where
  pub deep : (p : ℕ) → T.own_level p ≤ N
  pub rank : (p i : ℕ) → On (T.own_level p) i → On P p
  pub none : (p : ℕ) → (On P p → ⊥) → T.own_level p ≡ 0
  pub some : (p : ℕ) → On P p → 1 ≤ T.own_level p
  pub root : (p : ℕ) → On (T.own_level p) 1 → T.element p 1 ≡ 1
  pub element : (p i : ℕ) → On (T.own_level p) i → On E (T.element p i)
  pub node : (p i : ℕ) → On (T.own_level p) i → On (P + E) (T.node p i)
  pub home : (p : ℕ) → On P p → T.node p (T.own_level p) ≡ p
  pub between : (p i : ℕ) → On (T.own_level p) i → i < T.own_level p → T.node p i ≡ P + T.element p (suc i)

-- and of the counters: how many, the counter of each rank, and the home of each
pub record Counted (P count : ℕ) (mine place : ℕ → ℕ) : Type 0 where
  pub own : (p : ℕ) → On P p → mine p < count
  pub home : (k : ℕ) → k < count → On P (place k)
  pub apart : (k j : ℕ) → place k ≡ place j → k ≡ j
