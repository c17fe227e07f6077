-- The counters of a plan, one for each run of s ranks: each rank has one of them, each has the home of a rank, and no
-- two have the same.
use Rattle.std.proofs.Common.{◌≡◌, ℕ, ◌+◌, ◌-◌, ◌*◌, ◌/◌, ◌<◌, ◌≤◌, ◌⊎◌, inl, inr, ⊎_elim, mul-le-mul_right, mul-le-mul_left, arith}
use Rattle.std.proofs.lemmas.Bool.{cases_lt, cases_order}
use Rattle.queues.specs.Machine.{On}
use Rattle.law.proofs.Numbers.{Counted}

module _ (P s : ℕ) (some : 1 ≤ s) where
  -- the counter of a rank is one of them
  own : (p : ℕ) → On P p → (p - 1) / s < (P + s - 1) / s
  own p o =
      ⊎_elim (λ (l : (p - 1) / s < (P + s - 1) / s). l)
      (λ (l : (P + s - 1) / s ≤ (p - 1) / s). absurd (omega (arith, mul-le-mul_left s l)))
      (cases_lt ((p - 1) / s) ((P + s - 1) / s))

  -- the home of a counter is that of a rank
  home : (k : ℕ) → k < (P + s - 1) / s → On P (k * s + 1)
  home k l = omega (arith, mul-le-mul_left s l)

  -- two counters have two homes
  apart : (k j : ℕ) → k * s + 1 ≡ j * s + 1 → k ≡ j
  apart k j e = by (cases_order k j)
    where
      by : (k ≡ j) ⊎ ((k < j) ⊎ (j < k)) → k ≡ j
      by (inl z) = z
      by (inr (inl l)) = absurd (omega (arith, mul-le-mul_right s l))
      by (inr (inr l)) = absurd (omega (arith, mul-le-mul_right s l))

  -- so the counters are as the rest asks
  pub counted : Counted P ((P + s - 1) / s) (λ p. (p - 1) / s) (λ k. k * s + 1)
  counted = record { own = own; home = home; apart = apart }
