-- Sums over the ranks: they are equal where their parts are, move by what one rank's part moves, and cover each part.
use Rattle.std.proofs.Common.{◌≡◌, ℕ, zero, suc, ◌+◌, ◌≤◌, ◌≢◌, sym, refl, ap, ◌∙◌, ⊎_elim, arith}
use Rattle.std.proofs.lemmas.Bool.{cases_eq, eq-eqb, ne_eqb}
use Rattle.queues.specs.Machine.{On}
use Rattle.queues.specs.Counters.{total, pick}

-- equal parts, equal sums
pub total_same : (n : ℕ) (f g : ℕ → ℕ) → ((q : ℕ) → 1 ≤ q → q ≤ n → g q ≡ f q) → total n g ≡ total n f
unfolding total
total_same zero f g e = refl
total_same (suc n) f g e =
    omega (arith, total_same n f g (λ q a b. e q a (omega arith)), e (suc n) (omega arith) (omega arith))

-- if one rank's part changes, the sum changes by as much
pub total_swap : (n : ℕ) (f g : ℕ → ℕ) (p : ℕ) → On n p → ((q : ℕ) → q ≢ p → g q ≡ f q)
    → total n g + f p ≡ total n f + g p
unfolding total
total_swap zero f g p on e = absurd (omega arith)
total_swap (suc n) f g p on e = ⊎_elim
    (λ (z : p ≡ suc n).
    let t : total n g ≡ total n f = total_same n f g (λ q a b. e q (omega arith)) in
    let y : f p ≡ f (suc n) = ap f z in let x : g p ≡ g (suc n) = ap g z in omega arith)
    (λ (z : p ≡ suc n → ⊥).
    let t : total n g + f p ≡ total n f + g p = total_swap n f g p (omega arith) e in
    let y : g (suc n) ≡ f (suc n) = e (suc n) (λ w. z (sym w)) in omega arith)
    (cases_eq p (suc n))

-- each part is below the sum
pub total_part : (n : ℕ) (f : ℕ → ℕ) (p : ℕ) → On n p → f p ≤ total n f
unfolding total
total_part zero f p on = absurd (omega arith)
total_part (suc n) f p on = ⊎_elim
    (λ (z : p ≡ suc n). let y : f p ≡ f (suc n) = ap f z in omega arith)
    (λ (z : p ≡ suc n → ⊥). omega (arith, total_part n f p (omega arith)))
    (cases_eq p (suc n))

-- a weight at its own counter
pub pick_same : (c n : ℕ) → pick c n c ≡ n
unfolding pick
pick_same c n = rw (eq-eqb c c refl)

-- and at any other
pub pick_other : (c n d : ℕ) → c ≢ d → pick c n d ≡ 0
unfolding pick
pick_other c n d h = rw (ne_eqb c d h)

-- a sum of nothing
pub total_zero : (n : ℕ) → total n (λ q. 0) ≡ 0
unfolding total
total_zero zero = refl
total_zero (suc n) = omega (arith, total_zero n)

-- a sum of parts that are all 0
pub total_none : (n : ℕ) (f : ℕ → ℕ) → ((q : ℕ) → On n q → f q ≡ 0) → total n f ≡ 0
total_none n f e = total_same n (λ _. 0) f (λ q a b. e q (record { from = a; upto = b })) ∙ total_zero n
