-- A claim on all numbers, from the claim at one or two of them and at all others: a row changes one rank, one node or
-- one queue, so most of the invariant is shown this way. And what a phase that asks nothing rules out.
use Rattle.std.proofs.Common.{◌≡◌, ℕ, ◌≢◌, sym, subst, ⊎_elim, arith}
use Rattle.std.proofs.lemmas.Bool.Decides.{nat_tests}
use Rattle.std.proofs.lemmas.Bool.{cases_eq}
use Rattle.queues.specs.Machine.{Tree, State, Phase, Calm, Waits, Asks}

-- a claim on every number, from the claim at one and at the others
pub split : (a : ℕ) (C : ℕ → Type 0) → C a → ((b : ℕ) → b ≢ a → C b) → (b : ℕ) → C b
split a C here there b = ⊎_elim (λ (e : b ≡ a). subst C (sym e) here) (λ (n : b ≡ a → ⊥). there b n) (cases_eq b a)

-- the same with two numbers apart
pub split₂ : (a c : ℕ) (C : ℕ → Type 0) → C a → C c → ((b : ℕ) → b ≢ a → b ≢ c → C b) → (b : ℕ) → C b
split₂ a c C at_a at_c there =
    split a C at_a (λ b n. split c (λ b. b ≢ a → C b) (λ _. at_c) (λ b m n. there b n m) b n)

-- a calm phase asks nothing
pub calm_asks : (T : Tree) (s : State) (p : ℕ) (f : Phase) → Calm f → Asks T s p f
calm_asks T s p f c = grind (arith, nat_tests)

-- who is calm does not wait
pub calm_waits : (f : Phase) → Calm f → (i : ℕ) → Waits f i → ⊥
calm_waits f c i w = grind (arith, nat_tests)
