-- Texts by number, one more of them.
use Rattle.std.proofs.Common.{◌≡◌, ℕ, ◌+◌, ◌-◌, ◌≤◌, List, ◌++◌, add-one, arith, ap, ◌∙◌}
use Rattle.listing.specs.Lines.{texts}

texts_next : (f : ℕ → List ℕ) (a n : ℕ) → texts f a (n + 1) ≡ texts f a n ++ f (a + n)
texts_next f a n = rw add-one

-- those of the numbers a to k - 1, and then that of k
pub texts_more : (f : ℕ → List ℕ) (a k : ℕ) → a ≤ k → texts f a (k + 1 - a) ≡ texts f a (k - a) ++ f k
texts_more f a k h =
    let one : k + 1 - a ≡ (k - a) + 1 = omega arith in
    let last : a + (k - a) ≡ k = omega arith in
    ap (texts f a) one ∙ texts_next f a (k - a) ∙ ap (λ n. texts f a (k - a) ++ f n) last
