-- A word that is written in a row of cells is one word of one home, and lies before the spare cells.
use Rattle.std.proofs.Common.{◌≡◌, ℕ, ◌+◌, ◌-◌, ◌*◌, ◌/◌, ◌<◌, ◌≤◌, min, List, length, drop, sym, ap, ◌∙◌, subst, arith}
use Rattle.std.proofs.Math.Nat.{mul-le-mul_left, mul-div-le}
use Rattle.std.proofs.lemmas.List.{drop-drop}
use Rattle.memory.specs.Words.{storing}
use Rattle.memory.specs.Layout.{place_of, row_words, homes_in, cell_words, spare}
use Rattle.memory.proofs.Rows.{row_set}

-- the cells of a word in so many homes
before_end : (w p homes : ℕ) → p < 5 * homes → w * (p + 1) ≤ 5 * w * homes
before_end w p homes h = omega (arith, mul-le-mul_left {m = p + 1} {n = 5 * homes} w (omega arith))

pub within : (w n p : ℕ) → p < 5 * min 4096 (n / (5 * w)) → w * (p + 1) ≤ n
within w n p h =
    let homes = min 4096 (n / (5 * w)) in
    let whole : homes ≤ n / (5 * w) = omega arith in
    omega (arith, before_end w p homes h, mul-le-mul_left (5 * w) whole, mul-div-le n (5 * w))

pub cells_set : {C : Type 0} (width : ℕ) (word_at : List C → ℕ → ℕ) (xs ys : List C) (h o p w : ℕ)
    → 0 < h → h ≤ homes_in (5 * width) xs → o ≤ 4 → p ≡ place_of h o → length ys ≡ length xs
    → word_at ys p ≡ w → ((i : ℕ) → (i ≡ p → ⊥) → word_at ys i ≡ word_at xs i)
    → cell_words width word_at ys ≡ storing (cell_words width word_at xs) h o w
cells_set width word_at xs ys h o p w a b d at long here elsewhere =
    ap (λ (n : ℕ). row_words (min 4096 (n / (5 * width))) (λ i. word_at ys i)) long
    ∙ row_set (homes_in (5 * width) xs) (λ i. word_at xs i) (λ i. word_at ys i) h o w a b d
    (subst (λ (k : ℕ). word_at ys k ≡ w) at here) (λ i ne. elsewhere i (λ e. ne (e ∙ at)))

pub cells_spare : {C : Type 0} (width p : ℕ) (xs ys : List C)
    → p < 5 * homes_in (5 * width) xs → length ys ≡ length xs
    → drop (width * (p + 1)) ys ≡ drop (width * (p + 1)) xs
    → spare (5 * width) ys ≡ spare (5 * width) xs
cells_spare {C} width p xs ys h long behind =
    ap (λ (n : ℕ). drop (5 * width * min 4096 (n / (5 * width))) ys) long
    ∙ sym (from ys) ∙ ap (drop (5 * width * homes_in (5 * width) xs - width * (p + 1))) behind ∙ from xs
  where
    whole : (a b : ℕ) → a ≤ b → a + (b - a) ≡ b
    whole a b l = omega arith

    from : (zs : List C)
        → drop (5 * width * homes_in (5 * width) xs - width * (p + 1)) (drop (width * (p + 1)) zs)
        ≡ drop (5 * width * homes_in (5 * width) xs) zs
    from zs = drop-drop _ (width * (p + 1)) zs
        ∙ ap (λ (n : ℕ). drop n zs) (whole (width * (p + 1)) (5 * width * homes_in (5 * width) xs) (before_end width p _ h))
