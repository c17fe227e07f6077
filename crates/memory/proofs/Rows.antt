-- A write to one place of a row changes one word of one home.
use Rattle.std.proofs.Common.{◌≡◌, ℕ, ◌<◌, ◌≤◌, cond, ◌&&◌, eqb, List, length, get_or, set, ap, arith}
use mathlib.Core.Path.{fun_ext}
use Rattle.std.proofs.lemmas.List.{get_or-set_same, get_or-set_other}
use Rattle.std.proofs.lemmas.Bool.Decides.{nat_tests}
use Rattle.memory.specs.Words.{storing}
use Rattle.memory.specs.Layout.{place_of, row_words}

row_word : (n : ℕ) (f g : ℕ → ℕ) (h o w : ℕ) → 0 < h → h ≤ n → o ≤ 4
    → g (place_of h o) ≡ w → ((i : ℕ) → (i ≡ place_of h o → ⊥) → g i ≡ f i)
    → (a b : ℕ) → (row_words n g).word a b ≡ cond (eqb a h && eqb b o) w ((row_words n f).word a b)
row_word n f g h o w p q r same other a b =
    let k = other (place_of a b) in grind (arith, nat_tests, k)

pub row_set : (n : ℕ) (f g : ℕ → ℕ) (h o w : ℕ) → 0 < h → h ≤ n → o ≤ 4
    → g (place_of h o) ≡ w → ((i : ℕ) → (i ≡ place_of h o → ⊥) → g i ≡ f i)
    → row_words n g ≡ storing (row_words n f) h o w
row_set n f g h o w p q r same other =
    ap (λ (x : ℕ → ℕ → ℕ). record { count = n; word = x })
    (fun_ext (λ a. fun_ext (λ b. row_word n f g h o w p q r same other a b)))

-- the same where the row is a list: a write to an element is a change of one word
pub row_list_set : (n : ℕ) (xs : List ℕ) (h o w : ℕ) → 0 < h → h ≤ n → o ≤ 4 → place_of h o < length xs
    → row_words n (λ i. get_or (set xs (place_of h o) w) i 0) ≡ storing (row_words n (λ i. get_or xs i 0)) h o w
row_list_set n xs h o w p q r l =
    row_set n (λ i. get_or xs i 0) (λ i. get_or (set xs (place_of h o) w) i 0) h o w p q r
    (get_or-set_same xs (place_of h o) w 0 l)
    (λ i ne. get_or-set_other xs (place_of h o) i w 0 ne)
