-- A word stored in a window leaves the bytes of every other word, and so what they spell.
use Rattle.std.proofs.Common.{◌≡◌, ℕ, ◌+◌, ◌-◌, ◌*◌, ◌<◌, ◌≤◌, List, get_or, take, drop, sym, ap, ◌∙◌, subst, ⊎_elim, arith}
use Rattle.std.proofs.lemmas.List.{get_or-take, get_or-drop}
use Rattle.std.proofs.lemmas.Bool.{cases_lt}
use Rattle.memory.specs.Layout.{be_word}

-- the bytes before k are as they were
byte_before : (xs ys : List ℕ) (k : ℕ) → take k ys ≡ take k xs → (j : ℕ) → j < k → get_or ys j 0 ≡ get_or xs j 0
byte_before xs ys k e j h =
    sym (get_or-take k ys j 0 h) ∙ ap (λ (l : List ℕ). get_or l j 0) e ∙ get_or-take k xs j 0 h

-- and so are those from k on
byte_behind : (xs ys : List ℕ) (k : ℕ) → drop k ys ≡ drop k xs → (j : ℕ) → k ≤ j → get_or ys j 0 ≡ get_or xs j 0
byte_behind xs ys k e j h =
    subst (λ (i : ℕ). get_or ys i 0 ≡ get_or xs i 0) (whole k j h)
    (sym (get_or-drop k ys (j - k) 0) ∙ ap (λ (l : List ℕ). get_or l (j - k) 0) e ∙ get_or-drop k xs (j - k) 0)
  where
    whole : (a b : ℕ) → a ≤ b → a + (b - a) ≡ b
    whole a b h = omega arith

-- eight bytes that are as they were spell what they spelt
same_word : (xs ys : List ℕ) (j : ℕ) → ((i : ℕ) → j ≤ i → i < j + 8 → get_or ys i 0 ≡ get_or xs i 0)
    → be_word ys j ≡ be_word xs j
same_word xs ys j f =
    omega (
      arith,
      f j (omega arith) (omega arith),
      f (j + 1) (omega arith) (omega arith),
      f (j + 2) (omega arith) (omega arith),
      f (j + 3) (omega arith) (omega arith),
      f (j + 4) (omega arith) (omega arith),
      f (j + 5) (omega arith) (omega arith),
      f (j + 6) (omega arith) (omega arith),
      f (j + 7) (omega arith) (omega arith),
    )

pub other_word : (xs ys : List ℕ) (p : ℕ) → take (8 * p) ys ≡ take (8 * p) xs → drop (8 * p + 8) ys ≡ drop (8 * p + 8) xs
    → (i : ℕ) → (i ≡ p → ⊥) → be_word ys (8 * i) ≡ be_word xs (8 * i)
other_word xs ys p before behind i ne =
    same_word xs ys (8 * i) (λ j a b. ⊎_elim
    (λ (l : i < p). byte_before xs ys (8 * p) before j (omega arith))
    (λ (l : p ≤ i). byte_behind xs ys (8 * p + 8) behind j (omega arith)) (cases_lt i p))
