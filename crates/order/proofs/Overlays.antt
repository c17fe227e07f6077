-- Bytes laid over a buffer, one part behind the other.
use Rattle.std.proofs.Common.{◌≡◌, ℕ, ◌+◌, ◌*◌, ◌<◌, ◌≤◌, List, [], ◌∷◌, ◌++◌, length, get_or, take, drop, sym, refl, append_assoc, add_assoc, zero-add, arith, length-append}
use Rattle.std.proofs.lemmas.List.{drop-drop, drop_at, take_at, take_more, flat_map_more, length-take-le}
use Rattle.std.specs.List.{flat_map}
use Rattle.order.specs.Bytes.{overlaid, pasted}
use Rattle.order.specs.Writing.{command}

-- a second part right behind the first
pub pasted_more : (out now new bs cs : List ℕ) (a end : ℕ) → a ≤ length out
    → now ≡ pasted out a bs → end ≡ a + length bs → new ≡ pasted now end cs
    → new ≡ pasted out a (bs ++ cs)
pasted_more out now new bs cs a end h was end-is is =
    let p : List ℕ = take a out ++ bs in
    let d : List ℕ = drop (a + length bs) out in
    let n : length p ≡ end = rw (length-append, length-take-le a out h) (sym end-is) in
    rw (is, was, ← append_assoc (take a out) bs d, ← drop-drop (length cs) end (p ++ d), take_at p d end n, drop_at p d end n)
    (simp (append_assoc, length-append, drop-drop {A = ℕ}, ← add_assoc))

-- four parts from the front on
pub four_parts : (out o₁ o₂ o₃ o₄ h e k g : List ℕ) (a b c : ℕ)
    → o₁ ≡ pasted out 0 h
    → a ≡ length h → o₂ ≡ pasted o₁ a e
    → b ≡ a + length e → o₃ ≡ pasted o₂ b k
    → c ≡ b + length k → o₄ ≡ pasted o₃ c g
    → o₄ ≡ overlaid (h ++ (e ++ (k ++ g))) out
four_parts out o₁ o₂ o₃ o₄ h e k g a b c e₁ a-is e₂ b-is e₃ c-is e₄ =
    let two = pasted_more out o₁ o₂ h e 0 a (omega arith) e₁ (omega arith) e₂ in
    let three = pasted_more out o₂ o₃ (h ++ e) k 0 b (omega arith) two (omega (arith, length-append h e)) e₃ in
    let four =
    pasted_more out o₃ o₄ ((h ++ e) ++ k) g 0 c (omega arith) three
    (omega (arith, length-append h e, length-append (h ++ e) k)) e₄
    in
    rw four (simp (append_assoc, zero-add))

-- n commands of three bytes
pub length_commands : (c : ℕ) (xs : List ℕ) → length (flat_map (command c) xs) ≡ 3 * length xs
length_commands c [] = refl
length_commands c (x ∷ xs) =
    let e = length_commands c xs in
    omega arith

-- one command more
pub commands_more : (c j : ℕ) (ops : List ℕ) → j < length ops
    → flat_map (command c) (take j ops) ++ command c (get_or ops j 0) ≡ flat_map (command c) (take (j + 1) ops)
commands_more c j ops h = rw (take_more ops j 0) (flat_map_more (command c) [] (take j ops) (get_or ops j 0))
