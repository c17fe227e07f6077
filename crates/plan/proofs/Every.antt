-- A test over all numbers below n: what a test of a list's items says, and what it says of each number.
use Rattle.std.proofs.Common.{◌≡◌, ℕ, zero, suc, ◌<◌, ◌≤◌, Bool, true, ◌&&◌, List, length, get_or, take, sym, ◌∙◌, ap, subst, ⊎_elim, add-one, refl, arith}
use Rattle.std.proofs.Math.Bool.{and_comm}
use Rattle.std.proofs.Math.Seq.{take-length}
use Rattle.std.proofs.lemmas.Bool.{and_parts, cases_lt}
use Rattle.std.proofs.lemmas.List.Folds.{list_all_more}
use Rattle.std.proofs.lemmas.List.FromFn.{length-range_with_len, get_or-range_with_len}
use Rattle.std.specs.List.{list_all, range_with_len}
use Rattle.plan.specs.Shapes.{every}

-- a test p of each number below n, where the test q of the item there says the same
every_taken : (p q : ℕ → Bool) (xs : List ℕ) (n : ℕ) → n ≤ length xs
    → ((k : ℕ) → k < n → p k ≡ q (get_or xs k 0)) → list_all q (take n xs) ≡ every p n
every_taken p q xs zero h same = refl
every_taken p q xs (suc n) h same =
    let e : list_all q (take (suc n) xs) ≡ (list_all q (take n xs) && q (get_or xs n 0)) =
    rw (← add-one) (list_all_more q xs n 0 (omega arith)) in
    let rest : list_all q (take n xs) ≡ every p n =
    every_taken p q xs n (omega arith) (λ k l. same k (omega arith)) in
    let last : p n ≡ q (get_or xs n 0) = same n (omega arith) in
    e ∙ and_comm (list_all q (take n xs)) (q (get_or xs n 0)) ∙ cc

pub every_item : (q : ℕ → Bool) (xs : List ℕ) → list_all q xs ≡ every (λ k. q (get_or xs k 0)) (length xs)
every_item q xs =
    ap (list_all q) (sym (take-length xs))
    ∙ every_taken (λ k. q (get_or xs k 0)) q xs (length xs) (omega arith) (λ k l. refl)

pub every_number : (p : ℕ → Bool) (n : ℕ) → list_all p (range_with_len 0 n) ≡ every p n
every_number p n =
    let len : length (range_with_len 0 n) ≡ n = length-range_with_len 0 n in
    ap (list_all p) (sym (take-length (range_with_len 0 n)))
    ∙ rw len (every_taken p p (range_with_len 0 n) n (omega arith)
    (λ k l. ap p (omega (arith, get_or-range_with_len 0 n k 0 l))))

pub every_at : (p : ℕ → Bool) (n k : ℕ) → every p n ≡ true → k < n → p k ≡ true
every_at p zero k e h = absurd (omega arith)
every_at p (suc n) k e h =
    let b = and_parts (p n) (every p n) e in
    ⊎_elim (λ (l : k < n). every_at p n k b.1 l)
    (λ (l : n ≤ k). let m : n ≡ k = omega arith in subst (λ (j : ℕ). p j ≡ true) m b.0)
    (cases_lt k n)
