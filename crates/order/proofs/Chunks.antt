-- The bytes from a place on: made one by one, or taken at once.
use Rattle.std.proofs.Common.{◌≡◌, ℕ, zero, suc, ◌+◌, ◌-◌, ◌<◌, ◌≤◌, List, [], ◌∷◌, length, get_or, drop, None, Some, Option, sym, refl, ap, ap₂, ◌∙◌, subst, ⊎_elim, add-zero, zero-add, arith, length-drop, length-take-le, take}
use Rattle.std.proofs.lemmas.List.{drop_all, take_all, get_or-drop, get_or-take}
use Rattle.std.specs.Array.{IsFromFnResult, IsFromFnResultFrom}
use Rattle.std.specs.Fn.{Called}
use Rattle.std.specs.List.{PartBy}
use Rattle.std.specs.Option.{unwrap_or}
use denote.Param.Members.{Mut}
use denote.Ref.{Bor}
use Rattle.order.specs.Bytes.{bytes_from}

-- a list that has the bytes from a place on
listed : (ys bs : List ℕ) (at n : ℕ) → length ys ≡ n → ((k : ℕ) → k < n → get_or ys k 0 ≡ get_or bs (at + k) 0)
    → ys ≡ bytes_from bs at n
listed [] bs at zero l each = refl
listed [] bs at (suc n) l each = absurd (omega arith)
listed (y ∷ ys) bs at zero l each = absurd (omega arith)
listed (y ∷ ys) bs at (suc n) l each =
    let first : y ≡ get_or bs at 0 = rw add-zero at (each 0 (omega arith)) in
    ap₂ (λ x xs. x ∷ xs) first
    (listed ys bs (at + 1) n (omega arith) (λ k h.
    let e : at + suc k ≡ at + 1 + k = omega arith in
    rw e at (each (suc k) (omega arith))))

-- the front of what is left from a place on, where that is long enough
pub bytes_taken : (rest bs : List ℕ) (at n : ℕ) → rest ≡ drop at bs → n ≤ length rest → take n rest ≡ bytes_from bs at n
bytes_taken rest bs at n e h =
    listed (take n rest) bs at n (length-take-le n rest h) (λ k l.
    get_or-take n rest k 0 l ∙ ap (λ xs. get_or xs k 0) e ∙ get_or-drop at bs k 0)

-- what is left of a list from a place on, if anything
pub rest_is : (bs : List ℕ) (at : ℕ) (r : Option (Bor (List ℕ))) (none : Bor (List ℕ)) → none.now ≡ []
    → PartBy (λ (x : Bor (List ℕ)). x.now) bs at (length bs) r
    → (unwrap_or r none).now ≡ drop at bs
rest_is bs at (Some x) none e p = p.0.2 ∙ take_all (length bs - at) (drop at bs) (simp length-drop (omega arith))
rest_is bs at None none e p =
    let past : length bs ≤ at = ⊎_elim (λ (h : length bs < at). omega arith) (λ (h : length bs < length bs). omega arith) p.0 in
    e ∙ sym (drop_all at bs past)

module _ {F : Type 0} (g : Mut F (ℕ × Unit {0}) ℕ) (f : F) (rest : List ℕ)
    (gives : (k y : ℕ) (q : F) → Called g f (k, tt) y q → (y ≡ get_or rest k 0) × (q ≡ f)) where
  made : (ys : List ℕ) (i n k : ℕ) → IsFromFnResultFrom g f ys i n → k < n → get_or ys (i + k) 0 ≡ get_or rest (i + k) 0
  made ys i zero k r h = absurd (omega arith)
  made ys i (suc n) zero r h =
      let e : i + 0 ≡ i = omega arith in
      rw e (r.2.1 0 ∙ (gives i r.1 r.0 r.3).0)
  made ys i (suc n) (suc k) r h =
      let e : i + suc k ≡ i + 1 + k = omega arith in
      rw e (made ys (i + 1) n k (subst (λ (q : F). IsFromFnResultFrom g q ys (i + 1) n) (gives i r.1 r.0 r.3).1 r.4) (omega arith))

  pub bytes_made : (ys bs : List ℕ) (at n : ℕ) → rest ≡ drop at bs → IsFromFnResult g f ys n → ys ≡ bytes_from bs at n
  bytes_made ys bs at n e r =
      listed ys bs at n r.long (λ k h.
      rw zero-add at (made ys 0 n k r.each h) ∙ ap (λ xs. get_or xs k 0) e ∙ get_or-drop at bs k 0)
