-- What a call makes of the place at which a rank stands, or of the refusal in its stead.
use Rattle.std.proofs.Common.{◌≡◌, ℕ, ◌-◌, Bool, true, false, cond, List, length, Some, None, Ok, Err, Option, nat_le, ok_or, slice_index_or}
use Rattle.refusal.specs.declared.Refusal.{Refusal}
use Rattle.refusal.specs.declared.Refusal.TheVariants.{Spoiled, TooShort, UnknownRank}
use Rattle.plan.specs.Trees.{Tree, has_rank}
use Rattle.places.specs.Records.{parsed, place_at, recorded}
use Rattle.places.specs.declared.place.Place.{Place}
use Rattle.places.specs.declared.place.Place.TheVariants.{Idle}
use Rattle.places.specs.declared.record.Record.{Record}

-- the tests in the order of the refusals: f of what the record says, or g of a refusal
abbrev pub tested : {A : Type 0} → Tree → List Record → ℕ → (Option Place → A) → (Refusal → A) → A
tested t rs p f g =
    cond (nat_le t.shape.ranks (length rs))
    (cond (has_rank t p) (f (parsed t p (slice_index_or rs (p - 1) (recorded Idle)))) (g UnknownRank))
    (g TooShort)

pub refused_at : {A : Type 0} (t : Tree) (rs : List Record) (p : ℕ) (f : Option Place → A) (g : Refusal → A) (e : Refusal)
    → f None ≡ g Spoiled → place_at t rs p ≡ Err e → tested t rs p f g ≡ g e
refused_at {A} t rs p f g e spoiled =
    by (nat_le t.shape.ranks (length rs)) (has_rank t p) (parsed t p (slice_index_or rs (p - 1) (recorded Idle)))
  where
    by : (many known : Bool) (o : Option Place)
        → cond many (cond known (ok_or o Spoiled) (Err UnknownRank)) (Err TooShort) ≡ Err e
        → cond many (cond known (f o) (g UnknownRank)) (g TooShort) ≡ g e
    by true true None h = cc
    by true true (Some q) h = cc
    by true false o h = cc
    by false known o h = cc

pub stands_at : {A : Type 0} (t : Tree) (rs : List Record) (p : ℕ) (f : Option Place → A) (g : Refusal → A) (q : Place)
    → place_at t rs p ≡ Ok q → tested t rs p f g ≡ f (Some q)
stands_at {A} t rs p f g q =
    by (nat_le t.shape.ranks (length rs)) (has_rank t p) (parsed t p (slice_index_or rs (p - 1) (recorded Idle)))
  where
    by : (many known : Bool) (o : Option Place)
        → cond many (cond known (ok_or o Spoiled) (Err UnknownRank)) (Err TooShort) ≡ Ok q
        → cond many (cond known (f o) (g UnknownRank)) (g TooShort) ≡ f (Some q)
    by true true None h = cc
    by true true (Some x) h = cc
    by true false o h = cc
    by false known o h = cc
