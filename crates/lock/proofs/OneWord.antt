-- A step changes at most the one word that touch names, and at most the one record of its rank.
use Rattle.std.proofs.Common.{◌≡◌, ℕ, ◌-◌, ◌≤◌, Bool, true, false, cond, ◌&&◌, leb, ◌≢◌, List, Some, None, Ok, Err, Option, Result, refl, arith}
use Rattle.std.proofs.lemmas.List.{get_or-set_other, length-set}
use Rattle.std.proofs.lemmas.Bool.Decides.{nat_tests}
use Rattle.refusal.specs.declared.Refusal.{Refusal}
use Rattle.refusal.specs.declared.Refusal.TheVariants.{TooShort, UnknownRank}
use Rattle.memory.proofs.Locality.{performed_local}
use Rattle.memory.specs.Words.{Words}
use Rattle.plan.specs.Trees.{Tree, has_rank, homes}
use Rattle.places.specs.Records.{parsed, recorded}
use Rattle.places.specs.Table.{access_of}
use Rattle.places.specs.Touches.{touched_from, touching}
use Rattle.places.specs.declared.access.Access.{Access}
use Rattle.places.specs.declared.follow.Next.{Next}
use Rattle.places.specs.declared.place.Place.{Place}
use Rattle.places.specs.declared.place.Place.TheVariants.{Idle}
use Rattle.places.specs.declared.record.Record.{Record}
use Rattle.places.specs.declared.touch.Touch.{Touch}
use Rattle.lock.specs.Outcomes.{Outcome, enough_records, placed, record_at, refused}
use Rattle.lock.specs.Steps.{row_next, row_words, stepped_from, stepped_to}
use Rattle.lock.specs.Touched.{OneWord, OthersKept, TouchesOnly}

-- no word changes
still : (ws : Words) (r : Result Touch Refusal) → TouchesOnly ws ws r
still ws (Err e) = refl
still ws (Ok a) = λ h o _. refl

-- the word of a row
row_local : (ws : Words) (a : Option Access) → TouchesOnly ws (row_words ws a) (Ok (touching a))
row_local ws None = λ h o _. refl
row_local ws (Some a) = performed_local ws a.home a.offset a.operation

-- a row that is refused, and one that is not
row_touches : (ws : Words) (rs : List Record) (p : ℕ) (a : Option Access) (n : Result Next Refusal)
    → TouchesOnly ws (stepped_to ws (row_words ws a) rs p n).words (Ok (touching a))
row_touches ws rs p a (Err e) = λ h o _. refl
row_touches ws rs p a (Ok n) = row_local ws a

from_touches : (t : Tree) (ws : Words) (rs : List Record) (p : ℕ) (q : Option Place)
    → TouchesOnly ws (stepped_from t ws rs p q).words (touched_from t p q)
from_touches t ws rs p None = refl
from_touches t ws rs p (Some q) = row_touches ws rs p (access_of t p q) (row_next t ws p q (access_of t p q))

-- the tests before the row: a touch is not refused for want of homes, and then nothing changes
tests_touch : (ws : Words) (rs : List Record) (x : Outcome) (y : Result Touch Refusal) (many homed known : Bool)
    → TouchesOnly ws x.words y
    → TouchesOnly ws
    (cond (many && homed) (cond known x (refused ws rs UnknownRank)) (refused ws rs TooShort)).words
    (cond many (cond known y (Err UnknownRank)) (Err TooShort))
tests_touch ws rs x y true true true h = h
tests_touch ws rs x y true true false h = refl
tests_touch ws rs x y true false true h = still ws y
tests_touch ws rs x y true false false h = refl
tests_touch ws rs x y false homed known h = refl

-- the records
same_records : (rs : List Record) (p : ℕ) → OthersKept rs rs p
same_records rs p = record { many = refl; same = λ j _. refl }

placed_kept : (rs : List Record) (p : ℕ) (q : Place) → 1 ≤ p → OthersKept rs (placed rs p q) p
placed_kept rs p q h = record {
  many = length-set rs (p - 1) (recorded q);
  same =
      λ j ne.
      let other : j ≢ p - 1 = λ e. ne (omega arith) in
      get_or-set_other rs (p - 1) j (recorded q) (recorded Idle) other;
}

row_kept : (ws after : Words) (rs : List Record) (p : ℕ) (n : Result Next Refusal) → 1 ≤ p
    → OthersKept rs (stepped_to ws after rs p n).records p
row_kept ws after rs p (Err e) h = same_records rs p
row_kept ws after rs p (Ok n) h = placed_kept rs p n.place h

from_kept : (t : Tree) (ws : Words) (rs : List Record) (p : ℕ) (q : Option Place) → 1 ≤ p
    → OthersKept rs (stepped_from t ws rs p q).records p
from_kept t ws rs p None h = same_records rs p
from_kept t ws rs p (Some q) h =
    row_kept ws (row_words ws (access_of t p q)) rs p (row_next t ws p q (access_of t p q)) h

tests_kept : (ws : Words) (rs : List Record) (p : ℕ) (x : Outcome) (room known : Bool)
    → (known ≡ true → OthersKept rs x.records p)
    → OthersKept rs (cond room (cond known x (refused ws rs UnknownRank)) (refused ws rs TooShort)).records p
tests_kept ws rs p x true true h = h refl
tests_kept ws rs p x true false h = same_records rs p
tests_kept ws rs p x false known h = same_records rs p

from_one : (P p : ℕ) → (leb 1 p && leb p P) ≡ true → 1 ≤ p
from_one P p e = grind (arith, nat_tests)

pub one_word : (t : Tree) (ws : Words) (rs : List Record) (p : ℕ) → OneWord t ws rs p
one_word t ws rs p =
    let q = parsed t p (record_at rs p) in
    record {
      words =
          tests_touch ws rs (stepped_from t ws rs p q) (touched_from t p q) (enough_records t rs)
          (leb (homes t) ws.count) (has_rank t p) (from_touches t ws rs p q);
      records =
          tests_kept ws rs p (stepped_from t ws rs p q) _ (has_rank t p)
          (λ e. from_kept t ws rs p q (from_one t.shape.ranks p e));
    }
