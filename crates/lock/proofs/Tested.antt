-- What a call leaves where the place of its rank is found, and where it is refused.
use Rattle.std.proofs.Common.{◌≡◌, ℕ, true, List, Ok, Err, refl, arith}
use Rattle.refusal.specs.declared.Refusal.{Refusal}
use Rattle.memory.specs.Words.{Words}
use Rattle.plan.specs.Trees.{Tree}
use Rattle.places.proofs.PlaceAt.{refused_at, stands_at}
use Rattle.places.specs.Records.{place_at}
use Rattle.places.specs.declared.place.Place.{Place}
use Rattle.places.specs.declared.record.Record.{Record}
use Rattle.lock.specs.Outcomes.{refused, roomy}
use Rattle.lock.specs.Steps.{stepped, stepped_from}
use Rattle.lock.specs.Turns.{Turn, turn_from, turn_of, unchanged}

pub turn_refused : (t : Tree) (rs : List Record) (p : ℕ) (f : Place → Turn) (e : Refusal) → place_at t rs p ≡ Err e
    → turn_of t rs p f ≡ unchanged rs e
turn_refused t rs p f e h = refused_at t rs p (turn_from rs f) (unchanged rs) e refl h

pub turn_taken : (t : Tree) (rs : List Record) (p : ℕ) (f : Place → Turn) (q : Place) → place_at t rs p ≡ Ok q
    → turn_of t rs p f ≡ f q
turn_taken t rs p f q h = stands_at t rs p (turn_from rs f) (unchanged rs) q h

pub step_refused : (t : Tree) (ws : Words) (rs : List Record) (p : ℕ) (e : Refusal) → roomy t ws rs ≡ true
    → place_at t rs p ≡ Err e → stepped t ws rs p ≡ refused ws rs e
step_refused t ws rs p e room h =
    let r = refused_at t rs p (stepped_from t ws rs p) (refused ws rs) e refl h in
    grind arith
