-- The place that a record names is written with the record's own number.
use Rattle.std.proofs.Common.{◌≡◌, ℕ, ◌<◌, ◌≤◌, Some, None, Option, sym, ap, ⊎_elim, zero-add, ◌∙◌}
use Rattle.std.proofs.Math.ListN.{get_or-map}
use Rattle.std.proofs.lemmas.Bool.{cases_lt}
use Rattle.std.proofs.lemmas.List.{get_or_past}
use Rattle.std.proofs.lemmas.List.FromFn.{get_or-range_with_len}
use Rattle.places.specs.Records.{named, places_of, recorded}
use Rattle.places.specs.declared.place.Place.{Place}
use Rattle.places.specs.declared.record.Record.{Record}

-- the number of a place, and the first that is none's
abbrev number : Option Place → ℕ
number None = 29
number (Some q) = (recorded q).place

below : (r : Record) → r.place < 29 → number (named r) ≡ r.place
below r h =
    sym (get_or-map number (places_of r) r.place None)
    ∙ get_or-range_with_len 0 29 r.place 29 h
    ∙ zero-add r.place

pub number_named : (r : Record) (q : Place) → named r ≡ Some q → (recorded q).place ≡ r.place
number_named r q e =
    ⊎_elim (λ (h : r.place < 29). ap number (sym e) ∙ below r h)
    (λ (h : 29 ≤ r.place). absurd (let p = get_or_past (places_of r) r.place None h in cc))
    (cases_lt r.place 29)
