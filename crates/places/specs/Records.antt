-- Places as records of numbers, and back.
use Rattle.std.specs.Prelude.{◌≡◌, ℕ, ◌-◌, Bool, true, cond, ◌&&◌, List, [], ◌∷◌, length, Some, None, Option, Err, Result, nat_le, nat_lt, ok_or, slice_index_or}
use Rattle.refusal.specs.declared.Refusal.{Refusal}
use Rattle.refusal.specs.declared.Refusal.TheVariants.{Spoiled, TooShort, UnknownRank}
use Rattle.plan.specs.Shapes.{within}
use Rattle.plan.specs.Trees.{Tree, counters, has_rank, homes, own_level}
use Rattle.places.specs.declared.place.Place.{Place}
use Rattle.places.specs.declared.place.Place.TheVariants.{Idle, W1, W2, W3, W4, W5, W6, W7, W8, W9}
use Rattle.places.specs.declared.place.Place.TheVariants.{U1, U2, U3, U4, U5, U6, U7, U8, U9, U10}
use Rattle.places.specs.declared.place.Place.TheVariants.{R1, R2, R3, R4, R5, R6, R7, Writer, Reader}
use Rattle.places.specs.declared.record.Record.{Record}

-- the places by their numbers, 0 to 28, each with the record's fields that it uses
abbrev pub places_of : Record → List (Option Place)
places_of r =
    Some Idle
    ∷ Some (W1 r.level) ∷ Some (W2 r.level) ∷ Some (W3 r.level)
    ∷ Some (W4 r.level r.home) ∷ Some (W5 r.level) ∷ Some (W6 r.level)
    ∷ Some (W7 r.counter) ∷ Some (W8 r.counter) ∷ Some (W9 r.counter r.number)
    ∷ Some (U1 r.level) ∷ Some (U2 r.level r.number) ∷ Some (U3 r.level r.home r.number)
    ∷ Some U4 ∷ Some (U5 r.number)
    ∷ Some (U6 r.counter) ∷ Some (U7 r.counter r.number)
    ∷ Some (U8 r.level) ∷ Some (U9 r.level r.home) ∷ Some (U10 r.level)
    ∷ Some R1 ∷ Some R2 ∷ Some R3 ∷ Some R4 ∷ Some R5 ∷ Some (R6 r.number) ∷ Some R7
    ∷ Some Writer ∷ Some Reader
    ∷ []

-- the place that a record names, whatever its fields hold
abbrev pub named : Record → Option Place
named r = slice_index_or (places_of r) r.place None

-- a level on the way of rank p, one above level 1, a home of the lock, one of its counters
abbrev pub level_fits : Tree → ℕ → ℕ → Bool
level_fits t p i = within 1 (own_level t p) i

abbrev pub lower_level_fits : Tree → ℕ → ℕ → Bool
lower_level_fits t p i = within 2 (own_level t p) i

abbrev pub home_fits : Tree → ℕ → Bool
home_fits t h = within 1 (homes t) h

abbrev pub counter_fits : Tree → ℕ → Bool
counter_fits t k = nat_lt k (counters t)

-- each field that a place uses is in range
abbrev pub fits : Tree → ℕ → Place → Bool
fits t p Idle = true
fits t p (W1 i) = level_fits t p i
fits t p (W2 i) = level_fits t p i
fits t p (W3 i) = level_fits t p i
fits t p (W4 i h) = level_fits t p i && home_fits t h
fits t p (W5 i) = level_fits t p i
fits t p (W6 i) = level_fits t p i
fits t p (W7 k) = counter_fits t k
fits t p (W8 k) = counter_fits t k
fits t p (W9 k n) = counter_fits t k
fits t p (U1 i) = lower_level_fits t p i
fits t p (U2 i n) = lower_level_fits t p i
fits t p (U3 i h n) = level_fits t p i && home_fits t h
fits t p U4 = true
fits t p (U5 n) = true
fits t p (U6 k) = counter_fits t k
fits t p (U7 k n) = counter_fits t k
fits t p (U8 i) = level_fits t p i
fits t p (U9 i h) = level_fits t p i && home_fits t h
fits t p (U10 i) = level_fits t p i
fits t p R1 = true
fits t p R2 = true
fits t p R3 = true
fits t p R4 = true
fits t p R5 = true
fits t p (R6 n) = true
fits t p R7 = true
fits t p Writer = true
fits t p Reader = true

-- a place if its fields are in range
abbrev pub checked : Tree → ℕ → Option Place → Option Place
checked t p None = None
checked t p (Some q) = cond (fits t p q) (Some q) None

-- what the record of rank p says, or nothing if it is spoiled
abbrev pub parsed : Tree → ℕ → Record → Option Place
parsed t p r = checked t p (named r)

-- a place as a record, with 0 in the fields that it does not use
abbrev pub row : ℕ → ℕ → ℕ → ℕ → ℕ → Record
row q i h n k = record { place = q; level = i; home = h; number = n; counter = k }

abbrev pub recorded : Place → Record
recorded Idle = row 0 0 0 0 0
recorded (W1 i) = row 1 i 0 0 0
recorded (W2 i) = row 2 i 0 0 0
recorded (W3 i) = row 3 i 0 0 0
recorded (W4 i h) = row 4 i h 0 0
recorded (W5 i) = row 5 i 0 0 0
recorded (W6 i) = row 6 i 0 0 0
recorded (W7 k) = row 7 0 0 0 k
recorded (W8 k) = row 8 0 0 0 k
recorded (W9 k n) = row 9 0 0 n k
recorded (U1 i) = row 10 i 0 0 0
recorded (U2 i n) = row 11 i 0 n 0
recorded (U3 i h n) = row 12 i h n 0
recorded U4 = row 13 0 0 0 0
recorded (U5 n) = row 14 0 0 n 0
recorded (U6 k) = row 15 0 0 0 k
recorded (U7 k n) = row 16 0 0 n k
recorded (U8 i) = row 17 i 0 0 0
recorded (U9 i h) = row 18 i h 0 0
recorded (U10 i) = row 19 i 0 0 0
recorded R1 = row 20 0 0 0 0
recorded R2 = row 21 0 0 0 0
recorded R3 = row 22 0 0 0 0
recorded R4 = row 23 0 0 0 0
recorded R5 = row 24 0 0 0 0
recorded (R6 n) = row 25 0 0 n 0
recorded R7 = row 26 0 0 0 0
recorded Writer = row 27 0 0 0 0
recorded Reader = row 28 0 0 0 0

-- a place that is written as a record is read back as the same place, if its fields are in range
abbrev pub ReadsBack : Tree → ℕ → Place → Type 0
ReadsBack t p q = parsed t p (recorded q) ≡ checked t p (Some q)

-- the place at which rank p stands by its record, or the refusal: too few records, no such rank, a spoiled record
abbrev pub place_at : Tree → List Record → ℕ → Result Place Refusal
place_at t rs p =
    cond (nat_le t.shape.ranks (length rs))
    (cond (has_rank t p) (ok_or (parsed t p (slice_index_or rs (p - 1) (recorded Idle))) Spoiled) (Err UnknownRank))
    (Err TooShort)
