-- A place that is written as a record is read back as the same place, if its fields are in range.
use Rattle.std.proofs.Common.{ℕ, refl}
use Rattle.plan.specs.Trees.{Tree}
use Rattle.places.specs.declared.place.Place.{Place}
use Rattle.places.specs.declared.place.Place.TheVariants.{Idle, W1, W2, W3, W4, W5, W6, W7, W8, W9}
use Rattle.places.specs.declared.place.Place.TheVariants.{U1, U2, U3, U4, U5, U6, U7, U8, U9, U10}
use Rattle.places.specs.declared.place.Place.TheVariants.{R1, R2, R3, R4, R5, R6, R7, Writer, Reader}
use Rattle.places.specs.Records.{ReadsBack}

pub reads_back : (t : Tree) (p : ℕ) (q : Place) → ReadsBack t p q
reads_back t p Idle = refl
reads_back t p (W1 i) = refl
reads_back t p (W2 i) = refl
reads_back t p (W3 i) = refl
reads_back t p (W4 i h) = refl
reads_back t p (W5 i) = refl
reads_back t p (W6 i) = refl
reads_back t p (W7 k) = refl
reads_back t p (W8 k) = refl
reads_back t p (W9 k n) = refl
reads_back t p (U1 i) = refl
reads_back t p (U2 i n) = refl
reads_back t p (U3 i h n) = refl
reads_back t p U4 = refl
reads_back t p (U5 n) = refl
reads_back t p (U6 k) = refl
reads_back t p (U7 k n) = refl
reads_back t p (U8 i) = refl
reads_back t p (U9 i h) = refl
reads_back t p (U10 i) = refl
reads_back t p R1 = refl
reads_back t p R2 = refl
reads_back t p R3 = refl
reads_back t p R4 = refl
reads_back t p R5 = refl
reads_back t p (R6 n) = refl
reads_back t p R7 = refl
reads_back t p Writer = refl
reads_back t p Reader = refl
