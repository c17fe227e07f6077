-- What a rank is doing at each place.
use Rattle.places.specs.declared.place.Place.{Place}
use Rattle.places.specs.declared.place.Place.TheVariants.{Idle, W1, W2, W3, W4, W5, W6, W7, W8, W9}
use Rattle.places.specs.declared.place.Place.TheVariants.{U1, U2, U3, U4, U5, U6, U7, U8, U9, U10}
use Rattle.places.specs.declared.place.Place.TheVariants.{R1, R2, R3, R4, R5, R6, R7, Writer, Reader}
use Rattle.places.specs.declared.place.Standing.{Standing}
use Rattle.places.specs.declared.place.Standing.TheVariants.{Resting, UnderWay, Writing, Reading}

abbrev pub standing_at : Place → Standing
standing_at Idle = Resting
standing_at (W1 i) = UnderWay
standing_at (W2 i) = UnderWay
standing_at (W3 i) = UnderWay
standing_at (W4 i t) = UnderWay
standing_at (W5 i) = UnderWay
standing_at (W6 i) = UnderWay
standing_at (W7 k) = UnderWay
standing_at (W8 k) = UnderWay
standing_at (W9 k n) = UnderWay
standing_at (U1 i) = UnderWay
standing_at (U2 i n) = UnderWay
standing_at (U3 i t n) = UnderWay
standing_at U4 = UnderWay
standing_at (U5 n) = UnderWay
standing_at (U6 k) = UnderWay
standing_at (U7 k n) = UnderWay
standing_at (U8 i) = UnderWay
standing_at (U9 i t) = UnderWay
standing_at (U10 i) = UnderWay
standing_at R1 = UnderWay
standing_at R2 = UnderWay
standing_at R3 = UnderWay
standing_at R4 = UnderWay
standing_at R5 = UnderWay
standing_at (R6 n) = UnderWay
standing_at R7 = UnderWay
standing_at Writer = Writing
standing_at Reader = Reading
