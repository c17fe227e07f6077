-- What calls and answers tell is what the places are: a rank is seen inside exactly at the places Writer and Reader,
-- in the role that it asked for, and idle exactly where it is. Each row of the table keeps this, by one look at where
-- it goes and what it answers.
use Rattle.std.proofs.Common.{◌≡◌, ℕ, Bool, true, false, cond, ◌⊎◌, Ok, Err, Result, refl, arith}
use Rattle.std.proofs.lemmas.Bool.Decides.{nat_tests}
use Rattle.refusal.specs.declared.Refusal.{Refusal}
use Rattle.plan.specs.Trees.{Tree}
use Rattle.places.specs.Table.{next_of}
use Rattle.places.specs.declared.follow.Next.{Next}
use Rattle.queues.specs.Table.{Place, Idle, W1, W2, W3, W4, W5, W6, W7, W8, W9, U1, U2, U3, U4, U5, U6, U7, U8, U9}
use Rattle.queues.specs.Table.{U10, R1, R2, R3, R4, R5, R6, R7, Writer, Reader}
use Rattle.law.specs.Presence.{Role, writer, reader, is_entered, is_free}

-- a rank at a place, of a role, inside or not
abbrev pub Link : Place → Role → Bool → Type 0
Link Idle r b = b ≡ false
Link (W1 i) r b = (b ≡ false) × (r ≡ writer)
Link (W2 i) r b = (b ≡ false) × (r ≡ writer)
Link (W3 i) r b = (b ≡ false) × (r ≡ writer)
Link (W4 i y) r b = (b ≡ false) × (r ≡ writer)
Link (W5 i) r b = (b ≡ false) × (r ≡ writer)
Link (W6 i) r b = (b ≡ false) × (r ≡ writer)
Link (W7 k) r b = (b ≡ false) × (r ≡ writer)
Link (W8 k) r b = (b ≡ false) × (r ≡ writer)
Link (W9 k n) r b = (b ≡ false) × (r ≡ writer)
Link (U1 i) r b = b ≡ false
Link (U2 i n) r b = b ≡ false
Link (U3 i y n) r b = b ≡ false
Link U4 r b = b ≡ false
Link (U5 n) r b = b ≡ false
Link (U6 k) r b = b ≡ false
Link (U7 k n) r b = b ≡ false
Link (U8 i) r b = b ≡ false
Link (U9 i y) r b = b ≡ false
Link (U10 i) r b = b ≡ false
Link R1 r b = (b ≡ false) × (r ≡ reader)
Link R2 r b = (b ≡ false) × (r ≡ reader)
Link R3 r b = (b ≡ false) × (r ≡ reader)
Link R4 r b = (b ≡ false) × (r ≡ reader)
Link R5 r b = (b ≡ false) × (r ≡ reader)
Link (R6 n) r b = (b ≡ false) × (r ≡ reader)
Link R7 r b = b ≡ false
Link Writer r b = (b ≡ true) × (r ≡ writer)
Link Reader r b = (b ≡ true) × (r ≡ reader)

-- after a row of the table
abbrev pub Linked : Result Next Refusal → Role → Bool → Type 0
Linked (Err e) r b = Unit {0}
Linked (Ok m) r b = Link m.place r (cond (is_entered m.answer) true b)

-- every row keeps it
pub linked : (t : Tree) (p : ℕ) (r : Role) (b : Bool) (f : Place) (w : ℕ) → Link f r b → Linked (next_of t p f w) r b
linked t p r b f w k = grind (arith, nat_tests)

-- who is inside as a writer is at the writer's place
pub at_writes : (f : Place) (r : Role) (b : Bool) → Link f r b → b ≡ true → r ≡ writer → f ≡ Writer
at_writes f r b k e d = grind arith

-- who is inside is at one of the two places
pub at_inside : (f : Place) (r : Role) (b : Bool) → Link f r b → b ≡ true → (f ≡ Writer) ⊎ (f ≡ Reader)
at_inside f r b k e = grind arith

-- who answers free is idle then, and who is seen idle was not stepped
abbrev pub Rests : Bool → Result Next Refusal → Type 0
Rests n (Err e) = Unit {0}
Rests n (Ok m) = cond (is_free m.answer) true n ≡ true → m.place ≡ Idle

-- every row does
pub rested : (t : Tree) (p : ℕ) (n : Bool) (f : Place) (w : ℕ) → (n ≡ true → f ≡ Idle) → Rests n (next_of t p f w)
rested t p true f w h = rw (h refl) tt
rested t p false f w h = grind (arith, nat_tests)

-- and who becomes idle answers free
abbrev pub Frees : Bool → Result Next Refusal → Type 0
Frees n (Err e) = Unit {0}
Frees n (Ok m) = m.place ≡ Idle → cond (is_free m.answer) true n ≡ true

-- every row does
pub freed : (t : Tree) (p : ℕ) (n : Bool) (f : Place) (w : ℕ) → Frees n (next_of t p f w)
freed t p n f w = grind (arith, nat_tests)
