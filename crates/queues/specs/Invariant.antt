-- The invariant of the whole lock: the queues hold as the phases of the places say, the counters are right as their
-- loads and gates say, and the fields are in range.
use Rattle.std.specs.Prelude.{ℕ, ◌<◌, cond, ◌==◌, nat_le}
use Rattle.places.specs.Words.{most_hand_overs}
use Rattle.queues.specs.Machine.{Tree}
use Rattle.queues.specs.Table.{Place, Idle, W1, W2, W3, W4, W5, W6, W7, W8, W9, U1, U2, U3, U4, U5, U6, U7, U8, U9}
use Rattle.queues.specs.Table.{U10, R1, R2, R3, R4, R5, R6, R7, Writer, Reader, WAIT, Plan, Lock, status_level, Fine}
use Rattle.queues.specs.Counters.{Load, none, trying, inside, leaving, carrying, clearing, Gate, shut, raising}
use Rattle.queues.specs.Counters.{checking, reading, wide, lowering, Tally, Counted}

-- how far a rank at a place has come with the write bits; w is the STATUS that W5 reads: a count there means that the
-- section was handed over with all bits set
abbrev pub gate_of : Place → ℕ → Gate
gate_of Idle w = shut
gate_of (W1 i) w = shut
gate_of (W2 i) w = shut
gate_of (W3 i) w = shut
gate_of (W4 i t) w = shut
gate_of (W5 i) w = cond (w == WAIT) shut (cond (nat_le w most_hand_overs) wide shut)
gate_of (W6 i) w = shut
gate_of (W7 k) w = raising k
gate_of (W8 k) w = checking k
gate_of (W9 k n) w = reading k n
gate_of (U1 i) w = wide
gate_of (U2 i n) w = wide
gate_of (U3 i t n) w = wide
gate_of U4 w = wide
gate_of (U5 n) w = wide
gate_of (U6 k) w = lowering k
gate_of (U7 k n) w = lowering k
gate_of (U8 i) w = shut
gate_of (U9 i t) w = shut
gate_of (U10 i) w = shut
gate_of R1 w = shut
gate_of R2 w = shut
gate_of R3 w = shut
gate_of R4 w = shut
gate_of R5 w = shut
gate_of (R6 n) w = shut
gate_of R7 w = shut
gate_of Writer w = wide
gate_of Reader w = shut

-- what a rank at a place stands for in a counter; c is its own counter
abbrev pub load_of : ℕ → Place → Load
load_of c Idle = none
load_of c (W1 i) = none
load_of c (W2 i) = none
load_of c (W3 i) = none
load_of c (W4 i t) = none
load_of c (W5 i) = none
load_of c (W6 i) = none
load_of c (W7 k) = none
load_of c (W8 k) = none
load_of c (W9 k n) = none
load_of c (U1 i) = none
load_of c (U2 i n) = none
load_of c (U3 i t n) = none
load_of c U4 = none
load_of c (U5 n) = none
load_of c (U6 k) = none
load_of c (U7 k n) = clearing k n
load_of c (U8 i) = none
load_of c (U9 i t) = none
load_of c (U10 i) = none
load_of c R1 = none
load_of c R2 = trying c
load_of c R3 = none
load_of c R4 = none
load_of c R5 = none
load_of c (R6 n) = carrying c n
load_of c R7 = leaving c
load_of c Writer = none
load_of c Reader = inside c

-- the counter that a place names is one of the C counters
abbrev pub Within : ℕ → Place → Type 0
Within C Idle = Unit {0}
Within C (W1 i) = Unit {0}
Within C (W2 i) = Unit {0}
Within C (W3 i) = Unit {0}
Within C (W4 i t) = Unit {0}
Within C (W5 i) = Unit {0}
Within C (W6 i) = Unit {0}
Within C (W7 k) = k < C
Within C (W8 k) = k < C
Within C (W9 k n) = k < C
Within C (U1 i) = Unit {0}
Within C (U2 i n) = Unit {0}
Within C (U3 i t n) = Unit {0}
Within C U4 = Unit {0}
Within C (U5 n) = Unit {0}
Within C (U6 k) = k < C
Within C (U7 k n) = k < C
Within C (U8 i) = Unit {0}
Within C (U9 i t) = Unit {0}
Within C (U10 i) = Unit {0}
Within C R1 = Unit {0}
Within C R2 = Unit {0}
Within C R3 = Unit {0}
Within C R4 = Unit {0}
Within C R5 = Unit {0}
Within C (R6 n) = Unit {0}
Within C R7 = Unit {0}
Within C Writer = Unit {0}
Within C Reader = Unit {0}

-- the gate of a rank
abbrev pub gate : Tree → Lock → ℕ → Gate
gate T s p = gate_of (s.place p) (s.statuses (T.node p (status_level (s.place p))))

-- the lock as the counters see it, with the write bits
abbrev pub tally : Plan → Lock → (ℕ → ℕ) → Tally
tally L s bit =
    record {
      load = λ p. load_of (L.home p) (s.place p);
      gate = gate L.tree s;
      arrives = s.arrives;
      departs = s.departs;
      bit = bit;
    }

-- the invariant: what is true at the start and after every call
pub record Safe (P : ℕ) (L : Plan) (s : Lock) (bit : ℕ → ℕ) : Type 0 where
  -- of the queues and the statuses
  pub fine : Fine L s
  -- of the counters
  pub counted : Counted P L.counters L.reader_threshold (tally L s bit)
  -- of the counters that records name
  pub within : (p : ℕ) → Within L.counters (s.place p)
