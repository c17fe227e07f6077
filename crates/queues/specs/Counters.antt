-- The counters as an abstract machine, with their invariant. Of a rank it keeps its load, what the rank stands for
-- in a counter, and its gate, how far it has come with the write bits. The invariant is an account: ARRIVE is the
-- write bit, if it stands, and DEPART, and all loads. While a writer keeps a counter empty no reader of it is in.
use Rattle.std.specs.Prelude.{◌≡◌, ℕ, zero, suc, ◌+◌, ◌*◌, ◌<◌, ◌≤◌, cond, ◌≢◌, ◌==◌}
pub use Rattle.places.specs.Words.{write_bit}
use Rattle.queues.specs.Machine.{On}

-- the sum over the ranks 1 to n
unfoldable pub total : ℕ → (ℕ → ℕ) → ℕ
total zero f = 0
total (suc n) f = f (suc n) + total n f

-- what a rank stands for in a counter: nothing; one that was refused and has yet to go (R2); one that is inside; one
-- that has left and has yet to be counted (R7); n departures that a reader takes out of ARRIVE (R6), or a writer (U7)
pub data Load : Type 0 where
  none : Load
  trying : ℕ → Load
  inside : ℕ → Load
  leaving : ℕ → Load
  carrying : ℕ → ℕ → Load
  clearing : ℕ → ℕ → Load

-- n at the counter c, and 0 elsewhere
unfoldable pub pick : ℕ → ℕ → ℕ → ℕ
pick c n d = cond (c == d) n 0

-- the weight of a load at counter d, in three parts: of the refused; of the admitted, those inside, leaving, or taken
-- out of DEPART by a reader; and of what a writer has taken out of DEPART
abbrev pub tries : Load → ℕ → ℕ
tries none d = 0
tries (trying c) d = pick c 1 d
tries (inside c) d = 0
tries (leaving c) d = 0
tries (carrying c n) d = 0
tries (clearing c n) d = 0

abbrev pub admits : Load → ℕ → ℕ
admits none d = 0
admits (trying c) d = 0
admits (inside c) d = pick c 1 d
admits (leaving c) d = pick c 1 d
admits (carrying c n) d = pick c n d
admits (clearing c n) d = 0

abbrev pub clears : Load → ℕ → ℕ
clears none d = 0
clears (trying c) d = 0
clears (inside c) d = 0
clears (leaving c) d = 0
clears (carrying c n) d = 0
clears (clearing c n) d = pick c n d

-- how far a rank has come with the write bits: it has none; it sets that of counter k next (W7); it reads ARRIVE of
-- counter k next (W8); it has read n there (W9); all stand, and nobody is in (inside as writer, U1 to U5, and W5 with
-- a count, where the section has been handed over); it clears that of counter k next (U6, U7)
pub data Gate : Type 0 where
  shut : Gate
  raising : ℕ → Gate
  checking : ℕ → Gate
  reading : ℕ → ℕ → Gate
  wide : Gate
  lowering : ℕ → Gate

-- the rank stands for the write bit of counter c
abbrev pub Marks : Gate → ℕ → Type 0
Marks shut c = ⊥
Marks (raising k) c = c < k
Marks (checking k) c = Unit {0}
Marks (reading k n) c = Unit {0}
Marks wide c = Unit {0}
Marks (lowering k) c = k ≤ c

-- no reader of counter c is in while the rank is there
abbrev pub Keeps : Gate → ℕ → Type 0
Keeps shut c = ⊥
Keeps (raising k) c = ⊥
Keeps (checking k) c = c < k
Keeps (reading k n) c = c < k
Keeps wide c = Unit {0}
Keeps (lowering k) c = ⊥

-- loads and gates of the ranks; ARRIVE, DEPART and the write bit (0 or 1) of the counters
pub record Tally : Type 0 where
  pub load : ℕ → Load
  pub gate : ℕ → Gate
  pub arrives : ℕ → ℕ
  pub departs : ℕ → ℕ
  pub bit : ℕ → ℕ

-- the account of counter c
pub record Count (P limit : ℕ) (s : Tally) (c : ℕ) : Type 0 where
  -- ARRIVE is the write bit, DEPART and all loads
  pub sum : s.arrives c
      ≡ write_bit * s.bit c + s.departs c + total P (λ p. tries (s.load p) c) + total P (λ p. admits (s.load p) c)
      + total P (λ p. clears (s.load p) c)
  -- without the refused it stays within the reader threshold: so no sum wraps
  pub small : s.departs c + total P (λ p. admits (s.load p) c) + total P (λ p. clears (s.load p) c) ≤ limit
  -- the write bit stands once or not at all
  pub bits : s.bit c ≤ 1
  -- and only if a rank stands for it
  pub stands : s.bit c ≡ 1 → (p : ℕ) × Marks (s.gate p) c

-- the invariant of the counters
pub record Counted (P C limit : ℕ) (s : Tally) : Type 0 where
  -- every account is right
  pub each : (c : ℕ) → c < C → Count P limit s c
  -- the bit that a rank stands for is set
  pub marked : (p c : ℕ) → c < C → Marks (s.gate p) c → s.bit c ≡ 1
  -- where a rank keeps a counter empty, no reader of it is in
  pub kept : (p c : ℕ) → c < C → Keeps (s.gate p) c → (q : ℕ) → On P q → s.load q ≢ inside c
  -- what a writer has read at W9 covers everyone who was in then and has not been counted out since
  pub seen : (p k n : ℕ) → s.gate p ≡ reading k n → write_bit + s.departs k + total P (λ p. admits (s.load p) k) ≤ n
