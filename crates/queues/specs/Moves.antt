-- Lists of steps and leaves on the abstract machine, when each is accepted, a lock at rest, and what is claimed: from
-- every lock of a job some such list leads to rest.
use Rattle.std.specs.Prelude.{◌≡◌, ℕ, ◌<◌, ◌≤◌, cond, ◌⊎◌, List, [], ◌∷◌, nat_le}
use Rattle.places.specs.Words.{most_hand_overs}
use Rattle.queues.specs.Machine.{Tree, On}
use Rattle.queues.specs.Counters.{write_bit}
use Rattle.queues.specs.Table.{Place, Idle, W1, W2, W3, W4, W5, W6, W7, W8, W9, U1, U2, U3, U4, U5, U6, U7, U8, U9}
use Rattle.queues.specs.Table.{U10, R1, R2, R3, R4, R5, R6, R7, Writer, Reader, WAIT, told_status, Plan, Lock, go}
use Rattle.queues.specs.Table.{row}
use Rattle.places.specs.Records.{recorded}
use Rattle.queues.specs.Jobs.{Sensible, Jobs}

-- the number by which a record names its place
abbrev pub tag : Place → ℕ
tag f = (recorded f).place

-- the calls of a way back
pub data Move : Type 0 where
  Step : ℕ → Move
  Leave : ℕ → Move

-- t is the home of a node
pub record Node (T : Tree) (t : ℕ) : Type 0 where
  pub rank : ℕ
  pub level : ℕ
  pub on : On (T.own_level rank) level
  pub is : t ≡ T.node rank level

-- a step of rank p at a place is accepted: it is neither idle nor in, its fields are in range, and W5 reads a status
-- that it knows
abbrev pub Accepts : Plan → Lock → ℕ → Place → Type 0
Accepts L s p Idle = ⊥
Accepts L s p (W1 i) = On (L.tree.own_level p) i
Accepts L s p (W2 i) = On (L.tree.own_level p) i
Accepts L s p (W3 i) = On (L.tree.own_level p) i
Accepts L s p (W4 i t) = On (L.tree.own_level p) i × Node L.tree t
Accepts L s p (W5 i) = On (L.tree.own_level p) i
    × ((s.statuses (L.tree.node p i) ≡ WAIT)
    ⊎ ((s.statuses (L.tree.node p i) ≡ told_status i) ⊎ (s.statuses (L.tree.node p i) ≤ most_hand_overs)))
Accepts L s p (W6 i) = On (L.tree.own_level p) i
Accepts L s p (W7 k) = k < L.counters
Accepts L s p (W8 k) = k < L.counters
Accepts L s p (W9 k n) = k < L.counters
Accepts L s p (U1 i) = (2 ≤ i) × (i ≤ L.tree.own_level p)
Accepts L s p (U2 i n) = (2 ≤ i) × (i ≤ L.tree.own_level p)
Accepts L s p (U3 i t n) = On (L.tree.own_level p) i × Node L.tree t
Accepts L s p U4 = Unit {0}
Accepts L s p (U5 n) = Unit {0}
Accepts L s p (U6 k) = k < L.counters
Accepts L s p (U7 k n) = k < L.counters
Accepts L s p (U8 i) = On (L.tree.own_level p) i
Accepts L s p (U9 i t) = On (L.tree.own_level p) i × Node L.tree t
Accepts L s p (U10 i) = On (L.tree.own_level p) i
Accepts L s p R1 = Unit {0}
Accepts L s p R2 = Unit {0}
Accepts L s p R3 = Unit {0}
Accepts L s p R4 = Unit {0}
Accepts L s p R5 = Unit {0}
Accepts L s p (R6 n) = Unit {0}
Accepts L s p R7 = Unit {0}
Accepts L s p Writer = ⊥
Accepts L s p Reader = ⊥

-- a leave is accepted: the rank is in
abbrev pub In : Place → Type 0
In f = 27 ≤ tag f

-- where a leave goes: a writer to its first hand-over test, a reader to be counted out
abbrev pub exit : Plan → ℕ → Place → Place
exit L p Idle = Idle
exit L p (W1 i) = W1 i
exit L p (W2 i) = W2 i
exit L p (W3 i) = W3 i
exit L p (W4 i t) = W4 i t
exit L p (W5 i) = W5 i
exit L p (W6 i) = W6 i
exit L p (W7 k) = W7 k
exit L p (W8 k) = W8 k
exit L p (W9 k n) = W9 k n
exit L p (U1 i) = U1 i
exit L p (U2 i n) = U2 i n
exit L p (U3 i t n) = U3 i t n
exit L p U4 = U4
exit L p (U5 n) = U5 n
exit L p (U6 k) = U6 k
exit L p (U7 k n) = U7 k n
exit L p (U8 i) = U8 i
exit L p (U9 i t) = U9 i t
exit L p (U10 i) = U10 i
exit L p R1 = R1
exit L p R2 = R2
exit L p R3 = R3
exit L p R4 = R4
exit L p R5 = R5
exit L p (R6 n) = R6 n
exit L p R7 = R7
exit L p Writer = cond (nat_le (L.tree.own_level p) 1) U4 (U1 (L.tree.own_level p))
exit L p Reader = R7

-- the lock after a move
abbrev pub act : Plan → Lock → Move → Lock
act L s (Step p) = row L s p (s.place p)
act L s (Leave p) = go s p (exit L p (s.place p))

-- a move that is accepted
abbrev pub Accepted : ℕ → Plan → Lock → Move → Type 0
Accepted P L s (Step p) = On P p × Accepts L s p (s.place p)
Accepted P L s (Leave p) = On P p × In (s.place p)

-- the moves of a list, in order
unfoldable pub play : Plan → Lock → List Move → Lock
play L s [] = s
play L s (m ∷ ms) = play L (act L s m) ms

-- each of them is accepted in its turn
unfoldable pub Plays : ℕ → Plan → Lock → List Move → Type 0
Plays P L s [] = Unit {0}
Plays P L s (m ∷ ms) = Accepted P L s m × Plays P L (act L s m) ms

-- every rank is idle, every queue has no tail, and of each counter as many went as came
pub record AtRest (P : ℕ) (L : Plan) (s : Lock) : Type 0 where
  pub idles : (p : ℕ) → On P p → s.place p ≡ Idle
  pub tails : (k : ℕ) → s.tails k ≡ 0
  pub counts : (c : ℕ) → c < L.counters → s.arrives c ≡ s.departs c

-- what a lawful plan says besides: every rank has a level, and the reader threshold is above 0 and below the write bit
pub record Apt (P : ℕ) (L : Plan) : Type 0 where
  pub sensible : Sensible P L
  pub all : (p : ℕ) → On P p → On (L.tree.own_level p) 1
  pub some : 1 ≤ L.reader_threshold
  pub less : L.reader_threshold < write_bit

-- from every lock of a job some list of accepted steps and leaves leads to rest
abbrev pub WayBack : Type 0
WayBack = (P : ℕ) (L : Plan) → Apt P L → (s : Lock) → Jobs P L s
    → (ms : List Move) × Plays P L s ms × AtRest P L (play L s ms)
