-- The table of places as a function on the abstract machine: each row changes one word and the place of one rank, and
-- the rows of a queue drive its history: W3 adds a turn, U3, U9 and a U10 that succeeds let the head go.
-- Below it, how a place is seen by the queues, and the first part of the invariant.
use Rattle.std.specs.Prelude.{◌≡◌, ℕ, suc, pred, ◌+◌, ◌-◌, ◌≤◌, cond, ◌⊎◌, ◌==◌, nat_le, nat_lt}
use Rattle.places.specs.Words.{most_hand_overs, mode_change, to_parent}
pub use Rattle.places.specs.Words.{wait as WAIT}
use Rattle.queues.specs.Machine.{Tree, On, Phase, out, fresh, clean, ready, link, wait, hold, give, State, Inv}
use Rattle.queues.specs.Counters.{write_bit}
pub use Rattle.places.specs.declared.place.Place.{Place}
pub use Rattle.places.specs.declared.place.Place.TheVariants.{Idle, W1, W2, W3, W4, W5, W6, W7, W8, W9, U1}
pub use Rattle.places.specs.declared.place.Place.TheVariants.{U2, U3, U4, U5, U6, U7, U8, U9, U10, R1, R2, R3, R4}
pub use Rattle.places.specs.declared.place.Place.TheVariants.{R5, R6, R7, Writer, Reader}

-- the STATUS by which a holder of level i lets the next one on: take the parent too; at level 1, see to the counters
abbrev pub told_status : ℕ → ℕ
told_status i = cond (i == 1) mode_change to_parent

-- a plan: its tree, the number of counters, how many readers a counter admits, how often a level is handed on by the
-- ranks below one element, and the counter of each rank
pub record Plan : Type 0 where
  pub tree : Tree
  pub counters : ℕ
  pub reader_threshold : ℕ
  pub hand_over_limit : ℕ → ℕ → ℕ
  pub home : ℕ → ℕ

-- the lock: the place of each rank; the words NEXT and STATUS by home, TAIL by element, ARRIVE and DEPART by counter;
-- and the history of each queue, which no row reads
pub record Lock : Type 0 where
  pub place : ℕ → Place
  pub nexts : ℕ → ℕ
  pub statuses : ℕ → ℕ
  pub tails : ℕ → ℕ
  pub arrives : ℕ → ℕ
  pub departs : ℕ → ℕ
  pub node_at : ℕ → ℕ → ℕ
  pub head_turn : ℕ → ℕ
  pub next_turn : ℕ → ℕ

-- a function changed at one number
unfoldable pub upd : {A : Type 0} → (ℕ → A) → ℕ → A → ℕ → A
upd f a v b = cond (b == a) v (f b)

-- rank p goes to place f
abbrev pub go : Lock → ℕ → Place → Lock
go s p f =
    record {
      place = upd s.place p f;
      nexts = s.nexts;
      statuses = s.statuses;
      tails = s.tails;
      arrives = s.arrives;
      departs = s.departs;
      node_at = s.node_at;
      head_turn = s.head_turn;
      next_turn = s.next_turn;
    }

-- other STATUS words
abbrev pub with_statuses : Lock → (ℕ → ℕ) → Lock
with_statuses s statuses =
    record {
      place = s.place;
      nexts = s.nexts;
      statuses = statuses;
      tails = s.tails;
      arrives = s.arrives;
      departs = s.departs;
      node_at = s.node_at;
      head_turn = s.head_turn;
      next_turn = s.next_turn;
    }

-- other ARRIVE and DEPART words
abbrev pub with_counts : Lock → (ℕ → ℕ) → (ℕ → ℕ) → Lock
with_counts s arrives departs =
    record {
      place = s.place;
      nexts = s.nexts;
      statuses = s.statuses;
      tails = s.tails;
      arrives = arrives;
      departs = departs;
      node_at = s.node_at;
      head_turn = s.head_turn;
      next_turn = s.next_turn;
    }

-- one word is written
abbrev pub put_next : Lock → ℕ → ℕ → Lock
put_next s h v =
    record {
      place = s.place;
      nexts = upd s.nexts h v;
      statuses = s.statuses;
      tails = s.tails;
      arrives = s.arrives;
      departs = s.departs;
      node_at = s.node_at;
      head_turn = s.head_turn;
      next_turn = s.next_turn;
    }

abbrev pub put_status : Lock → ℕ → ℕ → Lock
put_status s h v = with_statuses s (upd s.statuses h v)

-- node x joins the queue of k at its next turn, and is its tail
abbrev pub join : Lock → ℕ → ℕ → Lock
join s k x =
    record {
      place = s.place;
      nexts = s.nexts;
      statuses = s.statuses;
      tails = upd s.tails k x;
      arrives = s.arrives;
      departs = s.departs;
      node_at = upd s.node_at k (upd (s.node_at k) (s.next_turn k) x);
      head_turn = s.head_turn;
      next_turn = upd s.next_turn k (suc (s.next_turn k));
    }

-- the head of the queue of k goes
abbrev pub drop : Lock → ℕ → Lock
drop s k =
    record {
      place = s.place;
      nexts = s.nexts;
      statuses = s.statuses;
      tails = s.tails;
      arrives = s.arrives;
      departs = s.departs;
      node_at = s.node_at;
      head_turn = upd s.head_turn k (suc (s.head_turn k));
      next_turn = s.next_turn;
    }

-- the head goes and leaves the queue empty
abbrev pub free : Lock → ℕ → Lock
free s k =
    record {
      place = s.place;
      nexts = s.nexts;
      statuses = s.statuses;
      tails = upd s.tails k 0;
      arrives = s.arrives;
      departs = s.departs;
      node_at = s.node_at;
      head_turn = upd s.head_turn k (suc (s.head_turn k));
      next_turn = s.next_turn;
    }

abbrev pub put_arrive : Lock → ℕ → ℕ → Lock
put_arrive s c v = with_counts s (upd s.arrives c v) s.departs

abbrev pub put_depart : Lock → ℕ → ℕ → Lock
put_depart s c v = with_counts s s.arrives (upd s.departs c v)

module _ (L : Plan) (s : Lock) (p : ℕ) where
  -- the rank's node and element at a level, and its counter
  abbrev pub x : ℕ → ℕ
  x i = L.tree.node p i

  abbrev pub k : ℕ → ℕ
  k i = L.tree.element p i

  abbrev pub c : ℕ
  c = L.home p

  -- where a rank goes when it has let a level go: to the next deeper one, and to idle after its own
  abbrev pub done : ℕ → Place
  done i = cond (i == L.tree.own_level p) Idle (U8 (suc i))

  -- the same place at the next counter, or the end after the last
  abbrev pub next : ℕ → Place → (ℕ → Place) → Place
  next n end more = cond (nat_lt (suc n) L.counters) (more (suc n)) end

  -- the row of rank p at the place given; a rank that is idle or in has none
  abbrev pub row : Place → Lock
  row Idle = s
  row (W1 i) = go (put_next s (x i) 0) p (W2 i)
  row (W2 i) = go (put_status s (x i) WAIT) p (W3 i)
  row (W3 i) = go (join s (k i) (x i)) p (cond (s.tails (k i) == 0) (W6 i) (W4 i (s.tails (k i))))
  row (W4 i t) = go (put_next s t (x i)) p (W5 i)
  row (W5 i) = cond (s.statuses (x i) == WAIT) s
      (cond (nat_le (s.statuses (x i)) most_hand_overs) (go s p Writer)
      (cond (s.statuses (x i) == told_status i) (go s p (W6 i)) s))
  row (W6 i) = go (put_status s (x i) 0) p (cond (nat_le 2 i) (W1 (pred i)) (W7 0))
  row (W7 n) = go (put_arrive s n (s.arrives n + write_bit)) p (next n (W8 0) W7)
  row (W8 n) = go s p (W9 n (s.arrives n))
  row (W9 n a) = go s p (cond (a == write_bit + s.departs n) (next n Writer W8) (W8 n))
  row (U1 i) = go s p (U2 i (s.statuses (x i)))
  row (U2 i n) = go s p
      (cond (s.nexts (x i) == 0) (cond (nat_le i 2) U4 (U1 (pred i)))
      (cond (nat_lt n (L.hand_over_limit p i)) (U3 i (s.nexts (x i)) (suc n)) (cond (nat_le i 2) U4 (U1 (pred i)))))
  row (U3 i t n) = go (drop (put_status s t n) (k i)) p (done i)
  row U4 = go s p (U5 (s.statuses (x 1)))
  row (U5 n) = go s p
      (cond (s.nexts (x 1) == 0) (U6 0)
      (cond (nat_lt n (L.hand_over_limit p 1)) (U3 1 (s.nexts (x 1)) (suc n)) (U6 0)))
  row (U6 n) = go (put_depart s n 0) p (U7 n (s.departs n))
  row (U7 n a) = go (put_arrive s n (s.arrives n - (write_bit + a))) p (next n (U8 1) U6)
  row (U8 i) = go s p (cond (s.nexts (x i) == 0) (U10 i) (U9 i (s.nexts (x i))))
  row (U9 i t) = go (drop (put_status s t (told_status i)) (k i)) p (done i)
  row (U10 i) = cond (s.tails (k i) == x i) (go (free s (k i)) p (done i)) (go s p (U8 i))
  row R1 = go (put_arrive s c (suc (s.arrives c))) p (cond (nat_lt (s.arrives c) L.reader_threshold) Reader R2)
  row R2 = go (put_arrive s c (pred (s.arrives c))) p R3
  row R3 = go s p (cond (nat_lt (s.arrives c) L.reader_threshold) R1 (cond (nat_le write_bit (s.arrives c)) R3 R4))
  row R4 = go s p (cond (s.tails (k 1) == 0) R5 R3)
  row R5 = go (put_depart s c 0) p (R6 (s.departs c))
  row (R6 n) = go (put_arrive s c (s.arrives c - n)) p R3
  row R7 = go (put_depart s c (suc (s.departs c))) p Idle
  row Writer = s
  row Reader = s

-- the phase of a place. At W5 it is told by w, the STATUS of the rank's node: WAIT means that it waits, a count that
-- the
-- whole machine has been handed to it, and anything else that it holds this level
abbrev pub phase_of : Place → ℕ → Phase
phase_of Idle w = out
phase_of (W1 i) w = fresh i
phase_of (W2 i) w = clean i
phase_of (W3 i) w = ready i
phase_of (W4 i t) w = link i t
phase_of (W5 i) w = cond (w == WAIT) (wait i) (cond (nat_le w most_hand_overs) (hold 1) (hold i))
phase_of (W6 i) w = hold i
phase_of (W7 n) w = hold 1
phase_of (W8 n) w = hold 1
phase_of (W9 n a) w = hold 1
phase_of (U1 i) w = hold 1
phase_of (U2 i n) w = hold 1
phase_of (U3 i t n) w = give 1 i t
phase_of U4 w = hold 1
phase_of (U5 n) w = hold 1
phase_of (U6 n) w = hold 1
phase_of (U7 n a) w = hold 1
phase_of (U8 i) w = hold i
phase_of (U9 i t) w = give i i t
phase_of (U10 i) w = hold i
phase_of R1 w = out
phase_of R2 w = out
phase_of R3 w = out
phase_of R4 w = out
phase_of R5 w = out
phase_of (R6 n) w = out
phase_of R7 w = out
phase_of Writer w = hold 1
phase_of Reader w = out

-- the level of the node whose STATUS tells the phase: that of W5; 0, for no node, elsewhere
abbrev pub status_level : Place → ℕ
status_level Idle = 0
status_level (W1 i) = 0
status_level (W2 i) = 0
status_level (W3 i) = 0
status_level (W4 i t) = 0
status_level (W5 i) = i
status_level (W6 i) = 0
status_level (W7 n) = 0
status_level (W8 n) = 0
status_level (W9 n a) = 0
status_level (U1 i) = 0
status_level (U2 i n) = 0
status_level (U3 i t n) = 0
status_level U4 = 0
status_level (U5 n) = 0
status_level (U6 n) = 0
status_level (U7 n a) = 0
status_level (U8 i) = 0
status_level (U9 i t) = 0
status_level (U10 i) = 0
status_level R1 = 0
status_level R2 = 0
status_level R3 = 0
status_level R4 = 0
status_level R5 = 0
status_level (R6 n) = 0
status_level R7 = 0
status_level Writer = 0
status_level Reader = 0

abbrev pub phase : Tree → Lock → ℕ → Phase
phase T s p = phase_of (s.place p) (s.statuses (T.node p (status_level (s.place p))))

-- the lock as the queues see it
abbrev pub view : Tree → Lock → State
view T s =
    record {
      phases = phase T s;
      nexts = s.nexts;
      tails = s.tails;
      node_at = s.node_at;
      head_turn = s.head_turn;
      next_turn = s.next_turn;
    }

-- the rank's own statuses from a level down are counts
abbrev pub Counts : Plan → (ℕ → ℕ) → ℕ → ℕ → Type 0
Counts L statuses p from =
    (j : ℕ) → from ≤ j → j ≤ L.tree.own_level p → statuses (L.tree.node p j) ≤ most_hand_overs

-- what is true of the STATUS words of a rank at its place, and of its fields: below the level where it waits, and
-- everywhere once it holds the whole machine, they are counts; while it waits its STATUS is WAIT; at W5 it may have
-- been told; the count that U3 is about to write is a count
abbrev pub Sound : Plan → (ℕ → ℕ) → ℕ → Place → Type 0
Sound L statuses p Idle = Unit {0}
Sound L statuses p (W1 i) = Counts L statuses p (suc i)
Sound L statuses p (W2 i) = Counts L statuses p (suc i)
Sound L statuses p (W3 i) = (statuses (L.tree.node p i) ≡ WAIT) × Counts L statuses p (suc i)
Sound L statuses p (W4 i t) = (statuses (L.tree.node p i) ≡ WAIT) × Counts L statuses p (suc i)
Sound L statuses p (W5 i) = On (L.tree.own_level p) i × Counts L statuses p (suc i)
    × ((statuses (L.tree.node p i) ≡ WAIT)
    ⊎ ((statuses (L.tree.node p i) ≡ told_status i) ⊎ Counts L statuses p 1))
Sound L statuses p (W6 i) = Counts L statuses p (suc i)
Sound L statuses p (W7 n) = Counts L statuses p 1
Sound L statuses p (W8 n) = Counts L statuses p 1
Sound L statuses p (W9 n a) = Counts L statuses p 1
Sound L statuses p (U1 i) = (2 ≤ i) × (i ≤ L.tree.own_level p) × Counts L statuses p 1
Sound L statuses p (U2 i n) = (2 ≤ i) × (i ≤ L.tree.own_level p) × Counts L statuses p 1
Sound L statuses p (U3 i t n) = (n ≤ most_hand_overs) × Counts L statuses p 1
Sound L statuses p U4 = Counts L statuses p 1
Sound L statuses p (U5 n) = Counts L statuses p 1
Sound L statuses p (U6 n) = Counts L statuses p 1
Sound L statuses p (U7 n a) = Counts L statuses p 1
Sound L statuses p (U8 i) = Unit {0}
Sound L statuses p (U9 i t) = Unit {0}
Sound L statuses p (U10 i) = Unit {0}
Sound L statuses p R1 = Unit {0}
Sound L statuses p R2 = Unit {0}
Sound L statuses p R3 = Unit {0}
Sound L statuses p R4 = Unit {0}
Sound L statuses p R5 = Unit {0}
Sound L statuses p (R6 n) = Unit {0}
Sound L statuses p R7 = Unit {0}
Sound L statuses p Writer = Counts L statuses p 1
Sound L statuses p Reader = Unit {0}

-- the queues hold, and every place tells the truth
pub record Fine (L : Plan) (s : Lock) : Type 0 where
  pub queues : Inv L.tree (view L.tree s)
  pub sound : (p : ℕ) → Sound L s.statuses p (s.place p)
