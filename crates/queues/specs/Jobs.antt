-- The jobs of the abstract machine, and what is claimed of them first: a writer that is in is alone. A job starts with
-- the lock in which nothing has happened, and goes on by any calls that the machine accepts.
use Rattle.std.specs.Prelude.{◌≡◌, ℕ, ◌<◌, ◌≤◌, cond, ◌≢◌, nat_le}
use Rattle.places.specs.Words.{most_hand_overs}
use Rattle.queues.specs.Machine.{Lawful, On}
use Rattle.queues.specs.Counters.{write_bit}
use Rattle.queues.specs.Table.{Idle, W1, U1, U4, R1, R7, Writer, Reader, Plan, Lock, go, row}

-- the lock in which nothing has happened yet
abbrev pub fresh_lock : Lock
fresh_lock =
    record {
      place = λ p. Idle;
      nexts = λ h. 0;
      statuses = λ h. 0;
      tails = λ k. 0;
      arrives = λ c. 0;
      departs = λ c. 0;
      node_at = λ k a. 0;
      head_turn = λ k. 0;
      next_turn = λ k. 0;
    }

-- what a lawful plan says of its tree and its numbers
pub record Sensible (P : ℕ) (L : Plan) : Type 0 where
  -- the laws of its tree
  pub tree : Lawful L.tree
  -- a hand-over limit is a count
  pub small : (p j : ℕ) → L.hand_over_limit p j ≤ most_hand_overs
  -- the reader threshold lies below the write bit
  pub threshold_fits : L.reader_threshold ≤ write_bit
  -- whoever has a level is a rank
  pub ranks : (p : ℕ) → On (L.tree.own_level p) 1 → On P p
  -- all ranks share the element of level 1
  pub root : (p q : ℕ) → On (L.tree.own_level p) 1 → On (L.tree.own_level q) 1
      → L.tree.element p 1 ≡ L.tree.element q 1
  -- every rank has one of the counters
  pub homes : (p : ℕ) → L.home p < L.counters

-- the locks that calls lead to: steps, asks to write and to read by idle ranks, and leaves of ranks that are in
pub data Jobs (P : ℕ) (L : Plan) : Lock → Type 0 where
  start : Jobs P L fresh_lock
  stepped : (s : Lock) (p : ℕ) → On (L.tree.own_level p) 1 → Jobs P L s → Jobs P L (row L s p (s.place p))
  asked_write : (s : Lock) (p : ℕ) → On (L.tree.own_level p) 1 → s.place p ≡ Idle → Jobs P L s
      → Jobs P L (go s p (W1 (L.tree.own_level p)))
  asked_read : (s : Lock) (p : ℕ) → s.place p ≡ Idle → Jobs P L s → Jobs P L (go s p R1)
  left_write : (s : Lock) (p : ℕ) → s.place p ≡ Writer → Jobs P L s
      → Jobs P L (go s p (cond (nat_le (L.tree.own_level p) 1) U4 (U1 (L.tree.own_level p))))
  left_read : (s : Lock) (p : ℕ) → On P p → s.place p ≡ Reader → Jobs P L s → Jobs P L (go s p R7)

-- after every job a rank that is in as writer is the only rank in
abbrev pub Exclusion : Type 0
Exclusion = (P : ℕ) (L : Plan) → Sensible P L → (s : Lock) → Jobs P L s → (p q : ℕ) → On (L.tree.own_level p) 1
    → On (L.tree.own_level q) 1 → s.place p ≡ Writer → (s.place q ≡ Writer → p ≡ q) × (s.place q ≢ Reader)
