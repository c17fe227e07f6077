-- The rows of the one writer that stands for the write bits: W7 sets one, U7 clears one, W8, W9, U5 and W6 at level 1
-- change none; and a hand-over, by which the successor stands for all of them. All other gates are shut, so the
-- clauses about bits speak of this rank alone.
use Rattle.std.proofs.Common.{◌≡◌, ℕ, ◌+◌, ◌*◌, ◌<◌, ◌≤◌, ◌≢◌, sym, ◌∙◌, subst, arith}
use Rattle.queues.specs.Machine.{On}
use Rattle.queues.specs.Counters.{total, inside, tries, admits, clears, Gate, shut, raising, checking, reading, wide}
use Rattle.queues.specs.Counters.{lowering, Marks, Keeps, Tally, write_bit, Count, Counted}
use Rattle.queues.proofs.Cases.{split, split₂}
use Rattle.queues.proofs.Counters.{Shift, moves, away}

-- the gate is wide
abbrev Wide : Gate → Type 0
Wide shut = ⊥
Wide (raising k) = ⊥
Wide (checking k) = ⊥
Wide (reading k n) = ⊥
Wide wide = Unit {0}
Wide (lowering k) = ⊥

-- what is asked of a row of that writer, at counter k
pub record Flips (P C : ℕ) (s : Tally) (p k : ℕ) (s' : Tally) : Type 0 where
  -- one load and one counter change
  pub shift : Shift s p k s'.load s'.arrives s'.departs
  -- no other bit does
  pub bit_other : (d : ℕ) → d ≢ k → s'.bit d ≡ s.bit d
  -- a bit stands once
  pub bit_small : s'.bit k ≤ 1
  -- ARRIVE changes by the bit, DEPART and the load
  pub flow : s'.arrives k + write_bit * s.bit k + s.departs k + tries (s.load p) k + admits (s.load p) k
      + clears (s.load p) k
      ≡ s.arrives k + write_bit * s'.bit k + s'.departs k + tries (s'.load p) k + admits (s'.load p) k
      + clears (s'.load p) k
  -- what is counted of the admitted does not grow
  pub fall : s'.departs k + admits (s'.load p) k + clears (s'.load p) k
      ≤ s.departs k + admits (s.load p) k + clears (s.load p) k
  -- no other gate changes
  pub gates : (q : ℕ) → q ≢ p → s'.gate q ≡ s.gate q
  -- all others are shut
  pub alone : (q : ℕ) → q ≢ p → s.gate q ≡ shut
  -- the rank stands for set bits only
  pub marks : (c : ℕ) → c < C → Marks (s'.gate p) c → s'.bit c ≡ 1
  -- and for all of them
  pub stands : (c : ℕ) → c < C → s'.bit c ≡ 1 → Marks (s'.gate p) c
  -- where it keeps a counter empty nobody is in
  pub keeps : (c : ℕ) → c < C → Keeps (s'.gate p) c → (q : ℕ) → On P q → s'.load q ≢ inside c
  -- what it has read covers all inside
  pub sees : (j n : ℕ) → s'.gate p ≡ reading j n
      → write_bit + s'.departs j + total P (λ p. admits (s'.load p) j) ≤ n

module _ (P C limit : ℕ) (s : Tally) (v : Counted P C limit s) (p k : ℕ) (on : On P p) (s' : Tally)
    (m : Flips P C s p k s')
  where
    -- all other gates are shut
    shut_o : (q : ℕ) → q ≢ p → s'.gate q ≡ shut
    shut_o q a = m.gates q a ∙ m.alone q a

    -- the account of the counter
    here : k < C → Count P limit s' k
    here l =
        let o = v.each k l in
        let a = moves P s p k on s'.load s'.arrives s'.departs m.shift tries in
        let b = moves P s p k on s'.load s'.arrives s'.departs m.shift admits in
        let x = moves P s p k on s'.load s'.arrives s'.departs m.shift clears in
        record {
          sum = omega (arith, o.sum, m.flow);
          small = omega (arith, o.small, m.fall);
          bits = m.bit_small;
          stands = λ z. (p, m.stands k l z);
        }

    -- the others are as they were
    there : (d : ℕ) → d ≢ k → d < C → Count P limit s' d
    there d ne l =
        let o = v.each d l in
        let w = m.shift.local d ne in
        let a = away P s p k on s'.load s'.arrives s'.departs m.shift tries d w.0 in
        let b = away P s p k on s'.load s'.arrives s'.departs m.shift admits d w.1 in
        let x = away P s p k on s'.load s'.arrives s'.departs m.shift clears d w.2 in
        let y = m.shift.arrive_other d ne in
        let z = m.shift.depart_other d ne in
        let u = m.bit_other d ne in
        record {
          sum = omega (arith, o.sum);
          small = omega (arith, o.small);
          bits = omega (arith, o.bits);
          stands = λ z. (p, m.stands d l z);
        }

    -- so the invariant is kept
    pub flipped : Counted P C limit s'
    flipped =
        record {
          each = split k (λ d. d < C → Count P limit s' d) here there;
          marked = split p
              (λ q. (c : ℕ) → c < C → Marks (s'.gate q) c → s'.bit c ≡ 1)
              m.marks
              (λ q a c l w. absurd (subst (λ g. Marks g c) (shut_o q a) w));
          kept = split p
              (λ q. (c : ℕ) → c < C → Keeps (s'.gate q) c → (r : ℕ) → On P r → s'.load r ≢ inside c)
              m.keeps
              (λ q a c l w. absurd (subst (λ g. Keeps g c) (shut_o q a) w));
          seen = split p
              (λ q.
              (j n : ℕ) → s'.gate q ≡ reading j n
              → write_bit + s'.departs j + total P (λ p. admits (s'.load p) j) ≤ n)
              m.sees
              (λ q a j n e. absurd (subst (λ g. Marks g j) (sym e ∙ shut_o q a) tt));
        }

-- a hand-over: what p stood for, r stands for
pub record Trades (s : Tally) (p r : ℕ) (gate : ℕ → Gate) : Type 0 where
  -- p stood for all bits
  pub was : s.gate p ≡ wide
  -- and nobody else for any
  pub alone : (q : ℕ) → q ≢ p → s.gate q ≡ shut
  -- p stands for none
  pub gives : gate p ≡ shut
  -- r stands for all
  pub takes : gate r ≡ wide
  -- no other gate changes
  pub gates : (q : ℕ) → q ≢ p → q ≢ r → gate q ≡ s.gate q

-- and the invariant is kept
pub traded : (P C limit : ℕ) (s : Tally) → Counted P C limit s → (p r : ℕ) (gate : ℕ → Gate) → Trades s p r gate
    → Counted P C limit (record {
      load = s.load;
      gate = gate;
      arrives = s.arrives;
      departs = s.departs;
      bit = s.bit;
    })
traded P C limit s v p r gate m =
    record {
      each = λ c l.
          let o = v.each c l in
          record {
            sum = o.sum;
            small = o.small;
            bits = o.bits;
            stands = λ z. (r, subst (λ g. Marks g c) (sym m.takes) tt);
          };
      marked = split₂ p r
          (λ q. (c : ℕ) → c < C → Marks (gate q) c → s.bit c ≡ 1)
          (λ c l w. absurd (subst (λ g. Marks g c) m.gives w))
          (λ c l w. v.marked p c l (subst (λ g. Marks g c) (sym m.was) tt))
          (λ q a b c l w. absurd (subst (λ g. Marks g c) (m.gates q a b ∙ m.alone q a) w));
      kept = split₂ p r
          (λ q. (c : ℕ) → c < C → Keeps (gate q) c → (x : ℕ) → On P x → s.load x ≢ inside c)
          (λ c l w. absurd (subst (λ g. Keeps g c) m.gives w))
          (λ c l w. v.kept p c l (subst (λ g. Keeps g c) (sym m.was) tt))
          (λ q a b c l w. absurd (subst (λ g. Keeps g c) (m.gates q a b ∙ m.alone q a) w));
      seen = split₂ p r
          (λ q. (j n : ℕ) → gate q ≡ reading j n → write_bit + s.departs j + total P (λ p. admits (s.load p) j) ≤ n)
          (λ j n e. absurd (subst (λ g. Marks g j) (sym e ∙ m.gives) tt))
          (λ j n e. absurd (subst Wide (sym m.takes ∙ e) tt))
          (λ q a b j n e. absurd (subst (λ g. Marks g j) (sym e ∙ (m.gates q a b ∙ m.alone q a)) tt));
    }
