-- The rows that touch a counter's words keep the account. Where nobody comes in, what is counted moves between
-- ARRIVE, DEPART and a load, or falls: so what a writer has read at W9 still covers those inside. A reader comes in
-- only while ARRIVE is below the reader threshold; then no write bit stands, so no writer keeps that counter empty,
-- and none has read it.
-- And the reason for the drain test: where the word read before is the write bit and DEPART, nobody of the counter is
-- in.
use Rattle.std.proofs.Common.{◌≡◌, ℕ, suc, ◌+◌, ◌<◌, ◌≤◌, ◌≢◌, sym, refl, ap, ◌∙◌, subst, arith}
use Rattle.std.proofs.lemmas.Bool.Decides.{nat_tests}
use Rattle.queues.specs.Machine.{On}
use Rattle.queues.specs.Counters.{total, Load, none, inside, tries, admits, clears, Gate, reading, Marks, Keeps}
use Rattle.queues.specs.Counters.{Tally, write_bit, Count, Counted}
use Rattle.queues.proofs.Cases.{split}
use Rattle.queues.proofs.Sums.{total_same, total_swap, total_part, pick_same}

-- the weights of two loads agree at every counter but c
abbrev pub Local : Load → Load → ℕ → Type 0
Local l m c = (d : ℕ) → d ≢ c → (tries m d ≡ tries l d) × (admits m d ≡ admits l d) × (clears m d ≡ clears l d)

-- rank p's load changes, and with it the words of the counter c
pub record Shift (s : Tally) (p c : ℕ) (load : ℕ → Load) (arrives departs : ℕ → ℕ) : Type 0 where
  -- no other load changes
  pub others : (q : ℕ) → q ≢ p → load q ≡ s.load q
  -- the rank's load changes at counter c alone
  pub local : Local (s.load p) (load p) c
  -- and so do the words
  pub arrive_other : (d : ℕ) → d ≢ c → arrives d ≡ s.arrives d
  pub depart_other : (d : ℕ) → d ≢ c → departs d ≡ s.departs d

module _ (P : ℕ) (s : Tally) (p c : ℕ) (on : On P p) (load : ℕ → Load) (arrives departs : ℕ → ℕ)
    (m : Shift s p c load arrives departs)
  where
    -- a sum at another counter is as it was
    pub away : (w : Load → ℕ → ℕ) (d : ℕ) → w (load p) d ≡ w (s.load p) d
        → total P (λ q. w (load q) d) ≡ total P (λ q. w (s.load q) d)
    away w d e = total_same P
        (λ q. w (s.load q) d)
        (λ q. w (load q) d)
        (λ q _ _. split p (λ q. w (load q) d ≡ w (s.load q) d) e (λ q a. ap (λ l. w l d) (m.others q a)) q)

    -- and at this one it moves by the rank's part
    pub moves : (w : Load → ℕ → ℕ)
        → total P (λ q. w (load q) c) + w (s.load p) c ≡ total P (λ q. w (s.load q) c) + w (load p) c
    moves w = total_swap P (λ q. w (s.load q) c) (λ q. w (load q) c) p on (λ q a. ap (λ l. w l c) (m.others q a))

-- new loads and words, the same gates and bits
abbrev pub shifted : Tally → (ℕ → Load) → (ℕ → ℕ) → (ℕ → ℕ) → Tally
shifted s load arrives departs =
    record { load = load; gate = s.gate; arrives = arrives; departs = departs; bit = s.bit }

-- rows R1 (refused), R2, R5, R6, R7, U6 and a reader's leave: nobody comes in, and what is counted moves or falls
pub record Drains (s : Tally) (p c : ℕ) (load : ℕ → Load) (arrives departs : ℕ → ℕ) : Type 0 where
  -- one load and one counter change
  pub shift : Shift s p c load arrives departs
  -- what leaves ARRIVE leaves DEPART or the load
  pub flow : arrives c + s.departs c + tries (s.load p) c + admits (s.load p) c + clears (s.load p) c
      ≡ s.arrives c + departs c + tries (load p) c + admits (load p) c + clears (load p) c
  -- what is counted of the admitted does not grow
  pub fall : departs c + admits (load p) c + clears (load p) c
      ≤ s.departs c + admits (s.load p) c + clears (s.load p) c
  -- nor without what a writer has taken
  pub fall_admits : departs c + admits (load p) c ≤ s.departs c + admits (s.load p) c
  -- the rank is not inside after it
  pub outside : (d : ℕ) → load p ≢ inside d

module _ (P C limit : ℕ) (s : Tally) (v : Counted P C limit s) (p c : ℕ) (on : On P p) (load : ℕ → Load)
    (arrives departs : ℕ → ℕ) (m : Drains s p c load arrives departs) where
  abbrev s' : Tally
  s' = shifted s load arrives departs

  -- the account of the counter
  here : c < C → Count P limit s' c
  here l =
      let o = v.each c l in
      let a = moves P s p c on load arrives departs m.shift tries in
      let b = moves P s p c on load arrives departs m.shift admits in
      let x = moves P s p c on load arrives departs m.shift clears in
      record {
        sum = omega (arith, o.sum, m.flow);
        small = omega (arith, o.small, m.fall);
        bits = o.bits;
        stands = o.stands;
      }

  -- the others are as they were
  there : (d : ℕ) → d ≢ c → d < C → Count P limit s' d
  there d ne l =
      let o = v.each d l in
      let w = m.shift.local d ne in
      let a = away P s p c on load arrives departs m.shift tries d w.0 in
      let b = away P s p c on load arrives departs m.shift admits d w.1 in
      let x = away P s p c on load arrives departs m.shift clears d w.2 in
      let y = m.shift.arrive_other d ne in
      let z = m.shift.depart_other d ne in
      record { sum = omega (arith, o.sum); small = omega (arith, o.small); bits = o.bits; stands = o.stands }

  -- what was read at W9 still covers all inside
  seen' : (k : ℕ) → (q n : ℕ) → s.gate q ≡ reading k n → write_bit + departs k + total P (λ p. admits (load p) k) ≤ n
  seen' = split c
      (λ k. (q n : ℕ) → s.gate q ≡ reading k n → write_bit + departs k + total P (λ p. admits (load p) k) ≤ n)
      (λ q n e.
      omega (arith, v.seen q c n e, m.fall_admits, moves P s p c on load arrives departs m.shift admits))
      (λ k ne q n e.
      omega (
        arith,
        v.seen q k n e,
        m.shift.depart_other k ne,
        away P s p c on load arrives departs m.shift admits k (m.shift.local k ne).1,
      ))

  -- so the invariant is kept
  pub drained : Counted P C limit s'
  drained =
      record {
        each = split c (λ d. d < C → Count P limit s' d) here there;
        marked = v.marked;
        kept = λ r d l k.
            split p
            (λ q. On P q → load q ≢ inside d)
            (λ _. m.outside d)
            (λ q a on' z. v.kept r d l k q on' (sym (m.shift.others q a) ∙ z));
        seen = λ q k n e. seen' k q n e;
      }

-- row R1 when it enters: the old word was below the reader threshold, so no bit stands
pub record Enters (limit : ℕ) (s : Tally) (p c : ℕ) (load : ℕ → Load) (arrives : ℕ → ℕ) : Type 0 where
  -- one load and one counter change
  pub shift : Shift s p c load arrives s.departs
  -- the rank had no load
  pub before : s.load p ≡ none
  -- it is inside
  pub after : load p ≡ inside c
  -- ARRIVE counts it
  pub word : arrives c ≡ suc (s.arrives c)
  -- and was below the threshold
  pub room : s.arrives c < limit

module _ (P C limit : ℕ) (threshold_fits : limit ≤ write_bit) (s : Tally) (v : Counted P C limit s) (p c : ℕ)
    (in_c : c < C) (on : On P p) (load : ℕ → Load) (arrives : ℕ → ℕ) (m : Enters limit s p c load arrives) where
  abbrev e' : Tally
  e' = shifted s load arrives s.departs

  -- where ARRIVE is below the threshold the write bit is down
  no_bit : s.bit c ≡ 0
  no_bit = let o = v.each c in_c in omega (arith, o.sum, o.bits, m.room)

  -- the weights before
  t_old : (tries (s.load p) c ≡ 0) × (admits (s.load p) c ≡ 0) × (clears (s.load p) c ≡ 0)
  t_old = rw m.before (refl, refl, refl)

  -- and after
  t_new : (tries (load p) c ≡ 0) × (admits (load p) c ≡ 1) × (clears (load p) c ≡ 0)
  t_new = rw m.after (refl, pick_same c 1, refl)

  -- the account of the counter, with one more inside
  enter_here : Count P limit e' c
  enter_here =
      let o = v.each c in_c in
      let a = moves P s p c on load arrives s.departs m.shift tries in
      let b = moves P s p c on load arrives s.departs m.shift admits in
      let x = moves P s p c on load arrives s.departs m.shift clears in
      record {
        sum = omega (arith, o.sum, m.word, t_old, t_new);
        small = omega (arith, o.sum, m.room, no_bit, t_old, t_new);
        bits = o.bits;
        stands = o.stands;
      }

  -- the others are as they were
  enter_there : (d : ℕ) → d ≢ c → d < C → Count P limit e' d
  enter_there d ne l =
      let o = v.each d l in
      let w = m.shift.local d ne in
      let a = away P s p c on load arrives s.departs m.shift tries d w.0 in
      let b = away P s p c on load arrives s.departs m.shift admits d w.1 in
      let x = away P s p c on load arrives s.departs m.shift clears d w.2 in
      let y = m.shift.arrive_other d ne in
      record { sum = omega (arith, o.sum); small = omega (arith, o.small); bits = o.bits; stands = o.stands }

  -- while the bit of c is down nobody marks c
  unmarked : (q : ℕ) → Marks (s.gate q) c → ⊥
  unmarked q k = let z : s.bit c ≡ 1 = v.marked q c in_c k in omega (arith, no_bit)

  -- who keeps a counter empty stands for its bit
  keeps_marks : (g : Gate) (d : ℕ) → Keeps g d → Marks g d
  keeps_marks g d k = grind (arith, nat_tests)

  -- a rank is inside at one counter
  inside_one : (a b : ℕ) → inside a ≡ inside b → a ≡ b
  inside_one a b e = cc

  -- so the invariant is kept
  pub entered : Counted P C limit e'
  entered =
      record {
        each = split c (λ d. d < C → Count P limit e' d) (λ _. enter_here) enter_there;
        marked = v.marked;
        kept = λ r d l k.
            split p
            (λ q. On P q → load q ≢ inside d)
            (λ _ z.
            unmarked r
            (subst (Marks (s.gate r)) (sym (inside_one c d (sym m.after ∙ z)))
            (keeps_marks (s.gate r) d k)))
            (λ q a on' z. v.kept r d l k q on' (sym (m.shift.others q a) ∙ z));
        seen = λ q k n e.
            split c
            (λ k. s.gate q ≡ reading k n → write_bit + s.departs k + total P (λ p. admits (load p) k) ≤ n)
            (λ e. absurd (unmarked q (subst (λ g. Marks g c) (sym e) tt)))
            (λ k ne e.
            omega (
              arith,
              v.seen q k n e,
              away P s p c on load arrives s.departs m.shift admits k (m.shift.local k ne).1,
            ))
            k
            e;
      }

-- row W9: where the word read before is the write bit and DEPART, nobody of the counter is in
pub nobody_in : (P C limit : ℕ) (s : Tally) → Counted P C limit s → (p k n : ℕ) → s.gate p ≡ reading k n
    → n ≡ write_bit + s.departs k → (q : ℕ) → On P q → s.load q ≢ inside k
nobody_in P C limit s v p k n e z q on w =
    let a : admits (s.load q) k ≤ total P (λ p. admits (s.load p) k) =
    total_part P (λ p. admits (s.load p) k) q on in
    let b : admits (s.load q) k ≡ 1 = ap (λ l. admits l k) w ∙ pick_same k 1 in omega (arith, v.seen p k n e)
