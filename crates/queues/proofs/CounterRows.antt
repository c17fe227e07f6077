-- Each row, ask and leave keeps the counters, and with QueueRows the whole invariant. A rank whose gate is not shut
-- holds element 1, which has one holder: so one rank at most stands for write bits. Rows of readers drain or enter;
-- rows of that writer set, read or clear; a hand-over of the section passes all bits on; and all others leave loads
-- and gates alone.
use Rattle.std.proofs.Common.{◌≡◌, ℕ, suc, pred, ◌+◌, ◌-◌, ◌*◌, ◌<◌, ◌≤◌, Bool, true, false, cond, eqb, ltb, leb, ◌≢◌, ◌⊎◌, sym, refl, ap, ◌∙◌, subst, ⊎_elim, arith}
use Rattle.std.proofs.lemmas.Bool.Decides.{nat_tests}
use Rattle.std.proofs.lemmas.Bool.{cases_eq, cond_both, eq-eqb, ne_eqb, le-leb, lt-leb, eqb-true, leb-false, ltb-true, ltb-false}
use Rattle.places.specs.Words.{most_hand_overs}
use Rattle.queues.specs.Machine.{holds_from, Tree, Lawful, On, wait, hold, give, hold_level, InRange, Waits, Inv}
use Rattle.queues.specs.Table.{Place, Idle, W1, W2, W3, W4, W5, W6, W7, W8, W9, U1, U2, U3, U4, U5, U6, U7, U8, U9}
use Rattle.queues.specs.Table.{with_counts, with_statuses, put_arrive, U10, R1, R2, R3, R4, R5, R6, R7, Writer}
use Rattle.queues.specs.Table.{Reader, WAIT, told_status, Plan, Lock, upd, phase_of, status_level, phase, view, Sound}
use Rattle.queues.specs.Table.{go, put_status, free, done, next, row}
use Rattle.queues.specs.Counters.{total, pick, Load, none, trying, inside, carrying, clearing, tries, admits, clears}
use Rattle.queues.specs.Counters.{Gate, shut, raising, checking, reading, wide, lowering, Marks, Keeps, Tally}
use Rattle.queues.specs.Counters.{write_bit, Counted}
use Rattle.queues.specs.Invariant.{gate_of, load_of, Within, gate, tally, Safe}
use Rattle.queues.proofs.OneHolder.{one_holder, Successor, successor}
use Rattle.queues.proofs.Cases.{split, split₂}
use Rattle.queues.proofs.Sums.{pick_same, pick_other, total_part, total_same}
use Rattle.queues.proofs.Phases.{upd_same, upd_other, w5_level, told_large}
use Rattle.queues.proofs.Counters.{Local, Shift, drained, entered, nobody_in}
use Rattle.queues.proofs.WriteBits.{flipped, traded}
use Rattle.queues.proofs.QueueRows.{phase_at, status_other, only_W5, fine_row, fine_ask_write, fine_ask_read}
use Rattle.queues.proofs.QueueRows.{fine_leave_write, fine_leave_read}
use Rattle.queues.specs.Jobs.{Sensible}

-- a gate reads a word at W5 alone
pub gate_same : (f : Place) (w w' : ℕ) → ((j : ℕ) → f ≡ W5 j → w' ≡ w) → gate_of f w' ≡ gate_of f w
gate_same f w w' e = grind (arith, nat_tests)

-- a rank at W5 has no bits, or holds the whole machine
gate_w5 : (top i : ℕ) (a b : Bool) → InRange top (cond a (wait i) (cond b (hold 1) (hold i)))
    → (cond a shut (cond b wide shut) ≡ shut)
    ⊎ ((hold_level top (cond a (wait i) (cond b (hold 1) (hold i))) ≡ 1) × On top 1)
gate_w5 top i a b r = grind (arith, nat_tests)

-- who stands for a bit holds the whole machine
pub gate_phase : (top : ℕ) (f : Place) (w : ℕ) → InRange top (phase_of f w)
    → (gate_of f w ≡ shut) ⊎ ((hold_level top (phase_of f w) ≡ 1) × On top 1)
gate_phase top f w r = grind (arith, nat_tests)

-- the gate of a rank whose place is known
pub gate_at : (T : Tree) (s : Lock) (p : ℕ) (f : Place) → s.place p ≡ f
    → gate T s p ≡ gate_of f (s.statuses (T.node p (status_level f)))
gate_at T s p f e = ap (λ g. gate_of g (s.statuses (T.node p (status_level g)))) e

-- the gate of the rank that moved
pub gate_now : (T : Tree) (s : Lock) (p : ℕ) (f : Place)
    → gate T (go s p f) p ≡ gate_of f (s.statuses (T.node p (status_level f)))
gate_now T s p f = gate_at T (go s p f) p f (upd_same s.place p f)

-- no other gate changes by its going
pub gate_other : (T : Tree) (s : Lock) (p : ℕ) (f : Place) (q : ℕ) → q ≢ p → gate T (go s p f) q ≡ gate T s q
gate_other T s p f q a = ap (λ g. gate_of g (s.statuses (T.node q (status_level g)))) (upd_other s.place p f q a)

-- tallies with the same values
pub tallied : (P C limit : ℕ) (s s' : Tally) → ((p : ℕ) → s.load p ≡ s'.load p) → ((p : ℕ) → s.gate p ≡ s'.gate p)
    → ((c : ℕ) → s.arrives c ≡ s'.arrives c) → ((c : ℕ) → s.departs c ≡ s'.departs c)
    → ((c : ℕ) → s.bit c ≡ s'.bit c) → Counted P C limit s → Counted P C limit s'
tallied P C limit s s' a b c d e v = subst (Counted P C limit)
    (λ i.
    record { load = λ p. a p i; gate = λ p. b p i; arrives = λ n. c n i; departs = λ n. d n i; bit = λ n. e n i })
    v

module _ (P : ℕ) (L : Plan) (sensible : Sensible P L) (s : Lock) (bit : ℕ → ℕ) (v : Safe P L s bit) where
  abbrev G : Lawful L.tree
  G = sensible.tree

  abbrev small : (q j : ℕ) → L.hand_over_limit q j ≤ most_hand_overs
  small = sensible.small

  abbrev ranks : (p : ℕ) → On (L.tree.own_level p) 1 → On P p
  ranks = sensible.ranks

  abbrev root : (p q : ℕ) → On (L.tree.own_level p) 1 → On (L.tree.own_level q) 1
      → L.tree.element p 1 ≡ L.tree.element q 1
  root = sensible.root

  abbrev homes : (p : ℕ) → L.home p < L.counters
  homes = sensible.homes

  abbrev T : Tree
  T = L.tree

  abbrev C : ℕ
  C = L.counters

  abbrev inv : Inv T (view T s)
  inv = v.fine.queues

  -- the counters of a lock are right
  abbrev Right : Lock → (ℕ → ℕ) → Type 0
  Right s bit = Counted P C L.reader_threshold (tally L s bit)

  -- while p holds the whole machine, all other gates are shut
  alone : (p : ℕ) → On (T.own_level p) 1 → holds_from T (view T s) p ≤ 1 → (q : ℕ) → q ≢ p → gate T s q ≡ shut
  alone p o l q a = ⊎_elim
      (λ (z : gate T s q ≡ shut). z)
      (λ (z : (holds_from T (view T s) q ≡ 1) × On (T.own_level q) 1).
      absurd (a (one_holder T G (view T s) inv q p 1 z.1 o (omega arith) l (root q p z.1 o))))
      (gate_phase (T.own_level q) (s.place q) (s.statuses (T.node q (status_level (s.place q)))) (inv.range q))

  -- nor by a STATUS written at a node that is not its own
  gate_status : (o i u : ℕ) → On (T.own_level o) i → holds_from T (view T s) o ≤ suc i → (q : ℕ) → q ≢ o
      → gate T (put_status s (T.node o i) u) q ≡ gate T s q
  gate_status o i u on l q a = gate_same (s.place q) (s.statuses (T.node q (status_level (s.place q))))
      (upd s.statuses (T.node o i) u (T.node q (status_level (s.place q))))
      (λ j e.
      subst
      (λ f. upd s.statuses (T.node o i) u (T.node q (status_level f)) ≡ s.statuses (T.node q (status_level f)))
      (sym e)
      (status_other L G small s v.fine o i u on l q j a (subst (Sound L s.statuses q) e (v.fine.sound q)).0
      (rw (phase_at T s q (W5 j) e) (w5_level (T.own_level q) j (s.statuses (T.node q j))))))

  -- rows that leave loads and gates alone
  still : (statuses : ℕ → ℕ) (p : ℕ) (g : Place) → gate_of g (statuses (T.node p (status_level g))) ≡ gate T s p
      → load_of (L.home p) g ≡ load_of (L.home p) (s.place p)
      → ((q : ℕ) → q ≢ p → gate_of (s.place q) (statuses (T.node q (status_level (s.place q)))) ≡ gate T s q)
      → Right (go (with_statuses s statuses) p g) bit
  still statuses p g x y z = tallied P C L.reader_threshold (tally L s bit)
      (tally L (go (with_statuses s statuses) p g) bit)
      (split p
      (λ q. load_of (L.home q) (s.place q) ≡ load_of (L.home q) (upd s.place p g q))
      (rw (upd_same s.place p g) (sym y))
      (λ q a. rw (upd_other s.place p g q a)))
      (split p
      (λ q.
      gate T s q
      ≡ gate_of (upd s.place p g q) (statuses (T.node q (status_level (upd s.place p g q)))))
      (rw (upd_same s.place p g) (sym x))
      (λ q a. rw (upd_other s.place p g q a) (sym (z q a))))
      (λ c. refl)
      (λ c. refl)
      (λ c. refl)
      v.counted

  -- the loads before
  abbrev load : ℕ → Load
  load p = load_of (L.home p) (s.place p)

  -- and after rank p goes to g
  abbrev load' : ℕ → Place → ℕ → Load
  load' p g q = load_of (L.home q) (upd s.place p g q)

  -- no other load changes
  load_other : (p : ℕ) (g : Place) (q : ℕ) → q ≢ p → load' p g q ≡ load q
  load_other p g q a = ap (load_of (L.home q)) (upd_other s.place p g q a)

  -- the load of the rank that moved
  load_now : (p : ℕ) (g : Place) → load' p g p ≡ load_of (L.home p) g
  load_now p g = ap (load_of (L.home p)) (upd_same s.place p g)

  -- what a rank carries is in the counter
  there_is : (p c : ℕ) → On P p → c < C → (l : Load) → load p ≡ l
      → (write_bit * bit c + tries l c + admits l c + clears l c ≤ s.arrives c) × (clears l c ≤ s.arrives c)
  there_is p c on lt l e =
      let o = v.counted.each c lt in
      let a = total_part P (λ p. tries (load p) c) p on in
      let b = total_part P (λ p. admits (load p) c) p on in
      let d = total_part P (λ p. clears (load p) c) p on in
      rw (← e) (omega (arith, o.sum), omega (arith, o.sum))

  -- a shift from the place f to the place g
  shift : (p c : ℕ) (f g : Place) (arrives departs : ℕ → ℕ) → s.place p ≡ f
      → Local (load_of (L.home p) f) (load_of (L.home p) g) c → ((d : ℕ) → d ≢ c → arrives d ≡ s.arrives d)
      → ((d : ℕ) → d ≢ c → departs d ≡ s.departs d) → Shift (tally L s bit) p c (load' p g) arrives departs
  shift p c f g arrives departs e lc x y =
      record { others = load_other p g; local = rw (load_now p g, e) lc; arrive_other = x; depart_other = y }

  -- and the tally after it, where the gates are as they were
  after : (p : ℕ) (g : Place) (arrives departs : ℕ → ℕ)
      → gate_of g (s.statuses (T.node p (status_level g))) ≡ gate T s p
      → Counted P C L.reader_threshold (record {
        load = load' p g;
        gate = gate T s;
        arrives = arrives;
        departs = departs;
        bit = bit;
      }) → Right (go (with_counts s arrives departs) p g) bit
  after p g arrives departs x w = tallied P C L.reader_threshold
      (record { load = load' p g; gate = gate T s; arrives = arrives; departs = departs; bit = bit })
      (tally L (go (with_counts s arrives departs) p g) bit)
      (λ q. refl)
      (split p
      (λ q.
      gate T s q
      ≡ gate_of (upd s.place p g q) (s.statuses (T.node q (status_level (upd s.place p g q)))))
      (rw (upd_same s.place p g) (sym x))
      (λ q a. rw (upd_other s.place p g q a)))
      (λ c. refl)
      (λ c. refl)
      (λ c. refl)
      w

  -- a row of a counter by which nobody comes in
  drain : (p c : ℕ) (f g : Place) (arrives departs : ℕ → ℕ) → On P p → s.place p ≡ f
      → gate_of g (s.statuses (T.node p (status_level g))) ≡ gate T s p
      → Local (load_of (L.home p) f) (load_of (L.home p) g) c → ((d : ℕ) → d ≢ c → arrives d ≡ s.arrives d)
      → ((d : ℕ) → d ≢ c → departs d ≡ s.departs d)
      → arrives c + s.departs c + tries (load_of (L.home p) f) c + admits (load_of (L.home p) f) c
      + clears (load_of (L.home p) f) c
      ≡ s.arrives c + departs c + tries (load_of (L.home p) g) c + admits (load_of (L.home p) g) c
      + clears (load_of (L.home p) g) c
      → departs c + admits (load_of (L.home p) g) c + clears (load_of (L.home p) g) c
      ≤ s.departs c + admits (load_of (L.home p) f) c + clears (load_of (L.home p) f) c
      → departs c + admits (load_of (L.home p) g) c ≤ s.departs c + admits (load_of (L.home p) f) c
      → ((d : ℕ) → load_of (L.home p) g ≢ inside d) → Right (go (with_counts s arrives departs) p g) bit
  drain p c f g arrives departs on e gt lc x y fl fa fr ou = after p g arrives departs gt
      (drained P C L.reader_threshold (tally L s bit) v.counted p c on (load' p g) arrives departs (record {
        shift = shift p c f g arrives departs e lc x y;
        flow = rw (load_now p g, e) fl;
        fall = rw (load_now p g, e) fa;
        fall_admits = rw (load_now p g, e) fr;
        outside = λ d z. ou d (sym (load_now p g) ∙ z);
      }))

  -- who has no load is not inside
  none_inside : (d : ℕ) → none ≢ inside d
  none_inside d e = let z : ◌≡◌ {A = ℕ} 0 1 = cc in omega arith

  -- R2 takes itself out again
  count_R2 : (p : ℕ) → On P p → s.place p ≡ R2 → Right (row L s p R2) bit
  count_R2 p on e =
      let c = L.home p in
      let k = pick_same c 1 in
      let h = there_is p c on (homes p) (trying c) (ap (load_of c) e) in
      let u = upd_same s.arrives c (pred (s.arrives c)) in
      drain p c R2 R3 (upd s.arrives c (pred (s.arrives c))) s.departs on e (sym (gate_at T s p R2 e))
      (λ d ne. (sym (pick_other c 1 d (λ z. ne (sym z))), refl, refl))
      (λ d ne. upd_other s.arrives c (pred (s.arrives c)) d ne)
      (λ d ne. refl)
      (omega arith)
      (omega arith)
      (omega arith)
      none_inside

  -- R5 takes DEPART
  count_R5 : (p : ℕ) → On P p → s.place p ≡ R5 → Right (row L s p R5) bit
  count_R5 p on e =
      let c = L.home p in
      let n = s.departs c in
      let k = pick_same c n in
      let u = upd_same s.departs c 0 in
      drain p c R5 (R6 n) s.arrives (upd s.departs c 0) on e (sym (gate_at T s p R5 e))
      (λ d ne. (refl, pick_other c n d (λ z. ne (sym z)), refl))
      (λ d ne. refl)
      (λ d ne. upd_other s.departs c 0 d ne)
      (omega arith)
      (omega arith)
      (omega arith)
      (λ d e. let z : ◌≡◌ {A = ℕ} 0 1 = cc in omega arith)

  -- R6 takes the same out of ARRIVE
  count_R6 : (p n : ℕ) → On P p → s.place p ≡ R6 n → Right (row L s p (R6 n)) bit
  count_R6 p n on e =
      let c = L.home p in
      let k = pick_same c n in
      let h = there_is p c on (homes p) (carrying c n) (ap (load_of c) e) in
      let u = upd_same s.arrives c (s.arrives c - n) in
      drain p c (R6 n) R3 (upd s.arrives c (s.arrives c - n)) s.departs on e (sym (gate_at T s p (R6 n) e))
      (λ d ne. (refl, sym (pick_other c n d (λ z. ne (sym z))), refl))
      (λ d ne. upd_other s.arrives c (s.arrives c - n) d ne)
      (λ d ne. refl)
      (omega arith)
      (omega arith)
      (omega arith)
      none_inside

  -- R7 counts itself among the departed
  count_R7 : (p : ℕ) → On P p → s.place p ≡ R7 → Right (row L s p R7) bit
  count_R7 p on e =
      let c = L.home p in
      let k = pick_same c 1 in
      let u = upd_same s.departs c (suc (s.departs c)) in
      drain p c R7 Idle s.arrives (upd s.departs c (suc (s.departs c))) on e (sym (gate_at T s p R7 e))
      (λ d ne. (refl, sym (pick_other c 1 d (λ z. ne (sym z))), refl))
      (λ d ne. refl)
      (λ d ne. upd_other s.departs c (suc (s.departs c)) d ne)
      (omega arith)
      (omega arith)
      (omega arith)
      none_inside

  -- a reader leaves
  count_leave : (p : ℕ) → On P p → s.place p ≡ Reader → Right (go s p R7) bit
  count_leave p on e =
      let c = L.home p in
      drain p c Reader R7 s.arrives s.departs on e (sym (gate_at T s p Reader e))
      (λ d ne. (refl, refl, refl))
      (λ d ne. refl)
      (λ d ne. refl)
      (omega arith)
      (omega arith)
      (omega arith)
      (λ d e. let z : ◌≡◌ {A = ℕ} 0 1 = cc in omega arith)

  -- R1 enters, or counts itself among the refused
  count_R1 : (p : ℕ) → On P p → s.place p ≡ R1 → Right (row L s p R1) bit
  count_R1 p on e = by (ltb (s.arrives c) L.reader_threshold) refl
    where
      c : ℕ
      c = L.home p

      arrives : ℕ → ℕ
      arrives = upd s.arrives (L.home p) (suc (s.arrives (L.home p)))

      k : pick (L.home p) 1 (L.home p) ≡ 1
      k = pick_same (L.home p) 1

      u : upd s.arrives (L.home p) (suc (s.arrives (L.home p))) (L.home p) ≡ suc (s.arrives (L.home p))
      u = upd_same s.arrives (L.home p) (suc (s.arrives (L.home p)))

      by : (b : Bool) → ltb (s.arrives (L.home p)) L.reader_threshold ≡ b
          → Right
          (go (put_arrive s (L.home p) (suc (s.arrives (L.home p)))) p
          (cond b Reader R2))
          bit
      by true z = after p Reader (upd s.arrives (L.home p) (suc (s.arrives (L.home p)))) s.departs
          (sym (gate_at T s p R1 e))
          (entered P C L.reader_threshold sensible.threshold_fits (tally L s bit) v.counted p (L.home p)
          (homes p) on (load' p Reader) (upd s.arrives (L.home p) (suc (s.arrives (L.home p))))
          (record {
            shift = shift p (L.home p) R1 Reader
                (upd s.arrives (L.home p) (suc (s.arrives (L.home p)))) s.departs e
                (λ d ne. (refl, pick_other (L.home p) 1 d (λ z. ne (sym z)), refl))
                (λ d ne. upd_other s.arrives (L.home p) (suc (s.arrives (L.home p))) d ne)
                (λ d ne. refl);
            before = ap (load_of (L.home p)) e;
            after = load_now p Reader;
            word = u;
            room = ltb-true (s.arrives (L.home p)) L.reader_threshold z;
          }))
      by false z = drain p (L.home p) R1 R2 (upd s.arrives (L.home p) (suc (s.arrives (L.home p))))
          s.departs on e (sym (gate_at T s p R1 e))
          (λ d ne. (pick_other (L.home p) 1 d (λ z. ne (sym z)), refl, refl))
          (λ d ne. upd_other s.arrives (L.home p) (suc (s.arrives (L.home p))) d ne)
          (λ d ne. refl)
          (omega (arith, k, u))
          (omega arith)
          (omega arith)
          (λ d e. let z : ◌≡◌ {A = ℕ} 0 1 = cc in omega arith)

  -- U6 takes DEPART
  count_U6 : (p n : ℕ) → On P p → s.place p ≡ U6 n → Right (row L s p (U6 n)) bit
  count_U6 p n on e =
      let m = s.departs n in
      let k = pick_same n m in
      let u = upd_same s.departs n 0 in
      drain p n (U6 n) (U7 n m) s.arrives (upd s.departs n 0) on e (sym (gate_at T s p (U6 n) e))
      (λ d ne. (refl, refl, pick_other n m d (λ z. ne (sym z))))
      (λ d ne. refl)
      (λ d ne. upd_other s.departs n 0 d ne)
      (omega arith)
      (omega arith)
      (omega arith)
      (λ d e. let z : ◌≡◌ {A = ℕ} 0 1 = cc in omega arith)

  -- a writer's row at the counter k, from f to g
  flip : (p k : ℕ) (f g : Place) (arrives bit' : ℕ → ℕ) → On P p → On (T.own_level p) 1 → s.place p ≡ f
      → holds_from T (view T s) p ≤ 1 → Local (load_of (L.home p) f) (load_of (L.home p) g) k
      → ((d : ℕ) → d ≢ k → arrives d ≡ s.arrives d) → ((d : ℕ) → d ≢ k → bit' d ≡ bit d) → bit' k ≤ 1
      → arrives k + write_bit * bit k + s.departs k + tries (load_of (L.home p) f) k
      + admits (load_of (L.home p) f) k + clears (load_of (L.home p) f) k
      ≡ s.arrives k + write_bit * bit' k + s.departs k + tries (load_of (L.home p) g) k
      + admits (load_of (L.home p) g) k + clears (load_of (L.home p) g) k
      → admits (load_of (L.home p) g) k + clears (load_of (L.home p) g) k
      ≤ admits (load_of (L.home p) f) k + clears (load_of (L.home p) f) k → (h : Gate)
      → gate_of g (s.statuses (T.node p (status_level g))) ≡ h → ((c : ℕ) → c < C → Marks h c → bit' c ≡ 1)
      → ((c : ℕ) → c < C → bit' c ≡ 1 → Marks h c)
      → ((c : ℕ) → c < C → Keeps h c → (q : ℕ) → On P q → load' p g q ≢ inside c)
      → ((j n : ℕ) → h ≡ reading j n → write_bit + s.departs j + total P (λ q. admits (load' p g q) j) ≤ n)
      → Right (go (with_counts s arrives s.departs) p g) bit'
  flip p k f g arrives bit' on o e lv lc x y bs fl fa h gh mk sd kp ss =
      let s₁ : Lock = with_counts s arrives s.departs in
      let now : gate T (go s₁ p g) p ≡ h = gate_now T s₁ p g ∙ gh in
      flipped P C L.reader_threshold (tally L s bit) v.counted p k on (tally L (go s₁ p g) bit') (record {
        shift = shift p k f g arrives s.departs e lc x (λ d ne. refl);
        bit_other = y;
        bit_small = bs;
        flow = rw (load_now p g, e) fl;
        fall = rw (load_now p g, e) (omega arith);
        gates = gate_other T s₁ p g;
        alone = alone p o lv;
        marks = λ c l w. mk c l (subst (λ z. Marks z c) now w);
        stands = λ c l w. subst (λ z. Marks z c) (sym now) (sd c l w);
        keeps = λ c l w. kp c l (subst (λ z. Keeps z c) now w);
        sees = λ j n w. ss j n (sym now ∙ w);
      })

  -- the one writer marks each bit that stands
  own_marks : (p : ℕ) → On (T.own_level p) 1 → holds_from T (view T s) p ≤ 1 → (c : ℕ) → c < C → bit c ≡ 1
      → Marks (gate T s p) c
  own_marks p o lv c l z =
      let w = (v.counted.each c l).stands z in
      split p
      (λ q. Marks (gate T s q) c → Marks (gate T s p) c)
      (λ x. x)
      (λ q a x. absurd (subst (λ g. Marks g c) (alone p o lv q a) x))
      w.0
      w.1

  -- nobody comes in by a row of the writer
  not_inside : (p : ℕ) (g : Place) (c : ℕ) → load_of (L.home p) g ≡ none → ((q : ℕ) → On P q → load q ≢ inside c)
      → (q : ℕ) → On P q → load' p g q ≢ inside c
  not_inside p g c z h = split p
      (λ q. On P q → load' p g q ≢ inside c)
      (λ _ w. none_inside c (sym z ∙ (sym (load_now p g) ∙ w)))
      (λ q a on w. h q on (sym (load_other p g q a) ∙ w))

  -- rows W8, W9, U5, and W6 at level 1: no word changes
  turn : (p : ℕ) (f g : Place) → On P p → On (T.own_level p) 1 → s.place p ≡ f → holds_from T (view T s) p ≤ 1
      → load_of (L.home p) f ≡ none → load_of (L.home p) g ≡ none → (h : Gate)
      → gate_of g (s.statuses (T.node p (status_level g))) ≡ h
      → ((c : ℕ) → c < C → Marks h c → Marks (gate T s p) c) → ((c : ℕ) → c < C → Marks (gate T s p) c → Marks h c)
      → ((c : ℕ) → c < C → Keeps h c → (q : ℕ) → On P q → load q ≢ inside c)
      → ((j n : ℕ) → h ≡ reading j n → write_bit + s.departs j + total P (λ q. admits (load q) j) ≤ n)
      → Right (go s p g) bit
  turn p f g on o e lv lf lg h gh mk sd kp ss = flip p 0 f g s.arrives bit on o e lv
      (λ d ne. rw (lf, lg) (refl, refl, refl))
      (λ d ne. refl)
      (λ d ne. refl)
      (v.counted.each 0 (omega (arith, homes p))).bits
      (rw (lf, lg))
      (rw (lf, lg) (omega arith))
      h
      gh
      (λ c l w. v.counted.marked p c l (mk c l w))
      (λ c l w. sd c l (own_marks p o lv c l w))
      (λ c l w. not_inside p g c lg (kp c l w))
      (λ j n w. omega (arith, ss j n w, admitted j))
    where
      -- the rank has no load before or after, so no load changes
      same : (q : ℕ) → load' p g q ≡ load q
      same = split p (λ q. load' p g q ≡ load q) (load_now p g ∙ (lg ∙ sym (ap (load_of (L.home p)) e ∙ lf)))
          (load_other p g)

      admitted : (j : ℕ) → total P (λ q. admits (load' p g q) j) ≡ total P (λ q. admits (load q) j)
      admitted j = total_same P (λ q. admits (load q) j) (λ q. admits (load' p g q) j)
          (λ q _ _. ap (λ l. admits l j) (same q))

  -- the writer holds the whole machine
  level_1 : (p : ℕ) (f : Place) → s.place p ≡ f → ((w : ℕ) → phase_of f w ≡ hold 1) → holds_from T (view T s) p ≤ 1
  level_1 p f e h = rw (phase_at T s p f e, h (s.statuses (T.node p (status_level f)))) (omega arith)

  -- W8 reads ARRIVE: it covers all inside, since the bit stands
  count_W8 : (p k : ℕ) → On P p → On (T.own_level p) 1 → k < C → s.place p ≡ W8 k → Right (row L s p (W8 k)) bit
  count_W8 p k on o l e =
      let g = gate_at T s p (W8 k) e in
      turn p (W8 k) (W9 k (s.arrives k)) on o e (level_1 p (W8 k) e (λ w. refl)) refl refl (reading k (s.arrives k))
      refl
      (λ c l w. rw g tt)
      (λ c l w. tt)
      (λ c m w. v.counted.kept p c m (rw g w))
      (λ j n w.
      let a : k ≡ j = cc in
      let b : s.arrives k ≡ n = cc in
      let z : bit k ≡ 1 = v.counted.marked p k l (rw g tt) in
      subst
      (λ j. write_bit + s.departs j + total P (λ q. admits (load q) j) ≤ n)
      a
      (omega (arith, (v.counted.each k l).sum)))

  -- W9 goes on where nobody is in, and reads again elsewhere
  count_W9 : (p k n : ℕ) → On P p → On (T.own_level p) 1 → k < C → s.place p ≡ W9 k n
      → Right (row L s p (W9 k n)) bit
  count_W9 p k n on o l e = by (eqb n (write_bit + s.departs k)) (ltb (suc k) C) refl refl
    where
      g : gate T s p ≡ reading k n
      g = gate_at T s p (W9 k n) e

      old : (c : ℕ) → c < C → c < k → (q : ℕ) → On P q → load q ≢ inside c
      old c m w = v.counted.kept p c m (rw g w)

      new : n ≡ write_bit + s.departs k → (c : ℕ) → c < C → c ≤ k → (q : ℕ) → On P q → load q ≢ inside c
      new z c m w = ⊎_elim
          (λ (y : c ≡ k).
          subst
          (λ c. (q : ℕ) → On P q → load q ≢ inside c)
          (sym y)
          (nobody_in P C L.reader_threshold (tally L s bit) v.counted p k n g z))
          (λ (y : c ≡ k → ⊥). old c m (omega arith))
          (cases_eq c k)

      by : (a b : Bool) → eqb n (write_bit + s.departs k) ≡ a → ltb (suc k) C ≡ b
          → Right (go s p (cond a (cond b (W8 (suc k)) Writer) (W8 k))) bit
      by true true x y = turn p (W9 k n) (W8 (suc k)) on o e (level_1 p (W9 k n) e (λ w. refl)) refl refl
          (checking (suc k)) refl
          (λ c m w. rw g tt)
          (λ c m w. tt)
          (λ c m w. new (eqb-true n (write_bit + s.departs k) x) c m (omega arith))
          (λ j i w. absurd (let z : ◌≡◌ {A = ℕ} 0 1 = cc in omega arith))
      by true false x y = turn p (W9 k n) Writer on o e (level_1 p (W9 k n) e (λ w. refl)) refl refl wide refl
          (λ c m w. rw g tt)
          (λ c m w. tt)
          (λ c m w. new (eqb-true n (write_bit + s.departs k) x) c m (omega (arith, ltb-false (suc k) C y)))
          (λ j i w. absurd (let z : ◌≡◌ {A = ℕ} 0 1 = cc in omega arith))
      by false b x y = turn p (W9 k n) (W8 k) on o e (level_1 p (W9 k n) e (λ w. refl)) refl refl (checking k) refl
          (λ c m w. rw g tt)
          (λ c m w. tt)
          (λ c m w. old c m w)
          (λ j i w. absurd (let z : ◌≡◌ {A = ℕ} 0 1 = cc in omega arith))

  -- W7 sets a write bit
  count_W7 : (p k : ℕ) → On P p → On (T.own_level p) 1 → k < C → s.place p ≡ W7 k
      → Right (row L s p (W7 k)) (upd bit k 1)
  count_W7 p k on o l e = by (ltb (suc k) C) refl
    where
      g : gate T s p ≡ raising k
      g = gate_at T s p (W7 k) e

      -- the writer holds the whole machine
      lv : holds_from T (view T s) p ≤ 1
      lv = level_1 p (W7 k) e (λ w. refl)

      down : bit k ≡ 0
      down = ⊎_elim
          (λ (z : bit k ≡ 1).
          let w : k < k = subst (λ h. Marks h k) g (own_marks p o lv k l z) in absurd (omega arith))
          (λ (z : bit k ≡ 1 → ⊥). omega (arith, (v.counted.each k l).bits))
          (cases_eq (bit k) 1)

      up : upd bit k 1 k ≡ 1
      up = upd_same bit k 1

      raised : (c : ℕ) → c < C → c < suc k → upd bit k 1 c ≡ 1
      raised c m w = ⊎_elim
          (λ (z : c ≡ k). rw (z, up))
          (λ (z : c ≡ k → ⊥). upd_other bit k 1 c z ∙ v.counted.marked p c m (rw g (omega arith)))
          (cases_eq c k)

      back : (c : ℕ) → c < C → upd bit k 1 c ≡ 1 → c < suc k
      back c m w = ⊎_elim
          (λ (z : c ≡ k). omega arith)
          (λ (z : c ≡ k → ⊥).
          let x : c < k = subst (λ h. Marks h c) g (own_marks p o lv c m (sym (upd_other bit k 1 c z) ∙ w)) in
          omega arith)
          (cases_eq c k)

      at : (q : Place) (h : Gate) → load_of (L.home p) q ≡ none
          → gate_of q (s.statuses (T.node p (status_level q))) ≡ h → ((c : ℕ) → c < C → Marks h c → c < suc k)
          → ((c : ℕ) → c < C → c < suc k → Marks h c) → ((c : ℕ) → Keeps h c → ⊥) → ((j n : ℕ) → h ≡ reading j n → ⊥)
          → Right (go (put_arrive s k (s.arrives k + write_bit)) p q) (upd bit k 1)
      at q h lq gq a b c d = flip p k (W7 k) q (upd s.arrives k (s.arrives k + write_bit)) (upd bit k 1) on o e lv
          (λ d ne. rw lq (refl, refl, refl))
          (λ d ne. upd_other s.arrives k (s.arrives k + write_bit) d ne)
          (λ d ne. upd_other bit k 1 d ne)
          (omega (arith, up))
          (rw lq (omega (arith, up, down, upd_same s.arrives k (s.arrives k + write_bit))))
          (rw lq (omega arith))
          h
          gq
          (λ x m w. raised x m (a x m w))
          (λ x m w. b x m (back x m w))
          (λ x m w. absurd (c x w))
          (λ j n w. absurd (d j n w))

      by : (b : Bool) → ltb (suc k) C ≡ b
          → Right
          (go (put_arrive s k (s.arrives k + write_bit)) p
          (cond b (W7 (suc k)) (W8 0)))
          (upd bit k 1)
      by true z = at (W7 (suc k)) (raising (suc k)) refl refl
          (λ c m w. w)
          (λ c m w. w)
          (λ c w. w)
          (λ j n e. let z : ◌≡◌ {A = ℕ} 0 1 = cc in omega arith)
      by false z = at (W8 0) (checking 0) refl refl
          (λ c m w. omega (arith, ltb-false (suc k) C z))
          (λ c m w. tt)
          (λ c w. omega arith)
          (λ j n e. let z : ◌≡◌ {A = ℕ} 0 1 = cc in omega arith)

  -- U7 clears a write bit, and takes what was departed out of ARRIVE
  count_U7 : (p k n : ℕ) → On P p → On (T.own_level p) 1 → k < C → s.place p ≡ U7 k n
      → Right (row L s p (U7 k n)) (upd bit k 0)
  count_U7 p k n on o l e = by (ltb (suc k) C) refl
    where
      g : gate T s p ≡ lowering k
      g = gate_at T s p (U7 k n) e

      lv : holds_from T (view T s) p ≤ 1
      lv = level_1 p (U7 k n) e (λ w. refl)

      stood : bit k ≡ 1
      stood = v.counted.marked p k l (rw g (omega arith))

      has : (write_bit * bit k + 0 + 0 + pick k n k ≤ s.arrives k) × (pick k n k ≤ s.arrives k)
      has = there_is p k on l (clearing k n) (ap (load_of (L.home p)) e)

      low : upd bit k 0 k ≡ 0
      low = upd_same bit k 0

      kept : (c : ℕ) → c < C → suc k ≤ c → upd bit k 0 c ≡ 1
      kept c m w = upd_other bit k 0 c (omega arith) ∙ v.counted.marked p c m (rw g (omega arith))

      back : (c : ℕ) → c < C → upd bit k 0 c ≡ 1 → suc k ≤ c
      back c m w = ⊎_elim
          (λ (z : c ≡ k). let x : upd bit k 0 c ≡ 0 = rw (z, low) in absurd (omega arith))
          (λ (z : c ≡ k → ⊥).
          let x : k ≤ c = subst (λ h. Marks h c) g (own_marks p o lv c m (sym (upd_other bit k 0 c z) ∙ w)) in
          omega arith)
          (cases_eq c k)

      at : (q : Place) (h : Gate) → load_of (L.home p) q ≡ none
          → gate_of q (s.statuses (T.node p (status_level q))) ≡ h → ((c : ℕ) → c < C → Marks h c → suc k ≤ c)
          → ((c : ℕ) → c < C → suc k ≤ c → Marks h c) → ((c : ℕ) → Keeps h c → ⊥) → ((j n : ℕ) → h ≡ reading j n → ⊥)
          → Right (go (put_arrive s k (s.arrives k - (write_bit + n))) p q) (upd bit k 0)
      at q h lq gq a b c d = flip p k (U7 k n) q (upd s.arrives k (s.arrives k - (write_bit + n))) (upd bit k 0)
          on o e lv
          (λ d ne. rw lq (refl, refl, sym (pick_other k n d (λ z. ne (sym z)))))
          (λ d ne. upd_other s.arrives k (s.arrives k - (write_bit + n)) d ne)
          (λ d ne. upd_other bit k 0 d ne)
          (omega (arith, low))
          (rw lq
          (omega (
            arith,
            low,
            stood,
            has,
            pick_same k n,
            upd_same s.arrives k (s.arrives k - (write_bit + n)),
          )))
          (rw lq (omega arith))
          h
          gq
          (λ x m w. kept x m (a x m w))
          (λ x m w. b x m (back x m w))
          (λ x m w. absurd (c x w))
          (λ j n w. absurd (d j n w))

      by : (b : Bool) → ltb (suc k) C ≡ b
          → Right
          (go (put_arrive s k (s.arrives k - (write_bit + n))) p
          (cond b (U6 (suc k)) (U8 1)))
          (upd bit k 0)
      by true z = at (U6 (suc k)) (lowering (suc k)) refl refl
          (λ c m w. w)
          (λ c m w. w)
          (λ c w. w)
          (λ j n e. let z : ◌≡◌ {A = ℕ} 0 1 = cc in omega arith)
      by false z = at (U8 1) shut refl refl
          (λ c m w. absurd w)
          (λ c m w. omega (arith, ltb-false (suc k) C z))
          (λ c w. w)
          (λ j n e. let z : ◌≡◌ {A = ℕ} 0 1 = cc in omega arith)

  -- rows that leave the rank's load and gate as they were
  abbrev Plain : ℕ → Place → Place → Type 0
  Plain p f g = (gate_of g (s.statuses (T.node p (status_level g)))
      ≡ gate_of f (s.statuses (T.node p (status_level f))))
      × (load_of (L.home p) g ≡ load_of (L.home p) f)

  -- such a row
  plain : (p : ℕ) (f g : Place) → s.place p ≡ f → Plain p f g → Right (go s p g) bit
  plain p f g e h =
      still s.statuses p g (h.0 ∙ sym (gate_at T s p f e)) (h.1 ∙ sym (ap (load_of (L.home p)) e)) (λ q a. refl)

  -- and one that also writes the own STATUS
  owned : (p i u : ℕ) (f g : Place) → s.place p ≡ f → On (T.own_level p) i → holds_from T (view T s) p ≤ suc i
      → gate_of g (upd s.statuses (T.node p i) u (T.node p (status_level g)))
      ≡ gate_of f (s.statuses (T.node p (status_level f))) → load_of (L.home p) g ≡ load_of (L.home p) f
      → Right (go (put_status s (T.node p i) u) p g) bit
  owned p i u f g e on lv x y = still (upd s.statuses (T.node p i) u) p g (x ∙ sym (gate_at T s p f e))
      (y ∙ sym (ap (load_of (L.home p)) e))
      (λ q a. gate_status p i u on lv q a)

  -- W6 at level 1 begins with the bits
  count_W6 : (p i : ℕ) → On P p → s.place p ≡ W6 i → Right (row L s p (W6 i)) bit
  count_W6 p i onp e = by (leb 2 i) refl
    where
      was : phase T s p ≡ hold i
      was = phase_at T s p (W6 i) e

      on : On (T.own_level p) i
      on = subst (InRange (T.own_level p)) was (inv.range p)

      lv : holds_from T (view T s) p ≡ i
      lv = ap (hold_level (T.own_level p)) was

      by : (b : Bool) → leb 2 i ≡ b → Right (go (put_status s (T.node p i) 0) p (cond b (W1 (pred i)) (W7 0))) bit
      by true z = owned p i 0 (W6 i) (W1 (pred i)) e on (omega (arith, lv)) refl refl
      by false z = tallied P C L.reader_threshold (tally L (go s p (W7 0)) bit)
          (tally L (go (put_status s (T.node p i) 0) p (W7 0)) bit)
          (λ q. refl)
          (split p
          (λ q. gate T (go s p (W7 0)) q ≡ gate T (go (put_status s (T.node p i) 0) p (W7 0)) q)
          (gate_now T s p (W7 0) ∙ sym (gate_now T (put_status s (T.node p i) 0) p (W7 0)))
          (λ q a.
          gate_other T s p (W7 0) q a
          ∙ (sym (gate_status p i 0 on (omega (arith, lv)) q a)
          ∙ sym (gate_other T (put_status s (T.node p i) 0) p (W7 0) q a))))
          (λ c. refl)
          (λ c. refl)
          (λ c. refl)
          (turn p (W6 i) (W7 0) onp (omega (arith, on)) e (omega (arith, lv, leb-false 2 i z)) refl refl (raising 0)
          refl
          (λ c m w. absurd (omega arith))
          (λ c m w. absurd (subst (λ h. Marks h c) (gate_at T s p (W6 i) e) w))
          (λ c m w. absurd w)
          (λ j n e. absurd (let z : ◌≡◌ {A = ℕ} 0 1 = cc in omega arith)))

  -- W5 enters with the bits that were handed over
  count_W5 : (p i : ℕ) → s.place p ≡ W5 i → Right (row L s p (W5 i)) bit
  count_W5 p i e = by (eqb w WAIT) (leb w most_hand_overs) (eqb w (told_status i)) refl refl
    where
      w : ℕ
      w = s.statuses (T.node p i)

      by : (a b c : Bool) → eqb w WAIT ≡ a → leb w most_hand_overs ≡ b
          → Right (cond a s (cond b (go s p Writer) (cond c (go s p (W6 i)) s))) bit
      by true b c x y = v.counted
      by false true c x y = plain p (W5 i) Writer e (rw (x, y) (refl, refl))
      by false false true x y = plain p (W5 i) (W6 i) e (rw (x, y) (refl, refl))
      by false false false x y = v.counted

  -- a hand-over: the gates after the STATUS of the successor becomes u
  module _ (p h i t u : ℕ) (f : Place) (e : s.place p ≡ f) (was : phase T s p ≡ give h i t) where
    n : Successor T (view T s) p i t
    n = successor T G (view T s) inv p h i t was

    -- the STATUS of the successor is written
    abbrev s₁ : Lock
    s₁ = put_status s (T.node n.rank i) u

    -- the successor is at W5
    at_r : s.place n.rank ≡ W5 i
    at_r = only_W5 (s.place n.rank) (s.statuses (T.node n.rank (status_level (s.place n.rank)))) i
        n.waits

    -- it is another rank
    r≢p : n.rank ≢ p
    r≢p z = subst (λ f. Waits f i) (sym n.waits ∙ (ap (phase T s) z ∙ was)) refl

    lv : holds_from T (view T s) n.rank ≤ suc i
    lv = rw n.waits (omega arith)

    -- the gate of the giver after it
    gate_p : gate T (go s₁ p (done L s p i)) p ≡ shut
    gate_p = gate_now T s₁ p (done L s p i)
        ∙ cond_both (eqb i (T.own_level p)) Idle (U8 (suc i))
        (λ g. (w : ℕ) → gate_of g w ≡ shut)
        (λ _ w. refl)
        (λ _ w. refl)
        (s₁.statuses (T.node p (status_level (done L s p i))))

    -- the gate of the taker
    gate_r : gate T (go s₁ p (done L s p i)) n.rank ≡ gate_of (W5 i) u
    gate_r = gate_other T s₁ p (done L s p i) n.rank r≢p
        ∙ (gate_at T s₁ n.rank (W5 i) at_r ∙ ap (gate_of (W5 i)) (upd_same s.statuses (T.node n.rank i) u))

    -- all other gates
    gate_o : (q : ℕ) → q ≢ p → q ≢ n.rank → gate T (go s₁ p (done L s p i)) q ≡ gate T s q
    gate_o q a b = gate_other T s₁ p (done L s p i) q a ∙ gate_status n.rank i u n.on lv q b

    -- no load changes
    loads : load_of (L.home p) f ≡ none → (q : ℕ) → load q ≡ load' p (done L s p i) q
    loads z = split p
        (λ q. load q ≡ load' p (done L s p i) q)
        (ap (load_of (L.home p)) e
        ∙ (z
        ∙ (cond_both (eqb i (T.own_level p)) Idle (U8 (suc i))
        (λ g. none ≡ load_of (L.home p) g)
        (λ _. refl)
        (λ _. refl) ∙ sym (load_now p (done L s p i)))))
        (λ q a. sym (load_other p (done L s p i) q a))

  -- U3: the bits go with the section
  count_U3 : (p i t n : ℕ) → On (T.own_level p) 1 → s.place p ≡ U3 i t n → Right (row L s p (U3 i t n)) bit
  count_U3 p i t u o e =
      let was : phase T s p ≡ give 1 i t = phase_at T s p (U3 i t u) e in
      let m = n p 1 i t u (U3 i t u) e was in
      let so = subst (Sound L s.statuses p) e (v.fine.sound p) in
      let wd : gate_of (W5 i) u ≡ wide =
      rw (
        ne_eqb u WAIT (omega (arith, so.0, small i)),
        le-leb u most_hand_overs (omega (arith, so.0, small i)),
      ) in
      subst
      (λ y. Right (go (put_status s y u) p (done L s p i)) bit)
      (sym m.target)
      (tallied P C L.reader_threshold
      (record {
        load = load;
        gate = gate T (go (put_status s (T.node m.rank i) u) p (done L s p i));
        arrives = s.arrives;
        departs = s.departs;
        bit = bit;
      })
      (tally L (go (put_status s (T.node m.rank i) u) p (done L s p i)) bit)
      (loads p 1 i t u (U3 i t u) e was refl)
      (λ q. refl)
      (λ c. refl)
      (λ c. refl)
      (λ c. refl)
      (traded P C L.reader_threshold (tally L s bit) v.counted p m.rank
      (gate T (go (put_status s (T.node m.rank i) u) p (done L s p i))) (record {
        was = gate_at T s p (U3 i t u) e;
        alone = alone p o (rw was (omega arith));
        gives = gate_p p 1 i t u (U3 i t u) e was;
        takes = gate_r p 1 i t u (U3 i t u) e was ∙ wd;
        gates = gate_o p 1 i t u (U3 i t u) e was;
      })))

  -- U9: neither of the two stands for a bit
  count_U9 : (p i t : ℕ) → s.place p ≡ U9 i t → Right (row L s p (U9 i t)) bit
  count_U9 p i t e =
      let was : phase T s p ≡ give i i t = phase_at T s p (U9 i t) e in
      let u = told_status i in
      let m = n p i i t u (U9 i t) e was in
      let on : (1 ≤ i) × (i ≤ i) × (i ≤ T.own_level p) = subst (InRange (T.own_level p)) was (inv.range p) in
      let big : (WAIT < told_status i) × (most_hand_overs < told_status i) = told_large i in
      let told : gate_of (W5 i) u ≡ shut = rw (ne_eqb u WAIT (omega arith), lt-leb u most_hand_overs (omega arith)) in
      let lr : holds_from T (view T s) m.rank ≡ suc i = ap (hold_level (T.own_level m.rank)) m.waits in
      let before : gate T s m.rank ≡ shut =
      ⊎_elim
      (λ (z : gate T s m.rank ≡ shut). z)
      (λ (z : (holds_from T (view T s) m.rank ≡ 1) × On (T.own_level m.rank) 1). absurd (omega arith))
      (gate_phase (T.own_level m.rank) (s.place m.rank)
      (s.statuses (T.node m.rank (status_level (s.place m.rank)))) (inv.range m.rank)) in
      subst
      (λ y. Right (go (put_status s y u) p (done L s p i)) bit)
      (sym m.target)
      (tallied P C L.reader_threshold (tally L s bit)
      (tally L (go (put_status s (T.node m.rank i) u) p (done L s p i)) bit)
      (loads p i i t u (U9 i t) e was refl)
      (split₂ p m.rank
      (λ q. gate T s q ≡ gate T (go (put_status s (T.node m.rank i) u) p (done L s p i)) q)
      (gate_at T s p (U9 i t) e ∙ sym (gate_p p i i t u (U9 i t) e was))
      (before ∙ (sym told ∙ sym (gate_r p i i t u (U9 i t) e was)))
      (λ q a b. sym (gate_o p i i t u (U9 i t) e was q a b)))
      (λ c. refl)
      (λ c. refl)
      (λ c. refl)
      v.counted)

  -- two ways that are both plain
  two : (p : ℕ) (f : Place) (b : Bool) (g h : Place) → Plain p f g → Plain p f h → Plain p f (cond b g h)
  two p f b g h x y = cond_both b g h (Plain p f) (λ _. x) (λ _. y)

  -- U5 hands over, or begins to clear the bits
  count_U5 : (p n : ℕ) → On P p → On (T.own_level p) 1 → s.place p ≡ U5 n → Right (row L s p (U5 n)) bit
  count_U5 p n onp o e = by (eqb (s.nexts (T.node p 1)) 0) (ltb n (L.hand_over_limit p 1))
    where
      g : gate T s p ≡ wide
      g = gate_at T s p (U5 n) e

      lower : Right (go s p (U6 0)) bit
      lower = turn p (U5 n) (U6 0) onp o e (level_1 p (U5 n) e (λ w. refl)) refl refl (lowering 0) refl
          (λ c m w. rw g tt)
          (λ c m w. omega arith)
          (λ c m w. absurd w)
          (λ j n e. absurd (let z : ◌≡◌ {A = ℕ} 0 1 = cc in omega arith))

      by : (a b : Bool) → Right (go s p (cond a (U6 0) (cond b (U3 1 (s.nexts (T.node p 1)) (suc n)) (U6 0)))) bit
      by true b = lower
      by false true = plain p (U5 n) (U3 1 (s.nexts (T.node p 1)) (suc n)) e (refl, refl)
      by false false = lower

  -- U10 touches no counter
  count_U10 : (p i : ℕ) → s.place p ≡ U10 i → Right (row L s p (U10 i)) bit
  count_U10 p i e = by (eqb (s.tails (T.element p i)) (T.node p i))
    where
      by : (b : Bool) → Right (cond b (go (free s (T.element p i)) p (done L s p i)) (go s p (U8 i))) bit
      by true = plain p (U10 i) (done L s p i) e
          (two p (U10 i) (eqb i (T.own_level p)) Idle (U8 (suc i)) (refl, refl) (refl, refl))
      by false = plain p (U10 i) (U8 i) e (refl, refl)

  -- the write bits after a row: W7 sets one, U7 clears one
  abbrev pub bits : Place → ℕ → ℕ
  bits Idle = bit
  bits (W1 i) = bit
  bits (W2 i) = bit
  bits (W3 i) = bit
  bits (W4 i t) = bit
  bits (W5 i) = bit
  bits (W6 i) = bit
  bits (W7 k) = upd bit k 1
  bits (W8 k) = bit
  bits (W9 k n) = bit
  bits (U1 i) = bit
  bits (U2 i n) = bit
  bits (U3 i t n) = bit
  bits U4 = bit
  bits (U5 n) = bit
  bits (U6 k) = bit
  bits (U7 k n) = upd bit k 0
  bits (U8 i) = bit
  bits (U9 i t) = bit
  bits (U10 i) = bit
  bits R1 = bit
  bits R2 = bit
  bits R3 = bit
  bits R4 = bit
  bits R5 = bit
  bits (R6 n) = bit
  bits R7 = bit
  bits Writer = bit
  bits Reader = bit

  -- every row keeps the counters
  pub count_row : (p : ℕ) → On P p → On (T.own_level p) 1 → (f : Place) → s.place p ≡ f
      → Right (row L s p f) (bits f)
  count_row p on o Idle e = v.counted
  count_row p on o (W1 i) e = plain p (W1 i) (W2 i) e (refl, refl)
  count_row p on o (W2 i) e =
      let was = phase_at T s p (W2 i) e in
      owned p i WAIT (W2 i) (W3 i) e (subst (InRange (T.own_level p)) was (inv.range p)) (rw was (omega arith)) refl
      refl
  count_row p on o (W3 i) e = plain p (W3 i)
      (cond (eqb (s.tails (T.element p i)) 0) (W6 i) (W4 i (s.tails (T.element p i)))) e
      (two p (W3 i) (eqb (s.tails (T.element p i)) 0) (W6 i) (W4 i (s.tails (T.element p i))) (refl, refl)
      (refl, refl))
  count_row p on o (W4 i t) e =
      let so = subst (Sound L s.statuses p) e (v.fine.sound p) in
      plain p (W4 i t) (W5 i) e (rw (eq-eqb (s.statuses (T.node p i)) WAIT so.0) (refl, refl))
  count_row p on o (W5 i) e = count_W5 p i e
  count_row p on o (W6 i) e = count_W6 p i on e
  count_row p on o (W7 k) e = count_W7 p k on o (subst (Within C) e (v.within p)) e
  count_row p on o (W8 k) e = count_W8 p k on o (subst (Within C) e (v.within p)) e
  count_row p on o (W9 k n) e = count_W9 p k n on o (subst (Within C) e (v.within p)) e
  count_row p on o (U1 i) e = plain p (U1 i) (U2 i (s.statuses (T.node p i))) e (refl, refl)
  count_row p on o (U2 i n) e =
      let up = two p (U2 i n) (leb i 2) U4 (U1 (pred i)) (refl, refl) (refl, refl) in
      plain p (U2 i n)
      (cond (eqb (s.nexts (T.node p i)) 0) (cond (leb i 2) U4 (U1 (pred i)))
      (cond (ltb n (L.hand_over_limit p i)) (U3 i (s.nexts (T.node p i)) (suc n))
      (cond (leb i 2) U4 (U1 (pred i)))))
      e
      (two p (U2 i n) (eqb (s.nexts (T.node p i)) 0) (cond (leb i 2) U4 (U1 (pred i)))
      (cond (ltb n (L.hand_over_limit p i)) (U3 i (s.nexts (T.node p i)) (suc n))
      (cond (leb i 2) U4 (U1 (pred i))))
      up
      (two p (U2 i n) (ltb n (L.hand_over_limit p i)) (U3 i (s.nexts (T.node p i)) (suc n))
      (cond (leb i 2) U4 (U1 (pred i))) (refl, refl) up))
  count_row p on o (U3 i t n) e = count_U3 p i t n o e
  count_row p on o U4 e = plain p U4 (U5 (s.statuses (T.node p 1))) e (refl, refl)
  count_row p on o (U5 n) e = count_U5 p n on o e
  count_row p on o (U6 k) e = count_U6 p k on e
  count_row p on o (U7 k n) e = count_U7 p k n on o (subst (Within C) e (v.within p)) e
  count_row p on o (U8 i) e = plain p (U8 i)
      (cond (eqb (s.nexts (T.node p i)) 0) (U10 i) (U9 i (s.nexts (T.node p i)))) e
      (two p (U8 i) (eqb (s.nexts (T.node p i)) 0) (U10 i) (U9 i (s.nexts (T.node p i))) (refl, refl)
      (refl, refl))
  count_row p on o (U9 i t) e = count_U9 p i t e
  count_row p on o (U10 i) e = count_U10 p i e
  count_row p on o R1 e = count_R1 p on e
  count_row p on o R2 e = count_R2 p on e
  count_row p on o R3 e = plain p R3
      (cond (ltb (s.arrives (L.home p)) L.reader_threshold) R1
      (cond (leb write_bit (s.arrives (L.home p))) R3 R4))
      e
      (two p R3 (ltb (s.arrives (L.home p)) L.reader_threshold) R1
      (cond (leb write_bit (s.arrives (L.home p))) R3 R4) (refl, refl)
      (two p R3 (leb write_bit (s.arrives (L.home p))) R3 R4 (refl, refl) (refl, refl)))
  count_row p on o R4 e = plain p R4 (cond (eqb (s.tails (T.element p 1)) 0) R5 R3) e
      (two p R4 (eqb (s.tails (T.element p 1)) 0) R5 R3 (refl, refl) (refl, refl))
  count_row p on o R5 e = count_R5 p on e
  count_row p on o (R6 n) e = count_R6 p n on e
  count_row p on o R7 e = count_R7 p on e
  count_row p on o Writer e = v.counted
  count_row p on o Reader e = v.counted

  -- the counter's number of the new place is in range
  within_row : (p : ℕ) (g : Place) → Within C g → (q : ℕ) → Within C (upd s.place p g q)
  within_row p g h = split p
      (λ q. Within C (upd s.place p g q))
      (rw (upd_same s.place p g) h)
      (λ q a. rw (upd_other s.place p g q a) (v.within q))

  -- the counter that a record names is in range: after W5
  within_W5 : (p i : ℕ) (a b c : Bool) → (q : ℕ)
      → Within C ((cond a s (cond b (go s p Writer) (cond c (go s p (W6 i)) s))).place q)
  within_W5 p i true b c = v.within
  within_W5 p i false true c = within_row p Writer tt
  within_W5 p i false false true = within_row p (W6 i) tt
  within_W5 p i false false false = v.within

  -- after U10
  within_U10 : (p i : ℕ) (b : Bool) → (q : ℕ)
      → Within C ((cond b (go (free s (T.element p i)) p (done L s p i)) (go s p (U8 i))).place q)
  within_U10 p i true = within_row p (done L s p i)
      (cond_both (eqb i (T.own_level p)) (Idle) (U8 (suc i)) (Within C) (λ _. tt) (λ _. tt))
  within_U10 p i false = within_row p (U8 i) tt

  -- after every row
  within_all : (p : ℕ) (f : Place) → s.place p ≡ f → (q : ℕ) → Within C ((row L s p f).place q)
  within_all p Idle e = v.within
  within_all p (W1 i) e = within_row p (W2 i) (tt)
  within_all p (W2 i) e = within_row p (W3 i) (tt)
  within_all p (W3 i) e = within_row p
      (cond (eqb (s.tails (T.element p i)) 0) (W6 i) (W4 i (s.tails (T.element p i))))
      (cond_both (eqb (s.tails (T.element p i)) 0) (W6 i) (W4 i (s.tails (T.element p i))) (Within C)
      (λ _. tt)
      (λ _. tt))
  within_all p (W4 i t) e = within_row p (W5 i) (tt)
  within_all p (W5 i) e = within_W5 p i (eqb (s.statuses (T.node p i)) WAIT)
      (leb (s.statuses (T.node p i)) most_hand_overs) (eqb (s.statuses (T.node p i)) (told_status i))
  within_all p (W6 i) e = within_row p (cond (leb 2 i) (W1 (pred i)) (W7 0))
      (cond_both (leb 2 i) (W1 (pred i)) (W7 0) (Within C) (λ _. tt) (λ _. omega (arith, homes p)))
  within_all p (W7 k) e = within_row p (next L s p k (W8 0) W7)
      (cond_both (ltb (suc k) C) (W7 (suc k)) (W8 0) (Within C)
      (λ z. ltb-true (suc k) C z)
      (λ _. omega (arith, homes p)))
  within_all p (W8 k) e = within_row p (W9 k (s.arrives k)) (subst (Within C) e (v.within p))
  within_all p (W9 k n) e = within_row p (cond (eqb n (write_bit + s.departs k)) (next L s p k Writer W8) (W8 k))
      (cond_both (eqb n (write_bit + s.departs k)) (next L s p k Writer W8) (W8 k) (Within C)
      (λ _. cond_both (ltb (suc k) C) (W8 (suc k)) (Writer) (Within C) (λ z. ltb-true (suc k) C z) (λ _. tt))
      (λ _. subst (Within C) e (v.within p)))
  within_all p (U1 i) e = within_row p (U2 i (s.statuses (T.node p i))) (tt)
  within_all p (U2 i n) e = within_row p
      (cond (eqb (s.nexts (T.node p i)) 0) (cond (leb i 2) U4 (U1 (pred i)))
      (cond (ltb n (L.hand_over_limit p i)) (U3 i (s.nexts (T.node p i)) (suc n))
      (cond (leb i 2) U4 (U1 (pred i)))))
      (cond_both (eqb (s.nexts (T.node p i)) 0) (cond (leb i 2) U4 (U1 (pred i)))
      (cond (ltb n (L.hand_over_limit p i)) (U3 i (s.nexts (T.node p i)) (suc n))
      (cond (leb i 2) U4 (U1 (pred i))))
      (Within C)
      (λ _. cond_both (leb i 2) (U4) (U1 (pred i)) (Within C) (λ _. tt) (λ _. tt))
      (λ _.
      cond_both (ltb n (L.hand_over_limit p i)) (U3 i (s.nexts (T.node p i)) (suc n))
      (cond (leb i 2) U4 (U1 (pred i))) (Within C)
      (λ _. tt)
      (λ _. cond_both (leb i 2) (U4) (U1 (pred i)) (Within C) (λ _. tt) (λ _. tt))))
  within_all p (U3 i t n) e = within_row p (done L s p i)
      (cond_both (eqb i (T.own_level p)) (Idle) (U8 (suc i)) (Within C) (λ _. tt) (λ _. tt))
  within_all p U4 e = within_row p (U5 (s.statuses (T.node p 1))) (tt)
  within_all p (U5 n) e = within_row p
      (cond (eqb (s.nexts (T.node p 1)) 0) (U6 0)
      (cond (ltb n (L.hand_over_limit p 1)) (U3 1 (s.nexts (T.node p 1)) (suc n)) (U6 0)))
      (cond_both (eqb (s.nexts (T.node p 1)) 0) (U6 0)
      (cond (ltb n (L.hand_over_limit p 1)) (U3 1 (s.nexts (T.node p 1)) (suc n)) (U6 0)) (Within C)
      (λ _. omega (arith, homes p))
      (λ _.
      cond_both (ltb n (L.hand_over_limit p 1)) (U3 1 (s.nexts (T.node p 1)) (suc n)) (U6 0) (Within C)
      (λ _. tt)
      (λ _. omega (arith, homes p))))
  within_all p (U6 k) e = within_row p (U7 k (s.departs k)) (subst (Within C) e (v.within p))
  within_all p (U7 k n) e = within_row p (next L s p k (U8 1) U6)
      (cond_both (ltb (suc k) C) (U6 (suc k)) (U8 1) (Within C) (λ z. ltb-true (suc k) C z) (λ _. tt))
  within_all p (U8 i) e = within_row p (cond (eqb (s.nexts (T.node p i)) 0) (U10 i) (U9 i (s.nexts (T.node p i))))
      (cond_both (eqb (s.nexts (T.node p i)) 0) (U10 i) (U9 i (s.nexts (T.node p i))) (Within C)
      (λ _. tt)
      (λ _. tt))
  within_all p (U9 i t) e = within_row p (done L s p i)
      (cond_both (eqb i (T.own_level p)) (Idle) (U8 (suc i)) (Within C) (λ _. tt) (λ _. tt))
  within_all p (U10 i) e = within_U10 p i (eqb (s.tails (T.element p i)) (T.node p i))
  within_all p R1 e = within_row p (cond (ltb (s.arrives (L.home p)) L.reader_threshold) Reader R2)
      (cond_both (ltb (s.arrives (L.home p)) L.reader_threshold) (Reader) (R2) (Within C) (λ _. tt) (λ _. tt))
  within_all p R2 e = within_row p (R3) (tt)
  within_all p R3 e = within_row p
      (cond (ltb (s.arrives (L.home p)) L.reader_threshold) R1
      (cond (leb write_bit (s.arrives (L.home p))) R3 R4))
      (cond_both (ltb (s.arrives (L.home p)) L.reader_threshold) (R1)
      (cond (leb write_bit (s.arrives (L.home p))) R3 R4) (Within C)
      (λ _. tt)
      (λ _. cond_both (leb write_bit (s.arrives (L.home p))) (R3) (R4) (Within C) (λ _. tt) (λ _. tt)))
  within_all p R4 e = within_row p (cond (eqb (s.tails (T.element p 1)) 0) R5 R3)
      (cond_both (eqb (s.tails (T.element p 1)) 0) (R5) (R3) (Within C) (λ _. tt) (λ _. tt))
  within_all p R5 e = within_row p (R6 (s.departs (L.home p))) (tt)
  within_all p (R6 n) e = within_row p (R3) (tt)
  within_all p R7 e = within_row p (Idle) (tt)
  within_all p Writer e = v.within
  within_all p Reader e = v.within

  -- every row keeps the invariant
  pub safe_row : (p : ℕ) → On (T.own_level p) 1 → (f : Place) → s.place p ≡ f → Safe P L (row L s p f) (bits f)
  safe_row p o f e =
      record {
        fine = fine_row L G small s v.fine p o f e;
        counted = count_row p (ranks p o) o f e;
        within = within_all p f e;
      }

  -- and so does an ask to write
  pub safe_ask_write : (p : ℕ) → On (T.own_level p) 1 → s.place p ≡ Idle
      → Safe P L (go s p (W1 (T.own_level p))) bit
  safe_ask_write p o e =
      record {
        fine = fine_ask_write L G small s v.fine p o e;
        counted = plain p Idle (W1 (T.own_level p)) e (refl, refl);
        within = within_row p (W1 (T.own_level p)) tt;
      }

  -- an ask to read
  pub safe_ask_read : (p : ℕ) → s.place p ≡ Idle → Safe P L (go s p R1) bit
  safe_ask_read p e =
      record {
        fine = fine_ask_read L G small s v.fine p e;
        counted = plain p Idle R1 e (refl, refl);
        within = within_row p R1 tt;
      }

  -- a leave of a writer
  pub safe_leave_write : (p : ℕ) → s.place p ≡ Writer
      → Safe P L (go s p (cond (leb (T.own_level p) 1) U4 (U1 (T.own_level p)))) bit
  safe_leave_write p e =
      record {
        fine = fine_leave_write L G small s v.fine p e;
        counted = plain p Writer (cond (leb (T.own_level p) 1) U4 (U1 (T.own_level p))) e
            (two p Writer (leb (T.own_level p) 1) U4 (U1 (T.own_level p)) (refl, refl) (refl, refl));
        within = within_row p (cond (leb (T.own_level p) 1) U4 (U1 (T.own_level p)))
            (cond_both (leb (T.own_level p) 1) U4 (U1 (T.own_level p)) (Within C) (λ _. tt) (λ _. tt));
      }

  -- and a leave of a reader
  pub safe_leave_read : (p : ℕ) → On P p → s.place p ≡ Reader → Safe P L (go s p R7) bit
  safe_leave_read p on e =
      record {
        fine = fine_leave_read L G small s v.fine p e;
        counted = count_leave p on e;
        within = within_row p R7 tt;
      }

  -- a writer is in: no reader is
  pub no_reader : (p q : ℕ) → On (T.own_level q) 1 → s.place p ≡ Writer → s.place q ≡ Reader → ⊥
  no_reader p q o a b = v.counted.kept p (L.home q) (homes q) (rw (gate_at T s p Writer a) tt) q (ranks q o)
      (ap (load_of (L.home q)) b)
