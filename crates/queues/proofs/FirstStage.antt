-- Steps and leaves keep the invariant, and are accepted where it holds. With that the first stage of the way back:
-- readers go to idle or R3. A reader's number is the most moves that it can make before that: three at R1 and R4, two
-- at R5 and inside, one at R2, R6 and R7. Every move lowers it and leaves the others' alone.
use Rattle.std.proofs.Common.{◌≡◌, ℕ, ◌<◌, ◌≤◌, cond, leb, ◌≢◌, ◌⊎◌, sym, refl, ap, ◌∙◌, subst, inl, inr, arith}
use Rattle.std.proofs.lemmas.Bool.Decides.{nat_tests}
use Rattle.places.specs.Words.{most_hand_overs}
use Rattle.queues.specs.Machine.{Tree, Lawful, On, Phase, out, fresh, clean, ready, link, wait, hold, give, InRange}
use Rattle.queues.specs.Machine.{State, Inv, Linking}
use Rattle.queues.specs.Counters.{total}
use Rattle.queues.specs.Table.{Place, Idle, W1, W2, W3, W4, W5, W6, W7, W8, W9, U1, U2, U3, U4, U5, U6, U7, U8, U9}
use Rattle.queues.specs.Table.{U10, R1, R2, R3, R4, R5, R6, R7, Writer, Reader, Plan, Lock, upd, phase_of}
use Rattle.queues.specs.Table.{status_level, phase, view, Sound, go, row}
use Rattle.queues.specs.Invariant.{Within, Safe}
use Rattle.queues.specs.Moves.{tag, Node, Step, Leave, Accepts, In, exit, Accepted, Apt}
use Rattle.queues.proofs.OneHolder.{Occupant, occupant, Successor, successor, asked}
use Rattle.queues.proofs.Phases.{upd_same, upd_other}
use Rattle.queues.proofs.CounterRows.{bits, safe_row, safe_leave_write, safe_leave_read}
use Rattle.queues.proofs.Progress.{sum_falls}
use Rattle.queues.proofs.Reach.{Reach, here, move, Sum, Lower, descend}

-- the invariant holds, with some write bits
pub record Good (P : ℕ) (L : Plan) (s : Lock) : Type 0 where
  pub bit : ℕ → ℕ
  pub safe : Safe P L s bit

-- a place with a row
abbrev pub Busy : Place → Type 0
Busy f = (1 ≤ tag f) × (tag f ≤ 26)

-- the field t of a place, where it has one, is a node
abbrev pub Aims : Tree → Place → Type 0
Aims T Idle = Unit {0}
Aims T (W1 i) = Unit {0}
Aims T (W2 i) = Unit {0}
Aims T (W3 i) = Unit {0}
Aims T (W4 i t) = Node T t
Aims T (W5 i) = Unit {0}
Aims T (W6 i) = Unit {0}
Aims T (W7 k) = Unit {0}
Aims T (W8 k) = Unit {0}
Aims T (W9 k n) = Unit {0}
Aims T (U1 i) = Unit {0}
Aims T (U2 i n) = Unit {0}
Aims T (U3 i t n) = Node T t
Aims T U4 = Unit {0}
Aims T (U5 n) = Unit {0}
Aims T (U6 k) = Unit {0}
Aims T (U7 k n) = Unit {0}
Aims T (U8 i) = Unit {0}
Aims T (U9 i t) = Node T t
Aims T (U10 i) = Unit {0}
Aims T R1 = Unit {0}
Aims T R2 = Unit {0}
Aims T R3 = Unit {0}
Aims T R4 = Unit {0}
Aims T R5 = Unit {0}
Aims T (R6 n) = Unit {0}
Aims T R7 = Unit {0}
Aims T Writer = Unit {0}
Aims T Reader = Unit {0}

-- a row touches its own rank's place alone
pub row_other : (L : Plan) (s : Lock) (p : ℕ) (f : Place) (q : ℕ) → q ≢ p → (row L s p f).place q ≡ s.place q
unfolding upd
row_other L s p f q a = grind (arith, nat_tests)

-- a step is accepted where the invariant holds
accepts : (L : Plan) (s : Lock) (p : ℕ) (f : Place) → ((q j : ℕ) → L.hand_over_limit q j ≤ most_hand_overs)
    → InRange (L.tree.own_level p) (phase_of f (s.statuses (L.tree.node p (status_level f))))
    → Sound L s.statuses p f → Within L.counters f → Aims L.tree f → Busy f → Accepts L s p f
accepts L s p f c r so w a b = grind (arith, nat_tests)

-- what a rank is about to link itself to is the node of a rank
pub link_aims : (T : Tree) → Lawful T → (s : State) → Inv T s → (p i t : ℕ) → s.phases p ≡ link i t → Node T t
link_aims T G s v p i t e =
    let l : Linking T s p i t = asked T s v p (link i t) e in
    let o : Occupant T s (T.element p i) l.spot.turn =
    occupant T G s v (T.element p i) l.spot.turn l.spot.low (omega (arith, l.spot.high)) in
    record { rank = o.rank; level = o.level; on = o.on; is = l.target ∙ o.is }

-- and so is what a rank hands over to
pub give_aims : (T : Tree) → Lawful T → (s : State) → Inv T s → (p h i t : ℕ) → s.phases p ≡ give h i t → Node T t
give_aims T G s v p h i t e =
    let n : Successor T s p i t = successor T G s v p h i t e in
    record { rank = n.rank; level = i; on = n.on; is = n.target }

-- the same, said of the phase
abbrev Targets : Tree → Phase → Type 0
Targets T out = Unit {0}
Targets T (fresh i) = Unit {0}
Targets T (clean i) = Unit {0}
Targets T (ready i) = Unit {0}
Targets T (link i t) = Node T t
Targets T (wait i) = Unit {0}
Targets T (hold h) = Unit {0}
Targets T (give h i t) = Node T t

-- a rank's target is a node
targets : (T : Tree) → Lawful T → (s : State) → Inv T s → (p : ℕ) (f : Phase) → s.phases p ≡ f → Targets T f
targets T G s v p out e = tt
targets T G s v p (fresh i) e = tt
targets T G s v p (clean i) e = tt
targets T G s v p (ready i) e = tt
targets T G s v p (link i t) e = link_aims T G s v p i t e
targets T G s v p (wait i) e = tt
targets T G s v p (hold h) e = tt
targets T G s v p (give h i t) e = give_aims T G s v p h i t e

-- from the phase to the place
aims : (T : Tree) (f : Place) (w : ℕ) → Targets T (phase_of f w) → Aims T f
aims T f w a = grind (arith, nat_tests)

-- the number of a reader: the most moves until it is idle or at R3
abbrev pub stage_1 : Place → ℕ
stage_1 Idle = 0
stage_1 (W1 i) = 0
stage_1 (W2 i) = 0
stage_1 (W3 i) = 0
stage_1 (W4 i t) = 0
stage_1 (W5 i) = 0
stage_1 (W6 i) = 0
stage_1 (W7 k) = 0
stage_1 (W8 k) = 0
stage_1 (W9 k n) = 0
stage_1 (U1 i) = 0
stage_1 (U2 i n) = 0
stage_1 (U3 i t n) = 0
stage_1 U4 = 0
stage_1 (U5 n) = 0
stage_1 (U6 k) = 0
stage_1 (U7 k n) = 0
stage_1 (U8 i) = 0
stage_1 (U9 i t) = 0
stage_1 (U10 i) = 0
stage_1 R1 = 3
stage_1 R2 = 1
stage_1 R3 = 0
stage_1 R4 = 3
stage_1 R5 = 2
stage_1 (R6 n) = 1
stage_1 R7 = 1
stage_1 Writer = 0
stage_1 Reader = 2

-- a step of a reader that has a number lowers it
reader_falls : (L : Plan) (s : Lock) (p : ℕ) (f : Place) → 0 < stage_1 f → f ≢ Reader
    → Busy f × (stage_1 ((row L s p f).place p) < stage_1 f)
unfolding upd
reader_falls L s p f a b = grind (arith, nat_tests)

-- inside as reader, or not
reads_or : (f : Place) → (f ≡ Reader) ⊎ (f ≢ Reader)
reads_or f = grind (arith, nat_tests)

module _ (P : ℕ) (L : Plan) (g : Apt P L) where
  abbrev T : Tree
  T = L.tree

  -- a step of a rank that has a row is accepted
  pub accept : (s : Lock) → Good P L s → (p : ℕ) → On P p → Busy (s.place p) → Accepted P L s (Step p)
  accept s v p on b =
      let q = v.safe.fine.queues in
      let a : Aims T (s.place p) =
      aims T (s.place p) (s.statuses (T.node p (status_level (s.place p))))
      (targets T g.sensible.tree (view T s) q p (phase T s p) refl) in (
        on,
        accepts L s p (s.place p) g.sensible.small (q.range p) (v.safe.fine.sound p) (v.safe.within p) a b,
      )

  -- and keeps the invariant
  pub good_step : (s : Lock) → Good P L s → (p : ℕ) → On P p → Good P L (row L s p (s.place p))
  good_step s v p on =
      let e = g.sensible in
      record {
        bit = bits P L e s v.bit v.safe
            (s.place p);
        safe = safe_row P L e s v.bit
            v.safe p (g.all p on) (s.place p) refl;
      }

  -- so does a leave of a reader
  pub good_leave_read : (s : Lock) → Good P L s → (p : ℕ) → On P p → s.place p ≡ Reader → Good P L (go s p R7)
  good_leave_read s v p on a =
      let e = g.sensible in
      record {
        bit = v.bit;
        safe = safe_leave_read P L e s v.bit
            v.safe p on a;
      }

  -- and of a writer
  pub good_leave_write : (s : Lock) → Good P L s → (p : ℕ) → On P p → s.place p ≡ Writer
      → Good P L (go s p (cond (leb (T.own_level p) 1) U4 (U1 (T.own_level p))))
  good_leave_write s v p on a =
      let e = g.sensible in
      record {
        bit = v.bit;
        safe = safe_leave_write P L e s
            v.bit v.safe p a;
      }

  -- the moves at a known place: what the state after it reaches, the state before it reaches
  pub by_step : (Q : Lock → Type 0) (s : Lock) → Good P L s → (p : ℕ) → On P p → (f : Place) → s.place p ≡ f → Busy f
      → (Good P L (row L s p f) → Reach P L Q (row L s p f)) → Reach P L Q s
  by_step Q s v p on f e b r = move s (Step p) (accept s v p on (subst Busy (sym e) b))
      (subst
      (λ f. (Good P L (row L s p f) → Reach P L Q (row L s p f)) → Reach P L Q (row L s p (s.place p)))
      e
      (λ k. k (good_step s v p on))
      r)

  -- the same with a leave of a reader
  pub by_leave_read : (Q : Lock → Type 0) (s : Lock) → Good P L s → (p : ℕ) → On P p → s.place p ≡ Reader
      → (Good P L (go s p R7) → Reach P L Q (go s p R7)) → Reach P L Q s
  by_leave_read Q s v p on e r = move s (Leave p) (on, subst In (sym e) (omega arith))
      (subst (λ f. Reach P L Q (go s p (exit L p f))) (sym e) (r (good_leave_read s v p on e)))

  -- and of a writer
  pub by_leave_write : (Q : Lock → Type 0) (s : Lock) → Good P L s → (p : ℕ) → On P p → s.place p ≡ Writer
      → (Good P L (go s p (cond (leb (T.own_level p) 1) U4 (U1 (T.own_level p))))
      → Reach P L Q (go s p (cond (leb (T.own_level p) 1) U4 (U1 (T.own_level p))))) → Reach P L Q s
  by_leave_write Q s v p on e r = move s (Leave p) (on, subst In (sym e) (omega arith))
      (subst (λ f. Reach P L Q (go s p (exit L p f))) (sym e) (r (good_leave_write s v p on e)))

  -- a rank's own number falls, and so does the sum
  pub lowers : (num : ℕ → Place → ℕ) (s t : Lock) (p : ℕ) → On P p → ((q : ℕ) → q ≢ p → t.place q ≡ s.place q)
      → num p (t.place p) < num p (s.place p)
      → total P (λ q. num q (t.place q)) < total P (λ q. num q (s.place q))
  lowers num s t p on e l =
      sum_falls P (λ q. num q (s.place q)) (λ q. num q (t.place q)) p on (λ q a. ap (num q) (e q a)) l

  -- one move of a reader lowers the sum
  one_reader : (s : Lock) → Good P L s → (p : ℕ) → On P p → 0 < stage_1 (s.place p)
      → Reach P L (Lower P L (λ q. stage_1) (Good P L) s) s
  one_reader s v p on h = by (reads_or (s.place p))
    where
      Q : Lock → Type 0
      Q = Lower P L (λ q. stage_1) (Good P L) s

      by : (s.place p ≡ Reader) ⊎ (s.place p ≢ Reader) → Reach P L Q s
      by (inl e) = by_leave_read Q s v p on e
          (λ w.
          here (go s p R7) (
            w,
            lowers
                (λ q. stage_1)
                s
                (go s p R7)
                p
                on
                (λ q a. upd_other s.place p R7 q a)
                (rw (upd_same s.place p R7, e) (omega arith)),
          ))
      by (inr n) =
          let d = reader_falls L s p (s.place p) h n in
          by_step Q s v p on (s.place p) refl d.0
          (λ w.
          here (row L s p (s.place p)) (
            w,
            lowers
                (λ q. stage_1)
                s
                (row L s p (s.place p))
                p
                on
                (λ q a. row_other L s p (s.place p) q a)
                d.1,
          ))

  -- stage 1: every reader is idle or at R3
  pub stage_one : (s : Lock) → Good P L s
      → Reach P L (λ t. Good P L t × ((q : ℕ) → On P q → stage_1 (t.place q) ≡ 0)) s
  stage_one s v =
      descend P L (λ q. stage_1) (Good P L) one_reader (Sum P L (λ q. stage_1) (Good P L) s) s v (omega arith)
