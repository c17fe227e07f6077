-- The second stage of the way back: writers go to idle, while no reader is in or on its way. Some rank can move that
-- does not wait. Its number, the moves ahead on the longest way without a repeat, falls by one to three moves of that
-- rank: W9 may read once more, and then succeeds since the counter is drained; U10 may have to look again, and then
-- finds its successor linked; where the successor has yet to link itself, that one moves. No other rank's number
-- changes.
use Rattle.std.proofs.Common.{◌≡◌, ℕ, pred, ◌+◌, ◌-◌, ◌*◌, ◌<◌, ◌≤◌, cond, leb, ◌≢◌, ◌⊎◌, sym, refl, ap, ◌∙◌, subst, inl, inr, ⊎_elim, arith}
use Rattle.std.proofs.lemmas.Bool.{cases_eq, ne_eqb}
use Rattle.std.proofs.lemmas.Bool.Decides.{nat_tests}
use Rattle.places.specs.Words.{most_hand_overs}
use Rattle.queues.specs.Machine.{Tree, On, Phase, out, fresh, clean, ready, link, wait, hold, give, hold_level}
use Rattle.queues.specs.Machine.{InRange, Inv}
use Rattle.queues.specs.Counters.{write_bit, tries, admits, clears, Marks}
use Rattle.queues.specs.Table.{Place, Idle, W1, W2, W3, W4, W5, W6, W7, W8, W9, U1, U2, U3, U4, U5, U6, U7, U8, U9}
use Rattle.queues.specs.Table.{U10, R1, R2, R3, R4, R5, R6, R7, Writer, Reader, Plan, Lock, upd, phase_of}
use Rattle.queues.specs.Table.{status_level, phase, view, Sound, go, row}
use Rattle.queues.specs.Invariant.{load_of, Within, tally}
use Rattle.queues.specs.Moves.{tag, Apt}
use Rattle.queues.proofs.OneHolder.{one_holder}
use Rattle.queues.proofs.Cases.{split}
use Rattle.queues.proofs.Phases.{upd_same, upd_other}
use Rattle.queues.proofs.QueueRows.{phase_at}
use Rattle.queues.proofs.CounterRows.{gate_at}
use Rattle.queues.proofs.Progress.{Able, waits_or, Mover, mover, Follower, follower, passes}
use Rattle.queues.proofs.Reach.{Reach, here, Sum, Lower, descend}
use Rattle.queues.proofs.FirstStage.{Good, Busy, stage_1, row_other, by_step, by_leave_write, lowers}

-- the phase does not wait
abbrev NoWait : Phase → Type 0
NoWait out = Unit {0}
NoWait (fresh i) = Unit {0}
NoWait (clean i) = Unit {0}
NoWait (ready i) = Unit {0}
NoWait (link i t) = Unit {0}
NoWait (wait i) = ⊥
NoWait (hold h) = Unit {0}
NoWait (give h i t) = Unit {0}

-- from the words to the test
no_wait : (f : Phase) → ((i : ℕ) → f ≢ wait i) → NoWait f
no_wait f h = grind (arith, nat_tests)

-- inside as writer, W9 and U10: they may want a leave, or more than one move
abbrev Odd : Place → Type 0
Odd f = (tag f ≡ 9) ⊎ ((tag f ≡ 19) ⊎ (tag f ≡ 27))

-- the number of a writer: how many moves lie ahead on the longest way without a repeat
abbrev pub number : ℕ → ℕ → Place → ℕ
number N C Idle = 0
number N C (W1 i) = (2 * C + 4 * N + 1) + 3 * C + 6 * pred i + 6
number N C (W2 i) = (2 * C + 4 * N + 1) + 3 * C + 6 * pred i + 5
number N C (W3 i) = (2 * C + 4 * N + 1) + 3 * C + 6 * pred i + 4
number N C (W4 i t) = (2 * C + 4 * N + 1) + 3 * C + 6 * pred i + 3
number N C (W5 i) = (2 * C + 4 * N + 1) + 3 * C + 6 * pred i + 2
number N C (W6 i) = (2 * C + 4 * N + 1) + 3 * C + 6 * pred i + 1
number N C (W7 k) = (2 * C + 4 * N + 1) + 3 * C - k
number N C (W8 k) = (2 * C + 4 * N + 1) + 2 * (C - k)
number N C (W9 k n) = (2 * C + 4 * N + 1) + 2 * (C - k) - 1
number N C (U1 i) = 2 * C + 2 * N + 2 * pred i + 2
number N C (U2 i n) = 2 * C + 2 * N + 2 * pred i + 1
number N C (U3 i t n) = 2 * (N - i) + 1
number N C U4 = 2 * C + 2 * N + 2
number N C (U5 n) = 2 * C + 2 * N + 1
number N C (U6 k) = 2 * N + 2 * (C - k)
number N C (U7 k n) = 2 * N + 2 * (C - k) - 1
number N C (U8 i) = 2 * (N - i) + 2
number N C (U9 i t) = 2 * (N - i) + 1
number N C (U10 i) = 2 * (N - i) + 1
number N C R1 = 0
number N C R2 = 0
number N C R3 = 0
number N C R4 = 0
number N C R5 = 0
number N C (R6 n) = 0
number N C R7 = 0
number N C Writer = (2 * C + 4 * N + 1)
number N C Reader = 0

-- a row that neither waits nor repeats lowers the number
falls : (L : Plan) (s : Lock) (p : ℕ) (f : Place) → 0 < L.counters → On (L.tree.own_level p) 1 → Able L s p f
    → number (L.tree.own_level p) L.counters ((row L s p f).place p)
    < number (L.tree.own_level p) L.counters f
unfolding upd
falls L s p f c o a = grind (arith, nat_tests)

-- a writer that does not wait is able, or at one of the three odd places
able_or : (L : Plan) (s : Lock) (p : ℕ) (f : Place) → ((q j : ℕ) → L.hand_over_limit q j ≤ most_hand_overs)
    → InRange (L.tree.own_level p) (phase_of f (s.statuses (L.tree.node p (status_level f))))
    → Sound L s.statuses p f → Within L.counters f
    → NoWait (phase_of f (s.statuses (L.tree.node p (status_level f))))
    → 0 < number (L.tree.own_level p) L.counters f → Able L s p f ⊎ Odd f
able_or L s p f c r so w n a = grind (arith, nat_tests)

-- the three odd places
odd_is : (f : Place) → Odd f → (f ≡ Writer) ⊎ (((k : ℕ) × (n : ℕ) × (f ≡ W9 k n)) ⊎ ((i : ℕ) × (f ≡ U10 i)))
odd_is f o = grind (arith, nat_tests)

-- such a row makes nobody a reader
able_quiet : (L : Plan) (s : Lock) (p : ℕ) (f : Place) → Able L s p f → Busy f × (stage_1 ((row L s p f).place p) ≡ 0)
unfolding upd
able_quiet L s p f a = grind (arith, nat_tests)

-- who holds something has a number above 0
holds_ahead : (N C : ℕ) (f : Place) (w : ℕ) → Within C f → InRange N (phase_of f w) → hold_level N (phase_of f w) ≤ N
    → On N 1 × (0 < number N C f)
holds_ahead N C f w a r l = grind (arith, nat_tests)

-- who is about to link itself is at W4
only_W4 : (f : Place) (w i t : ℕ) → phase_of f w ≡ link i t → f ≡ W4 i t
only_W4 f w i t e = grind (arith, nat_tests)

-- after the first stage a load is that of a writer at U7, or nothing
loads : (c : ℕ) (f : Place) (k : ℕ) → stage_1 f ≡ 0
    → (tries (load_of c f) k ≡ 0) × (admits (load_of c f) k ≡ 0)
    × ((clears (load_of c f) k ≡ 0) ⊎ ((j : ℕ) × (n : ℕ) × (f ≡ U7 j n)))
loads c f k h = grind (arith, nat_tests)

-- a leave lowers the number
leave_falls : (L : Plan) (p : ℕ) → On (L.tree.own_level p) 1
    → (stage_1 (cond (leb (L.tree.own_level p) 1) U4 (U1 (L.tree.own_level p))) ≡ 0)
    × (number (L.tree.own_level p) L.counters (cond (leb (L.tree.own_level p) 1) U4 (U1 (L.tree.own_level p)))
    < number (L.tree.own_level p) L.counters Writer)
leave_falls L p o = grind (arith, nat_tests)

module _ (P : ℕ) (L : Plan) (g : Apt P L) where
  abbrev T : Tree
  T = L.tree

  abbrev C : ℕ
  C = L.counters

  -- what stays true all through the stage: the invariant, and no reader is inside, at R2, R6 or R7
  abbrev pub Quiet : Lock → Type 0
  Quiet s = Good P L s × ((q : ℕ) → On P q → stage_1 (s.place q) ≡ 0)

  -- the number of a rank in this stage
  abbrev pub stage_2 : ℕ → Place → ℕ
  stage_2 q f = number (T.own_level q) C f

  -- the sum has fallen, and the stage goes on
  abbrev Less : Lock → Lock → Type 0
  Less = Lower P L stage_2 Quiet

  -- the end of one to three moves of rank p
  ends : (s t : Lock) (p : ℕ) → On P p → Quiet s → Good P L t → ((q : ℕ) → q ≢ p → t.place q ≡ s.place q)
      → stage_1 (t.place p) ≡ 0 → stage_2 p (t.place p) < stage_2 p (s.place p) → Reach P L (Less s) t
  ends s t p on v w e z l = here t (
    (w, split p (λ q. On P q → stage_1 (t.place q) ≡ 0) (λ _. z) (λ q a o. ap stage_1 (e q a) ∙ v.1 q o)),
    lowers P L g stage_2 s t p on e l,
  )

  -- a row that lowers the number
  one_move : (s : Lock) → Quiet s → (p : ℕ) → On P p → (f : Place) → s.place p ≡ f → Able L s p f
      → Reach P L (Less s) s
  one_move s v p on f e a =
      let d = able_quiet L s p f a in
      by_step P L g (Less s) s v.0 p on f e d.0
      (λ w.
      ends s (row L s p f) p on v w
      (λ q n. row_other L s p f q n)
      d.1
      (rw e (falls L s p f (omega (arith, g.sensible.homes p)) (g.all p on) a)))

  -- a leave
  one_leave : (s : Lock) → Quiet s → (p : ℕ) → On P p → s.place p ≡ Writer → Reach P L (Less s) s
  one_leave s v p on e =
      let f : Place = cond (leb (T.own_level p) 1) U4 (U1 (T.own_level p)) in
      let d = leave_falls L p (g.all p on) in
      by_leave_write P L g (Less s) s v.0 p on e
      (λ w.
      ends s (go s p f) p on v w
      (λ q n. upd_other s.place p f q n)
      (rw (upd_same s.place p f) d.0)
      (rw (upd_same s.place p f, e) d.1))

  -- the counter is drained: W8 reads what W9 wants
  drained : (s : Lock) → Quiet s → (p k n : ℕ) → On P p → s.place p ≡ W9 k n → k < C
      → s.arrives k ≡ write_bit + s.departs k
  drained s v p k n on e lt = passes P C L.reader_threshold (tally L s v.0.bit) v.0.safe.counted k lt
      (v.0.safe.counted.marked p k lt (subst (λ x. Marks x k) (sym (gate_at T s p (W9 k n) e)) tt))
      (λ q o. nothing q o (loads (L.home q) (s.place q) k (v.1 q o)))
    where
      alone : (q j m : ℕ) → On P q → s.place q ≡ U7 j m → ⊥
      alone q j m o u =
          let z : q ≡ p =
          one_holder T g.sensible.tree (view T s) v.0.safe.fine.queues q p 1 (g.all q o) (g.all p on)
          (rw (phase_at T s q (U7 j m) u) (omega arith)) (rw (phase_at T s p (W9 k n) e) (omega arith))
          (g.sensible.root q p (g.all q o) (g.all p on)) in
          let y : W9 k n ≡ U7 j m = sym e ∙ (ap s.place (sym z) ∙ u) in let x : ◌≡◌ {A = ℕ} 0 1 = cc in omega arith

      nothing : (q : ℕ) → On P q
          → (tries (load_of (L.home q) (s.place q)) k ≡ 0) × (admits (load_of (L.home q) (s.place q)) k ≡ 0)
          × ((clears (load_of (L.home q) (s.place q)) k ≡ 0) ⊎ ((j : ℕ) × (m : ℕ) × (s.place q ≡ U7 j m)))
          → (tries (load_of (L.home q) (s.place q)) k ≡ 0) × (admits (load_of (L.home q) (s.place q)) k ≡ 0)
          × (clears (load_of (L.home q) (s.place q)) k ≡ 0)
      nothing q o h = (
        h.0,
        h.1,
        ⊎_elim
            (λ (z : clears (load_of (L.home q) (s.place q)) k ≡ 0). z)
            (λ (z : (j : ℕ) × (m : ℕ) × (s.place q ≡ U7 j m)). absurd (alone q z.0 z.1 o z.2))
            h.2,
      )

  -- W9, one move or three
  check_again : (s : Lock) → Quiet s → (p k n : ℕ) → On P p → s.place p ≡ W9 k n → Reach P L (Less s) s
  check_again s v p k n on e = by (cases_eq n (write_bit + s.departs k))
    where
      lt : k < C
      lt = subst (Within C) e (v.0.safe.within p)

      s₁ : Lock
      s₁ = go s p (W8 k)

      s₂ : Lock
      s₂ = go s₁ p (W9 k (s.arrives k))

      able : Able L s₂ p (W9 k (s.arrives k))
      able = (lt, drained s v p k n on e lt)

      third : Good P L s₂ → Reach P L (Less s) s₂
      third w =
          let d = able_quiet L s₂ p (W9 k (s.arrives k)) able in
          by_step P L g (Less s) s₂ w p on (W9 k (s.arrives k)) (upd_same s₁.place p (W9 k (s.arrives k))) d.0
          (λ x.
          ends s (row L s₂ p (W9 k (s.arrives k))) p on v x
          (λ q a.
          row_other L s₂ p (W9 k (s.arrives k)) q a
          ∙ (upd_other s₁.place p (W9 k (s.arrives k)) q a ∙ upd_other s.place p (W8 k) q a))
          d.1
          (rw e (falls L s₂ p (W9 k (s.arrives k)) (omega (arith, g.sensible.homes p)) (g.all p on) able)))

      second : Good P L s₁ → Reach P L (Less s) s₁
      second w = by_step P L g (Less s) s₁ w p on (W8 k) (upd_same s.place p (W8 k)) (omega arith) third

      by : (n ≡ write_bit + s.departs k) ⊎ (n ≡ write_bit + s.departs k → ⊥) → Reach P L (Less s) s
      by (inl z) = one_move s v p on (W9 k n) e (lt, z)
      by (inr z) = by_step P L g (Less s) s v.0 p on (W9 k n) e (omega arith)
          (rw (ne_eqb n (write_bit + s.departs k) z) second)

  -- U10, one move or three, or a move of the rank that is about to link itself
  last_or_not : (s : Lock) → Quiet s → (p i : ℕ) → On P p → s.place p ≡ U10 i → Reach P L (Less s) s
  last_or_not s v p i on e = by (cases_eq (s.tails (T.element p i)) (T.node p i))
    where
      inv : Inv T (view T s)
      inv = v.0.safe.fine.queues

      was : phase T s p ≡ hold i
      was = phase_at T s p (U10 i) e

      oi : On (T.own_level p) i
      oi = subst (InRange (T.own_level p)) was (inv.range p)

      t : ℕ
      t = s.nexts (T.node p i)

      s₁ : Lock
      s₁ = go s p (U8 i)

      s₂ : Lock
      s₂ = go s₁ p (U9 i t)

      third : Good P L s₂ → Reach P L (Less s) s₂
      third w =
          let d = able_quiet L s₂ p (U9 i t) oi in
          by_step P L g (Less s) s₂ w p on (U9 i t) (upd_same s₁.place p (U9 i t)) d.0
          (λ x.
          ends s (row L s₂ p (U9 i t)) p on v x
          (λ q a.
          row_other L s₂ p (U9 i t) q a
          ∙ (upd_other s₁.place p (U9 i t) q a ∙ upd_other s.place p (U8 i) q a))
          d.1
          (rw e (falls L s₂ p (U9 i t) (omega (arith, g.sensible.homes p)) (g.all p on) oi)))

      second : t ≢ 0 → Good P L s₁ → Reach P L (Less s) s₁
      second z w = by_step P L g (Less s) s₁ w p on (U8 i) (upd_same s.place p (U8 i)) (omega arith)
          (rw (ne_eqb t 0 z) third)

      other : s.tails (T.element p i) ≢ T.node p i → (m : Follower T (view T s) p i)
          → ((phase T s m.rank ≡ wait i) × (t ≡ T.node m.rank i))
          ⊎ (phase T s m.rank ≡ link i (T.node p i)) → Reach P L (Less s) s
      other z m (inl y) = by_step P L g (Less s) s v.0 p on (U10 i) e (omega arith)
          (rw (ne_eqb (s.tails (T.element p i)) (T.node p i) z)
          (second (λ x. g.sensible.tree.no_zero m.rank i m.on (sym y.1 ∙ x))))
      other z m (inr y) = one_move s v m.rank (g.sensible.ranks m.rank (omega (arith, m.on)))
          (W4 i (T.node p i))
          (only_W4 (s.place m.rank) (s.statuses (T.node m.rank (status_level (s.place m.rank)))) i
          (T.node p i) y)
          tt

      by : (s.tails (T.element p i) ≡ T.node p i) ⊎ (s.tails (T.element p i) ≡ T.node p i → ⊥)
          → Reach P L (Less s) s
      by (inl z) = one_move s v p on (U10 i) e (oi, z)
      by (inr z) = let m = follower T g.sensible.tree (view T s) inv p i was z in other z m m.how

  -- a rank that does not wait
  free_move : (s : Lock) → Quiet s → (p : ℕ) → On P p → ((i : ℕ) → phase T s p ≢ wait i) → 0 < stage_2 p (s.place p)
      → Reach P L (Less s) s
  free_move s v p on n h = by
      (able_or L s p (s.place p) g.sensible.small (v.0.safe.fine.queues.range p) (v.0.safe.fine.sound p)
      (v.0.safe.within p) (no_wait (phase T s p) n) h)
    where
      odd : (s.place p ≡ Writer) ⊎ (((k : ℕ) × (n : ℕ) × (s.place p ≡ W9 k n)) ⊎ ((i : ℕ) × (s.place p ≡ U10 i)))
          → Reach P L (Less s) s
      odd (inl e) = one_leave s v p on e
      odd (inr (inl e)) = check_again s v p e.0 e.1 on e.2
      odd (inr (inr e)) = last_or_not s v p e.0 on e.1

      by : Able L s p (s.place p) ⊎ Odd (s.place p) → Reach P L (Less s) s
      by (inl a) = one_move s v p on (s.place p) refl a
      by (inr o) = odd (odd_is (s.place p) o)

  -- somebody moves
  somebody : (s : Lock) → Quiet s → (p : ℕ) → On P p → 0 < stage_2 p (s.place p) → Reach P L (Less s) s
  somebody s v p on h = by (waits_or (phase T s p))
    where
      inv : Inv T (view T s)
      inv = v.0.safe.fine.queues

      other : Mover T (view T s) → Reach P L (Less s) s
      other m =
          let d =
          holds_ahead (T.own_level m.rank) C (s.place m.rank)
          (s.statuses (T.node m.rank (status_level (s.place m.rank)))) (v.0.safe.within m.rank)
          (inv.range m.rank) m.holds in
          free_move s v m.rank (g.sensible.ranks m.rank d.0) m.free d.1

      by : ((i : ℕ) × (phase T s p ≡ wait i)) ⊎ ((i : ℕ) → phase T s p ≢ wait i) → Reach P L (Less s) s
      by (inl w) = other (mover T g.sensible.tree (view T s) inv w.0 w.0 p (omega arith) w.1)
      by (inr n) = free_move s v p on n h

  -- stage 2: no writer is left
  pub stage_two : (s : Lock) → Quiet s → Reach P L (λ t. Quiet t × ((q : ℕ) → On P q → stage_2 q (t.place q) ≡ 0)) s
  stage_two s v = descend P L stage_2 Quiet somebody (Sum P L stage_2 Quiet s) s v (omega arith)
