-- The third stage of the way back: readers at R3 go to idle, one by one. With everyone idle or at R3 all queues are
-- empty, no write bit stands, and ARRIVE is DEPART. So a reader at R3 comes in and leaves, in four moves; where
-- ARRIVE has reached the threshold it first takes DEPART out of both words, in four more. Then every rank is idle,
-- and the words are at rest.
use Rattle.std.proofs.Common.{◌≡◌, ℕ, suc, ◌-◌, ◌<◌, ◌≤◌, cond, eqb, ◌≢◌, ◌⊎◌, refl, ap, ◌∙◌, subst, inl, inr, ⊎_elim, arith}
use Rattle.std.proofs.lemmas.Bool.{cases_lt, eq-eqb, lt-ltb, le-ltb, lt-leb}
use Rattle.std.proofs.lemmas.Bool.Decides.{nat_tests}
use Rattle.queues.specs.Machine.{holds_from, Tree, On, hold_level, Inv}
use Rattle.queues.specs.Counters.{Load, write_bit, total, tries, admits, clears, Marks, shut, none}
use Rattle.queues.specs.Table.{Place, Idle, R1, R3, R4, R5, R6, R7, Reader, Plan, Lock, status_level, view, go}
use Rattle.queues.specs.Table.{put_arrive, put_depart, row}
use Rattle.queues.specs.Invariant.{load_of, gate, Within}
use Rattle.queues.specs.Moves.{tag, AtRest, Apt, WayBack}
use Rattle.queues.proofs.Sums.{total_none}
use Rattle.queues.proofs.Cases.{split}
use Rattle.queues.proofs.Phases.{upd_same, upd_other}
use Rattle.queues.proofs.QueueRows.{phase_at}
use Rattle.queues.proofs.CounterRows.{gate_phase}
use Rattle.queues.proofs.Exclusion.{safe_job}
use Rattle.queues.proofs.Reach.{Reach, here, as_list, onwards, Sum, Lower, descend}
use Rattle.queues.proofs.FirstStage.{Good, stage_1, by_step, by_leave_read, lowers, stage_one}
use Rattle.queues.proofs.SecondStage.{number, Quiet, stage_2, stage_two}

-- idle, or at R3
abbrev Still : Place → Type 0
Still f = (f ≡ Idle) ⊎ (f ≡ R3)

-- what the first two stages leave
still_place : (N C : ℕ) (f : Place) → Within C f → stage_1 f ≡ 0 → number N C f ≡ 0 → Still f
still_place N C f w a b = grind (arith, nat_tests)

-- such a rank has no load
still_none : (c : ℕ) (f : Place) → Still f → load_of c f ≡ none
still_none c f h = grind (arith, nat_tests)

-- the number of a reader that waits
abbrev stage_3 : Place → ℕ
stage_3 f = cond (eqb (tag f) 22) 1 0

-- who has a number in this stage is at R3
waits_R3 : (f : Place) → 0 < stage_3 f → f ≡ R3
waits_R3 f h = grind (arith, nat_tests)

-- who has none is idle
still_idle : (f : Place) → Still f → stage_3 f ≡ 0 → f ≡ Idle
still_idle f h z = grind (arith, nat_tests)

-- the words where every rank is idle or at R3
pub record Calm (L : Plan) (s : Lock) : Type 0 where
  pub tails : (k : ℕ) → s.tails k ≡ 0
  pub counts : (c : ℕ) → c < L.counters → s.arrives c ≡ s.departs c
  pub small : (c : ℕ) → c < L.counters → s.departs c ≤ L.reader_threshold

module _ (P : ℕ) (L : Plan) (g : Apt P L) where
  abbrev T : Tree
  T = L.tree

  -- the invariant holds, and every rank is idle or at R3
  abbrev pub Resting : Lock → Type 0
  Resting s = Good P L s × ((q : ℕ) → On P q → Still (s.place q))

  -- such ranks hold nothing
  still_phase : (s : Lock) → Resting s → (q : ℕ) → On (T.own_level q) 1
      → holds_from T (view T s) q ≡ suc (T.own_level q)
  still_phase s v q o = ⊎_elim
      (λ (e : s.place q ≡ Idle). ap (hold_level (T.own_level q)) (phase_at T s q Idle e))
      (λ (e : s.place q ≡ R3). ap (hold_level (T.own_level q)) (phase_at T s q R3 e))
      (v.1 q (g.sensible.ranks q o))

  -- and stand for no bit
  still_gate : (s : Lock) → Resting s → (q c : ℕ) → Marks (gate T s q) c → ⊥
  still_gate s v q c m = ⊎_elim
      (λ (z : gate T s q ≡ shut). subst (λ x. Marks x c) z m)
      (λ (z : (holds_from T (view T s) q ≡ 1) × On (T.own_level q) 1).
      absurd (omega (arith, still_phase s v q z.1)))
      (gate_phase (T.own_level q) (s.place q) (s.statuses (T.node q (status_level (s.place q))))
      (v.0.safe.fine.queues.range q))

  -- so the words are calm
  pub calm : (s : Lock) → Resting s → Calm L s
  calm s v =
      record {
        tails = λ k. inv.empty k (nobody k (cases_lt (s.head_turn k) (s.next_turn k)));
        counts = λ c l. (sums c l).0;
        small = λ c l. (sums c l).1;
      }
    where
      inv : Inv T (view T s)
      inv = v.0.safe.fine.queues

      -- nobody holds, so nobody stands in a queue
      nobody : (k : ℕ) → (s.head_turn k < s.next_turn k) ⊎ (s.next_turn k ≤ s.head_turn k)
          → s.head_turn k ≡ s.next_turn k
      nobody k (inl z) =
          let h = inv.holder k z in
          absurd (omega (arith, h.holds, h.on, still_phase s v h.rank (omega (arith, h.on))))
      nobody k (inr z) = omega (arith, inv.order k)

      weightless : (w : Load → ℕ → ℕ) (c : ℕ) → w none c ≡ 0
          → total P (λ q. w (load_of (L.home q) (s.place q)) c) ≡ 0
      weightless w c e = total_none P (λ q. w (load_of (L.home q) (s.place q)) c)
          (λ q on. ap (λ l. w l c) (still_none (L.home q) (s.place q) (v.1 q on)) ∙ e)

      -- nobody has a load or stands for a bit
      sums : (c : ℕ) → c < L.counters → (s.arrives c ≡ s.departs c) × (s.departs c ≤ L.reader_threshold)
      sums c l =
          let o = v.0.safe.counted.each c l in
          let x = weightless tries c refl in
          let y = weightless admits c refl in
          let z = weightless clears c refl in
          let b : v.0.bit c ≢ 1 = λ w. still_gate s v (o.stands w).0 c (o.stands w).1 in
          (omega (arith, o.sum, o.bits), omega (arith, o.small))

  -- a rank has come home, and nobody else has moved
  pub record Home (s : Lock) (p : ℕ) (t : Lock) : Type 0 where
    pub good : Good P L t
    pub others : (q : ℕ) → q ≢ p → t.place q ≡ s.place q
    pub now : t.place p ≡ Idle

  -- R3, R1, in, R7
  in_and_out : (s₀ s : Lock) → Good P L s → (p : ℕ) → On P p → ((q : ℕ) → q ≢ p → s.place q ≡ s₀.place q)
      → s.place p ≡ R3 → s.arrives (L.home p) < L.reader_threshold → Reach P L (Home s₀ p) s
  in_and_out s₀ s v p on h e l =
      by_step P L g (Home s₀ p) s v p on R3 e (omega arith) (rw (lt-ltb (s.arrives c) L.reader_threshold l) second)
    where
      c : ℕ
      c = L.home p

      s₁ : Lock
      s₁ = go s p R1

      s₂ : Lock
      s₂ = go (put_arrive s₁ c (suc (s.arrives c))) p Reader

      s₃ : Lock
      s₃ = go s₂ p R7

      s₄ : Lock
      s₄ = row L s₃ p R7

      fourth : Good P L s₃ → Reach P L (Home s₀ p) s₃
      fourth w = by_step P L g (Home s₀ p) s₃ w p on R7 (upd_same s₂.place p R7) (omega arith)
          (λ x.
          here s₄ (record {
            good = x;
            others = λ q a.
                upd_other s₃.place p Idle q a
                ∙ (upd_other s₂.place p R7 q a
                ∙ (upd_other s₁.place p Reader q a ∙ (upd_other s.place p R1 q a ∙ h q a)));
            now = upd_same s₃.place p Idle;
          }))

      third : Good P L s₂ → Reach P L (Home s₀ p) s₂
      third w = by_leave_read P L g (Home s₀ p) s₂ w p on (upd_same s₁.place p Reader) fourth

      second : Good P L s₁ → Reach P L (Home s₀ p) s₁
      second w = by_step P L g (Home s₀ p) s₁ w p on R1 (upd_same s.place p R1) (omega arith)
          (rw (lt-ltb (s.arrives c) L.reader_threshold l) third)

  -- R3, R4, R5, R6, and then as above
  clear_first : (s : Lock) → Resting s → (p : ℕ) → On P p → s.place p ≡ R3
      → L.reader_threshold ≤ s.arrives (L.home p) → Reach P L (Home s p) s
  clear_first s v p on e l = by_step P L g (Home s p) s v.0 p on R3 e (omega arith)
      (rw (
        le-ltb (s.arrives c) L.reader_threshold l,
        lt-leb write_bit (s.arrives c) (omega (arith, all.counts c hc, all.small c hc, g.less)),
      )
      second)
    where
      c : ℕ
      c = L.home p

      hc : c < L.counters
      hc = g.sensible.homes p

      all : Calm L s
      all = calm s v

      n : ℕ
      n = s.departs c

      s₁ : Lock
      s₁ = go s p R4

      s₂ : Lock
      s₂ = go s₁ p R5

      s₃ : Lock
      s₃ = go (put_depart s₂ c 0) p (R6 n)

      s₄ : Lock
      s₄ = go (put_arrive s₃ c (s.arrives c - n)) p R3

      fifth : Good P L s₄ → Reach P L (Home s p) s₄
      fifth w = in_and_out s s₄ w p on
          (λ q a.
          upd_other s₃.place p R3 q a
          ∙ (upd_other s₂.place p (R6 n) q a
          ∙ (upd_other s₁.place p R5 q a ∙ upd_other s.place p R4 q a)))
          (upd_same s₃.place p R3)
          (omega (arith, upd_same s.arrives c (s.arrives c - n), all.counts c hc, g.some))

      fourth : Good P L s₃ → Reach P L (Home s p) s₃
      fourth w = by_step P L g (Home s p) s₃ w p on (R6 n) (upd_same s₂.place p (R6 n)) (omega arith) fifth

      third : Good P L s₂ → Reach P L (Home s p) s₂
      third w = by_step P L g (Home s p) s₂ w p on R5 (upd_same s₁.place p R5) (omega arith) fourth

      second : Good P L s₁ → Reach P L (Home s p) s₁
      second w = by_step P L g (Home s p) s₁ w p on R4 (upd_same s.place p R4) (omega arith)
          (rw (eq-eqb (s.tails (T.element p 1)) 0 (all.tails (T.element p 1))) third)

  -- one reader goes home, and the sum falls
  one_home : (s : Lock) → Resting s → (p : ℕ) → On P p → 0 < stage_3 (s.place p)
      → Reach P L (Lower P L (λ q. stage_3) Resting s) s
  one_home s v p on h = onwards P L (Home s p) (Lower P L (λ q. stage_3) Resting s) home s
      (⊎_elim
      (λ (z : s.arrives (L.home p) < L.reader_threshold). in_and_out s s v.0 p on (λ q a. refl) e z)
      (λ (z : L.reader_threshold ≤ s.arrives (L.home p)). clear_first s v p on e z)
      (cases_lt (s.arrives (L.home p)) L.reader_threshold))
    where
      e : s.place p ≡ R3
      e = waits_R3 (s.place p) h

      home : (t : Lock) → Home s p t → Reach P L (Lower P L (λ q. stage_3) Resting s) t
      home t m = here t (
        (
          m.good,
          split p
              (λ q. On P q → Still (t.place q))
              (λ _. inl m.now)
              (λ q a o. rw (m.others q a) (v.1 q o)),
        ),
        lowers P L g (λ q. stage_3) s t p on m.others (rw (m.now, e) (omega arith)),
      )

  -- stage 3: every rank is idle
  pub stage_three : (s : Lock) → Resting s
      → Reach P L (λ t. Resting t × ((q : ℕ) → On P q → stage_3 (t.place q) ≡ 0)) s
  stage_three s v = descend P L (λ q. stage_3) Resting one_home (Sum P L (λ q. stage_3) Resting s) s v (omega arith)

  -- all idle: nothing is left in the words
  pub rests : (s : Lock) → Good P L s → ((q : ℕ) → On P q → s.place q ≡ Idle) → AtRest P L s
  rests s v h = let c = calm s (v, λ q on. inl (h q on)) in record { idles = h; tails = c.tails; counts = c.counts }

  -- the three stages one after the other
  pub back : (s : Lock) → Good P L s → Reach P L (AtRest P L) s
  back s v = onwards P L (λ t. Quiet P L g t) (AtRest P L) second s (stage_one P L g s v)
    where
      third : (t : Lock) → Resting t × ((q : ℕ) → On P q → stage_3 (t.place q) ≡ 0) → Reach P L (AtRest P L) t
      third t w = here t (rests t w.0.0 (λ q on. still_idle (t.place q) (w.0.1 q on) (w.1 q on)))

      second : (t : Lock) → Quiet P L g t → Reach P L (AtRest P L) t
      second t w = onwards P L
          (λ u. Quiet P L g u × ((q : ℕ) → On P q → stage_2 P L g q (u.place q) ≡ 0))
          (AtRest P L)
          (λ u x.
          onwards P L
          (λ y. Resting y × ((q : ℕ) → On P q → stage_3 (y.place q) ≡ 0))
          (AtRest P L)
          third
          u
          (stage_three u (
            x.0.0,
            λ q on.
                still_place (T.own_level q) L.counters (u.place q) (x.0.0.safe.within q)
                (x.0.1 q on) (x.1 q on),
          )))
          t
          (stage_two P L g t w)

-- from every state of a job there is a way back to idle
pub way_back : WayBack
way_back P L g s j =
    let w = safe_job P L g.sensible s j in
    as_list P L (AtRest P L) s (back P L g s (record { bit = w.0; safe = w.1 }))
