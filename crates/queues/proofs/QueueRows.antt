-- Each row, ask and leave keeps the queues and the statuses. A row is one of the five moves of OwnMoves, Join, Link,
-- HandOver and Release, or leaves all phases alone. A STATUS is written at a node that its own rank uses, or at the
-- successor's in a hand-over, and so changes what one rank finds.
use Rattle.std.proofs.Common.{◌≡◌, ℕ, suc, pred, ◌+◌, ◌-◌, ◌<◌, ◌≤◌, Bool, true, false, cond, eqb, ltb, leb, ◌≢◌, ◌⊎◌, sym, refl, ap, ◌∙◌, subst, inl, inr, ⊎_elim, arith}
use Rattle.std.proofs.lemmas.Bool.Decides.{nat_tests}
use Rattle.std.proofs.lemmas.Bool.{cases_eq, cases_order, cond_both, eqb-true, eqb-false, leb-true, leb-false, ltb-true}
use Rattle.places.specs.Words.{most_hand_overs}
use Rattle.queues.specs.Machine.{holds_from, Tree, Lawful, On, Phase, out, fresh, clean, ready, link, wait, hold}
use Rattle.queues.specs.Machine.{give, hold_level, InRange, Waits, Calm, Asks, Inv}
use Rattle.queues.specs.Counters.{write_bit}
use Rattle.queues.specs.Table.{Place, Idle, W1, W2, W3, W4, W5, W6, W7, W8, W9, U1, U2, U3, U4, U5, U6, U7, U8, U9}
use Rattle.queues.specs.Table.{with_counts, U10, R1, R2, R3, R4, R5, R6, R7, Writer, Reader, WAIT, told_status, Plan}
use Rattle.queues.specs.Table.{Lock, upd, phase_of, status_level, phase, view, Counts, Sound, Fine, go, put_status}
use Rattle.queues.specs.Table.{join, drop, free, done, next, row}
use Rattle.queues.specs.Jobs.{fresh_lock}
use Rattle.queues.proofs.OneHolder.{one_owner, one_holder, range_of, asked, Successor, successor}
use Rattle.queues.proofs.Cases.{split, calm_asks, calm_waits}
use Rattle.queues.proofs.OwnMoves.{prepared, kept_by}
use Rattle.queues.proofs.Link.{linked_up}
use Rattle.queues.proofs.Join.{joined_up}
use Rattle.queues.proofs.HandOver.{handed}
use Rattle.queues.proofs.Release.{retired}
use Rattle.queues.proofs.Phases.{upd_same, upd_other, phase_same, w5_wait, w5_count, w5_told, told_large, w5_level}
use Rattle.queues.proofs.Phases.{sound_same}

-- the phase of a rank whose place is known
pub phase_at : (T : Tree) (s : Lock) (p : ℕ) (f : Place) → s.place p ≡ f
    → phase T s p ≡ phase_of f (s.statuses (T.node p (status_level f)))
phase_at T s p f e = ap (λ g. phase_of g (s.statuses (T.node p (status_level g)))) e

-- the phase of the rank that moved
pub phase_now : (T : Tree) (s : Lock) (p : ℕ) (f : Place)
    → phase T (go s p f) p ≡ phase_of f (s.statuses (T.node p (status_level f)))
phase_now T s p f = phase_at T (go s p f) p f (upd_same s.place p f)

-- no other rank's phase changes by its going
pub phase_other : (T : Tree) (s : Lock) (p : ℕ) (f : Place) (q : ℕ) → q ≢ p → phase T (go s p f) q ≡ phase T s q
phase_other T s p f q a =
    ap (λ g. phase_of g (s.statuses (T.node q (status_level g)))) (upd_other s.place p f q a)

-- only W5 waits
w5_waits : (i j : ℕ) (a b : Bool) → cond a (wait j) (cond b (hold 1) (hold j)) ≡ wait i → W5 j ≡ W5 i
w5_waits i j true b e = cc
w5_waits i j false true e = cc
w5_waits i j false false e = cc

-- only W5 waits
pub only_W5 : (f : Place) (w i : ℕ) → phase_of f w ≡ wait i → f ≡ W5 i
only_W5 f w i e = grind (arith, nat_tests)

-- where a rank stands when it has let level i go: it holds all below, asks nothing, and is in range
pub done_ok : (top i : ℕ) → On top i → (b : Bool) → eqb i top ≡ b → (w : ℕ)
    → (hold_level top (phase_of (cond b Idle (U8 (suc i))) w) ≡ suc i) × Calm (phase_of (cond b Idle (U8 (suc i))) w)
    × InRange top (phase_of (cond b Idle (U8 (suc i))) w)
done_ok top i on true e w = (omega (arith, eqb-true i top e), tt, tt)
done_ok top i on false e w = let ne : i ≢ top = eqb-false i top e in (refl, tt, omega arith)

-- and that place says nothing of statuses
pub done_sound : (L : Plan) (statuses : ℕ → ℕ) (p i : ℕ) (b : Bool) → Sound L statuses p (cond b Idle (U8 (suc i)))
done_sound L statuses p i true = tt
done_sound L statuses p i false = tt

module _ (L : Plan) (G : Lawful L.tree) (small : (q j : ℕ) → L.hand_over_limit q j ≤ most_hand_overs) (s : Lock)
    (v : Fine L s) where
  abbrev T : Tree
  T = L.tree

  abbrev inv : Inv T (view T s)
  inv = v.queues

  -- a STATUS written at the node of one rank is no other's
  pub status_other : (o i u : ℕ) → On (T.own_level o) i → holds_from T (view T s) o ≤ suc i → (q j : ℕ) → q ≢ o
      → On (T.own_level q) j → holds_from T (view T s) q ≤ suc j
      → upd s.statuses (T.node o i) u (T.node q j) ≡ s.statuses (T.node q j)
  status_other o i u on l q j a on' l' = upd_other s.statuses (T.node o i) u (T.node q j)
      (λ z. a (one_owner T G (view T s) inv q o j i on' on l' l z).0)

  -- so it changes no other's phase
  phase_status : (o i u : ℕ) → On (T.own_level o) i → holds_from T (view T s) o ≤ suc i → (q : ℕ) → q ≢ o
      → phase T (put_status s (T.node o i) u) q ≡ phase T s q
  phase_status o i u on l q a = phase_same (s.place q) (s.statuses (T.node q (status_level (s.place q))))
      (upd s.statuses (T.node o i) u (T.node q (status_level (s.place q))))
      (λ j e.
      subst
      (λ f. upd s.statuses (T.node o i) u (T.node q (status_level f)) ≡ s.statuses (T.node q (status_level f)))
      (sym e)
      (status_other o i u on l q j a (subst (Sound L s.statuses q) e (v.sound q)).0
      (rw (phase_at T s q (W5 j) e) (w5_level (T.own_level q) j (s.statuses (T.node q j))))))

  -- and nothing that another's place says
  sound_status : (o i u : ℕ) → On (T.own_level o) i → holds_from T (view T s) o ≤ suc i → (q : ℕ) → q ≢ o
      → Sound L (upd s.statuses (T.node o i) u) q (s.place q)
  sound_status o i u on l q a = sound_same L small s.statuses (upd s.statuses (T.node o i) u) q (s.place q)
      (λ j on' l'. status_other o i u on l q j a on' l')
      (v.sound q)
      (inv.range q)

  -- a rank's new place, and the others'
  sound_go : (statuses : ℕ → ℕ) (p : ℕ) (f : Place) → Sound L statuses p f
      → ((q : ℕ) → q ≢ p → Sound L statuses q (s.place q)) → (q : ℕ) → Sound L statuses q (upd s.place p f q)
  sound_go statuses p f here there = split p
      (λ q. Sound L statuses q (upd s.place p f q))
      (rw (upd_same s.place p f) here)
      (λ q a. rw (upd_other s.place p f q a) (there q a))

  -- W1 clears the NEXT of the own node
  fine_W1 : (p i : ℕ) → s.place p ≡ W1 i → Fine L (row L s p (W1 i))
  fine_W1 p i e =
      let was : phase T s p ≡ fresh i = phase_at T s p (W1 i) e in
      let now : phase T (go s p (W2 i)) p ≡ clean i = phase_now T s p (W2 i) in
      let on : On (T.own_level p) i = range_of (phase T s p) (T.own_level p) (inv.range p) (fresh i) was in
      record {
        queues = kept_by T G (view T s) inv p (phase T (go s p (W2 i))) (upd s.nexts (T.node p i) 0) (record {
          levels = rw (now, was);
          in_range = rw now on;
          idle = λ j w. subst (λ f. Waits f j) was w;
          others = phase_other T s p (W2 i);
          words = λ y.
              ⊎_elim
              (λ (z : y ≡ T.node p i). inr (record { level = i; on = on; near = rw was refl; is = z }))
              (λ (z : y ≡ T.node p i → ⊥). inl (upd_other s.nexts (T.node p i) 0 y z))
              (cases_eq y (T.node p i));
          says = rw now (upd_same s.nexts (T.node p i) 0);
        });
        sound = sound_go s.statuses p (W2 i) (subst (Sound L s.statuses p) e (v.sound p)) (λ q a. v.sound q);
      }

  -- a rank's own statuses at other levels
  status_own : (p i u j : ℕ) → On (T.own_level p) i → On (T.own_level p) j → j ≢ i
      → upd s.statuses (T.node p i) u (T.node p j) ≡ s.statuses (T.node p j)
  status_own p i u j on on' ne =
      upd_other s.statuses (T.node p i) u (T.node p j) (λ z. ne (G.queue_of p p j i on' on z).0)

  -- a STATUS written at one level leaves the deeper ones
  counts_own : (p i u : ℕ) → On (T.own_level p) i → Counts L s.statuses p (suc i)
      → Counts L (upd s.statuses (T.node p i) u) p (suc i)
  counts_own p i u on c j a b = rw (status_own p i u j on (omega arith) (omega arith)) (c j a b)

  -- a move that writes no word of a queue
  moved : (p : ℕ) (g : Place) (arrives departs : ℕ → ℕ)
      → hold_level (T.own_level p) (phase_of g (s.statuses (T.node p (status_level g))))
      ≡ holds_from T (view T s) p
      → InRange (T.own_level p) (phase_of g (s.statuses (T.node p (status_level g))))
      → ((j : ℕ) → Waits (phase T s p) j → ⊥)
      → Asks T (prepared (view T s) (phase T (go s p g)) s.nexts) p
      (phase_of g (s.statuses (T.node p (status_level g)))) → Sound L s.statuses p g
      → Fine L (go (with_counts s arrives departs) p g)
  moved p g arrives departs lv rg ws ak so =
      let now : phase T (go s p g) p ≡ phase_of g (s.statuses (T.node p (status_level g))) = phase_now T s p g in
      record {
        queues = kept_by T G (view T s) inv p (phase T (go s p g)) s.nexts (record {
          levels = rw now lv;
          in_range = rw now rg;
          idle = ws;
          others = phase_other T s p g;
          words = λ y. inl refl;
          says = rw now ak;
        });
        sound = sound_go s.statuses p g so (λ q a. v.sound q);
      }

  -- W2 makes its STATUS WAIT
  fine_W2 : (p i : ℕ) → s.place p ≡ W2 i → Fine L (row L s p (W2 i))
  fine_W2 p i e =
      let s₁ : Lock = put_status s (T.node p i) WAIT in
      let was : phase T s p ≡ clean i = phase_at T s p (W2 i) e in
      let now : phase T (go s₁ p (W3 i)) p ≡ ready i = phase_now T s₁ p (W3 i) in
      let on : On (T.own_level p) i = range_of (phase T s p) (T.own_level p) (inv.range p) (clean i) was in
      let lv : holds_from T (view T s) p ≤ suc i = rw was (omega arith) in
      record {
        queues = kept_by T G (view T s) inv p (phase T (go s₁ p (W3 i))) s.nexts (record {
          levels = rw (now, was);
          in_range = rw now on;
          idle = λ j w. subst (λ f. Waits f j) was w;
          others = λ q a. phase_other T s₁ p (W3 i) q a ∙ phase_status p i WAIT on lv q a;
          words = λ y. inl refl;
          says = rw now (asked T (view T s) inv p (clean i) was);
        });
        sound = sound_go s₁.statuses p (W3 i) (
          upd_same s.statuses (T.node p i) WAIT,
          counts_own p i WAIT on (subst (Sound L s.statuses p) e (v.sound p)),
        )
            (λ q a. sound_status p i WAIT on lv q a);
      }

  -- W4 links
  fine_W4 : (p i t : ℕ) → s.place p ≡ W4 i t → Fine L (row L s p (W4 i t))
  fine_W4 p i t e =
      let was : phase T s p ≡ link i t = phase_at T s p (W4 i t) e in
      let so : (s.statuses (T.node p i) ≡ WAIT) × Counts L s.statuses p (suc i) =
      subst (Sound L s.statuses p) e (v.sound p) in
      let now : phase T (go s p (W5 i)) p ≡ wait i =
      phase_now T s p (W5 i) ∙ w5_wait i (s.statuses (T.node p i)) so.0 in
      let on : On (T.own_level p) i = range_of (phase T s p) (T.own_level p) (inv.range p) (link i t) was in
      record {
        queues = linked_up T G (view T s) inv p i t was (phase T (go s p (W5 i))) (upd s.nexts t (T.node p i))
            (record {
              after = now;
              others = phase_other T s p (W5 i);
              written = upd_same s.nexts t (T.node p i);
              words = λ y z. upd_other s.nexts t (T.node p i) y z;
            });
        sound = sound_go s.statuses p (W5 i) (on, so.1, inl so.0) (λ q a. v.sound q);
      }

  -- W5 waits, or goes on as it was told
  fine_W5 : (p i : ℕ) → s.place p ≡ W5 i → Fine L (row L s p (W5 i))
  fine_W5 p i e = by (eqb w WAIT) (leb w most_hand_overs) (eqb w (told_status i)) refl refl refl
    where
      w : ℕ
      w = s.statuses (T.node p i)

      so : On (T.own_level p) i × Counts L s.statuses p (suc i)
          × ((w ≡ WAIT) ⊎ ((w ≡ told_status i) ⊎ Counts L s.statuses p 1))
      so = subst (Sound L s.statuses p) e (v.sound p)

      all : w ≢ WAIT → w ≢ told_status i → Counts L s.statuses p 1
      all a b = ⊎_elim
          (λ (z : w ≡ WAIT). absurd (a z))
          (λ (z : (w ≡ told_status i) ⊎ Counts L s.statuses p 1).
          ⊎_elim (λ (y : w ≡ told_status i). absurd (b y)) (λ (y : Counts L s.statuses p 1). y) z)
          so.2

      by : (a b c : Bool) → eqb w WAIT ≡ a → leb w most_hand_overs ≡ b → eqb w (told_status i) ≡ c
          → Fine L (cond a s (cond b (go s p Writer) (cond c (go s p (W6 i)) s)))
      by true b c x y z = v
      by false true c x y z =
          let was : phase T s p ≡ hold 1 = phase_at T s p (W5 i) e ∙ w5_count i w (leb-true w most_hand_overs y) in
          moved p Writer s.arrives s.departs (rw was) (omega (arith, so.0))
          (λ j k. subst (λ f. Waits f j) was k)
          tt
          (all (eqb-false w WAIT x) (omega (arith, told_large i, leb-true w most_hand_overs y)))
      by false false true x y z =
          let was : phase T s p ≡ hold i =
          phase_at T s p (W5 i) e ∙ w5_told i w (eqb-false w WAIT x) (leb-false w most_hand_overs y) in
          moved p (W6 i) s.arrives s.departs (rw was) so.0 (λ j k. subst (λ f. Waits f j) was k) tt so.1
      by false false false x y z = v

  -- a rank writes its own STATUS
  wrote : (p i u : ℕ) (g : Place) → On (T.own_level p) i → holds_from T (view T s) p ≤ suc i
      → hold_level (T.own_level p) (phase_of g (upd s.statuses (T.node p i) u (T.node p (status_level g))))
      ≡ holds_from T (view T s) p
      → InRange (T.own_level p) (phase_of g (upd s.statuses (T.node p i) u (T.node p (status_level g))))
      → ((j : ℕ) → Waits (phase T s p) j → ⊥)
      → Calm (phase_of g (upd s.statuses (T.node p i) u (T.node p (status_level g))))
      → Sound L (upd s.statuses (T.node p i) u) p g → Fine L (go (put_status s (T.node p i) u) p g)
  wrote p i u g on l lv rg ws cm so =
      let s₁ : Lock = put_status s (T.node p i) u in
      let now : phase T (go s₁ p g) p ≡ phase_of g (s₁.statuses (T.node p (status_level g))) = phase_now T s₁ p g in
      record {
        queues = kept_by T G (view T s) inv p (phase T (go s₁ p g)) s.nexts (record {
          levels = rw now lv;
          in_range = rw now rg;
          idle = ws;
          others = λ q a. phase_other T s₁ p g q a ∙ phase_status p i u on l q a;
          words = λ y. inl refl;
          says = rw now
              (calm_asks T (prepared (view T s) (phase T (go s₁ p g)) s.nexts) p
              (phase_of g (s₁.statuses (T.node p (status_level g)))) cm);
        });
        sound = sound_go s₁.statuses p g so (λ q a. sound_status p i u on l q a);
      }

  -- W6 writes a count of 0 at the node that it holds
  fine_W6 : (p i : ℕ) → s.place p ≡ W6 i → Fine L (row L s p (W6 i))
  fine_W6 p i e = by (leb 2 i) refl
    where
      was : phase T s p ≡ hold i
      was = phase_at T s p (W6 i) e

      on : On (T.own_level p) i
      on = range_of (phase T s p) (T.own_level p) (inv.range p) (hold i) was

      lv : holds_from T (view T s) p ≡ i
      lv = ap (hold_level (T.own_level p)) was

      so : Counts L s.statuses p (suc i)
      so = subst (Sound L s.statuses p) e (v.sound p)

      so' : Counts L (upd s.statuses (T.node p i) 0) p i
      so' j a b = ⊎_elim
          (λ (z : j ≡ i). rw (z, upd_same s.statuses (T.node p i) 0) (omega arith))
          (λ (z : j ≡ i → ⊥). counts_own p i 0 on so j (omega arith) b)
          (cases_eq j i)

      by : (b : Bool) → leb 2 i ≡ b → Fine L (go (put_status s (T.node p i) 0) p (cond b (W1 (pred i)) (W7 0)))
      by true z = wrote p i 0 (W1 (pred i)) on (omega (arith, lv)) (omega (arith, lv, leb-true 2 i z))
          (omega (arith, on, leb-true 2 i z))
          (λ j k. subst (λ f. Waits f j) was k)
          tt
          (λ j a b. so' j (omega arith) b)
      by false z = wrote p i 0 (W7 0) on (omega (arith, lv)) (omega (arith, lv, on, leb-false 2 i z))
          (omega (arith, on))
          (λ j k. subst (λ f. Waits f j) was k)
          tt
          (λ j a b. so' j (omega (arith, leb-false 2 i z)) b)

  -- W3 joins
  fine_W3 : (p i : ℕ) → s.place p ≡ W3 i → Fine L (row L s p (W3 i))
  fine_W3 p i e = by (eqb (s.tails K) 0) refl
    where
      K : ℕ
      K = T.element p i

      X : ℕ
      X = T.node p i

      was : phase T s p ≡ ready i
      was = phase_at T s p (W3 i) e

      so : (s.statuses X ≡ WAIT) × Counts L s.statuses p (suc i)
      so = subst (Sound L s.statuses p) e (v.sound p)

      old : (k a : ℕ) → a < s.next_turn k
          → upd s.node_at K (upd (s.node_at K) (s.next_turn K) X) k a ≡ s.node_at k a
      old = split K
          (λ k.
          (a : ℕ) → a < s.next_turn k
          → upd s.node_at K (upd (s.node_at K) (s.next_turn K) X) k a ≡ s.node_at k a)
          (λ a l.
          rw (upd_same s.node_at K (upd (s.node_at K) (s.next_turn K) X))
          (upd_other (s.node_at K) (s.next_turn K) X a (omega arith)))
          (λ k ne a l. rw (upd_other s.node_at K (upd (s.node_at K) (s.next_turn K) X) k ne))

      new : upd s.node_at K (upd (s.node_at K) (s.next_turn K) X) K (s.next_turn K) ≡ X
      new = rw (upd_same s.node_at K (upd (s.node_at K) (s.next_turn K) X))
          (upd_same (s.node_at K) (s.next_turn K) X)

      -- a move between two places of one phase
      to : (g : Place)
          → ((s.tails K ≡ 0) × (phase T (go s p g) p ≡ hold i))
          ⊎ ((s.tails K ≢ 0) × (phase T (go s p g) p ≡ link i (s.tails K))) → Sound L s.statuses p g
          → Fine L (go (join s K X) p g)
      to g h so =
          record {
            queues = joined_up T G (view T s) inv p i was (phase T (go s p g)) (upd s.tails K X)
                (upd s.node_at K (upd (s.node_at K) (s.next_turn K) X))
                (upd s.next_turn K (suc (s.next_turn K))) (record {
                  after = h;
                  others = phase_other T s p g;
                  here = upd_same s.tails K X;
                  other_tails = λ k ne. upd_other s.tails K X k ne;
                  old = old;
                  new = new;
                  more = upd_same s.next_turn K (suc (s.next_turn K));
                  stay = λ k ne. upd_other s.next_turn K (suc (s.next_turn K)) k ne;
                });
            sound = sound_go s.statuses p g so (λ q a. v.sound q);
          }

      by : (b : Bool) → eqb (s.tails K) 0 ≡ b → Fine L (go (join s K X) p (cond b (W6 i) (W4 i (s.tails K))))
      by true z = to (W6 i) (inl (eqb-true (s.tails K) 0 z, phase_now T s p (W6 i))) so.1
      by false z = to (W4 i (s.tails K)) (inr (eqb-false (s.tails K) 0 z, phase_now T s p (W4 i (s.tails K)))) so

  -- a hand-over: the successor's STATUS becomes u
  gave : (p h i t u : ℕ) → phase T s p ≡ give h i t → phase_of (W5 i) u ≡ hold h
      → ((n : Successor T (view T s) p i t) → Sound L (upd s.statuses (T.node n.rank i) u) n.rank (W5 i))
      → Fine L (go (drop (put_status s t u) (T.element p i)) p (done L s p i))
  gave p h i t u was told so = subst
      (λ y. Fine L (go (drop (put_status s y u) (T.element p i)) p (done L s p i)))
      (sym n.target) (record {
        queues = handed T G (view T s) inv p h i t was n phases (upd s.head_turn K (suc (s.head_turn K))) (record {
          giver = rw now ok.0;
          calm = rw now ok.1;
          in_range = rw now ok.2;
          taker = phase_other T s₁ p (done L s p i) r r≢p
              ∙ (phase_at T s₁ r (W5 i) at_r ∙ (rw (upd_same s.statuses (T.node r i) u) told));
          others = λ q a b. phase_other T s₁ p (done L s p i) q a ∙ phase_status r i u n.on lv q b;
          head_gone = upd_same s.head_turn K (suc (s.head_turn K));
          stay = λ k ne. upd_other s.head_turn K (suc (s.head_turn K)) k ne;
        });
        sound = sound_go s₁.statuses p (done L s p i) (done_sound L s₁.statuses p i (eqb i (T.own_level p)))
            (λ q a.
            split r
            (λ q. q ≢ p → Sound L s₁.statuses q (s.place q))
            (λ _. rw at_r (so n))
            (λ q b _. sound_status r i u n.on lv q b)
            q
            a);
      })
    where
      n : Successor T (view T s) p i t
      n = successor T G (view T s) inv p h i t was

      r : ℕ
      r = n.rank

      K : ℕ
      K = T.element p i

      s₁ : Lock
      s₁ = put_status s (T.node r i) u

      phases : ℕ → Phase
      phases = phase T (go s₁ p (done L s p i))

      rg : (1 ≤ h) × (h ≤ i) × (i ≤ T.own_level p)
      rg = range_of (phase T s p) (T.own_level p) (inv.range p) (give h i t) was

      now : phases p ≡ phase_of (done L s p i) (s₁.statuses (T.node p (status_level (done L s p i))))
      now = phase_now T s₁ p (done L s p i)

      ok : (hold_level (T.own_level p)
          (phase_of (done L s p i) (s₁.statuses (T.node p (status_level (done L s p i))))) ≡ suc i)
          × Calm (phase_of (done L s p i) (s₁.statuses (T.node p (status_level (done L s p i)))))
          × InRange (T.own_level p)
          (phase_of (done L s p i) (s₁.statuses (T.node p (status_level (done L s p i)))))
      ok = done_ok (T.own_level p) i (omega (arith, rg)) (eqb i (T.own_level p)) refl
          (s₁.statuses (T.node p (status_level (done L s p i))))

      at_r : s.place r ≡ W5 i
      at_r = only_W5 (s.place r) (s.statuses (T.node r (status_level (s.place r)))) i n.waits

      r≢p : r ≢ p
      r≢p z = subst (λ f. Waits f i) (sym n.waits ∙ (ap (phase T s) z ∙ was)) refl

      lv : holds_from T (view T s) r ≤ suc i
      lv = rw n.waits (omega arith)

  -- two ranks of one element have one way up from it
  way_up : (r p i : ℕ) → On (T.own_level r) i → On (T.own_level p) i → T.element r i ≡ T.element p i → (j : ℕ)
      → 1 ≤ j → j < i → T.node r j ≡ T.node p j
  way_up r p i on on' e j a l =
      G.shared r p j (omega arith) (omega arith) (omega arith) (G.above r p i (suc j) on on' (omega arith) l e)

  -- U3 hands the whole machine over
  fine_U3 : (p i t n : ℕ) → s.place p ≡ U3 i t n → Fine L (row L s p (U3 i t n))
  fine_U3 p i t n e = gave p 1 i t n was (w5_count i n (omega (arith, so.0, small i)))
      (λ c. (
        c.on,
        (λ j a b. rw (status_own c.rank i n j c.on (omega arith) (omega arith)) (own c j a b)),
        inr (inr (all c)),
      ))
    where
      was : phase T s p ≡ give 1 i t
      was = phase_at T s p (U3 i t n) e

      rg : (1 ≤ 1) × (1 ≤ i) × (i ≤ T.own_level p)
      rg = range_of (phase T s p) (T.own_level p) (inv.range p) (give 1 i t) was

      so : (n ≤ most_hand_overs) × Counts L s.statuses p 1
      so = subst (Sound L s.statuses p) e (v.sound p)

      own : (c : Successor T (view T s) p i t) → Counts L s.statuses c.rank (suc i)
      own c = (subst (Sound L s.statuses c.rank)
          (only_W5 (s.place c.rank) (s.statuses (T.node c.rank (status_level (s.place c.rank)))) i
          c.waits)
          (v.sound c.rank)).1

      all : (c : Successor T (view T s) p i t) → Counts L (upd s.statuses (T.node c.rank i) n) c.rank 1
      all c j a b = by (cases_order j i)
        where
          by : (j ≡ i) ⊎ ((j < i) ⊎ (i < j))
              → upd s.statuses (T.node c.rank i) n (T.node c.rank j) ≤ most_hand_overs
          by (inl z) = rw (z, upd_same s.statuses (T.node c.rank i) n) so.0
          by (inr (inl z)) = rw (
            status_own c.rank i n j c.on (omega arith) (omega arith),
            way_up c.rank p i c.on (omega (arith, rg)) c.queue j a z,
          )
              (so.1 j a (omega (arith, rg)))
          by (inr (inr z)) = rw (status_own c.rank i n j c.on (omega arith) (omega arith)) (own c j z b)

  -- U9 hands one level over
  fine_U9 : (p i t : ℕ) → s.place p ≡ U9 i t → Fine L (row L s p (U9 i t))
  fine_U9 p i t e = gave p i i t (told_status i) (phase_at T s p (U9 i t) e)
      (w5_told i (told_status i) (omega (arith, told_large i)) (told_large i).1)
      (λ c. (
        c.on,
        (λ j a b. rw (status_own c.rank i (told_status i) j c.on (omega arith) (omega arith)) (own c j a b)),
        inr (inl (upd_same s.statuses (T.node c.rank i) (told_status i))),
      ))
    where
      own : (c : Successor T (view T s) p i t) → Counts L s.statuses c.rank (suc i)
      own c = (subst (Sound L s.statuses c.rank)
          (only_W5 (s.place c.rank) (s.statuses (T.node c.rank (status_level (s.place c.rank)))) i
          c.waits)
          (v.sound c.rank)).1

  -- a move that leaves the phase alone
  quiet : (p : ℕ) (g : Place) (arrives departs : ℕ → ℕ)
      → phase_of g (s.statuses (T.node p (status_level g))) ≡ phase T s p → Calm (phase T s p)
      → Sound L s.statuses p g → Fine L (go (with_counts s arrives departs) p g)
  quiet p g arrives departs e c so = moved p g arrives departs (ap (hold_level (T.own_level p)) e)
      (rw e (inv.range p)) (calm_waits (phase T s p) c)
      (calm_asks T (prepared (view T s) (phase T (go s p g)) s.nexts) p
      (phase_of g (s.statuses (T.node p (status_level g)))) (rw e c))
      so

  -- U8 looks for a successor
  fine_U8 : (p i : ℕ) → s.place p ≡ U8 i → Fine L (row L s p (U8 i))
  fine_U8 p i e = by (eqb (s.nexts (T.node p i)) 0) refl
    where
      was : phase T s p ≡ hold i
      was = phase_at T s p (U8 i) e

      on : On (T.own_level p) i
      on = range_of (phase T s p) (T.own_level p) (inv.range p) (hold i) was

      by : (b : Bool) → eqb (s.nexts (T.node p i)) 0 ≡ b
          → Fine L (go s p (cond b (U10 i) (U9 i (s.nexts (T.node p i)))))
      by true z = quiet p (U10 i) s.arrives s.departs (sym was) (rw was tt) tt
      by false z = moved p (U9 i (s.nexts (T.node p i))) s.arrives s.departs (rw was) (omega (arith, on))
          (λ j k. subst (λ f. Waits f j) was k)
          (refl, eqb-false (s.nexts (T.node p i)) 0 z)
          tt

  -- U10 releases, or looks again
  fine_U10 : (p i : ℕ) → s.place p ≡ U10 i → Fine L (row L s p (U10 i))
  fine_U10 p i e = by (eqb (s.tails K) (T.node p i)) refl
    where
      K : ℕ
      K = T.element p i

      was : phase T s p ≡ hold i
      was = phase_at T s p (U10 i) e

      on : On (T.own_level p) i
      on = range_of (phase T s p) (T.own_level p) (inv.range p) (hold i) was

      now : phase T (go s p (done L s p i)) p
          ≡ phase_of (done L s p i) (s.statuses (T.node p (status_level (done L s p i))))
      now = phase_now T s p (done L s p i)

      ok : (hold_level (T.own_level p)
          (phase_of (done L s p i) (s.statuses (T.node p (status_level (done L s p i))))) ≡ suc i)
          × Calm (phase_of (done L s p i) (s.statuses (T.node p (status_level (done L s p i)))))
          × InRange (T.own_level p) (phase_of (done L s p i) (s.statuses (T.node p (status_level (done L s p i)))))
      ok = done_ok (T.own_level p) i on (eqb i (T.own_level p)) refl
          (s.statuses (T.node p (status_level (done L s p i))))

      by : (b : Bool) → eqb (s.tails K) (T.node p i) ≡ b
          → Fine L (cond b (go (free s K) p (done L s p i)) (go s p (U8 i)))
      by true z =
          record {
            queues = retired T G (view T s) inv p i was (eqb-true (s.tails K) (T.node p i) z)
                (phase T (go s p (done L s p i))) (upd s.tails K 0) (upd s.head_turn K (suc (s.head_turn K)))
                (record {
                  giver = rw now ok.0;
                  calm = rw now ok.1;
                  in_range = rw now ok.2;
                  others = phase_other T s p (done L s p i);
                  tail_zero = upd_same s.tails K 0;
                  other_tails = λ k ne. upd_other s.tails K 0 k ne;
                  head_gone = upd_same s.head_turn K (suc (s.head_turn K));
                  stay = λ k ne. upd_other s.head_turn K (suc (s.head_turn K)) k ne;
                });
            sound = sound_go s.statuses p (done L s p i) (done_sound L s.statuses p i (eqb i (T.own_level p)))
                (λ q a. v.sound q);
          }
      by false z = quiet p (U8 i) s.arrives s.departs (sym was) (rw was tt) tt

  -- places of one phase, whatever the words
  abbrev At : Phase → ℕ → Place → Type 0
  At f p g = ((w : ℕ) → phase_of g w ≡ f) × Sound L s.statuses p g

  to : (f : Phase) → Calm f → (p : ℕ) → phase T s p ≡ f → (g : Place) (arrives departs : ℕ → ℕ) → At f p g
      → Fine L (go (with_counts s arrives departs) p g)
  to f c p was g arrives departs h =
      quiet p g arrives departs (h.0 (s.statuses (T.node p (status_level g))) ∙ sym was) (rw was c) h.1

  -- while a writer is on its way out: hand over at level i, or go on to g
  choose : (p i n : ℕ) → phase T s p ≡ hold 1 → On (T.own_level p) i → Counts L s.statuses p 1 → (g : Place)
      → At (hold 1) p g
      → Fine L
      (go s p
      (cond (eqb (s.nexts (T.node p i)) 0) g
      (cond (ltb n (L.hand_over_limit p i)) (U3 i (s.nexts (T.node p i)) (suc n)) g)))
  choose p i n was on so g h = by (eqb (s.nexts (T.node p i)) 0) (ltb n (L.hand_over_limit p i)) refl refl
    where
      by : (a b : Bool) → eqb (s.nexts (T.node p i)) 0 ≡ a → ltb n (L.hand_over_limit p i) ≡ b
          → Fine L (go s p (cond a g (cond b (U3 i (s.nexts (T.node p i)) (suc n)) g)))
      by true b x y = to (hold 1) tt p was g s.arrives s.departs h
      by false true x y = moved p (U3 i (s.nexts (T.node p i)) (suc n)) s.arrives s.departs (rw was)
          (omega (arith, on))
          (λ j k. subst (λ f. Waits f j) was k)
          (refl, eqb-false (s.nexts (T.node p i)) 0 x)
          (omega (arith, ltb-true n (L.hand_over_limit p i) y, small p i), so)
      by false false x y = to (hold 1) tt p was g s.arrives s.departs h

  -- the next level up
  up : (p i : ℕ) → 2 ≤ i → i ≤ T.own_level p → Counts L s.statuses p 1
      → At (hold 1) p (cond (leb i 2) U4 (U1 (pred i)))
  up p i a b so = cond_both (leb i 2) U4 (U1 (pred i)) (At (hold 1) p)
      (λ _. ((λ w. refl), so))
      (λ z. ((λ w. refl), (omega (arith, leb-false i 2 z), omega arith, so)))

  -- where a row over the counters goes next
  after : (p n : ℕ) → Counts L s.statuses p 1 → (end : Place) (more : ℕ → Place) → At (hold 1) p end
      → ((k : ℕ) → At (hold 1) p (more k)) → At (hold 1) p (next L s p n end more)
  after p n so end more h m =
      cond_both (ltb (suc n) L.counters) (more (suc n)) end (At (hold 1) p) (λ _. m (suc n)) (λ _. h)

  -- a test with two ways, both out of the queues
  either : (p : ℕ) (b : Bool) (f g : Place) → At out p f → At out p g → At out p (cond b f g)
  either p b f g x y = cond_both b f g (At out p) (λ _. x) (λ _. y)

  -- every row
  pub fine_row : (p : ℕ) → On (T.own_level p) 1 → (f : Place) → s.place p ≡ f → Fine L (row L s p f)
  fine_row p o Idle e = v
  fine_row p o (W1 i) e = fine_W1 p i e
  fine_row p o (W2 i) e = fine_W2 p i e
  fine_row p o (W3 i) e = fine_W3 p i e
  fine_row p o (W4 i t) e = fine_W4 p i t e
  fine_row p o (W5 i) e = fine_W5 p i e
  fine_row p o (W6 i) e = fine_W6 p i e
  fine_row p o (W7 n) e =
      let so = subst (Sound L s.statuses p) e (v.sound p) in
      to (hold 1) tt p (phase_at T s p (W7 n) e) (next L s p n (W8 0) W7)
      (upd s.arrives n (s.arrives n + write_bit)) s.departs
      (after p n so (W8 0) W7 ((λ w. refl), so) (λ k. ((λ w. refl), so)))
  fine_row p o (W8 n) e =
      let so = subst (Sound L s.statuses p) e (v.sound p) in
      to (hold 1) tt p (phase_at T s p (W8 n) e) (W9 n (s.arrives n)) s.arrives s.departs ((λ w. refl), so)
  fine_row p o (W9 n a) e =
      let so = subst (Sound L s.statuses p) e (v.sound p) in
      to (hold 1) tt p (phase_at T s p (W9 n a) e)
      (cond (eqb a (write_bit + s.departs n)) (next L s p n Writer W8) (W8 n)) s.arrives s.departs
      (cond_both (eqb a (write_bit + s.departs n)) (next L s p n Writer W8) (W8 n) (At (hold 1) p)
      (λ _. after p n so Writer W8 ((λ w. refl), so) (λ k. ((λ w. refl), so)))
      (λ _. ((λ w. refl), so)))
  fine_row p o (U1 i) e =
      let so = subst (Sound L s.statuses p) e (v.sound p) in
      to (hold 1) tt p (phase_at T s p (U1 i) e) (U2 i (s.statuses (T.node p i))) s.arrives s.departs
      ((λ w. refl), so)
  fine_row p o (U2 i n) e =
      let so = subst (Sound L s.statuses p) e (v.sound p) in
      choose p i n (phase_at T s p (U2 i n) e) (omega arith) so.2 (cond (leb i 2) U4 (U1 (pred i)))
      (up p i so.0 so.1 so.2)
  fine_row p o (U3 i t n) e = fine_U3 p i t n e
  fine_row p o U4 e =
      let so = subst (Sound L s.statuses p) e (v.sound p) in
      to (hold 1) tt p (phase_at T s p U4 e) (U5 (s.statuses (T.node p 1))) s.arrives s.departs
      ((λ w. refl), so)
  fine_row p o (U5 n) e =
      let so = subst (Sound L s.statuses p) e (v.sound p) in
      choose p 1 n (phase_at T s p (U5 n) e) o so (U6 0) ((λ w. refl), so)
  fine_row p o (U6 n) e =
      let so = subst (Sound L s.statuses p) e (v.sound p) in
      to (hold 1) tt p (phase_at T s p (U6 n) e) (U7 n (s.departs n)) s.arrives (upd s.departs n 0)
      ((λ w. refl), so)
  fine_row p o (U7 n a) e =
      let so = subst (Sound L s.statuses p) e (v.sound p) in
      to (hold 1) tt p (phase_at T s p (U7 n a) e) (next L s p n (U8 1) U6)
      (upd s.arrives n (s.arrives n - (write_bit + a))) s.departs
      (after p n so (U8 1) U6 ((λ w. refl), tt) (λ k. ((λ w. refl), so)))
  fine_row p o (U8 i) e = fine_U8 p i e
  fine_row p o (U9 i t) e = fine_U9 p i t e
  fine_row p o (U10 i) e = fine_U10 p i e
  fine_row p o R1 e = to out tt p (phase_at T s p R1 e)
      (cond (ltb (s.arrives (L.home p)) L.reader_threshold) Reader R2)
      (upd s.arrives (L.home p) (suc (s.arrives (L.home p)))) s.departs
      (either p (ltb (s.arrives (L.home p)) L.reader_threshold) Reader R2 ((λ w. refl), tt) ((λ w. refl), tt))
  fine_row p o R2 e = to out tt p (phase_at T s p R2 e) R3
      (upd s.arrives (L.home p) (pred (s.arrives (L.home p)))) s.departs ((λ w. refl), tt)
  fine_row p o R3 e = to out tt p (phase_at T s p R3 e)
      (cond (ltb (s.arrives (L.home p)) L.reader_threshold) R1
      (cond (leb write_bit (s.arrives (L.home p))) R3 R4))
      s.arrives s.departs
      (either p (ltb (s.arrives (L.home p)) L.reader_threshold) R1
      (cond (leb write_bit (s.arrives (L.home p))) R3 R4) ((λ w. refl), tt)
      (either p (leb write_bit (s.arrives (L.home p))) R3 R4 ((λ w. refl), tt) ((λ w. refl), tt)))
  fine_row p o R4 e = to out tt p (phase_at T s p R4 e) (cond (eqb (s.tails (T.element p 1)) 0) R5 R3) s.arrives
      s.departs (either p (eqb (s.tails (T.element p 1)) 0) R5 R3 ((λ w. refl), tt) ((λ w. refl), tt))
  fine_row p o R5 e = to out tt p (phase_at T s p R5 e) (R6 (s.departs (L.home p))) s.arrives
      (upd s.departs (L.home p) 0) ((λ w. refl), tt)
  fine_row p o (R6 n) e = to out tt p (phase_at T s p (R6 n) e) R3
      (upd s.arrives (L.home p) (s.arrives (L.home p) - n)) s.departs ((λ w. refl), tt)
  fine_row p o R7 e = to out tt p (phase_at T s p R7 e) Idle s.arrives
      (upd s.departs (L.home p) (suc (s.departs (L.home p)))) ((λ w. refl), tt)
  fine_row p o Writer e = v
  fine_row p o Reader e = v

  -- the calls besides a step: an ask to write
  pub fine_ask_write : (p : ℕ) → On (T.own_level p) 1 → s.place p ≡ Idle → Fine L (go s p (W1 (T.own_level p)))
  fine_ask_write p o e =
      let was : phase T s p ≡ out = phase_at T s p Idle e in
      moved p (W1 (T.own_level p)) s.arrives s.departs (rw was) (omega arith)
      (λ j k. subst (λ f. Waits f j) was k)
      tt
      (λ j a b. absurd (omega arith))

  -- an ask to read
  pub fine_ask_read : (p : ℕ) → s.place p ≡ Idle → Fine L (go s p R1)
  fine_ask_read p e = to out tt p (phase_at T s p Idle e) R1 s.arrives s.departs ((λ w. refl), tt)

  -- a leave of a writer
  pub fine_leave_write : (p : ℕ) → s.place p ≡ Writer
      → Fine L (go s p (cond (leb (T.own_level p) 1) U4 (U1 (T.own_level p))))
  fine_leave_write p e =
      let so = subst (Sound L s.statuses p) e (v.sound p) in
      to (hold 1) tt p (phase_at T s p Writer e) (cond (leb (T.own_level p) 1) U4 (U1 (T.own_level p))) s.arrives
      s.departs
      (cond_both (leb (T.own_level p) 1) U4 (U1 (T.own_level p)) (At (hold 1) p)
      (λ _. ((λ w. refl), so))
      (λ z. ((λ w. refl), (leb-false (T.own_level p) 1 z, omega arith, so))))

  -- a leave of a reader
  pub fine_leave_read : (p : ℕ) → s.place p ≡ Reader → Fine L (go s p R7)
  fine_leave_read p e = to out tt p (phase_at T s p Reader e) R7 s.arrives s.departs ((λ w. refl), tt)

  -- writers exclude writers: element 1 is everyone's
  pub one_writer : (p r : ℕ) → On (T.own_level p) 1 → On (T.own_level r) 1 → T.element p 1 ≡ T.element r 1
      → s.place p ≡ Writer → s.place r ≡ Writer → p ≡ r
  one_writer p r on on' e a b = one_holder T G (view T s) inv p r 1 on on'
      (rw (phase_at T s p Writer a) (omega arith)) (rw (phase_at T s r Writer b) (omega arith)) e

-- at the start
pub fine_start : (L : Plan) → Fine L fresh_lock
fine_start L =
    record {
      queues = record {
        range = λ p. tt;
        order = λ k. omega arith;
        once = λ k a b l l' m m' z. absurd (omega arith);
        empty = λ k z. refl;
        tail = λ k a l z. refl;
        ends = λ k a l z. refl;
        heads = λ p i on l. absurd (omega arith);
        holder = λ k l. absurd (omega arith);
        member = λ k a l l'. absurd (omega arith);
        asks = λ p. tt;
      };
      sound = λ p. tt;
    }
