-- Each step of the lock is the row of the abstract machine: the operation that the table asks for is not refused,
-- gives the word that the lock shows, and writes what the row writes; the tests of the table are those of the row.
-- Sums do not wrap, so adding and taking away are what they are of numbers.
use Rattle.std.proofs.Common.{◌≡◌, ℕ, suc, pred, ◌+◌, ◌-◌, ◌%◌, ◌^◌, ◌<◌, ◌≤◌, Bool, true, false, cond, not, ◌&&◌, eqb, ltb, leb, ◌≢◌, ◌⊎◌, List, Some, Ok, Result, sym, refl, ap, ◌∙◌, subst, ap₂, inl, inr, add-one, sub-one, arith}
use Rattle.std.proofs.lemmas.Bool.Decides.{nat_tests}
use Rattle.std.proofs.lemmas.Bool.{ne_eqb, eq-eqb, leb-true, le-leb, lt-leb}
use Rattle.refusal.specs.declared.Refusal.{Refusal}
use Rattle.refusal.specs.declared.Refusal.TheVariants.{NotUnderWay}
use Rattle.memory.specs.Words.{Words, storing}
use Rattle.memory.specs.declared.operations.Operation.{Operation}
use Rattle.memory.specs.declared.operations.Operation.TheVariants.{Get, Put, Swap, Add, Cas}
use Rattle.plan.specs.Shapes.{within}
use Rattle.plan.specs.Trees.{Tree, counter_home, counters, element_at, element_home, homes, node_home, own_counter}
use Rattle.plan.specs.Trees.{own_counter_home, own_level, queue_home, threshold}
use Rattle.places.specs.Standings.{standing_at}
use Rattle.places.specs.Table.{access, access_of, level_done, moves, next_of, rests}
use Rattle.places.specs.Words.{minus, write_bit}
use Rattle.places.specs.declared.answer.Answer.{Answer}
use Rattle.places.specs.declared.answer.Answer.TheVariants.{Entered, Free, Moved, Waiting}
use Rattle.places.specs.declared.follow.Next.{Next}
use Rattle.places.specs.declared.place.Standing.TheVariants.{UnderWay}
use Rattle.places.specs.declared.record.Record.{Record}
use Rattle.lock.specs.Outcomes.{Outcome, placed, refused}
use Rattle.lock.specs.Steps.{followed, row_next, row_words, stepped_from, stepped_to}
use Rattle.queues.specs.Machine.{On}
use Rattle.queues.specs.Table.{Place, Idle, W1, W2, W3, W4, W5, W6, W7, W8, W9, U1, U2, U3, U4, U5, U6, U7, U8, U9}
use Rattle.queues.specs.Table.{U10, R1, R2, R3, R4, R5, R6, R7, Writer, Reader, WAIT, told_status, Plan, Lock, go}
use Rattle.queues.specs.Table.{put_status, put_arrive, put_depart, free, done, row, Sound, Counts}
use Rattle.queues.specs.Invariant.{Safe}
use Rattle.queues.proofs.Phases.{upd_same, upd_other, told_large}
use Rattle.law.proofs.Bridge.{machine_plan, Geometry, Ranged, Shows, Stepped, Goes, gives, effect}
use Rattle.law.proofs.Writes.{done_by, shows_next, shows_status, shows_join, shows_free, shows_drop, shows_go}
use Rattle.law.proofs.Writes.{shows_stay, shows_arrive, shows_depart}
use Rattle.law.proofs.InRange.{ranged, reaches, Reach}
use Rattle.law.proofs.NoWrap.{small, at_U7, at_R2, at_R6}

-- the counter of a rank
own_of : (P p x : ℕ) → On P p → x ≡ cond (within 1 P p) x 0
own_of P p x o = grind (arith, nat_tests)

-- a test of the table goes where the row's test goes
both : (b : Bool) (x y : Result Next Refusal) (g k : Place) → Goes x g → Goes y k → Goes (cond b x y) (cond b g k)
both true x y g k a c = a
both false x y g k a c = c

-- the same with two tests that agree
both' : (b b' : Bool) (x y : Result Next Refusal) (g k : Place) → b ≡ b' → Goes x g → Goes y k
    → Goes (cond b x y) (cond b' g k)
both' b b' x y g k e m n = subst (λ z. Goes (cond z x y) (cond b' g k)) (sym e) (both b' x y g k m n)

-- to the next counter, or to the end
goes_next : (C k : ℕ) (f : ℕ → Place) (x : Result Next Refusal) (e : Place) → Goes x e
    → Goes (cond (ltb (k + 1) C) (moves (f (k + 1))) x) (cond (ltb (suc k) C) (f (suc k)) e)
goes_next C k f x e m = rw (add-one k) (both (ltb (suc k) C) (moves (f (suc k))) x (f (suc k)) e (Moved, refl) m)

-- to the next level, or to idle
goes_done : (N i : ℕ) → i ≤ N → Goes (cond (ltb i N) (moves (U8 (i + 1))) rests) (cond (eqb i N) Idle (U8 (suc i)))
goes_done N i o = (cond (ltb i N) Moved Free, grind (arith, nat_tests))

-- U2 hands over or looks one level higher
goes_U2 : (i n y c : ℕ)
    → Goes (cond (not (eqb y 0) && ltb n c) (moves (U3 i y (n + 1))) (cond (leb i 2) (moves U4) (moves (U1 (i - 1)))))
    (cond (eqb y 0) (cond (leb i 2) U4 (U1 (pred i)))
    (cond (ltb n c) (U3 i y (suc n)) (cond (leb i 2) U4 (U1 (pred i)))))
goes_U2 i n y c = (Moved, rw (add-one n, sub-one i) (by (eqb y 0) (ltb n c) (leb i 2)))
  where
    by : (a b d : Bool)
        → cond (not a && b) (moves (U3 i y (suc n))) (cond d (moves U4) (moves (U1 (pred i))))
        ≡ moves (cond a (cond d U4 (U1 (pred i))) (cond b (U3 i y (suc n)) (cond d U4 (U1 (pred i)))))
    by a b d = grind arith

-- U5 hands over or begins to clear
goes_U5 : (n y c : ℕ)
    → Goes (cond (not (eqb y 0) && ltb n c) (moves (U3 1 y (n + 1))) (moves (U6 0)))
    (cond (eqb y 0) (U6 0) (cond (ltb n c) (U3 1 y (suc n)) (U6 0)))
goes_U5 n y c = (Moved, rw (add-one n) (by (eqb y 0) (ltb n c)))
  where
    by : (a b : Bool)
        → cond (not a && b) (moves (U3 1 y (suc n))) (moves (U6 0))
        ≡ moves (cond a (U6 0) (cond b (U3 1 y (suc n)) (U6 0)))
    by a b = grind arith

-- the three ways of W5: it waits
goes_wait : (t : Tree) (p i w : ℕ) → w ≡ WAIT → Goes (next_of t p (W5 i) w) (W5 i)
goes_wait t p i w e = (Waiting, rw (eq-eqb w WAIT e))

-- it takes the parent
goes_told : (t : Tree) (p i w : ℕ) → 1 ≤ i → w ≡ told_status i → Goes (next_of t p (W5 i) w) (W6 i)
goes_told t p i w o e = (Moved, grind (arith, nat_tests))

-- it enters
goes_count : (t : Tree) (p i w : ℕ) → w ≤ 1000 → Goes (next_of t p (W5 i) w) Writer
goes_count t p i w m = (Entered, grind (arith, nat_tests))

-- and the same of the row: it waits
w5_waits : (a b d : Lock) (w i : ℕ) → w ≡ WAIT
    → cond (eqb w WAIT) a (cond (leb w 1000) b (cond (eqb w (told_status i)) d a)) ≡ a
w5_waits a b d w i e = rw (eq-eqb w WAIT e)

-- it enters
w5_counts : (a b d : Lock) (w i : ℕ) → w ≤ 1000
    → cond (eqb w WAIT) a (cond (leb w 1000) b (cond (eqb w (told_status i)) d a)) ≡ b
w5_counts a b d w i e = rw (ne_eqb w WAIT (omega arith), le-leb w 1000 e)

-- it takes the parent
w5_told : (a b d : Lock) (w i : ℕ) → w ≡ told_status i
    → cond (eqb w WAIT) a (cond (leb w 1000) b (cond (eqb w (told_status i)) d a)) ≡ d
w5_told a b d w i e =
    let z = told_large i in rw (ne_eqb w WAIT (omega arith), lt-leb w 1000 (omega arith), eq-eqb w (told_status i) e)

module _ (t : Tree) (G : Geometry t) (ws : Words) (rs : List Record) (s : Lock) (bit : ℕ → ℕ)
    (v : Safe t.shape.ranks (machine_plan t) s bit) (h : Shows t ws rs s) (p : ℕ) (on : On t.shape.ranks p)
  where
    abbrev L : Plan
    L = machine_plan t

    -- a step whose operation is not refused
    outcome : (f : Place) (at : ℕ) (o : ℕ) (op : Operation) → access_of t p f ≡ Some (access at o op)
        → On (homes t) at → leb o 4 ≡ true → (g : Place) (a : Answer)
        → next_of t p f (gives ws at o op) ≡ Ok (record { place = g; answer = a })
        → stepped_from t ws rs p (Some f)
        ≡ record { answer = Ok a; words = effect ws at o op; records = placed rs p g }
    outcome f at o op e on-at l g a n =
        let z = done_by ws at o op (omega (arith, h.room)) (leb-true o 4 l) in
        ap (λ x. stepped_to ws (row_words ws x) rs p (row_next t ws p f x)) e
        ∙ ap₂ (λ x y. stepped_to ws x rs p y) z.1 (ap (followed t p f) z.0 ∙ n)

    -- it is the row if it leaves what shows the row's lock
    carries : (f : Place) (at o : ℕ) (op : Operation) → access_of t p f ≡ Some (access at o op) → On (homes t) at
        → leb o 4 ≡ true → (w : ℕ) → gives ws at o op ≡ w → (g : Place) → Goes (next_of t p f w) g
        → (s' : Lock) → s'.place p ≡ g → ((q : ℕ) → q ≢ p → s'.place q ≡ s.place q)
        → Shows t (effect ws at o op) (placed rs p g) s' → Stepped t s p f (stepped_from t ws rs p (Some f)) s'
    carries f at o op e on-at l w d g n s' here there sh =
        let z = outcome f at o op e on-at l g n.0 (ap (next_of t p f) d ∙ n.1) in
        record {
          given = w;
          next = g;
          answer = n.0;
          follows = n.1;
          says = ap (λ (y : Outcome). y.answer) z;
          here = here;
          there = there;
          shows = subst (λ (y : Outcome). Shows t y.words y.records s') (sym z) sh;
        }

    -- and so is one that writes words and moves on
    carried : (f : Place) (at o : ℕ) (op : Operation) → access_of t p f ≡ Some (access at o op) → On (homes t) at
        → leb o 4 ≡ true → (w : ℕ) → gives ws at o op ≡ w → (g : Place) → Goes (next_of t p f w) g
        → (s₁ : Lock) → s₁.place ≡ s.place → Shows t (effect ws at o op) rs s₁
        → Stepped t s p f (stepped_from t ws rs p (Some f)) (go s₁ p g)
    carried f at o op e on-at l w d g n s₁ same sh =
        carries f at o op e on-at l w d g n (go s₁ p g) (upd_same s₁.place p g)
        (λ q ne. upd_other s₁.place p g q ne ∙ ap (λ x. x q) same)
        (shows_go t (effect ws at o op) rs s₁ sh p on g)

    abbrev c : ℕ
    c = L.home p

    -- the home of the own counter
    own_is : own_counter_home t p ≡ counter_home t c
    own_is = ap (counter_home t) (own_of t.shape.ranks p (own_counter t p) on)

    c_in : c < counters t
    c_in = G.apt.sensible.homes p

    own_at : On (homes t) (counter_home t c)
    own_at = G.counter_in c c_in

    abbrev x : ℕ → ℕ
    x i = node_home t p i

    abbrev q : ℕ → ℕ
    q i = queue_home t p i

    -- the step at a place is the row
    abbrev Lifts : Place → Type 0
    Lifts f = Stepped t s p f (stepped_from t ws rs p (Some f)) (row L s p f)

    module _ (f : Place) (e : s.place p ≡ f) where
      rg : Ranged t p f
      rg = ranged t G s bit v p on f e

      re : Reach t (access_of t p f)
      re = reaches t G p on f rg

    -- a rank that is idle or in has no step
    abbrev NoMore : Place → Type 0
    NoMore f = (standing_at f ≢ UnderWay) × (stepped_from t ws rs p (Some f) ≡ refused ws rs NotUnderWay)

    -- an operation that only reads: STATUS
    reads_status : (f : Place) (i : ℕ) → access_of t p f ≡ Some (access (x i) 1 Get) → On (homes t) (x i) → (g : Place)
        → Goes (next_of t p f (s.statuses (x i))) g → Stepped t s p f (stepped_from t ws rs p (Some f)) (go s p g)
    reads_status f i e at g n = carried f (x i) 1 Get e at refl (s.statuses (x i)) (h.statuses (x i) at) g n s refl h

    -- NEXT
    reads_next : (f : Place) (i : ℕ) → access_of t p f ≡ Some (access (x i) 0 Get) → On (homes t) (x i) → (g : Place)
        → Goes (next_of t p f (s.nexts (x i))) g → Stepped t s p f (stepped_from t ws rs p (Some f)) (go s p g)
    reads_next f i e at g n = carried f (x i) 0 Get e at refl (s.nexts (x i)) (h.nexts (x i) at) g n s refl h

    -- an addition to ARRIVE that does not wrap
    adds_arrive : (f : Place) (k w y : ℕ) → k < counters t
        → access_of t p f ≡ Some (access (counter_home t k) 3 (Add w)) → (s.arrives k + w) % 2 ^ 64 ≡ y → (g : Place)
        → Goes (next_of t p f (s.arrives k)) g
        → Stepped t s p f (stepped_from t ws rs p (Some f)) (go (put_arrive s k y) p g)
    adds_arrive f k w y l e m g n = carried f (counter_home t k) 3 (Add w) e (G.counter_in k l) refl (s.arrives k)
        (h.arrives k l) g n (put_arrive s k y) refl
        (shows_arrive t ws rs s h G.counter_one k ((ws.word (counter_home t k) 3 + w) % 2 ^ 64) y
        (ap (λ z. (z + w) % 2 ^ 64) (h.arrives k l) ∙ m))

    -- DEPART is taken
    swaps_depart : (f : Place) (k : ℕ) → k < counters t → access_of t p f ≡ Some (access (counter_home t k) 4 (Swap 0))
        → (g : Place) → Goes (next_of t p f (s.departs k)) g
        → Stepped t s p f (stepped_from t ws rs p (Some f)) (go (put_depart s k 0) p g)
    swaps_depart f k l e g n = carried f (counter_home t k) 4 (Swap 0) e (G.counter_in k l) refl (s.departs k)
        (h.departs k l) g n (put_depart s k 0) refl (shows_depart t ws rs s h G.counter_one k 0 0 refl)

    -- where a level that is done leads
    goes_down : (i : ℕ) → On (own_level t p) i → Goes (level_done t p i) (done L s p i)
    goes_down i o = goes_done (own_level t p) i o.upto

    -- W5
    lift_W5 : (i : ℕ) → s.place p ≡ W5 i → Lifts (W5 i)
    lift_W5 i e = by (subst (Sound L s.statuses p) e (v.fine.sound p)).2
      where
        at : On (homes t) (x i)
        at = re (W5 i) e

        o : On (own_level t p) i
        o = rg (W5 i) e

        moves_on : (g : Place) → Goes (next_of t p (W5 i) (s.statuses (x i))) g → row L s p (W5 i) ≡ go s p g
            → Lifts (W5 i)
        moves_on g n z = subst (Stepped t s p (W5 i) (stepped_from t ws rs p (Some (W5 i)))) (sym z)
            (reads_status (W5 i) i refl at g n)

        by : (s.statuses (x i) ≡ WAIT) ⊎ ((s.statuses (x i) ≡ told_status i) ⊎ Counts L s.statuses p 1)
            → Lifts (W5 i)
        by (inl z) = subst (Stepped t s p (W5 i) (stepped_from t ws rs p (Some (W5 i))))
            (sym (w5_waits s (go s p Writer) (go s p (W6 i)) (s.statuses (x i)) i z))
            (carries (W5 i) (x i) 1 Get refl at refl (s.statuses (x i)) (h.statuses (x i) at) (W5 i)
            (goes_wait t p i (s.statuses (x i)) z) s e
            (λ q ne. refl)
            (shows_stay t ws rs s h p on (W5 i) e))
        by (inr (inl z)) = moves_on (W6 i) (goes_told t p i (s.statuses (x i)) o.from z)
            (w5_told s (go s p Writer) (go s p (W6 i)) (s.statuses (x i)) i z)
        by (inr (inr z)) =
            let m : s.statuses (x i) ≤ 1000 = z i o.from o.upto in
            moves_on Writer (goes_count t p i (s.statuses (x i)) m)
            (w5_counts s (go s p Writer) (go s p (W6 i)) (s.statuses (x i)) i m)

    -- U10
    lift_U10 : (i : ℕ) → s.place p ≡ U10 i → Lifts (U10 i)
    lift_U10 i e = by (eqb (s.tails (q i)) (x i)) refl
      where
        at : On (homes t) (q i)
        at = re (U10 i) e

        d : ws.word (q i) 2 ≡ s.tails (q i)
        d = h.tails (q i) at

        by : (b : Bool) → eqb (s.tails (q i)) (x i) ≡ b
            → Stepped t s p (U10 i) (stepped_from t ws rs p (Some (U10 i)))
            (cond b (go (free s (q i)) p (done L s p i)) (go s p (U8 i)))
        by true z = carried (U10 i) (q i) 2 (Cas (x i) 0) refl at refl (s.tails (q i)) d (done L s p i)
            (rw z (goes_down i (rg (U10 i) e))) (free s (q i)) refl
            (subst
            (λ b. Shows t (cond b (storing ws (q i) 2 0) ws) rs (free s (q i)))
            (sym (ap (λ t. eqb t (x i)) d ∙ z))
            (shows_free t ws rs s h (q i)))
        by false z = carried (U10 i) (q i) 2 (Cas (x i) 0) refl at refl (s.tails (q i)) d (U8 i)
            (rw z (Waiting, refl)) s refl
            (subst (λ b. Shows t (cond b (storing ws (q i) 2 0) ws) rs s) (sym (ap (λ t. eqb t (x i)) d ∙ z)) h)

    -- every step
    pub lifted : (f : Place) → s.place p ≡ f → Lifts f ⊎ NoMore f
    lifted Idle e = inr ((λ z. let y : ◌≡◌ {A = ℕ} 0 1 = cc in omega arith), refl)
    lifted (W1 i) e = inl
        (carried (W1 i) (x i) 0 (Put 0) refl (re (W1 i) e) refl 0 refl _ (Moved, refl) _ refl
        (shows_next t ws rs s h (x i) 0))
    lifted (W2 i) e = inl
        (carried (W2 i) (x i) 1 (Put WAIT) refl (re (W2 i) e) refl 0 refl _ (Moved, refl) _ refl
        (shows_status t ws rs s h (x i) WAIT))
    lifted (W3 i) e = inl
        (carried (W3 i) (q i) 2 (Swap (x i)) refl (re (W3 i) e) refl (s.tails (q i)) (h.tails (q i) (re (W3 i) e)) _
        (both (eqb (s.tails (q i)) 0) _ _ _ _ (Moved, refl) (Moved, refl)) _ refl
        (shows_join t ws rs s h (q i) (x i)))
    lifted (W4 i y) e = inl
        (carried (W4 i y) y 0 (Put (x i)) refl (re (W4 i y) e) refl 0 refl _ (Moved, refl) _ refl
        (shows_next t ws rs s h y (x i)))
    lifted (W5 i) e = inl (lift_W5 i e)
    lifted (W6 i) e = inl
        (carried (W6 i) (x i) 1 (Put 0) refl (re (W6 i) e) refl 0 refl _
        (both (leb 2 i) _ _ _ _ (Moved, ap (λ j. moves (W1 j)) (sub-one i)) (Moved, refl)) _ refl
        (shows_status t ws rs s h (x i) 0))
    lifted (W7 k) e =
        let l = rg (W7 k) e in
        inl
        (adds_arrive (W7 k) k write_bit (s.arrives k + write_bit) l refl (omega (arith, small t G s bit v k l)) _
        (goes_next (counters t) k W7 _ _ (Moved, refl)))
    lifted (W8 k) e =
        let l = rg (W8 k) e in
        inl
        (carried (W8 k) (counter_home t k) 3 Get refl (re (W8 k) e) refl (s.arrives k) (h.arrives k l) _
        (Moved, refl) s refl h)
    lifted (W9 k n) e =
        let l = rg (W9 k n) e in
        inl
        (carried (W9 k n) (counter_home t k) 4 Get refl (re (W9 k n) e) refl (s.departs k) (h.departs k l) _
        (both' _ (eqb n (write_bit + s.departs k)) _ _ _ _ (ap (eqb n) (omega (arith, small t G s bit v k l)))
        (goes_next (counters t) k W8 _ _ (Entered, refl)) (Waiting, refl))
        s refl h)
    lifted (U1 i) e = inl (reads_status (U1 i) i refl (re (U1 i) e) _ (Moved, refl))
    lifted (U2 i n) e =
        let c = threshold t (element_at t p i) in
        let z : L.hand_over_limit p i ≡ c =
        ap (λ b. cond b (t.shape.writer_threshold - 1) c) (ne_eqb i 1 (omega (arith, rg (U2 i n) e))) in
        inl
        (reads_next (U2 i n) i refl (re (U2 i n) e) _
        (subst
        (λ c.
        Goes (next_of t p (U2 i n) (s.nexts (x i)))
        (cond (eqb (s.nexts (x i)) 0) (cond (leb i 2) U4 (U1 (pred i)))
        (cond (ltb n c) (U3 i (s.nexts (x i)) (suc n))
        (cond (leb i 2) U4 (U1 (pred i))))))
        (sym z)
        (goes_U2 i n (s.nexts (x i)) c)))
    lifted (U3 i y n) e = inl
        (carried (U3 i y n) y 1 (Put n) refl (re (U3 i y n) e) refl 0 refl _ (goes_down i (rg (U3 i y n) e).0) _ refl
        (shows_drop t (storing ws y 1 n) rs (put_status s y n) (shows_status t ws rs s h y n) (q i)))
    lifted U4 e = inl (reads_status U4 1 refl (re U4 e) _ (Moved, refl))
    lifted (U5 n) e =
        inl (reads_next (U5 n) 1 refl (re (U5 n) e) _ (goes_U5 n (s.nexts (x 1)) (t.shape.writer_threshold - 1)))
    lifted (U6 k) e = inl (swaps_depart (U6 k) k (rg (U6 k) e) refl _ (Moved, refl))
    lifted (U7 k n) e =
        let l = rg (U7 k n) e in
        inl
        (adds_arrive (U7 k n) k (minus ((write_bit + n) % 2 ^ 64)) (s.arrives k - (write_bit + n)) l refl
        (omega (arith, small t G s bit v k l, at_U7 t G s bit v p k n on l e)) _
        (goes_next (counters t) k U6 _ _ (Moved, refl)))
    lifted (U8 i) e = inl
        (reads_next (U8 i) i refl (re (U8 i) e) _ (both (eqb (s.nexts (x i)) 0) _ _ _ _ (Moved, refl) (Moved, refl)))
    lifted (U9 i y) e = inl
        (carried (U9 i y) y 1 (Put (told_status i)) refl (re (U9 i y) e) refl 0 refl _
        (goes_down i (rg (U9 i y) e).0) _ refl
        (shows_drop t (storing ws y 1 (told_status i)) rs (put_status s y (told_status i))
        (shows_status t ws rs s h y (told_status i)) (q i)))
    lifted (U10 i) e = inl (lift_U10 i e)
    lifted R1 e = inl
        (adds_arrive R1 c 1 (suc (s.arrives c)) c_in (ap (λ y. Some (access y 3 (Add 1))) own_is)
        (omega (arith, small t G s bit v c c_in)) _
        (both (ltb (s.arrives c) L.reader_threshold) _ _ _ _ (Entered, refl) (Moved, refl)))
    lifted R2 e = inl
        (adds_arrive R2 c (minus 1) (pred (s.arrives c)) c_in (ap (λ y. Some (access y 3 (Add (minus 1)))) own_is)
        (omega (arith, small t G s bit v c c_in, at_R2 t G s bit v p on e)) _ (Moved, refl))
    lifted R3 e = inl
        (carried R3 (counter_home t c) 3 Get (ap (λ y. Some (access y 3 Get)) own_is) own_at refl (s.arrives c)
        (h.arrives c c_in) _
        (both (ltb (s.arrives c) L.reader_threshold) _ _ _ _ (Moved, refl)
        (both (leb write_bit (s.arrives c)) _ _ _ _ (Waiting, refl) (Moved, refl)))
        s refl h)
    lifted R4 e = inl
        (carried R4 (element_home t 1) 2 Get refl (re R4 e) refl (s.tails (q 1))
        (h.tails (element_home t 1) (re R4 e) ∙ ap s.tails (sym (G.root p on))) _
        (both (eqb (s.tails (q 1)) 0) _ _ _ _ (Moved, refl) (Waiting, refl)) s refl h)
    lifted R5 e = inl (swaps_depart R5 c c_in (ap (λ y. Some (access y 4 (Swap 0))) own_is) _ (Moved, refl))
    lifted (R6 n) e = inl
        (adds_arrive (R6 n) c (minus n) (s.arrives c - n) c_in (ap (λ y. Some (access y 3 (Add (minus n)))) own_is)
        (omega (arith, small t G s bit v c c_in, at_R6 t G s bit v p n on e)) _ (Moved, refl))
    lifted R7 e = inl
        (carried R7 (counter_home t c) 4 (Add 1) (ap (λ y. Some (access y 4 (Add 1))) own_is) own_at refl
        (s.departs c) (h.departs c c_in) _ (Free, refl) _ refl
        (shows_depart t ws rs s h G.counter_one c ((ws.word (counter_home t c) 4 + 1) % 2 ^ 64)
        (suc (s.departs c)) (omega (arith, h.departs c c_in, small t G s bit v c c_in))))
    lifted Writer e = inr ((λ z. let y : ◌≡◌ {A = ℕ} 0 1 = cc in omega arith), refl)
    lifted Reader e = inr ((λ z. let y : ◌≡◌ {A = ℕ} 0 1 = cc in omega arith), refl)
