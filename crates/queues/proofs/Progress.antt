-- Somebody can always move. Whoever waits, waits for an element that some rank holds; if that one waits too, it waits
-- higher up, so the search ends at a rank that does not wait. A holder whose node is not the TAIL has a rank right
-- behind it. And while nobody carries anything of a counter, the writer's test at W9 succeeds.
use Rattle.std.proofs.Common.{◌≡◌, ℕ, zero, suc, ◌+◌, ◌<◌, ◌≤◌, ◌≢◌, ◌⊎◌, sym, refl, ap, ◌∙◌, subst, inl, inr, ⊎_elim, arith}
use Rattle.std.proofs.lemmas.Bool.{cases_eq}
use Rattle.places.specs.Words.{most_hand_overs}
use Rattle.queues.specs.Machine.{holds_from, Tree, Lawful, On, Phase, out, fresh, clean, ready, link, wait, hold}
use Rattle.queues.specs.Machine.{give, hold_level, InRange, Waits, State, Inv, Holder, Member, Heads, Behind}
use Rattle.queues.specs.Table.{Place, Idle, W1, W2, W3, W4, W5, W6, W7, W8, W9, U1, U2, U3, U4, U5, U6, U7, U8, U9}
use Rattle.queues.specs.Table.{U10, R1, R2, R3, R4, R5, R6, R7, Writer, Reader, told_status, Plan, Lock}
use Rattle.queues.specs.Counters.{write_bit, total, tries, admits, clears, Tally, Counted}
use Rattle.queues.proofs.OneHolder.{asked, waits_cases, turn_is}
use Rattle.queues.proofs.Sums.{total_none, total_swap}

-- a phase waits for a STATUS, or does not
pub waits_or : (f : Phase) → ((i : ℕ) × (f ≡ wait i)) ⊎ ((i : ℕ) → f ≢ wait i)
waits_or (wait i) = inl (i, refl)
waits_or out = inr (λ i e. absurd (subst (λ f. Waits f i) (sym e) refl))
waits_or (fresh j) = inr (λ i e. absurd (subst (λ f. Waits f i) (sym e) refl))
waits_or (clean j) = inr (λ i e. absurd (subst (λ f. Waits f i) (sym e) refl))
waits_or (ready j) = inr (λ i e. absurd (subst (λ f. Waits f i) (sym e) refl))
waits_or (link j t) = inr (λ i e. let z : ◌≡◌ {A = ℕ} 0 1 = cc in omega arith)
waits_or (hold j) = inr (λ i e. absurd (subst (λ f. Waits f i) (sym e) refl))
waits_or (give h j t) = inr (λ i e. absurd (subst (λ f. Waits f i) (sym e) refl))

-- a rank that holds something and does not wait
pub record Mover (T : Tree) (s : State) : Type 0 where
  pub rank : ℕ
  pub holds : holds_from T s rank ≤ T.own_level rank
  pub free : (i : ℕ) → s.phases rank ≢ wait i

-- whoever waits, somebody holds what it waits for; who waits in turn waits higher up
onward : (T : Tree) → Lawful T → (s : State) → Inv T s → (d i p : ℕ) → i ≤ suc d → s.phases p ≡ wait i
    → ((j q : ℕ) → j ≤ d → s.phases q ≡ wait j → Mover T s) → Mover T s
onward T G s v d i p l e again = by (waits_or (s.phases h.rank))
  where
    b : Behind T s p i
    b = (asked T s v p (wait i) e).spot

    on : On (T.own_level p) i
    on = subst (InRange (T.own_level p)) e (v.range p)

    h : Holder T s (T.element p i)
    h = v.holder (T.element p i) (omega (arith, b.low, b.high))

    same : h.level ≡ i
    same = G.level_of h.rank p h.level i h.on on h.queue

    by : ((j : ℕ) × (s.phases h.rank ≡ wait j)) ⊎ ((j : ℕ) → s.phases h.rank ≢ wait j) → Mover T s
    by (inl (j, w)) =
        let lv = ap (hold_level (T.own_level h.rank)) w in
        again j h.rank (omega (arith, h.holds, same, lv)) w
    by (inr w) = record { rank = h.rank; holds = omega (arith, h.holds, h.on); free = w }

-- from whoever waits to a rank that holds something and does not wait
pub mover : (T : Tree) → Lawful T → (s : State) → Inv T s → (d i p : ℕ) → i ≤ d → s.phases p ≡ wait i → Mover T s
mover T G s v zero i p l e =
    let o : On (T.own_level p) i = subst (InRange (T.own_level p)) e (v.range p) in absurd (omega arith)
mover T G s v (suc d) i p l e = onward T G s v d i p l e (λ j q m w. mover T G s v d j q m w)

-- the next row of the rank neither waits nor repeats
abbrev pub Able : Plan → Lock → ℕ → Place → Type 0
Able L s p Idle = ⊥
Able L s p (W1 i) = Unit {0}
Able L s p (W2 i) = Unit {0}
Able L s p (W3 i) = Unit {0}
Able L s p (W4 i t) = Unit {0}
Able L s p (W5 i) =
    (s.statuses (L.tree.node p i) ≤ most_hand_overs) ⊎ (s.statuses (L.tree.node p i) ≡ told_status i)
Able L s p (W6 i) = Unit {0}
Able L s p (W7 k) = k < L.counters
Able L s p (W8 k) = k < L.counters
Able L s p (W9 k n) = (k < L.counters) × (n ≡ write_bit + s.departs k)
Able L s p (U1 i) = Unit {0}
Able L s p (U2 i n) = 2 ≤ i
Able L s p (U3 i t n) = On (L.tree.own_level p) i
Able L s p U4 = Unit {0}
Able L s p (U5 n) = Unit {0}
Able L s p (U6 k) = k < L.counters
Able L s p (U7 k n) = (k < L.counters) × On (L.tree.own_level p) 1
Able L s p (U8 i) = Unit {0}
Able L s p (U9 i t) = On (L.tree.own_level p) i
Able L s p (U10 i) = On (L.tree.own_level p) i × (s.tails (L.tree.element p i) ≡ L.tree.node p i)
Able L s p R1 = ⊥
Able L s p R2 = ⊥
Able L s p R3 = ⊥
Able L s p R4 = ⊥
Able L s p R5 = ⊥
Able L s p (R6 n) = ⊥
Able L s p R7 = ⊥
Able L s p Writer = ⊥
Able L s p Reader = ⊥

-- who stands behind a holder whose node is not the tail: it has linked itself, or is about to
pub record Follower (T : Tree) (s : State) (p i : ℕ) : Type 0 where
  pub rank : ℕ
  pub on : On (T.own_level rank) i
  pub how : ((s.phases rank ≡ wait i) × (s.nexts (T.node p i) ≡ T.node rank i))
      ⊎ (s.phases rank ≡ link i (T.node p i))

-- if TAIL is not the own node, somebody stands behind
pub follower : (T : Tree) (G : Lawful T) (s : State) (v : Inv T s) (p i : ℕ) → s.phases p ≡ hold i
    → s.tails (T.element p i) ≢ T.node p i → Follower T s p i
follower T G s v p i e ne = found (v.member k (s.head_turn k) (omega arith) more)
  where
    k : ℕ
    k = T.element p i

    on : On (T.own_level p) i
    on = subst (InRange (T.own_level p)) e (v.range p)

    hd : Heads T s p i
    hd = v.heads p i on (omega (arith, ap (hold_level (T.own_level p)) e))

    more : suc (s.head_turn k) < s.next_turn k
    more = ⊎_elim
        (λ (z : suc (s.head_turn k) ≡ s.next_turn k).
        absurd (ne (v.tail k (s.head_turn k) (omega arith) z ∙ hd.is)))
        (λ (z : suc (s.head_turn k) ≡ s.next_turn k → ⊥). omega (arith, hd.some))
        (cases_eq (suc (s.head_turn k)) (s.next_turn k))

    found : Member T s k (suc (s.head_turn k)) → Follower T s p i
    found m =
        record {
          rank = m.rank;
          on = omega (arith, same, m.on);
          how = by (waits_cases (s.phases m.rank) i (subst (Waits (s.phases m.rank)) same m.waits));
        }
      where
        same : m.level ≡ i
        same = G.level_of m.rank p m.level i m.on on m.queue

        queue : T.element m.rank i ≡ k
        queue = ap (T.element m.rank) (sym same) ∙ m.queue

        here : (b : Behind T s m.rank i) → s.node_at (T.element m.rank i) b.turn ≡ T.node p i
        here b = rw (
          queue,
          turn_is T G s v k (s.head_turn k) m.rank i queue (omega arith) more
              (m.is ∙ ap (T.node m.rank) same) b,
        )
            hd.is

        by : (s.phases m.rank ≡ wait i) ⊎ ((u : ℕ) × (s.phases m.rank ≡ link i u))
            → ((s.phases m.rank ≡ wait i) × (s.nexts (T.node p i) ≡ T.node m.rank i))
            ⊎ (s.phases m.rank ≡ link i (T.node p i))
        by (inl w) =
            let a = asked T s v m.rank (wait i) w in inl (w, ap s.nexts (sym (here a.spot)) ∙ a.linked)
        by (inr w) =
            let a = asked T s v m.rank (link i w.0) w.1 in
            inr (w.1 ∙ ap (link i) (a.target ∙ here a.spot))

-- while no rank carries anything of the counter and its bit stands, ARRIVE is what W9 wants
pub passes : (P C limit : ℕ) (s : Tally) → Counted P C limit s → (k : ℕ) → k < C → s.bit k ≡ 1
    → ((q : ℕ) → On P q → (tries (s.load q) k ≡ 0) × (admits (s.load q) k ≡ 0) × (clears (s.load q) k ≡ 0))
    → s.arrives k ≡ write_bit + s.departs k
passes P C limit s v k l b h =
    let x = total_none P (λ q. tries (s.load q) k) (λ q o. (h q o).0) in
    let y = total_none P (λ q. admits (s.load q) k) (λ q o. (h q o).1) in
    let z = total_none P (λ q. clears (s.load q) k) (λ q o. (h q o).2) in
    omega (arith, (v.each k l).sum)

-- the sum of the numbers falls where one rank's falls
pub sum_falls : (n : ℕ) (f g : ℕ → ℕ) (p : ℕ) → On n p → ((q : ℕ) → q ≢ p → g q ≡ f q) → g p < f p
    → total n g < total n f
sum_falls n f g p on e l = omega (arith, total_swap n f g p on e)
