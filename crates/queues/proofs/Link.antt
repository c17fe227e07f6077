-- Row W4: a rank that has joined writes its node into the NEXT of the node before it, and waits. Of the queued nodes
-- only that one is written; it is not the last of its queue, and no other rank stands right behind it or is about to
-- link itself to it.
use Rattle.std.proofs.Common.{◌≡◌, ℕ, suc, ◌<◌, ◌≤◌, ◌≢◌, sym, refl, ap, ◌∙◌, subst, arith}
use Rattle.queues.specs.Machine.{holds_from, Tree, Lawful, On, Phase, out, fresh, clean, ready, link, wait, hold}
use Rattle.queues.specs.Machine.{give, hold_level, InRange, Waits, State, Inv, Behind, Linking, Asks}
use Rattle.queues.proofs.OneHolder.{range_of, one_owner, apart, asked, one_turn}
use Rattle.queues.proofs.Cases.{split}
use Rattle.queues.proofs.OwnMoves.{prepared}

-- what is asked of a move that links
pub record Links (T : Tree) (s : State) (p i t : ℕ) (phases : ℕ → Phase) (nexts : ℕ → ℕ) : Type 0 where
  -- the rank waits
  pub after : phases p ≡ wait i
  -- no other phase changes
  pub others : (q : ℕ) → q ≢ p → phases q ≡ s.phases q
  -- NEXT of the node before is the own node
  pub written : nexts t ≡ T.node p i
  -- and no other is written
  pub words : (y : ℕ) → y ≢ t → nexts y ≡ s.nexts y

module _ (T : Tree) (G : Lawful T) (s : State) (v : Inv T s) (p i t : ℕ) (e : s.phases p ≡ link i t)
    (phases : ℕ → Phase) (nexts : ℕ → ℕ) (c : Links T s p i t phases nexts) where
  abbrev s' : State
  s' = prepared s phases nexts

  on_p : On (T.own_level p) i
  on_p = range_of (s.phases p) (T.own_level p) (v.range p) (link i t) e

  -- what the rank found before
  was : Linking T s p i t
  was = asked T s v p (link i t) e

  -- no hold level changes
  levels' : (q : ℕ) → hold_level (T.own_level q) (phases q) ≡ holds_from T s q
  levels' = split p
      (λ q. hold_level (T.own_level q) (phases q) ≡ holds_from T s q)
      (ap (hold_level (T.own_level p)) c.after ∙ sym (ap (hold_level (T.own_level p)) e))
      (λ q a. ap (hold_level (T.own_level q)) (c.others q a))

  -- of the queued nodes, only the one before p's is written
  queued : (k a : ℕ) → s.head_turn k ≤ a → a < s.next_turn k → ((T.element p i ≡ k) × (was.spot.turn ≡ a) → ⊥)
      → nexts (s.node_at k a) ≡ s.nexts (s.node_at k a)
  queued k a l l' d = c.words (s.node_at k a)
      (λ z.
      d
      (one_turn T G s v (T.element p i) k was.spot.turn a was.spot.low (omega (arith, was.spot.high))
      l l' (sym was.target ∙ sym z)))

  -- it is not the end of its queue
  inner : (k a : ℕ) → suc a ≡ s.next_turn k → (T.element p i ≡ k) × (was.spot.turn ≡ a) → ⊥
  inner k a z d = let h : suc was.spot.turn < s.next_turn k = rw d.0 at was.spot.high in omega arith

  -- nor the one before another rank's
  other : (q j : ℕ) → q ≢ p → On (T.own_level q) j → holds_from T s q ≡ suc j → (b : Behind T s q j)
      → (T.element p i ≡ T.element q j) × (was.spot.turn ≡ b.turn) → ⊥
  other q j a on l b d = a
      (one_owner T G s v q p j i on on_p (omega arith) (omega (arith, ap (hold_level (T.own_level p)) e))
      (sym b.is ∙ (rw (← d.0, ← d.1) was.spot.is))).0

  -- the turns are as they were
  behind : (q j : ℕ) → Behind T s q j → Behind T s' q j
  behind q j b = record { turn = b.turn; low = b.low; high = b.high; is = b.is }

  -- a node that is not queued is not written
  unqueued : (q j : ℕ) → On (T.own_level q) j → holds_from T s q ≡ suc j → (Waits (s.phases q) j → ⊥)
      → nexts (T.node q j) ≡ s.nexts (T.node q j)
  unqueued q j on l w = c.words (T.node q j)
      (λ z.
      apart T G s v q j on l w (T.element p i) was.spot.turn was.spot.low (omega (arith, was.spot.high))
      (sym was.target ∙ sym z))

  -- another rank finds its words as before
  asks_o : (q : ℕ) → q ≢ p → (f : Phase) → s.phases q ≡ f → InRange (T.own_level q) f → Asks T s q f → Asks T s' q f
  unfolding behind
  asks_o q a out w g o = tt
  asks_o q a (fresh j) w g o = tt
  asks_o q a (clean j) w g o =
      unqueued q j g (ap (hold_level (T.own_level q)) w) (λ x. subst (λ f. Waits f j) w x) ∙ o
  asks_o q a (ready j) w g o =
      unqueued q j g (ap (hold_level (T.own_level q)) w) (λ x. subst (λ f. Waits f j) w x) ∙ o
  asks_o q a (link j u) w g o =
      record {
        spot = behind q j o.spot;
        target = o.target;
        none = queued (T.element q j) o.spot.turn o.spot.low (omega (arith, o.spot.high))
            (other q j a g (ap (hold_level (T.own_level q)) w) o.spot) ∙ o.none;
      }
  asks_o q a (wait j) w g o =
      record {
        spot = behind q j o.spot;
        linked = queued (T.element q j) o.spot.turn o.spot.low (omega (arith, o.spot.high))
            (other q j a g (ap (hold_level (T.own_level q)) w) o.spot) ∙ o.linked;
      }
  asks_o q a (hold j) w g o = tt
  asks_o q a (give h j u) w g o =
      (o.0 ∙ sym (c.words (T.node q j) (λ z. o.1 (o.0 ∙ (ap s.nexts (z ∙ was.target) ∙ was.none)))), o.1)

  -- the rank itself is linked
  asks_p : Asks T s' p (wait i)
  unfolding behind
  asks_p = record { spot = behind p i was.spot; linked = ap nexts (sym was.target) ∙ c.written }

  -- so the invariant is kept
  pub linked_up : Inv T s'
  linked_up =
      record {
        range = split p
            (λ q. InRange (T.own_level q) (phases q))
            (rw c.after on_p)
            (λ q a. rw (c.others q a) (v.range q));
        order = v.order;
        once = v.once;
        empty = v.empty;
        tail = v.tail;
        ends = λ k a l z. queued k a l (omega arith) (inner k a z) ∙ v.ends k a l z;
        heads =
            λ q j on l. let o = v.heads q j on (omega (arith, levels' q)) in record { some = o.some; is = o.is };
        holder = λ k l.
            let o = v.holder k l in
            record {
              rank = o.rank;
              level = o.level;
              on = o.on;
              queue = o.queue;
              is = o.is;
              holds = omega (arith, levels' o.rank, o.holds);
            };
        member = λ k a l l'.
            let m = v.member k a l l' in
            record {
              rank = m.rank;
              level = m.level;
              on = m.on;
              queue = m.queue;
              is = m.is;
              waits = split p
                  (λ q. Waits (s.phases q) m.level → Waits (phases q) m.level)
                  (λ w. rw c.after (subst (λ f. Waits f m.level) e w))
                  (λ q x w. rw (c.others q x) w)
                  m.rank
                  m.waits;
            };
        asks = split p
            (λ q. Asks T s' q (phases q))
            (rw c.after asks_p)
            (λ q a. rw (c.others q a) (asks_o q a (s.phases q) refl (v.range q) (v.asks q)));
      }
