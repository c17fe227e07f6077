-- A move that only its own rank sees keeps the invariant of the queues: the hold level stays, the rank does not wait,
-- and NEXT is written at most at a node that it has prepared and not joined with. Such a node stands in no queue and
-- is no other rank's, so nobody else finds a word changed.
-- These are the asks, W1, W2, W6, U1, U2, U4, U5, U8, and all rows that leave the phase alone.
use Rattle.std.proofs.Common.{◌≡◌, ℕ, suc, ◌<◌, ◌≤◌, ◌≢◌, ◌⊎◌, sym, refl, ap, ◌∙◌, ⊎_elim, arith}
use Rattle.queues.specs.Machine.{holds_from, Tree, Lawful, On, Phase, out, fresh, clean, ready, link, wait, hold}
use Rattle.queues.specs.Machine.{give, hold_level, InRange, Waits, State, Inv, Behind, Asks}
use Rattle.queues.proofs.OneHolder.{one_owner, apart}
use Rattle.queues.proofs.Cases.{split}

-- the queues with new phases and a new NEXT
abbrev pub prepared : State → (ℕ → Phase) → (ℕ → ℕ) → State
prepared s phases nexts =
    record {
      phases = phases;
      nexts = nexts;
      tails = s.tails;
      node_at = s.node_at;
      head_turn = s.head_turn;
      next_turn = s.next_turn;
    }

-- the node that p is preparing
pub record Mine (T : Tree) (s : State) (p y : ℕ) : Type 0 where
  pub level : ℕ
  pub on : On (T.own_level p) level
  pub near : holds_from T s p ≡ suc level
  pub is : y ≡ T.node p level

-- what is asked of such a move
pub record Prepares (T : Tree) (s : State) (p : ℕ) (phases : ℕ → Phase) (nexts : ℕ → ℕ) : Type 0 where
  -- the rank holds what it held
  pub levels : hold_level (T.own_level p) (phases p) ≡ holds_from T s p
  -- at a level of its own
  pub in_range : InRange (T.own_level p) (phases p)
  -- it does not wait
  pub idle : (j : ℕ) → Waits (s.phases p) j → ⊥
  -- no other phase changes
  pub others : (q : ℕ) → q ≢ p → phases q ≡ s.phases q
  -- NEXT is written at most at the node that it is preparing
  pub words : (y : ℕ) → (nexts y ≡ s.nexts y) ⊎ Mine T s p y
  -- and the rank finds the words as its new phase says
  pub says : Asks T (prepared s phases nexts) p (phases p)

module _ (T : Tree) (G : Lawful T) (s : State) (v : Inv T s) (p : ℕ) (phases : ℕ → Phase) (nexts : ℕ → ℕ)
    (c : Prepares T s p phases nexts) where
  abbrev s' : State
  s' = prepared s phases nexts

  -- no hold level changes
  levels' : (q : ℕ) → hold_level (T.own_level q) (phases q) ≡ holds_from T s q
  levels' = split p
      (λ q. hold_level (T.own_level q) (phases q) ≡ holds_from T s q)
      c.levels
      (λ q a. ap (hold_level (T.own_level q)) (c.others q a))

  -- no queued node is written
  queued : (k a : ℕ) → s.head_turn k ≤ a → a < s.next_turn k → nexts (s.node_at k a) ≡ s.nexts (s.node_at k a)
  queued k a l l' = ⊎_elim
      (λ (z : nexts (s.node_at k a) ≡ s.nexts (s.node_at k a)). z)
      (λ (m : Mine T s p (s.node_at k a)).
      absurd (apart T G s v p m.level m.on m.near (c.idle m.level) k a l l' m.is))
      (c.words (s.node_at k a))

  -- no node of another rank is written
  foreign : (q j : ℕ) → q ≢ p → On (T.own_level q) j → holds_from T s q ≤ suc j
      → nexts (T.node q j) ≡ s.nexts (T.node q j)
  foreign q j ne on l = ⊎_elim
      (λ (z : nexts (T.node q j) ≡ s.nexts (T.node q j)). z)
      (λ (m : Mine T s p (T.node q j)).
      absurd (ne (one_owner T G s v q p j m.level on m.on l (omega (arith, m.near)) m.is).0))
      (c.words (T.node q j))

  -- the turns are as they were
  behind : (q j : ℕ) → Behind T s q j → Behind T s' q j
  behind q j b = record { turn = b.turn; low = b.low; high = b.high; is = b.is }

  -- another rank finds its words as before
  asks_o : (q : ℕ) → q ≢ p → (f : Phase) → s.phases q ≡ f → InRange (T.own_level q) f → Asks T s q f → Asks T s' q f
  unfolding behind
  asks_o q a out w g o = tt
  asks_o q a (fresh j) w g o = tt
  asks_o q a (clean j) w g o = foreign q j a g (omega (arith, ap (hold_level (T.own_level q)) w)) ∙ o
  asks_o q a (ready j) w g o = foreign q j a g (omega (arith, ap (hold_level (T.own_level q)) w)) ∙ o
  asks_o q a (link j u) w g o =
      record {
        spot = behind q j o.spot;
        target = o.target;
        none = queued (T.element q j) o.spot.turn o.spot.low (omega (arith, o.spot.high)) ∙ o.none;
      }
  asks_o q a (wait j) w g o =
      record {
        spot = behind q j o.spot;
        linked = queued (T.element q j) o.spot.turn o.spot.low (omega (arith, o.spot.high)) ∙ o.linked;
      }
  asks_o q a (hold j) w g o = tt
  asks_o q a (give h j u) w g o =
      (o.0 ∙ sym (foreign q j a (omega arith) (omega (arith, ap (hold_level (T.own_level q)) w))), o.1)

  -- so the invariant is kept
  pub kept_by : Inv T s'
  kept_by =
      record {
        range =
            split p (λ q. InRange (T.own_level q) (phases q)) c.in_range (λ q a. rw (c.others q a) (v.range q));
        order = v.order;
        once = v.once;
        empty = v.empty;
        tail = v.tail;
        ends = λ k a l z. queued k a l (omega arith) ∙ v.ends k a l z;
        heads =
            λ q j on l. let o = v.heads q j on (omega (arith, levels' q)) in record { some = o.some; is = o.is };
        holder = λ k l.
            let o = v.holder k l in
            record {
              rank = o.rank;
              level = o.level;
              on = o.on;
              queue = o.queue;
              is = o.is;
              holds = omega (arith, levels' o.rank, o.holds);
            };
        member = λ k a l l'.
            let m = v.member k a l l' in
            record {
              rank = m.rank;
              level = m.level;
              on = m.on;
              queue = m.queue;
              is = m.is;
              waits = split p
                  (λ q. Waits (s.phases q) m.level → Waits (phases q) m.level)
                  (λ w. absurd (c.idle m.level w))
                  (λ q x w. rw (c.others q x) w)
                  m.rank
                  m.waits;
            };
        asks = split p
            (λ q. Asks T s' q (phases q))
            c.says
            (λ q a. rw (c.others q a) (asks_o q a (s.phases q) refl (v.range q) (v.asks q)));
      }
