-- An element has one holder, and a node is used by one rank. Two ranks that hold one element are both the head of its
-- queue, so they have one node there. Then they are one rank, or both hold the same element one level deeper: the
-- argument goes down to the leaf, where the node is the rank's own.
-- From this: who stands at a turn of a queue, that a node which has not joined stands in none, and who stands behind
-- a holder that is about to hand over.
use Rattle.std.proofs.Common.{◌≡◌, ℕ, zero, suc, ◌+◌, ◌-◌, ◌<◌, ◌≤◌, ◌≢◌, ◌⊎◌, sym, ap, ◌∙◌, subst, subst₂, inl, inr, ⊎_elim, arith}
use Rattle.std.proofs.lemmas.Bool.Decides.{nat_tests}
use Rattle.std.proofs.lemmas.Bool.{cases_eq}
use Rattle.queues.specs.Machine.{holds_from, Tree, Lawful, On, Phase, link, wait, give, hold_level, InRange, Waits}
use Rattle.queues.specs.Machine.{State, Inv, Holder, Member, Heads, Behind, Asks}

-- the levels of a phase that is known are in range
pub range_of : (f : Phase) (top : ℕ) → InRange top f → (g : Phase) → f ≡ g → InRange top g
range_of f top h g e = subst (λ (x : Phase). InRange top x) e h

-- who uses the node at turn a of the queue of k: it holds k and the turn is the head, or it waits there
pub record Occupant (T : Tree) (s : State) (k a : ℕ) : Type 0 where
  pub rank : ℕ
  pub level : ℕ
  pub on : On (T.own_level rank) level
  pub queue : T.element rank level ≡ k
  pub is : s.node_at k a ≡ T.node rank level
  pub near : holds_from T s rank ≤ suc level
  pub role : ((a ≡ s.head_turn k) × (holds_from T s rank ≤ level)) ⊎ Waits (s.phases rank) level

-- who stands behind rank p at level i, and that t is its node
pub record Successor (T : Tree) (s : State) (p i t : ℕ) : Type 0 where
  pub rank : ℕ
  pub on : On (T.own_level rank) i
  pub queue : T.element rank i ≡ T.element p i
  pub waits : s.phases rank ≡ wait i
  pub more : suc (s.head_turn (T.element p i)) < s.next_turn (T.element p i)
  pub is : s.node_at (T.element p i) (suc (s.head_turn (T.element p i))) ≡ T.node rank i
  pub target : t ≡ T.node rank i

-- what a rank whose phase is known finds in the words
pub asked : (T : Tree) (s : State) → Inv T s → (p : ℕ) (f : Phase) → s.phases p ≡ f → Asks T s p f
asked T s v p f e = subst (Asks T s p) e (v.asks p)

-- whoever waits at i holds all below it
pub level_waits : (top : ℕ) (f : Phase) (i : ℕ) → Waits f i → hold_level top f ≡ suc i
level_waits top f i w = grind (arith, nat_tests)

-- the level at which a rank waits is one of its own
pub range_waits : (top : ℕ) (f : Phase) (i : ℕ) → InRange top f → Waits f i → On top i
range_waits top f i r w = grind (arith, nat_tests)

-- who waits has linked itself or is about to
pub waits_cases : (f : Phase) (i : ℕ) → Waits f i → (f ≡ wait i) ⊎ ((t : ℕ) × (f ≡ link i t))
waits_cases f i w = grind (arith, nat_tests)

module _ (T : Tree) (G : Lawful T) (s : State) (v : Inv T s) where
  -- two ranks that hold one element have one node there
  pub one_head : (p r i : ℕ) → On (T.own_level p) i → On (T.own_level r) i → holds_from T s p ≤ i
      → holds_from T s r ≤ i → T.element p i ≡ T.element r i → T.node p i ≡ T.node r i
  one_head p r i on on' h h' e =
      sym (v.heads p i on h).is ∙ (ap (λ k. s.node_at k (s.head_turn k)) e ∙ (v.heads r i on' h').is)

  -- two ranks that hold one element are one rank: down to the leaf, d levels below
  one_holder_by : (d p r i : ℕ) → i + d ≡ T.own_level p → On (T.own_level p) i → On (T.own_level r) i
      → holds_from T s p ≤ i → holds_from T s r ≤ i → T.element p i ≡ T.element r i → p ≡ r
  one_holder_by zero p r i room on on' h h' e = ⊎_elim
      (λ (q : p ≡ r). q)
      (λ (q : (i < T.own_level p) × (i < T.own_level r) × (T.element p (suc i) ≡ T.element r (suc i))).
      absurd (omega arith))
      (G.below p r i on on' (one_head p r i on on' h h' e))
  one_holder_by (suc d) p r i room on on' h h' e = ⊎_elim
      (λ (q : p ≡ r). q)
      (λ (q : (i < T.own_level p) × (i < T.own_level r) × (T.element p (suc i) ≡ T.element r (suc i))).
      one_holder_by d p r (suc i) (omega arith) (omega arith) (omega arith) (omega arith) (omega arith) q.2)
      (G.below p r i on on' (one_head p r i on on' h h' e))

  -- two ranks that hold one element are one rank
  pub one_holder : (p r i : ℕ) → On (T.own_level p) i → On (T.own_level r) i → holds_from T s p ≤ i
      → holds_from T s r ≤ i → T.element p i ≡ T.element r i → p ≡ r
  one_holder p r i on on' h h' e = one_holder_by (T.own_level p - i) p r i (omega arith) on on' h h' e

  -- a node is used by one rank: two ranks that hold all below it are one
  pub one_owner : (p r i j : ℕ) → On (T.own_level p) i → On (T.own_level r) j → holds_from T s p ≤ suc i
      → holds_from T s r ≤ suc j → T.node p i ≡ T.node r j → (p ≡ r) × (i ≡ j)
  one_owner p r i j on on' h h' e =
      let same : i ≡ j = (G.queue_of p r i j on on' e).0 in
      let on'' : On (T.own_level r) i = omega arith in (
        ⊎_elim
            (λ (q : p ≡ r). q)
            (λ (q : (i < T.own_level p) × (i < T.own_level r) × (T.element p (suc i) ≡ T.element r (suc i))).
            one_holder p r (suc i) (omega arith) (omega arith) (omega arith) (omega arith) q.2)
            (G.below p r i on on'' (e ∙ ap (T.node r) (sym same))),
        same,
      )

  -- who waits at a level holds all below it
  pub waits_level : (p i : ℕ) → Waits (s.phases p) i → holds_from T s p ≡ suc i
  waits_level p i w = level_waits (T.own_level p) (s.phases p) i w

  -- and the level is one of its own
  pub waits_on : (p i : ℕ) → Waits (s.phases p) i → On (T.own_level p) i
  waits_on p i w = range_waits (T.own_level p) (s.phases p) i (v.range p) w

  -- who uses the node at a turn of a queue
  pub occupant : (k a : ℕ) → s.head_turn k ≤ a → a < s.next_turn k → Occupant T s k a
  occupant k a h h' = ⊎_elim
      (λ (e : a ≡ s.head_turn k). first e (v.holder k (omega arith)))
      (λ (e : a ≡ s.head_turn k → ⊥). later a h h' e)
      (cases_eq a (s.head_turn k))
    where
      first : a ≡ s.head_turn k → Holder T s k → Occupant T s k a
      first e o =
          record {
            rank = o.rank;
            level = o.level;
            on = o.on;
            queue = o.queue;
            is = ap (s.node_at k) e ∙ o.is;
            near = omega arith;
            role = inl (e, o.holds);
          }

      later : (a : ℕ) → s.head_turn k ≤ a → a < s.next_turn k → (a ≡ s.head_turn k → ⊥) → Occupant T s k a
      later zero h h' e = absurd (e (omega arith))
      later (suc a) h h' e =
          let m : Member T s k (suc a) = v.member k a (omega arith) h' in
          record {
            rank = m.rank;
            level = m.level;
            on = m.on;
            queue = m.queue;
            is = m.is;
            near = omega (arith, waits_level m.rank m.level m.waits);
            role = inr m.waits;
          }

  -- the node of a rank that has not joined stands in no queue
  pub apart : (p i : ℕ) → On (T.own_level p) i → holds_from T s p ≡ suc i → (Waits (s.phases p) i → ⊥) → (k a : ℕ)
      → s.head_turn k ≤ a → a < s.next_turn k → s.node_at k a ≢ T.node p i
  apart p i on h w k a l l' e = by o.role
    where
      o : Occupant T s k a
      o = occupant k a l l'

      same : (o.rank ≡ p) × (o.level ≡ i)
      same = one_owner o.rank p o.level i o.on on o.near (omega arith) (sym o.is ∙ e)

      holds : holds_from T s o.rank ≡ holds_from T s p
      holds = ap (λ x. holds_from T s x) same.0

      by : ((a ≡ s.head_turn k) × (holds_from T s o.rank ≤ o.level)) ⊎ Waits (s.phases o.rank) o.level → ⊥
      by (inl r) = omega (arith, holds, same)
      by (inr r) = w (subst₂ (λ x y. Waits (s.phases x) y) same.0 same.1 r)

  -- the turn of a rank that stands behind another is the only one with its node
  pub turn_is : (k a p i : ℕ) → T.element p i ≡ k → s.head_turn k ≤ a → suc a < s.next_turn k
      → s.node_at k (suc a) ≡ T.node p i → (b : Behind T s p i) → b.turn ≡ a
  turn_is k a p i e l h is b = omega (arith, one)
    where
      one : suc b.turn ≡ suc a
      one = v.once k (suc b.turn) (suc a) (rw (← e) (omega arith)) (rw (← e) b.high) (omega arith) h
          (rw (← e) b.is ∙ sym is)

  -- who stands behind a rank that is about to hand over
  pub successor : (p h i t : ℕ) → s.phases p ≡ give h i t → Successor T s p i t
  successor p h i t e = someone (cases_eq (suc (s.head_turn k)) (s.next_turn k))
    where
      k : ℕ
      k = T.element p i

      rg : InRange (T.own_level p) (give h i t)
      rg = range_of (s.phases p) (T.own_level p) (v.range p) (give h i t) e

      on_p : On (T.own_level p) i
      on_p = omega (arith, rg)

      head_p : Heads T s p i
      head_p = v.heads p i on_p (omega (arith, rg, ap (hold_level (T.own_level p)) e))

      has_read : (t ≡ s.nexts (T.node p i)) × (t ≢ 0)
      has_read = asked T s v p (give h i t) e

      found : Heads T s p i → On (T.own_level p) i
          → suc (s.head_turn (T.element p i)) < s.next_turn (T.element p i)
          → Member T s (T.element p i) (suc (s.head_turn (T.element p i))) → Successor T s p i t
      found hd on more m = by (waits_cases (s.phases r) i (subst (Waits (s.phases r)) same m.waits))
        where
          r : ℕ
          r = m.rank

          same : m.level ≡ i
          same = G.level_of m.rank p m.level i m.on on m.queue

          on' : On (T.own_level r) i
          on' = omega (arith, same, m.on)

          queue' : T.element r i ≡ T.element p i
          queue' = ap (T.element r) (sym same) ∙ m.queue

          is' : s.node_at (T.element p i) (suc (s.head_turn (T.element p i))) ≡ T.node r i
          is' = m.is ∙ ap (T.node r) same

          here : (b : Behind T s r i) → s.node_at (T.element r i) b.turn ≡ T.node p i
          here b = rw
              (queue', turn_is (T.element p i) (s.head_turn (T.element p i)) r i queue' (omega arith) more is' b)
              hd.is

          by : (s.phases r ≡ wait i) ⊎ ((u : ℕ) × (s.phases r ≡ link i u)) → Successor T s p i t
          by (inl w) =
              let ww = asked T s v r (wait i) w in
              record {
                rank = r;
                on = on';
                queue = queue';
                waits = w;
                more = more;
                is = is';
                target = has_read.0 ∙ (ap s.nexts (sym (here ww.spot)) ∙ ww.linked);
              }
          by (inr w) =
              let ll = asked T s v r (link i w.0) w.1 in
              absurd (has_read.1 (has_read.0 ∙ (ap s.nexts (sym (here ll.spot)) ∙ ll.none)))

      -- the head is not the last: NEXT of the last node is 0, and t is not
      someone : (suc (s.head_turn k) ≡ s.next_turn k) ⊎ (suc (s.head_turn k) ≡ s.next_turn k → ⊥)
          → Successor T s p i t
      someone (inl z) =
          let end = v.ends k (s.head_turn k) (omega arith) z in
          absurd (has_read.1 (has_read.0 ∙ (ap s.nexts (sym head_p.is) ∙ end)))
      someone (inr z) =
          let more : suc (s.head_turn k) < s.next_turn k = omega (arith, head_p.some) in
          found head_p on_p more (v.member k (s.head_turn k) (omega arith) more)

  -- a node stands in one queue, at one turn
  pub one_turn : (k m a b : ℕ) → s.head_turn k ≤ a → a < s.next_turn k → s.head_turn m ≤ b → b < s.next_turn m
      → s.node_at k a ≡ s.node_at m b → (k ≡ m) × (a ≡ b)
  one_turn k m a b l l' h h' e =
      let o : Occupant T s k a = occupant k a l l' in
      let u : Occupant T s m b = occupant m b h h' in
      let z : k ≡ m =
      sym o.queue
      ∙ ((G.queue_of o.rank u.rank o.level u.level o.on u.on (sym o.is ∙ (e ∙ u.is))).1
      ∙ u.queue) in
      (z, v.once k a b l l' (rw z h) (rw z h') (e ∙ ap (λ x. s.node_at x b) (sym z)))
