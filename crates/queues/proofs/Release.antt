-- A release (row U10 where TAIL was the own node): TAIL is the last node and the own node is the head, so the queue
-- had one node, and is empty now.
use Rattle.std.proofs.Common.{◌≡◌, ℕ, suc, pred, ◌<◌, ◌≤◌, ◌≢◌, ◌⊎◌, sym, refl, ap, ◌∙◌, subst, inl, inr, arith}
use Rattle.std.proofs.lemmas.Bool.{cases_eq}
use Rattle.queues.specs.Machine.{holds_from, Tree, Lawful, On, Phase, out, fresh, clean, ready, link, wait, hold}
use Rattle.queues.specs.Machine.{give, hold_level, InRange, Waits, Calm, State, Inv, Holder, Member, Heads, Behind}
use Rattle.queues.specs.Machine.{Asks}
use Rattle.queues.proofs.OneHolder.{range_of, one_holder}
use Rattle.queues.proofs.Cases.{split, calm_asks}

-- the queues with new phases, one head gone and its TAIL 0
abbrev pub freed : State → (ℕ → Phase) → (ℕ → ℕ) → (ℕ → ℕ) → State
freed s phases tails head_turn =
    record {
      phases = phases;
      nexts = s.nexts;
      tails = tails;
      node_at = s.node_at;
      head_turn = head_turn;
      next_turn = s.next_turn;
    }

-- what is asked of a release by rank p at level i
pub record Frees (T : Tree) (s : State) (p i : ℕ) (phases : ℕ → Phase) (tails head_turn : ℕ → ℕ) : Type 0 where
  -- the rank keeps what is deeper than i
  pub giver : hold_level (T.own_level p) (phases p) ≡ suc i
  -- and asks nothing
  pub calm : Calm (phases p)
  -- at a level of its own
  pub in_range : InRange (T.own_level p) (phases p)
  -- no other phase changes
  pub others : (q : ℕ) → q ≢ p → phases q ≡ s.phases q
  -- TAIL becomes 0
  pub tail_zero : tails (T.element p i) ≡ 0
  -- and no other does
  pub other_tails : (k : ℕ) → k ≢ T.element p i → tails k ≡ s.tails k
  -- the head of this queue goes
  pub head_gone : head_turn (T.element p i) ≡ suc (s.head_turn (T.element p i))
  -- and of no other
  pub stay : (k : ℕ) → k ≢ T.element p i → head_turn k ≡ s.head_turn k

module _ (T : Tree) (G : Lawful T) (s : State) (v : Inv T s) (p i : ℕ) (e : s.phases p ≡ hold i)
    (was : s.tails (T.element p i) ≡ T.node p i) (phases : ℕ → Phase) (tails head_turn : ℕ → ℕ)
    (c : Frees T s p i phases tails head_turn) where
  abbrev s' : State
  s' = freed s phases tails head_turn

  on_p : On (T.own_level p) i
  on_p = range_of (s.phases p) (T.own_level p) (v.range p) (hold i) e

  -- the rank held from i down
  level_p : holds_from T s p ≡ i
  level_p = ap (hold_level (T.own_level p)) e

  -- nobody else holds more or less
  level_o : (q : ℕ) → q ≢ p → hold_level (T.own_level q) (phases q) ≡ holds_from T s q
  level_o q a = ap (hold_level (T.own_level q)) (c.others q a)

  -- its node was the head
  head_p : Heads T s p i
  head_p = v.heads p i on_p (omega (arith, level_p))

  -- the queue has one node
  single : suc (s.head_turn (T.element p i)) ≡ s.next_turn (T.element p i)
  single =
      let k = T.element p i in
      let a = pred (s.next_turn k) in
      let h : s.head_turn k < s.next_turn k = head_p.some in
      let q : a ≡ s.head_turn k =
      v.once k a (s.head_turn k) (omega arith) (omega arith) (omega arith) h
      (sym (v.tail k a (omega arith) (omega arith)) ∙ (was ∙ sym head_p.is)) in
      omega arith

  -- so the queue is empty
  now_empty : head_turn (T.element p i) ≡ s.next_turn (T.element p i)
  now_empty = c.head_gone ∙ single

  -- no more go than joined
  order' : (k : ℕ) → head_turn k ≤ s.next_turn k
  order' = split (T.element p i)
      (λ k. head_turn k ≤ s.next_turn k)
      (omega (arith, now_empty))
      (λ k ne. omega (arith, c.stay k ne, v.order k))

  -- no turn comes back
  head_grows : (k : ℕ) → s.head_turn k ≤ head_turn k
  head_grows = split (T.element p i)
      (λ k. s.head_turn k ≤ head_turn k)
      (omega (arith, c.head_gone))
      (λ k ne. omega (arith, c.stay k ne))

  -- the TAIL of another queue is its last node
  tail' : (k a : ℕ) → head_turn k ≤ a → suc a ≡ s.next_turn k → tails k ≡ s.node_at k a
  tail' = split (T.element p i)
      (λ k. (a : ℕ) → head_turn k ≤ a → suc a ≡ s.next_turn k → tails k ≡ s.node_at k a)
      (λ a l z. absurd (omega (arith, now_empty)))
      (λ k ne a l z. rw (c.other_tails k ne) (v.tail k a (omega (arith, head_grows k)) z))

  -- that of an empty one is 0
  empty' : (k : ℕ) → head_turn k ≡ s.next_turn k → tails k ≡ 0
  empty' = split (T.element p i)
      (λ k. head_turn k ≡ s.next_turn k → tails k ≡ 0)
      (λ _. c.tail_zero)
      (λ k ne z. c.other_tails k ne ∙ v.empty k (omega (arith, c.stay k ne)))

  -- a head of another queue stays head
  kept : (q j : ℕ) → T.element q j ≢ T.element p i → Heads T s q j → Heads T s' q j
  kept q j ne o =
      record {
        some = omega (arith, c.stay (T.element q j) ne, o.some);
        is = rw (c.stay (T.element q j) ne) o.is;
      }

  -- the rank is the head of what it keeps
  heads_p : (j : ℕ) → On (T.own_level p) j → hold_level (T.own_level p) (phases p) ≤ j → Heads T s' p j
  heads_p j on l = kept p j
      (λ z. let w : j ≡ i = G.level_of p p j i on on_p z in omega (arith, c.giver))
      (v.heads p j on (omega (arith, c.giver, level_p)))

  -- others are heads as before
  heads_o : (q : ℕ) → q ≢ p → (j : ℕ) → On (T.own_level q) j → hold_level (T.own_level q) (phases q) ≤ j
      → Heads T s' q j
  heads_o q a j on l =
      let l' : holds_from T s q ≤ j = omega (arith, level_o q a) in
      kept q j
      (λ w.
      let z : j ≡ i = G.level_of q p j i on on_p w in
      a
      (one_holder T G s v q p j on (omega (arith, on_p)) l' (omega (arith, level_p))
      (w ∙ ap (T.element p) (sym z))))
      (v.heads q j on l')

  -- nobody waited in this queue, and elsewhere the turns are as they were
  behind : (q j : ℕ) → Behind T s q j → Behind T s' q j
  behind q j b =
      record { turn = b.turn; low = low (cases_eq (T.element q j) (T.element p i)); high = b.high; is = b.is }
    where
      low : (T.element q j ≡ T.element p i) ⊎ (T.element q j ≡ T.element p i → ⊥)
          → head_turn (T.element q j) ≤ b.turn
      low (inl z) =
          let l : s.head_turn (T.element p i) ≤ b.turn = rw z at b.low in
          let m : suc b.turn < s.next_turn (T.element p i) = rw z at b.high in absurd (omega (arith, single))
      low (inr z) = rw (c.stay (T.element q j) z) b.low

  -- other ranks find their words as before
  asks_o : (q : ℕ) → (f : Phase) → Asks T s q f → Asks T s' q f
  unfolding behind
  asks_o q out o = tt
  asks_o q (fresh j) o = tt
  asks_o q (clean j) o = o
  asks_o q (ready j) o = o
  asks_o q (link j u) o = record { spot = behind q j o.spot; target = o.target; none = o.none }
  asks_o q (wait j) o = record { spot = behind q j o.spot; linked = o.linked }
  asks_o q (hold j) o = tt
  asks_o q (give g j u) o = o

  -- each head of another queue has its holder
  holder_o : (k : ℕ) → k ≢ T.element p i → Holder T s k → Holder T s' k
  holder_o k ne o = split p
      (λ q.
      (j : ℕ) → On (T.own_level q) j → T.element q j ≡ k → s.node_at k (s.head_turn k) ≡ T.node q j
      → holds_from T s q ≤ j → Holder T s' k)
      from_p
      from_o
      o.rank
      o.level
      o.on
      o.queue
      o.is
      o.holds
    where
      from_p : (j : ℕ) → On (T.own_level p) j → T.element p j ≡ k → s.node_at k (s.head_turn k) ≡ T.node p j
          → holds_from T s p ≤ j → Holder T s' k
      from_p j on q is l =
          let d : j ≢ i = λ z. ne (sym q ∙ ap (T.element p) z) in
          record {
            rank = p;
            level = j;
            on = on;
            queue = q;
            is = rw (c.stay k ne) is;
            holds = omega (arith, c.giver, level_p);
          }

      from_o : (x : ℕ) → x ≢ p → (j : ℕ) → On (T.own_level x) j → T.element x j ≡ k
          → s.node_at k (s.head_turn k) ≡ T.node x j → holds_from T s x ≤ j → Holder T s' k
      from_o x a j on q is l =
          record {
            rank = x;
            level = j;
            on = on;
            queue = q;
            is = rw (c.stay k ne) is;
            holds = omega (arith, level_o x a);
          }

  -- and all behind it wait
  member_of : (k a : ℕ) → Member T s k (suc a) → Member T s' k (suc a)
  member_of k a m =
      record {
        rank = m.rank;
        level = m.level;
        on = m.on;
        queue = m.queue;
        is = m.is;
        waits = split p
            (λ q. q ≡ m.rank → Waits (phases q) m.level)
            (λ z. absurd (subst (λ f. Waits f m.level) (ap s.phases (sym z) ∙ e) m.waits))
            (λ q x z. rw (c.others q x, z) m.waits)
            m.rank
            refl;
      }

  -- so the invariant is kept
  pub retired : Inv T s'
  retired =
      record {
        range =
            split p (λ q. InRange (T.own_level q) (phases q)) c.in_range (λ q a. rw (c.others q a) (v.range q));
        order = order';
        once = λ k a b l l' m m' q. v.once k a b (omega (arith, head_grows k)) l' (omega (arith, head_grows k)) m' q;
        empty = empty';
        tail = tail';
        ends = λ k a l z. v.ends k a (omega (arith, head_grows k)) z;
        heads = split p
            (λ q. (j : ℕ) → On (T.own_level q) j → hold_level (T.own_level q) (phases q) ≤ j → Heads T s' q j)
            heads_p
            heads_o;
        holder = split (T.element p i)
            (λ k. head_turn k < s.next_turn k → Holder T s' k)
            (λ z. absurd (omega (arith, now_empty)))
            (λ k ne l. holder_o k ne (v.holder k (omega (arith, c.stay k ne))));
        member = λ k a l l'. member_of k a (v.member k a (omega (arith, head_grows k)) l');
        asks = split p
            (λ q. Asks T s' q (phases q))
            (calm_asks T s' p (phases p) c.calm)
            (λ q a. rw (c.others q a) (asks_o q (s.phases q) (v.asks q)));
      }
