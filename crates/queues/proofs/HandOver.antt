-- A hand-over at level i (rows U3 and U9): the head of a queue goes, and its successor holds from level h on. At U3 h
-- is 1: the successor takes all levels above i too, where it has the same nodes, since both run below one element. At
-- U9 h is i. What the giver holds deeper than i it keeps.
use Rattle.std.proofs.Common.{◌≡◌, ℕ, suc, ◌<◌, ◌≤◌, ◌≢◌, ◌⊎◌, sym, refl, ap, ◌∙◌, subst, inl, inr, arith}
use Rattle.std.proofs.lemmas.Bool.{cases_eq, cases_order}
use Rattle.queues.specs.Machine.{holds_from, Tree, Lawful, On, Phase, out, fresh, clean, ready, link, wait, hold}
use Rattle.queues.specs.Machine.{give, hold_level, InRange, Waits, Calm, State, Inv, Holder, Member, Heads, Behind}
use Rattle.queues.specs.Machine.{Asks}
use Rattle.queues.proofs.OneHolder.{range_of, one_holder, one_owner, waits_level, waits_on, Successor}
use Rattle.queues.proofs.Cases.{split, split₂, calm_asks}

-- the queues with new phases and one head gone
abbrev pub passed : State → (ℕ → Phase) → (ℕ → ℕ) → State
passed s phases head_turn =
    record {
      phases = phases;
      nexts = s.nexts;
      tails = s.tails;
      node_at = s.node_at;
      head_turn = head_turn;
      next_turn = s.next_turn;
    }

-- what is asked of a hand-over from rank p to its successor r
pub record Passes (T : Tree) (s : State) (p r h i : ℕ) (phases : ℕ → Phase) (head_turn : ℕ → ℕ) : Type 0 where
  -- the giver keeps what is deeper than i
  pub giver : hold_level (T.own_level p) (phases p) ≡ suc i
  -- and asks nothing
  pub calm : Calm (phases p)
  -- at a level of its own
  pub in_range : InRange (T.own_level p) (phases p)
  -- the successor holds from h down
  pub taker : phases r ≡ hold h
  -- no other phase changes
  pub others : (q : ℕ) → q ≢ p → q ≢ r → phases q ≡ s.phases q
  -- the head of this queue goes
  pub head_gone : head_turn (T.element p i) ≡ suc (s.head_turn (T.element p i))
  -- and of no other
  pub stay : (k : ℕ) → k ≢ T.element p i → head_turn k ≡ s.head_turn k

module _ (T : Tree) (G : Lawful T) (s : State) (v : Inv T s) (p h i t : ℕ) (e : s.phases p ≡ give h i t)
    (n : Successor T s p i t) (phases : ℕ → Phase) (head_turn : ℕ → ℕ)
    (c : Passes T s p n.rank h i phases head_turn) where
  abbrev r : ℕ
  r = n.rank

  abbrev s' : State
  s' = passed s phases head_turn

  -- the levels of the giver
  rg : (1 ≤ h) × (h ≤ i) × (i ≤ T.own_level p)
  rg = range_of (s.phases p) (T.own_level p) (v.range p) (give h i t) e

  on_p : On (T.own_level p) i
  on_p = omega (arith, rg)

  -- the giver held from h down
  level_p : holds_from T s p ≡ h
  level_p = ap (hold_level (T.own_level p)) e

  -- the taker held all below i
  level_r : holds_from T s r ≡ suc i
  level_r = ap (hold_level (T.own_level r)) n.waits

  -- now it holds from h down
  level_r' : hold_level (T.own_level r) (phases r) ≡ h
  level_r' = ap (hold_level (T.own_level r)) c.taker

  -- nobody else holds more or less
  level_o : (q : ℕ) → q ≢ p → q ≢ r → hold_level (T.own_level q) (phases q) ≡ holds_from T s q
  level_o q a b = ap (hold_level (T.own_level q)) (c.others q a b)

  -- an element of another level is another element
  differs : (q j : ℕ) → On (T.own_level q) j → j ≢ i → T.element q j ≢ T.element p i
  differs q j on ne eq = ne (G.level_of q p j i on on_p eq)

  -- no turn comes back
  head_grows : (k : ℕ) → s.head_turn k ≤ head_turn k
  head_grows = split (T.element p i)
      (λ k. s.head_turn k ≤ head_turn k)
      (omega (arith, c.head_gone))
      (λ k ne. omega (arith, c.stay k ne))

  -- levels are in range
  range' : (q : ℕ) → InRange (T.own_level q) (phases q)
  range' = split₂ p r
      (λ q. InRange (T.own_level q) (phases q))
      c.in_range
      (rw c.taker (omega (arith, rg, n.on)))
      (λ q a b. rw (c.others q a b) (v.range q))

  -- the queue still has a head
  order' : (k : ℕ) → head_turn k ≤ s.next_turn k
  order' = split (T.element p i)
      (λ k. head_turn k ≤ s.next_turn k)
      (omega (arith, c.head_gone, n.more))
      (λ k ne. omega (arith, c.stay k ne, v.order k))

  -- no node stands twice
  once' : (k a b : ℕ) → head_turn k ≤ a → a < s.next_turn k → head_turn k ≤ b → b < s.next_turn k
      → s.node_at k a ≡ s.node_at k b → a ≡ b
  once' k a b l l' m m' q = v.once k a b (omega (arith, head_grows k)) l' (omega (arith, head_grows k)) m' q

  -- no queue became empty
  empty' : (k : ℕ) → head_turn k ≡ s.next_turn k → s.tails k ≡ 0
  empty' = split (T.element p i)
      (λ k. head_turn k ≡ s.next_turn k → s.tails k ≡ 0)
      (λ z. absurd (omega (arith, c.head_gone, n.more)))
      (λ k ne z. v.empty k (omega (arith, c.stay k ne)))

  -- a holder in another queue keeps its head
  kept : (q j : ℕ) → T.element q j ≢ T.element p i → Heads T s q j → Heads T s' q j
  kept q j ne o =
      record {
        some = omega (arith, c.stay (T.element q j) ne, o.some);
        is = rw (c.stay (T.element q j) ne) o.is;
      }

  -- the giver is the head of what it keeps
  heads_p : (j : ℕ) → On (T.own_level p) j → hold_level (T.own_level p) (phases p) ≤ j → Heads T s' p j
  heads_p j on l =
      kept p j (differs p j on (omega (arith, c.giver))) (v.heads p j on (omega (arith, c.giver, level_p, rg)))

  -- above the hand-over the two ranks have one way up
  shares : (j : ℕ) → 1 ≤ j → j < i → (T.element r j ≡ T.element p j) × (T.node r j ≡ T.node p j)
  shares j on l =
      let up : (m : ℕ) → 1 ≤ m → m ≤ i → T.element r m ≡ T.element p m =
      λ m a b. G.above r p i m n.on on_p (omega (arith, n.on)) b n.queue in (
        up j on (omega arith),
        G.shared r p j (omega (arith, n.on)) (omega (arith, n.on)) (omega (arith, on_p))
            (up (suc j) (omega arith) l),
      )

  -- the taker is the head of the queue handed over
  heads_here : Heads T s' r i
  heads_here = record { some = rw (n.queue, c.head_gone) n.more; is = rw (n.queue, c.head_gone) n.is }

  -- and above it has the giver's nodes
  heads_up : (j : ℕ) → 1 ≤ j → h ≤ j → j < i → Heads T s r j
  heads_up j on l m =
      let sh = shares j on m in
      let hd : Heads T s p j = v.heads p j (omega (arith, on_p)) (omega (arith, level_p)) in
      record { some = rw sh.0 hd.some; is = rw (sh.0, sh.1) hd.is }

  -- so the taker is the head of all that it holds
  heads_r : (j : ℕ) → On (T.own_level r) j → hold_level (T.own_level r) (phases r) ≤ j → Heads T s' r j
  heads_r j on l = by (cases_order j i)
    where
      by : (j ≡ i) ⊎ ((j < i) ⊎ (i < j)) → Heads T s' r j
      by (inl z) = subst (λ j. Heads T s' r j) (sym z) heads_here
      by (inr (inl z)) = kept r j (differs r j on (omega arith)) (heads_up j on.from (omega (arith, level_r')) z)
      by (inr (inr z)) = kept r j (differs r j on (omega arith)) (v.heads r j on (omega (arith, level_r)))

  -- others are heads as before
  heads_o : (q : ℕ) → q ≢ p → q ≢ r → (j : ℕ) → On (T.own_level q) j → hold_level (T.own_level q) (phases q) ≤ j
      → Heads T s' q j
  heads_o q a b j on l =
      let l' : holds_from T s q ≤ j = omega (arith, level_o q a b) in
      kept q j
      (λ w.
      let z : j ≡ i = G.level_of q p j i on on_p w in
      a
      (one_holder T G s v q p j on (omega (arith, on_p)) l' (omega (arith, level_p, rg))
      (w ∙ ap (T.element p) (sym z))))
      (v.heads q j on l')

  -- whoever holds is the head
  heads' : (q j : ℕ) → On (T.own_level q) j → hold_level (T.own_level q) (phases q) ≤ j → Heads T s' q j
  heads' = split₂ p r
      (λ q. (j : ℕ) → On (T.own_level q) j → hold_level (T.own_level q) (phases q) ≤ j → Heads T s' q j)
      heads_p
      heads_r
      heads_o

  -- the turn of a rank that waits on: it is not the taker's
  behind : (q j : ℕ) → q ≢ r → Waits (s.phases q) j → Behind T s q j → Behind T s' q j
  behind q j ne w b =
      record { turn = b.turn; low = low (cases_eq (T.element q j) (T.element p i)); high = b.high; is = b.is }
    where
      clash : T.element q j ≡ T.element p i → b.turn ≢ s.head_turn (T.element p i)
      clash z y = ne
          (one_owner T G s v q r j i (waits_on T G s v q j w) n.on (omega (arith, waits_level T G s v q j w))
          (omega (arith, level_r)) (sym b.is ∙ (rw (z, y) n.is))).0

      low : (T.element q j ≡ T.element p i) ⊎ (T.element q j ≡ T.element p i → ⊥)
          → head_turn (T.element q j) ≤ b.turn
      low (inl z) =
          let l : s.head_turn (T.element p i) ≤ b.turn = rw z at b.low in
          rw (z, c.head_gone) (omega (arith, clash z))
      low (inr z) = rw (c.stay (T.element q j) z) b.low

  -- another rank finds its words as before
  asks_o : (q : ℕ) → q ≢ r → (f : Phase) → s.phases q ≡ f → Asks T s q f → Asks T s' q f
  unfolding behind
  asks_o q b out w o = tt
  asks_o q b (fresh j) w o = tt
  asks_o q b (clean j) w o = o
  asks_o q b (ready j) w o = o
  asks_o q b (link j u) w o =
      record {
        spot = behind q j b (subst (λ f. Waits f j) (sym w) refl) o.spot;
        target = o.target;
        none = o.none;
      }
  asks_o q b (wait j) w o =
      record { spot = behind q j b (subst (λ f. Waits f j) (sym w) refl) o.spot; linked = o.linked }
  asks_o q b (hold j) w o = tt
  asks_o q b (give g j u) w o = o

  -- each rank does
  asks' : (q : ℕ) → Asks T s' q (phases q)
  asks' = split₂ p r
      (λ q. Asks T s' q (phases q))
      (calm_asks T s' p (phases p) c.calm)
      (rw c.taker tt)
      (λ q a b. rw (c.others q a b) (asks_o q b (s.phases q) refl (v.asks q)))

  -- who holds an element other than the one handed over
  holder_o : (k : ℕ) → k ≢ T.element p i → Holder T s k → Holder T s' k
  holder_o k ne o = split₂ p r
      (λ q.
      (j : ℕ) → On (T.own_level q) j → T.element q j ≡ k → s.node_at k (s.head_turn k) ≡ T.node q j
      → holds_from T s q ≤ j → Holder T s' k)
      from_p
      from_r
      from_o
      o.rank
      o.level
      o.on
      o.queue
      o.is
      o.holds
    where
      head_k : head_turn k ≡ s.head_turn k
      head_k = c.stay k ne

      from_p : (j : ℕ) → On (T.own_level p) j → T.element p j ≡ k → s.node_at k (s.head_turn k) ≡ T.node p j
          → holds_from T s p ≤ j → Holder T s' k
      from_p j on q is l = by (cases_order j i)
        where
          by : (j ≡ i) ⊎ ((j < i) ⊎ (i < j)) → Holder T s' k
          by (inl z) = absurd (ne (sym q ∙ ap (T.element p) z))
          by (inr (inl z)) =
              let sh = shares j on.from z in
              record {
                rank = r;
                level = j;
                on = omega (arith, n.on);
                queue = sh.0 ∙ q;
                is = rw head_k (is ∙ sym sh.1);
                holds = omega (arith, level_r', level_p);
              }
          by (inr (inr z)) =
              record { rank = p; level = j; on = on; queue = q; is = rw head_k is; holds = omega (arith, c.giver) }

      from_r : (j : ℕ) → On (T.own_level r) j → T.element r j ≡ k → s.node_at k (s.head_turn k) ≡ T.node r j
          → holds_from T s r ≤ j → Holder T s' k
      from_r j on q is l =
          record {
            rank = r;
            level = j;
            on = on;
            queue = q;
            is = rw head_k is;
            holds = omega (arith, level_r, level_r', rg);
          }

      from_o : (x : ℕ) → x ≢ p → x ≢ r → (j : ℕ) → On (T.own_level x) j → T.element x j ≡ k
          → s.node_at k (s.head_turn k) ≡ T.node x j → holds_from T s x ≤ j → Holder T s' k
      from_o x a b j on q is l =
          record { rank = x; level = j; on = on; queue = q; is = rw head_k is; holds = omega (arith, level_o x a b) }

  -- each head has its holder
  holder' : (k : ℕ) → head_turn k < s.next_turn k → Holder T s' k
  holder' = split (T.element p i)
      (λ k. head_turn k < s.next_turn k → Holder T s' k)
      (λ _.
      record {
        rank = r;
        level = i;
        on = n.on;
        queue = n.queue;
        is = rw c.head_gone n.is;
        holds = omega (arith, level_r', rg);
      })
      (λ k ne l. holder_o k ne (v.holder k (omega (arith, c.stay k ne))))

  -- who waited behind the taker still waits
  member_of : (k a : ℕ) → head_turn k ≤ a → suc a < s.next_turn k → Member T s k (suc a) → Member T s' k (suc a)
  member_of k a l l' m =
      record {
        rank = m.rank;
        level = m.level;
        on = m.on;
        queue = m.queue;
        is = m.is;
        waits = split₂ p r
            (λ q. q ≡ m.rank → Waits (phases q) m.level)
            at_p
            at_r
            (λ q x y z. rw (c.others q x y, z) m.waits)
            m.rank
            refl;
      }
    where
      at_p : p ≡ m.rank → Waits (phases p) m.level
      at_p z = absurd (subst (λ f. Waits f m.level) (ap s.phases (sym z) ∙ e) m.waits)

      at_r : r ≡ m.rank → Waits (phases r) m.level
      at_r z =
          let lv : i ≡ m.level = subst (λ f. Waits f m.level) (ap s.phases (sym z) ∙ n.waits) m.waits in
          let same : T.element p i ≡ k =
          sym n.queue ∙ (ap (λ x. T.element x i) z ∙ (ap (T.element m.rank) lv ∙ m.queue)) in
          let gone : head_turn k ≡ suc (s.head_turn k) =
          subst (λ x. head_turn x ≡ suc (s.head_turn x)) same c.head_gone in
          let first : s.node_at k (suc (s.head_turn k)) ≡ T.node r i =
          subst (λ x. s.node_at x (suc (s.head_turn x)) ≡ T.node r i) same n.is in
          let q : suc a ≡ suc (s.head_turn k) =
          v.once k (suc a) (suc (s.head_turn k)) (omega arith) l' (omega arith) (omega arith)
          (m.is ∙ (ap (λ x. T.node x m.level) (sym z) ∙ (ap (T.node r) (sym lv) ∙ sym first))) in
          absurd (omega arith)

  -- all behind the head wait
  member' : (k a : ℕ) → head_turn k ≤ a → suc a < s.next_turn k → Member T s' k (suc a)
  member' k a l l' = member_of k a l l' (v.member k a (omega (arith, head_grows k)) l')

  -- so the invariant is kept
  pub handed : Inv T s'
  handed =
      record {
        range = range';
        order = order';
        once = once';
        empty = empty';
        tail = λ k a l z. v.tail k a (omega (arith, head_grows k)) z;
        ends = λ k a l z. v.ends k a (omega (arith, head_grows k)) z;
        heads = heads';
        holder = holder';
        member = member';
        asks = asks';
      }
