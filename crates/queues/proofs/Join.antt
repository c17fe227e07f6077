-- Row W3: a node joins the end of its queue and is its TAIL. It stood in no queue before, its NEXT is 0, and its rank
-- waits behind the old tail; in an empty queue, which the old TAIL of 0 tells, the rank holds at once.
use Rattle.std.proofs.Common.{◌≡◌, ℕ, suc, pred, ◌<◌, ◌≤◌, ◌≢◌, ◌⊎◌, sym, refl, ap, ◌∙◌, subst, inl, inr, ⊎_elim, arith}
use Rattle.std.proofs.lemmas.Bool.{cases_eq, cases_lt}
use Rattle.queues.specs.Machine.{holds_from, Tree, Lawful, On, Phase, out, fresh, clean, ready, link, wait, hold}
use Rattle.queues.specs.Machine.{give, hold_level, InRange, Waits, State, Inv, Holder, Member, Heads, Behind, Asks}
use Rattle.queues.proofs.OneHolder.{range_of, apart, asked, Occupant, occupant}
use Rattle.queues.proofs.Cases.{split}

-- the queues with new phases, TAIL words and one more turn
abbrev pub joined : State → (ℕ → Phase) → (ℕ → ℕ) → (ℕ → ℕ → ℕ) → (ℕ → ℕ) → State
joined s phases tails at next_turn =
    record {
      phases = phases;
      nexts = s.nexts;
      tails = tails;
      node_at = at;
      head_turn = s.head_turn;
      next_turn = next_turn;
    }

-- what is asked of a move that joins: it waits behind the old tail, or holds where there was none
pub record Joins (T : Tree) (s : State) (p i : ℕ) (phases : ℕ → Phase) (tails : ℕ → ℕ) (at : ℕ → ℕ → ℕ)
    (next_turn : ℕ → ℕ) : Type 0
  where
    -- in an empty queue the rank holds; else it is about to link itself to the old tail
    pub after : ((s.tails (T.element p i) ≡ 0) × (phases p ≡ hold i))
        ⊎ ((s.tails (T.element p i) ≢ 0) × (phases p ≡ link i (s.tails (T.element p i))))
    -- no other phase changes
    pub others : (q : ℕ) → q ≢ p → phases q ≡ s.phases q
    -- TAIL is the own node
    pub here : tails (T.element p i) ≡ T.node p i
    -- and no other changes
    pub other_tails : (k : ℕ) → k ≢ T.element p i → tails k ≡ s.tails k
    -- the old turns stay
    pub old : (k a : ℕ) → a < s.next_turn k → at k a ≡ s.node_at k a
    -- the new one is the own node
    pub new : at (T.element p i) (s.next_turn (T.element p i)) ≡ T.node p i
    -- this queue has one more turn
    pub more : next_turn (T.element p i) ≡ suc (s.next_turn (T.element p i))
    -- and no other has
    pub stay : (k : ℕ) → k ≢ T.element p i → next_turn k ≡ s.next_turn k

module _ (T : Tree) (G : Lawful T) (s : State) (v : Inv T s) (p i : ℕ) (e : s.phases p ≡ ready i) (phases : ℕ → Phase)
    (tails : ℕ → ℕ) (at : ℕ → ℕ → ℕ) (next_turn : ℕ → ℕ) (c : Joins T s p i phases tails at next_turn) where
  abbrev s' : State
  s' = joined s phases tails at next_turn

  abbrev K : ℕ
  K = T.element p i

  on_p : On (T.own_level p) i
  on_p = range_of (s.phases p) (T.own_level p) (v.range p) (ready i) e

  level_p : holds_from T s p ≡ suc i
  level_p = ap (hold_level (T.own_level p)) e

  -- who is about to join does not wait yet
  not_waits : (j : ℕ) → Waits (s.phases p) j → ⊥
  not_waits j w = subst (λ f. Waits f j) e w

  -- a queue with a node has a tail
  tail_set : (k : ℕ) → s.head_turn k < s.next_turn k → s.tails k ≢ 0
  tail_set k l z =
      let a = pred (s.next_turn k) in
      let o : Occupant T s k a = occupant T G s v k a (omega arith) (omega arith) in
      G.no_zero o.rank o.level o.on (sym o.is ∙ (sym (v.tail k a (omega arith) (omega arith)) ∙ z))

  -- a TAIL of 0 is that of an empty queue
  bare : s.tails K ≡ 0 → s.head_turn K ≡ s.next_turn K
  bare z = ⊎_elim
      (λ (l : s.head_turn K < s.next_turn K). absurd (tail_set K l z))
      (λ (l : s.next_turn K ≤ s.head_turn K). omega (arith, v.order K))
      (cases_lt (s.head_turn K) (s.next_turn K))

  -- any other is that of a queue with a node
  full : s.tails K ≢ 0 → s.head_turn K < s.next_turn K
  full z = ⊎_elim
      (λ (l : s.head_turn K < s.next_turn K). l)
      (λ (l : s.next_turn K ≤ s.head_turn K). absurd (z (v.empty K (omega (arith, v.order K)))))
      (cases_lt (s.head_turn K) (s.next_turn K))

  -- no turn is lost
  turn_grows : (k : ℕ) → s.next_turn k ≤ next_turn k
  turn_grows =
      split K (λ k. s.next_turn k ≤ next_turn k) (omega (arith, c.more)) (λ k ne. omega (arith, c.stay k ne))

  -- a turn is an old one, or the new one
  turns : (k : ℕ) → (a : ℕ) → a < next_turn k → (a < s.next_turn k) ⊎ ((k ≡ K) × (a ≡ s.next_turn k))
  turns = split K
      (λ k. (a : ℕ) → a < next_turn k → (a < s.next_turn k) ⊎ ((k ≡ K) × (a ≡ s.next_turn k)))
      (λ a l. here a l (cases_lt a (s.next_turn K)))
      (λ k ne a l. inl (omega (arith, c.stay k ne)))
    where
      here : (a : ℕ) → a < next_turn K → (a < s.next_turn K) ⊎ (s.next_turn K ≤ a)
          → (a < s.next_turn K) ⊎ ((K ≡ K) × (a ≡ s.next_turn K))
      here a l (inl z) = inl z
      here a l (inr z) = inr (refl, omega (arith, c.more))

  -- the new turn is the own node
  new_at : (k a : ℕ) → k ≡ K → a ≡ s.next_turn k → at k a ≡ T.node p i
  new_at k a z w = rw (w, z) c.new

  -- no old turn is
  fresh_at : (k a : ℕ) → s.head_turn k ≤ a → a < s.next_turn k → at k a ≢ T.node p i
  fresh_at k a l l' z = apart T G s v p i on_p level_p (not_waits i) k a l l' (sym (c.old k a l') ∙ z)

  -- no node stands twice
  once' : (k a b : ℕ) → s.head_turn k ≤ a → a < next_turn k → s.head_turn k ≤ b → b < next_turn k → at k a ≡ at k b
      → a ≡ b
  once' k a b l l' m m' z = by (turns k a l') (turns k b m')
    where
      by : (a < s.next_turn k) ⊎ ((k ≡ K) × (a ≡ s.next_turn k))
          → (b < s.next_turn k) ⊎ ((k ≡ K) × (b ≡ s.next_turn k)) → a ≡ b
      by (inl x) (inl y) = v.once k a b l x m y (sym (c.old k a x) ∙ (z ∙ c.old k b y))
      by (inl x) (inr y) = absurd (fresh_at k a l x (z ∙ new_at k b y.0 y.1))
      by (inr x) (inl y) = absurd (fresh_at k b m y (sym z ∙ new_at k a x.0 x.1))
      by (inr x) (inr y) = omega arith

  -- the TAIL is the last node
  tail' : (k a : ℕ) → s.head_turn k ≤ a → suc a ≡ next_turn k → tails k ≡ at k a
  tail' = split K
      (λ k. (a : ℕ) → s.head_turn k ≤ a → suc a ≡ next_turn k → tails k ≡ at k a)
      (λ a l z. c.here ∙ sym (new_at K a refl (omega (arith, c.more))))
      (λ k ne a l z.
      c.other_tails k ne
      ∙ (v.tail k a l (omega (arith, c.stay k ne)) ∙ sym (c.old k a (omega (arith, c.stay k ne)))))

  -- its NEXT is 0
  ends' : (k a : ℕ) → s.head_turn k ≤ a → suc a ≡ next_turn k → s.nexts (at k a) ≡ 0
  ends' = split K
      (λ k. (a : ℕ) → s.head_turn k ≤ a → suc a ≡ next_turn k → s.nexts (at k a) ≡ 0)
      (λ a l z. ap s.nexts (new_at K a refl (omega (arith, c.more))) ∙ asked T s v p (ready i) e)
      (λ k ne a l z.
      ap s.nexts (c.old k a (omega (arith, c.stay k ne))) ∙ v.ends k a l (omega (arith, c.stay k ne)))

  -- heads stay heads
  grown : (q j : ℕ) → Heads T s q j → Heads T s' q j
  grown q j o =
      record {
        some = omega (arith, turn_grows (T.element q j), o.some);
        is = c.old (T.element q j) (s.head_turn (T.element q j)) o.some ∙ o.is;
      }

  -- the rank is the head of what it holds: deeper as before, and here if the queue was empty
  heads_p : (j : ℕ) → On (T.own_level p) j → hold_level (T.own_level p) (phases p) ≤ j → Heads T s' p j
  heads_p j on l = by c.after (cases_eq j i)
    where
      by : ((s.tails K ≡ 0) × (phases p ≡ hold i)) ⊎ ((s.tails K ≢ 0) × (phases p ≡ link i (s.tails K)))
          → (j ≡ i) ⊎ (j ≡ i → ⊥) → Heads T s' p j
      by (inl x) (inl z) = subst
          (λ j. Heads T s' p j)
          (sym z) (record {
            some = omega (arith, c.more, bare x.0);
            is = new_at K (s.head_turn K) refl (bare x.0);
          })
      by (inl x) (inr z) =
          let w : hold_level (T.own_level p) (phases p) ≡ i = ap (hold_level (T.own_level p)) x.1 in
          grown p j (v.heads p j on (omega (arith, level_p)))
      by (inr x) _ =
          let w : hold_level (T.own_level p) (phases p) ≡ suc i = ap (hold_level (T.own_level p)) x.1 in
          grown p j (v.heads p j on (omega (arith, level_p)))

  -- nobody holds less
  levels' : (q : ℕ) → hold_level (T.own_level q) (phases q) ≤ holds_from T s q
  levels' = split p
      (λ q. hold_level (T.own_level q) (phases q) ≤ holds_from T s q)
      (by c.after)
      (λ q a. omega (arith, ap (hold_level (T.own_level q)) (c.others q a)))
    where
      by : ((s.tails K ≡ 0) × (phases p ≡ hold i)) ⊎ ((s.tails K ≢ 0) × (phases p ≡ link i (s.tails K)))
          → hold_level (T.own_level p) (phases p) ≤ holds_from T s p
      by (inl x) = omega (arith, level_p, ap (hold_level (T.own_level p)) x.1)
      by (inr x) = omega (arith, level_p, ap (hold_level (T.own_level p)) x.1)

  -- each head has its holder
  holder' : (k : ℕ) → s.head_turn k < next_turn k → Holder T s' k
  holder' k l = by (turns k (s.head_turn k) l) c.after
    where
      by : (s.head_turn k < s.next_turn k) ⊎ ((k ≡ K) × (s.head_turn k ≡ s.next_turn k))
          → ((s.tails K ≡ 0) × (phases p ≡ hold i)) ⊎ ((s.tails K ≢ 0) × (phases p ≡ link i (s.tails K)))
          → Holder T s' k
      by (inl x) _ =
          let o = v.holder k x in
          record {
            rank = o.rank;
            level = o.level;
            on = o.on;
            queue = o.queue;
            is = c.old k (s.head_turn k) x ∙ o.is;
            holds = omega (arith, levels' o.rank, o.holds);
          }
      by (inr x) (inl y) =
          record {
            rank = p;
            level = i;
            on = on_p;
            queue = sym x.0;
            is = new_at k (s.head_turn k) x.0 x.1;
            holds = omega (arith, ap (hold_level (T.own_level p)) y.1);
          }
      by (inr x) (inr y) = let f : s.head_turn k < s.next_turn k = rw x.0 (full y.0) in absurd (omega arith)

  -- all others wait
  member' : (k a : ℕ) → s.head_turn k ≤ a → suc a < next_turn k → Member T s' k (suc a)
  member' k a l l' = by (turns k (suc a) l') c.after
    where
      by : (suc a < s.next_turn k) ⊎ ((k ≡ K) × (suc a ≡ s.next_turn k))
          → ((s.tails K ≡ 0) × (phases p ≡ hold i)) ⊎ ((s.tails K ≢ 0) × (phases p ≡ link i (s.tails K)))
          → Member T s' k (suc a)
      by (inl x) _ =
          let m = v.member k a l x in
          record {
            rank = m.rank;
            level = m.level;
            on = m.on;
            queue = m.queue;
            is = c.old k (suc a) x ∙ m.is;
            waits = split p
                (λ q. Waits (s.phases q) m.level → Waits (phases q) m.level)
                (λ w. absurd (not_waits m.level w))
                (λ q y w. rw (c.others q y) w)
                m.rank
                m.waits;
          }
      by (inr x) (inl y) = let f : s.head_turn k ≡ s.next_turn k = rw x.0 (bare y.0) in absurd (omega arith)
      by (inr x) (inr y) =
          record {
            rank = p;
            level = i;
            on = on_p;
            queue = sym x.0;
            is = new_at k (suc a) x.0 x.1;
            waits = rw y.1 refl;
          }

  -- old turns are as they were
  behind : (q j : ℕ) → Behind T s q j → Behind T s' q j
  behind q j b =
      record {
        turn = b.turn;
        low = b.low;
        high = omega (arith, b.high, turn_grows (T.element q j));
        is = c.old (T.element q j) (suc b.turn) b.high ∙ b.is;
      }

  -- other ranks find their words as before
  asks_o : (q : ℕ) → (f : Phase) → Asks T s q f → Asks T s' q f
  unfolding behind
  asks_o q out o = tt
  asks_o q (fresh j) o = tt
  asks_o q (clean j) o = o
  asks_o q (ready j) o = o
  asks_o q (link j u) o =
      let z = c.old (T.element q j) o.spot.turn (omega (arith, o.spot.high)) in
      record { spot = behind q j o.spot; target = o.target ∙ sym z; none = ap s.nexts z ∙ o.none }
  asks_o q (wait j) o =
      let z = c.old (T.element q j) o.spot.turn (omega (arith, o.spot.high)) in
      record { spot = behind q j o.spot; linked = ap s.nexts z ∙ o.linked }
  asks_o q (hold j) o = tt
  asks_o q (give h j u) o = o

  -- the rank that joined has the old tail before it
  asks_p : Asks T s' p (phases p)
  asks_p = by c.after
    where
      by : ((s.tails K ≡ 0) × (phases p ≡ hold i)) ⊎ ((s.tails K ≢ 0) × (phases p ≡ link i (s.tails K)))
          → Asks T s' p (phases p)
      by (inl x) = rw x.1 tt
      by (inr x) =
          let f : s.head_turn K < s.next_turn K = full x.0 in
          let a = pred (s.next_turn K) in
          let z = c.old K a (omega arith) in
          rw x.1 (record {
            spot = record {
              turn = a;
              low = omega arith;
              high = omega (arith, c.more);
              is = new_at K (suc a) refl (omega arith);
            };
            target = v.tail K a (omega arith) (omega arith) ∙ sym z;
            none = ap s.nexts z ∙ v.ends K a (omega arith) (omega arith);
          })

  -- its level is in range
  range_p : InRange (T.own_level p) (phases p)
  range_p = by c.after
    where
      by : ((s.tails K ≡ 0) × (phases p ≡ hold i)) ⊎ ((s.tails K ≢ 0) × (phases p ≡ link i (s.tails K)))
          → InRange (T.own_level p) (phases p)
      by (inl x) = rw x.1 on_p
      by (inr x) = rw x.1 on_p

  -- so the invariant is kept
  pub joined_up : Inv T s'
  joined_up =
      record {
        range = split p (λ q. InRange (T.own_level q) (phases q)) range_p (λ q a. rw (c.others q a) (v.range q));
        order = λ k. omega (arith, v.order k, turn_grows k);
        once = once';
        empty = split K
            (λ k. s.head_turn k ≡ next_turn k → tails k ≡ 0)
            (λ z. absurd (omega (arith, c.more, v.order K)))
            (λ k ne z. c.other_tails k ne ∙ v.empty k (omega (arith, c.stay k ne)));
        tail = tail';
        ends = ends';
        heads = split p
            (λ q. (j : ℕ) → On (T.own_level q) j → hold_level (T.own_level q) (phases q) ≤ j → Heads T s' q j)
            heads_p
            (λ q a j on l.
            grown q j (v.heads q j on (omega (arith, ap (hold_level (T.own_level q)) (c.others q a)))));
        holder = holder';
        member = member';
        asks = split p
            (λ q. Asks T s' q (phases q))
            asks_p
            (λ q a. rw (c.others q a) (asks_o q (s.phases q) (v.asks q)));
      }
