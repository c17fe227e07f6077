-- The laws of a tree, from climbing: the element at a level is reached from the own one by parents, so it has that
-- level and the ranks below it share all above; a node is a rank's own home, or the home of an element one level
-- deeper, and the two kinds of home never meet.
use Rattle.std.proofs.Common.{◌≡◌, ℕ, suc, ◌+◌, ◌-◌, ◌<◌, ◌≤◌, cond, ltb, ◌≢◌, ◌⊎◌, List, sym, ap, ◌∙◌, add-one, arith}
use Rattle.std.proofs.lemmas.Bool.Decides.{nat_tests}
use Rattle.plan.specs.Trees.{above as climbed}
use Rattle.queues.specs.Machine.{On, Tree, Lawful}
use Rattle.law.proofs.Numbers.{Sized}
use Rattle.law.proofs.Levels.{Rooted, Above, climb, lone, above_more}

-- where the ranks hang, and how a tree reads it
pub record Hung (P E : ℕ) (ps : List ℕ) (lev own : ℕ → ℕ) (T : Tree) : Type 0 where
  pub rank : (p i : ℕ) → On (T.own_level p) i → On P p
  pub on : (p : ℕ) → On P p → On E (own p)
  pub level : (p : ℕ) → On P p → lev (own p) ≡ T.own_level p
  pub element : (p i : ℕ) → On (T.own_level p) i → T.element p i ≡ climbed ps (T.own_level p - i) (own p)
  pub node : (p i : ℕ) → On (T.own_level p) i
      → T.node p i ≡ cond (ltb i (T.own_level p)) (P + T.element p (i + 1)) p

module _ (P E N : ℕ) (ps : List ℕ) (lev own : ℕ → ℕ) (T : Tree) (h : Rooted E N ps lev) (u : Hung P E ps lev own T)
  where
    pub elem_on : (p i : ℕ) → On (T.own_level p) i → Above E lev (T.own_level p - i) (own p) (T.element p i)
    elem_on p i o = rw (u.element p i o)
        (climb E N ps lev h (T.own_level p - i) (own p) (u.on p (u.rank p i o))
        (omega (arith, u.level p (u.rank p i o))))

    -- the element at level i has level i
    pub elem_level : (p i : ℕ) → On (T.own_level p) i → lev (T.element p i) ≡ i
    elem_level p i o = omega (arith, elem_on p i o, u.level p (u.rank p i o))

    -- a higher one is reached from a deeper one
    pub elem_up : (p i j : ℕ) → On (T.own_level p) i → On (T.own_level p) j → j ≤ i
        → T.element p j ≡ climbed ps (i - j) (T.element p i)
    elem_up p i j a b l =
        let e : T.own_level p - j ≡ (i - j) + (T.own_level p - i) = omega arith in
        rw (u.element p i a, u.element p j b, e) (above_more ps (i - j) (T.own_level p - i) (own p))

    -- the two kinds of node
    pub node_cases : (p i : ℕ) → On (T.own_level p) i
        → ((i ≡ T.own_level p) × (T.node p i ≡ p))
        ⊎ ((i < T.own_level p) × (T.node p i ≡ P + T.element p (suc i)))
    node_cases p i o = let e = rw add-one at (u.node p i o) in grind (arith, nat_tests)

    -- an element has one level
    pub level_of : (p r i j : ℕ) → On (T.own_level p) i → On (T.own_level r) j → T.element p i ≡ T.element r j
        → i ≡ j
    level_of p r i j a b e = sym (elem_level p i a) ∙ ap lev e ∙ elem_level r j b

    -- ranks that share an element share all above
    pub above : (p r i j : ℕ) → On (T.own_level p) i → On (T.own_level r) i → On (T.own_level p) j → j ≤ i
        → T.element p i ≡ T.element r i → T.element p j ≡ T.element r j
    above p r i j a b c l e = elem_up p i j a c l ∙ ap (climbed ps (i - j)) e ∙ sym (elem_up r i j b (omega arith) l)

    -- a node belongs to one queue
    pub queue_of : (p r i j : ℕ) → On (T.own_level p) i → On (T.own_level r) j → T.node p i ≡ T.node r j
        → (i ≡ j) × (T.element p i ≡ T.element r j)
    queue_of p r i j a b e =
        let c = node_cases p i a in
        let d = node_cases r j b in
        grind (
          arith,
          u.rank p i a,
          u.rank r j b,
          elem_on p (suc i),
          elem_on r (suc j),
          level_of p r (suc i) (suc j),
          above p r (suc i) i,
        )

    -- ranks with one node are one, or share the element one level deeper
    pub below : (p r i : ℕ) → On (T.own_level p) i → On (T.own_level r) i → T.node p i ≡ T.node r i
        → (p ≡ r) ⊎ ((i < T.own_level p) × (i < T.own_level r) × (T.element p (suc i) ≡ T.element r (suc i)))
    below p r i a b e = grind
        (arith, node_cases p i a, node_cases r i b, elem_on p (suc i), elem_on r (suc i), u.rank p i a, u.rank r i b)

    -- and the other way round
    pub shared : (p r i : ℕ) → On (T.own_level p) i → i < T.own_level p → i < T.own_level r
        → T.element p (suc i) ≡ T.element r (suc i) → T.node p i ≡ T.node r i
    shared p r i a b c e =
        let f : On (T.own_level r) i = omega arith in
        grind (arith, node_cases p i a, node_cases r i f)

    -- no node is 0
    pub no_zero : (p i : ℕ) → On (T.own_level p) i → T.node p i ≢ 0
    no_zero p i a = grind (arith, node_cases p i a, u.rank p i a, elem_on p (suc i))

    -- so the tree is lawful
    pub lawful : Lawful T
    lawful =
        record {
          level_of = level_of;
          above = above;
          queue_of = queue_of;
          below = below;
          shared = shared;
          no_zero = no_zero;
        }

    -- the own level is between 1 and N
    pub own_level : (p : ℕ) → On P p → On N (T.own_level p)
    own_level p o = omega (arith, u.level p o, h.low (own p) (u.on p o))

    -- and its numbers are in range
    pub sized : Sized P E N T
    sized =
        record {
          deep = λ p. grind (arith, u.rank p 1, own_level p);
          rank = u.rank;
          none = λ p n. grind (arith, u.rank p 1);
          some = λ p o. (own_level p o).from;
          root = λ p o. lone E N ps lev h (T.element p 1) (elem_on p 1 o).on (elem_level p 1 o);
          element = λ p i o. (elem_on p i o).on;
          node = λ p i o. grind (arith, node_cases p i o, u.rank p i o, elem_on p (suc i));
          home = λ p o. grind (arith, node_cases p (T.own_level p), own_level p o);
          between = λ p i o l. grind (arith, node_cases p i o);
        }
