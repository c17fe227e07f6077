-- Every lawful plan has the geometry that the rest asks for: its tests, read as facts, give the laws of its tree, the
-- homes of its nodes, queues and counters, and the bounds of its thresholds.
use Rattle.std.proofs.Common.{◌≡◌, ℕ, suc, pred, ◌+◌, ◌-◌, ◌<◌, ◌≤◌, Bool, true, cond, ◌&&◌, eqb, leb, List, length, sym, refl, ap, ◌∙◌, inl, inr, ⊎_elim, arith}
use Rattle.std.proofs.lemmas.Bool.{and_parts}
use Rattle.std.proofs.lemmas.Bool.Decides.{nat_tests}
use Rattle.plan.specs.declared.plan.Plan.{Plan}
use Rattle.plan.specs.declared.shape.Shape.{Shape}
use Rattle.plan.specs.Shapes.{parent, level, within, parent_ok, rank_ok, thresholds_ok}
use Rattle.plan.specs.Trees.{Tree, tree_of, counters, element_at, level_of, level_threshold, node_home, own_counter}
use Rattle.plan.specs.Trees.{own_element, own_level, threshold, parents_right, ranks_right, sizes_right}
use Rattle.plan.specs.Trees.{thresholds_right}
use Rattle.plan.proofs.Every.{every_at}
use Rattle.plan.proofs.Facts.{sizes_of}
use Rattle.queues.specs.Machine
use Rattle.queues.specs.Machine.{On, Lawful}
use Rattle.law.proofs.Bridge.{machine_plan, Geometry}
use Rattle.law.proofs.Numbers.{Sized}
use Rattle.law.proofs.Levels.{Rooted, by_climbing}
use Rattle.law.proofs.TreeLaws.{Hung, lawful, sized}
use Rattle.law.proofs.Counting.{counted}

-- what the test of a parent says
parent_parts : (ps : List ℕ) (lev : ℕ → ℕ) (N k : ℕ) → 2 ≤ k
    → (within 1 (k - 2 + 1) (parent ps k) && leb (lev (k - 2 + 2)) N) ≡ true → On (pred k) (parent ps k) × (lev k ≤ N)
parent_parts ps lev N k a e = let z : k - 2 + 2 ≡ k = omega arith in grind (arith, nat_tests)

-- a number that passes the test is in range
within_on : (n k : ℕ) → within 1 n k ≡ true → On n k
within_on n k e = grind (arith, nat_tests)

-- the own level of a rank
top_some : (P p x : ℕ) → On P p → cond (within 1 P p) x 0 ≡ x
top_some P p x o = grind (arith, nat_tests)

-- only a rank has a level
top_rank : (P p i x : ℕ) → On (cond (within 1 P p) x 0) i → On P p
top_rank P p i x o = grind (arith, nat_tests)

-- the thresholds, read
level_small : (s : Shape) → thresholds_ok s ≡ true → (i : ℕ) → level_threshold s i ≤ 1000
level_small s e i = grind (arith, nat_tests)

-- the writer threshold less one is a count
writer_small : (s : Shape) → thresholds_ok s ≡ true → s.writer_threshold - 1 ≤ 1000
writer_small s e = grind (arith, nat_tests)

-- and so is each hand-over limit
cap_small : (b : Bool) (x y : ℕ) → x ≤ 1000 → y ≤ 1000 → cond b x y ≤ 1000
cap_small b x y h k = grind arith

-- the reader threshold
readers : (s : Shape) → thresholds_ok s ≡ true → (1 ≤ s.reader_threshold) × (s.reader_threshold ≤ 1000000)
readers s e = grind (arith, nat_tests)

-- the counter of every number is one of them
homed : (P p x c : ℕ) → 0 < c → (On P p → x < c) → cond (within 1 P p) x 0 < c
homed P p x c z f = grind (arith, nat_tests)

-- a plan as lists that passes the four tests
module _ (t : Tree) (sz : sizes_right t ≡ true) (th : thresholds_right t ≡ true)
    (ro : parents_right t ≡ true) (hu : ranks_right t ≡ true) where
  abbrev own : ℕ → ℕ
  own p = own_element t p

  abbrev P : ℕ
  P = t.shape.ranks

  abbrev N : ℕ
  N = t.shape.levels

  -- the tree with elements by their numbers
  abbrev by_number : Machine.Tree
  by_number = record { own_level = own_level t; element = element_at t; node = node_home t }

  -- each element has a parent above it
  parent_at : (k : ℕ) → 2 ≤ k → k ≤ t.shape.elements
      → On (pred k) (parent t.parents k) × (level t.parents k ≤ N)
  parent_at k a b =
      parent_parts t.parents (level t.parents) N k a
      (every_at (parent_ok t.shape t.parents) (length t.parents) (k - 2) ro (omega (arith, sizes_of t sz)))

  -- so the elements are rooted
  rooted : Rooted t.shape.elements N t.parents (level t.parents)
  rooted =
      let s = sizes_of t sz in
      by_climbing t.shape.elements N 4 t.parents s.some_level s.few_levels
      (λ k a b. omega (arith, (parent_at k a b).0)) (λ k a b. (parent_at k a b).1)

  -- each rank runs on an element of the deepest level
  rank_at : (p : ℕ) → On P p
      → (within 1 t.shape.elements (own p) ≡ true) × (eqb (level t.parents (own p)) N ≡ true)
  rank_at p o =
      and_parts _ _
      (every_at (rank_ok t.shape t.parents t.seats) (length t.seats) (p - 1) hu
      (omega (arith, sizes_of t sz)))

  -- so the ranks hang from them
  hung : Hung P t.shape.elements t.parents (level t.parents) own by_number
  hung = record {
    rank = λ p i. top_rank P p i (level t.parents (own p));
    on = λ p o. within_on t.shape.elements (own p) (rank_at p o).0;
    level = λ p o. sym (top_some P p (level t.parents (own p)) o);
    element = λ p i o. refl;
    node = λ p i o. refl;
  }

  -- the laws of the tree
  laws : Lawful by_number
  laws = lawful P t.shape.elements N t.parents (level t.parents) own by_number rooted hung

  -- and its numbers
  sizes : Sized P t.shape.elements N by_number
  sizes = sized P t.shape.elements N t.parents (level t.parents) own by_number rooted hung

  -- the same with elements by their homes
  cancel : (a b : ℕ) → P + a ≡ P + b → a ≡ b
  cancel a b e = omega arith

  -- the laws, with elements by their homes
  by_homes : Lawful (machine_plan t).tree
  by_homes = record {
    level_of = λ p r i j a b e. laws.level_of p r i j a b (cancel _ _ e);
    above = λ p r i j a b c d e. ap (λ x. P + x) (laws.above p r i j a b c d (cancel _ _ e));
    queue_of = λ p r i j a b e. let z = laws.queue_of p r i j a b e in (z.0, ap (λ x. P + x) z.1);
    below =
        λ p r i a b e.
        ⊎_elim (λ (z : p ≡ r). inl z)
        (λ (z : (i < own_level t p) × (i < own_level t r) × (element_at t p (suc i) ≡ element_at t r (suc i))).
        inr (z.0, z.1, ap (λ x. P + x) z.2))
        (laws.below p r i a b e);
    shared = λ p r i a b c e. laws.shared p r i a b c (cancel _ _ e);
    no_zero = laws.no_zero;
  }

  -- the geometry
  pub geometry : Geometry t
  geometry =
      let s = sizes_of t sz in
      let c = counted P t.shape.spacing s.some_spacing in
      let any : 0 < counters t = omega (arith, c.own 1 (omega (arith, s.some_rank))) in
      let r = readers t.shape th in
      let one : (p : ℕ) → On P p → On (own_level t p) 1 =
      λ p o. record { from = omega arith; upto = sizes.some p o }
      in
      record {
        apt = record {
          sensible = record {
            tree = by_homes;
            small =
                λ p j.
                cap_small (eqb j 1) (t.shape.writer_threshold - 1) (threshold t (element_at t p j))
                (writer_small t.shape th) (level_small t.shape th (level_of t (element_at t p j)));
            threshold_fits = omega arith;
            ranks = λ p o. sizes.rank p 1 o;
            root = λ p q a b. ap (λ x. P + x) (sizes.root p a ∙ sym (sizes.root q b));
            homes = λ p. homed P p (own_counter t p) (counters t) any (c.own p);
          };
          all = one;
          some = r.0;
          less = omega arith;
        };
        node_in = λ p i o. sizes.node p i o;
        queue_in = λ p i o. let z = sizes.element p i o in omega arith;
        root = λ p o. ap (λ x. P + x) (sizes.root p (one p o));
        counter_in = λ k l. let z = c.home k l in omega arith;
        counter_one = c.apart;
        own_in = c.own;
        few = s.few_ranks;
        limit = r.1;
      }

-- of every plan
pub every_plan : (plan : Plan) → Geometry (tree_of plan)
every_plan plan = geometry (tree_of plan) plan.sized plan.bounded plan.rooted plan.hung
