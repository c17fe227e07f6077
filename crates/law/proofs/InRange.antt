-- Under the invariant no record is spoiled and no home unknown: each field of a record is in range, since levels are,
-- counters are, and a home that was read from a word is the node of a rank; and the home that a step reaches is one
-- of the lock's.
use Rattle.std.proofs.Common.{◌≡◌, ℕ, ◌≤◌, true, leb, Some, None, Option, sym, subst, arith}
use Rattle.std.proofs.lemmas.Bool.Decides.{nat_tests}
use Rattle.std.proofs.lemmas.Bool.{and_from, le-leb}
use Rattle.plan.specs.Shapes.{within}
use Rattle.plan.specs.Trees.{Tree, counters, homes, node_home, own_counter, own_counter_home, own_level, element_home}
use Rattle.places.specs.declared.access.Access.{Access}
use Rattle.places.specs.Records.{fits}
use Rattle.places.specs.Table.{access_of}
use Rattle.queues.specs.Moves.{Node}
use Rattle.queues.proofs.FirstStage.{give_aims, link_aims}
use Rattle.queues.specs.Machine.{Tree as MachineTree, On, InRange, Inv, link, give}
use Rattle.queues.specs.Table.{Place, Idle, W1, W2, W3, W4, W5, W6, W7, W8, W9, U1, U2, U3, U4, U5, U6, U7, U8, U9}
use Rattle.queues.specs.Table.{U10, R1, R2, R3, R4, R5, R6, R7, Writer, Reader, Plan, Lock, view, phase, phase_of}
use Rattle.queues.specs.Table.{status_level, Sound}
use Rattle.queues.specs.Invariant.{Safe, Within}
use Rattle.law.proofs.Bridge.{machine_plan, Geometry, Ranged}
use Rattle.queues.proofs.QueueRows.{phase_at}

-- a number in range passes the test
from_on : (low high n : ℕ) → low ≤ n → n ≤ high → within low high n ≡ true
from_on low high n a b = and_from (leb low n) (leb n high) (le-leb low n a) (le-leb n high b)

-- so fields in range pass the test of a record
pub fits_ranged : (t : Tree) (p : ℕ) (f : Place) → Ranged t p f → fits t p f ≡ true
fits_ranged t p f r = grind (arith, nat_tests)

-- the home of an operation is one of the lock's
abbrev pub Reach : Tree → Option Access → Type 0
Reach t None = Unit {0}
Reach t (Some a) = On (homes t) a.home

module _ (t : Tree) (G : Geometry t) (s : Lock) (bit : ℕ → ℕ) (v : Safe t.shape.ranks (machine_plan t) s bit) where
  abbrev L : Plan
  L = machine_plan t

  abbrev T : MachineTree
  T = L.tree

  abbrev inv : Inv T (view T s)
  inv = v.fine.queues

  -- a node is a home of the lock
  node_any : (y : ℕ) → Node T y → On (homes t) y
  node_any y n = subst (On (homes t)) (sym n.is) (G.node_in n.rank n.level n.on)

  -- what a rank is about to hand over to is a home
  next_home : (p h i y : ℕ) → phase T s p ≡ give h i y → On (homes t) y
  next_home p h i y e = node_any y (give_aims T G.apt.sensible.tree (view T s) inv p h i y e)

  -- what a rank is about to link itself to is a home
  link_home : (p i y : ℕ) → phase T s p ≡ link i y → On (homes t) y
  link_home p i y e = node_any y (link_aims T G.apt.sensible.tree (view T s) inv p i y e)

  -- the fields of a rank at its place are in range
  pub ranged : (p : ℕ) → On t.shape.ranks p → (f : Place) → s.place p ≡ f → Ranged t p f
  ranged p on f e = by f (phase_at T s p f e) (subst (InRange (T.own_level p)) (phase_at T s p f e) (inv.range p))
      (subst (Sound L s.statuses p) e (v.fine.sound p)) (subst (Within (counters t)) e (v.within p))
    where
      by : (f : Place) → phase T s p ≡ phase_of f (s.statuses (T.node p (status_level f)))
          → InRange (T.own_level p) (phase_of f (s.statuses (T.node p (status_level f))))
          → Sound L s.statuses p f → Within (counters t) f → Ranged t p f
      by Idle z r so w = tt
      by (W1 i) z r so w = r
      by (W2 i) z r so w = r
      by (W3 i) z r so w = r
      by (W4 i h) z r so w = (r, link_home p i h z)
      by (W5 i) z r so w = so.0
      by (W6 i) z r so w = r
      by (W7 k) z r so w = w
      by (W8 k) z r so w = w
      by (W9 k n) z r so w = w
      by (U1 i) z r so w = (so.0, so.1)
      by (U2 i n) z r so w = (so.0, so.1)
      by (U3 i h n) z r so w = (omega arith, next_home p 1 i h z)
      by U4 z r so w = tt
      by (U5 n) z r so w = tt
      by (U6 k) z r so w = w
      by (U7 k n) z r so w = w
      by (U8 i) z r so w = r
      by (U9 i h) z r so w = (omega arith, next_home p i i h z)
      by (U10 i) z r so w = r
      by R1 z r so w = tt
      by R2 z r so w = tt
      by R3 z r so w = tt
      by R4 z r so w = tt
      by R5 z r so w = tt
      by (R6 n) z r so w = tt
      by R7 z r so w = tt
      by Writer z r so w = tt
      by Reader z r so w = tt

-- so the home of its operation is one of the lock's
pub reaches : (t : Tree) → Geometry t → (p : ℕ) → On t.shape.ranks p → (f : Place) → Ranged t p f
    → Reach t (access_of t p f)
reaches t G p on f r = by f r
  where
    one : On (own_level t p) 1
    one = G.apt.all p on

    own : On (homes t) (own_counter_home t p)
    own = G.counter_in (own_counter t p) (G.own_in p on)

    first : On (homes t) (node_home t p 1)
    first = G.node_in p 1 one

    root : On (homes t) (element_home t 1)
    root = subst (On (homes t)) (G.root p on) (G.queue_in p 1 one)

    by : (f : Place) → Ranged t p f → Reach t (access_of t p f)
    by Idle r = tt
    by (W1 i) r = G.node_in p i r
    by (W2 i) r = G.node_in p i r
    by (W3 i) r = G.queue_in p i r
    by (W4 i h) r = r.1
    by (W5 i) r = G.node_in p i r
    by (W6 i) r = G.node_in p i r
    by (W7 k) r = G.counter_in k r
    by (W8 k) r = G.counter_in k r
    by (W9 k n) r = G.counter_in k r
    by (U1 i) r = G.node_in p i (omega arith)
    by (U2 i n) r = G.node_in p i (omega arith)
    by (U3 i h n) r = r.1
    by U4 r = first
    by (U5 n) r = first
    by (U6 k) r = G.counter_in k r
    by (U7 k n) r = G.counter_in k r
    by (U8 i) r = G.node_in p i r
    by (U9 i h) r = r.1
    by (U10 i) r = G.queue_in p i r
    by R1 r = own
    by R2 r = own
    by R3 r = own
    by R4 r = root
    by R5 r = own
    by (R6 n) r = own
    by R7 r = own
    by Writer r = tt
    by Reader r = tt
