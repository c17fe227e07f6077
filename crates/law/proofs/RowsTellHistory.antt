-- Each row of a step adds to the history what it does to the turns: W3 adds one, and the node comes to hold at once
-- if the TAIL was 0; U3 and U9 let the head go and the second turn come to hold, since the node that they tell is the
-- successor's; U10 lets the head go where TAIL was the own node. No other row does anything.
use Rattle.std.proofs.Common.{◌≡◌, ℕ, suc, pred, ◌<◌, Bool, true, false, cond, eqb, leb, ◌≢◌, List, sym, refl, ap, ◌∙◌, subst, ⊎_elim, arith}
use Rattle.std.proofs.lemmas.Bool.{cases_eq, eqb-true}
use Rattle.memory.specs.Words.{Words}
use Rattle.plan.specs.Trees.{Tree, node_home, own_level, queue_home}
use Rattle.places.specs.declared.record.Record.{Record}
use Rattle.queues.specs.Machine.{Tree as MachineTree, On, Inv, Heads, hold, give, hold_level}
use Rattle.queues.specs.Table.{Place, Idle, W1, W2, W3, W4, W5, W6, W7, W8, W9, U1, U2, U3, U4, U5, U6, U7, U8, U9}
use Rattle.queues.specs.Table.{U10, R1, R2, R3, R4, R5, R6, R7, Writer, Reader, WAIT, told_status, Plan, Lock, go}
use Rattle.queues.specs.Table.{free, done, row, upd, view, phase}
use Rattle.queues.specs.Invariant.{Safe}
use Rattle.law.proofs.Bridge.{machine_plan, Geometry, Shows}
use Rattle.law.specs.History.{History, adds, more}
use Rattle.queues.proofs.OneHolder.{occupant, successor, range_of}
use Rattle.queues.proofs.QueueRows.{phase_at}
use Rattle.law.proofs.InRange.{ranged}
use Rattle.law.proofs.HistoryByTurns.{Traces, traces_join, traces_pass, traces_free}

module _ (t : Tree) (G : Geometry t) (ws : Words) (rs : List Record) (s : Lock) (bit : ℕ → ℕ)
    (v : Safe t.shape.ranks (machine_plan t) s bit) (sh : Shows t ws rs s) (p : ℕ) (on : On t.shape.ranks p)
    (h : History) (tr : Traces s.node_at s.head_turn s.next_turn h) where
  abbrev L : Plan
  L = machine_plan t

  abbrev T : MachineTree
  T = L.tree

  abbrev inv : Inv T (view T s)
  inv = v.fine.queues

  abbrev Traced : Lock → History → Type 0
  Traced s' h' = Traces s'.node_at s'.head_turn s'.next_turn h'

  -- the TAIL of a queue with a node is its last turn
  last_is : (k : ℕ) → s.head_turn k < s.next_turn k → s.tails k ≡ s.node_at k (pred (s.next_turn k))
  last_is k l = inv.tail k (pred (s.next_turn k)) (omega arith) (omega arith)

  -- and is not 0
  full : (k : ℕ) → s.head_turn k < s.next_turn k → s.tails k ≢ 0
  full k l e =
      let o =
      occupant T G.apt.sensible.tree (view T s) inv k (pred (s.next_turn k)) (omega arith) (omega arith) in
      G.apt.sensible.tree.no_zero o.rank o.level o.on (sym o.is ∙ (sym (last_is k l) ∙ e))

  -- a TAIL of 0 is that of an empty queue
  empty : (k : ℕ) → s.tails k ≡ 0 → s.head_turn k ≡ s.next_turn k
  empty k e = ⊎_elim
      (λ (z : s.head_turn k ≡ s.next_turn k). z)
      (λ (z : s.head_turn k ≡ s.next_turn k → ⊥). absurd (full k (omega (arith, inv.order k)) e))
      (cases_eq (s.head_turn k) (s.next_turn k))

  -- any other is not
  some : (k : ℕ) → s.tails k ≢ 0 → s.head_turn k < s.next_turn k
  some k e = ⊎_elim
      (λ (z : s.head_turn k ≡ s.next_turn k). absurd (e (inv.empty k z)))
      (λ (z : s.head_turn k ≡ s.next_turn k → ⊥). omega (arith, inv.order k))
      (cases_eq (s.head_turn k) (s.next_turn k))

  -- the word TAIL is that of the lock
  tail_is : (i : ℕ) → On (own_level t p) i → ws.word (queue_home t p i) 2 ≡ s.tails (queue_home t p i)
  tail_is i o = sh.tails (queue_home t p i) (G.queue_in p i o)

  -- a hand-over
  hands : (b i y : ℕ) → phase T s p ≡ give b i y
      → Traces s.node_at (upd s.head_turn (queue_home t p i) (suc (s.head_turn (queue_home t p i))))
      s.next_turn (record {
        joined = h.joined;
        came = more h.came (queue_home t p i) y;
        gone = more h.gone (queue_home t p i) (node_home t p i);
      })
  hands b i y e =
      let n = successor T G.apt.sensible.tree (view T s) inv p b i y e in
      let r = range_of (phase T s p) (T.own_level p) (inv.range p) (give b i y) e in
      let l : hold_level (T.own_level p) (phase T s p) ≡ b = ap (hold_level (T.own_level p)) e in
      let w = inv.heads p i (omega arith) (omega arith) in
      traces_pass s.node_at s.head_turn s.next_turn h tr (queue_home t p i) (inv.order (queue_home t p i))
      (node_home t p i) y n.more w.is (n.is ∙ sym n.target)

  -- a release, or none
  frees : (i : ℕ) → s.place p ≡ U10 i → Traced (row L s p (U10 i)) (adds t ws p h (U10 i))
  frees i e = subst
      (λ x.
      Traced (row L s p (U10 i)) (record {
        joined = h.joined;
        came = h.came;
        gone = cond (eqb x (node_home t p i)) (more h.gone k (node_home t p i)) h.gone;
      }))
      (sym (tail_is i (ranged t G s bit v p on (U10 i) e)))
      (by (eqb (s.tails k) (node_home t p i)) refl)
    where
      k : ℕ
      k = queue_home t p i

      was : phase T s p ≡ hold i
      was = phase_at T s p (U10 i) e

      by : (b : Bool) → eqb (s.tails k) (node_home t p i) ≡ b
          → Traced (cond b (go (free s k) p (done L s p i)) (go s p (U8 i))) (record {
            joined = h.joined;
            came = h.came;
            gone = cond b (more h.gone k (node_home t p i)) h.gone;
          })
      by false z = record { joined = tr.joined; came = tr.came; gone = tr.gone }
      by true z =
          let r = range_of (phase T s p) (T.own_level p) (inv.range p) (hold i) was in
          let l : hold_level (T.own_level p) (phase T s p) ≡ i = ap (hold_level (T.own_level p)) was in
          let w : Heads T (view T s) p i = inv.heads p i r (omega arith) in
          let y : pred (s.next_turn k) ≡ s.head_turn k =
          inv.once k (pred (s.next_turn k)) (s.head_turn k) (omega (arith, w.some)) (omega (arith, w.some))
          (omega arith) w.some
          (sym (last_is k w.some) ∙ (eqb-true (s.tails k) (node_home t p i) z ∙ sym w.is)) in
          traces_free s.node_at s.head_turn s.next_turn h tr k (inv.order k) (node_home t p i)
          (omega (arith, w.some)) w.is

  -- W5 adds nothing
  waits : (i : ℕ) → Traced (row L s p (W5 i)) h
  waits i = by (eqb (s.statuses (node_home t p i)) WAIT) (leb (s.statuses (node_home t p i)) 1000)
      (eqb (s.statuses (node_home t p i)) (told_status i))
    where
      by : (a b c : Bool) → Traced (cond a s (cond b (go s p Writer) (cond c (go s p (W6 i)) s))) h
      by true b c = tr
      by false true c = tr
      by false false true = tr
      by false false false = tr

  -- every row
  pub traced : (f : Place) → s.place p ≡ f → Traced (row L s p f) (adds t ws p h f)
  traced Idle e = tr
  traced (W1 i) e = tr
  traced (W2 i) e = tr
  traced (W3 i) e = subst
      (λ x.
      Traced (row L s p (W3 i)) (record {
        joined = more h.joined (queue_home t p i) (node_home t p i);
        came = cond (eqb x 0) (more h.came (queue_home t p i) (node_home t p i)) h.came;
        gone = h.gone;
      }))
      (sym (tail_is i (ranged t G s bit v p on (W3 i) e)))
      (traces_join s.node_at s.head_turn s.next_turn h tr (queue_home t p i) (inv.order (queue_home t p i))
      (node_home t p i) (s.tails (queue_home t p i)) (empty (queue_home t p i)) (some (queue_home t p i)))
  traced (W4 i t') e = tr
  traced (W5 i) e = waits i
  traced (W6 i) e = tr
  traced (W7 k) e = tr
  traced (W8 k) e = tr
  traced (W9 k n) e = tr
  traced (U1 i) e = tr
  traced (U2 i n) e = tr
  traced (U3 i y n) e = hands 1 i y (phase_at T s p (U3 i y n) e)
  traced U4 e = tr
  traced (U5 n) e = tr
  traced (U6 k) e = tr
  traced (U7 k n) e = tr
  traced (U8 i) e = tr
  traced (U9 i y) e = hands i i y (phase_at T s p (U9 i y) e)
  traced (U10 i) e = frees i e
  traced R1 e = tr
  traced R2 e = tr
  traced R3 e = tr
  traced R4 e = tr
  traced R5 e = tr
  traced (R6 n) e = tr
  traced R7 e = tr
  traced Writer e = tr
  traced Reader e = tr
