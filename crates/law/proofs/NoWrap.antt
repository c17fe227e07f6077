-- No counter word wraps: ARRIVE is at most the write bit, the reader threshold and the number of ranks together, and
-- what a row takes out of it stands in it.
use Rattle.std.proofs.Common.{◌≡◌, ℕ, zero, suc, ◌+◌, ◌<◌, ◌≤◌, arith}
use Rattle.std.proofs.lemmas.Bool.Decides.{nat_tests}
use Rattle.plan.specs.Trees.{Tree, counters}
use Rattle.queues.specs.Machine.{On}
use Rattle.queues.specs.Counters.{write_bit, total, pick, Load, tries, admits, clears, Count}
use Rattle.queues.specs.Table.{U7, R2, R6, Lock}
use Rattle.queues.specs.Invariant.{Safe, load_of, tally}
use Rattle.law.proofs.Bridge.{machine_plan, Geometry}
use Rattle.queues.proofs.Sums.{total_part, pick_same}
use Rattle.queues.proofs.CounterRows.{gate_at}

-- a sum of parts of at most one
total_le : (n : ℕ) (f : ℕ → ℕ) → ((q : ℕ) → f q ≤ 1) → total n f ≤ n
unfolding total
total_le zero f h = omega arith
total_le (suc n) f h = omega (arith, total_le n f h, h (suc n))

-- a rank is refused once at a time
tries_one : (l : Load) (d : ℕ) → tries l d ≤ 1
unfolding pick
tries_one l d = grind (arith, nat_tests)

module _ (t : Tree) (G : Geometry t) (s : Lock) (bit : ℕ → ℕ) (v : Safe t.shape.ranks (machine_plan t) s bit) where
  abbrev P : ℕ
  P = t.shape.ranks

  -- the loads of the ranks
  abbrev loads : ℕ → Load
  loads q = load_of ((machine_plan t).home q) (s.place q)

  -- the bounds of ARRIVE and DEPART
  pub small : (c : ℕ) → c < counters t → (s.arrives c ≤ write_bit + 1001024) × (s.departs c ≤ 1000000)
  small c l =
      let w : Count P t.shape.reader_threshold (tally (machine_plan t) s bit) c = v.counted.each c l in
      let t = total_le P (λ q. tries (loads q) c) (λ q. tries_one (loads q) c) in omega (arith, G.few, G.limit)

  -- what U7 takes out stands in ARRIVE
  pub at_U7 : (p k n : ℕ) → On P p → k < counters t → s.place p ≡ U7 k n
      → (write_bit + n ≤ s.arrives k) × (n ≤ 1000000)
  at_U7 p k n on l e =
      let w : Count P t.shape.reader_threshold (tally (machine_plan t) s bit) k = v.counted.each k l in
      let b : bit k ≡ 1 =
      v.counted.marked p k l (rw (gate_at (machine_plan t).tree s p (U7 k n) e) (omega arith)) in
      let z : clears (loads p) k ≡ n = rw e (pick_same k n) in
      let t = total_part P (λ q. clears (loads q) k) p on in omega (arith, G.limit)

  -- and what R2 takes out
  pub at_R2 : (p : ℕ) → On P p → s.place p ≡ R2 → 1 ≤ s.arrives ((machine_plan t).home p)
  at_R2 p on e =
      let c = (machine_plan t).home p in
      let w : Count P t.shape.reader_threshold (tally (machine_plan t) s bit) c =
      v.counted.each c (G.apt.sensible.homes p) in
      let z : tries (loads p) c ≡ 1 = rw e (pick_same c 1) in
      let t = total_part P (λ q. tries (loads q) c) p on in omega arith

  -- and what R6 takes out
  pub at_R6 : (p n : ℕ) → On P p → s.place p ≡ R6 n → (n ≤ s.arrives ((machine_plan t).home p)) × (n ≤ 1000000)
  at_R6 p n on e =
      let c = (machine_plan t).home p in
      let w : Count P t.shape.reader_threshold (tally (machine_plan t) s bit) c =
      v.counted.each c (G.apt.sensible.homes p) in
      let z : admits (loads p) c ≡ n = rw e (pick_same c n) in
      let t = total_part P (λ q. admits (loads q) c) p on in omega (arith, G.limit)
