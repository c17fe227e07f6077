-- Climbing from an element to its parent: the level goes down by one at each step, so an element of level l reaches
-- the root in l − 1 steps, and only the root has level 1.
use Rattle.std.proofs.Common.{◌≡◌, ℕ, zero, suc, ◌+◌, ◌<◌, ◌≤◌, List, refl, add-zero, add-suc, arith}
use Rattle.std.proofs.lemmas.Bool.Decides.{nat_tests}
use Rattle.plan.specs.Shapes.{parent, level_in}
use Rattle.plan.specs.Trees.{above}
use Rattle.queues.specs.Machine.{On}

-- fuel that was not used up changes nothing
pub stable : (ps : List ℕ) (f k : ℕ) → level_in f ps k < f → level_in (suc f) ps k ≡ level_in f ps k
stable ps zero k h = absurd (omega arith)
stable ps (suc f) k h = let ih = stable ps f (parent ps k) in grind (arith, nat_tests)

-- an element above 1 lies one level deeper than its parent
pub level_up : (ps : List ℕ) (f k : ℕ) → level_in f ps k < f → 2 ≤ k
    → level_in f ps k ≡ suc (level_in f ps (parent ps k))
level_up ps f k h m = let e = stable ps f k h in grind (arith, nat_tests)

-- an element's climb in two parts
pub above_more : (ps : List ℕ) (a b k : ℕ) → above ps (a + b) k ≡ above ps a (above ps b k)
above_more ps a zero k = rw add-zero
above_more ps a (suc b) k = rw add-suc (above_more ps a b (parent ps k))

-- what a lawful list of parents says, of any function that counts levels
pub record Rooted (E N : ℕ) (ps : List ℕ) (lev : ℕ → ℕ) : Type 0 where
  pub root : lev 1 ≡ 1
  pub step : (k : ℕ) → 2 ≤ k → k ≤ E → lev k ≡ suc (lev (parent ps k))
  pub held : (k : ℕ) → 2 ≤ k → k ≤ E → On E (parent ps k)
  pub low : (k : ℕ) → On E k → On N (lev k)

-- the level by climbing with fuel above N is such a function
pub by_climbing : (E N f : ℕ) (ps : List ℕ) → 1 ≤ N → N ≤ f
    → ((k : ℕ) → 2 ≤ k → k ≤ E → On E (parent ps k)) → ((k : ℕ) → 2 ≤ k → k ≤ E → level_in (suc f) ps k ≤ N)
    → Rooted E N ps (level_in (suc f) ps)
by_climbing E N f ps n l a b =
    record {
      root = refl;
      step = λ k m w. level_up ps (suc f) k (omega (arith, b k m w)) m;
      held = a;
      low = λ k o. grind (arith, nat_tests, b k);
    }

-- u lies d levels above k
pub record Above (E : ℕ) (lev : ℕ → ℕ) (d k u : ℕ) : Type 0 where
  pub on : On E u
  pub level : lev u + d ≡ lev k

module _ (E N : ℕ) (ps : List ℕ) (lev : ℕ → ℕ) (h : Rooted E N ps lev) where
  pub climb : (d k : ℕ) → On E k → d < lev k → Above E lev d k (above ps d k)
  climb zero k o l = record { on = o; level = omega arith }
  climb (suc d) k o l =
      let m : 2 ≤ k = grind (arith, h.root) in
      let a = climb d (parent ps k) (h.held k m o.upto) (omega (arith, h.step k m o.upto)) in
      record { on = a.on; level = omega (arith, h.step k m o.upto) }

  -- only the root has level 1
  pub lone : (k : ℕ) → On E k → lev k ≡ 1 → k ≡ 1
  lone k o e = grind (arith, h.step k, h.held k, h.low (parent ps k))
