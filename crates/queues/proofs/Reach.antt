-- What can be reached by steps and leaves, and the descent that all three stages of the way back share: each rank has
-- a number; while one is above 0, some moves lower the sum of the numbers; so some moves lead to where all are 0.
use Rattle.std.proofs.Common.{◌≡◌, ℕ, zero, suc, ◌+◌, ◌<◌, ◌≤◌, ◌⊎◌, List, [], ◌∷◌, refl, inl, inr, arith}
use Rattle.std.proofs.lemmas.Bool.{cases_lt}
use Rattle.queues.specs.Machine.{On}
use Rattle.queues.specs.Counters.{total}
use Rattle.queues.specs.Table.{Place, Plan, Lock}
use Rattle.queues.specs.Moves.{Move, Accepted, act, play, Plays}
use Rattle.queues.proofs.Sums.{total_part}

-- some list of accepted moves leads from the lock to one with the property
pub data Reach (P : ℕ) (L : Plan) (Q : Lock → Type 0) : Lock → Type 0 where
  here : (s : Lock) → Q s → Reach P L Q s
  move : (s : Lock) (m : Move) → Accepted P L s m → Reach P L Q (act L s m) → Reach P L Q s

-- the moves as a list
pub as_list : (P : ℕ) (L : Plan) (Q : Lock → Type 0) (s : Lock) → Reach P L Q s
    → (ms : List Move) × Plays P L s ms × Q (play L s ms)
unfolding play Plays
as_list P L Q s (here s' q) = ([], tt, q)
as_list P L Q s (move s' m a r) = let w = as_list P L Q (act L s' m) r in (m ∷ w.0, (a, w.1), w.2)

-- one way after another
pub onwards : (P : ℕ) (L : Plan) (Q R : Lock → Type 0) → ((t : Lock) → Q t → Reach P L R t) → (s : Lock)
    → Reach P L Q s → Reach P L R s
onwards P L Q R f s (here s' q) = f s' q
onwards P L Q R f s (move s' m a r) = move s' m a (onwards P L Q R f (act L s' m) r)

-- a sum is 0, or one of its parts is not
pub some_part : (n : ℕ) (f : ℕ → ℕ) → (total n f ≡ 0) ⊎ ((p : ℕ) × On n p × (0 < f p))
unfolding total
some_part zero f = inl refl
some_part (suc n) f = by (cases_lt 0 (f (suc n))) (some_part n f)
  where
    by : (0 < f (suc n)) ⊎ (f (suc n) ≤ 0) → (total n f ≡ 0) ⊎ ((p : ℕ) × On n p × (0 < f p))
        → (f (suc n) + total n f ≡ 0) ⊎ ((p : ℕ) × On (suc n) p × (0 < f p))
    by (inl z) w = inr (suc n, omega arith, z)
    by (inr z) (inl e) = inl (omega arith)
    by (inr z) (inr (p, o, w)) = inr (p, omega (arith, o), w)

-- while some rank's number is above 0, a way lowers the sum of the numbers: at the end all are 0
module _ (P : ℕ) (L : Plan) (num : ℕ → Place → ℕ) (Keeps : Lock → Type 0) where
  -- the sum of the numbers
  abbrev pub Sum : Lock → ℕ
  Sum s = total P (λ q. num q (s.place q))

  -- it has fallen, and what is kept still holds
  abbrev pub Lower : Lock → Lock → Type 0
  Lower s t = Keeps t × (Sum t < Sum s)

  -- all numbers are 0
  abbrev pub Done : Lock → Type 0
  Done t = Keeps t × ((q : ℕ) → On P q → num q (t.place q) ≡ 0)

  -- if the sum can be lowered while it is above 0, all numbers come to 0
  pub descend : ((s : Lock) → Keeps s → (p : ℕ) → On P p → 0 < num p (s.place p) → Reach P L (Lower s) s)
      → (d : ℕ) (s : Lock) → Keeps s → Sum s ≤ d → Reach P L Done s
  descend f zero s k l = here s (k, λ q on. omega (arith, total_part P (λ q. num q (s.place q)) q on))
  descend f (suc d) s k l = by (some_part P (λ q. num q (s.place q))) (λ t k' l'. descend f d t k' l')
    where
      by : (Sum s ≡ 0) ⊎ ((p : ℕ) × On P p × (0 < num p (s.place p)))
          → ((t : Lock) → Keeps t → Sum t ≤ d → Reach P L Done t) → Reach P L Done s
      by (inl z) again = here s (k, λ q on. omega (arith, total_part P (λ q. num q (s.place q)) q on))
      by (inr w) again =
          onwards P L (Lower s) Done (λ t q. again t q.0 (omega (arith, q.1))) s (f s k w.0 w.1 w.2)
