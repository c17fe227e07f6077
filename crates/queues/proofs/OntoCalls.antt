-- From moves of the abstract machine to calls of any machine that shows it: if each accepted move is a call that is
-- done and goes on showing the lock, the way back is a list of calls.
use Rattle.std.proofs.Common.{◌≡◌, ℕ, ◌⊎◌, List, [], ◌∷◌, sym, subst, ⊎_elim, arith}
use Rattle.std.proofs.lemmas.Bool.Decides.{nat_tests}
use Rattle.queues.specs.Table.{Place, Writer, Reader, Plan, Lock, go}
use Rattle.queues.specs.Moves.{Move, Step, Leave, In, exit, Accepted, act, AtRest, Apt}
use Rattle.queues.proofs.Reach.{Reach, here, move}
use Rattle.queues.proofs.FirstStage.{Good, good_step, good_leave_read, good_leave_write}
use Rattle.queues.proofs.ThirdStage.{back}

-- a place from which a leave is accepted is one of the two inside
pub in_is : (f : Place) → In f → (f ≡ Writer) ⊎ (f ≡ Reader)
in_is f h = grind (arith, nat_tests)

-- the calls of a list on a machine, and that each is accepted
abbrev pub calls : {B : Type 0} → (B → Move → B) → B → List Move → B
calls call b [] = b
calls call b (m ∷ ms) = calls call (call b m) ms

-- and each is done
abbrev pub Oks : {B : Type 0} → (B → Move → B) → (B → Move → Type 0) → B → List Move → Type 0
Oks call Ok b [] = Unit {0}
Oks call Ok b (m ∷ ms) = Ok b m × Oks call Ok (call b m) ms

module _ (P : ℕ) (L : Plan) (g : Apt P L) where
  -- every accepted move keeps the lock safe
  pub good_act : (s : Lock) → Good P L s → (m : Move) → Accepted P L s m → Good P L (act L s m)
  good_act s v (Step p) a = good_step P L g s v p a.0
  good_act s v (Leave p) a = ⊎_elim
      (λ (e : s.place p ≡ Writer).
      subst (λ f. Good P L (go s p (exit L p f))) (sym e) (good_leave_write P L g s v p a.0 e))
      (λ (e : s.place p ≡ Reader).
      subst (λ f. Good P L (go s p (exit L p f))) (sym e) (good_leave_read P L g s v p a.0 e))
      (in_is (s.place p) a.1)

  -- what has to be shown of a machine: each move that the lock accepts from a safe state it accepts too, and it goes
  -- on showing the lock
  abbrev pub Follows : (B : Type 0) → (B → Move → B) → (B → Move → Type 0) → (B → Lock → Type 0) → Type 0
  Follows B call Ok Shows = (b : B) (s : Lock) (m : Move) → Good P L s → Shows b s → Accepted P L s m
      → Ok b m × Shows (call b m) (act L s m)

  -- a way of the abstract machine is one of the other
  pub lifted : (B : Type 0) (call : B → Move → B) (Ok : B → Move → Type 0) (Shows : B → Lock → Type 0)
      → Follows B call Ok Shows → (Q : Lock → Type 0) (b : B) (s : Lock) → Good P L s → Shows b s → Reach P L Q s
      → (ms : List Move) × Oks call Ok b ms × ((t : Lock) × Good P L t × Q t × Shows (calls call b ms) t)
  lifted B call Ok Shows f Q b s v h (here s' q) = ([], tt, (s', v, q, h))
  lifted B call Ok Shows f Q b s v h (move s' m a r) =
      let d = f b s' m v h a in
      let w = lifted B call Ok Shows f Q (call b m) (act L s' m) (good_act s' v m a) d.1 r in
      (m ∷ w.0, (d.0, w.1), w.2)

  -- and so is the way back to rest
  pub back_onto : (B : Type 0) (call : B → Move → B) (Ok : B → Move → Type 0) (Shows : B → Lock → Type 0)
      → Follows B call Ok Shows → (b : B) (s : Lock) → Good P L s → Shows b s
      → (ms : List Move) × Oks call Ok b ms × ((t : Lock) × Good P L t × AtRest P L t × Shows (calls call b ms) t)
  back_onto B call Ok Shows f b s v h = lifted B call Ok Shows f (AtRest P L) b s v h (back P L g s v)
