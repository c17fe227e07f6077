-- The way back of the machine is a list of calls of the lock: each move that the machine accepts is a call that is
-- done, after which words and records still show the machine.
use Rattle.std.proofs.Common.{◌≡◌, ℕ, ◌⊎◌, List, [], ◌∷◌, ◌++◌, sym, refl, ap, ◌∙◌, subst, inl, inr, arith}
use Rattle.std.proofs.lemmas.Bool.Decides.{nat_tests}
use Rattle.plan.specs.Trees.{Tree, own_level}
use Rattle.places.specs.Standings.{standing_at}
use Rattle.places.specs.declared.place.Standing.TheVariants.{UnderWay}
use Rattle.lock.specs.Turns.{exit_of}
use Rattle.queues.specs.Table.{Place, Writer, Reader, Plan, Lock, go}
use Rattle.queues.specs.Moves.{Accepted, Accepts, AtRest, Leave as leave_move, Move, Step as step_move, act, exit}
use Rattle.queues.proofs.FirstStage.{Good}
use Rattle.queues.proofs.OntoCalls.{back_onto, calls, in_is}
use Rattle.law.specs.Calls.{State, after, answer_to, answers, ran}
use Rattle.law.specs.History.{History, written_down}
use Rattle.law.specs.Presence.{Presence, seen, told}
use Rattle.law.specs.WayBack.{NoAsks}
use Rattle.law.specs.declared.call.Call.{Call}
use Rattle.law.specs.declared.call.Call.TheVariants.{Step, Leave}
use Rattle.law.proofs.Bridge.{Geometry, machine_plan}
use Rattle.law.proofs.Invariant.{Holds, does_leave_read, does_leave_write, does_row, exit_is}

-- a move of the machine as a call
abbrev pub as_call : Move → Call
as_call (step_move p) = Step p
as_call (leave_move p) = Leave p

-- a list of them
abbrev pub as_calls : List Move → List Call
as_calls [] = []
as_calls (m ∷ ms) = as_call m ∷ as_calls ms

-- none of them is an ask
pub no_asks : (ms : List Move) → NoAsks (as_calls ms)
no_asks [] = tt
no_asks (step_move p ∷ ms) = (tt, no_asks ms)
no_asks (leave_move p ∷ ms) = (tt, no_asks ms)

-- a job so far: the state, and what is known of it by answers and by rows
pub record Run : Type 0 where
  pub at : State
  pub present : Presence
  pub past : History

-- the job after one more move
abbrev pub goes_on : Tree → Run → Move → Run
goes_on t b m = record {
  at = after t b.at (as_call m);
  present = told b.present (as_call m) (answer_to t b.at (as_call m));
  past =
      written_down t b.at.words b.at.records b.past (as_call m) (answer_to t b.at (as_call m));
}

-- it shows a state of the machine
abbrev pub Shown : Tree → Run → Lock → Type 0
Shown t b s = (bit : ℕ → ℕ) × Holds t b.at.words b.at.records b.present b.past s bit

-- a step that the machine accepts is one of a rank that is under way
under_way : (L : Plan) (s : Lock) (p : ℕ) (f : Place) → Accepts L s p f → standing_at f ≡ UnderWay
under_way L s p f a = grind (arith, nat_tests)

module _ (t : Tree) (G : Geometry t) where
  abbrev P : ℕ
  P = t.shape.ranks

  abbrev L : Plan
  L = machine_plan t

  -- each move that the machine accepts is a call that is done
  follows : (b : Run) (s : Lock) (m : Move) → Good P L s → Shown t b s → Accepted P L s m
      → Unit {0} × Shown t (goes_on t b m) (act L s m)
  follows b s (step_move p) v (bit, k) a = (
    tt,
    (
      _,
      (does_row t G b.at.words b.at.records b.present b.past s bit k p a.0
          (under_way L s p (s.place p) a.1)).0,
    ),
  )
  follows b s (leave_move p) v (bit, k) a = (tt, (bit, by (in_is (s.place p) a.1)))
    where
      Left : Lock → Type 0
      Left s' =
          Holds t (goes_on t b (leave_move p)).at.words (goes_on t b (leave_move p)).at.records
          (goes_on t b (leave_move p)).present (goes_on t b (leave_move p)).past s' bit

      by : (s.place p ≡ Writer) ⊎ (s.place p ≡ Reader) → Left (go s p (exit L p (s.place p)))
      by (inl e) =
          let z : exit L p (s.place p) ≡ exit_of t p = ap (exit L p) e ∙ exit_is (own_level t p) in
          subst (λ f. Left (go s p f)) (sym z)
          (does_leave_write t G b.at.words b.at.records b.present b.past s bit k p a.0 e).0
      by (inr e) =
          subst (λ f. Left (go s p (exit L p f))) (sym e)
          (does_leave_read t G b.at.words b.at.records b.present b.past s bit k p a.0 e).0

  -- from every state of a job the machine's moves lead the lock to rest
  pub returns_to_rest : (b : Run) (s : Lock) (bit : ℕ → ℕ)
      → Holds t b.at.words b.at.records b.present b.past s bit
      → (ms : List Move) × ((s' : Lock) × AtRest P L s' × Shown t (calls (goes_on t) b ms) s')
  returns_to_rest b s bit k =
      let r = back_onto P L G.apt Run (goes_on t) (λ _ _. Unit {0}) (Shown t) follows b s
      (record { bit = bit; safe = k.safe }) (bit, k) in
      (r.0, (r.2.0, r.2.2, r.2.3))

-- the moves as a list of calls: the state and the presence that they lead to
pub runs_at : (t : Tree) (ms : List Move) (b : Run) → (calls (goes_on t) b ms).at ≡ ran t b.at (as_calls ms)
runs_at t [] b = refl
runs_at t (m ∷ ms) b = runs_at t ms (goes_on t b m)

-- and the presence
pub runs_present : (t : Tree) (ms : List Move) (b : Run)
    → (calls (goes_on t) b ms).present ≡ seen b.present (as_calls ms) (answers t b.at (as_calls ms))
runs_present t [] b = refl
runs_present t (m ∷ ms) b = runs_present t ms (goes_on t b m)

-- calls behind calls
pub ran_append : (t : Tree) (s : State) (xs ys : List Call) → ran t s (xs ++ ys) ≡ ran t (ran t s xs) ys
ran_append t s [] ys = refl
ran_append t s (c ∷ cs) ys = ran_append t (after t s c) cs ys

-- and what is seen of them
pub seen_append : (t : Tree) (s : State) (w : Presence) (xs ys : List Call)
    → seen w (xs ++ ys) (answers t s (xs ++ ys))
    ≡ seen (seen w xs (answers t s xs)) ys (answers t (ran t s xs) ys)
seen_append t s w [] ys = refl
seen_append t s w (c ∷ cs) ys = seen_append t (after t s c) (told w c (answer_to t s c)) cs ys
