-- The law of the lock, for every job: at the start and after each call exclusion, order and the way back hold,
-- and no call is refused for a short table, a spoiled record, an unknown home or an unknown offset.
use Rattle.std.specs.Prelude.{◌≡◌, ℕ, Bool, true, false, List, [], ◌∷◌, take, Ok, Err, Result}
use Rattle.refusal.specs.declared.Refusal.{Refusal}
use Rattle.refusal.specs.declared.Refusal.TheVariants.{PlanSize, PlanThreshold, PlanParent, PlanRank, TooShort}
use Rattle.refusal.specs.declared.Refusal.TheVariants.{UnknownRank, Spoiled, NotIdle, NotUnderWay, NotIn}
use Rattle.refusal.specs.declared.Refusal.TheVariants.{UnknownHome, UnknownOffset, Cut, Misplaced}
use Rattle.refusal.specs.declared.Refusal.TheVariants.{BufferTooSmall, OrderTooLong, OutOfMemory}
use Rattle.memory.specs.Words.{Words}
use Rattle.plan.specs.Trees.{Tree, tree_of}
use Rattle.plan.specs.declared.plan.Plan.{Plan}
use Rattle.places.specs.declared.answer.Answer.{Answer}
use Rattle.places.specs.declared.record.Record.{Record}
use Rattle.lock.specs.Layouts.{laid_answer}
use Rattle.law.specs.Calls.{State, answers, laid}
use Rattle.law.specs.Exclusion.{Alone}
use Rattle.law.specs.History.{history, nothing}
use Rattle.law.specs.Order.{Ordered}
use Rattle.law.specs.Presence.{nobody, seen}
use Rattle.law.specs.WayBack.{WayBack}
use Rattle.law.specs.declared.call.Call.{Call}

-- the refusals that a caller of a job can bring about: an unknown rank, or a call out of turn
abbrev pub by_caller : Refusal → Bool
by_caller PlanSize = false
by_caller PlanThreshold = false
by_caller PlanParent = false
by_caller PlanRank = false
by_caller TooShort = false
by_caller UnknownRank = true
by_caller Spoiled = false
by_caller NotIdle = true
by_caller NotUnderWay = true
by_caller NotIn = true
by_caller UnknownHome = false
by_caller UnknownOffset = false
by_caller Cut = false
by_caller Misplaced = false
by_caller BufferTooSmall = false
by_caller OrderTooLong = false
by_caller OutOfMemory = false

abbrev pub Fair : Result Answer Refusal → Type 0
Fair (Ok a) = Unit {0}
Fair (Err e) = by_caller e ≡ true

abbrev pub AllFair : List (Result Answer Refusal) → Type 0
AllFair [] = Unit {0}
AllFair (r ∷ rs) = Fair r × AllFair rs

-- what holds after the calls of a job
pub record LawfulAfter (t : Tree) (start : State) (calls : List Call) : Type 0 where
  pub exclusion : Alone (seen nobody calls (answers t start calls))
  pub order : (k : ℕ) → Ordered (history t start nothing calls) k
  pub way_back : WayBack t start calls

-- and so after every front part of them
pub record Law (t : Tree) (start : State) (calls : List Call) : Type 0 where
  pub always : (n : ℕ) → LawfulAfter t start (take n calls)
  pub fair : AllFair (answers t start calls)

-- for every plan, all words and records that layout accepts, and every list of calls
abbrev pub EveryJob : Type 0
EveryJob =
    (plan : Plan) (ws : Words) (rs : List Record) (calls : List Call) → laid_answer (tree_of plan) ws rs ≡ Ok tt
    → Law (tree_of plan) (laid (tree_of plan) ws rs) calls
