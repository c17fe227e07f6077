-- The way back: some list of steps and leaves, with no ask, after which every rank is idle by the answers,
-- and the lock is at rest by its words.
use Rattle.std.specs.Prelude.{◌≡◌, ℕ, true, List, [], ◌∷◌, ◌++◌}
use Rattle.plan.specs.Trees.{Tree}
use Rattle.queues.specs.Machine.{On}
use Rattle.law.specs.Calls.{State, answers, ran}
use Rattle.law.specs.Presence.{nobody, seen}
use Rattle.law.specs.Rest.{IsAtRest}
use Rattle.law.specs.declared.call.Call.{Call}
use Rattle.law.specs.declared.call.Call.TheVariants.{AskWrite, AskRead, Step, Leave}

-- a step or a leave
abbrev pub NoAsk : Call → Type 0
NoAsk (AskWrite p) = ⊥
NoAsk (AskRead p) = ⊥
NoAsk (Step p) = Unit {0}
NoAsk (Leave p) = Unit {0}

abbrev pub NoAsks : List Call → Type 0
NoAsks [] = Unit {0}
NoAsks (c ∷ cs) = NoAsk c × NoAsks cs

-- from a state, after the calls that led to it
pub record WayBack (t : Tree) (start : State) (calls : List Call) : Type 0 where
  pub back : List Call
  pub no_asks : NoAsks back
  pub idle : (p : ℕ) → On t.shape.ranks p
      → (seen nobody (calls ++ back) (answers t start (calls ++ back))).idle p ≡ true
  pub rest : IsAtRest t (ran t start (calls ++ back)).words
