-- The worked cases of plan A, and the one test that computes them all.
use Rattle.std.specs.Prelude.{ℕ, ◌+◌, ◌-◌, Bool, true, false, cond, ◌&&◌, List, [], ◌∷◌, ◌++◌, replicate, Ok, Err, Result, ◌==◌}
use Rattle.std.specs.Option.{unwrap_or}
use Rattle.refusal.specs.Numbers.{number_of}
use Rattle.refusal.specs.declared.Refusal.{Refusal}
use Rattle.memory.specs.Sizes.{arrive_offset, depart_offset, tail_offset}
use Rattle.plan.specs.Trees.{Tree, counter_home, node_home, own_counter_home, planned, queue_home, tree}
use Rattle.plan.specs.declared.shape.Shape.{Shape}
use Rattle.places.specs.Records.{recorded}
use Rattle.places.specs.Table.{next_of}
use Rattle.places.specs.declared.answer.Answer.{Answer}
use Rattle.places.specs.declared.answer.Answer.TheVariants.{Asked, Leaving, Entered, Free, Waiting, Moved}
use Rattle.places.specs.declared.follow.Next.{Next}
use Rattle.places.specs.declared.place.Place.TheVariants.{Idle, U2, U5}
use Rattle.law.specs.Calls.{State, answers, laid, ran}
use Rattle.law.specs.declared.call.Call.{Call}
use Rattle.law.specs.declared.call.Call.TheVariants.{AskWrite, AskRead, Step, Leave}
use Rattle.examples.specs.declared.cases.Case.{Case}
use Rattle.examples.specs.declared.cases.Case.TheVariants.{CounterHome, Node, Queue, Ranks, Level2Threshold, Parent}
use Rattle.examples.specs.declared.cases.Case.TheVariants.{WriterEnters, WriterFree, TailAfterWriter, ReaderReturns}
use Rattle.examples.specs.declared.cases.Case.TheVariants.{CounterAfterReaders, HandsOnAtLevel2, HandsOnAtLevel1}

-- plan A with p ranks, q for the parent of element 2, and l for the threshold of level 2
abbrev pub changed_shape : ℕ → ℕ → Shape
changed_shape p l = record {
  ranks = p;
  elements = 3;
  levels = 2;
  spacing = 2;
  reader_threshold = 2;
  writer_threshold = 2;
  level2_threshold = l;
  level3_threshold = 0;
  level4_threshold = 0;
}

abbrev pub changed : ℕ → ℕ → ℕ → Tree
changed p q l = tree (changed_shape p l) (q ∷ 1 ∷ []) ((2 ∷ 2 ∷ 2 ∷ []) ++ replicate (p - 3) 3)

abbrev pub plan_A : Tree
plan_A = changed 5 1 1

-- the number of the refusal, or 0 where the plan is made
abbrev pub refused : Result Tree Refusal → ℕ
refused (Ok t) = 0
refused (Err e) = unwrap_or (number_of e) 0

-- right after layout of plan A over eight homes
abbrev pub start_A : State
start_A = laid plan_A (record { count = 8; word = λ h o. 0 }) (replicate 5 (recorded Idle))

-- the calls of a rank: one, then n steps
abbrev pub with_steps : Call → ℕ → ℕ → List Call
with_steps c p n = c ∷ replicate n (Step p)

-- whether a call answered that the rank came in, or became idle
abbrev pub came_in : Result Answer Refusal → Bool
came_in (Ok Asked) = false
came_in (Ok Leaving) = false
came_in (Ok Entered) = true
came_in (Ok Free) = false
came_in (Ok Waiting) = false
came_in (Ok Moved) = false
came_in (Err e) = false

abbrev pub got_free : Result Answer Refusal → Bool
got_free (Ok Asked) = false
got_free (Ok Leaving) = false
got_free (Ok Entered) = false
got_free (Ok Free) = true
got_free (Ok Waiting) = false
got_free (Ok Moved) = false
got_free (Err e) = false

-- the number of the first answer of a kind, counted from k
abbrev pub first_from : ℕ → (Result Answer Refusal → Bool) → List (Result Answer Refusal) → ℕ
first_from k kind [] = 0
first_from k kind (r ∷ rs) = cond (kind r) k (first_from (k + 1) kind rs)

-- after a call of rank p, the number of the step that comes first with such an answer; 0 where 20 steps have none
abbrev pub first_step : (Result Answer Refusal → Bool) → State → Call → ℕ → ℕ
first_step kind s c p = first_from 0 kind (answers plan_A s (with_steps c p 20))

-- rank p came in as writer, alone; and then became idle again
abbrev pub wrote : ℕ → State
wrote p = ran plan_A start_A (with_steps (AskWrite p) p 17)

abbrev pub went_out : ℕ → State
went_out p = ran plan_A (wrote p) (with_steps (Leave p) p 14)

-- ranks 1 and 2 read, and rank 1 goes out; then it asks again and comes in
abbrev pub read_once : State
read_once = ran plan_A start_A (AskRead 1 ∷ Step 1 ∷ AskRead 2 ∷ Step 2 ∷ Leave 1 ∷ Step 1 ∷ [])

abbrev pub read_again : State
read_again = ran plan_A read_once (with_steps (AskRead 1) 1 8)

-- 1 where the place behind is the hand-over
abbrev pub hands : Result Next Refusal → ℕ
hands (Ok x) = cond ((recorded x.place).place == 12) 1 0
hands (Err e) = 0

abbrev pub holds : Case → Bool
holds (CounterHome p h) = own_counter_home plan_A p == h
holds (Node p i h) = node_home plan_A p i == h
holds (Queue p i h) = queue_home plan_A p i == h
holds (Ranks p n) = refused (planned (changed p 1 1)) == n
holds (Level2Threshold l n) = refused (planned (changed 5 1 l)) == n
holds (Parent q n) = refused (planned (changed 5 q 1)) == n
holds (WriterEnters p n) = first_step came_in start_A (AskWrite p) p == n
holds (WriterFree p n) = first_step got_free (wrote p) (Leave p) p == n
holds (TailAfterWriter p h w) = (went_out p).words.word h tail_offset == w
holds (ReaderReturns n) = first_step came_in read_once (AskRead 1) 1 == n
holds (CounterAfterReaders k a d) =
    (read_again.words.word (counter_home plan_A k) arrive_offset == a)
    && read_again.words.word (counter_home plan_A k) depart_offset == d
holds (HandsOnAtLevel2 n b) = hands (next_of plan_A 1 (U2 2 n) 2) == b
holds (HandsOnAtLevel1 n b) = hands (next_of plan_A 1 (U5 n) 8) == b

abbrev pub all_hold : List Case → Bool
all_hold [] = true
all_hold (c ∷ cs) = holds c && all_hold cs

abbrev pub cases : List Case
cases =
    CounterHome 1 1 ∷ CounterHome 2 1 ∷ CounterHome 3 3 ∷ CounterHome 4 3 ∷ CounterHome 5 5
    ∷ Node 4 2 4 ∷ Node 4 1 8
    ∷ Queue 4 2 8 ∷ Queue 4 1 6
    ∷ Ranks 5 0 ∷ Ranks 1024 0 ∷ Ranks 1025 1
    ∷ Level2Threshold 0 2
    ∷ Parent 1 0 ∷ Parent 2 3
    ∷ WriterEnters 1 17
    ∷ WriterFree 1 14 ∷ TailAfterWriter 1 6 0 ∷ TailAfterWriter 1 7 0
    ∷ ReaderReturns 8 ∷ CounterAfterReaders 0 2 0
    ∷ HandsOnAtLevel2 0 1 ∷ HandsOnAtLevel2 1 0
    ∷ HandsOnAtLevel1 0 1 ∷ HandsOnAtLevel1 1 0
    ∷ []
