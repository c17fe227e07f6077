-- The history of each queue, told by the rows of a job's steps: who joined, who came to hold, who stopped holding.
-- A step's row is what the table gives at the place that the rank's record shows; a refused call has none.
use Rattle.std.specs.Prelude.{ℕ, cond, List, [], ◌∷◌, ◌++◌, Some, None, Ok, Err, Option, Result, ◌==◌}
use Rattle.refusal.specs.declared.Refusal.{Refusal}
use Rattle.memory.specs.Sizes.{tail_offset}
use Rattle.memory.specs.Words.{Words}
use Rattle.plan.specs.Trees.{Tree, node_home, queue_home}
use Rattle.places.specs.Records.{parsed}
use Rattle.places.specs.declared.answer.Answer.{Answer}
use Rattle.places.specs.declared.place.Place.{Place}
use Rattle.places.specs.declared.place.Place.TheVariants.{Idle, W1, W2, W3, W4, W5, W6, W7, W8, W9}
use Rattle.places.specs.declared.place.Place.TheVariants.{U1, U2, U3, U4, U5, U6, U7, U8, U9, U10}
use Rattle.places.specs.declared.place.Place.TheVariants.{R1, R2, R3, R4, R5, R6, R7, Writer, Reader}
use Rattle.places.specs.declared.record.Record.{Record}
use Rattle.lock.specs.Outcomes.{record_at}
use Rattle.law.specs.Calls.{State, after, answer_to}
use Rattle.law.specs.declared.call.Call.{Call}
use Rattle.law.specs.declared.call.Call.TheVariants.{AskWrite, AskRead, Step, Leave}

-- of each element, by its home: the nodes that joined its queue, that came to hold it and that stopped, oldest first
pub record History : Type 0 where
  pub joined : ℕ → List ℕ
  pub came : ℕ → List ℕ
  pub gone : ℕ → List ℕ

abbrev pub nothing : History
nothing = record { joined = λ _. []; came = λ _. []; gone = λ _. [] }

-- one more entry at element k
abbrev pub more : (ℕ → List ℕ) → ℕ → ℕ → ℕ → List ℕ
more f k x e = cond (e == k) (f e ++ (x ∷ [])) (f e)

-- a node joins; it comes to hold at once if the queue was empty
abbrev pub joins : History → ℕ → ℕ → ℕ → History
joins h k x tail = record {
  joined = more h.joined k x;
  came = cond (tail == 0) (more h.came k x) h.came;
  gone = h.gone;
}

-- a holder hands over: the successor comes to hold, and the holder stops
abbrev pub hands_over : History → ℕ → ℕ → ℕ → History
hands_over h k x successor = record {
  joined = h.joined;
  came = more h.came k successor;
  gone = more h.gone k x;
}

-- a holder that is alone in the queue stops
abbrev pub stops : History → ℕ → ℕ → ℕ → History
stops h k x tail = record {
  joined = h.joined;
  came = h.came;
  gone = cond (tail == x) (more h.gone k x) h.gone;
}

-- what the row of rank p at a place adds: W3 joins, U3 and U9 hand over, U10 stops if the tail was the own node
abbrev pub adds : Tree → Words → ℕ → History → Place → History
adds t ws p h Idle = h
adds t ws p h (W1 i) = h
adds t ws p h (W2 i) = h
adds t ws p h (W3 i) = joins h (queue_home t p i) (node_home t p i) (ws.word (queue_home t p i) tail_offset)
adds t ws p h (W4 i y) = h
adds t ws p h (W5 i) = h
adds t ws p h (W6 i) = h
adds t ws p h (W7 k) = h
adds t ws p h (W8 k) = h
adds t ws p h (W9 k n) = h
adds t ws p h (U1 i) = h
adds t ws p h (U2 i n) = h
adds t ws p h (U3 i y n) = hands_over h (queue_home t p i) (node_home t p i) y
adds t ws p h U4 = h
adds t ws p h (U5 n) = h
adds t ws p h (U6 k) = h
adds t ws p h (U7 k n) = h
adds t ws p h (U8 i) = h
adds t ws p h (U9 i y) = hands_over h (queue_home t p i) (node_home t p i) y
adds t ws p h (U10 i) = stops h (queue_home t p i) (node_home t p i) (ws.word (queue_home t p i) tail_offset)
adds t ws p h R1 = h
adds t ws p h R2 = h
adds t ws p h R3 = h
adds t ws p h R4 = h
adds t ws p h R5 = h
adds t ws p h (R6 n) = h
adds t ws p h R7 = h
adds t ws p h Writer = h
adds t ws p h Reader = h

abbrev pub adds_from : Tree → Words → ℕ → History → Option Place → History
adds_from t ws p h None = h
adds_from t ws p h (Some q) = adds t ws p h q

-- what a call adds; only a step that is not refused has a row
abbrev pub written_down : Tree → Words → List Record → History → Call → Result Answer Refusal → History
written_down t ws rs h c (Err e) = h
written_down t ws rs h (AskWrite p) (Ok a) = h
written_down t ws rs h (AskRead p) (Ok a) = h
written_down t ws rs h (Step p) (Ok a) = adds_from t ws p h (parsed t p (record_at rs p))
written_down t ws rs h (Leave p) (Ok a) = h

-- after a list of calls
abbrev pub history : Tree → State → History → List Call → History
history t s h [] = h
history t s h (c ∷ cs) =
    history t (after t s c) (written_down t s.words s.records h c (answer_to t s c)) cs
