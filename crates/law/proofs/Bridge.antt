-- How words and records show a lock of the abstract machine, and what a lawful plan says of its homes. An element
-- goes by its home, so that NEXT, STATUS and TAIL are all words by home; a counter goes by its number.
use Rattle.std.proofs.Common.{◌≡◌, ℕ, ◌+◌, ◌-◌, ◌%◌, ◌^◌, ◌<◌, ◌≤◌, cond, eqb, ◌≢◌, List, length, Ok, Result}
use Rattle.refusal.specs.declared.Refusal.{Refusal}
use Rattle.memory.specs.Words.{Words, storing}
use Rattle.memory.specs.declared.operations.Operation.{Operation}
use Rattle.memory.specs.declared.operations.Operation.TheVariants.{Get, Put, Swap, Add, Cas}
use Rattle.plan.specs.Trees.{Tree, counter_home, counters, element_at, element_home, has_rank, homes, node_home}
use Rattle.plan.specs.Trees.{own_counter, own_level, queue_home, threshold}
use Rattle.places.specs.Records.{recorded}
use Rattle.places.specs.Table.{next_of}
use Rattle.places.specs.declared.answer.Answer.{Answer}
use Rattle.places.specs.declared.follow.Next.{Next}
use Rattle.places.specs.declared.record.Record.{Record}
use Rattle.lock.specs.Outcomes.{Outcome, record_at}
use Rattle.queues.specs.Machine.{On}
use Rattle.queues.specs.Table.{Place, Idle, W1, W2, W3, W4, W5, W6, W7, W8, W9, U1, U2, U3, U4, U5, U6, U7, U8, U9}
use Rattle.queues.specs.Table.{U10, R1, R2, R3, R4, R5, R6, R7, Writer, Reader, Plan, Lock}
use Rattle.queues.specs.Moves.{Apt}

-- a plan as the abstract machine sees it; an element goes by its home
abbrev pub machine_plan : Tree → Plan
machine_plan t = record {
  tree = record { own_level = own_level t; element = queue_home t; node = node_home t };
  counters = counters t;
  reader_threshold = t.shape.reader_threshold;
  hand_over_limit = λ p j. cond (eqb j 1) (t.shape.writer_threshold - 1) (threshold t (element_at t p j));
  home = λ p. cond (has_rank t p) (own_counter t p) 0;
}

-- what a lawful plan says of its homes
pub record Geometry (t : Tree) : Type 0 where
  -- the laws of the tree and of the numbers
  pub apt : Apt t.shape.ranks (machine_plan t)
  -- nodes are homes of the lock
  pub node_in : (p i : ℕ) → On (own_level t p) i → On (homes t) (node_home t p i)
  -- and so are queues
  pub queue_in : (p i : ℕ) → On (own_level t p) i → On (homes t) (queue_home t p i)
  -- the queue of level 1 is that of element 1
  pub root : (p : ℕ) → On t.shape.ranks p → queue_home t p 1 ≡ element_home t 1
  -- counters have homes
  pub counter_in : (k : ℕ) → k < counters t → On (homes t) (counter_home t k)
  -- of their own
  pub counter_one : (a b : ℕ) → counter_home t a ≡ counter_home t b → a ≡ b
  -- each rank has one of them
  pub own_in : (p : ℕ) → On t.shape.ranks p → own_counter t p < counters t
  -- there are few ranks
  pub few : t.shape.ranks ≤ 1024
  -- and the reader threshold is small
  pub limit : t.shape.reader_threshold ≤ 1000000

-- words and records that show a lock: enough of both, and each is what the lock says
pub record Shows (t : Tree) (ws : Words) (rs : List Record) (s : Lock) : Type 0 where
  -- there are records enough
  pub ranks : t.shape.ranks ≤ length rs
  -- and homes
  pub room : homes t ≤ ws.count
  -- a record is that of the place
  pub places : (p : ℕ) → On t.shape.ranks p → record_at rs p ≡ recorded (s.place p)
  -- the five words
  pub nexts : (h : ℕ) → On (homes t) h → ws.word h 0 ≡ s.nexts h
  pub statuses : (h : ℕ) → On (homes t) h → ws.word h 1 ≡ s.statuses h
  pub tails : (h : ℕ) → On (homes t) h → ws.word h 2 ≡ s.tails h
  pub arrives : (c : ℕ) → c < counters t → ws.word (counter_home t c) 3 ≡ s.arrives c
  pub departs : (c : ℕ) → c < counters t → ws.word (counter_home t c) 4 ≡ s.departs c

-- an access that is not refused: the word that it gives, and the words after it
abbrev pub gives : Words → ℕ → ℕ → Operation → ℕ
gives ws h o Get = ws.word h o
gives ws h o (Put w) = 0
gives ws h o (Swap w) = ws.word h o
gives ws h o (Add w) = ws.word h o
gives ws h o (Cas v w) = ws.word h o

-- and the words after it
abbrev pub effect : Words → ℕ → ℕ → Operation → Words
effect ws h o Get = ws
effect ws h o (Put w) = storing ws h o w
effect ws h o (Swap w) = storing ws h o w
effect ws h o (Add w) = storing ws h o ((ws.word h o + w) % 2 ^ 64)
effect ws h o (Cas v w) = cond (eqb (ws.word h o) v) (storing ws h o w) ws

-- a row of the table goes to place g, whatever it answers
abbrev pub Goes : Result Next Refusal → Place → Type 0
Goes o g = (a : Answer) × (o ≡ Ok (record { place = g; answer = a }))

-- a step that is not refused: it goes and answers as the table says, and what it leaves shows the next lock of the
-- machine
pub record Stepped (t : Tree) (s : Lock) (p : ℕ) (f : Place) (o : Outcome) (s' : Lock) : Type 0 where
  pub given : ℕ
  pub next : Place
  pub answer : Answer
  pub follows : next_of t p f given ≡ Ok (record { place = next; answer = answer })
  pub says : o.answer ≡ Ok answer
  pub here : s'.place p ≡ next
  pub there : (q : ℕ) → q ≢ p → s'.place q ≡ s.place q
  pub shows : Shows t o.words o.records s'

-- the fields that a place uses are in range
abbrev pub Ranged : Tree → ℕ → Place → Type 0
Ranged t p Idle = Unit {0}
Ranged t p (W1 i) = On (own_level t p) i
Ranged t p (W2 i) = On (own_level t p) i
Ranged t p (W3 i) = On (own_level t p) i
Ranged t p (W4 i h) = On (own_level t p) i × On (homes t) h
Ranged t p (W5 i) = On (own_level t p) i
Ranged t p (W6 i) = On (own_level t p) i
Ranged t p (W7 k) = k < counters t
Ranged t p (W8 k) = k < counters t
Ranged t p (W9 k n) = k < counters t
Ranged t p (U1 i) = (2 ≤ i) × (i ≤ own_level t p)
Ranged t p (U2 i n) = (2 ≤ i) × (i ≤ own_level t p)
Ranged t p (U3 i h n) = On (own_level t p) i × On (homes t) h
Ranged t p U4 = Unit {0}
Ranged t p (U5 n) = Unit {0}
Ranged t p (U6 k) = k < counters t
Ranged t p (U7 k n) = k < counters t
Ranged t p (U8 i) = On (own_level t p) i
Ranged t p (U9 i h) = On (own_level t p) i × On (homes t) h
Ranged t p (U10 i) = On (own_level t p) i
Ranged t p R1 = Unit {0}
Ranged t p R2 = Unit {0}
Ranged t p R3 = Unit {0}
Ranged t p R4 = Unit {0}
Ranged t p R5 = Unit {0}
Ranged t p (R6 n) = Unit {0}
Ranged t p R7 = Unit {0}
Ranged t p Writer = Unit {0}
Ranged t p Reader = Unit {0}
