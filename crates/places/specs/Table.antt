-- The table of places: the one access of each, and what follows it.
use Rattle.std.specs.Prelude.{ℕ, ◌+◌, ◌-◌, ◌%◌, ◌^◌, Bool, cond, not, ◌&&◌, Some, None, Ok, Err, Option, Result, ◌==◌, nat_le, nat_lt}
use Rattle.refusal.specs.declared.Refusal.{Refusal}
use Rattle.refusal.specs.declared.Refusal.TheVariants.{NotUnderWay, Spoiled}
use Rattle.memory.specs.Sizes.{next_offset, status_offset, tail_offset, arrive_offset, depart_offset}
use Rattle.memory.specs.declared.operations.Operation.{Operation}
use Rattle.memory.specs.declared.operations.Operation.TheVariants.{Get, Put, Swap, Add, Cas}
use Rattle.plan.specs.Trees.{Tree, counter_home, counters, element_at, element_home, node_home, own_counter_home}
use Rattle.plan.specs.Trees.{own_level, queue_home, threshold}
use Rattle.places.specs.Words.{write_bit, wait, to_parent, mode_change, most_hand_overs, minus}
use Rattle.places.specs.declared.access.Access.{Access}
use Rattle.places.specs.declared.answer.Answer.{Answer}
use Rattle.places.specs.declared.answer.Answer.TheVariants.{Entered, Free, Moved, Waiting}
use Rattle.places.specs.declared.follow.Next.{Next}
use Rattle.places.specs.declared.place.Place.{Place}
use Rattle.places.specs.declared.place.Place.TheVariants.{Idle, W1, W2, W3, W4, W5, W6, W7, W8, W9}
use Rattle.places.specs.declared.place.Place.TheVariants.{U1, U2, U3, U4, U5, U6, U7, U8, U9, U10}
use Rattle.places.specs.declared.place.Place.TheVariants.{R1, R2, R3, R4, R5, R6, R7, Writer, Reader}

abbrev pub access : ℕ → ℕ → Operation → Access
access h o op = record { home = h; offset = o; operation = op }

-- an operation on one of a home's words
abbrev pub next_word : ℕ → Operation → Option Access
next_word h op = Some (access h next_offset op)

abbrev pub status_word : ℕ → Operation → Option Access
status_word h op = Some (access h status_offset op)

abbrev pub tail_word : ℕ → Operation → Option Access
tail_word h op = Some (access h tail_offset op)

abbrev pub arrive_word : ℕ → Operation → Option Access
arrive_word h op = Some (access h arrive_offset op)

abbrev pub depart_word : ℕ → Operation → Option Access
depart_word h op = Some (access h depart_offset op)

-- the one access of rank p at a place; idle and in there is none
abbrev pub access_of : Tree → ℕ → Place → Option Access
access_of t p Idle = None
access_of t p (W1 i) = next_word (node_home t p i) (Put 0)
access_of t p (W2 i) = status_word (node_home t p i) (Put wait)
access_of t p (W3 i) = tail_word (queue_home t p i) (Swap (node_home t p i))
access_of t p (W4 i h) = next_word h (Put (node_home t p i))
access_of t p (W5 i) = status_word (node_home t p i) Get
access_of t p (W6 i) = status_word (node_home t p i) (Put 0)
access_of t p (W7 k) = arrive_word (counter_home t k) (Add write_bit)
access_of t p (W8 k) = arrive_word (counter_home t k) Get
access_of t p (W9 k n) = depart_word (counter_home t k) Get
access_of t p (U1 i) = status_word (node_home t p i) Get
access_of t p (U2 i n) = next_word (node_home t p i) Get
access_of t p (U3 i h n) = status_word h (Put n)
access_of t p U4 = status_word (node_home t p 1) Get
access_of t p (U5 n) = next_word (node_home t p 1) Get
access_of t p (U6 k) = depart_word (counter_home t k) (Swap 0)
access_of t p (U7 k n) = arrive_word (counter_home t k) (Add (minus ((write_bit + n) % 2 ^ 64)))
access_of t p (U8 i) = next_word (node_home t p i) Get
access_of t p (U9 i h) = status_word h (Put (cond (i == 1) mode_change to_parent))
access_of t p (U10 i) = tail_word (queue_home t p i) (Cas (node_home t p i) 0)
access_of t p R1 = arrive_word (own_counter_home t p) (Add 1)
access_of t p R2 = arrive_word (own_counter_home t p) (Add (minus 1))
access_of t p R3 = arrive_word (own_counter_home t p) Get
access_of t p R4 = tail_word (element_home t 1) Get
access_of t p R5 = depart_word (own_counter_home t p) (Swap 0)
access_of t p (R6 n) = arrive_word (own_counter_home t p) (Add (minus n))
access_of t p R7 = depart_word (own_counter_home t p) (Add 1)
access_of t p Writer = None
access_of t p Reader = None

-- a step that goes on, comes in, becomes idle, or waits
abbrev pub goes : Place → Answer → Result Next Refusal
goes q a = Ok (record { place = q; answer = a })

abbrev pub moves : Place → Result Next Refusal
moves q = goes q Moved

abbrev pub enters : Place → Result Next Refusal
enters q = goes q Entered

abbrev pub waits : Place → Result Next Refusal
waits q = goes q Waiting

abbrev pub rests : Result Next Refusal
rests = goes Idle Free

-- rank p is done with level i on its way down: idle at its own level, else on to the next level
abbrev pub level_done : Tree → ℕ → ℕ → Result Next Refusal
level_done t p i = cond (nat_lt i (own_level t p)) (moves (U8 (i + 1))) rests

-- there is a counter behind counter k
abbrev pub more_counters : Tree → ℕ → Bool
more_counters t k = nat_lt (k + 1) (counters t)

-- a successor is there, and the count n of hand-overs is below the limit
abbrev pub hands_on : ℕ → ℕ → ℕ → Bool
hands_on successor n limit = not (successor == 0) && nat_lt n limit

-- what a waiting writer does at status w
abbrev pub told : ℕ → ℕ → Result Next Refusal
told i w =
    cond (w == wait) (waits (W5 i))
    (cond (w == to_parent && nat_le 2 i) (moves (W6 i))
    (cond (w == mode_change && i == 1) (moves (W6 i))
    (cond (nat_le w most_hand_overs) (enters Writer)
    (Err Spoiled))))

-- what follows for rank p at a place, when its access gave the word w
abbrev pub next_of : Tree → ℕ → Place → ℕ → Result Next Refusal
next_of t p Idle w = Err NotUnderWay
next_of t p (W1 i) w = moves (W2 i)
next_of t p (W2 i) w = moves (W3 i)
next_of t p (W3 i) w = cond (w == 0) (moves (W6 i)) (moves (W4 i w))
next_of t p (W4 i h) w = moves (W5 i)
next_of t p (W5 i) w = told i w
next_of t p (W6 i) w = cond (nat_le 2 i) (moves (W1 (i - 1))) (moves (W7 0))
next_of t p (W7 k) w = cond (more_counters t k) (moves (W7 (k + 1))) (moves (W8 0))
next_of t p (W8 k) w = moves (W9 k w)
next_of t p (W9 k n) w =
    cond (n == (write_bit + w) % 2 ^ 64)
    (cond (more_counters t k) (moves (W8 (k + 1))) (enters Writer))
    (waits (W8 k))
next_of t p (U1 i) w = moves (U2 i w)
next_of t p (U2 i n) w =
    cond (hands_on w n (threshold t (element_at t p i)))
    (moves (U3 i w (n + 1)))
    (cond (nat_le i 2) (moves U4) (moves (U1 (i - 1))))
next_of t p (U3 i h n) w = level_done t p i
next_of t p U4 w = moves (U5 w)
next_of t p (U5 n) w =
    cond (hands_on w n (t.shape.writer_threshold - 1)) (moves (U3 1 w (n + 1))) (moves (U6 0))
next_of t p (U6 k) w = moves (U7 k w)
next_of t p (U7 k n) w = cond (more_counters t k) (moves (U6 (k + 1))) (moves (U8 1))
next_of t p (U8 i) w = cond (w == 0) (moves (U10 i)) (moves (U9 i w))
next_of t p (U9 i h) w = level_done t p i
next_of t p (U10 i) w = cond (w == node_home t p i) (level_done t p i) (waits (U8 i))
next_of t p R1 w = cond (nat_lt w t.shape.reader_threshold) (enters Reader) (moves R2)
next_of t p R2 w = moves R3
next_of t p R3 w =
    cond (nat_lt w t.shape.reader_threshold) (moves R1) (cond (nat_le write_bit w) (waits R3) (moves R4))
next_of t p R4 w = cond (w == 0) (moves R5) (waits R3)
next_of t p R5 w = moves (R6 w)
next_of t p (R6 n) w = moves R3
next_of t p R7 w = rests
next_of t p Writer w = Err NotUnderWay
next_of t p Reader w = Err NotUnderWay
