-- What a rank's next step will touch: the operation as a number, the home and the offset.
use Rattle.std.specs.Prelude.{ℕ, ◌-◌, cond, List, length, Some, None, Ok, Err, Option, Result, nat_le, slice_index_or}
use Rattle.refusal.specs.declared.Refusal.{Refusal}
use Rattle.refusal.specs.declared.Refusal.TheVariants.{Spoiled, TooShort, UnknownRank}
use Rattle.memory.specs.declared.operations.Operation.{Operation}
use Rattle.memory.specs.declared.operations.Operation.TheVariants.{Get, Put, Swap, Add, Cas}
use Rattle.plan.specs.Trees.{Tree, has_rank}
use Rattle.places.specs.Records.{parsed, recorded}
use Rattle.places.specs.Table.{access_of}
use Rattle.places.specs.declared.access.Access.{Access}
use Rattle.places.specs.declared.place.Place.{Place}
use Rattle.places.specs.declared.place.Place.TheVariants.{Idle}
use Rattle.places.specs.declared.record.Record.{Record}
use Rattle.places.specs.declared.touch.Touch.{Touch}

-- get 1, put 2, swap 3, add 4, cas 5
abbrev pub kind : Operation → ℕ
kind Get = 1
kind (Put w) = 2
kind (Swap w) = 3
kind (Add w) = 4
kind (Cas v w) = 5

abbrev pub touch : ℕ → ℕ → ℕ → Touch
touch k h o = record { operation = k; home = h; offset = o }

-- an access as a touch, and three zeros for none
abbrev pub touching : Option Access → Touch
touching None = touch 0 0 0
touching (Some a) = touch (kind a.operation) a.home a.offset

abbrev pub touched_from : Tree → ℕ → Option Place → Result Touch Refusal
touched_from t p None = Err Spoiled
touched_from t p (Some q) = Ok (touching (access_of t p q))

-- the touch of rank p's next step, or the refusal: too few records, no such rank, a spoiled record
abbrev pub touched : Tree → List Record → ℕ → Result Touch Refusal
touched t rs p =
    cond (nat_le t.shape.ranks (length rs))
    (cond (has_rank t p) (touched_from t p (parsed t p (slice_index_or rs (p - 1) (recorded Idle)))) (Err UnknownRank))
    (Err TooShort)
