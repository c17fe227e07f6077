-- The plan's part of an order, as it is written.
use Rattle.std.specs.Prelude.{◌≡◌, ℕ, ◌+◌, ◌/◌, ◌%◌, ◌≤◌, Bool, cond, List, [], ◌∷◌, ◌++◌, length, Ok, Err, Result, nat_le}
use Rattle.std.specs.List.{flat_map}
use Rattle.refusal.specs.declared.Refusal.{Refusal}
use Rattle.refusal.specs.declared.Refusal.TheVariants.{BufferTooSmall}
use Rattle.plan.specs.Trees.{Tree}
use Rattle.plan.specs.declared.shape.Shape.{Shape}
use Rattle.order.specs.Bytes.{overlaid}
use Rattle.order.specs.Commands.{letter_E, letter_G, letter_H, letter_K}
use Rattle.order.specs.Reading.{reading}

-- H and its operands
abbrev pub head_bytes : Shape → List ℕ
head_bytes s =
    letter_H
    ∷ s.ranks / 256 % 256 ∷ s.ranks % 256
    ∷ s.elements / 256 % 256 ∷ s.elements % 256
    ∷ s.levels
    ∷ s.spacing / 256 % 256 ∷ s.spacing % 256
    ∷ s.reader_threshold / 16777216 % 256 ∷ s.reader_threshold / 65536 % 256
    ∷ s.reader_threshold / 256 % 256 ∷ s.reader_threshold % 256
    ∷ s.writer_threshold / 256 % 256 ∷ s.writer_threshold % 256
    ∷ s.level2_threshold / 256 % 256 ∷ s.level2_threshold % 256
    ∷ s.level3_threshold / 256 % 256 ∷ s.level3_threshold % 256
    ∷ s.level4_threshold / 256 % 256 ∷ s.level4_threshold % 256
    ∷ []

-- a letter and its operand
abbrev pub command : ℕ → ℕ → List ℕ
command c n = c ∷ n / 256 % 256 ∷ n % 256 ∷ []

-- H, an E for each element above 1, a K for each rank, G
abbrev pub plan_bytes : Tree → List ℕ
plan_bytes t =
    head_bytes t.shape
    ++ (flat_map (command letter_E) t.parents ++ (flat_map (command letter_K) t.seats ++ (letter_G ∷ [])))

abbrev pub fits : Tree → List ℕ → Bool
fits t out = nat_le (length (plan_bytes t)) (length out)

-- what the writer answers, and what the buffer then holds
abbrev pub written_length : Tree → List ℕ → Result ℕ Refusal
written_length t out = cond (fits t out) (Ok (length (plan_bytes t))) (Err BufferTooSmall)

abbrev pub written : Tree → List ℕ → List ℕ
written t out = cond (fits t out) (overlaid (plan_bytes t) out) out

-- what is written of a plan, with anything behind it that the length of an order allows, is read in as that plan
abbrev pub ReadsBack : Tree → Type 0
ReadsBack t =
    (rest : List ℕ) → length (plan_bytes t) + length rest ≤ 65535
    → reading (plan_bytes t ++ rest) ≡ Ok (record { plan = t; end = length (plan_bytes t) })
