-- What a joined memory means: the words of two memories, one after the other.
use Rattle.std.specs.Prelude.{◌≡◌, ℕ, ◌-◌, ◌<◌, ◌≤◌, Ok, Err, Result, refl}
use Rattle.refusal.specs.declared.Refusal.{Refusal}
use Rattle.refusal.specs.declared.Refusal.TheVariants.{UnknownHome}
use Rattle.memory.specs.declared.joined.JoinedMemory.{JoinedMemory}
use Rattle.memory.specs.declared.joined.Side.{Side}
use Rattle.memory.specs.declared.joined.Side.TheVariants.{First, Second}
use Rattle.memory.specs.Sizes.{max_homes}
use Rattle.memory.specs.Words.{Words}
use Rattle.memory.specs.Rest.{Rest}
use Rattle.memory.specs.Layout.{joined_words, spare_words}

-- A home lies on this side, or is refused, if the first memory has so many homes.
abbrev pub Lies : ℕ → ℕ → Result Side Refusal → Type 0
Lies border home (Ok (First near)) = (near ≡ home) × (home ≤ max_homes) × (home ≤ border)
Lies border home (Ok (Second far)) = (far ≡ home - border) × (home ≤ max_homes) × (border < home)
Lies border home (Err refusal) = (refusal ≡ UnknownHome) × (max_homes < home)

abbrev pub words_of : {P Q : Type 0} → (P → Words) → (Q → Words) → JoinedMemory P Q → Words
words_of first second m = joined_words (first m.first) (second m.second)

-- the words of the second memory's homes that lie beyond 4,096
abbrev pub spare_of : {P Q : Type 0} → (P → Words) → (Q → Words) → JoinedMemory P Q → ℕ → ℕ → ℕ
spare_of first second m = spare_words (first m.first) (second m.second)

-- what else there is of it: these words, and what else there is of either memory
abbrev pub rest_of : {P Q : Type 0} → (P → Words) → (Q → Words) → Rest P → Rest Q → Rest (JoinedMemory P Q)
rest_of first second p q = record {
  Stays = λ m n. (spare_of first second n ≡ spare_of first second m) × p.Stays m.first n.first × q.Stays m.second n.second;
  stays = λ m. (refl, p.stays m.first, q.stays m.second);
}
