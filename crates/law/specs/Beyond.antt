-- What lies beyond a lock: the homes behind its own, and the records behind those of its ranks.
use Rattle.std.specs.Prelude.{◌≡◌, ℕ, ◌<◌, List, drop}
use Rattle.memory.specs.Words.{Words, got}
use Rattle.plan.specs.Trees.{Tree, homes}
use Rattle.places.specs.declared.record.Record.{Record}
use Rattle.law.specs.Calls.{State}

-- a get at every home beyond answers as before
abbrev pub WordsKept : Tree → Words → Words → Type 0
WordsKept t before after = (h o : ℕ) → homes t < h → got after h o ≡ got before h o

abbrev pub RecordsKept : Tree → List Record → List Record → Type 0
RecordsKept t before after = drop t.shape.ranks after ≡ drop t.shape.ranks before

-- both are as they were
pub record BeyondKept (t : Tree) (before after : State) : Type 0 where
  pub words : WordsKept t before.words after.words
  pub records : RecordsKept t before.records after.records
