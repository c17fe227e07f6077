-- A step changes at most the one word that touch names, and at most the one record of its rank.
use Rattle.std.specs.Prelude.{◌≡◌, ℕ, suc, List, length, Ok, Err, Result, ◌≢◌, slice_index_or}
use Rattle.refusal.specs.declared.Refusal.{Refusal}
use Rattle.memory.specs.Operations.{Local}
use Rattle.memory.specs.Words.{Words}
use Rattle.plan.specs.Trees.{Tree}
use Rattle.places.specs.Records.{recorded}
use Rattle.places.specs.Touches.{touched}
use Rattle.places.specs.declared.place.Place.TheVariants.{Idle}
use Rattle.places.specs.declared.record.Record.{Record}
use Rattle.places.specs.declared.touch.Touch.{Touch}
use Rattle.lock.specs.Steps.{stepped}

-- a refused touch: no word changes; else at most the one at its home and offset
abbrev pub TouchesOnly : Words → Words → Result Touch Refusal → Type 0
TouchesOnly before after (Err e) = after ≡ before
TouchesOnly before after (Ok a) = Local before after a.home a.offset

-- the records are as many as before, and those of other ranks are as they were
pub record OthersKept (before after : List Record) (p : ℕ) : Type 0 where
  pub many : length after ≡ length before
  pub same : (j : ℕ) → (suc j ≢ p) → slice_index_or after j (recorded Idle) ≡ slice_index_or before j (recorded Idle)

pub record OneWord (t : Tree) (ws : Words) (rs : List Record) (p : ℕ) : Type 0 where
  pub words : TouchesOnly ws (stepped t ws rs p).words (touched t rs p)
  pub records : OthersKept rs (stepped t ws rs p).records p
