-- What a memory over a lent slice means: the words that its cells spell.
use Rattle.std.specs.Prelude.{◌≡◌, ℕ, refl, ◌*◌, List}
use Rattle.memory.specs.declared.lent.LentMemory.{LentMemory}
use Rattle.memory.specs.Sizes.{home_words}
use Rattle.memory.specs.Words.{Words}
use Rattle.memory.specs.Rest.{Rest}
use Rattle.memory.specs.Layout.{cell_words, spare}

abbrev pub words_of : {C : Type 0} → ℕ → (List C → ℕ → ℕ) → LentMemory C → Words
words_of width word_at m = cell_words width word_at m.cells.now

-- the cells that fill no home or lie beyond 4,096
abbrev pub spare_of : {C : Type 0} → ℕ → LentMemory C → List C
spare_of width m = spare (home_words * width) m.cells.now

-- what else there is of the memory: these cells, and the slice that was lent
abbrev pub rest_of : {C : Type 0} → ℕ → Rest (LentMemory C)
rest_of width = record {
  Stays = λ m n. (spare_of width n ≡ spare_of width m) × (n.cells.ghost_name ≡ m.cells.ghost_name);
  stays = λ m. (refl, refl);
}
