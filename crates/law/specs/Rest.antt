-- A lock at rest, by its words: no queue has a tail, and of each counter as many went as came.
use Rattle.std.specs.Prelude.{◌≡◌, ℕ, ◌<◌}
use Rattle.memory.specs.Sizes.{arrive_offset, depart_offset, tail_offset}
use Rattle.memory.specs.Words.{Words}
use Rattle.plan.specs.Trees.{Tree, counter_home, counters, element_home}
use Rattle.queues.specs.Machine.{On}

pub record IsAtRest (t : Tree) (ws : Words) : Type 0 where
  pub tails : (k : ℕ) → On t.shape.elements k → ws.word (element_home t k) tail_offset ≡ 0
  pub counts : (c : ℕ) → c < counters t
      → ws.word (counter_home t c) arrive_offset ≡ ws.word (counter_home t c) depart_offset
