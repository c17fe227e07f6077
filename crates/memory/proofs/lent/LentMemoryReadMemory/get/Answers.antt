-- The cells of a word of one of the homes are cells of the slice.
use Rattle.std.proofs.Common.{length, arith}
use Rattle.memory.proofs.Cells.{within}
use Rattle.memory.proofs.lent.LentMemoryReadMemory.get.Goals as goal

pub load-requires : goal.load-requires
load-requires g c =
    let i = c.in_ok-at.ensures.inside in
    let n = c.count.ensures.value in
    within g.C.Cell.WIDTH (length c.args.self.now.cells.now) c.in_ok-at.at (omega arith)
