-- A put writes one word of one home, before the spare cells.
use Rattle.std.proofs.Common.{length, arith, rules}
use Rattle.memory.proofs.Cells.{within, cells_set, cells_spare}
use Rattle.memory.proofs.lent.LentMemoryMemory.put.Goals as goal

pub store-requires : goal.store-requires
store-requires g c =
    let i = c.in_ok-at.ensures.inside in
    let n = c.count.ensures.value in
    within g.C.Cell.WIDTH (length c.args.self.now.cells.now) c.in_ok-at.at (omega arith)

pub returns-clause-after : goal.returns-clause-after
returns-clause-after g c =
    let i = c.in_ok-at.ensures.inside in
    let n = c.count.ensures.value in
    let e = c.store.ensures in
    let t = cells_set g.C.Cell.WIDTH g.C.Cell.word_at c.args.self.now.cells.now c.store.new.cells
    c.args.home c.args.offset c.in_ok-at.at c.args.word
    i.0 (omega arith) i.2 i.3 c.store.auto.cells e.here e.elsewhere in
    search rules

pub returns-clause-rest : goal.returns-clause-rest
returns-clause-rest g c =
    let i = c.in_ok-at.ensures.inside in
    let n = c.count.ensures.value in
    let t = cells_spare g.C.Cell.WIDTH c.in_ok-at.at c.args.self.now.cells.now c.store.new.cells
    (omega arith) c.store.auto.cells c.store.ensures.behind in
    search rules
