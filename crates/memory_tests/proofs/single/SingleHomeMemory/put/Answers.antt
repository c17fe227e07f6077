-- A put writes one element of the array, which is one word of the home.
use Rattle.std.proofs.Common.{arith, rules}
use Rattle.memory.proofs.Rows.{row_list_set}
use Rattle.memory_tests.proofs.single.SingleHomeMemory.put.Goals as goal

pub returns : goal.returns
returns c =
    let i = c.in_ok-at.ensures.inside in
    let t = row_list_set 1 c.args.self.now.words c.args.home c.args.offset c.args.word (omega arith) (omega arith) i.1 (omega arith) in
    search rules
