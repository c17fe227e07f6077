-- What lies before and behind the eight bytes is as it was, and with it every other word.
use Rattle.memory.proofs.Windows.{other_word}
use Rattle.memory.proofs.cell.U8Cell.store.Goals as goal

pub returns-clause-elsewhere : goal.returns-clause-elsewhere
returns-clause-elsewhere c =
    let e = c.store.ensures in
    other_word c.args.cells.now c.store.new.bytes c.args.place e.before e.behind
