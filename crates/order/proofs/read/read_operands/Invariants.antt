use Rattle.std.proofs.Common.{vec_items}
use Rattle.order.proofs.Runs.{ReadRun}
use Rattle.order.proofs.read.read_operands.Given as goal

abbrev pub invariant-loop : goal.invariant-loop
invariant-loop l =
    ReadRun l.initial.reader.order.now l.letter l.initial.reader.at l.counter (vec_items l.list) l.own.order.now l.own.at
