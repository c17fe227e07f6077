use Rattle.std.proofs.Common.{◌≡◌, ◌+◌, ◌*◌, Err, sym}
use Rattle.std.proofs.lemmas.Result.{err_from_is_err_and}
use Rattle.order.specs.Commands.{checked}
use Rattle.order.proofs.Runs.{run_bad}
use Rattle.order.proofs.read.read_operands.Goals as goal

pub returns-in_err-check-clause-value : goal.returns-in_err-check-clause-value
returns-in_err-check-clause-value c =
    let p = err_from_is_err_and c.from_residual.result c.from_residual.ensures.1 in
    let read = c.loop.invariant in
    let bs = c.args.reader.now.order.now in
    let at = c.args.reader.now.at in
    let bad : Err c.in_err-check.field-0.0 ≡ checked bs (at + 3 * c.loop.counter) c.args.letter =
    rw (read.same, read.place_is) at c.in_err-check.ensures.value
    in
    rw (p.1, p.2) (λ _. run_bad bs c.args.letter at c.args.count c.loop.counter _ c.loop-test.true read.good (sym bad))
