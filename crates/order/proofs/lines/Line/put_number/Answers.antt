use Rattle.std.proofs.Common.{length, ap, arith, length-drop}
use Rattle.std.proofs.lemmas.Fmt.{length-decimal-le}
use Rattle.order.proofs.lines.Line.put_number.Goals as goal

pub write_digits-self-inside-requires : goal.write_digits-self-inside-requires
write_digits-self-inside-requires c =
    let few = length-decimal-le 5 c.into.result (omega arith) (omega arith) (omega arith) in
    let was = simp length-drop at (ap length c.self.view_is) in
    (omega arith, omega arith)

pub returns-clause-short : goal.returns-clause-short
returns-clause-short c =
    let few = length-decimal-le 5 c.into.result (omega arith) (omega arith) (omega arith) in
    let was = simp length-drop at (ap length c.self.view_is) in
    simp length-drop (omega arith)
