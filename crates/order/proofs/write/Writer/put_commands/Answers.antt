use Rattle.std.proofs.Common.{◌++◌, length, take, ap, ◌∙◌, arith}
use Rattle.std.proofs.lemmas.List.{length-take-le}
use Rattle.std.specs.List.{flat_map}
use Rattle.order.specs.Bytes.{pasted}
use Rattle.order.specs.Writing.{command}
use Rattle.order.proofs.Overlays.{commands_more, length_commands, pasted_more}
use Rattle.order.proofs.write.Writer.put_commands.Goals as goal

pub loop-operand-preserved : goal.loop-operand-preserved
loop-operand-preserved c =
    let j = c.loop-operand.operand-index in
    let ops = c.args.operands.now in
    let was = c.loop-operand.invariant in
    let three = ap length c.pair_command.ensures in
    let n = length_commands c.args.letter (take j ops) in
    let m = length-take-le j ops (omega arith) in
    record {
      bytes =
          pasted_more c.args.self.now.out.now c.loop-operand.self.out.now c.put.new.self.out.now
          (flat_map (command c.args.letter) (take j ops)) c.pair_command.result c.args.self.now.end
          c.loop-operand.self.end (omega arith) was.bytes (omega (arith, was.end)) c.put.ensures.bytes
          ∙ ap (λ x. pasted c.args.self.now.out.now c.args.self.now.end (flat_map (command c.args.letter) (take j ops) ++ x)) c.pair_command.ensures
          ∙ ap (pasted c.args.self.now.out.now c.args.self.now.end) (commands_more c.args.letter j ops c.loop-operand-test.true);
      end = omega (arith, was.end, c.put.ensures.end);
      kept = cc;
    }
