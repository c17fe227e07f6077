use Rattle.std.proofs.Common.{◌≡◌, ◌+◌, ◌*◌, take}
use Rattle.std.specs.List.{flat_map}
use Rattle.order.specs.Bytes.{pasted}
use Rattle.order.specs.Writing.{command}
use Rattle.order.proofs.write.Writer.put_commands.Given as goal

abbrev pub invariant-loop-operand : goal.invariant-loop-operand
invariant-loop-operand l = record {
  bytes : l.self.out.now
      ≡ pasted l.initial.self.out.now l.initial.self.end (flat_map (command l.letter) (take l.operand-index l.operands));
  end : l.self.end ≡ l.initial.self.end + 3 * l.operand-index;
  kept : l.self.out.ghost_name ≡ l.initial.self.out.ghost_name;
}
