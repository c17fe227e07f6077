use Rattle.std.proofs.Common.{[], ◌∷◌, length, Ok, ap, rules, ◌∙◌, arith}
use Rattle.std.specs.List.{flat_map}
use Rattle.plan.specs.Trees.{tree_of}
use Rattle.order.specs.Commands.{letter_E, letter_G, letter_K}
use Rattle.order.specs.Writing.{command, head_bytes}
use Rattle.order.proofs.Overlays.{four_parts, length_commands}
use Rattle.order.proofs.RoundTrip.{length_plan, reads_back}
use Rattle.order.proofs.Written.{roomy, tight}
use Rattle.order.proofs.write.write_plan.Goals as goal

pub returns-then-out-needed : goal.returns-then-out-needed
returns-then-out-needed c =
    let p = c.args.plan.now in
    let ps = ap length c.parents-parents.ensures.value in
    let es = ap length c.rank_elements-ranks.ensures.value in
    let none = tight (tree_of p) c.args.out.now (omega arith) in
    record {
      value = rw none;
      buffer = rw none;
      back = reads_back (tree_of p) p.sized p.bounded p.rooted p.hung;
    }

pub returns : goal.returns
returns c =
    let p = c.args.plan.now in
    let t = tree_of p in
    let ps = ap length c.parents-parents.ensures.value in
    let es = ap length c.rank_elements-ranks.ensures.value in
    let some = roomy t c.args.out.now (omega arith) in
    let twenty = ap length c.head.ensures in
    let head_is = c.head.ensures ∙ ap head_bytes c.shape.ensures in
    let n = length_commands letter_E t.parents in
    let m = length_commands letter_K t.seats in
    let whole =
    four_parts c.args.out.now c.put.new.self.out.now c.put_commands.new.self.out.now
    c.put_commands-2.new.self.out.now c.put-2.new.self.out.now (head_bytes t.shape)
    (flat_map (command letter_E) t.parents) (flat_map (command letter_K) t.seats) (letter_G ∷ [])
    c.put.new.self.end c.put_commands.new.self.end c.put_commands-2.new.self.end
    (rw head_is at c.put.ensures.bytes) (omega arith)
    (rw c.parents-parents.ensures.value at c.put_commands.ensures.bytes) (omega (arith, n))
    (rw c.rank_elements-ranks.ensures.value at c.put_commands-2.ensures.bytes) (omega (arith, m))
    c.put-2.ensures.bytes
    in
    record {
      value = rw some (ap Ok (omega (arith, length_plan t, n, m)));
      buffer = rw some (search rules ∙ whole);
      back = reads_back (tree_of p) p.sized p.bounded p.rooted p.hung;
    }
