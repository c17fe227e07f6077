use Rattle.std.proofs.Common.{◌+◌, ◌-◌, arith}
use Rattle.plan.proofs.Climbs.{level_up}
use Rattle.plan.proofs.plan.tree.level_in_tree.Goals as goal

pub loop-reached-preserved : goal.loop-reached-preserved
loop-reached-preserved c =
    let up = level_up (6 - c.loop-reached.reached) (6 - (c.loop-reached.reached + 1)) c.args.parents.now
    c.loop-reached.element _ (omega arith) c.parent_in_tree-element.ensures (omega arith) in
    omega arith
