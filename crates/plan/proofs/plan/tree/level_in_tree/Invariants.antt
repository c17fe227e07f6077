use Rattle.std.proofs.Common.{◌≡◌, ◌+◌, ◌-◌}
use Rattle.plan.specs.Shapes.{level, level_in}
use Rattle.plan.proofs.plan.tree.level_in_tree.Given as goal

abbrev pub invariant-loop-reached : goal.invariant-loop-reached
invariant-loop-reached l = level_in (6 - l.reached) l.parents l.element + l.reached ≡ level l.parents l.fn.k + 1
