use Rattle.std.proofs.Common.{◌≡◌, ℕ, Ok, sym, ap, ◌∙◌, rules, arith}
use Rattle.plan.specs.Trees.{planned, tree, tree_of}
use Rattle.order.proofs.ReadParts.{reading_by}
use Rattle.order.proofs.read.read_plan.Goals as goal

pub returns-clause-value : goal.returns-clause-value
returns-clause-value c =
    let bs = c.args.order.now in
    let s = c.read_shape-shape.result in
    let ps = c.in_ok-parents.parents.items in
    let es = c.in_ok-rank_elements.rank_elements.items in
    let t = tree_of c.in_ok-plan.plan in
    let same = c.read_operands.ensures.order in
    let parents = c.in_ok-parents.ensures.value in
    let ranks = rw (same, parents.2) at c.in_ok-rank_elements.ensures.value in
    let go = rw (c.read_operands-2.ensures.order, same, ranks.2) at c.in_ok-check.ensures.value in
    let made : Ok t ≡ planned (tree s ps es) = search rules in
    reading_by bs s c.saturating_sub.result ps es t c.read_shape-shape.ensures c.saturating_sub.ensures parents.1 ranks.1
    (omega arith) (sym c.in_ok-check_command.ensures) parents.0 ranks.0 (sym go) made
    ∙ ap (λ (x : ℕ). Ok (record { plan = t; end = x })) (omega (arith, ranks.2))
