use Rattle.std.proofs.Common.{ℕ, Bool, length, arith, rules, refl, ◌∙◌}
use Rattle.std.proofs.lemmas.Iterator.{YieldsList-from_range}
use Rattle.std.proofs.lemmas.Iterator.Search.{all_from_yields_List}
use Rattle.plan.specs.Shapes.{parent_ok}
use Rattle.plan.proofs.Every.{every_number}
use Rattle.plan.proofs.plan.make.Parts.parents_fit.Goals as goal

pub returns : goal.returns
returns c =
    let fits : ℕ → Bool = parent_ok c.args.self.now.shape.now c.args.self.now.parents.now in
    let n : ℕ = length c.args.self.now.parents.now in
    all_from_yields_List fits _ _ _ c.all.ensures.ran (YieldsList-from_range 0 n n refl (omega arith)) (λ x b q k. search rules)
    ∙ every_number fits n
