use Rattle.std.proofs.Common.{ℕ, Bool, List, rules, ◌∙◌}
use Rattle.std.proofs.lemmas.Iterator.{YieldsList-from_slice}
use Rattle.std.proofs.lemmas.Iterator.Search.{all_from_yields_List}
use Rattle.plan.specs.Shapes.{seat_ok}
use Rattle.plan.proofs.Every.{every_item}
use Rattle.plan.proofs.plan.make.Parts.ranks_fit.Goals as goal

pub returns : goal.returns
returns c =
    let fits : ℕ → Bool = seat_ok c.args.self.now.shape.now c.args.self.now.parents.now in
    let seats : List ℕ = c.args.self.now.rank_elements.now in
    all_from_yields_List fits _ _ _ c.all.ensures.ran (YieldsList-from_slice seats cc) (λ x b q k. search rules)
    ∙ every_item fits seats
