use Rattle.std.proofs.Common.{rules}
use Rattle.plan.specs.Trees.{tree_of}
use Rattle.listing.specs.Lines.{counter_line, element_line, rank_line}
use Rattle.listing.proofs.report.list_plan.Goals as goal

pub returns : goal.returns
returns c =
    let t = tree_of c.args.plan.now in
    let elements = c.all_texts.ensures (element_line t) (λ n r l k. search rules) in
    let counters = c.all_texts-2.ensures (counter_line t) (λ n r l k. search rules) in
    let ranks = c.all_texts-3.ensures (rank_line t) (λ n r l k. search rules) in
    search rules
