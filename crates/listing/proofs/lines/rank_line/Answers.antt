use Rattle.std.proofs.Common.{rules}
use Rattle.plan.specs.Trees.{tree_of}
use Rattle.listing.specs.Lines.{node_word, queue_word}
use Rattle.listing.proofs.lines.rank_line.Goals as goal

pub returns : goal.returns
returns c =
    let t = tree_of c.args.plan.now in
    let nodes = c.all_texts.ensures (node_word t c.args.rank) (λ n r l k. search rules) in
    let queues = c.all_texts-2.ensures (queue_word t c.args.rank) (λ n r l k. search rules) in
    search rules
