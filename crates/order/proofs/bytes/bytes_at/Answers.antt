use Rattle.std.proofs.Common.{refl, ap, ◌∙◌, rules, arith}
use Rattle.order.proofs.Chunks.{bytes_made, bytes_taken, rest_is}
use Rattle.order.proofs.bytes.bytes_at.Goals as goal

pub returns-in-Some : goal.returns-in-Some
returns-in-Some g c =
    let rest = c.unwrap_or-rest.result.now in
    let taken = c.in-Some.ensures.cases in
    taken.0
    ∙ bytes_taken rest c.args.order.now c.args.at g.row.N
    (ap (λ x. x.now) c.unwrap_or-rest.ensures ∙ rest_is c.args.order.now c.args.at c.get.result _ refl c.get.ensures.lookup)
    (omega (arith, taken.2))

pub returns-in-None : goal.returns-in-None
returns-in-None g c =
    let rest = c.unwrap_or-rest.result.now in
    bytes_made _ _ rest (λ k y q h. search rules) c.from_fn.result c.args.order.now c.args.at g.row.N
    (ap (λ x. x.now) c.unwrap_or-rest.ensures ∙ rest_is c.args.order.now c.args.at c.get.result _ refl c.get.ensures.lookup)
    c.from_fn.ensures.items
