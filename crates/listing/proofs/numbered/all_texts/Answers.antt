use Rattle.std.proofs.Common.{◌≡◌, ◌-◌, string_bytes, subst, arith, rules}
use Rattle.listing.proofs.Texts.{texts_more}
use Rattle.listing.specs.Lines.{texts}
use Rattle.listing.proofs.numbered.all_texts.Goals as goal

pub loop-n-preserved : goal.loop-n-preserved
loop-n-preserved g c says h =
    let so_far = c.loop-n.invariant says h in
    let one = h c.loop-n.n _ (omega arith) c.text.ensures in
    let more = texts_more says c.args.first c.loop-n.n (omega arith) in
    search rules

pub returns : goal.returns
returns g c says h =
    let n : c.loop-n.n - c.args.first ≡ c.args.count = omega arith in
    subst (λ k. string_bytes c.loop-n.all ≡ texts says c.args.first k) n (c.loop-n.invariant says h)
