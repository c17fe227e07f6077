use Rattle.std.proofs.Common.{rules, arith, refl, ◌≡◌, subst, length, add-one}
use Rattle.std.proofs.iter.Yields.{nat_range_steps}
use Rattle.std.proofs.lemmas.Fn.{fold_over}
use Rattle.std.proofs.lemmas.Iterator.{YieldsList-from_range}
use Rattle.std.proofs.lemmas.List.{length_push}
use Rattle.std.proofs.lemmas.List.FromFn.{length-range_with_len}
use Rattle.plan.specs.Trees.{above}
use Rattle.plan.proofs.Climbs.{above_more}
use Rattle.plan.proofs.plan.tree.climb.Goals as goal

pub returns : goal.returns
returns c =
    subst (λ n. c.fold.result ≡ above c.args.parents.now n c.args.k) (length-range_with_len 0 c.args.d)
    (fold_over nat_range_steps (λ x. x) _ (λ ys a. a ≡ above c.args.parents.now (length ys) c.args.k) _
    (λ ys a x b f' j k.
    let more = above_more c.args.parents.now (length ys) c.args.k in
    rw (length_push ys x, add-one) (search rules))
    (record { start = 0; end = c.args.d }) _ _ _ (YieldsList-from_range 0 c.args.d c.args.d refl (omega arith)).runs refl c.fold.ensures.ran)
