use Rattle.std.proofs.Common.{Err, refl, sym, ◌∙◌, arith}
use Rattle.std.proofs.lemmas.Result.{err_from_is_err_and}
use Rattle.plan.specs.Trees.{tree_of}
use Rattle.places.proofs.PlaceAt.{refused_at}
use Rattle.places.specs.Touches.{touched_from}
use Rattle.places.proofs.touch.next_touch.Goals as goal

pub returns-in_err-place : goal.returns-in_err-place
returns-in_err-place c =
    let t = tree_of c.args.plan.now in
    let r = err_from_is_err_and c.from_residual.result c.from_residual.ensures.1 in
    let e =
    refused_at t c.args.records.now c.args.rank (touched_from t c.args.rank) Err _ refl
    (sym c.place_of.ensures.value ∙ c.in_err-place.was) in
    grind arith
