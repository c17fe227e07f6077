use Rattle.std.proofs.Common.{sym, ◌∙◌, arith}
use Rattle.std.proofs.lemmas.Result.{err_from_is_err_and}
use Rattle.plan.specs.Trees.{tree_of}
use Rattle.places.specs.Standings.{standing_at}
use Rattle.places.specs.declared.place.Place.{Place}
use Rattle.lock.proofs.Tested.{turn_refused, turn_taken}
use Rattle.lock.specs.Turns.{asked_at}
use Rattle.lock.proofs.ask.ask.Goals as goal

pub returns-in_err-place_of : goal.returns-in_err-place_of
returns-in_err-place_of c =
    let rs = c.args.records.now in
    let p = c.args.rank in
    let r = err_from_is_err_and c.from_residual.result c.from_residual.ensures.1 in
    let e =
    turn_refused (tree_of c.args.plan.now) rs p (λ (q : Place). asked_at rs p c.args.to (standing_at q)) _
    (sym c.place_of.ensures.value ∙ c.in_err-place_of.was) in
    grind arith

pub returns-then-ne : goal.returns-then-ne
returns-then-ne c =
    let rs = c.args.records.now in
    let p = c.args.rank in
    let e =
    turn_taken (tree_of c.args.plan.now) rs p (λ (q : Place). asked_at rs p c.args.to (standing_at q)) _
    (sym c.place_of.ensures.value ∙ c.in_ok-place_of.was) in
    grind arith
