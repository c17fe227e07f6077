use Rattle.std.proofs.Common.{◌≡◌, ◌-◌, set, sym, ap, ◌∙◌, arith}
use Rattle.std.proofs.lemmas.Result.{err_from_is_err_and}
use Rattle.plan.specs.Trees.{tree_of}
use Rattle.places.specs.Records.{recorded}
use Rattle.places.specs.Standings.{standing_at}
use Rattle.places.specs.declared.place.Place.{Place}
use Rattle.places.specs.declared.place.Place.TheVariants.{R7}
use Rattle.places.specs.declared.record.Record.{Record}
use Rattle.lock.proofs.Tested.{turn_refused, turn_taken}
use Rattle.lock.specs.Turns.{Turn, exit_of, left_at}
use Rattle.lock.proofs.leave.leave.Goals.{in-Writing, in-Reading}
use Rattle.lock.proofs.leave.leave.Goals as goal

pub returns-in_err-place : goal.returns-in_err-place
returns-in_err-place c =
    let t = tree_of c.args.plan.now in
    let rs = c.args.records.now in
    let p = c.args.rank in
    let r = err_from_is_err_and c.from_residual.result c.from_residual.ensures.1 in
    let e =
    turn_refused t rs p (λ (q : Place). left_at t rs p (standing_at q)) _
    (sym c.place_of.ensures.value ∙ c.in_err-place.was) in
    grind arith

pub returns-in-Resting : goal.returns-in-Resting
returns-in-Resting c =
    let t = tree_of c.args.plan.now in
    let rs = c.args.records.now in
    let p = c.args.rank in
    let e =
    turn_taken t rs p (λ (q : Place). left_at t rs p (standing_at q)) _
    (sym c.place_of.ensures.value ∙ c.in_ok-place.was) in
    grind arith

pub returns : goal.returns
returns c =
    let t = tree_of c.args.plan.now in
    let rs = c.args.records.now in
    let p = c.args.rank in
    let e =
    turn_taken t rs p (λ (q : Place). left_at t rs p (standing_at q)) c.in_ok-place.place
    (sym c.place_of.ensures.value ∙ c.in_ok-place.was) in
    elim c.match-standing.branch [
      | in-Writing w ↦
          let f = e ∙ ap (left_at t rs p) (sym w.in-Writing.ensures) in
          let to : c.match-standing.to ≡ exit_of t p = cc in
          record {
            value = sym (ap (λ (x : Turn). x.answer) f);
            records =
                ap (λ (r : Record). set rs (p - 1) r) (c.record_of.ensures.value ∙ ap recorded to)
                ∙ sym (ap (λ (x : Turn). x.records) f);
          }
      | in-Reading w ↦
          let f = e ∙ ap (left_at t rs p) (sym w.in-Reading.ensures) in
          let to : c.match-standing.to ≡ R7 = cc in
          record {
            value = sym (ap (λ (x : Turn). x.answer) f);
            records =
                ap (λ (r : Record). set rs (p - 1) r) (c.record_of.ensures.value ∙ ap recorded to)
                ∙ sym (ap (λ (x : Turn). x.records) f);
          }
    ]
