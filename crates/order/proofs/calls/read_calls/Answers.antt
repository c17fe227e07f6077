use Rattle.std.proofs.Common.{[], ◌∷◌, None, vec_items, refl, ap, ◌∙◌, arith}
use Rattle.std.proofs.lemmas.Slice.{pushed}
use Rattle.order.specs.Calls.{script}
use Rattle.order.proofs.Scripts.{bad_here, call_more, ends_here}
use Rattle.order.proofs.calls.read_calls.Goals as goal
use Rattle.order.proofs.calls.read_calls.Goals.{else-loop-at-test, then-loop-at-test+in-Ok+in_ok-push-in-Ok+else-at-end-at-gt3}

pub returns-in-Err : goal.returns-in-Err
returns-in-Err c =
    bad_here c.args.order.now c.args.start c.loop-at.at _ c.loop-at.invariant c.in-Err.fault c.loop-at-test.true
    c.in-Err.ensures

pub loop-at-preserved : goal.loop-at-preserved
loop-at-preserved c =
    call_more c.args.order.now c.args.start c.loop-at.at (vec_items c.loop-at.calls) c.loop-at.invariant c.in-Ok.call _
    c.loop-at-test.true c.in-Ok.ensures
    (pushed (c.in-Ok.call ∷ []) refl c.in_ok-push-in-Ok.was c.push.ensures.items)

-- the loop ends where the order has ended, or behind its last call
pub returns : goal.returns
returns c = elim c.loop-at-test.branch [
  | else-loop-at-test w ↦
      ap (λ v. script (vec_items v) None) w.calls-is
      ∙ ends_here c.args.order.now c.args.start c.loop-at.at _ c.loop-at.invariant w.loop-at-test.false
  | then-loop-at-test+in-Ok+in_ok-push-in-Ok+else-at-end-at-gt3 w ↦
      let whole = call_more c.args.order.now c.args.start c.loop-at.at (vec_items c.loop-at.calls) c.loop-at.invariant
      w.in-Ok.call _ w.loop-at-test.true w.in-Ok.ensures
      (pushed (w.in-Ok.call ∷ []) refl w.in_ok-push-in-Ok.was w.push.ensures.items)
      in
      ap (λ v. script (vec_items v) None) w.calls-is
      ∙ ends_here c.args.order.now c.args.start _ _ whole (omega arith)
]
