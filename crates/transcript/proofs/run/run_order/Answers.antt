use Rattle.std.proofs.Common.{◌≡◌, true, is_some, sym, refl, ap, ◌∙◌, arith}
use Rattle.refusal.specs.Numbers.{number_of}
use Rattle.order.specs.Whole.{whole_of}
use Rattle.order.proofs.Offsets.{fault_near}
use Rattle.transcript.proofs.Told.{lines_here, near_end}
use Rattle.transcript.proofs.run.run_order.Goals as goal

pub tell-requires : goal.tell-requires
tell-requires c = near_end c.args.order.now (whole_of c.in-Ok.field-0) _ c.in-Ok.ensures refl

pub tell-requires-in-Err-2 : goal.tell-requires-in-Err-2
tell-requires-in-Err-2 c =
    let numbered : is_some (number_of c.in-Err.fault.refusal) ≡ true =
    ap is_some (sym c.number.ensures) ∙ c.if-is_none.ensures
    in
    omega (arith, fault_near c.args.order.now c.in-Err.fault (c.in-Err.ensures numbered))

pub returns-in_ok-tell-in-Ok-clause-value : goal.returns-in_ok-tell-in-Ok-clause-value
returns-in_ok-tell-in-Ok-clause-value c =
    let e = c.in_ok-run_job-in-Ok.ensures in
    lines_here c.args.order.now c.args.window.now c.args.records.now c.args.answers.now
    c.run_job.new.answers (whole_of c.in-Ok.field-0) _ _ c.in-Ok.ensures c.new-memory.ensures.words
    c.deref.ensures.value e.value _ e.table (rw c.deref-in-Ok.ensures.value at c.in_ok-tell-in-Ok.ensures)
