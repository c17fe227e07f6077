use Rattle.std.proofs.Common.{◌≡◌, sym, ◌∙◌, arith, rules}
use Rattle.std.proofs.lemmas.Result.{err_from_is_err_and}
use Rattle.plan.specs.Trees.{tree_of}
use Rattle.places.specs.Table.{access_of}
use Rattle.lock.specs.Steps.{row_words}
use Rattle.lock.proofs.Refused.{follow_refused, memory_refused, when_refused}
use Rattle.lock.proofs.step.row.Goals as goal

pub returns-in_err-old-clause-kept : goal.returns-in_err-old-clause-kept
returns-in_err-old-clause-kept g c =
    let a = c.in_ok-access.access in
    let r = err_from_is_err_and c.from_residual-in_err-old.result c.from_residual-in_err-old.ensures.1 in
    rw r.1
    (c.perform.ensures.after
    ∙ memory_refused (g.M.ReadMemory.words c.args.memory.now) a.home a.offset a.operation
    c.in_err-old.field-0.0 (grind arith))

pub returns-clause-kept : goal.returns-clause-kept
returns-clause-kept g c =
    let t = tree_of c.args.plan.now in
    let ws = g.M.ReadMemory.words c.args.memory.now in
    let after : g.M.ReadMemory.words c.perform.new.memory
    ≡ row_words ws (access_of t c.args.rank c.args.place) = search rules in
    when_refused c.follow.result _
    (λ e r. after
    ∙ follow_refused t ws c.args.rank c.args.place c.in_ok-old.old e (sym c.follow.ensures ∙ r))
