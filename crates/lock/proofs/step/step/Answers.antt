use Rattle.std.proofs.Common.{sym, ◌∙◌, arith}
use Rattle.std.proofs.lemmas.Result.{err_from_is_err_and}
use Rattle.plan.specs.Trees.{tree_of}
use Rattle.lock.proofs.OneWord.{one_word}
use Rattle.lock.proofs.Tested.{step_refused}
use Rattle.lock.proofs.step.step.Goals as goal

pub returns-in_err-place : goal.returns-in_err-place
returns-in_err-place g c =
    let t = tree_of c.args.plan.now in
    let ws = g.M.ReadMemory.words c.args.memory.now in
    let r = err_from_is_err_and c.from_residual.result c.from_residual.ensures.1 in
    let e =
    step_refused t ws c.args.records.now c.args.rank _ (grind arith) (sym c.place_of.ensures.value ∙ c.in_err-place.was) in
    let w = one_word t ws c.args.records.now c.args.rank in
    grind arith

pub returns-in_err-next-clause-one_word : goal.returns-in_err-next-clause-one_word
returns-in_err-next-clause-one_word g c =
    one_word (tree_of c.args.plan.now) (g.M.ReadMemory.words c.args.memory.now) c.args.records.now c.args.rank

pub returns-clause-one_word : goal.returns-clause-one_word
returns-clause-one_word g c =
    one_word (tree_of c.args.plan.now) (g.M.ReadMemory.words c.args.memory.now) c.args.records.now c.args.rank
