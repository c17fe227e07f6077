use Rattle.std.proofs.Common.{take, ◌∙◌, rules, tests}
use Rattle.std.proofs.lemmas.Iterator.{YieldsList-from_slice}
use Rattle.std.proofs.lemmas.Iterator.Search.{any_from_yields_List}
use Rattle.lock.proofs.AnyIn.{any_in_front}
use Rattle.lock.specs.Layouts.{is_in}
use Rattle.lock.proofs.occupied.some_in.Goals as goal

pub returns : goal.returns
returns c =
    any_from_yields_List {all = take c.args.n c.args.records.now} is_in _ _ _ c.any.ensures.ran
    (YieldsList-from_slice _ cc) (λ x b q k. search (rules, tests))
    ∙ any_in_front c.args.records.now c.args.n c.requires
