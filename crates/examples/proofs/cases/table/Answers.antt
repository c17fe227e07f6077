use Rattle.std.proofs.Common.{refl}
use Rattle.examples.proofs.cases.table.Goals as goal

pub returns : goal.returns
returns c = record { same = refl; holds = refl }
