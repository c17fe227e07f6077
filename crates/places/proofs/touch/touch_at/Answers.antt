use Rattle.std.proofs.Common.{rules}
use Rattle.places.proofs.touch.touch_at.Goals as goal

pub returns : goal.returns
returns c = search rules
