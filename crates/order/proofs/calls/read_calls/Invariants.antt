use Rattle.std.proofs.Common.{◌≡◌, vec_items}
use Rattle.order.specs.Calls.{script_at}
use Rattle.order.proofs.Scripts.{prefixed}
use Rattle.order.proofs.calls.read_calls.Given as goal

abbrev pub invariant-loop-at : goal.invariant-loop-at
invariant-loop-at l = prefixed (vec_items l.calls) (script_at l.order l.at) ≡ script_at l.order l.start
