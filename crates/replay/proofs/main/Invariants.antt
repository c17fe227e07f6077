use Rattle.std.proofs.Common.{length}
use Rattle.replay.proofs.main.Given as goal

abbrev pub decreases-loop-length : goal.decreases-loop-length
decreases-loop-length l = length l.rest
