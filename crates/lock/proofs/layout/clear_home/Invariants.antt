use Rattle.std.proofs.Common.{◌≡◌}
use Rattle.lock.specs.Layouts.{home_cleared}
use Rattle.lock.proofs.layout.clear_home.Given as goal

abbrev pub invariant-loop-offset : goal.invariant-loop-offset
invariant-loop-offset g l =
    g.M.ReadMemory.words l.memory ≡ home_cleared (g.M.ReadMemory.words l.initial.memory) l.home l.offset
