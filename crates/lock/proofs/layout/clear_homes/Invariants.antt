use Rattle.std.proofs.Common.{◌≡◌, ◌+◌, ◌≤◌}
use Rattle.lock.specs.Layouts.{cleared}
use Rattle.lock.proofs.layout.clear_homes.Given as goal

abbrev pub invariant-loop-home : goal.invariant-loop-home
invariant-loop-home g l = record {
  in_range : l.home ≤ l.last + 1;
  so_far : g.M.ReadMemory.words l.memory ≡ cleared (g.M.ReadMemory.words l.initial.memory) l.home;
}
