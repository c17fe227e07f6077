use Rattle.std.proofs.Common.{◌≡◌, ◌++◌, take, drop}
use Rattle.plan.specs.Trees.{tree_of}
use Rattle.law.specs.Calls.{answers, ran, state}
use Rattle.job.proofs.run.run_calls.Given as goal

abbrev pub invariant-loop-i : goal.invariant-loop-i
invariant-loop-i g l =
    (ran (tree_of l.plan) (state (g.M.ReadMemory.words l.memory) l.records) (drop l.i l.calls)
    ≡ ran (tree_of l.plan) (state (g.M.ReadMemory.words l.initial.memory) l.initial.records) l.calls)
    × (take l.i l.answers
    ++ answers (tree_of l.plan) (state (g.M.ReadMemory.words l.memory) l.records) (drop l.i l.calls)
    ≡ answers (tree_of l.plan) (state (g.M.ReadMemory.words l.initial.memory) l.initial.records) l.calls)
    × (drop l.i l.answers ≡ drop l.i l.initial.answers)
