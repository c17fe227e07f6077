use Rattle.std.proofs.Common.{◌≡◌, ◌++◌, take, drop}
use Rattle.plan.specs.Trees.{tree_of}
use Rattle.law.specs.Calls.{ran, state}
use Rattle.treelock_c.specs.Exchanges.{calls_in, replies}
use Rattle.treelock_c.proofs.run.answer_all.Given as goal

abbrev pub invariant-loop-exchange : goal.invariant-loop-exchange
invariant-loop-exchange g l =
    (ran (tree_of l.plan) (state (g.M.ReadMemory.words l.memory) l.records) (calls_in (drop l.exchange-index l.table))
    ≡ ran (tree_of l.plan) (state (g.M.ReadMemory.words l.initial.memory) l.initial.records)
    (calls_in l.initial.table))
    × (take l.exchange-index l.table
    ++ replies (tree_of l.plan) (state (g.M.ReadMemory.words l.memory) l.records) (drop l.exchange-index l.table)
    ≡ replies (tree_of l.plan) (state (g.M.ReadMemory.words l.initial.memory) l.initial.records)
    l.initial.table)
