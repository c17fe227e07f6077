-- A lock at rest, by its words: they show the machine at rest, where no queue has a tail and the counters agree.
use Rattle.std.proofs.Common.{◌+◌, List, sym, ◌∙◌, arith}
use Rattle.memory.specs.Words.{Words}
use Rattle.plan.specs.Trees.{Tree}
use Rattle.places.specs.declared.record.Record.{Record}
use Rattle.queues.specs.Moves.{AtRest}
use Rattle.queues.specs.Table.{Lock}
use Rattle.law.specs.Rest.{IsAtRest}
use Rattle.law.proofs.Bridge.{Shows, machine_plan}

-- words that show the machine at rest are at rest
pub at_rest : (t : Tree) (ws : Words) (rs : List Record) (s : Lock) → Shows t ws rs s
    → AtRest t.shape.ranks (machine_plan t) s → IsAtRest t ws
at_rest t ws rs s h r = record {
  tails = λ k o. let e = h.tails (t.shape.ranks + k) (omega arith) in e ∙ r.tails (t.shape.ranks + k);
  counts = λ c l. h.arrives c l ∙ (r.counts c l ∙ sym (h.departs c l));
}
