-- The law of locality, proved once over what the operations do to any words.
use Rattle.std.proofs.Common.{ℕ, rules}
use Rattle.memory.specs.declared.operations.Operation.{Operation}
use Rattle.memory.specs.declared.operations.Operation.TheVariants.{Get, Put, Swap, Add, Cas}
use Rattle.memory.specs.Words.{Words}
use Rattle.memory.specs.Operations.{performed, Local}

pub performed_local : (ws : Words) (home offset : ℕ) (op : Operation)
    → Local ws (performed ws home offset op) home offset
performed_local ws home offset Get h o ne = search rules
performed_local ws home offset (Put w) h o ne = search rules
performed_local ws home offset (Swap w) h o ne = search rules
performed_local ws home offset (Add w) h o ne = search rules
performed_local ws home offset (Cas w v) h o ne = search rules
