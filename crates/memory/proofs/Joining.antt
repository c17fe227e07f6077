-- An operation on either of two joined memories is the same operation at its home of the joined one,
-- and leaves the homes that the joined memory drops.
use Rattle.std.proofs.Common.{◌≡◌, ℕ, ◌-◌, ◌<◌, ◌≤◌, rules}
use Rattle.memory.specs.declared.operations.Operation.{Operation}
use Rattle.memory.specs.declared.operations.Operation.TheVariants.{Get, Put, Swap, Add, Cas}
use Rattle.memory.specs.Words.{Words}
use Rattle.memory.specs.Layout.{joined_words, spare_words}
use Rattle.memory.specs.Operations.{answered, performed}

pub performed_first : (a b : Words) (h o : ℕ) (op : Operation) → h ≤ a.count → h ≤ 4096
    → joined_words (performed a h o op) b ≡ performed (joined_words a b) h o op
performed_first a b h o Get p q = search rules
performed_first a b h o (Put w) p q = search rules
performed_first a b h o (Swap w) p q = search rules
performed_first a b h o (Add w) p q = search rules
performed_first a b h o (Cas w v) p q = search rules

-- A home of the joined memory lies in the second one, there under the number far.
pub record Second (a : Words) (home far : ℕ) : Type 0 where
  pub is : far ≡ home - a.count
  pub past : a.count < home
  pub within : home ≤ 4096

pub answered_second : (a b : Words) (h far o : ℕ) (op : Operation) → Second a h far
    → answered b far o op ≡ answered (joined_words a b) h o op
answered_second a b h far o Get s = search rules
answered_second a b h far o (Put w) s = search rules
answered_second a b h far o (Swap w) s = search rules
answered_second a b h far o (Add w) s = search rules
answered_second a b h far o (Cas w v) s = search rules

pub performed_second : (a b : Words) (h far o : ℕ) (op : Operation) → Second a h far
    → joined_words a (performed b far o op) ≡ performed (joined_words a b) h o op
performed_second a b h far o Get s = search rules
performed_second a b h far o (Put w) s = search rules
performed_second a b h far o (Swap w) s = search rules
performed_second a b h far o (Add w) s = search rules
performed_second a b h far o (Cas w v) s = search rules

pub spare_second : (a b : Words) (h far o : ℕ) (op : Operation) → Second a h far
    → spare_words a (performed b far o op) ≡ spare_words a b
spare_second a b h far o Get s = search rules
spare_second a b h far o (Put w) s = search rules
spare_second a b h far o (Swap w) s = search rules
spare_second a b h far o (Add w) s = search rules
spare_second a b h far o (Cas w v) s = search rules
