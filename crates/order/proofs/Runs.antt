-- A run of commands of one letter: one command more, one that is bad.
use Rattle.std.proofs.Common.{◌≡◌, ℕ, zero, suc, ◌+◌, ◌*◌, ◌<◌, List, Ok, Err, arith}
use Rattle.order.specs.Commands.{checked, run}
use Rattle.order.specs.Reading.{operands}
use Rattle.order.specs.declared.fault.Fault.{Fault}

-- so many commands of a run are read, and the reader stands behind them
pub record ReadRun (bs : List ℕ) (due at n : ℕ) (list : List ℕ) (order : List ℕ) (place : ℕ) : Type 0 where
  pub good : run bs due at n ≡ Ok tt
  pub listed : list ≡ operands bs at n
  pub same : order ≡ bs
  pub place_is : place ≡ at + 3 * n

pub run_bad : (bs : List ℕ) (due at n j : ℕ) (f : Fault) → j < n → run bs due at j ≡ Ok tt
    → checked bs (at + 3 * j) due ≡ Err f → run bs due at n ≡ Err f
run_bad bs due at zero j f l r h = absurd (omega arith)
run_bad bs due at (suc n) j f l r h = grind (arith, run_bad bs due at n j f)
