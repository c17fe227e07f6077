-- A whole order that is read has a plan that was read, and is no longer than an order can be.
use Rattle.std.proofs.Common.{◌≡◌, ℕ, ◌≤◌, List, length, Ok, Err, Result, refl, arith}
use Rattle.std.proofs.lemmas.Bool.Decides.{nat_tests}
use Rattle.order.specs.Calls.{script_at}
use Rattle.order.specs.Reading.{Reading, reading}
use Rattle.order.specs.Whole.{Whole, read_whole, with_calls}
use Rattle.order.specs.declared.fault.Fault.{Fault}

pub short_reading : (bs : List ℕ) (r : Reading) → reading bs ≡ Ok r → length bs ≤ 65535
short_reading bs r e = grind (arith, nat_tests)

-- the plan's reading of a whole order
pub record ReadPlan (bs : List ℕ) (w : Whole) : Type 0 where
  pub plan_read : Reading
  pub was : reading bs ≡ Ok plan_read
  pub is : w ≡ record { plan = plan_read.plan; script = script_at bs plan_read.end }

plan_of : (bs : List ℕ) (w : Whole) (r : Result Reading Fault) → reading bs ≡ r → with_calls bs r ≡ Ok w → ReadPlan bs w
plan_of bs w (Ok x) was e = record { plan_read = x; was = was; is = cc }
plan_of bs w (Err f) was e = cc

pub plan_read_of : (bs : List ℕ) (w : Whole) → read_whole bs ≡ Ok w → ReadPlan bs w
plan_read_of bs w e = plan_of bs w (reading bs) refl e

fault_from : (bs : List ℕ) (f : Fault) (r : Result Reading Fault) → with_calls bs r ≡ Err f → r ≡ Err f
fault_from bs f (Ok x) e = cc
fault_from bs f (Err g) e = cc

pub fault_of : (bs : List ℕ) (f : Fault) → read_whole bs ≡ Err f → reading bs ≡ Err f
fault_of bs f e = fault_from bs f (reading bs) e
