use Rattle.std.proofs.Common.{◌≡◌, ℕ, ◌+◌, ◌-◌, ◌*◌, ◌/◌, ◌%◌, ◌<◌, ◌≤◌, min, sym, arith, rules}
use Rattle.std.proofs.Math.Nat.{div-eq_of_lt-le}
use Rattle.std.proofs.lemmas.Bool.Decides.{nat_tests}
use Rattle.std.proofs.lemmas.Grind.{div_ceil_times}
use Rattle.plan.proofs.plan.Plan.counters.Goals as goal

-- two ways to round a quotient up
ceil_is : (a b : ℕ) → 0 < b → a / b + min 1 (a % b) ≡ (a + b - 1) / b
ceil_is a b h =
    let q : ℕ = a / b + min 1 (a % b) in
    let e : (a ≤ q * b) × (q * b < a + b) = div_ceil_times a b h in
    sym (div-eq_of_lt-le b (omega (arith, e.1)) (grind (arith, e.0)))

pub returns : goal.returns
returns c =
    let up = ceil_is c.args.self.now.shape.ranks c.args.self.now.shape.spacing (grind (arith, nat_tests)) in
    search (rules, up)
