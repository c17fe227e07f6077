use Rattle.std.proofs.Common.{◌≡◌, Some, arith}
use Rattle.places.proofs.Named.{number_named}
use Rattle.places.specs.Records.{named}
use Rattle.lock.proofs.occupied.says_in.Goals as goal

pub returns-in-Ok-Writer : goal.returns-in-Ok-Writer
returns-in-Ok-Writer c =
    let e : named c.args.r.now ≡ Some c.in-Ok-Writer.field-0 = grind arith in
    let n = number_named c.args.r.now c.in-Ok-Writer.field-0 e in
    grind arith
