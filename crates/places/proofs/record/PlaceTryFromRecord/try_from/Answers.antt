use Rattle.std.proofs.Common.{None, arith}
use Rattle.std.proofs.lemmas.List.{get_or_past}
use Rattle.places.specs.Records.{places_of}
use Rattle.places.proofs.record.PlaceTryFromRecord.try_from.Goals as goal

pub returns-in_default : goal.returns-in_default
returns-in_default c =
    let r = c.args.record in
    rw (get_or_past (places_of r) r.place None (omega arith))
