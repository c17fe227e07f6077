-- Whether some of the first records is of a rank that is in, by the list of these.
use Rattle.std.proofs.Common.{◌≡◌, ℕ, zero, suc, ◌≤◌, Bool, ◌||◌, List, length, get_or, take, refl, ap, ◌∙◌, add-one, arith}
use Rattle.std.proofs.Math.Bool.{or_comm}
use Rattle.std.proofs.lemmas.List.Folds.{list_any_more}
use Rattle.std.specs.List.{list_any}
use Rattle.places.specs.Records.{recorded}
use Rattle.places.specs.declared.place.Place.TheVariants.{Idle}
use Rattle.places.specs.declared.record.Record.{Record}
use Rattle.lock.specs.Layouts.{any_in, is_in}

pub any_in_front : (rs : List Record) (n : ℕ) → n ≤ length rs → list_any is_in (take n rs) ≡ any_in rs n
any_in_front rs zero h = refl
any_in_front rs (suc n) h =
    let last = is_in (get_or rs n (recorded Idle)) in
    rw add-one at (list_any_more is_in rs n (recorded Idle) (omega arith))
    ∙ or_comm (list_any is_in (take n rs)) last
    ∙ ap (λ (b : Bool). last || b) (any_in_front rs n (omega arith))
