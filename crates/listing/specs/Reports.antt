-- The whole report on an order.
use Rattle.std.specs.Prelude.{ℕ, List, ◌++◌, Ok, Err, Result}
use Rattle.std.specs.Option.{unwrap_or}
use Rattle.refusal.specs.Numbers.{number_of}
use Rattle.plan.specs.Trees.{Tree, counters}
use Rattle.order.specs.Reading.{Reading, reading}
use Rattle.order.specs.declared.fault.Fault.{Fault}
use Rattle.listing.specs.Lines.{bad_line, counter_line, element_line, plan_line, rank_line, texts}

-- the plan's line, then a line for each element, counter and rank
abbrev pub listing : Tree → List ℕ
listing t =
    plan_line t
    ++ texts (element_line t) 1 t.shape.elements
    ++ texts (counter_line t) 0 (counters t)
    ++ texts (rank_line t) 1 t.shape.ranks

-- a bad order has one line; every fault of an order has a number
abbrev pub reported : Result Reading Fault → List ℕ
reported (Ok r) = listing r.plan
reported (Err f) = bad_line (unwrap_or (number_of f.refusal) 0) f.offset

abbrev pub report_of : List ℕ → List ℕ
report_of bs = reported (reading bs)
