-- What the program prints for an order: a function of its bytes alone.
use Rattle.std.specs.Prelude.{ℕ, List, replicate, Ok, Err, Result}
use Rattle.places.specs.Records.{recorded}
use Rattle.places.specs.declared.place.Place.TheVariants.{Idle}
use Rattle.places.specs.declared.record.Record.{Record}
use Rattle.order.specs.Lines.{bad_line}
use Rattle.order.specs.Whole.{Whole, read_whole}
use Rattle.order.specs.declared.fault.Fault.{Fault}
use Rattle.transcript.specs.Transcripts.{script_lines, start}

-- room for the largest plan: 1,280 homes of 40 bytes, 1,024 records
abbrev pub blank_window : List ℕ
blank_window = replicate 51200 0

abbrev pub idle_records : List Record
idle_records = replicate 1024 (recorded Idle)

-- the lines of an order that was read, over a window and a table of records
abbrev pub lines_from : Result Whole Fault → List ℕ → List Record → List ℕ
lines_from (Ok w) window rs = script_lines w (start w.plan window rs)
lines_from (Err f) window rs = bad_line f

abbrev pub lines_of : List ℕ → List ℕ
lines_of order = lines_from (read_whole order) blank_window idle_records
