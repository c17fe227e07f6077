use Rattle.std.proofs.Common.{◌≡◌, ◌∙◌, Ok}
use Rattle.order.specs.Reading.{reading, reading_of}
use Rattle.treelock_c.proofs.Outcomes.{law_of, read_through, told_all}
use Rattle.treelock_c.proofs.run.run.Goals as goal

pub returns : goal.returns
returns c =
    let read : reading c.args.plan.now ≡ Ok (reading_of c.in_ok-read.read) =
    read_through _ _ _ _ _ c.map_err.ensures.cases c.in_ok-read.was c.read_plan.ensures.value
    in
    let words = c.as_mut_slice.ensures.value ∙ c.in_ok-words.ensures.items_if_clones_equal (λ y e. e) in
    let records = c.as_mut_slice-lent.ensures.value ∙ c.in_ok-records.ensures.items_if_clones_equal (λ y e. e) in
    record {
      value =
          told_all c.args.plan.now c.args.table.now c.in_ok-read.read _ _ _ _ _ _ read
          c.new-memory.ensures.words words records
          c.layout.ensures.words c.layout.ensures.records c.answer_all.ensures.table;
      law = law_of c.args.plan.now c.args.table.now c.in_ok-read.read read;
    }
