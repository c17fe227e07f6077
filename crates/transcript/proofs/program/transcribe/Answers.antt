use Rattle.std.proofs.Common.{◌≡◌, IfOk, MatchResult, IsErrAnd, Ok, Err, Result, ◌∙◌}
use Rattle.std.proofs.lemmas.Result.{err_from_is_err_and, MatchResult-weaker, on_ok_weaker}
use Rattle.transcript.proofs.Roomy.{law_told, lines_told, numberless}
use Rattle.transcript.proofs.program.transcribe.Goals as goal

-- a result with its error changed
mapped : {X E Y : Type 0} (r : Result X E) (s : Result X Y) (Q : E → Y → Type 0) (P : X → Type 0)
    → MatchResult r (λ x. s ≡ Ok x) (λ e. IsErrAnd s (Q e)) → IfOk r P → IfOk s P
mapped (Ok x) s Q P is p = rw is p
mapped (Err e) s Q P is p = rw (err_from_is_err_and s is).1 tt

pub map_err-requires : goal.map_err-requires
map_err-requires c = λ e is.
    let window = c.deref_mut.ensures.value ∙ c.in_ok-window.ensures.items_if_clones_equal (λ y e. e) in
    let records = c.deref_mut-2.ensures.value ∙ c.in_ok-records.ensures.items_if_clones_equal (λ y e. e) in
    let answers = c.deref_mut-3.ensures.len ∙ c.in_ok-answers.ensures.len in
    numberless c.args.order.now _ _ c.deref_mut-3.result.now window records answers e
    (rw is at c.run_order.ensures.value)

pub returns : goal.returns
returns c =
    let bs = c.args.order.now in
    let window = c.deref_mut.ensures.value ∙ c.in_ok-window.ensures.items_if_clones_equal (λ y e. e) in
    let records = c.deref_mut-2.ensures.value ∙ c.in_ok-records.ensures.items_if_clones_equal (λ y e. e) in
    let answers = c.deref_mut-3.ensures.len ∙ c.in_ok-answers.ensures.len in
    record {
      lines =
          mapped c.run_order.result c.map_err.result _ _ c.map_err.ensures.cases
          (MatchResult-weaker c.run_order.result c.run_order.ensures.value
          (λ v told. lines_told bs _ _ c.deref_mut-3.result.now window records answers _ told) (λ e told. tt));
      law =
          mapped c.run_order.result c.map_err.result _ _ c.map_err.ensures.cases
          (on_ok_weaker c.run_order.result
          (law_told bs _ _ c.deref_mut-3.result.now window records answers) c.run_order.ensures.law);
    }
