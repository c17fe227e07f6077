-- The program's memory has room for every order: its job is never refused.
use Rattle.std.proofs.Common.{◌≡◌, ℕ, ◌≤◌, Bool, true, false, List, [], length, is_some, Ok, Err, Result, sym, refl, ap, ◌∙◌, subst, ap₂, arith}
use lib.ListN.{length-replicate}
use Rattle.std.proofs.lemmas.Bool.{le-leb}
use Rattle.refusal.specs.Numbers.{number_of}
use Rattle.refusal.specs.declared.Refusal.{Refusal}
use Rattle.memory.specs.Layout.{byte_words}
use Rattle.plan.specs.Trees.{homes}
use Rattle.places.specs.Records.{recorded}
use Rattle.places.specs.declared.answer.Answer.{Answer}
use Rattle.places.specs.declared.place.Place.TheVariants.{Idle}
use Rattle.places.specs.declared.record.Record.{Record}
use Rattle.job.specs.Outcomes.{job_answer}
use Rattle.order.proofs.Bounds.{bounds_of}
use Rattle.order.proofs.Offsets.{short_order}
use Rattle.order.specs.Whole.{Whole, read_whole}
use Rattle.order.specs.declared.fault.Fault.{Fault}
use Rattle.transcript.specs.Program.{blank_window, idle_records, lines_from, lines_of}
use Rattle.transcript.specs.Transcripts.{LawfulRun, if_run, script_lines, start, told, transcript}

abbrev Reply : Type 0
Reply = Result Answer Refusal

module _ (bs window : List ℕ) (rs : List Record) (out : List Reply)
    (window_is : length window ≡ 51200) (records_are : length rs ≡ 1024) (answers_are : length out ≡ 21845) where
  room_for : (w : Whole) → read_whole bs ≡ Ok w
      → job_answer w.plan (byte_words window) rs w.script.calls out ≡ Ok tt
  room_for w read =
      let b = bounds_of bs w read in
      let short = short_order bs w read in
      let few : length w.script.calls ≤ length out = omega (arith, b.calls, short, answers_are) in
      let ranks : w.plan.shape.ranks ≤ length rs = omega (arith, b.sizes.few_ranks, records_are) in
      let count : (byte_words window).count ≡ 1280 = rw window_is in
      let all : homes w.plan ≤ (byte_words window).count =
      omega (arith, b.sizes.few_ranks, b.sizes.few_elements, count)
      in
      rw (le-leb _ _ ranks, le-leb _ _ all, le-leb _ _ few)

  told_all : (r : Result Whole Fault) → read_whole bs ≡ r → told r window rs out ≡ Ok (lines_from r window rs)
  told_all (Ok w) e =
      ap (λ (j : Result (Unit {0}) Refusal). if_run j (script_lines w (start w.plan window rs))) (room_for w e)
  told_all (Err f) e = refl

  -- so the transcript is always the lines
  pub transcript_is : transcript bs window rs out ≡ Ok (lines_from (read_whole bs) window rs)
  transcript_is = told_all (read_whole bs) refl

abbrev lines_in : Result (List ℕ) Refusal → List ℕ
lines_in (Ok ls) = ls
lines_in (Err e) = []

-- of the memory that the program takes
module _ (bs window : List ℕ) (rs : List Record) (out : List Reply)
    (window_is : window ≡ blank_window) (records_are : rs ≡ idle_records) (answers_are : length out ≡ 21845) where
  blank_transcript : transcript bs window rs out ≡ Ok (lines_of bs)
  blank_transcript =
      ap₂ (λ (x : List ℕ) (y : List Record). transcript bs x y out) window_is records_are
      ∙ transcript_is bs blank_window idle_records out (length-replicate {A = ℕ} 51200 0) (length-replicate 1024 (recorded Idle)) answers_are

  pub lines_told : (text : List ℕ) → transcript bs window rs out ≡ Ok text → text ≡ lines_of bs
  lines_told text e = ap lines_in (sym e ∙ blank_transcript)

  pub never_refused : (e : Refusal) → transcript bs window rs out ≡ Err e → ⊥
  never_refused e r =
      let no : Ok (lines_of bs) ≡ Err e = sym blank_transcript ∙ r in
      cc

  -- so a refusal of the run has no number
  pub numberless : (e : Refusal) → (is_some (number_of e) ≡ true → transcript bs window rs out ≡ Err e)
      → is_some (number_of e) ≡ false
  numberless e h = not_true (is_some (number_of e)) (λ some. never_refused e (h some))
    where
      not_true : (b : Bool) → (b ≡ true → ⊥) → b ≡ false
      not_true true k = absurd (k refl)
      not_true false k = refl

  pub law_told : LawfulRun (read_whole bs) window rs → LawfulRun (read_whole bs) blank_window idle_records
  law_told law =
      subst (λ (y : List Record). LawfulRun (read_whole bs) blank_window y) records_are
      (subst (λ (x : List ℕ). LawfulRun (read_whole bs) x rs) window_is law)
