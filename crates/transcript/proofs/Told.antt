-- An order whose job was run: its lines are the defined ones, and the law holds of it.
use Rattle.std.proofs.Common.{◌≡◌, ℕ, suc, ◌+◌, ◌≤◌, Bool, true, false, cond, ◌&&◌, List, [], ◌∷◌, ◌++◌, length, drop, Some, None, Ok, Err, Option, Result, sym, refl, ap, ◌∙◌, subst, ap₂, arith, length-append}
use Rattle.refusal.specs.declared.Refusal.{Refusal}
use Rattle.memory.specs.Layout.{byte_words}
use Rattle.memory.specs.Words.{Words}
use Rattle.plan.specs.Trees.{Tree}
use Rattle.places.specs.declared.answer.Answer.{Answer}
use Rattle.places.specs.declared.record.Record.{Record}
use Rattle.law.specs.Calls.{State, after, answers, laid}
use Rattle.law.specs.Law.{Law}
use Rattle.law.specs.declared.call.Call.{Call}
use Rattle.job.specs.Outcomes.{answers_fit, job_answer, job_answers}
use Rattle.order.specs.Whole.{Whole, read_whole}
use Rattle.order.specs.declared.fault.Fault.{Fault}
use Rattle.order.proofs.Offsets.{end_near}
use Rattle.transcript.proofs.Replies.{lines_front}
use Rattle.transcript.specs.Transcripts.{LawfulRun, NearEnd, fault_line, if_run, reply_lines, script_lines, start}
use Rattle.transcript.specs.Transcripts.{told, transcript}

abbrev Reply : Type 0
Reply = Result Answer Refusal

-- a job that is not refused is accepted
both_true : (a b : Bool) (e f : Refusal) → ◌≡◌ {A = Result (Unit {0}) Refusal} (Ok tt) (cond a (cond b (Ok tt) (Err e)) (Err f))
    → (a && b) ≡ true
both_true true true e f h = refl
both_true true false e f h = absurd (grind arith)
both_true false b e f h = absurd (grind arith)

-- one answer for each call
length_answers : (t : Tree) (s : State) (cs : List Call) → length (answers t s cs) ≡ length cs
length_answers t s [] = refl
length_answers t s (c ∷ cs) = ap (λ n. suc n) (length_answers t (after t s c) cs)

-- the fault behind the calls has an offset that an order can have
pub near_end : (bs : List ℕ) (w : Whole) (o : Option Fault) → read_whole bs ≡ Ok w → w.script.fault ≡ o → NearEnd o
near_end bs w None e f = tt
near_end bs w (Some x) e f = end_near bs w x e f

module _ (t : Tree) (ws : Words) (rs : List Record) (cs : List Call) (out table : List Reply)
    (ok : Ok tt ≡ job_answer t ws rs cs out) (is : table ≡ job_answers t ws rs cs out) where
  -- the answers stand at the front of the table
  pub table_is : table ≡ answers t (laid t ws rs) cs ++ drop (length cs) out
  table_is =
      is ∙ ap (λ b. cond b (answers t (laid t ws rs) cs ++ drop (length cs) out) out)
      (both_true _ (answers_fit cs out) _ _ ok)

  -- so the table is no shorter than the calls
  pub table_fits : length cs ≤ length table
  table_fits =
      let n : length table ≡ length (answers t (laid t ws rs) cs) + length (drop (length cs) out) =
      ap length table_is ∙ length-append (answers t (laid t ws rs) cs) (drop (length cs) out)
      in
      let m = length_answers t (laid t ws rs) cs in
      omega (arith, n, m)

  pub table_lines : reply_lines cs table ≡ reply_lines cs (answers t (laid t ws rs) cs)
  table_lines = ap (reply_lines cs) table_is ∙ lines_front t (laid t ws rs) cs (drop (length cs) out)

-- the memory and the calls are those of the window and of the order
module _ (bs window : List ℕ) (rs : List Record) (out table : List Reply) (w : Whole) (ws : Words) (cs : List Call)
    (read : read_whole bs ≡ Ok w) (words : ws ≡ byte_words window) (calls : cs ≡ w.script.calls)
    (ok : Ok tt ≡ job_answer w.plan ws rs cs out) where
  accepted_here : Ok tt ≡ job_answer w.plan (byte_words window) rs w.script.calls out
  accepted_here = ok ∙ ap₂ (λ (x : Words) (y : List Call). job_answer w.plan x rs y out) words calls

  table_here : table ≡ job_answers w.plan ws rs cs out
      → table ≡ job_answers w.plan (byte_words window) rs w.script.calls out
  table_here is = is ∙ ap₂ (λ (x : Words) (y : List Call). job_answers w.plan x rs y out) words calls

  pub fits_here : table ≡ job_answers w.plan ws rs cs out → length w.script.calls ≤ length table
  fits_here is = table_fits w.plan (byte_words window) rs w.script.calls out table accepted_here (table_here is)

  pub lines_here : (text : List ℕ) → table ≡ job_answers w.plan ws rs cs out
      → text ≡ reply_lines w.script.calls table ++ fault_line w.script.fault
      → transcript bs window rs out ≡ Ok text
  lines_here text is e =
      let lines = script_lines w (start w.plan window rs) in
      let same : text ≡ lines =
      e ∙ ap (λ (x : List ℕ). x ++ fault_line w.script.fault)
      (table_lines w.plan (byte_words window) rs w.script.calls out table accepted_here (table_here is))
      in
      ap (λ (r : Result Whole Fault). told r window rs out) read
      ∙ ap (λ (r : Result (Unit {0}) Refusal). if_run r lines) (sym accepted_here)
      ∙ ap Ok (sym same)

  pub law_here : Law w.plan (laid w.plan ws rs) cs → LawfulRun (read_whole bs) window rs
  law_here law =
      let one : Law w.plan (laid w.plan (byte_words window) rs) cs =
      subst (λ (x : Words). Law w.plan (laid w.plan x rs) cs) words law
      in
      let two : Law w.plan (laid w.plan (byte_words window) rs) w.script.calls =
      subst (λ (x : List Call). Law w.plan (laid w.plan (byte_words window) rs) x) calls one
      in
      subst (λ (r : Result Whole Fault). LawfulRun r window rs) (sym read) two
