-- A plan that was read and a table of calls: the answers are those of the definition, and the law holds of them.
use Rattle.std.proofs.Common.{◌≡◌, ℕ, List, Err, Ok, MatchResult, Result, sym, ap, ◌∙◌, subst, ap₂}
use Rattle.std.specs.Result.{IsErrAnd}
use Rattle.refusal.specs.declared.Refusal.{Refusal}
use Rattle.memory.specs.Layout.{table_words}
use Rattle.memory.specs.Words.{Words}
use Rattle.plan.specs.Trees.{tree_of}
use Rattle.places.specs.declared.record.Record.{Record}
use Rattle.lock.specs.Layouts.{laid_records, laid_words}
use Rattle.law.proofs.Job.{every_job}
use Rattle.law.specs.Calls.{State, laid, state}
use Rattle.order.specs.Reading.{Answers, Reading, reading, reading_of}
use Rattle.order.specs.declared.fault.Fault.{Fault}
use Rattle.order.specs.declared.read.PlanRead.{PlanRead}
use Rattle.treelock_c.proofs.Room.{room_for}
use Rattle.treelock_c.specs.Exchanges.{calls_in, replies}
use Rattle.treelock_c.specs.Runs.{Lawful, blank_table, idle_records, outcome, outcome_of, start}
use Rattle.treelock_c.specs.declared.exchange.Exchange.{Exchange}

-- a plan comes through where only a fault is turned into its refusal
pub read_through : (P : Fault → Refusal → Type 0) (r : Result PlanRead Fault) (m : Result PlanRead Refusal)
    (x : PlanRead) (d : Result Reading Fault)
    → MatchResult r (λ y. m ≡ Ok y) (λ f. IsErrAnd m (P f)) → m ≡ Ok x → Answers r d → d ≡ Ok (reading_of x)
read_through P (Ok y) m x d same is answer = let e : y ≡ x = cc in answer ∙ ap (λ (z : PlanRead). Ok (reading_of z)) e
read_through P (Err f) m x d fails is answer = absurd (let no = rw is at fails in no)

module _ (bs : List ℕ) (es : List Exchange) (x : PlanRead) where
  pub law_of : reading bs ≡ Ok (reading_of x) → Lawful (reading bs) es
  law_of read =
      subst (λ (r : Result Reading Fault). Lawful r es) (sym read)
      (every_job x.plan (table_words blank_table) idle_records (calls_in es) (room_for x.plan))

  -- the memory is a table of zeros, the records are idle, and layout leads to the words vs and records qs
  pub told_all : (table : List ℕ) (ws vs : Words) (rs qs : List Record) (out : List Exchange)
      → reading bs ≡ Ok (reading_of x)
      → ws ≡ table_words table → table ≡ blank_table → rs ≡ idle_records
      → vs ≡ laid_words (tree_of x.plan) ws rs → qs ≡ laid_records (tree_of x.plan) ws rs
      → out ≡ replies (tree_of x.plan) (state vs qs) es
      → outcome bs es ≡ Ok out
  told_all table ws vs rs qs out read words blank idle ew er is =
      let t = tree_of x.plan in
      let w : ws ≡ table_words blank_table = words ∙ ap table_words blank in
      let begun : state vs qs ≡ start t =
      ap₂ state ew er ∙ ap₂ (λ (a : Words) (b : List Record). laid t a b) w idle
      in
      ap (λ (r : Result Reading Fault). outcome_of r es) read
      ∙ ap Ok (sym (is ∙ ap (λ (s : State). replies t s es) begun))
