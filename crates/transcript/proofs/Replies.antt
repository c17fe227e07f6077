-- One line more, the last of them, and answers with others behind them.
use Rattle.std.proofs.Common.{◌≡◌, ◌⊎◌, ℕ, List, [], ◌∷◌, ◌++◌, Result, refl, ap, arith}
use Rattle.std.proofs.lemmas.List.{append_assoc, append-nil}
use Rattle.refusal.specs.declared.Refusal.{Refusal}
use Rattle.plan.specs.Trees.{Tree}
use Rattle.places.specs.declared.answer.Answer.{Answer}
use Rattle.law.specs.Calls.{State, after, answer_to, answers}
use Rattle.law.specs.declared.call.Call.{Call}
use Rattle.order.specs.Lines.{reply_line}
use Rattle.transcript.specs.Transcripts.{reply_lines}

abbrev Reply : Type 0
Reply = Result Answer Refusal

pub lines_more : (c : Call) (r : Reply) (cs cs' : List Call) (rs rs' : List Reply) (old new all : List ℕ)
    → cs ≡ c ∷ cs' → rs ≡ r ∷ rs' → new ≡ old ++ reply_line c r
    → old ++ reply_lines cs rs ≡ all
    → new ++ reply_lines cs' rs' ≡ all
lines_more c r cs cs' rs rs' old new all e f is was = rw (is, append_assoc) (rw (e, f) at was)

-- no call or no answer is left
no_lines : (cs : List Call) (rs : List Reply) → (cs ≡ []) ⊎ (rs ≡ []) → reply_lines cs rs ≡ []
no_lines [] rs h = refl
no_lines (c ∷ cs) [] h = refl
no_lines (c ∷ cs) (r ∷ rs) h = grind arith

pub lines_all : (cs : List Call) (rs : List Reply) (text all : List ℕ) → (cs ≡ []) ⊎ (rs ≡ [])
    → text ++ reply_lines cs rs ≡ all
    → text ≡ all
lines_all cs rs text all h was = rw (no_lines cs rs h, append-nil) at was

pub lines_front : (t : Tree) (s : State) (cs : List Call) (rest : List Reply)
    → reply_lines cs (answers t s cs ++ rest) ≡ reply_lines cs (answers t s cs)
lines_front t s [] rest = refl
lines_front t s (c ∷ cs) rest =
    ap (λ (z : List ℕ). reply_line c (answer_to t s c) ++ z) (lines_front t (after t s c) cs rest)
