-- Who is inside, in which role, and who is idle: told by the calls of a job and their answers alone.
use Rattle.std.specs.Prelude.{ℕ, Bool, true, false, cond, ◌&&◌, List, [], ◌∷◌, Ok, Err, Result, ◌==◌}
use Rattle.refusal.specs.declared.Refusal.{Refusal}
use Rattle.places.specs.declared.answer.Answer.{Answer}
use Rattle.places.specs.declared.answer.Answer.TheVariants.{Asked, Leaving, Entered, Free, Waiting, Moved}
use Rattle.law.specs.declared.call.Call.{Call}
use Rattle.law.specs.declared.call.Call.TheVariants.{AskWrite, AskRead, Step, Leave}

pub data Role : Type 0 where
  writer : Role
  reader : Role

-- of each rank: its role by its last ask that answered asked; whether it is inside; whether it is idle
pub record Presence : Type 0 where
  pub role : ℕ → Role
  pub inside : ℕ → Bool
  pub idle : ℕ → Bool

-- at the start every rank is idle and nobody is inside
abbrev pub nobody : Presence
nobody = record { role = λ _. reader; inside = λ _. false; idle = λ _. true }

abbrev pub is_asked : Answer → Bool
is_asked Asked = true
is_asked Leaving = false
is_asked Entered = false
is_asked Free = false
is_asked Waiting = false
is_asked Moved = false

abbrev pub is_leaving : Answer → Bool
is_leaving Asked = false
is_leaving Leaving = true
is_leaving Entered = false
is_leaving Free = false
is_leaving Waiting = false
is_leaving Moved = false

abbrev pub is_entered : Answer → Bool
is_entered Asked = false
is_entered Leaving = false
is_entered Entered = true
is_entered Free = false
is_entered Waiting = false
is_entered Moved = false

abbrev pub is_free : Answer → Bool
is_free Asked = false
is_free Leaving = false
is_free Entered = false
is_free Free = true
is_free Waiting = false
is_free Moved = false

-- x at rank p if the test holds, and as before everywhere else
abbrev pub changed : {A : Type 0} → (ℕ → A) → ℕ → Bool → A → ℕ → A
changed f p b x q = cond (q == p && b) x (f q)

-- an ask that answers asked gives the role and ends idleness; a step that answers entered brings the rank in,
-- one that answers free makes it idle; a leave that answers leaving takes it out
abbrev pub noted : Presence → Call → Answer → Presence
noted w (AskWrite p) a = record {
  role = changed w.role p (is_asked a) writer;
  inside = w.inside;
  idle = changed w.idle p (is_asked a) false;
}
noted w (AskRead p) a = record {
  role = changed w.role p (is_asked a) reader;
  inside = w.inside;
  idle = changed w.idle p (is_asked a) false;
}
noted w (Step p) a = record {
  role = w.role;
  inside = changed w.inside p (is_entered a) true;
  idle = changed w.idle p (is_free a) true;
}
noted w (Leave p) a = record {
  role = w.role;
  inside = changed w.inside p (is_leaving a) false;
  idle = w.idle;
}

-- a refused call tells nothing
abbrev pub told : Presence → Call → Result Answer Refusal → Presence
told w c (Ok a) = noted w c a
told w c (Err e) = w

-- after a list of calls with their answers
abbrev pub seen : Presence → List Call → List (Result Answer Refusal) → Presence
seen w [] rs = w
seen w (c ∷ cs) [] = w
seen w (c ∷ cs) (r ∷ rs) = seen (told w c r) cs rs
