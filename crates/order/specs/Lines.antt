-- The lines of a run: what each call answered, and what is wrong with an order. Byte 10 ends each.
use Rattle.std.specs.Prelude.{ℕ, Bool, cond, ◌&&◌, List, [], ◌∷◌, ◌++◌, length, Ok, Err, codes, decimal, Result, nat_le}
use Rattle.std.specs.Option.{unwrap_or}
use Rattle.refusal.specs.Numbers.{number_of}
use Rattle.refusal.specs.declared.Refusal.{Refusal}
use Rattle.refusal.specs.declared.Refusal.TheVariants.{BufferTooSmall}
use Rattle.places.specs.declared.answer.Answer.{Answer}
use Rattle.places.specs.declared.answer.Answer.TheVariants.{Asked, Leaving, Entered, Free, Waiting, Moved}
use Rattle.law.specs.declared.call.Call.{Call}
use Rattle.law.specs.CallParts.{letter, rank}
use Rattle.order.specs.Bytes.{overlaid}
use Rattle.order.specs.declared.fault.Fault.{Fault}

abbrev pub answer_word : Answer → List ℕ
answer_word Asked = codes " asked\n"
answer_word Leaving = codes " leaving\n"
answer_word Entered = codes " entered\n"
answer_word Free = codes " free\n"
answer_word Waiting = codes " waiting\n"
answer_word Moved = codes " moved\n"

-- the number of a refusal; a refusal with no number, which no call of a job gives, as 0
abbrev pub shown_number : Refusal → ℕ
shown_number e = unwrap_or (number_of e) 0

-- behind letter and rank: the answer, or the refusal's number
abbrev pub refusal_words : Refusal → List ℕ
refusal_words e = codes " refused " ++ (decimal (shown_number e) ++ (10 ∷ []))

abbrev pub reply_words : Result Answer Refusal → List ℕ
reply_words (Ok a) = answer_word a
reply_words (Err e) = refusal_words e

abbrev pub reply_line : Call → Result Answer Refusal → List ℕ
reply_line c r = letter c ∷ 32 ∷ (decimal (rank c) ++ reply_words r)

abbrev pub bad_line : Fault → List ℕ
bad_line f = codes "bad " ++ (decimal (shown_number f.refusal) ++ (codes " at " ++ (decimal f.offset ++ (10 ∷ []))))

-- a line goes into a buffer of at least 24 bytes, and a bad line only for an offset that an order can have
abbrev pub roomy_line : List ℕ → Bool
roomy_line out = nat_le 24 (length out)

abbrev pub roomy_bad : Fault → List ℕ → Bool
roomy_bad f out = nat_le 24 (length out) && nat_le f.offset 65535

-- what a line maker answers, and what the buffer then holds
abbrev pub line_length : Bool → List ℕ → Result ℕ Refusal
line_length b l = cond b (Ok (length l)) (Err BufferTooSmall)

abbrev pub line_written : Bool → List ℕ → List ℕ → List ℕ
line_written b l out = cond b (overlaid l out) out
