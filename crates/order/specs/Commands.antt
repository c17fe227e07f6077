-- The commands of an order: how long each is, and why one is refused.
use Rattle.std.specs.Prelude.{ℕ, zero, suc, ◌+◌, ◌*◌, Bool, cond, ◌||◌, List, length, Ok, Err, Result, ◌==◌, nat_le, nat_lt, slice_index}
use Rattle.refusal.specs.declared.Refusal.{Refusal}
use Rattle.refusal.specs.declared.Refusal.TheVariants.{Cut, Misplaced}
use Rattle.order.specs.declared.fault.Fault.{Fault}

-- the letters E, G, H, K, L, R, S and W
abbrev pub letter_E : ℕ
letter_E = 69

abbrev pub letter_G : ℕ
letter_G = 71

abbrev pub letter_H : ℕ
letter_H = 72

abbrev pub letter_K : ℕ
letter_K = 75

abbrev pub letter_L : ℕ
letter_L = 76

abbrev pub letter_R : ℕ
letter_R = 82

abbrev pub letter_S : ℕ
letter_S = 83

abbrev pub letter_W : ℕ
letter_W = 87

abbrev pub bad : Refusal → ℕ → Fault
bad e at = record { refusal = e; offset = at }

-- a letter with one operand of two bytes
abbrev pub takes_pair : ℕ → Bool
takes_pair c =
    (c == letter_E) || c == letter_K || c == letter_W || c == letter_R || c == letter_S || c == letter_L

-- how many bytes a command has, its letter among them; an unknown letter is not looked behind
abbrev pub size : ℕ → ℕ
size c = cond (c == letter_H) 20 (cond (takes_pair c) 3 1)

-- the letter of the command at a place, unless the order ends before the command or in it
abbrev pub letter_at : List ℕ → ℕ → Result ℕ Fault
letter_at bs at =
    cond (nat_lt (length bs) (at + size (slice_index bs at))) (Err (bad Cut at)) (Ok (slice_index bs at))

-- whether the command that stands at a place is the one that is due there:
-- cut, where the order ends before the command or in it; else misplaced, where it has another letter
abbrev pub checked : List ℕ → ℕ → ℕ → Result (Unit {0}) Fault
checked bs at due =
    cond (nat_le (length bs) at) (Err (bad Cut at))
    (cond (nat_lt (length bs) (at + size (slice_index bs at))) (Err (bad Cut at))
    (cond (slice_index bs at == due) (Ok tt) (Err (bad Misplaced at))))

-- one check and then another: the first fault counts
abbrev pub then : {A : Type 0} → Result (Unit {0}) Fault → Result A Fault → Result A Fault
then (Ok x) r = r
then (Err f) r = Err f

-- n commands of three bytes with the same letter, from a place on
abbrev pub run : List ℕ → ℕ → ℕ → ℕ → Result (Unit {0}) Fault
run bs due at zero = Ok tt
run bs due at (suc n) = then (run bs due at n) (checked bs (at + 3 * n) due)
