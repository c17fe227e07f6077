-- What the words of the lock hold besides numbers of homes and counts.
use Rattle.std.specs.Prelude.{ℕ, ◌+◌, ◌-◌, ◌%◌, ◌^◌}

-- the bit that a writer adds to a counter's ARRIVE
abbrev pub write_bit : ℕ
write_bit = 2 ^ 62

-- STATUS: waits for its predecessor; goes on to the parent; came to hold level 1 after readers had their chance
abbrev pub wait : ℕ
wait = 2 ^ 32

abbrev pub to_parent : ℕ
to_parent = 2 ^ 32 + 1

abbrev pub mode_change : ℕ
mode_change = 2 ^ 32 + 2

-- any other STATUS is a count of hand-overs, at most this
abbrev pub most_hand_overs : ℕ
most_hand_overs = 1000

-- the word whose addition takes n away
abbrev pub minus : ℕ → ℕ
minus n = (2 ^ 64 - n) % 2 ^ 64
