-- The numbers that every memory shares, named for definitions and proofs.
use Rattle.std.specs.Prelude.{ℕ}

-- a memory has at most so many homes
abbrev pub max_homes : ℕ
max_homes = 4096

-- the words of a home
abbrev pub home_words : ℕ
home_words = 5

-- the offsets of a home's words
abbrev pub next_offset : ℕ
next_offset = 0

abbrev pub status_offset : ℕ
status_offset = 1

abbrev pub tail_offset : ℕ
tail_offset = 2

abbrev pub arrive_offset : ℕ
arrive_offset = 3

abbrev pub depart_offset : ℕ
depart_offset = 4
