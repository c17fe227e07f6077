-- Where the words of the three memories stand: a table of words, a window of bytes, two memories joined.
use Rattle.std.specs.Prelude.{ℕ, ◌+◌, ◌-◌, ◌*◌, ◌/◌, ◌^◌, min, cond, List, length, drop, ◌==◌, nat_le, nat_lt, slice_index}
use Rattle.memory.specs.Sizes.{max_homes, home_words, depart_offset}
use Rattle.memory.specs.Words.{Words}

-- the place of a word in a row of words, five to a home
abbrev pub place_of : ℕ → ℕ → ℕ
place_of home offset = (home - 1) * home_words + offset

-- the words of n homes that stand in one row; outside there are zeros
abbrev pub row_words : ℕ → (ℕ → ℕ) → Words
row_words n at = record {
  count = n;
  word = λ h o. cond (h == 0) 0 (cond (nat_lt n h) 0 (cond (nat_lt depart_offset o) 0 (at (place_of h o))));
}

-- how many whole homes of so many items each a list has, at most 4,096
abbrev pub homes_in : {C : Type 0} → ℕ → List C → ℕ
homes_in size xs = min max_homes (length xs / size)

-- the items behind the last home: they fill no home, or lie beyond 4,096
abbrev pub spare : {C : Type 0} → ℕ → List C → List C
spare size xs = drop (size * homes_in size xs) xs

-- the meaning of a row of cells, so many to a word, where a word stands at each place
abbrev pub cell_words : {C : Type 0} → ℕ → (List C → ℕ → ℕ) → List C → Words
cell_words width word_at xs = row_words (homes_in (home_words * width) xs) (λ i. word_at xs i)

-- the word at a place of a table of words
abbrev pub table_word : List ℕ → ℕ → ℕ
table_word xs i = slice_index xs i

-- the meaning of a table of words
abbrev pub table_words : List ℕ → Words
table_words xs = cell_words 1 table_word xs

-- the word that the eight bytes from i on spell, the most significant first
abbrev pub be_word : List ℕ → ℕ → ℕ
be_word xs i =
    slice_index xs i * 2 ^ 56 + slice_index xs (i + 1) * 2 ^ 48 + slice_index xs (i + 2) * 2 ^ 40 + slice_index xs (i + 3) * 2 ^ 32
    + slice_index xs (i + 4) * 2 ^ 24 + slice_index xs (i + 5) * 2 ^ 16 + slice_index xs (i + 6) * 2 ^ 8 + slice_index xs (i + 7)

-- the word at a place of a window of bytes
abbrev pub byte_word : List ℕ → ℕ → ℕ
byte_word xs i = be_word xs (8 * i)

-- the meaning of a window of bytes
abbrev pub byte_words : List ℕ → Words
byte_words xs = cell_words 8 byte_word xs

-- two memories one after the other, at most 4,096 homes of them
abbrev pub joined_words : Words → Words → Words
joined_words a b = record {
  count = min max_homes (a.count + b.count);
  word = λ h o. cond (nat_le h a.count) (a.word h o) (b.word (h - a.count) o);
}

-- the words of the second memory's homes that the joined memory drops; elsewhere zeros
abbrev pub spare_words : Words → Words → ℕ → ℕ → ℕ
spare_words a b h o = cond (nat_lt (max_homes - a.count) h) (b.word h o) 0
