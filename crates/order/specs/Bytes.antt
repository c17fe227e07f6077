-- Numbers as bytes, most significant first.
use Rattle.std.specs.Prelude.{ℕ, zero, suc, ◌+◌, ◌*◌, List, [], ◌∷◌, ◌++◌, length, take, drop, slice_index}

-- so many bytes from a place on; past the end there are zeros
abbrev pub bytes_from : List ℕ → ℕ → ℕ → List ℕ
bytes_from bs at zero = []
bytes_from bs at (suc n) = slice_index bs at ∷ bytes_from bs (at + 1) n

-- the number in two bytes from a place on; past the end there are zeros
abbrev pub pair_at : List ℕ → ℕ → ℕ
pair_at bs at = slice_index bs at * 256 + slice_index bs (at + 1)

-- the number in four bytes
abbrev pub quad_at : List ℕ → ℕ → ℕ
quad_at bs at =
    slice_index bs at * 16777216 + slice_index bs (at + 1) * 65536 + slice_index bs (at + 2) * 256 + slice_index bs (at + 3)

-- a buffer with bytes laid over its front
abbrev pub overlaid : List ℕ → List ℕ → List ℕ
overlaid bs out = bs ++ drop (length bs) out

-- a buffer with bytes laid over it from a place on
abbrev pub pasted : List ℕ → ℕ → List ℕ → List ℕ
pasted out at bs = take at out ++ (bs ++ drop (at + length bs) out)
