-- Order: nodes come to hold an element in the order in which they joined its queue, and one at a time.
use Rattle.std.specs.Prelude.{◌≡◌, ℕ, suc, ◌≤◌, List, ◌++◌, length}
use Rattle.law.specs.History.{History}

-- a front part of a list
abbrev pub Front : List ℕ → List ℕ → Type 0
Front xs ys = (zs : List ℕ) × (ys ≡ xs ++ zs)

-- those that came to hold are a front part of those that joined; those that stopped are a front part of those
-- that came; and at most one came that has not stopped
pub record Ordered (h : History) (k : ℕ) : Type 0 where
  pub order : Front (h.came k) (h.joined k)
  pub stopped : Front (h.gone k) (h.came k)
  pub single : length (h.came k) ≤ suc (length (h.gone k))
