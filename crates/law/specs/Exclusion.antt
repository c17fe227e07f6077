-- Exclusion: a rank that is inside as writer is the only rank inside.
use Rattle.std.specs.Prelude.{◌≡◌, ℕ, true}
use Rattle.law.specs.Presence.{Presence, writer}

abbrev pub Alone : Presence → Type 0
Alone w = (p q : ℕ) → w.inside p ≡ true → w.role p ≡ writer → w.inside q ≡ true → p ≡ q
