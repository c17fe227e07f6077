use Rattle.std.proofs.Common.{◌≡◌, ℕ, ◌-◌, ◌<◌, List, IfOk, string_bytes}
use Rattle.listing.specs.Lines.{texts}
use Rattle.listing.proofs.numbered.all_texts.Given as goal

abbrev pub invariant-loop-n : goal.invariant-loop-n
invariant-loop-n g l =
    (says : ℕ → List ℕ)
    → ((n : ℕ) (r : _) → n < 65536 → goal.F-post g l.text n r → IfOk r (λ s. string_bytes s ≡ says n))
    → string_bytes l.all ≡ texts says l.first (l.n - l.first)
