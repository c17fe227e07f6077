-- Operations as values: what each answers and leaves, and the law that each is local.
use Rattle.std.specs.Prelude.{◌≡◌, ℕ, Ok, Err, Result}
use Rattle.refusal.specs.declared.Refusal.{Refusal}
use Rattle.memory.specs.declared.operations.Operation.{Operation}
use Rattle.memory.specs.declared.operations.Operation.TheVariants.{Get, Put, Swap, Add, Cas}
use Rattle.memory.specs.Words.{Words, refusing, got, written, added, exchanged}

-- what an operation at a home and an offset answers; a put gives 0
abbrev pub answered : Words → ℕ → ℕ → Operation → Result ℕ Refusal
answered ws home offset Get = got ws home offset
answered ws home offset (Put w) = refusing ws.count home offset Err (Ok 0)
answered ws home offset (Swap w) = got ws home offset
answered ws home offset (Add w) = got ws home offset
answered ws home offset (Cas w v) = got ws home offset

-- the words after it
abbrev pub performed : Words → ℕ → ℕ → Operation → Words
performed ws home offset Get = ws
performed ws home offset (Put w) = written ws home offset w
performed ws home offset (Swap w) = written ws home offset w
performed ws home offset (Add w) = added ws home offset w
performed ws home offset (Cas w v) = exchanged ws home offset w v

-- The law: what get answers at every other home and offset is as it was.
abbrev pub Local : Words → Words → ℕ → ℕ → Type 0
Local before after home offset =
    (h o : ℕ) → ((h ≡ home) × (o ≡ offset) → ⊥) → got after h o ≡ got before h o
