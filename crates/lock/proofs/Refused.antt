-- A refused row changes no word.
use Rattle.std.proofs.Common.{◌≡◌, ℕ, IfErr, Ok, Err, Result, refl, arith}
use Rattle.std.proofs.lemmas.Bool.Decides.{nat_tests}
use Rattle.refusal.specs.declared.Refusal.{Refusal}
use Rattle.memory.specs.Operations.{answered, performed}
use Rattle.memory.specs.Words.{Words}
use Rattle.memory.specs.declared.operations.Operation.{Operation}
use Rattle.memory.specs.declared.operations.Operation.TheVariants.{Get, Put, Swap, Add, Cas}
use Rattle.plan.specs.Trees.{Tree}
use Rattle.places.specs.Table.{access_of, next_of}
use Rattle.places.specs.declared.place.Place.{Place}
use Rattle.places.specs.declared.place.Place.TheVariants.{Idle, W1, W2, W3, W4, W5, W6, W7, W8, W9}
use Rattle.places.specs.declared.place.Place.TheVariants.{U1, U2, U3, U4, U5, U6, U7, U8, U9, U10}
use Rattle.places.specs.declared.place.Place.TheVariants.{R1, R2, R3, R4, R5, R6, R7, Writer, Reader}
use Rattle.lock.specs.Steps.{row_words}

-- an operation that the memory refuses
pub memory_refused : (ws : Words) (h o : ℕ) (op : Operation) (e : Refusal) → answered ws h o op ≡ Err e
    → performed ws h o op ≡ ws
memory_refused ws h o Get e r = refl
memory_refused ws h o (Put w) e r = grind (arith, nat_tests)
memory_refused ws h o (Swap w) e r = grind (arith, nat_tests)
memory_refused ws h o (Add w) e r = grind (arith, nat_tests)
memory_refused ws h o (Cas v w) e r = grind (arith, nat_tests)

-- only at W5 can what follows be a refusal, and there the word was only read
pub follow_refused : (t : Tree) (ws : Words) (p : ℕ) (q : Place) (w : ℕ) (e : Refusal) → next_of t p q w ≡ Err e
    → row_words ws (access_of t p q) ≡ ws
follow_refused t ws p Idle w e r = refl
follow_refused t ws p (W5 i) w e r = refl
follow_refused t ws p Writer w e r = refl
follow_refused t ws p Reader w e r = refl
follow_refused t ws p (W1 i) w e r = absurd (grind arith)
follow_refused t ws p (W2 i) w e r = absurd (grind arith)
follow_refused t ws p (W3 i) w e r = absurd (grind arith)
follow_refused t ws p (W4 i h) w e r = absurd (grind arith)
follow_refused t ws p (W6 i) w e r = absurd (grind arith)
follow_refused t ws p (W7 k) w e r = absurd (grind arith)
follow_refused t ws p (W8 k) w e r = absurd (grind arith)
follow_refused t ws p (W9 k n) w e r = absurd (grind arith)
follow_refused t ws p (U1 i) w e r = absurd (grind arith)
follow_refused t ws p (U2 i n) w e r = absurd (grind arith)
follow_refused t ws p (U3 i h n) w e r = absurd (grind arith)
follow_refused t ws p U4 w e r = absurd (grind arith)
follow_refused t ws p (U5 n) w e r = absurd (grind arith)
follow_refused t ws p (U6 k) w e r = absurd (grind arith)
follow_refused t ws p (U7 k n) w e r = absurd (grind arith)
follow_refused t ws p (U8 i) w e r = absurd (grind arith)
follow_refused t ws p (U9 i h) w e r = absurd (grind arith)
follow_refused t ws p (U10 i) w e r = absurd (grind arith)
follow_refused t ws p R1 w e r = absurd (grind arith)
follow_refused t ws p R2 w e r = absurd (grind arith)
follow_refused t ws p R3 w e r = absurd (grind arith)
follow_refused t ws p R4 w e r = absurd (grind arith)
follow_refused t ws p R5 w e r = absurd (grind arith)
follow_refused t ws p (R6 n) w e r = absurd (grind arith)
follow_refused t ws p R7 w e r = absurd (grind arith)

-- a fact that holds where the result is a refusal
pub when_refused : {A E : Type 0} (r : Result A E) (P : Type 0) → ((e : E) → r ≡ Err e → P) → IfErr r (λ _. P)
when_refused (Ok x) P f = tt
when_refused (Err e) P f = f e refl
