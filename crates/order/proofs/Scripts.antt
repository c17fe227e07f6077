-- The calls of an order from a place on, one more of them, and where they end.
use Rattle.std.proofs.Common.{◌≡◌, ℕ, zero, suc, ◌+◌, ◌<◌, ◌≤◌, List, [], ◌∷◌, ◌++◌, length, Some, None, Ok, Err, refl, ◌∙◌, arith}
use Rattle.std.proofs.lemmas.Bool.Decides.{nat_tests}
use Rattle.std.proofs.lemmas.List.{append-nil, append_assoc}
use Rattle.law.specs.declared.call.Call.{Call}
use Rattle.order.specs.Calls.{Script, call_at, script, script_at, script_from}
use Rattle.order.specs.declared.fault.Fault.{Fault}

-- calls read so far, before the rest
abbrev pub prefixed : List Call → Script → Script
prefixed cs s = script (cs ++ s.calls) s.fault

-- no more calls are found than the order has bytes from a place on
enough : (bs : List ℕ) (n m at : ℕ) → length bs ≤ at + n → length bs ≤ at + m → script_from bs n at ≡ script_from bs m at
enough bs zero zero at h k = refl
enough bs zero (suc m) at h k = grind (arith, nat_tests)
enough bs (suc n) zero at h k = grind (arith, nat_tests)
enough bs (suc n) (suc m) at h k = grind (arith, nat_tests, enough bs n m (at + 3))

opened : (bs : List ℕ) (at : ℕ) → script_at bs at ≡ script_from bs (suc (length bs)) at
opened bs at = enough bs (length bs) (suc (length bs)) at (omega arith) (omega arith)

module _ (bs : List ℕ) (start at : ℕ) (cs : List Call)
    (before : prefixed cs (script_at bs at) ≡ script_at bs start) where
  -- the order ends between two calls
  pub ends_here : length bs ≤ at → script cs None ≡ script_at bs start
  ends_here h =
      let end : script_at bs at ≡ script [] None = opened bs at ∙ grind (arith, nat_tests) in
      rw append-nil at (rw end at before)

  -- a bad call ends them
  pub bad_here : (f : Fault) → at < length bs → Err f ≡ call_at bs at → script cs (Some f) ≡ script_at bs start
  bad_here f h e =
      let end : script_at bs at ≡ script [] (Some f) = opened bs at ∙ grind (arith, nat_tests) in
      rw append-nil at (rw end at before)

  -- one call more
  pub call_more : (c : Call) (new : List Call) → at < length bs → Ok c ≡ call_at bs at → new ≡ cs ++ c ∷ []
      → prefixed new (script_at bs (at + 3)) ≡ script_at bs start
  call_more c new h e push =
      let rest = script_at bs (at + 3) in
      let one : script_at bs at ≡ script (c ∷ rest.calls) rest.fault = opened bs at ∙ grind (arith, nat_tests) in
      rw (push, append_assoc) (rw one at before)
