-- The calls behind G: good ones up to the end of the order, or up to the first that is bad.
use Rattle.std.specs.Prelude.{ℕ, zero, suc, ◌+◌, cond, List, [], ◌∷◌, length, Some, None, Ok, Err, Option, Result, ◌==◌, nat_le, nat_lt, slice_index}
use Rattle.std.specs.Option.{ok_or}
use Rattle.refusal.specs.declared.Refusal.TheVariants.{Cut, Misplaced}
use Rattle.law.specs.declared.call.Call.{Call}
use Rattle.law.specs.declared.call.Call.TheVariants.{AskWrite, AskRead, Step, Leave}
use Rattle.order.specs.Bytes.{pair_at}
use Rattle.order.specs.Commands.{bad, letter_L, letter_R, letter_S, letter_W, size}
use Rattle.order.specs.declared.fault.Fault.{Fault}

-- the call that a letter names; other letters name none
abbrev pub named_call : ℕ → ℕ → Option Call
named_call c p =
    cond (c == letter_W) (Some (AskWrite p))
    (cond (c == letter_R) (Some (AskRead p))
    (cond (c == letter_S) (Some (Step p))
    (cond (c == letter_L) (Some (Leave p)) None)))

-- a letter and a rank as a call; other letters are not due behind G
abbrev pub call_of : ℕ → ℕ → ℕ → Result Call Fault
call_of c p at = ok_or (named_call c p) (bad Misplaced at)

-- the call at a place of the order: cut, where the order ends in it; else misplaced, where it is no call
abbrev pub call_at : List ℕ → ℕ → Result Call Fault
call_at bs at =
    cond (nat_lt (length bs) (at + size (slice_index bs at))) (Err (bad Cut at))
    (call_of (slice_index bs at) (pair_at bs (at + 1)) at)

-- the calls of an order, and the fault that ends them, if any
pub record Script : Type 0 where
  pub calls : List Call
  pub fault : Option Fault

abbrev pub script : List Call → Option Fault → Script
script cs f = record { calls = cs; fault = f }

abbrev pub first_then : Result Call Fault → Script → Script
first_then (Ok c) s = script (c ∷ s.calls) s.fault
first_then (Err f) s = script [] (Some f)

-- from a place on, at most n calls
abbrev pub script_from : List ℕ → ℕ → ℕ → Script
script_from bs zero at = script [] None
script_from bs (suc n) at =
    cond (nat_le (length bs) at) (script [] None) (first_then (call_at bs at) (script_from bs n (at + 3)))

-- all of them: an order has no more calls than bytes
abbrev pub script_at : List ℕ → ℕ → Script
script_at bs at = script_from bs (length bs) at
