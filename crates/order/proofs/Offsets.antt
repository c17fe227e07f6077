-- The offset of a fault lies in the order or at its end.
use Rattle.std.proofs.Common.{◌≡◌, ℕ, zero, suc, ◌+◌, ◌*◌, ◌≤◌, cond, ltb, List, length, Some, Ok, Err, Result, IfErr, IfSome, refl, arith}
use Rattle.std.proofs.lemmas.Bool.Decides.{nat_tests}
use Rattle.std.proofs.lemmas.Result.{IfErr-at_err}
use Rattle.refusal.specs.declared.Refusal.{Refusal}
use Rattle.refusal.specs.declared.Refusal.TheVariants.{OrderTooLong}
use Rattle.plan.specs.Trees.{Tree, planned}
use Rattle.order.specs.Calls.{call_at, script_at, script_from}
use Rattle.order.specs.Commands.{bad, checked, run, size, then, letter_E, letter_G, letter_H, letter_K}
use Rattle.order.specs.Reading.{Reading, at_go, go_place, parents_due, ranks_due, ranks_place, reading, tree_in}
use Rattle.order.specs.Whole.{Whole, read_whole}
use Rattle.order.specs.declared.fault.Fault.{Fault}
use Rattle.order.proofs.Wholes.{fault_of, plan_read_of, short_reading}

-- a fault, if there is one, lies at n or before it
abbrev Near : {X : Type 0} → ℕ → Result X Fault → Type 0
Near n r = IfErr r (λ f. f.offset ≤ n)

-- one command
near_checked : (bs : List ℕ) (at due n : ℕ) → at ≤ n → Near n (checked bs at due)
near_checked bs at due n h = grind (arith, nat_tests)

ends_checked : (bs : List ℕ) (at due : ℕ) → checked bs at due ≡ Ok tt → at + size due ≤ length bs
ends_checked bs at due e = grind (arith, nat_tests)

-- a run of commands of three bytes
ends_run : (bs : List ℕ) (due at n : ℕ) → size due ≡ 3 → at ≤ length bs → run bs due at n ≡ Ok tt
    → at + 3 * n ≤ length bs
ends_run bs due at zero three h e = omega arith
ends_run bs due at (suc n) three h e =
    let last : checked bs (at + 3 * n) due ≡ Ok tt = grind arith in
    omega (arith, ends_checked bs (at + 3 * n) due last)

near_run : (bs : List ℕ) (due at n : ℕ) → size due ≡ 3 → at ≤ length bs → Near (length bs) (run bs due at n)
near_run bs due at zero three h = tt
near_run bs due at (suc n) three h = grind (arith, near_run bs due at n three h, ends_run, near_checked)

-- the commands of a plan one after another, and the plan
near_plan : (n go : ℕ) (h e k g : Result (Unit {0}) Fault) (r : Result Tree Refusal)
    → Near n h → (h ≡ Ok tt → Near n e) → (h ≡ Ok tt → e ≡ Ok tt → Near n k)
    → (h ≡ Ok tt → e ≡ Ok tt → k ≡ Ok tt → (go ≤ n) × Near n g)
    → Near n (then (then h (then e (then k g))) (at_go go r))
near_plan n go h e k g r near_h near_e near_k near_g = grind arith

near_long : (n : ℕ) (r : Result Reading Fault) → Near n r
    → Near 65535 (cond (ltb 65535 n) (Err (bad OrderTooLong 65535)) r)
near_long n r near = grind (arith, nat_tests)

near_reading : (bs : List ℕ) → Near 65535 (reading bs)
near_reading bs =
    let n = length bs in
    let H = checked bs 0 letter_H in
    let E = run bs letter_E 20 (parents_due bs) in
    let K = run bs letter_K (ranks_place bs) (ranks_due bs) in
    let at_E : H ≡ Ok tt → 20 ≤ n = ends_checked bs 0 letter_H in
    let at_K : H ≡ Ok tt → E ≡ Ok tt → ranks_place bs ≤ n = λ h. ends_run bs letter_E 20 (parents_due bs) refl (at_E h) in
    near_long n _
    (near_plan n (go_place bs) H E K (checked bs (go_place bs) letter_G) (planned (tree_in bs))
    (near_checked bs 0 letter_H n (omega arith))
    (λ h. near_run bs letter_E 20 (parents_due bs) refl (at_E h))
    (λ h e. near_run bs letter_K (ranks_place bs) (ranks_due bs) refl (at_K h e))
    (λ h e k.
    let go = ends_run bs letter_K (ranks_place bs) (ranks_due bs) refl (at_K h e) k in
    (go, near_checked bs (go_place bs) letter_G n go)))

-- the calls
near_call : (bs : List ℕ) (at n : ℕ) → at ≤ n → Near n (call_at bs at)
near_call bs at n h = grind (arith, nat_tests)

near_script : (bs : List ℕ) (m at : ℕ) → IfSome (script_from bs m at).fault (λ f. f.offset ≤ length bs)
near_script bs zero at = tt
near_script bs (suc m) at =
    let rest = near_script bs m (at + 3) in
    grind (arith, nat_tests, near_call)

-- the faults of a whole order: before its calls, and at their end
pub fault_near : (bs : List ℕ) (f : Fault) → read_whole bs ≡ Err f → f.offset ≤ 65535
fault_near bs f e = IfErr-at_err (λ g. g.offset ≤ 65535) (fault_of bs f e) (near_reading bs)

pub end_near : (bs : List ℕ) (w : Whole) (f : Fault) → read_whole bs ≡ Ok w → w.script.fault ≡ Some f
    → f.offset ≤ 65535
end_near bs w f e o =
    let p = plan_read_of bs w e in
    let short = short_reading bs p.plan_read p.was in
    let here : (script_at bs p.plan_read.end).fault ≡ Some f = rw p.is at o in
    let near : f.offset ≤ length bs = rw here at (near_script bs (length bs) p.plan_read.end) in
    omega arith

-- and an order that is run is no longer than an order can be
pub short_order : (bs : List ℕ) (w : Whole) → read_whole bs ≡ Ok w → length bs ≤ 65535
short_order bs w e = let p = plan_read_of bs w e in short_reading bs p.plan_read p.was
