-- Right after layout the words and records show the lock in which nothing has happened: all words are 0 and all ranks
-- idle.
use Rattle.std.proofs.Common.{◌≡◌, ℕ, ◌+◌, ◌-◌, ◌<◌, Bool, true, false, cond, ◌&&◌, ltb, leb, List, length, drop, replicate, Ok, Err, Result, sym, refl, ◌∙◌, subst, arith, length-append}
use lib.ListN.{length-replicate, get_or-replicate, get_or-append}
use Rattle.std.proofs.lemmas.Bool.Decides.{nat_tests}
use Rattle.std.proofs.lemmas.Bool.{and_parts, leb-true}
use Rattle.memory.specs.Words.{Words}
use Rattle.plan.specs.Trees.{Tree, counter_home, homes}
use Rattle.places.specs.declared.record.Record.{Record}
use Rattle.refusal.specs.declared.Refusal.{Refusal}
use Rattle.refusal.specs.declared.Refusal.TheVariants.{TooShort}
use Rattle.places.specs.Records.{recorded}
use Rattle.lock.specs.Outcomes.{roomy}
use Rattle.lock.specs.Layouts.{cleared, idled, laid_answer, laid_words, laid_records}
use Rattle.queues.specs.Machine.{On}
use Rattle.queues.specs.Table.{Idle}
use Rattle.queues.specs.Jobs.{fresh_lock}
use Rattle.law.proofs.Bridge.{Shows, Geometry}

-- a word that layout has cleared
zeros : (M h o x : ℕ) → On M h → o < 5 → cond (leb 1 h && ltb h (M + 1) && ltb o 5) 0 x ≡ 0
zeros M h o x on l = grind (arith, nat_tests)

-- cleared words and records show that lock
shows_cleared : (t : Tree) → Geometry t → (ws : Words) (rs : List Record) → roomy t ws rs ≡ true
    → Shows t (cleared ws (homes t + 1)) (idled rs t.shape.ranks) fresh_lock
shows_cleared t G ws rs e =
    let z = and_parts (leb t.shape.ranks (length rs)) (leb (homes t) ws.count) e in
    let n = t.shape.ranks in
    let l = length-replicate n (recorded Idle) in
    record {
      ranks = omega (arith, length-append (replicate n (recorded Idle)) (drop n rs), l);
      room = leb-true (homes t) ws.count z.1;
      places = λ p on.
          get_or-append (replicate n (recorded Idle)) (drop n rs) (recorded Idle) (p - 1) (omega (arith, l))
          ∙ get_or-replicate n (p - 1) (recorded Idle) (recorded Idle) (omega arith);
      nexts = λ h on. zeros (homes t) h 0 (ws.word h 0) on (omega arith);
      statuses = λ h on. zeros (homes t) h 1 (ws.word h 1) on (omega arith);
      tails = λ h on. zeros (homes t) h 2 (ws.word h 2) on (omega arith);
      arrives = λ c k.
          zeros (homes t) (counter_home t c) 3 (ws.word (counter_home t c) 3) (G.counter_in c k) (omega arith);
      departs = λ c k.
          zeros (homes t) (counter_home t c) 4 (ws.word (counter_home t c) 4) (G.counter_in c k) (omega arith);
    }

-- layout is accepted only where there is room
accepted : (b : Bool) → ◌≡◌ {A = Result (Unit {0}) Refusal} (cond b (Ok tt) (Err TooShort)) (Ok tt) → b ≡ true
accepted true e = refl
accepted false e = cc

-- so what layout leaves shows it
pub shows_start : (t : Tree) → Geometry t → (ws : Words) (rs : List Record) → laid_answer t ws rs ≡ Ok tt
    → Shows t (laid_words t ws rs) (laid_records t ws rs) fresh_lock
shows_start t G ws rs e =
    let z : roomy t ws rs ≡ true = accepted (roomy t ws rs) e in
    subst
    (λ b. Shows t (cond b (cleared ws (homes t + 1)) ws) (cond b (idled rs t.shape.ranks) rs) fresh_lock)
    (sym z)
    (shows_cleared t G ws rs z)
