-- The law, for every plan, all words and records that layout accepts, and every list of calls. After each front part
-- of the calls the invariant holds; exclusion and order are read off it, and the way back is that of the machine.
use Rattle.std.proofs.Common.{◌≡◌, ℕ, true, List, take, Ok, sym, ◌∙◌, subst}
use Rattle.memory.specs.Words.{Words}
use Rattle.plan.specs.Trees.{Tree, tree_of}
use Rattle.places.specs.declared.record.Record.{Record}
use Rattle.lock.specs.Layouts.{laid_answer}
use Rattle.queues.specs.Machine.{On}
use Rattle.law.specs.Calls.{State, answers, laid, ran}
use Rattle.law.specs.History.{history, nothing}
use Rattle.law.specs.Law.{EveryJob, Law, LawfulAfter}
use Rattle.law.specs.Presence.{Presence, nobody, seen}
use Rattle.law.specs.Rest.{IsAtRest}
use Rattle.law.specs.WayBack.{WayBack}
use Rattle.law.specs.declared.call.Call.{Call}
use Rattle.law.proofs.WayBack.{Run, as_calls, no_asks, ran_append, returns_to_rest, runs_at, runs_present}
use Rattle.law.proofs.WayBack.{seen_append}
use Rattle.law.proofs.Bridge.{Geometry}
use Rattle.law.proofs.PlanGeometry.{every_plan}
use Rattle.law.proofs.Rest.{at_rest}
use Rattle.law.proofs.Invariant.{at_end, end_alone, end_fair, end_order}

module _ (t : Tree) (G : Geometry t) (ws : Words) (rs : List Record) (e : laid_answer t ws rs ≡ Ok tt) where
  abbrev start : State
  start = laid t ws rs

  -- from the state after the calls the lock comes back to rest
  way_back : (cs : List Call) → WayBack t start cs
  way_back cs =
      let k = at_end t G ws rs e cs in
      let b : Run = record {
        at = ran t start cs;
        present = seen nobody cs (answers t start cs);
        past = history t start nothing cs;
      } in
      let r = returns_to_rest t G b k.0 k.1 k.2 in
      let s = r.1.0 in
      let rest = r.1.1 in
      let holds = r.1.2.1 in
      let back = as_calls r.0 in
      let idle_then = λ (p : ℕ) (on : On t.shape.ranks p). holds.idles p (rest.idles p on) in
      let state_is = runs_at t r.0 b ∙ sym (ran_append t start cs back) in
      let present_is = runs_present t r.0 b ∙ sym (seen_append t start nobody cs back) in
      record {
        back = back;
        no_asks = no_asks r.0;
        idle = λ p on. subst (λ (w : Presence). w.idle p ≡ true) present_is (idle_then p on);
        rest =
            subst (λ (x : State). IsAtRest t x.words) state_is
            (at_rest t _ _ s holds.shows rest);
      }

  -- all three, after the calls
  lawful_after : (cs : List Call) → LawfulAfter t start cs
  lawful_after cs = record {
    exclusion = end_alone t G ws rs e cs;
    order = end_order t G ws rs e cs;
    way_back = way_back cs;
  }

  -- and after each front part of them
  pub law : (cs : List Call) → Law t start cs
  law cs = record { always = λ n. lawful_after (take n cs); fair = end_fair t G ws rs e cs }

-- for every plan
pub every_job : EveryJob
every_job plan ws rs cs e = law (tree_of plan) (every_plan plan) ws rs e cs
