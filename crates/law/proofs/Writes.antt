-- What a write of a word or of a record does to the lock that they show. The words of a home have five offsets, so
-- one that is written changes one of the lock's functions at one number.
use Rattle.std.proofs.Common.{◌≡◌, ℕ, ◌+◌, ◌-◌, ◌%◌, ◌^◌, ◌≤◌, cond, eqb, List, get_or, set, Ok, Err, sym, refl, ap, ◌∙◌, arith, length-set, get_or-set_other, get_or-set_same}
use Rattle.std.proofs.lemmas.Bool.Decides.{nat_tests}
use Rattle.std.proofs.lemmas.Bool.{ne_eqb, le-ltb}
use Rattle.refusal.specs.declared.Refusal.{Refusal}
use Rattle.memory.specs.Operations.{answered, performed}
use Rattle.memory.specs.Words.{Words, storing, refusing}
use Rattle.memory.specs.declared.operations.Operation.{Operation}
use Rattle.memory.specs.declared.operations.Operation.TheVariants.{Get, Put, Swap, Add, Cas}
use Rattle.plan.specs.Trees.{Tree, counter_home}
use Rattle.places.specs.declared.record.Record.{Record}
use Rattle.places.specs.Records.{recorded}
use Rattle.queues.specs.Machine.{On}
use Rattle.queues.specs.Table.{Place, Idle, Lock, upd, go, put_next, put_status, put_arrive, put_depart, join, drop}
use Rattle.queues.specs.Table.{free}
use Rattle.law.proofs.Bridge.{Shows, gives, effect}
use Rattle.queues.proofs.Phases.{upd_same, upd_other}
use Rattle.queues.proofs.Cases.{split}

-- an operation at a home of the memory is not refused
pub resolved : {A : Type 0} (count h o : ℕ) (x : A) (f : Refusal → A) → On count h → o ≤ 4 → refusing count h o f x ≡ x
resolved count h o x f on l = rw (ne_eqb h 0 (omega arith), le-ltb count h (omega arith), le-ltb 4 o l)

-- so it gives and writes what it says
pub done_by : (ws : Words) (h o : ℕ) (op : Operation) → On ws.count h → o ≤ 4
    → (answered ws h o op ≡ Ok (gives ws h o op)) × (performed ws h o op ≡ effect ws h o op)
done_by ws h o Get on l = (resolved ws.count h o (Ok (ws.word h o)) Err on l, refl)
done_by ws h o (Put w) on l =
    (resolved ws.count h o (Ok 0) Err on l, resolved ws.count h o (storing ws h o w) (λ _. ws) on l)
done_by ws h o (Swap w) on l =
    (resolved ws.count h o (Ok (ws.word h o)) Err on l, resolved ws.count h o (storing ws h o w) (λ _. ws) on l)
done_by ws h o (Add w) on l = (
  resolved ws.count h o (Ok (ws.word h o)) Err on l,
  resolved ws.count h o (storing ws h o ((ws.word h o + w) % 2 ^ 64)) (λ _. ws) on l,
)
done_by ws h o (Cas v w) on l = (
  resolved ws.count h o (Ok (ws.word h o)) Err on l,
  ap (λ x. cond (eqb (ws.word h o) v) x ws) (resolved ws.count h o (storing ws h o w) (λ _. ws) on l),
)

module _ (t : Tree) (ws : Words) (rs : List Record) (s : Lock) (v : Shows t ws rs s) where
  -- NEXT
  pub shows_next : (h x : ℕ) → Shows t (storing ws h 0 x) rs (put_next s h x)
  unfolding upd
  shows_next h x = record {
    ranks = v.ranks;
    room = v.room;
    places = v.places;
    nexts = λ g on. let e = v.nexts g on in grind (arith, nat_tests);
    statuses = λ g on. let e = v.statuses g on in grind (arith, nat_tests);
    tails = λ g on. let e = v.tails g on in grind (arith, nat_tests);
    arrives = λ c l. let e = v.arrives c l in grind (arith, nat_tests);
    departs = λ c l. let e = v.departs c l in grind (arith, nat_tests);
  }

  -- STATUS
  pub shows_status : (h x : ℕ) → Shows t (storing ws h 1 x) rs (put_status s h x)
  unfolding upd
  shows_status h x = record {
    ranks = v.ranks;
    room = v.room;
    places = v.places;
    nexts = λ g on. let e = v.nexts g on in grind (arith, nat_tests);
    statuses = λ g on. let e = v.statuses g on in grind (arith, nat_tests);
    tails = λ g on. let e = v.tails g on in grind (arith, nat_tests);
    arrives = λ c l. let e = v.arrives c l in grind (arith, nat_tests);
    departs = λ c l. let e = v.departs c l in grind (arith, nat_tests);
  }

  -- TAIL, by a node that joins
  pub shows_join : (h x : ℕ) → Shows t (storing ws h 2 x) rs (join s h x)
  unfolding upd
  shows_join h x = record {
    ranks = v.ranks;
    room = v.room;
    places = v.places;
    nexts = λ g on. let e = v.nexts g on in grind (arith, nat_tests);
    statuses = λ g on. let e = v.statuses g on in grind (arith, nat_tests);
    tails = λ g on. let e = v.tails g on in grind (arith, nat_tests);
    arrives = λ c l. let e = v.arrives c l in grind (arith, nat_tests);
    departs = λ c l. let e = v.departs c l in grind (arith, nat_tests);
  }

  -- TAIL, by a release
  pub shows_free : (h : ℕ) → Shows t (storing ws h 2 0) rs (free s h)
  unfolding upd
  shows_free h = record {
    ranks = v.ranks;
    room = v.room;
    places = v.places;
    nexts = λ g on. let e = v.nexts g on in grind (arith, nat_tests);
    statuses = λ g on. let e = v.statuses g on in grind (arith, nat_tests);
    tails = λ g on. let e = v.tails g on in grind (arith, nat_tests);
    arrives = λ c l. let e = v.arrives c l in grind (arith, nat_tests);
    departs = λ c l. let e = v.departs c l in grind (arith, nat_tests);
  }

  -- no word, where a head goes
  pub shows_drop : (h : ℕ) → Shows t ws rs (drop s h)
  shows_drop h =
      record {
        ranks = v.ranks;
        room = v.room;
        places = v.places;
        nexts = v.nexts;
        statuses = v.statuses;
        tails = v.tails;
        arrives = v.arrives;
        departs = v.departs;
      }

  -- a record
  pub shows_go : (p : ℕ) → On t.shape.ranks p → (f : Place) → Shows t ws (set rs (p - 1) (recorded f)) (go s p f)
  shows_go p on f =
      record {
        ranks = rw (length-set rs (p - 1) (recorded f)) v.ranks;
        room = v.room;
        places = split p
            (λ q.
            On t.shape.ranks q
            → get_or (set rs (p - 1) (recorded f)) (q - 1) (recorded Idle) ≡ recorded (upd s.place p f q))
            (λ _.
            rw (upd_same s.place p f)
            (get_or-set_same rs (p - 1) (recorded f) (recorded Idle) (omega (arith, v.ranks))))
            (λ q ne on'.
            rw (upd_other s.place p f q ne)
            (get_or-set_other rs (p - 1) (q - 1) (recorded f) (recorded Idle) (omega arith) ∙ v.places q on'));
        nexts = v.nexts;
        statuses = v.statuses;
        tails = v.tails;
        arrives = v.arrives;
        departs = v.departs;
      }

  -- a record recorded as it was
  pub shows_stay : (p : ℕ) → On t.shape.ranks p → (f : Place) → s.place p ≡ f
      → Shows t ws (set rs (p - 1) (recorded f)) s
  shows_stay p on f e =
      let w = shows_go p on f in
      record {
        ranks = w.ranks;
        room = v.room;
        places = split p
            (λ q.
            On t.shape.ranks q
            → get_or (set rs (p - 1) (recorded f)) (q - 1) (recorded Idle) ≡ recorded (s.place q))
            (λ o. w.places p o ∙ ap recorded (upd_same s.place p f ∙ sym e))
            (λ q ne o. w.places q o ∙ ap recorded (upd_other s.place p f q ne));
        nexts = v.nexts;
        statuses = v.statuses;
        tails = v.tails;
        arrives = v.arrives;
        departs = v.departs;
      }

  -- ARRIVE of a counter
  pub shows_arrive : ((a b : ℕ) → counter_home t a ≡ counter_home t b → a ≡ b) → (k x y : ℕ) → x ≡ y
      → Shows t (storing ws (counter_home t k) 3 x) rs (put_arrive s k y)
  unfolding upd
  shows_arrive one k x y d = record {
    ranks = v.ranks;
    room = v.room;
    places = v.places;
    nexts = λ g on. let e = v.nexts g on in grind (arith, nat_tests);
    statuses = λ g on. let e = v.statuses g on in grind (arith, nat_tests);
    tails = λ g on. let e = v.tails g on in grind (arith, nat_tests);
    arrives = λ c l. let e = v.arrives c l in grind (arith, nat_tests, one);
    departs = λ c l. let e = v.departs c l in grind (arith, nat_tests, one);
  }

  -- DEPART of a counter
  pub shows_depart : ((a b : ℕ) → counter_home t a ≡ counter_home t b → a ≡ b) → (k x y : ℕ) → x ≡ y
      → Shows t (storing ws (counter_home t k) 4 x) rs (put_depart s k y)
  unfolding upd
  shows_depart one k x y d = record {
    ranks = v.ranks;
    room = v.room;
    places = v.places;
    nexts = λ g on. let e = v.nexts g on in grind (arith, nat_tests);
    statuses = λ g on. let e = v.statuses g on in grind (arith, nat_tests);
    tails = λ g on. let e = v.tails g on in grind (arith, nat_tests);
    arrives = λ c l. let e = v.arrives c l in grind (arith, nat_tests, one);
    departs = λ c l. let e = v.departs c l in grind (arith, nat_tests, one);
  }
