-- What holds between the calls of a job, and that every call keeps it: words and records show a lock of the machine
-- that has the invariant; presence, told by the answers, agrees with the places; history, told by the rows, is that
-- of the turns. A refused call changes nothing, a step is the row of the machine, an ask and a leave send a rank to a
-- place.
-- So at the end of every job exclusion and order hold, and no call was refused but by the caller's own doing.
use Rattle.std.proofs.Common.{◌≡◌, ℕ, Bool, true, false, cond, ◌&&◌, eqb, leb, ◌≢◌, ◌⊎◌, List, [], ◌∷◌, length, Some, None, Ok, Err, Option, sym, refl, ap, ◌∙◌, subst, inl, inr, ⊎_elim, arith}
use Rattle.std.proofs.lemmas.Bool.Decides.{nat_tests}
use Rattle.std.proofs.lemmas.Bool.{and_parts, and_from, leb-true, le-leb, eq-eqb, ne_eqb, cases_Bool, true≢false}
use Rattle.refusal.specs.declared.Refusal.{Refusal}
use Rattle.refusal.specs.declared.Refusal.TheVariants.{UnknownRank, NotUnderWay}
use Rattle.memory.specs.Words.{Words}
use Rattle.plan.specs.Shapes.{within}
use Rattle.plan.specs.Trees.{Tree, homes, own_level}
use Rattle.places.proofs.ReadBack.{reads_back}
use Rattle.places.specs.Records.{parsed}
use Rattle.places.specs.Standings.{standing_at}
use Rattle.places.specs.declared.answer.Answer.{Answer}
use Rattle.places.specs.declared.answer.Answer.TheVariants.{Asked, Leaving}
use Rattle.places.specs.declared.place.Standing.{Standing}
use Rattle.places.specs.declared.place.Standing.TheVariants.{Resting, UnderWay, Writing, Reading}
use Rattle.places.specs.declared.record.Record.{Record}
use Rattle.lock.specs.Layouts.{laid_answer, laid_records, laid_words}
use Rattle.lock.specs.Outcomes.{Outcome, record_at, refused, roomy}
use Rattle.lock.specs.Steps.{stepped, stepped_from}
use Rattle.lock.specs.Turns.{Turn, asked, asked_at, exit_of, left, left_at, turn_from, turn_of, turned, unchanged}
use Rattle.queues.specs.Machine.{On}
use Rattle.queues.specs.Table.{Place, Idle, W1, U1, U4, R1, R7, Writer, Reader, Plan, Lock, go, upd, row}
use Rattle.queues.specs.Invariant.{Safe}
use Rattle.queues.specs.Jobs.{fresh_lock, Sensible}
use Rattle.queues.proofs.Phases.{upd_same, upd_other}
use Rattle.queues.proofs.Cases.{split}
use Rattle.queues.proofs.QueueRows.{one_writer}
use Rattle.queues.proofs.CounterRows.{bits, safe_row, safe_ask_write, safe_ask_read, safe_leave_write}
use Rattle.queues.proofs.CounterRows.{safe_leave_read, no_reader}
use Rattle.queues.proofs.Exclusion.{safe_start}
use Rattle.law.specs.Calls.{State, state, called, with_words, laid, ran, answers}
use Rattle.law.specs.Exclusion.{Alone}
use Rattle.law.specs.History.{History, adds_from, written_down, history, nothing}
use Rattle.law.specs.Law.{AllFair, Fair}
use Rattle.law.specs.Order.{Ordered}
use Rattle.law.specs.Presence.{Role, Presence, told, noted, seen, nobody, is_entered, is_free}
use Rattle.law.specs.declared.call.Call.{Call}
use Rattle.law.specs.declared.call.Call.TheVariants.{AskWrite, AskRead, Step, Leave}
use Rattle.law.proofs.Bridge.{machine_plan, Geometry, Shows, Stepped}
use Rattle.law.proofs.PresenceByPlace.{Link, Linked, linked, at_writes, at_inside, Rests, rested, Frees, freed}
use Rattle.law.proofs.RowsTellHistory.{traced}
use Rattle.law.proofs.InRange.{ranged, fits_ranged}
use Rattle.law.proofs.Writes.{shows_go}
use Rattle.law.proofs.Start.{shows_start}
use Rattle.law.proofs.HistoryByTurns.{Traces, ordered}
use Rattle.law.proofs.StepsAreRows.{lifted}

-- what holds between the calls of a job
pub record Holds (t : Tree) (ws : Words) (rs : List Record) (w : Presence) (h : History) (lock : Lock) (bit : ℕ → ℕ) :
    Type 0 where
  -- the lock of the machine has the invariant
  pub safe : Safe t.shape.ranks (machine_plan t) lock bit
  -- words and records show it
  pub shows : Shows t ws rs lock
  -- role and presence agree with the place
  pub link : (p : ℕ) → Link (lock.place p) (w.role p) (w.inside p)
  -- who is inside is a rank
  pub ranked : (p : ℕ) → w.inside p ≡ true → On t.shape.ranks p
  -- who is seen idle is
  pub rest : (p : ℕ) → w.idle p ≡ true → lock.place p ≡ Idle
  -- and who is, is seen so
  pub idles : (p : ℕ) → lock.place p ≡ Idle → w.idle p ≡ true
  -- the history is that of the turns
  pub trace : Traces lock.node_at lock.head_turn lock.next_turn h

-- and after one of them, with the lock that comes next
abbrev pub Kept : Tree → Words → List Record → Presence → History → Call → Outcome → Lock → (ℕ → ℕ) → Type 0
Kept t ws rs w h c o s bit = Holds t o.words o.records (told w c o.answer)
    (written_down t ws rs h c o.answer) s bit × Fair o.answer

-- for some lock and some write bits
abbrev pub SomeKept : Tree → Words → List Record → Presence → History → Call → Outcome → Type 0
SomeKept t ws rs w h c o = (s : Lock) × (bit : ℕ → ℕ) × Kept t ws rs w h c o s bit

-- the two tests in front of a call: both pass
gates : {A : Type 0} (a b : Bool) (x y z : A) → a ≡ true → b ≡ true → cond a (cond b x y) z ≡ x
gates a b x y z e d = rw (e, d)

-- the second fails
shut_gate : {A : Type 0} (a b : Bool) (x y z : A) → a ≡ true → b ≡ false → cond a (cond b x y) z ≡ y
shut_gate a b x y z e d = rw (e, d)

-- the place of a record that rests
is_idle : (f : Place) → standing_at f ≡ Resting → f ≡ Idle
is_idle f e = grind arith

-- that is in as writer
is_writing : (f : Place) → standing_at f ≡ Writing → f ≡ Writer
is_writing f e = grind arith

-- that is in as reader
is_reading : (f : Place) → standing_at f ≡ Reading → f ≡ Reader
is_reading f e = grind arith

-- where a writer goes when it leaves, it is not inside
out_of : (b : Bool) (N : ℕ) (r : Role) → Link (cond b (U1 N) U4) r false
out_of true N r = refl
out_of false N r = refl

-- nor idle
exit_off : (b : Bool) (N : ℕ) → cond b (U1 N) U4 ≢ Idle
exit_off true N z = let y : ◌≡◌ {A = ℕ} 0 1 = cc in omega arith
exit_off false N z = let y : ◌≡◌ {A = ℕ} 0 1 = cc in omega arith

-- the machine's way out is the lock's
pub exit_is : (N : ℕ) → cond (leb N 1) U4 (U1 N) ≡ cond (leb 2 N) (U1 N) U4
exit_is N = grind (arith, nat_tests)

module _ (t : Tree) (G : Geometry t) (ws : Words) (rs : List Record) (w : Presence) (h : History) (s : Lock)
    (bit : ℕ → ℕ) (k : Holds t ws rs w h s bit) where
  abbrev P : ℕ
  P = t.shape.ranks

  abbrev L : Plan
  L = machine_plan t

  -- a number that passes the test is a rank
  on_of : (p : ℕ) → within 1 P p ≡ true → On P p
  on_of p e =
      let z = and_parts (leb 1 p) (leb p P) e in record { from = leb-true 1 p z.0; upto = leb-true p P z.1 }

  -- and a rank passes it
  in_range : (p : ℕ) → On P p → within 1 P p ≡ true
  in_range p on = and_from (leb 1 p) (leb p P) (le-leb 1 p on.from) (le-leb p P on.upto)

  -- there are enough records
  enough : leb P (length rs) ≡ true
  enough = le-leb P (length rs) k.shows.ranks

  -- and enough homes
  has_room : roomy t ws rs ≡ true
  has_room =
      and_from (leb P (length rs)) (leb (homes t) ws.count) enough (le-leb (homes t) ws.count k.shows.room)

  -- the record of a rank is read back as its place
  shown : (p : ℕ) → On P p → parsed t p (record_at rs p) ≡ Some (s.place p)
  shown p on =
      ap (parsed t p) (k.shows.places p on)
      ∙ (reads_back t p (s.place p)
      ∙ ap (λ b. cond b (Some (s.place p)) None)
      (fits_ranged t p (s.place p) (ranged t G s bit k.safe p on (s.place p) refl)))

  -- a refused call changes nothing
  stays : (c : Call) (o : Outcome) (e : Refusal) → Fair (Err e) → o ≡ refused ws rs e → SomeKept t ws rs w h c o
  stays c o e f z = (s, bit, subst (λ x. Kept t ws rs w h c x s bit) (sym z) (k, f))

  -- a step that is not refused
  abbrev next_bit : ℕ → ℕ → ℕ
  next_bit p = bits P L G.apt.sensible s bit k.safe (s.place p)

  -- a step that is not refused keeps what holds
  step_kept : (p : ℕ) → On P p → (o : Outcome) → Stepped t s p (s.place p) o (row L s p (s.place p))
      → Kept t ws rs w h (Step p) o (row L s p (s.place p)) (next_bit p)
  step_kept p on o z = subst
      (λ a.
      Holds t o.words o.records (told w (Step p) a) (written_down t ws rs h (Step p) a)
      (row L s p (s.place p)) (next_bit p) × Fair a)
      (sym z.says) (
        record {
          safe = safe_row P L g s bit
              k.safe p (G.apt.all p on) (s.place p) refl;
          shows = z.shows;
          link = split p
              (λ q.
              Link ((row L s p (s.place p)).place q) (w.role q)
              (cond (eqb q p && is_entered z.answer) true (w.inside q)))
              (rw (eq-eqb p p refl, z.here)
              (subst
              (λ m. Linked m (w.role p) (w.inside p))
              z.follows
              (linked t p (w.role p) (w.inside p) (s.place p) z.given (k.link p))))
              (λ q ne. rw (ne_eqb q p ne, z.there q ne) (k.link q));
          ranked = split p
              (λ q. cond (eqb q p && is_entered z.answer) true (w.inside q) ≡ true → On P q)
              (λ _. on)
              (λ q ne. rw (ne_eqb q p ne) (k.ranked q));
          rest = split p
              (λ q.
              cond (eqb q p && is_free z.answer) true (w.idle q) ≡ true
              → (row L s p (s.place p)).place q ≡ Idle)
              (rw (eq-eqb p p refl, z.here)
              (subst (Rests (w.idle p)) z.follows
              (rested t p (w.idle p) (s.place p) z.given (k.rest p))))
              (λ q ne. rw (ne_eqb q p ne, z.there q ne) (k.rest q));
          idles = split p
              (λ q.
              (row L s p (s.place p)).place q ≡ Idle
              → cond (eqb q p && is_free z.answer) true (w.idle q) ≡ true)
              (rw (eq-eqb p p refl, z.here)
              (subst (Frees (w.idle p)) z.follows (freed t p (w.idle p) (s.place p) z.given)))
              (λ q ne. rw (ne_eqb q p ne, z.there q ne) (k.idles q));
          trace = subst
              (λ (x : Option Place).
              Traces (row L s p (s.place p)).node_at (row L s p (s.place p)).head_turn
              (row L s p (s.place p)).next_turn (adds_from t ws p h x))
              (sym (shown p on))
              (traced t G ws rs s bit k.safe k.shows p on h k.trace (s.place p) refl);
        },
        tt,
      )
    where
      g : Sensible P L
      g = G.apt.sensible

  -- the code's step of a known rank is the row of the place that its record shows
  stepped_is : (p : ℕ) → On P p → stepped t ws rs p ≡ stepped_from t ws rs p (Some (s.place p))
  stepped_is p on = gates (roomy t ws rs) (within 1 P p) (stepped_from t ws rs p (parsed t p (record_at rs p)))
      (refused ws rs UnknownRank) _ has_room (in_range p on) ∙ ap (stepped_from t ws rs p) (shown p on)

  -- every step does
  kept_step : (p : ℕ) → SomeKept t ws rs w h (Step p) (called t ws rs (Step p))
  kept_step p = by (within 1 P p) refl
    where
      by : (b : Bool) → within 1 P p ≡ b → SomeKept t ws rs w h (Step p) (stepped t ws rs p)
      by false e = stays (Step p) (stepped t ws rs p) UnknownRank refl
          (shut_gate (roomy t ws rs) (within 1 P p) _ _ _ has_room e)
      by true e = subst (SomeKept t ws rs w h (Step p)) (sym (stepped_is p (on_of p e)))
          (⊎_elim
          (λ (z : Stepped t s p (s.place p) (stepped_from t ws rs p (Some (s.place p)))
          (row L s p (s.place p))). (
            row L s p (s.place p),
            next_bit p,
            step_kept p (on_of p e) (stepped_from t ws rs p (Some (s.place p))) z,
          ))
          (λ (z : (standing_at (s.place p) ≢ UnderWay)
          × (stepped_from t ws rs p (Some (s.place p)) ≡ refused ws rs NotUnderWay)).
          stays (Step p) (stepped_from t ws rs p (Some (s.place p))) NotUnderWay refl z.1)
          (lifted t G ws rs s bit k.safe k.shows p (on_of p e) (s.place p) refl))

  -- a step of a rank that is under way is done, and it is the row: what a chosen list of calls builds on
  pub does_row : (p : ℕ) → On P p → standing_at (s.place p) ≡ UnderWay
      → Kept t ws rs w h (Step p) (called t ws rs (Step p)) (row L s p (s.place p)) (next_bit p)
  does_row p on u = subst
      (λ o. Kept t ws rs w h (Step p) o (row L s p (s.place p)) (next_bit p))
      (sym (stepped_is p on))
      (⊎_elim
      (λ (z : Stepped t s p (s.place p) (stepped_from t ws rs p (Some (s.place p)))
      (row L s p (s.place p))).
      step_kept p on (stepped_from t ws rs p (Some (s.place p))) z)
      (λ (z : (standing_at (s.place p) ≢ UnderWay)
      × (stepped_from t ws rs p (Some (s.place p)) ≡ refused ws rs NotUnderWay)).
      absurd (z.0 u))
      (lifted t G ws rs s bit k.safe k.shows p on (s.place p) refl))

  -- a rank sent to a place by an ask or a leave
  sent : (c : Call) (p : ℕ) → On P p → (f : Place) (a : Answer) → Safe P L (go s p f) bit → f ≢ Idle
      → Link f ((noted w c a).role p) ((noted w c a).inside p) → ((noted w c a).idle p ≡ false)
      → written_down t ws rs h c (Ok a) ≡ h
      → ((q : ℕ) → q ≢ p
      → ((noted w c a).role q ≡ w.role q) × ((noted w c a).inside q ≡ w.inside q)
      × ((noted w c a).idle q ≡ w.idle q))
      → Kept t ws rs w h c (with_words ws (turned rs p f a)) (go s p f) bit
  sent c p on f a v off here up same there = (
    record {
      safe = v;
      shows = shows_go t ws rs s k.shows p on f;
      link = split p
          (λ q. Link (upd s.place p f q) ((noted w c a).role q) ((noted w c a).inside q))
          (rw (upd_same s.place p f) here)
          (λ q ne. rw (upd_other s.place p f q ne, (there q ne).0, (there q ne).1) (k.link q));
      ranked =
          split p (λ q. (noted w c a).inside q ≡ true → On P q) (λ _. on) (λ q ne. rw (there q ne).1 (k.ranked q));
      rest = split p
          (λ q. (noted w c a).idle q ≡ true → upd s.place p f q ≡ Idle)
          (λ z. absurd (true≢false (sym z ∙ up)))
          (λ q ne. rw (upd_other s.place p f q ne, (there q ne).2) (k.rest q));
      idles = split p
          (λ q. upd s.place p f q ≡ Idle → (noted w c a).idle q ≡ true)
          (λ z. absurd (off (sym (upd_same s.place p f) ∙ z)))
          (λ q ne. rw (upd_other s.place p f q ne, (there q ne).2) (k.idles q));
      trace = subst (Traces s.node_at s.head_turn s.next_turn) (sym same) k.trace;
    },
    tt,
  )

  -- a call that touches no word, of a known rank, is what it does at the place that the record shows
  turn_is : (p : ℕ) → On P p → (f : Place → Turn) → turn_of t rs p f ≡ f (s.place p)
  turn_is p on f = gates (leb P (length rs)) (within 1 P p) (turn_from rs f (parsed t p (record_at rs p)))
      (unchanged rs UnknownRank) _ enough (in_range p on) ∙ ap (turn_from rs f) (shown p on)

  -- a call of no rank changes nothing
  no_turn : (p : ℕ) → within 1 P p ≡ false → (f : Place → Turn) → turn_of t rs p f ≡ unchanged rs UnknownRank
  no_turn p e f = shut_gate (leb P (length rs)) (within 1 P p) _ _ _ enough e

  -- an ask
  asks : (c : Call) (p : ℕ) (f : Place) → called t ws rs c ≡ with_words ws (asked t rs p f)
      → (On P p → s.place p ≡ Idle → Kept t ws rs w h c (with_words ws (turned rs p f Asked)) (go s p f) bit)
      → SomeKept t ws rs w h c (called t ws rs c)
  asks c p f d ok = subst (SomeKept t ws rs w h c) (sym d) (by (within 1 P p) refl)
    where
      by : (b : Bool) → within 1 P p ≡ b → SomeKept t ws rs w h c (with_words ws (asked t rs p f))
      by false e = stays c (with_words ws (asked t rs p f)) UnknownRank refl
          (ap (with_words ws) (no_turn p e (λ q. asked_at rs p f (standing_at q))))
      by true e = subst
          (λ x. SomeKept t ws rs w h c (with_words ws x))
          (sym (turn_is p (on_of p e) (λ q. asked_at rs p f (standing_at q))))
          (at (standing_at (s.place p)) refl)
        where
          at : (d : Standing) → standing_at (s.place p) ≡ d
              → SomeKept t ws rs w h c (with_words ws (asked_at rs p f d))
          at Resting z = (go s p f, bit, ok (on_of p e) (is_idle (s.place p) z))
          at UnderWay z = (s, bit, (k, refl))
          at Writing z = (s, bit, (k, refl))
          at Reading z = (s, bit, (k, refl))

  -- at an idle rank, and at one that is in
  was : (p : ℕ) (f : Place) → s.place p ≡ f → Link f (w.role p) (w.inside p)
  was p f e = subst (λ g. Link g (w.role p) (w.inside p)) e (k.link p)

  -- every rank has level 1
  one_of : (p : ℕ) → On P p → On (L.tree.own_level p) 1
  one_of p on = G.apt.all p on

  -- a rank that is not idle is not seen idle
  not_rest : (p : ℕ) (f : Place) → s.place p ≡ f → f ≢ Idle → w.idle p ≡ false
  not_rest p f e ne = ⊎_elim
      (λ (z : w.idle p ≡ true). absurd (ne (sym e ∙ k.rest p z)))
      (λ (z : w.idle p ≡ false). z)
      (cases_Bool (w.idle p))

  -- every ask to write
  kept_ask_write : (p : ℕ) → SomeKept t ws rs w h (AskWrite p) (called t ws rs (AskWrite p))
  kept_ask_write p = asks (AskWrite p) p (W1 (own_level t p)) refl
      (λ on e.
      sent (AskWrite p) p on (W1 (own_level t p)) Asked
      (safe_ask_write P L g s bit k.safe p
      (one_of p on) e)
      (λ z. let y : ◌≡◌ {A = ℕ} 0 1 = cc in omega arith)
      (rw (eq-eqb p p refl) (was p Idle e, refl))
      (rw (eq-eqb p p refl))
      refl
      (λ q ne. rw (ne_eqb q p ne) (refl, refl, refl)))
    where
      g : Sensible P L
      g = G.apt.sensible

  -- every ask to read
  kept_ask_read : (p : ℕ) → SomeKept t ws rs w h (AskRead p) (called t ws rs (AskRead p))
  kept_ask_read p = asks (AskRead p) p R1 refl
      (λ on e.
      sent (AskRead p) p on R1 Asked
      (safe_ask_read P L g s bit k.safe p e)
      (λ z. let y : ◌≡◌ {A = ℕ} 0 1 = cc in omega arith)
      (rw (eq-eqb p p refl) (was p Idle e, refl))
      (rw (eq-eqb p p refl))
      refl
      (λ q ne. rw (ne_eqb q p ne) (refl, refl, refl)))
    where
      g : Sensible P L
      g = G.apt.sensible

  -- a leave of a writer
  leave_writes : (p : ℕ) → On P p → s.place p ≡ Writer
      → Kept t ws rs w h (Leave p) (with_words ws (turned rs p (exit_of t p) Leaving)) (go s p (exit_of t p)) bit
  leave_writes p on e = sent (Leave p) p on (exit_of t p) Leaving
      (subst
      (λ f. Safe P L (go s p f) bit)
      exit
      (safe_leave_write P L g s bit k.safe p
      e))
      (exit_off (leb 2 (own_level t p)) (own_level t p))
      (rw (eq-eqb p p refl) (out_of (leb 2 (own_level t p)) (own_level t p) (w.role p)))
      (not_rest p Writer e (λ z. let y : ◌≡◌ {A = ℕ} 0 1 = cc in omega arith)) refl
      (λ q ne. rw (ne_eqb q p ne) (refl, refl, refl))
    where
      g : Sensible P L
      g = G.apt.sensible

      exit : cond (leb (L.tree.own_level p) 1) U4 (U1 (L.tree.own_level p)) ≡ exit_of t p
      exit = exit_is (own_level t p)

  -- and of a reader
  leave_reads : (p : ℕ) → On P p → s.place p ≡ Reader
      → Kept t ws rs w h (Leave p) (with_words ws (turned rs p R7 Leaving)) (go s p R7) bit
  leave_reads p on e = sent (Leave p) p on R7 Leaving
      (safe_leave_read P L g s bit k.safe p
      on e)
      (λ z. let y : ◌≡◌ {A = ℕ} 0 1 = cc in omega arith)
      (rw (eq-eqb p p refl) refl)
      (not_rest p Reader e (λ z. let y : ◌≡◌ {A = ℕ} 0 1 = cc in omega arith))
      refl
      (λ q ne. rw (ne_eqb q p ne) (refl, refl, refl))
    where
      g : Sensible P L
      g = G.apt.sensible

  -- a leave is what it does at the place that the record shows
  left_is : (p : ℕ) → On P p → left t rs p ≡ left_at t rs p (standing_at (s.place p))
  left_is p on = turn_is p on (λ q. left_at t rs p (standing_at q))

  -- every leave
  kept_leave : (p : ℕ) → SomeKept t ws rs w h (Leave p) (called t ws rs (Leave p))
  kept_leave p = by (within 1 P p) refl
    where
      by : (b : Bool) → within 1 P p ≡ b → SomeKept t ws rs w h (Leave p) (with_words ws (left t rs p))
      by false e = stays (Leave p) (with_words ws (left t rs p)) UnknownRank refl
          (ap (with_words ws) (no_turn p e (λ q. left_at t rs p (standing_at q))))
      by true e = subst
          (λ x. SomeKept t ws rs w h (Leave p) (with_words ws x))
          (sym (left_is p (on_of p e)))
          (at (standing_at (s.place p)) refl)
        where
          at : (d : Standing) → standing_at (s.place p) ≡ d
              → SomeKept t ws rs w h (Leave p) (with_words ws (left_at t rs p d))
          at Resting z = (s, bit, (k, refl))
          at UnderWay z = (s, bit, (k, refl))
          at Writing z = (go s p (exit_of t p), bit, leave_writes p (on_of p e) (is_writing (s.place p) z))
          at Reading z = (go s p R7, bit, leave_reads p (on_of p e) (is_reading (s.place p) z))

  -- a leave of a rank that is in as writer is done
  pub does_leave_write : (p : ℕ) → On P p → s.place p ≡ Writer
      → Kept t ws rs w h (Leave p) (called t ws rs (Leave p)) (go s p (exit_of t p)) bit
  does_leave_write p on e = subst
      (λ x. Kept t ws rs w h (Leave p) (with_words ws x) (go s p (exit_of t p)) bit)
      (sym (left_is p on ∙ ap (λ f. left_at t rs p (standing_at f)) e))
      (leave_writes p on e)

  -- and so is one of a rank that is in as reader
  pub does_leave_read : (p : ℕ) → On P p → s.place p ≡ Reader
      → Kept t ws rs w h (Leave p) (called t ws rs (Leave p)) (go s p R7) bit
  does_leave_read p on e = subst
      (λ x. Kept t ws rs w h (Leave p) (with_words ws x) (go s p R7) bit)
      (sym (left_is p on ∙ ap (λ f. left_at t rs p (standing_at f)) e))
      (leave_reads p on e)

  -- every call
  pub kept : (c : Call) → SomeKept t ws rs w h c (called t ws rs c)
  kept (AskWrite p) = kept_ask_write p
  kept (AskRead p) = kept_ask_read p
  kept (Step p) = kept_step p
  kept (Leave p) = kept_leave p

  -- a writer that is inside is alone
  pub alone : Alone w
  alone p q a b d = by (at_inside (s.place q) (w.role q) (w.inside q) (k.link q) d)
    where
      g : Sensible P L
      g = G.apt.sensible

      on_p : On (L.tree.own_level p) 1
      on_p = one_of p (k.ranked p a)

      on_q : On (L.tree.own_level q) 1
      on_q = one_of q (k.ranked q d)

      at_p : s.place p ≡ Writer
      at_p = at_writes (s.place p) (w.role p) (w.inside p) (k.link p) a b

      by : (s.place q ≡ Writer) ⊎ (s.place q ≡ Reader) → p ≡ q
      by (inl z) = one_writer L g.tree g.small s k.safe.fine p q on_p on_q (g.root p q on_p on_q) at_p z
      by (inr z) = absurd (no_reader P L g s bit k.safe p q on_q at_p z)

-- some lock holds
abbrev pub SomeHolds : Tree → Words → List Record → Presence → History → Type 0
SomeHolds t ws rs w h = (s : Lock) × (bit : ℕ → ℕ) × Holds t ws rs w h s bit

-- over all calls of a job
pub holds_ran : (t : Tree) → Geometry t
    → (calls : List Call) (ws : Words) (rs : List Record) (w : Presence) (h : History) → SomeHolds t ws rs w h
    → SomeHolds t (ran t (state ws rs) calls).words (ran t (state ws rs) calls).records
    (seen w calls (answers t (state ws rs) calls)) (history t (state ws rs) h calls)
holds_ran t G [] ws rs w h k = k
holds_ran t G (c ∷ cs) ws rs w h k =
    let o = called t ws rs c in
    let z = kept t G ws rs w h k.0 k.1 k.2 c in
    holds_ran t G cs o.words o.records (told w c o.answer) (written_down t ws rs h c o.answer)
    (z.0, z.1, z.2.0)

-- and no call is refused but by the caller's doing
pub fair_ran : (t : Tree) → Geometry t
    → (calls : List Call) (ws : Words) (rs : List Record) (w : Presence) (h : History) → SomeHolds t ws rs w h
    → AllFair (answers t (state ws rs) calls)
fair_ran t G [] ws rs w h k = tt
fair_ran t G (c ∷ cs) ws rs w h k =
    let o = called t ws rs c in
    let z = kept t G ws rs w h k.0 k.1 k.2 c in (
      z.2.1,
      fair_ran t G cs o.words o.records (told w c o.answer) (written_down t ws rs h c o.answer)
          (z.0, z.1, z.2.0),
    )

-- right after layout
start : (t : Tree) → Geometry t → (ws : Words) (rs : List Record) → laid_answer t ws rs ≡ Ok tt
    → Holds t (laid_words t ws rs) (laid_records t ws rs) nobody nothing fresh_lock (λ c. 0)
start t G ws rs e =
    record {
      safe = safe_start t.shape.ranks (machine_plan t);
      shows = shows_start t G ws rs e;
      link = λ p. refl;
      ranked = λ p z. absurd (true≢false (sym z));
      rest = λ p z. refl;
      idles = λ p z. refl;
      trace = record { joined = λ q. refl; came = λ q. refl; gone = λ q. refl };
    }

module _ (t : Tree) (G : Geometry t) (ws : Words) (rs : List Record) (e : laid_answer t ws rs ≡ Ok tt)
    (calls : List Call) where
  -- the state after the calls
  abbrev end : State
  end = ran t (laid t ws rs) calls

  -- who is in after them, by the answers
  abbrev eye : Presence
  eye = seen nobody calls (answers t (laid t ws rs) calls)

  -- the history, by the rows
  abbrev end_history : History
  end_history = history t (laid t ws rs) nothing calls

  -- what holds then
  pub at_end : SomeHolds t end.words end.records eye end_history
  at_end = holds_ran t G calls (laid_words t ws rs) (laid_records t ws rs) nobody nothing
      (fresh_lock, (λ c. 0), start t G ws rs e)

  -- exclusion
  pub end_alone : Alone eye
  end_alone = alone t G end.words end.records eye end_history at_end.0 at_end.1 at_end.2

  -- fair refusals
  pub end_fair : AllFair (answers t (laid t ws rs) calls)
  end_fair =
      fair_ran t G calls (laid_words t ws rs) (laid_records t ws rs) nobody nothing
      (fresh_lock, (λ c. 0), start t G ws rs e)

  -- order
  pub end_order : (k : ℕ) → Ordered (history t (laid t ws rs) nothing calls) k
  end_order =
      let k = at_end in
      ordered k.0.node_at k.0.head_turn k.0.next_turn end_history k.2.safe.fine.queues.order
      k.2.trace
