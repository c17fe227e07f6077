-- No job changes what lies beyond its lock: the home of a row's one operation is one of the lock's, and the record
-- that is written is that of a rank.
use Rattle.std.proofs.Common.{◌≡◌, ℕ, zero, suc, ◌+◌, ◌-◌, ◌≤◌, Bool, true, false, cond, ◌&&◌, ltb, leb, List, [], ◌∷◌, ◌++◌, drop, replicate, Some, None, Ok, Err, Option, Result, refl, ap, ◌∙◌, arith}
use Rattle.std.proofs.lemmas.List.{drop-set-lt}
use Rattle.std.proofs.lemmas.Bool.{and_parts, leb-true, le-ltb, ltb-true}
use Rattle.refusal.specs.declared.Refusal.{Refusal}
use Rattle.refusal.specs.declared.Refusal.TheVariants.{TooShort, UnknownRank}
use Rattle.memory.proofs.Locality.{performed_local}
use Rattle.memory.specs.Sizes.{home_words}
use Rattle.memory.specs.Words.{Words, got, refusing}
use Rattle.plan.specs.Shapes.{within}
use Rattle.plan.specs.Trees.{Tree, counters, has_rank, homes, own_level, tree_of}
use Rattle.plan.specs.declared.plan.Plan.{Plan}
use Rattle.places.specs.Records.{checked, fits, home_fits, level_fits, lower_level_fits, named, parsed, recorded}
use Rattle.places.specs.Standings.{standing_at}
use Rattle.places.specs.Table.{access_of}
use Rattle.places.specs.declared.access.Access.{Access}
use Rattle.places.specs.declared.follow.Next.{Next}
use Rattle.places.specs.declared.place.Place.{Place}
use Rattle.places.specs.declared.place.Place.TheVariants.{Idle, W1, W2, W3, W4, W5, W6, W7, W8, W9, U1, U2, U3, U4, U5}
use Rattle.places.specs.declared.place.Place.TheVariants.{U6, U7, U8, U9, U10, R1, R2, R3, R4, R5, R6, R7, Writer, Reader}
use Rattle.places.specs.declared.place.Standing.{Standing}
use Rattle.places.specs.declared.place.Standing.TheVariants.{Reading, Resting, UnderWay, Writing}
use Rattle.places.specs.declared.record.Record.{Record}
use Rattle.lock.specs.Layouts.{cleared, idled, laid_records, laid_words}
use Rattle.lock.specs.Outcomes.{Outcome, enough_records, placed, record_at, refused, roomy}
use Rattle.lock.specs.Steps.{row_next, row_words, stepped, stepped_from, stepped_to}
use Rattle.lock.specs.Turns.{Turn, asked_at, exit_of, left_at, turn_from, turn_of, unchanged}
use Rattle.queues.specs.Machine.{On}
use Rattle.law.proofs.Bridge.{Geometry, Ranged}
use Rattle.law.proofs.InRange.{Reach, reaches}
use Rattle.law.proofs.PlanGeometry.{every_plan}
use Rattle.law.specs.Beyond.{BeyondKept, RecordsKept, WordsKept}
use Rattle.law.specs.Calls.{State, after, called, laid, ran, state}
use Rattle.law.specs.declared.call.Call.{Call}
use Rattle.law.specs.declared.call.Call.TheVariants.{AskWrite, AskRead, Step, Leave}

-- what stands behind n copies
drop_front : {X : Type 0} (n : ℕ) (x : X) (rest : List X) → drop n (replicate n x ++ rest) ≡ rest
drop_front zero x rest = refl
drop_front (suc n) x rest = drop_front n x rest

-- a number that passes its test is in range
on_within : (n i : ℕ) → within 1 n i ≡ true → On n i
on_within n i e =
    let z = and_parts (leb 1 i) (leb i n) e in
    record { from = leb-true 1 i z.0; upto = leb-true i n z.1 }

-- a level and a home that was read from a word
level_and_home : (t : Tree) (p i h : ℕ) → (level_fits t p i && home_fits t h) ≡ true
    → On (own_level t p) i × On (homes t) h
level_and_home t p i h e =
    let z = and_parts (level_fits t p i) (home_fits t h) e in
    (on_within (own_level t p) i z.0, on_within (homes t) h z.1)

lower_level : (t : Tree) (p i : ℕ) → lower_level_fits t p i ≡ true → (2 ≤ i) × (i ≤ own_level t p)
lower_level t p i e =
    let z = and_parts (leb 2 i) (leb i (own_level t p)) e in
    (leb-true 2 i z.0, leb-true i (own_level t p) z.1)

-- so a record that is not spoiled has its fields in range
ranged_fits : (t : Tree) (p : ℕ) (f : Place) → fits t p f ≡ true → Ranged t p f
ranged_fits t p Idle e = tt
ranged_fits t p (W1 i) e = on_within (own_level t p) i e
ranged_fits t p (W2 i) e = on_within (own_level t p) i e
ranged_fits t p (W3 i) e = on_within (own_level t p) i e
ranged_fits t p (W4 i h) e = level_and_home t p i h e
ranged_fits t p (W5 i) e = on_within (own_level t p) i e
ranged_fits t p (W6 i) e = on_within (own_level t p) i e
ranged_fits t p (W7 k) e = ltb-true k (counters t) e
ranged_fits t p (W8 k) e = ltb-true k (counters t) e
ranged_fits t p (W9 k n) e = ltb-true k (counters t) e
ranged_fits t p (U1 i) e = lower_level t p i e
ranged_fits t p (U2 i n) e = lower_level t p i e
ranged_fits t p (U3 i h n) e = level_and_home t p i h e
ranged_fits t p U4 e = tt
ranged_fits t p (U5 n) e = tt
ranged_fits t p (U6 k) e = ltb-true k (counters t) e
ranged_fits t p (U7 k n) e = ltb-true k (counters t) e
ranged_fits t p (U8 i) e = on_within (own_level t p) i e
ranged_fits t p (U9 i h) e = level_and_home t p i h e
ranged_fits t p (U10 i) e = on_within (own_level t p) i e
ranged_fits t p R1 e = tt
ranged_fits t p R2 e = tt
ranged_fits t p R3 e = tt
ranged_fits t p R4 e = tt
ranged_fits t p R5 e = tt
ranged_fits t p (R6 n) e = tt
ranged_fits t p R7 e = tt
ranged_fits t p Writer e = tt
ranged_fits t p Reader e = tt

-- layout clears the lock's homes and idles the records of its ranks
layout_words : (t : Tree) (ws : Words) (rs : List Record) → WordsKept t ws (laid_words t ws rs)
layout_words t ws rs h o far = by (roomy t ws rs)
  where
    behind : ltb h (homes t + 1) ≡ false
    behind = le-ltb h (homes t + 1) (omega arith)

    word_kept : cond (leb 1 h && ltb h (homes t + 1) && ltb o home_words) 0 (ws.word h o) ≡ ws.word h o
    word_kept = apart (leb 1 h) (ltb h (homes t + 1)) (ltb o home_words) behind
      where
        apart : (a b c : Bool) → b ≡ false → cond (a && b && c) 0 (ws.word h o) ≡ ws.word h o
        apart true b c e = rw e
        apart false b c e = refl

    by : (b : Bool) → got (cond b (cleared ws (homes t + 1)) ws) h o ≡ got ws h o
    by true = ap (λ (w : ℕ). refusing ws.count h o Err (Ok w)) word_kept
    by false = refl

layout_records : (t : Tree) (ws : Words) (rs : List Record) → RecordsKept t rs (laid_records t ws rs)
layout_records t ws rs = by (roomy t ws rs)
  where
    by : (b : Bool) → drop t.shape.ranks (cond b (idled rs t.shape.ranks) rs) ≡ drop t.shape.ranks rs
    by true = drop_front t.shape.ranks (recorded Idle) (drop t.shape.ranks rs)
    by false = refl

-- a rank's record lies before them
placed_kept : (t : Tree) (rs : List Record) (p : ℕ) (q : Place) → has_rank t p ≡ true → RecordsKept t rs (placed rs p q)
placed_kept t rs p q e =
    let on = on_within t.shape.ranks p e in
    let l = on.from in
    let h = on.upto in
    drop-set-lt t.shape.ranks rs (p - 1) (recorded q) (omega (arith, l, h))

-- both, of what a call leaves
abbrev Kept : Tree → Words → List Record → Words → List Record → Type 0
Kept t ws rs vs qs = WordsKept t ws vs × RecordsKept t rs qs

same : (t : Tree) (ws : Words) (rs : List Record) → Kept t ws rs ws rs
same t ws rs = ((λ h o far. refl), refl)

-- a row
row_kept : (t : Tree) (ws : Words) (a : Option Access) → Reach t a → WordsKept t ws (row_words ws a)
row_kept t ws None r h o far = refl
row_kept t ws (Some a) r h o far =
    let upto = r.upto in
    performed_local ws a.home a.offset a.operation h o
    (λ z. let e = z.0 in absurd (omega (arith, e, upto, far)))

row_both : (t : Tree) (ws : Words) (rs : List Record) (p : ℕ) (a : Option Access) (n : Result Next Refusal)
    → Reach t a → has_rank t p ≡ true
    → Kept t ws rs (stepped_to ws (row_words ws a) rs p n).words (stepped_to ws (row_words ws a) rs p n).records
row_both t ws rs p a (Err e) r here = same t ws rs
row_both t ws rs p a (Ok n) r here = (row_kept t ws a r, placed_kept t rs p n.place here)

-- the tests before a row
tests_both : (t : Tree) (ws : Words) (rs : List Record) (x : Outcome) (a b : Bool)
    → (b ≡ true → Kept t ws rs x.words x.records)
    → Kept t ws rs
    (cond a (cond b x (refused ws rs UnknownRank)) (refused ws rs TooShort)).words
    (cond a (cond b x (refused ws rs UnknownRank)) (refused ws rs TooShort)).records
tests_both t ws rs x true true k = k refl
tests_both t ws rs x true false k = same t ws rs
tests_both t ws rs x false b k = same t ws rs

-- asks and leaves
asked_kept : (t : Tree) (rs : List Record) (p : ℕ) (q : Place) → has_rank t p ≡ true → (s : Standing)
    → RecordsKept t rs (asked_at rs p q s).records
asked_kept t rs p q here Resting = placed_kept t rs p q here
asked_kept t rs p q here UnderWay = refl
asked_kept t rs p q here Writing = refl
asked_kept t rs p q here Reading = refl

left_kept : (t : Tree) (rs : List Record) (p : ℕ) → has_rank t p ≡ true → (s : Standing)
    → RecordsKept t rs (left_at t rs p s).records
left_kept t rs p here Resting = refl
left_kept t rs p here UnderWay = refl
left_kept t rs p here Writing = placed_kept t rs p (exit_of t p) here
left_kept t rs p here Reading = placed_kept t rs p R7 here

turn_kept : (t : Tree) (rs : List Record) (p : ℕ) (f : Place → Turn)
    → (has_rank t p ≡ true → (q : Place) → RecordsKept t rs (f q).records)
    → RecordsKept t rs (turn_of t rs p f).records
turn_kept t rs p f k = by (enough_records t rs) (has_rank t p) k
  where
    from : (o : Option Place) → ((q : Place) → RecordsKept t rs (f q).records)
        → RecordsKept t rs (turn_from rs f o).records
    from None each = refl
    from (Some q) each = each q

    by : (a b : Bool) → (b ≡ true → (q : Place) → RecordsKept t rs (f q).records)
        → RecordsKept t rs
        (cond a (cond b (turn_from rs f (parsed t p (record_at rs p))) (unchanged rs UnknownRank))
        (unchanged rs TooShort)).records
    by true true each = from (parsed t p (record_at rs p)) (each refl)
    by true false each = refl
    by false b each = refl

module _ (t : Tree) (G : Geometry t) where
  -- a step
  from_both : (ws : Words) (rs : List Record) (p : ℕ) (o : Option Place) → has_rank t p ≡ true
      → Kept t ws rs (stepped_from t ws rs p (checked t p o)).words (stepped_from t ws rs p (checked t p o)).records
  from_both ws rs p None here = same t ws rs
  from_both ws rs p (Some q) here = by (fits t p q) refl
    where
      by : (b : Bool) → fits t p q ≡ b
          → Kept t ws rs (stepped_from t ws rs p (cond b (Some q) None)).words
          (stepped_from t ws rs p (cond b (Some q) None)).records
      by true e =
          row_both t ws rs p (access_of t p q) (row_next t ws p q (access_of t p q))
          (reaches t G p (on_within t.shape.ranks p here) q (ranged_fits t p q e)) here
      by false e = same t ws rs

  step_both : (ws : Words) (rs : List Record) (p : ℕ)
      → Kept t ws rs (stepped t ws rs p).words (stepped t ws rs p).records
  step_both ws rs p =
      tests_both t ws rs (stepped_from t ws rs p (parsed t p (record_at rs p))) (roomy t ws rs) (has_rank t p)
      (from_both ws rs p (named (record_at rs p)))

  -- any call
  call_both : (ws : Words) (rs : List Record) (c : Call)
      → Kept t ws rs (called t ws rs c).words (called t ws rs c).records
  call_both ws rs (AskWrite p) = (
    (λ h o far. refl),
    turn_kept t rs p (λ q. asked_at rs p (W1 (own_level t p)) (standing_at q))
        (λ here q. asked_kept t rs p (W1 (own_level t p)) here (standing_at q)),
  )
  call_both ws rs (AskRead p) = (
    (λ h o far. refl),
    turn_kept t rs p (λ q. asked_at rs p R1 (standing_at q))
        (λ here q. asked_kept t rs p R1 here (standing_at q)),
  )
  call_both ws rs (Step p) = step_both ws rs p
  call_both ws rs (Leave p) = (
    (λ h o far. refl),
    turn_kept t rs p (λ q. left_at t rs p (standing_at q))
        (λ here q. left_kept t rs p here (standing_at q)),
  )

  -- and all of them
  run_kept : (s : State) (cs : List Call) → BeyondKept t s (ran t s cs)
  run_kept s [] = record { words = λ h o far. refl; records = refl }
  run_kept s (c ∷ cs) =
      let one = call_both s.words s.records c in
      let more = run_kept (after t s c) cs in
      record {
        words = λ h o far. more.words h o far ∙ one.0 h o far;
        records = more.records ∙ one.1;
      }

  -- a whole job
  pub job_kept : (ws : Words) (rs : List Record) (cs : List Call) → BeyondKept t (state ws rs) (ran t (laid t ws rs) cs)
  job_kept ws rs cs =
      let more = run_kept (laid t ws rs) cs in
      record {
        words = λ h o far. more.words h o far ∙ layout_words t ws rs h o far;
        records = more.records ∙ layout_records t ws rs;
      }

-- for every plan
pub beyond_kept : (plan : Plan) (ws : Words) (rs : List Record) (cs : List Call)
    → BeyondKept (tree_of plan) (state ws rs) (ran (tree_of plan) (laid (tree_of plan) ws rs) cs)
beyond_kept plan ws rs cs = job_kept (tree_of plan) (every_plan plan) ws rs cs
