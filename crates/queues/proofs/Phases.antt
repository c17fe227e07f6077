-- What a row changes of phases and statuses. A phase reads a word at W5 alone, and a place speaks only of statuses of
-- nodes that its rank uses: so a STATUS written elsewhere changes neither.
use Rattle.std.proofs.Common.{◌≡◌, ℕ, suc, ◌<◌, ◌≤◌, Bool, true, false, cond, eqb, leb, ◌≢◌, ◌⊎◌, refl, ap, ◌∙◌, inl, inr, ⊎_elim, arith}
use Rattle.std.proofs.lemmas.Bool.Decides.{nat_tests}
use Rattle.std.proofs.lemmas.Bool.{cases_eq, eq-eqb, ne_eqb, le-leb, lt-leb}
use Rattle.places.specs.Words.{most_hand_overs}
use Rattle.queues.specs.Machine.{On, wait, hold, hold_level, InRange}
use Rattle.queues.specs.Table.{Place, Idle, W1, W2, W3, W4, W5, W6, W7, W8, W9, U1, U2, U3, U4, U5, U6, U7, U8, U9}
use Rattle.queues.specs.Table.{U10, R1, R2, R3, R4, R5, R6, R7, Writer, Reader, WAIT, told_status, Plan, upd}
use Rattle.queues.specs.Table.{phase_of, status_level, Counts, Sound}

-- a changed function at the changed number
pub upd_same : {A : Type 0} (f : ℕ → A) (a : ℕ) (v : A) → upd f a v a ≡ v
unfolding upd
upd_same f a v = rw (eq-eqb a a refl)

-- and at any other
pub upd_other : {A : Type 0} (f : ℕ → A) (a : ℕ) (v : A) (b : ℕ) → b ≢ a → upd f a v b ≡ f b
unfolding upd
upd_other f a v b h = rw (ne_eqb b a h)

-- a phase reads a word at W5 alone
pub phase_same : (f : Place) (w w' : ℕ) → ((j : ℕ) → f ≡ W5 j → w' ≡ w) → phase_of f w' ≡ phase_of f w
phase_same f w w' e = grind (arith, nat_tests)

-- at W5 with WAIT a rank waits
pub w5_wait : (i w : ℕ) → w ≡ WAIT → phase_of (W5 i) w ≡ wait i
w5_wait i w e = rw (eq-eqb w WAIT e)

-- with a count it holds the whole machine
pub w5_count : (i w : ℕ) → w ≤ most_hand_overs → phase_of (W5 i) w ≡ hold 1
w5_count i w e = rw (ne_eqb w WAIT (omega arith), le-leb w most_hand_overs e)

-- with anything else it holds this level
pub w5_told : (i w : ℕ) → w ≢ WAIT → most_hand_overs < w → phase_of (W5 i) w ≡ hold i
w5_told i w e h = rw (ne_eqb w WAIT e, lt-leb w most_hand_overs h)

-- what U9 writes is neither WAIT nor a count
pub told_large : (i : ℕ) → (WAIT < told_status i) × (most_hand_overs < told_status i)
told_large i = ⊎_elim
    (λ (z : i ≡ 1). rw (eq-eqb i 1 z) (omega arith))
    (λ (z : i ≡ 1 → ⊥). rw (ne_eqb i 1 z) (omega arith))
    (cases_eq i 1)

-- at W5 a rank holds all below
w5_levels : (top i : ℕ) (a b : Bool) → hold_level top (cond a (wait i) (cond b (hold 1) (hold i))) ≤ suc i
w5_levels top i true b = omega arith
w5_levels top i false true = omega arith
w5_levels top i false false = omega arith

-- at W5 a rank holds all below
pub w5_level : (top i w : ℕ) → hold_level top (phase_of (W5 i) w) ≤ suc i
w5_level top i w = w5_levels top i (eqb w WAIT) (leb w most_hand_overs)

module _ (L : Plan) (small : (q j : ℕ) → L.hand_over_limit q j ≤ most_hand_overs) (statuses st' : ℕ → ℕ) (q : ℕ) where
  -- the statuses that a rank's place speaks of are as they were
  abbrev Same : ℕ → Type 0
  Same h = (j : ℕ) → On (L.tree.own_level q) j → h ≤ suc j → st' (L.tree.node q j) ≡ statuses (L.tree.node q j)

  -- counts stay counts
  counts_same : (h from : ℕ) → h ≤ suc from → 1 ≤ from → Same h → Counts L statuses q from → Counts L st' q from
  counts_same h from l o e c j a b = rw (e j (omega arith) (omega arith)) (c j a b)

  -- W5 says what it said
  sound_w5 : (i : ℕ) → Same (hold_level (L.tree.own_level q) (phase_of (W5 i) (statuses (L.tree.node q i))))
      → Sound L statuses q (W5 i) → Sound L st' q (W5 i)
  sound_w5 i e c = (
    c.0,
    counts_same (hold_level (L.tree.own_level q) (phase_of (W5 i) w)) (suc i) (omega (arith, lv)) (omega arith) e
        c.1,
    by c.2,
  )
    where
      w : ℕ
      w = statuses (L.tree.node q i)

      lv : hold_level (L.tree.own_level q) (phase_of (W5 i) w) ≤ suc i
      lv = w5_level (L.tree.own_level q) i w

      by : (w ≡ WAIT) ⊎ ((w ≡ told_status i) ⊎ Counts L statuses q 1)
          → (st' (L.tree.node q i) ≡ WAIT) ⊎ ((st' (L.tree.node q i) ≡ told_status i) ⊎ Counts L st' q 1)
      by (inl z) = inl (e i c.0 lv ∙ z)
      by (inr (inl z)) = inr (inl (e i c.0 lv ∙ z))
      by (inr (inr z)) =
          let one : hold_level (L.tree.own_level q) (phase_of (W5 i) w) ≡ 1 =
          ap (hold_level (L.tree.own_level q))
          (w5_count i w (omega (arith, z i c.0.from c.0.upto, small i))) in
          inr
          (inr
          (counts_same (hold_level (L.tree.own_level q) (phase_of (W5 i) w)) 1 (omega arith)
          (omega arith) e z))

  -- and so does every place
  pub sound_same : (f : Place)
      → Same (hold_level (L.tree.own_level q) (phase_of f (statuses (L.tree.node q (status_level f)))))
      → Sound L statuses q f
      → InRange (L.tree.own_level q) (phase_of f (statuses (L.tree.node q (status_level f)))) → Sound L st' q f
  sound_same Idle e c o = tt
  sound_same (W1 i) e c o = counts_same (suc i) (suc i) (omega arith) (omega arith) e c
  sound_same (W2 i) e c o = counts_same (suc i) (suc i) (omega arith) (omega arith) e c
  sound_same (W3 i) e c o =
      (e i o (omega arith) ∙ c.0, counts_same (suc i) (suc i) (omega arith) (omega arith) e c.1)
  sound_same (W4 i t) e c o =
      (e i o (omega arith) ∙ c.0, counts_same (suc i) (suc i) (omega arith) (omega arith) e c.1)
  sound_same (W5 i) e c o = sound_w5 i e c
  sound_same (W6 i) e c o = counts_same i (suc i) (omega arith) (omega arith) e c
  sound_same (W7 n) e c o = counts_same 1 1 (omega arith) (omega arith) e c
  sound_same (W8 n) e c o = counts_same 1 1 (omega arith) (omega arith) e c
  sound_same (W9 n a) e c o = counts_same 1 1 (omega arith) (omega arith) e c
  sound_same (U1 i) e c o = (c.0, c.1, counts_same 1 1 (omega arith) (omega arith) e c.2)
  sound_same (U2 i n) e c o = (c.0, c.1, counts_same 1 1 (omega arith) (omega arith) e c.2)
  sound_same (U3 i t n) e c o = (c.0, counts_same 1 1 (omega arith) (omega arith) e c.1)
  sound_same U4 e c o = counts_same 1 1 (omega arith) (omega arith) e c
  sound_same (U5 n) e c o = counts_same 1 1 (omega arith) (omega arith) e c
  sound_same (U6 n) e c o = counts_same 1 1 (omega arith) (omega arith) e c
  sound_same (U7 n a) e c o = counts_same 1 1 (omega arith) (omega arith) e c
  sound_same (U8 i) e c o = tt
  sound_same (U9 i t) e c o = tt
  sound_same (U10 i) e c o = tt
  sound_same R1 e c o = tt
  sound_same R2 e c o = tt
  sound_same R3 e c o = tt
  sound_same R4 e c o = tt
  sound_same R5 e c o = tt
  sound_same (R6 n) e c o = tt
  sound_same R7 e c o = tt
  sound_same Writer e c o = counts_same 1 1 (omega arith) (omega arith) e c
  sound_same Reader e c o = tt
