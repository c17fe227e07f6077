-- The history that the rows of a job tell is that of the turns: joined are all turns, gone those before the head, and
-- came to hold those up to the head. So those that came are a front part of those that joined, those that stopped are
-- a front part of those that came, and at most one came that has not stopped.
-- And what a row that joins, hands over or releases does to both.
use Rattle.std.proofs.Common.{◌≡◌, ℕ, zero, suc, ◌<◌, ◌≤◌, min, Bool, true, false, cond, eqb, ◌≢◌, List, [], ◌∷◌, ◌++◌, length, sym, refl, ap, ◌∙◌, subst, ⊎_elim, append_assoc, append-nil, arith, length-append}
use Rattle.std.proofs.lemmas.Bool.{cases_eq, eq-eqb, ne_eqb}
use Rattle.queues.specs.Table.{upd}
use Rattle.law.specs.History.{History, more}
use Rattle.law.specs.Order.{Front, Ordered}
use Rattle.queues.proofs.Phases.{upd_same, upd_other}
use Rattle.queues.proofs.Cases.{split}

-- the nodes of the first n turns
abbrev pub turns : (ℕ → ℕ) → ℕ → List ℕ
turns f zero = []
turns f (suc n) = turns f n ++ (f n ∷ [])

-- equal turns, equal lists
pub turns_same : (f g : ℕ → ℕ) (n : ℕ) → ((a : ℕ) → a < n → g a ≡ f a) → turns g n ≡ turns f n
turns_same f g zero e = refl
turns_same f g (suc n) e = ap (λ (l : List ℕ). l ++ (g n ∷ [])) (turns_same f g n (λ a l. e a (omega arith)))
    ∙ ap (λ x. turns f n ++ (x ∷ [])) (e n (omega arith))

-- n turns have n nodes
pub turns_length : (f : ℕ → ℕ) (n : ℕ) → length (turns f n) ≡ n
turns_length f zero = refl
turns_length f (suc n) = length-append (turns f n) (f n ∷ []) ∙ (let z = turns_length f n in omega arith)

-- fewer turns are a front part
pub turns_front : (f : ℕ → ℕ) (m n : ℕ) → m ≤ n → Front (turns f m) (turns f n)
turns_front f m zero l = let z : m ≡ 0 = omega arith in ([], subst (λ x. turns f 0 ≡ turns f x ++ []) (sym z) refl)
turns_front f m (suc n) l = ⊎_elim
    (λ (z : m ≡ suc n).
    ([], subst (λ x. turns f (suc n) ≡ turns f x ++ []) (sym z) (sym (append-nil (turns f (suc n))))))
    (λ (z : m ≡ suc n → ⊥).
    let r = turns_front f m n (omega arith) in (
      r.0 ++ (f n ∷ []),
      ap (λ (y : List ℕ). y ++ (f n ∷ [])) r.1 ∙ append_assoc (turns f m) r.0 (f n ∷ []),
    ))
    (cases_eq m (suc n))

-- the history is that of the turns
pub record Traces (at : ℕ → ℕ → ℕ) (head_turn next_turn : ℕ → ℕ) (h : History) : Type 0 where
  pub joined : (q : ℕ) → h.joined q ≡ turns (at q) (next_turn q)
  pub came : (q : ℕ) → h.came q ≡ turns (at q) (min (suc (head_turn q)) (next_turn q))
  pub gone : (q : ℕ) → h.gone q ≡ turns (at q) (head_turn q)

-- so it is in order
pub ordered : (at : ℕ → ℕ → ℕ) (head_turn next_turn : ℕ → ℕ) (h : History) → ((q : ℕ) → head_turn q ≤ next_turn q)
    → Traces at head_turn next_turn h → (q : ℕ) → Ordered h q
ordered at head_turn next_turn h l t q =
    let le = l q in
    let a = turns_length (at q) (min (suc (head_turn q)) (next_turn q)) in
    let b = turns_length (at q) (head_turn q) in
    record {
      order = rw (t.came q, t.joined q)
          (turns_front (at q) (min (suc (head_turn q)) (next_turn q)) (next_turn q) (omega arith));
      stopped = rw (t.came q, t.gone q)
          (turns_front (at q) (head_turn q) (min (suc (head_turn q)) (next_turn q)) (omega arith));
      single = rw (t.came q, t.gone q) (omega arith);
    }

-- one more turn
add : (f : ℕ → ℕ) (n : ℕ) (l : List ℕ) (x : ℕ) → l ≡ turns f n → f n ≡ x → l ++ (x ∷ []) ≡ turns f (suc n)
add f n l x e d = ap (λ (y : List ℕ). y ++ (x ∷ [])) e ∙ ap (λ y. turns f n ++ (y ∷ [])) (sym d)

-- the same number of turns
count_is : (f : ℕ → ℕ) (m n : ℕ) (l : List ℕ) → m ≡ n → l ≡ turns f m → l ≡ turns f n
count_is f m n l e d = subst (λ k. l ≡ turns f k) e d

module _ (at : ℕ → ℕ → ℕ) (head_turn next_turn : ℕ → ℕ) (h : History) (t : Traces at head_turn next_turn h) (k : ℕ)
    (le : head_turn k ≤ next_turn k) where
  -- a node joins; it holds at once if the queue was empty
  pub traces_join : (x w : ℕ) → (w ≡ 0 → head_turn k ≡ next_turn k) → (w ≢ 0 → head_turn k < next_turn k)
      → Traces (upd at k (upd (at k) (next_turn k) x)) head_turn (upd next_turn k (suc (next_turn k))) (record {
        joined = more h.joined k x;
        came = cond (eqb w 0) (more h.came k x) h.came;
        gone = h.gone;
      })
  traces_join x w empty full =
      record {
        joined = split k
            (λ q. more h.joined k x q ≡ turns (upd at k F q) (upd next_turn k (suc (next_turn k)) q))
            (rw (eq-eqb k k refl, upd_same at k F, upd_same next_turn k (suc (next_turn k)))
            (add F (next_turn k) (h.joined k) x (t.joined k ∙ sym same) here))
            (λ q ne.
            rw (ne_eqb q k ne, upd_other at k F q ne, upd_other next_turn k (suc (next_turn k)) q ne)
            (t.joined q));
        came = split k
            (λ q.
            cond (eqb w 0) (more h.came k x) h.came q
            ≡ turns (upd at k F q) (min (suc (head_turn q)) (upd next_turn k (suc (next_turn k)) q)))
            (rw (upd_same at k F, upd_same next_turn k (suc (next_turn k)))
            (⊎_elim (λ (z : w ≡ 0). first z) (λ (z : w ≡ 0 → ⊥). later z) (cases_eq w 0)))
            (λ q ne.
            rw (upd_other at k F q ne, upd_other next_turn k (suc (next_turn k)) q ne) (others q ne (eqb w 0)));
        gone = split k
            (λ q. h.gone q ≡ turns (upd at k F q) (head_turn q))
            (rw (upd_same at k F)
            (t.gone k ∙ sym (turns_same (at k) F (head_turn k) (λ a l. below a (omega arith)))))
            (λ q ne. rw (upd_other at k F q ne) (t.gone q));
      }
    where
      F : ℕ → ℕ
      F = upd (at k) (next_turn k) x

      below : (a : ℕ) → a < next_turn k → F a ≡ at k a
      below a l = upd_other (at k) (next_turn k) x a (omega arith)

      here : F (next_turn k) ≡ x
      here = upd_same (at k) (next_turn k) x

      same : turns F (next_turn k) ≡ turns (at k) (next_turn k)
      same = turns_same (at k) F (next_turn k) below

      first : w ≡ 0
          → cond (eqb w 0) (more h.came k x) h.came k ≡ turns F (min (suc (head_turn k)) (suc (next_turn k)))
      first z =
          let e = empty z in
          rw (eq-eqb w 0 z, eq-eqb k k refl)
          (count_is F (suc (next_turn k)) (min (suc (head_turn k)) (suc (next_turn k))) (h.came k ++ (x ∷ []))
          (omega arith)
          (add F (next_turn k) (h.came k) x
          (count_is (at k) (min (suc (head_turn k)) (next_turn k)) (next_turn k) (h.came k)
          (omega arith) (t.came k) ∙ sym same)
          here))

      later : (w ≡ 0 → ⊥)
          → cond (eqb w 0) (more h.came k x) h.came k ≡ turns F (min (suc (head_turn k)) (suc (next_turn k)))
      later z =
          let e = full z in
          rw (ne_eqb w 0 z)
          (count_is F (suc (head_turn k)) (min (suc (head_turn k)) (suc (next_turn k))) (h.came k) (omega arith)
          (count_is (at k) (min (suc (head_turn k)) (next_turn k)) (suc (head_turn k)) (h.came k)
          (omega arith) (t.came k)
          ∙ sym (turns_same (at k) F (suc (head_turn k)) (λ a l. below a (omega arith)))))

      others : (q : ℕ) → q ≢ k → (b : Bool)
          → cond b (more h.came k x) h.came q ≡ turns (at q) (min (suc (head_turn q)) (next_turn q))
      others q ne true = rw (ne_eqb q k ne) (t.came q)
      others q ne false = t.came q

  -- the head hands over to the next
  pub traces_pass : (x y : ℕ) → suc (head_turn k) < next_turn k → at k (head_turn k) ≡ x → at k (suc (head_turn k)) ≡ y
      → Traces at (upd head_turn k (suc (head_turn k))) next_turn (record {
        joined = h.joined;
        came = more h.came k y;
        gone = more h.gone k x;
      })
  traces_pass x y l e d =
      record {
        joined = t.joined;
        came = split k
            (λ q.
            more h.came k y q ≡ turns (at q) (min (suc (upd head_turn k (suc (head_turn k)) q)) (next_turn q)))
            (rw (eq-eqb k k refl, upd_same head_turn k (suc (head_turn k)))
            (count_is (at k) (suc (suc (head_turn k))) (min (suc (suc (head_turn k))) (next_turn k))
            (h.came k ++ (y ∷ [])) (omega arith)
            (add (at k) (suc (head_turn k)) (h.came k) y
            (count_is (at k) (min (suc (head_turn k)) (next_turn k)) (suc (head_turn k))
            (h.came k) (omega arith) (t.came k))
            d)))
            (λ q ne. rw (ne_eqb q k ne, upd_other head_turn k (suc (head_turn k)) q ne) (t.came q));
        gone = split k
            (λ q. more h.gone k x q ≡ turns (at q) (upd head_turn k (suc (head_turn k)) q))
            (rw (eq-eqb k k refl, upd_same head_turn k (suc (head_turn k)))
            (add (at k) (head_turn k) (h.gone k) x (t.gone k) e))
            (λ q ne. rw (ne_eqb q k ne, upd_other head_turn k (suc (head_turn k)) q ne) (t.gone q));
      }

  -- the head goes, and nobody is behind it
  pub traces_free : (x : ℕ) → suc (head_turn k) ≡ next_turn k → at k (head_turn k) ≡ x
      → Traces at (upd head_turn k (suc (head_turn k))) next_turn (record {
        joined = h.joined;
        came = h.came;
        gone = more h.gone k x;
      })
  traces_free x l e =
      record {
        joined = t.joined;
        came = split k
            (λ q. h.came q ≡ turns (at q) (min (suc (upd head_turn k (suc (head_turn k)) q)) (next_turn q)))
            (rw (upd_same head_turn k (suc (head_turn k)))
            (count_is (at k) (min (suc (head_turn k)) (next_turn k))
            (min (suc (suc (head_turn k))) (next_turn k)) (h.came k) (omega arith) (t.came k)))
            (λ q ne. rw (upd_other head_turn k (suc (head_turn k)) q ne) (t.came q));
        gone = split k
            (λ q. more h.gone k x q ≡ turns (at q) (upd head_turn k (suc (head_turn k)) q))
            (rw (eq-eqb k k refl, upd_same head_turn k (suc (head_turn k)))
            (add (at k) (head_turn k) (h.gone k) x (t.gone k) e))
            (λ q ne. rw (ne_eqb q k ne, upd_other head_turn k (suc (head_turn k)) q ne) (t.gone q));
      }
