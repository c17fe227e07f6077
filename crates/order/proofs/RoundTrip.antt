-- What the writer writes of a lawful plan is read in again as that plan.
use Rattle.std.proofs.Common.{◌≡◌, ℕ, zero, suc, ◌+◌, ◌*◌, ◌/◌, ◌%◌, ◌<◌, ◌≤◌, true, List, [], ◌∷◌, ◌++◌, length, get_or, take, Ok, sym, refl, ap, ◌∙◌, subst, append_assoc, zero-add, add-one, arith, length-append}
use native.Mathlib.Nat.{div-div-eq-div-mul}
use Rattle.std.proofs.lemmas.List.{get_or_append_left, get_or-append-add, get_or_at, take_more, take_all}
use Rattle.std.proofs.lemmas.Bool.{lt-leb, le-ltb, eq-eqb}
use Rattle.std.specs.List.{flat_map}
use Rattle.plan.specs.Trees.{Tree, planned, sizes_right, thresholds_right, parents_right, ranks_right}
use Rattle.plan.specs.declared.shape.Shape.{Shape}
use Rattle.plan.proofs.Facts.{Sizes, Thresholds, sizes_of, thresholds_of, parent_below, rank_within}
use Rattle.order.specs.Bytes.{pair_at}
use Rattle.order.specs.Commands.{checked, run, size, letter_E, letter_G, letter_H, letter_K}
use Rattle.order.specs.Reading.{operands, shape_in}
use Rattle.order.specs.Writing.{ReadsBack, command, head_bytes, plan_bytes}
use Rattle.order.proofs.Overlays.{length_commands}
use Rattle.order.proofs.ReadParts.{reading_by}

-- two bytes spell a number below 65,536 again, four bytes one below 2^32
pair_back : (n : ℕ) → n < 65536 → n / 256 % 256 * 256 + n % 256 ≡ n
pair_back n h = omega arith

quad_back : (n : ℕ) → n < 4294967296
    → n / 16777216 % 256 * 16777216 + n / 65536 % 256 * 65536 + n / 256 % 256 * 256 + n % 256 ≡ n
quad_back n h =
    let two : n / 65536 ≡ n / 256 / 256 = sym (div-div-eq-div-mul n 256 256) in
    let three : n / 16777216 ≡ n / 256 / 256 / 256 =
    sym (ap (λ x. x / 256) (div-div-eq-div-mul n 256 256) ∙ div-div-eq-div-mul n 65536 256)
    in
    rw (two, three) (omega arith)

-- a command that is whole and has the letter that is due
checked_ok : (bs : List ℕ) (at due : ℕ) → at < length bs → at + size due ≤ length bs → get_or bs at 0 ≡ due
    → checked bs at due ≡ Ok tt
checked_ok bs at due some whole e =
    rw (e, lt-leb (length bs) at some, le-ltb (length bs) (at + size due) whole, eq-eqb due due refl)

-- byte i of command k
command_byte : (c : ℕ) (xs post : List ℕ) (k i : ℕ) → i < 3 → k < length xs
    → get_or (flat_map (command c) xs ++ post) (3 * k + i) 0 ≡ get_or (command c (get_or xs k 0)) i 0
command_byte c [] post k i small h = absurd (omega arith)
command_byte c (x ∷ xs) post zero i small h =
    rw zero-add (get_or_append_left (command c x) (flat_map (command c) xs ++ post) 0 i small)
command_byte c (x ∷ xs) post (suc k) i small h =
    let e : 3 * suc k + i ≡ suc (suc (suc (3 * k + i))) = omega arith in
    rw e (command_byte c xs post k i small (omega arith))

-- a run of good commands
run_ok : (bs : List ℕ) (due at n : ℕ) → ((k : ℕ) → k < n → checked bs (at + 3 * k) due ≡ Ok tt)
    → run bs due at n ≡ Ok tt
run_ok bs due at zero each = refl
run_ok bs due at (suc n) each =
    rw (run_ok bs due at n (λ k h. each k (omega arith))) (each n (omega arith))

-- the operands of a run, one by one
operands_are : (bs xs : List ℕ) (at n : ℕ) → n ≤ length xs
    → ((k : ℕ) → k < n → pair_at bs (at + 3 * k + 1) ≡ get_or xs k 0)
    → operands bs at n ≡ take n xs
operands_are bs xs at zero h each = refl
operands_are bs xs at (suc n) h each =
    rw (operands_are bs xs at n (omega arith) (λ k l. each k (omega arith)), each n (omega arith))
    (let e = take_more xs n 0 h in rw add-one at (sym e))

-- commands behind a front part are good, and their operands are read back
module _ (pre xs post : List ℕ) (c at : ℕ) (three : size c ≡ 3) (place : at ≡ length pre)
    (narrow : (k : ℕ) → k < length xs → get_or xs k 0 < 65536) where
  abbrev bytes : List ℕ
  bytes = pre ++ (flat_map (command c) xs ++ post)

  byte : (k i : ℕ) → i < 3 → k < length xs → get_or bytes (at + (3 * k + i)) 0 ≡ get_or (command c (get_or xs k 0)) i 0
  byte k i small h =
      rw place (get_or-append-add pre (flat_map (command c) xs ++ post) (3 * k + i) 0 ∙ command_byte c xs post k i small h)

  long : at + 3 * length xs ≤ length bytes
  long = simp (length-append, length_commands) (omega arith)

  good : (k : ℕ) → k < length xs → checked bytes (at + 3 * k) c ≡ Ok tt
  good k h =
      let e : at + (3 * k + 0) ≡ at + 3 * k = omega arith in
      let whole : at + 3 * k + size c ≤ length bytes = rw three (omega (arith, long)) in
      checked_ok bytes (at + 3 * k) c (omega (arith, long)) whole (rw e at (byte k 0 (omega arith) h))

  operand : (k : ℕ) → k < length xs → pair_at bytes (at + 3 * k + 1) ≡ get_or xs k 0
  operand k h =
      let e : at + (3 * k + 1) ≡ at + 3 * k + 1 = omega arith in
      let f : at + (3 * k + 2) ≡ at + 3 * k + 1 + 1 = omega arith in
      let high : get_or bytes (at + 3 * k + 1) 0 ≡ get_or xs k 0 / 256 % 256 = rw e at (byte k 1 (omega arith) h) in
      let low : get_or bytes (at + 3 * k + 1 + 1) 0 ≡ get_or xs k 0 % 256 = rw f at (byte k 2 (omega arith) h) in
      rw (high, low) (pair_back (get_or xs k 0) (narrow k h))

  run_back : run bytes c at (length xs) ≡ Ok tt
  run_back = run_ok bytes c at (length xs) good

  operands_back : operands bytes at (length xs) ≡ xs
  operands_back = operands_are bytes xs at (length xs) (omega arith) operand ∙ take_all (length xs) xs (omega arith)

-- numbers that fit the operands of H
record Narrow (s : Shape) : Type 0 where
  ranks : s.ranks < 65536
  elements : s.elements < 65536
  spacing : s.spacing < 65536
  readers : s.reader_threshold < 4294967296
  writers : s.writer_threshold < 65536
  second : s.level2_threshold < 65536
  third : s.level3_threshold < 65536
  fourth : s.level4_threshold < 65536

narrow_of : (t : Tree) → Sizes t → Thresholds t.shape → Narrow t.shape
narrow_of t z b = record {
  ranks = omega arith;
  elements = omega arith;
  spacing = omega arith;
  readers = omega arith;
  writers = omega arith;
  second = omega arith;
  third = omega arith;
  fourth = omega arith;
}

-- the numbers behind H
shape_back : (s : Shape) (rest : List ℕ) → Narrow s → shape_in (head_bytes s ++ rest) ≡ s
shape_back s rest n =
    rw (
      pair_back s.ranks n.ranks,
      pair_back s.elements n.elements,
      pair_back s.spacing n.spacing,
      quad_back s.reader_threshold n.readers,
      pair_back s.writer_threshold n.writers,
      pair_back s.level2_threshold n.second,
      pair_back s.level3_threshold n.third,
      pair_back s.level4_threshold n.fourth,
    )

-- the parts of what is written, cut behind H, behind the E commands and behind the K commands
module _ (h e k rest : List ℕ) (g : ℕ) where
  cut_h : (h ++ (e ++ (k ++ g ∷ []))) ++ rest ≡ h ++ (e ++ (k ++ g ∷ rest))
  cut_h = simp append_assoc

  cut_e : (h ++ (e ++ (k ++ g ∷ []))) ++ rest ≡ (h ++ e) ++ (k ++ g ∷ rest)
  cut_e = simp append_assoc

  cut_k : (h ++ (e ++ (k ++ g ∷ []))) ++ rest ≡ ((h ++ e) ++ k) ++ g ∷ rest
  cut_k = simp append_assoc

pub length_plan : (t : Tree) → length (plan_bytes t) ≡ 20 + 3 * length t.parents + 3 * length t.seats + 1
length_plan t = simp (length-append, length_commands) (omega arith)

-- the commands behind H, whatever its bytes
module _ (h ps es rest : List ℕ) (twenty : length h ≡ 20)
    (narrow_ps : (j : ℕ) → j < length ps → get_or ps j 0 < 65536)
    (narrow_es : (j : ℕ) → j < length es → get_or es j 0 < 65536) where
  abbrev e : List ℕ
  e = flat_map (command letter_E) ps

  abbrev k : List ℕ
  k = flat_map (command letter_K) es

  abbrev whole : List ℕ
  whole = (h ++ (e ++ (k ++ letter_G ∷ []))) ++ rest

  abbrev ranks_at : ℕ
  ranks_at = 20 + 3 * length ps

  abbrev go : ℕ
  go = ranks_at + 3 * length es

  behind_e : ranks_at ≡ length (h ++ e)
  behind_e = simp (length-append, length_commands, twenty)

  behind_k : length ((h ++ e) ++ k) ≡ go
  behind_k = simp (length-append, length_commands, twenty)

  parents_run : run whole letter_E 20 (length ps) ≡ Ok tt
  parents_run =
      rw (cut_h h e k rest letter_G)
      (run_back h ps (k ++ letter_G ∷ rest) letter_E 20 refl (sym twenty) narrow_ps)

  parents_read : operands whole 20 (length ps) ≡ ps
  parents_read =
      rw (cut_h h e k rest letter_G) (operands_back h ps (k ++ letter_G ∷ rest) letter_E 20 refl (sym twenty) narrow_ps)

  ranks_run : run whole letter_K ranks_at (length es) ≡ Ok tt
  ranks_run =
      rw (cut_e h e k rest letter_G) (run_back (h ++ e) es (letter_G ∷ rest) letter_K ranks_at refl behind_e narrow_es)

  ranks_read : operands whole ranks_at (length es) ≡ es
  ranks_read =
      rw (cut_e h e k rest letter_G)
      (operands_back (h ++ e) es (letter_G ∷ rest) letter_K ranks_at refl behind_e narrow_es)

  go_found : checked whole go letter_G ≡ Ok tt
  go_found =
      let long : go + 1 ≤ length (((h ++ e) ++ k) ++ letter_G ∷ rest) =
      simp length-append (omega (arith, simp length-append at behind_k))
      in
      rw (cut_k h e k rest letter_G)
      (checked_ok (((h ++ e) ++ k) ++ letter_G ∷ rest) go letter_G (omega arith) long
      (get_or_at ((h ++ e) ++ k) letter_G rest 0 go behind_k))

-- the whole order
pub reads_back : (t : Tree) → sizes_right t ≡ true → thresholds_right t ≡ true → parents_right t ≡ true
    → ranks_right t ≡ true → ReadsBack t
reads_back t sized bounded rooted hung rest short =
    let z = sizes_of t sized in
    let h = head_bytes t.shape in
    let ps = t.parents in
    let es = t.seats in
    let bs = plan_bytes t ++ rest in
    let at = 20 + 3 * length ps in
    let shape_is : t.shape ≡ shape_in bs =
    sym (shape_back t.shape [] (narrow_of t z (thresholds_of t.shape bounded)))
    in
    let narrow_ps : (j : ℕ) → j < length ps → get_or ps j 0 < 65536 = λ j l. omega (arith, parent_below t j rooted l) in
    let narrow_es : (j : ℕ) → j < length es → get_or es j 0 < 65536 = λ j l. omega (arith, rank_within t j hung l) in
    let all : length bs ≤ 65535 = rw length-append short in
    let some : 20 ≤ length bs = simp length-append (omega (arith, length_plan t)) in
    let listed = z.ranks_listed in
    let ranks_read' : es ≡ operands bs at t.shape.ranks =
    subst (λ (m : ℕ). es ≡ operands bs at m) listed (sym (ranks_read h ps es rest refl narrow_ps narrow_es))
    in
    let ranks_run' : run bs letter_K at t.shape.ranks ≡ Ok tt =
    subst (λ (m : ℕ). run bs letter_K at m ≡ Ok tt) listed (ranks_run h ps es rest refl narrow_ps narrow_es)
    in
    let go_found' : checked bs (at + 3 * t.shape.ranks) letter_G ≡ Ok tt =
    subst (λ (m : ℕ). checked bs (at + 3 * m) letter_G ≡ Ok tt) listed
    (go_found h ps es rest refl narrow_ps narrow_es)
    in
    let end_is : at + 3 * t.shape.ranks + 1 ≡ length (plan_bytes t) = rw length_plan (omega arith) in
    let lawful : Ok t ≡ planned t = sym (rw (sized, bounded, rooted, hung)) in
    reading_by bs t.shape (length ps) ps es t shape_is (omega arith)
    (sym (parents_read h ps es rest refl narrow_ps narrow_es)) ranks_read' all
    (checked_ok bs 0 letter_H (omega arith) some refl)
    (parents_run h ps es rest refl narrow_ps narrow_es) ranks_run' go_found' lawful
    ∙ ap (λ x. Ok (record { plan = t; end = x })) end_is
