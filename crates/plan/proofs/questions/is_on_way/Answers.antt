use Rattle.std.proofs.Common.{◌≡◌, ◌∙◌, ap, refl, ℕ, Bool, true, false, cond, ◌&&◌, Ok, Err, arith}
use Rattle.std.proofs.lemmas.Bool.Decides.{nat_tests}
use Rattle.std.specs.Ordering.{partial_le, as_partial_cmp, nat_cmp}
use Rattle.refusal.specs.declared.Refusal.{Refusal}
use Rattle.plan.specs.Shapes.{within}
use Rattle.plan.specs.Trees.{own_level, tree_of}
use Rattle.plan.proofs.questions.is_on_way.Goals as goal

-- the library's two comparisons are the definition's
between : (low high n : ℕ)
    → (partial_le (as_partial_cmp nat_cmp) low n && partial_le (as_partial_cmp nat_cmp) n high) ≡ within low high n
between low high n = grind (arith, nat_tests)

-- a rank that one answer knows is known to each
known_to_each : {A B : Type 0} (b : Bool) (e : Refusal) (x : A) (y : B)
    → Ok x ≡ cond b (Ok x) (Err e) → Ok y ≡ cond b (Ok y) (Err e)
known_to_each true e x y h = refl
known_to_each false e x y h = cc

pub returns : goal.returns
returns c =
    let tested = rw (c.new.ensures.start, c.new.ensures.end, c.new.ensures.exhausted) at c.contains.ensures.value in
    let same = between 1 c.own_level.result c.args.level in
    let own = ap (λ (h : ℕ). within 1 h c.args.level) c.own_level.ensures.value in
    let w : c.contains.result ≡ within 1 (own_level (tree_of c.args.plan.now) c.args.rank) c.args.level = cc in
    ap Ok w ∙ known_to_each _ _ tt _ c.in_ok-known.ensures
