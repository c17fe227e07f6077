-- What a plan means, when one is made or refused, and where everything lives.
use Rattle.std.specs.Prelude.{ℕ, zero, suc, ◌+◌, ◌-◌, ◌*◌, ◌/◌, Bool, cond, List, length, Ok, Err, vec_items, Result, ◌==◌, nat_le, nat_lt, slice_index}
use Rattle.refusal.specs.declared.Refusal.{Refusal}
use Rattle.refusal.specs.declared.Refusal.TheVariants.{PlanSize, PlanThreshold, PlanParent, PlanRank, UnknownRank}
use Rattle.plan.specs.Shapes.{within, every, parent, level, sizes_ok, thresholds_ok, parent_ok, rank_ok}
use Rattle.plan.specs.declared.plan.Plan.{Plan}
use Rattle.plan.specs.declared.shape.Shape.{Shape}

-- A plan as numbers and lists: the parents of elements 2, 3, .. and the elements of ranks 1, 2, ..
pub record Tree : Type 0 where
  pub shape : Shape
  pub parents : List ℕ
  pub seats : List ℕ

abbrev pub tree : Shape → List ℕ → List ℕ → Tree
tree s ps es = record { shape = s; parents = ps; seats = es }

abbrev pub tree_of : Plan → Tree
tree_of p = tree p.shape (vec_items p.parents) (vec_items p.rank_elements)

-- what a made plan, or a refusal, means
abbrev pub tree_result : Result Plan Refusal → Result Tree Refusal
tree_result (Ok p) = Ok (tree_of p)
tree_result (Err e) = Err e

abbrev pub sizes_right : Tree → Bool
sizes_right t = sizes_ok t.shape t.parents t.seats

abbrev pub thresholds_right : Tree → Bool
thresholds_right t = thresholds_ok t.shape

abbrev pub parents_right : Tree → Bool
parents_right t = every (parent_ok t.shape t.parents) (length t.parents)

abbrev pub ranks_right : Tree → Bool
ranks_right t = every (rank_ok t.shape t.parents t.seats) (length t.seats)

-- the plan, or the first of the four faults
abbrev pub planned : Tree → Result Tree Refusal
planned t =
    cond (sizes_right t)
    (cond (thresholds_right t)
    (cond (parents_right t)
    (cond (ranks_right t) (Ok t)
    (Err PlanRank))
    (Err PlanParent))
    (Err PlanThreshold))
    (Err PlanSize)

-- the plan has rank p
abbrev pub has_rank : Tree → ℕ → Bool
has_rank t p = within 1 t.shape.ranks p

-- the plan has element k
abbrev pub has_element : Tree → ℕ → Bool
has_element t k = within 1 t.shape.elements k

-- the parent of element k, and 0 where there is none
abbrev pub parent_of : Tree → ℕ → ℕ
parent_of t k = cond (nat_le k 1) 0 (parent t.parents k)

-- the level of element k, and 0 where there is no such element
abbrev pub level_of : Tree → ℕ → ℕ
level_of t k = cond (has_element t k) (level t.parents k) 0

-- the home of element k
abbrev pub element_home : Tree → ℕ → ℕ
element_home t k = t.shape.ranks + k

-- the element on which rank p hangs
abbrev pub own_element : Tree → ℕ → ℕ
own_element t p = slice_index t.seats (p - 1)

-- the level of rank p's element, and 0 for a number that is no rank
abbrev pub own_level : Tree → ℕ → ℕ
own_level t p = cond (has_rank t p) (level t.parents (own_element t p)) 0

-- the element d levels above element k
abbrev pub above : List ℕ → ℕ → ℕ → ℕ
above ps zero k = k
above ps (suc d) k = above ps d (parent ps k)

-- the element at level i above rank p, or at its own level
abbrev pub element_at : Tree → ℕ → ℕ → ℕ
element_at t p i = above t.parents (own_level t p - i) (own_element t p)

-- the home whose queue rank p joins at level i
abbrev pub queue_home : Tree → ℕ → ℕ → ℕ
queue_home t p i = element_home t (element_at t p i)

-- the home that stands for rank p in that queue: its own at its own level, else that of the element one level below
abbrev pub node_home : Tree → ℕ → ℕ → ℕ
node_home t p i = cond (nat_lt i (own_level t p)) (queue_home t p (i + 1)) p

-- how many counters there are: the ranks over the spacing, rounded up
abbrev pub counters : Tree → ℕ
counters t = (t.shape.ranks + t.shape.spacing - 1) / t.shape.spacing

-- the home of counter c
abbrev pub counter_home : Tree → ℕ → ℕ
counter_home t c = c * t.shape.spacing + 1

-- the counter of rank p
abbrev pub own_counter : Tree → ℕ → ℕ
own_counter t p = (p - 1) / t.shape.spacing

-- the home of rank p's counter
abbrev pub own_counter_home : Tree → ℕ → ℕ
own_counter_home t p = counter_home t (own_counter t p)

-- the threshold of level i, 2 to 4, and 0 at any other
abbrev pub level_threshold : Shape → ℕ → ℕ
level_threshold s i =
    cond (i == 2) s.level2_threshold
    (cond (i == 3) s.level3_threshold
    (cond (i == 4) s.level4_threshold 0))

-- how often element k hands on before it lets its parent go; 0 for element 1, which has no parent
abbrev pub threshold : Tree → ℕ → ℕ
threshold t k = level_threshold t.shape (level_of t k)

-- how many homes the lock uses: one for each rank, one for each element
abbrev pub homes : Tree → ℕ
homes t = t.shape.ranks + t.shape.elements

-- an answer about rank p, or a refusal where there is no such rank
abbrev pub asked : {A : Type 0} → Tree → ℕ → A → Result A Refusal
asked t p x = cond (has_rank t p) (Ok x) (Err UnknownRank)

-- what lies at level i on rank p's way up, and 0 at a level that is not on it
abbrev pub on_way : Tree → ℕ → ℕ → ℕ → ℕ
on_way t p i x = cond (within 1 (own_level t p) i) x 0
