-- The lines of a listing, as bytes; byte 10 ends each.
use Rattle.std.specs.Prelude.{ℕ, zero, suc, ◌+◌, ◌-◌, List, [], ◌∷◌, ◌++◌, codes, decimal}
use Rattle.plan.specs.Trees.{Tree, counter_home, counters, element_home, homes, level_of, node_home, own_counter_home}
use Rattle.plan.specs.Trees.{own_element, own_level, parent_of, queue_home}

abbrev pub line_end : List ℕ
line_end = 10 ∷ []

-- n texts, f a, f (a + 1), .., one behind the other
abbrev pub texts : (ℕ → List ℕ) → ℕ → ℕ → List ℕ
texts f a zero = []
texts f a (suc n) = texts f a n ++ f (a + n)

abbrev pub plan_line : Tree → List ℕ
plan_line t =
    codes "plan ranks " ++ (decimal t.shape.ranks
    ++ (codes " elements " ++ (decimal t.shape.elements
    ++ (codes " levels " ++ (decimal t.shape.levels
    ++ (codes " counters " ++ (decimal (counters t)
    ++ (codes " homes " ++ (decimal (homes t) ++ line_end)))))))))

abbrev pub element_line : Tree → ℕ → List ℕ
element_line t k =
    codes "element " ++ (decimal k
    ++ (codes " level " ++ (decimal (level_of t k)
    ++ (codes " home " ++ (decimal (element_home t k)
    ++ (codes " parent " ++ (decimal (parent_of t k) ++ line_end)))))))

abbrev pub counter_line : Tree → ℕ → List ℕ
counter_line t c = codes "counter " ++ (decimal c ++ (codes " home " ++ (decimal (counter_home t c) ++ line_end)))

-- a number behind a space
abbrev pub word : ℕ → List ℕ
word n = 32 ∷ decimal n

-- the node of rank p, and the home of its queue, d levels above its own
abbrev pub node_word : Tree → ℕ → ℕ → List ℕ
node_word t p d = word (node_home t p (own_level t p - d))

abbrev pub queue_word : Tree → ℕ → ℕ → List ℕ
queue_word t p d = word (queue_home t p (own_level t p - d))

-- the nodes and queues stand from the rank's own level up to level 1
abbrev pub rank_line : Tree → ℕ → List ℕ
rank_line t p =
    codes "rank " ++ (decimal p
    ++ (codes " element " ++ (decimal (own_element t p)
    ++ (codes " counter " ++ (decimal (own_counter_home t p)
    ++ (codes " nodes" ++ (texts (node_word t p) 0 (own_level t p)
    ++ (codes " queues" ++ (texts (queue_word t p) 0 (own_level t p) ++ line_end)))))))))

abbrev pub bad_line : ℕ → ℕ → List ℕ
bad_line number at = codes "bad " ++ (decimal number ++ (codes " at " ++ (decimal at ++ line_end)))
