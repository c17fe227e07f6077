-- The reader's checks and parts, put together.
use Rattle.std.proofs.Common.{◌≡◌, ℕ, ◌+◌, ◌-◌, ◌*◌, ◌≤◌, List, length, Ok, arith}
use Rattle.std.proofs.lemmas.Bool.Decides.{nat_tests}
use Rattle.plan.specs.Trees.{Tree, tree, planned}
use Rattle.plan.specs.declared.shape.Shape.{Shape}
use Rattle.order.specs.Commands.{checked, run, letter_E, letter_G, letter_H, letter_K}
use Rattle.order.specs.Reading.{reading, operands, shape_in}

-- of parts under names of their own
pub reading_by : (bs : List ℕ) (s : Shape) (n : ℕ) (ps es : List ℕ) (t : Tree)
    → s ≡ shape_in bs → n ≡ s.elements - 1
    → ps ≡ operands bs 20 n → es ≡ operands bs (20 + 3 * n) s.ranks
    → length bs ≤ 65535
    → checked bs 0 letter_H ≡ Ok tt
    → run bs letter_E 20 n ≡ Ok tt
    → run bs letter_K (20 + 3 * n) s.ranks ≡ Ok tt
    → checked bs (20 + 3 * n + 3 * s.ranks) letter_G ≡ Ok tt
    → Ok t ≡ planned (tree s ps es)
    → reading bs ≡ Ok (record { plan = t; end = 20 + 3 * n + 3 * s.ranks + 1 })
reading_by bs s n ps es t s-is n-is ps_is es_is short h e k g p = grind (arith, nat_tests)
