-- The letter and the rank of a call.
use Rattle.std.specs.Prelude.{ℕ}
use Rattle.law.specs.declared.call.Call.{Call}
use Rattle.law.specs.declared.call.Call.TheVariants.{AskWrite, AskRead, Step, Leave}

-- 'W', 'R', 'S' and 'L'
abbrev pub letter : Call → ℕ
letter (AskWrite p) = 87
letter (AskRead p) = 82
letter (Step p) = 83
letter (Leave p) = 76

abbrev pub rank : Call → ℕ
rank (AskWrite p) = p
rank (AskRead p) = p
rank (Step p) = p
rank (Leave p) = p
