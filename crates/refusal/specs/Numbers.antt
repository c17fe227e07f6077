-- The numbers of the refusal sheet, stated once.
use Rattle.std.specs.Prelude.{◌≡◌, ℕ, true, Some, None, Option, is_some}
use Rattle.refusal.specs.declared.Refusal.{Refusal}
use Rattle.refusal.specs.declared.Refusal.TheVariants.{PlanSize, PlanThreshold, PlanParent, PlanRank, TooShort}
use Rattle.refusal.specs.declared.Refusal.TheVariants.{UnknownRank, Spoiled, NotIdle, NotUnderWay, NotIn}
use Rattle.refusal.specs.declared.Refusal.TheVariants.{UnknownHome, UnknownOffset, Cut, Misplaced}
use Rattle.refusal.specs.declared.Refusal.TheVariants.{BufferTooSmall, OrderTooLong, OutOfMemory}

-- the number of a refusal; want of memory has none
abbrev pub number_of : Refusal → Option ℕ
number_of PlanSize = Some 1
number_of PlanThreshold = Some 2
number_of PlanParent = Some 3
number_of PlanRank = Some 4
number_of TooShort = Some 5
number_of UnknownRank = Some 6
number_of Spoiled = Some 7
number_of NotIdle = Some 8
number_of NotUnderWay = Some 9
number_of NotIn = Some 10
number_of UnknownHome = Some 11
number_of UnknownOffset = Some 12
number_of Cut = Some 13
number_of Misplaced = Some 14
number_of BufferTooSmall = Some 15
number_of OrderTooLong = Some 16
number_of OutOfMemory = None

-- a refusal that is on the sheet
abbrev pub IsOnSheet : Refusal → Type 0
IsOnSheet e = is_some (number_of e) ≡ true
