-- The number of each refusal, as document 01's table has it. Assumes nothing.
use Rattle.std.specs.Prelude.{ℕ}
use Rattle.refusal.specs.declared.Refusal.{Refusal}

abbrev pub number_of : Refusal → ℕ
number_of Refusal.Negative = 1
number_of Refusal.OverflowOrNan = 2
number_of Refusal.Overflow = 3
number_of Refusal.Underflow = 4
number_of Refusal.ZeroDivisor = 5
number_of Refusal.BadRow = 6
number_of Refusal.BadRange = 7
number_of Refusal.BadOptions = 8
number_of Refusal.NoRoom = 9
number_of Refusal.BadDuration = 10
number_of Refusal.BadUnit = 11
