-- The units by their number. Assumes nothing.
use Rattle.std.specs.Prelude.{ℕ, ◌*◌, ◌^◌, cond, List, [], ◌∷◌, get_or, leb, Result, Err}
use Rattle.refusal.specs.declared.Refusal.{Refusal}
use Rattle.refusal.specs.declared.Refusal.TheVariants.{BadUnit}
use Rattle.duration.specs.Meaning.{Duration, exact}

-- the nanoseconds in a nanosecond, microsecond, millisecond, second, minute, hour, day and week, numbered from 0
abbrev pub units : List ℕ
units = 1 ∷ 10 ^ 3 ∷ 10 ^ 6 ∷ 10 ^ 9 ∷ 60 * 10 ^ 9 ∷ 3600 * 10 ^ 9 ∷ 86400 * 10 ^ 9 ∷ 604800 * 10 ^ 9 ∷ []

-- so many of the unit with that number, or BadUnit exactly where the number is above 7
unfoldable pub from_unit_number : ℕ → ℕ → Result Duration Refusal
from_unit_number count unit = cond (leb unit 7) (exact (count * get_or units unit 0)) (Err BadUnit)
