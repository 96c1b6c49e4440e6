-- What the statements here share. Assumes nothing.
use Rattle.std.specs.Prelude.{ℕ, ◌+◌, ◌-◌, ◌^◌, ◌<◌}
use Rattle.laws.specs.Names.{Duration}

-- the distance of two whole numbers: one of the two differences is 0, since a difference of natural numbers stops there
abbrev pub apart : ℕ → ℕ → ℕ
apart a b = (a - b) + (b - a)

-- the pairs that are durations
abbrev pub IsDuration : Duration → Type 0
IsDuration d = (d.secs < 2 ^ 64) × (d.nanos < 10 ^ 9)
