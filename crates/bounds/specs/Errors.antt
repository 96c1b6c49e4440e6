-- How far the six floats out are from what they stand for, over whole numbers: a finite float x is the fraction num x / den x. Assumes nothing.
use Rattle.std.specs.Prelude.{ℕ, ◌-◌, ◌*◌, ◌^◌, ◌≤◌, ◌<◌, ◌≡◌, ◌⊎◌, false, cond, eqb}
use Rattle.laws.specs.Names.{Float, nan, inf, Format, prec, emax, HasValue, num, den, Duration, N}
use Rattle.seconds.specs.Out.{seconds_as, millis_as, quotient_as}
use Rattle.bounds.specs.Distance.{apart, IsDuration}

-- x is a / c to within one part in 2 ^ b of it
pub record Close (f : Format) (x : Float) (a c b : ℕ) : Type 0 where
  -- it is finite, so nothing overflowed, and not negative
  pub value : HasValue x false (num x) (den x)
  -- it is zero or at least 2 ^ (1 - emax), so it is not subnormal
  pub normal : (num x ≡ 0) ⊎ (den x ≤ num x * 2 ^ (emax f - 1))
  -- | x - a / c | ≤ a / c / 2 ^ b, times den x * c * 2 ^ b
  pub near : apart (num x * c) (a * den x) * 2 ^ b ≤ a * den x

-- one part in 2 ^ 51 for f64 and in 2 ^ 22 for f32
abbrev pub SecondsClose : Type 0
SecondsClose = (f : Format) (d : Duration) → IsDuration d → Close f (seconds_as f d) (N d) (10 ^ 9) (prec f - 2)

abbrev pub MillisClose : Type 0
MillisClose = (f : Format) (d : Duration) → IsDuration d → Close f (millis_as f d) (N d) (10 ^ 6) (prec f - 2)

-- one part in 2 ^ 50 for f64 and in 2 ^ 21 for f32
abbrev pub QuotientClose : Type 0
QuotientClose = (f : Format) (a b : Duration) → IsDuration a → IsDuration b → 0 < N b → Close f (quotient_as f a b) (N a) (N b) (prec f - 3)

-- over ZERO: an infinity, and a NaN for ZERO over ZERO
abbrev pub OverZero : Type 0
OverZero = (f : Format) (a b : Duration) → IsDuration a → N b ≡ 0 → quotient_as f a b ≡ cond (eqb (N a) 0) nan (inf false)
