-- Demand 3: a duration as f64 seconds, and back. Stated over the conversions' own definitions. Assumes nothing.
use Rattle.std.specs.Prelude.{◌+◌, ◌-◌, ◌*◌, ◌^◌, ◌≤◌, ◌<◌, ◌≡◌, false}
use Rattle.laws.specs.Names.{binary64, HasValue, num, den, OverflowOrNan, Duration, Ok, Err, N}
use Rattle.seconds.specs.From.{seconds_as, from_seconds}
use Rattle.bounds.specs.Distance.{apart, IsDuration}

-- what comes back for d is e: within (whole seconds + 1) / 2 ^ 52 s and half a nanosecond, times 10 ^ 9 * 2 ^ 53
pub record Back (d e : Duration) : Type 0 where
  pub answer : from_seconds (seconds_as binary64 d) ≡ Ok e
  pub sound : IsDuration e
  pub near : apart (N e) (N d) * 2 ^ 53 ≤ (d.secs + 1) * 10 ^ 9 * 2 + 2 ^ 52

pub record Trip (d : Duration) : Type 0 where
  -- finite, not negative, and within (whole seconds + 1) / 2 ^ 52 s of N / 10 ^ 9 s, times den * 10 ^ 9 * 2 ^ 52
  pub value : HasValue (seconds_as binary64 d) false (num (seconds_as binary64 d)) (den (seconds_as binary64 d))
  pub distance : apart (num (seconds_as binary64 d) * 10 ^ 9) (N d * den (seconds_as binary64 d)) * 2 ^ 52 ≤ (d.secs + 1) * 10 ^ 9 * den (seconds_as binary64 d)
  -- under 2 ^ 23 s the same duration comes back
  pub same : d.secs < 8388608 → from_seconds (seconds_as binary64 d) ≡ Ok d
  -- from there on it comes back close by, and from 2 ^ 64 - 1024 s on, and only there, it is refused
  pub back : d.secs < 2 ^ 64 - 1024 → (e : Duration) × Back d e
  pub refused : 2 ^ 64 - 1024 ≤ d.secs → from_seconds (seconds_as binary64 d) ≡ Err OverflowOrNan

abbrev pub EveryTrip : Type 0
EveryTrip = (d : Duration) → IsDuration d → Trip d
