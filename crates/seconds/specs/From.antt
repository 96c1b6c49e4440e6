-- A float of seconds as a duration. Assumes nothing.
use Rattle.std.specs.Prelude.{ℕ, ◌*◌, ◌^◌, false, cond, leb, Result, Err}
use Rattle.laws.specs.Names.{pos, Float, nan, inf, fin, binary64, up, down, lt, mul, div, closest, Refusal, Negative, OverflowOrNan, BadDuration, Duration, valid, exact}
pub use Rattle.seconds.specs.Out.{seconds_as}

-- a / b seconds: OverflowOrNan from 2 ^ 64 on, and otherwise the nearest whole nanosecond, a tie to the even one
unfoldable pub of_fraction : ℕ → ℕ → Result Duration Refusal
of_fraction a b = cond (leb (2 ^ 64 * b) a) (Err OverflowOrNan) (exact (closest (a * 10 ^ 9) b))

-- a float's size: a NaN and an infinity have none, and any other is m * 2 ^ e
abbrev pub of_size : Float → Result Duration Refusal
of_size nan = Err OverflowOrNan
of_size (inf s) = Err OverflowOrNan
of_size (fin s m e) = of_fraction (m * up e) (down e)

-- x seconds: Negative below zero, which neither -0.0 nor a NaN is
unfoldable pub from_seconds : Float → Result Duration Refusal
from_seconds x = cond (lt x (fin false 0 (pos 0))) (Err Negative) (of_size x)

-- a duration times and over a float: its f64 seconds, one f64 operation, and back. An f32 is an f64 as it stands
unfoldable pub times_float : Duration → Float → Result Duration Refusal
times_float d x = cond (valid d) (from_seconds (mul binary64 x (seconds_as binary64 d))) (Err BadDuration)

unfoldable pub over_float : Duration → Float → Result Duration Refusal
over_float d x = cond (valid d) (from_seconds (div binary64 (seconds_as binary64 d) x)) (Err BadDuration)
