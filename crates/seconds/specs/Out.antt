-- A duration as a float of either format f, each operation rounded once, in the Rust's order. Assumes nothing.
use Rattle.std.specs.Prelude.{ℕ, ◌^◌, Bool, cond, Result, Ok, Err}
use Rattle.laws.specs.Names.{pos, Float, Format, of_int, add, mul, div, Refusal, BadDuration, Duration}

-- a whole number, rounded where it is too wide
abbrev pub whole : Format → ℕ → Float
whole f n = of_int f (pos n)

-- seconds + (nanoseconds / 10 ^ 9)
unfoldable pub seconds_as : Format → Duration → Float
seconds_as f d = add f (whole f d.secs) (div f (whole f d.nanos) (whole f (10 ^ 9)))

-- seconds * 1000 + (nanoseconds / 10 ^ 6)
unfoldable pub millis_as : Format → Duration → Float
millis_as f d = add f (mul f (whole f d.secs) (whole f (10 ^ 3))) (div f (whole f d.nanos) (whole f (10 ^ 6)))

-- seconds * 10 ^ 9 + nanoseconds
unfoldable pub nanos_as : Format → Duration → Float
nanos_as f d = add f (mul f (whole f d.secs) (whole f (10 ^ 9))) (whole f d.nanos)

-- one duration over another: over ZERO an infinity, and ZERO over ZERO a NaN
unfoldable pub quotient_as : Format → Duration → Duration → Float
quotient_as f a b = div f (nanos_as f a) (nanos_as f b)

-- a float of either width as an answer, or BadDuration where a pair that it is made of is no duration
abbrev pub float_if : Bool → Float → Result Float Refusal
float_if ok x = cond ok (Ok x) (Err BadDuration)
