-- The names that the specs above the duration are written in, passed on from one place: the library's of numbers and floats, then those of refusals, two words, durations and bytes. The library's operators come from its Prelude. Assumes nothing.
pub use Rattle.std.specs.Prelude.{ℤ, pos, negsuc, neg_ℤ, Float, Result, Ok, Err}
pub use Rattle.std.specs.declared.cmp.Ordering.{Ordering}
pub use Rattle.std.specs.Float.{nan, inf, fin, Format, binary32, binary64}
pub use Rattle.std.specs.Float.Ieee.{prec, emax, fits, up, down, of_int, of_bits, to_bits, lt, le, is_nan, add, mul, div, Exact.HasValue, Positive.num, Positive.den, Nearest.closest}
pub use Rattle.refusal.specs.Numbers.{number_of}
pub use Rattle.refusal.specs.declared.Refusal.{Refusal}
pub use Rattle.refusal.specs.declared.Refusal.TheVariants.{Negative, OverflowOrNan, Overflow, Underflow, ZeroDivisor, BadRow, BadRange, BadOptions, NoRoom, BadDuration, BadUnit}
pub use Rattle.wide.specs.declared.Wide.{Wide}
pub use Rattle.wide.specs.Wide.{words}
pub use Rattle.duration.specs.declared.Duration.{Duration}
pub use Rattle.duration.specs.Meaning.{N, valid, most, of_nanos, exact}
pub use Rattle.laws.specs.Bytes.{little_endian, decoded, encoded}
pub use Rattle.laws.specs.Written.{times}
