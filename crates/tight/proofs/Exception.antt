-- The one exception to tightness: ZERO over ZERO is the one NaN of the logic's floats; over C it has one pattern of bits. Assumes nothing.
use mathlib.Core.Path.{◌≡◌, refl}
use lib.Ieee.{binary32, binary64, nan, to_bits, of_int, round, add, sum, mul, div}
use Rattle.duration.specs.declared.Duration.{Duration}
use Rattle.seconds.specs.Out.{nanos_as, quotient_as}

abbrev zero : Duration
zero = record { secs = 0; nanos = 0 }

pub nan_f64 : quotient_as binary64 zero zero ≡ nan
unfolding quotient_as nanos_as add sum mul div of_int round
nan_f64 = refl

pub nan_f32 : quotient_as binary32 zero zero ≡ nan
unfolding quotient_as nanos_as add sum mul div of_int round
nan_f32 = refl

pub bits_f64 : to_bits binary64 nan ≡ 0x7FF8_0000_0000_0000
unfolding to_bits
bits_f64 = refl

pub bits_f32 : to_bits binary32 nan ≡ 0x7FC0_0000
unfolding to_bits
bits_f32 = refl
