-- The table of samples holds. Assumes nothing.
use mathlib.Core.Path.{refl}
use lib.Dec.{lit<, lit≤}
use lib.Ieee.{add, sum, div, of_int, round, of_bits, lt}
use Rattle.laws.specs.Written.{times}
use Rattle.duration.specs.Meaning.{valid, exact}
use Rattle.arithmetic.specs.Arithmetic.{floor_of, ceil_of}
use Rattle.seconds.specs.Out.{seconds_as}
use Rattle.seconds.specs.From.{of_fraction, from_seconds}
use Rattle.text.specs.Digits.{ending_digits, decimal, pointed, numeral}
use Rattle.text.specs.Text.{unit_of, places_of, shown, plain_in, plain, lacking, front, padded, text}
use Rattle.text.proofs.Decimals.{width_one, width_is}
use Rattle.rules.specs.Samples.{Samples}
use Rattle.rules.proofs.Checks.{◌also◌}

pub samples : Samples
unfolding from_seconds of_fraction exact seconds_as add sum div of_int round of_bits lt text padded lacking front times plain plain_in unit_of places_of shown numeral decimal ending_digits pointed floor_of ceil_of valid
samples =
    refl
    also refl
    also refl
    also refl
    also refl
    also refl
    also refl
    also refl
    also refl
    also refl
    also (rw (← width_one 2 (lit< tt)))
    also (rw (← width_one 4 (lit< tt)))
    also (rw (← width_is 18446744073709551616 19 (lit< tt) (lit≤ tt)))
    also refl
    also refl
    also tt
