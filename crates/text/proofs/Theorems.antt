-- The theorems of specs/Theorems.antt. Assumes nothing.
use Rattle.text.specs.Theorems as stated
use Rattle.text.proofs.Decimals.{length_decimal}
use Rattle.text.proofs.Values.{value-decimal, width_fewest}
use Rattle.text.proofs.Longest as lengths
use Rattle.text.proofs.Distinct as values

pub decimal_is : stated.Decimal
decimal_is n = (value-decimal n, length_decimal n, width_fewest n)

pub longest : stated.Longest
longest = lengths.longest

pub reached : stated.Reached
reached = lengths.reached

pub wide : stated.Wide
wide = lengths.wide

pub distinct : stated.Distinct
distinct = values.distinct
