-- `wide::short::two_digits` meets its contract: long division, whose carry is the first digit's remainder. Assumes nothing.
-- each quotient is a digit
use Prim.Native.Nat.{◌^◌, ◌<◌}
use native.Mathlib.Omega.{arith}
use lib.Arith.{digits_lt}
use Rattle.wide.proofs.Estimate.{quotient_lt, two_digits_are}
use Rattle.wide.proofs.short.two_digits.Goals as goal

pub overflow_mul-result : goal.overflow_mul-result
overflow_mul-result c =
    let first : c.next-x.result.q < 2 ^ 32 = quotient_lt _ _ _ _ _ c.next-x.ensures.0 (digits_lt c.requires (omega arith)) in
    omega (arith, first)

pub overflow_add-result : goal.overflow_add-result
overflow_add-result c =
    let first : c.next-x.result.q < 2 ^ 32 = quotient_lt _ _ _ _ _ c.next-x.ensures.0 (digits_lt c.requires (omega arith)) in
    let second : c.next-y.result.q < 2 ^ 32 = quotient_lt _ _ _ _ _ c.next-y.ensures.0 (digits_lt c.next-x.ensures.1 (omega arith)) in
    omega (arith, first, second)

pub returns : goal.returns
returns c = (two_digits_are _ _ _ _ _ _ _ c.next-x.ensures.0 c.next-y.ensures.0, c.next-y.ensures.1)
