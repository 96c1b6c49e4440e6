-- `wide::short::estimate` meets its contract: `Estimate` has each bound, and says what the estimate leaves. Assumes nothing.
use Prim.Native.Nat.{◌+◌, ◌*◌, ◌/◌, ◌%◌, ◌^◌}
use mathlib.Core.Path.{◌∙◌}
use native.Mathlib.Omega.{arith}
use Rattle.wide.proofs.Estimate.{Estimate, estimate-word, unit_le}
use Rattle.wide.proofs.short.estimate.Goals as goal

at : (c : goal.Start) → Estimate (c.args.h * 2 ^ 32 + c.args.l) c.args.d c.args.p (c.args.h * c.args.up + c.args.l / c.args.p) (c.args.l % c.args.p)
at c = estimate-word _ _ _ _ _ c.requires.0 c.requires.1 c.requires.2 c.requires.3 c.requires.4

pub overflow_add-m : goal.overflow_add-m
overflow_add-m c = omega (arith, (at c).units)

pub overflow_mul-n : goal.overflow_mul-n
overflow_mul-n c = omega (arith, (at c).size)

pub overflow_add-n : goal.overflow_add-n
overflow_add-n c = omega (arith, (at c).size)

pub overflow_sub-a : goal.overflow_sub-a
overflow_sub-a c = omega (arith, (at c).room)

pub overflow_mul-a : goal.overflow_mul-a
overflow_mul-a c = omega (arith, (at c).added, unit_le _ _ c.requires.0)

pub overflow_mul-b : goal.overflow_mul-b
overflow_mul-b c = omega (arith, (at c).left, unit_le _ _ c.requires.0)

pub overflow_add-b : goal.overflow_add-b
overflow_add-b c = omega (arith, (at c).left, unit_le _ _ c.requires.0)

pub settle-requires : goal.settle-requires
settle-requires c = ((at c).digit, omega (arith, (at c).added), (at c).left_few)

pub returns : goal.returns
returns c = (c.settle.ensures.0 ∙ (at c.before).over, c.settle.ensures.1)
