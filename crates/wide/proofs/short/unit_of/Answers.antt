-- `wide::short::unit_of` meets its contract. Assumes nothing.
use mathlib.Core.Path.{refl}
use native.Mathlib.Omega.{arith}
use Rattle.wide.proofs.Estimate.{zeros_le, unit_is}
use Rattle.wide.proofs.short.unit_of.Goals as goal

pub overflow_sub-k : goal.overflow_sub-k
overflow_sub-k c = zeros_le _ c.requires (omega arith)

pub returns : goal.returns
returns c = unit_is _ c.requires (omega arith) _ refl
