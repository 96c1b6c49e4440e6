-- `seconds::from::try_from_secs_f32` meets its contract: `proofs/Fields.antt` has what the pattern's fields say. Assumes nothing.
use Rattle.std.proofs.Common.{refl, ◌∙◌, arith}
use lib.Ieee.{binary32, of_bits}
use Rattle.seconds.proofs.Fields.{Pattern, pattern, nan_is, below_is}
use Rattle.seconds.proofs.from.try_from_secs_f32.Goals as goal

fields : (c : goal.Then-x) → Pattern binary32 8 c.args.x
unfolding of_bits
fields c = pattern binary32 8 refl c.args.x c.well_formed.0.1 c.if-x.true

pub overflow_cast-bits : goal.overflow_cast-bits
overflow_cast-bits c = omega (arith, (fields c).bits-lt)

pub returns-then-exponent-ge150 : goal.returns-then-exponent-ge150
returns-then-exponent-ge150 c = c.large.ensures ∙ (fields c.before.before).upward c.if-exponent-ge150.true

pub returns-then-exponent-ge117 : goal.returns-then-exponent-ge117
returns-then-exponent-ge117 c = c.short.ensures ∙ (fields c.before.before.before).downward (omega arith) (omega arith)

pub returns-then-exponent-ge95 : goal.returns-then-exponent-ge95
returns-then-exponent-ge95 c = c.faint.ensures ∙ (fields c.before.before.before.before).downward (omega arith) (omega arith)

pub returns-then-x : goal.returns-then-x
returns-then-x c = (fields c.before.before.before).nothing (omega arith)

pub returns-then-x-2 : goal.returns-then-x-2
unfolding of_bits
returns-then-x-2 c = below_is c.args.x c.if-x-2.true

pub returns : goal.returns
unfolding of_bits
returns c = nan_is c.args.x c.if-x.false c.if-x-2.false
