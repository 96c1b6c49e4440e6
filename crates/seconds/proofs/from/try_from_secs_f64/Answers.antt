-- `seconds::from::try_from_secs_f64` meets its contract: `proofs/Fields.antt` has what the pattern's fields say. Assumes nothing.
use Rattle.std.proofs.Common.{refl, ◌∙◌, arith}
use lib.Ieee.{binary64, of_bits}
use Rattle.seconds.proofs.NoTie.{apart}
use Rattle.seconds.proofs.Fields.{Pattern, pattern, nan_is, below_is}
use Rattle.seconds.proofs.from.try_from_secs_f64.Goals as goal

fields : (c : goal.Then-x) → Pattern binary64 11 c.args.x
unfolding of_bits
fields c = pattern binary64 11 refl c.args.x c.well_formed.0.1 c.if-x.true

pub returns-then-exponent-lt1075 : goal.returns-then-exponent-lt1075
returns-then-exponent-lt1075 c = c.near.ensures ∙ (fields c.before.before.before).downward (omega arith) (omega arith)

pub returns-then-exponent-ge1013 : goal.returns-then-exponent-ge1013
returns-then-exponent-ge1013 c = c.large.ensures ∙ (fields c.before.before.before).upward c.if-exponent-lt1075.false

pub returns-then-exponent-lt991 : goal.returns-then-exponent-lt991
returns-then-exponent-lt991 c = (fields c.before.before).nothing (omega arith)

pub tiny-requires : goal.tiny-requires
tiny-requires c = let l = (fields c.before.before).led-lt in (omega (arith, l), apart _ 53 _ l (omega arith), omega arith, omega arith)

pub returns-then-x : goal.returns-then-x
returns-then-x c = c.tiny.ensures ∙ (fields c.before.before.before).downward (omega arith) (omega arith)

pub returns-then-x-2 : goal.returns-then-x-2
unfolding of_bits
returns-then-x-2 c = below_is c.args.x c.if-x-2.true

pub returns : goal.returns
unfolding of_bits
returns c = nan_is c.args.x c.if-x.false c.if-x-2.false

pub float_to_bits-bits : goal.float_to_bits-bits
float_to_bits-bits c = (fields c).number
