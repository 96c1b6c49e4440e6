-- The loop of `sums::blocks::sums_of`: `block` has the sums of the rows passed. Assumes nothing.
use Rattle.std.proofs.Common.{map, take}
use Rattle.sums.specs.Sum.{rows}
use Rattle.sums.specs.Runs.{Sums}
use Rattle.sums.proofs.blocks.sums_of.Given as goal

abbrev pub invariant-loop-i : goal.invariant-loop-i
invariant-loop-i g l = Sums (rows (map g.S.Word.number (take l.i l.secs)) (map g.N.Word.number (take l.i l.nanos))) l.block
