-- The loop of `sums::blocks::all_rows`: `total` is that of the rows passed. Assumes nothing.
use Rattle.sums.proofs.Chunks.{Passed}
use Rattle.sums.proofs.blocks.all_rows.Given as goal

abbrev pub invariant-loop-secs : goal.invariant-loop-secs
invariant-loop-secs g l = Passed g.S.Word.number g.N.Word.number l.secs l.nanos l.secs-iterator l.total
