-- `sums::run::Block::add` meets its contract. Assumes nothing.
use Rattle.std.proofs.Common.{arith}
use Rattle.sums.proofs.Runs.{sums_more}
use Rattle.sums.proofs.run.Block.add.Goals as goal

pub returns : goal.returns
returns c ds f h = rw c.max.ensures (sums_more ds c.args.self c.args.secs c.args.nanos f (omega arith) (omega arith) h)
