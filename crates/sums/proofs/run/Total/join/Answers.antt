-- `sums::run::Total::join` meets its contract. Assumes nothing.
use Rattle.std.proofs.Common.{refl}
use Rattle.sums.proofs.Runs.{joined}
use Rattle.sums.proofs.run.Total.join.Goals as goal

pub returns-then-self : goal.returns-then-self
returns-then-self c ds es h k = joined ds es c.args.self c.args.block refl refl refl (rw c.if-self.true) h k

pub returns-else-self : goal.returns-else-self
returns-else-self c ds es h k = joined ds es c.args.self c.args.block refl refl refl (rw c.if-self.false) h k
