-- `sums::blocks::part` meets its contract. Assumes nothing.
use Rattle.std.proofs.Common.{arith, ap}
use Rattle.std.proofs.lemmas.Grind.{common_steps}
use Rattle.sums.specs.Sum.{sum_answer, sum_of, within}
use Rattle.sums.proofs.Rows.{read_part}
use Rattle.sums.proofs.blocks.part.Goals as goal

pub returns : goal.returns
unfolding sum_of within
returns g c = let p = ap sum_answer (read_part g.S.Word.number g.N.Word.number c.args.secs.now c.args.nanos.now c.args.first c.args.end) in grind (arith, common_steps, p)
