-- `sums::blocks::sums_of` meets its contract. Assumes nothing.
use Rattle.std.proofs.Common.{arith, map, take}
use Rattle.std.proofs.lemmas.List.{length-take}
use Rattle.sums.specs.Sum.{rows}
use Rattle.sums.proofs.Rows.{read_more, read_length}
use Rattle.sums.proofs.blocks.sums_of.Goals as goal

pub loop-i-preserved : goal.loop-i-preserved
loop-i-preserved g c =
    let s = g.S.Word.number in let n = g.N.Word.number in let ss = c.args.secs.now in let ns = c.args.nanos.now in let i = c.loop-i.i in
    rw (read_more s n ss ns i {x = c.index-secs-i.result} {y = c.index-nanos-i.result} (omega arith) c.requires.same c.index-secs-i.is c.index-nanos-i.is, ← c.read.ensures, ← c.read-in-loop-i.ensures)
    (c.add-block.ensures (rows (map s (take i ss)) (map n (take i ns))) (omega (arith, read_length s n (take i ss) (take i ns), length-take i ss)) c.loop-i.invariant)
