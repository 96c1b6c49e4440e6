-- `sums::blocks::all_rows` meets its contract. Assumes nothing.
use Rattle.std.proofs.Common.{map}
use Rattle.sums.specs.Sum.{rows}
use Rattle.sums.proofs.Chunks.{passed_more, passed_room, passed_all}
use Rattle.sums.proofs.blocks.all_rows.Goals as goal

pub join-total-requires-clause-room : goal.join-total-requires-clause-room
join-total-requires-clause-room g c = passed_room c.loop-secs.invariant c.requires.room

pub loop-secs-preserved : goal.loop-secs-preserved
loop-secs-preserved g c =
    let h = c.loop-secs.invariant in let x = c.in-Some.secs in let y = c.in-Some.nanos in
    passed_more x y h c.in-Some.ensures.steps (c.join-total.ensures h.ds (rows (map g.S.Word.number x.now) (map g.N.Word.number y.now)) h.totals c.sums_of.ensures)

pub returns : goal.returns
returns g c = c.answer.ensures _ (passed_all c.next.new.self c.loop-secs.invariant c.in-None.ensures.steps)
