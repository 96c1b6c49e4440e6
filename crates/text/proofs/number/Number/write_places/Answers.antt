-- `text::number::Number::write_places` meets its contract. Assumes nothing.
use Rattle.std.proofs.Common.{◌≡◌, length, rules, arith, length-take-le}
use Rattle.text.proofs.Lengths.{some_places, length_some}
use Rattle.text.proofs.Writing.{both, as_same, left}
use Rattle.text.proofs.number.Number.write_places.Goals as goal

pub put-requires-2 : goal.put-requires-2
put-requires-2 c =
    let n = c.args.self in
    let nine : length n.fraction.digits ≡ 9 = search rules in
    omega (arith, c.requires, length_some n.fraction n.zeros nine c.if-count-self-eq0.false, left c.put.ensures, length-take-le n.fraction.count n.fraction.digits (omega (arith, nine, n.fraction.used)))

pub repeat-requires : goal.repeat-requires
repeat-requires c =
    let n = c.args.self in
    let nine : length n.fraction.digits ≡ 9 = search rules in
    omega (arith, c.requires, length_some n.fraction n.zeros nine c.if-count-self-eq0.false, left c.put.ensures, left c.put-2.ensures, length-take-le n.fraction.count n.fraction.digits (omega (arith, nine, n.fraction.used)))

pub returns : goal.returns
returns c =
    let n = c.args.self in
    let nine : length n.fraction.digits ≡ 9 = search rules in
    as_same (some_places n.fraction n.zeros nine c.if-count-self-eq0.false) (both (both c.put.ensures c.put-2.ensures) c.repeat.ensures)
