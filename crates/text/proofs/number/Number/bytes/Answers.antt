-- `text::number::Number::bytes` meets its contract. Assumes nothing.
use Rattle.std.proofs.Common.{◌≡◌, length, rules, arith}
use Rattle.text.proofs.Lengths.{length_none, length_some, length_laid, few_digits}
use Rattle.text.proofs.number.Number.bytes.Goals as goal

pub returns-then-places-eq0 : goal.returns-then-places-eq0
returns-then-places-eq0 c =
    let n = c.args.self in
    let nine : length n.fraction.digits ≡ 9 = search rules in
    (omega (arith, length_laid n.whole n.fraction n.zeros, length_none n.fraction n.zeros nine c.if-places-eq0.true), omega (arith, few_digits n))

pub overflow_add-result : goal.overflow_add-result
overflow_add-result c = omega (arith, few_digits c.args.self)

pub overflow_add-result-2 : goal.overflow_add-result-2
overflow_add-result-2 c = omega (arith, few_digits c.args.self)

pub returns : goal.returns
returns c =
    let n = c.args.self in
    let nine : length n.fraction.digits ≡ 9 = search rules in
    (omega (arith, length_laid n.whole n.fraction n.zeros, length_some n.fraction n.zeros nine c.if-places-eq0.false), omega (arith, few_digits n))
