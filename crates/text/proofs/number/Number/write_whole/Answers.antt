-- `text::number::Number::write_whole` meets its contract. Assumes nothing.
use Rattle.std.proofs.Common.{ap, ◌∙◌}
use Rattle.text.specs.Digits.{ending_digits}
use Rattle.text.proofs.Writing.{as_same}
use Rattle.text.proofs.Lengths.{word_decimal}
use Rattle.text.proofs.number.Number.write_whole.Goals as goal

pub returns-in-Ok : goal.returns-in-Ok
returns-in-Ok c = let n = c.args.self in as_same (ap (ending_digits n.digits) c.in-Ok.ensures.1 ∙ word_decimal n.whole n.measured) c.digits.ensures
