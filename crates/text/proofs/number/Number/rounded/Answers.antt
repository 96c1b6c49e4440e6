-- `text::number::Number::rounded` meets its contract. Assumes nothing.
use Rattle.std.proofs.Common.{refl, ◌∙◌, arith}
use Rattle.text.proofs.Layouts.{padded_is}
use Rattle.text.proofs.number.Number.rounded.Goals as goal

pub returns-then-p-ge9 : goal.returns-then-p-ge9
returns-then-p-ge9 c = c.new.ensures ∙ padded_is c.args.a c.of-f.ensures _ _ refl refl (omega arith)
