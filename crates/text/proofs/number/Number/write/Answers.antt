-- `text::number::Number::write` meets its contract. Assumes nothing.
use Rattle.text.specs.Parts.{laid_out}
use Rattle.text.proofs.Writing.{both}
use Rattle.text.proofs.number.Number.write.Goals as goal

pub returns : goal.returns
unfolding laid_out
returns c = both c.write_whole.ensures c.write_places.ensures
