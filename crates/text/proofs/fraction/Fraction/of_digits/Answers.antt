-- `text::fraction::Fraction::of_digits` meets its contract. Assumes nothing.
use Rattle.std.proofs.Common.{refl}
use Rattle.text.proofs.Places.{front_is}
use Rattle.text.proofs.fraction.Fraction.of_digits.Goals as goal

pub returns : goal.returns
returns c =
    let used = c.count_used-count.ensures in
    front_is _ c.args.n c.args.k c.requires refl c.put_digits.ensures refl used.within used.zeros used.last
