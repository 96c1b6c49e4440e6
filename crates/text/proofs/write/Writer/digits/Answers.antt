-- `text::write::Writer::digits` meets its contract. Assumes nothing.
use Rattle.std.proofs.Common.{ℕ, refl}
use Rattle.text.specs.Digits.{ending_digits}
use Rattle.text.proofs.Decimals.{length_digits}
use Rattle.text.proofs.Writing.{part_filled}
use Rattle.text.proofs.write.Writer.digits.Goals as goal

pub returns : goal.returns
returns c = record {
  same = refl;
  wrote = part_filled _ _ _ (λ (k : ℕ). ending_digits k c.args.n) c.requires (length_digits c.args.k c.args.n) c.put_digits.ensures;
}
