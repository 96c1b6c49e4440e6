-- An f64 as words: a NaN's bits are those of the one pattern. Assumes nothing.
use lib.Ieee.{binary64, to_bits}
use Rattle.std.proofs.Common.{ap, ◌∙◌, sym}
use Rattle.reply.specs.Reply.{number_words}
use Rattle.reply.proofs.Nans.{nan_bits}
use Rattle.reply.proofs.WordsFromF64.from.Goals as goal

pub returns-then-is_nan : goal.returns-then-is_nan
unfolding to_bits
returns-then-is_nan c = c.from.ensures ∙ ap number_words (nan_bits binary64 _ (sym c.is_nan.ensures.value ∙ c.if-is_nan.true))
