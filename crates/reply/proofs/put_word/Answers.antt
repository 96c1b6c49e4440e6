-- `reply::put_word` meets its contract. Assumes nothing.
use Rattle.std.proofs.Common.{ℕ, List, ap, ◌++◌, drop, ◌∙◌}
use Rattle.laws.proofs.Bytes.{library_bytes}
use Rattle.reply.proofs.put_word.Goals as goal

pub returns : goal.returns
returns c =
    ap (λ (bytes : List ℕ). bytes ++ drop 8 c.args.out.now) (c.copy_from_slice.ensures.after ∙ c.to_le_bytes.ensures ∙ library_bytes 8 c.args.w)
