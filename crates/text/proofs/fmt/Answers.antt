-- `text::fmt` meets its contract. Assumes nothing.
use Rattle.std.proofs.Common.{sym, ◌∙◌, arith}
use Rattle.text.proofs.Printing.{no_room, placed}
use Rattle.text.proofs.fmt.Goals as goal

pub returns-then-out-size : goal.returns-then-out-size
returns-then-out-size c =
    no_room c.args.d c.args.o (sym c.checked.ensures ∙ c.in_ok-d.was) c.of.ensures c.in_ok-layout.ensures c.new-plain.ensures.0 c.size-size.ensures c.saturating_sub-pad.ensures _ (omega arith)

pub returns : goal.returns
returns c =
    placed c.args.d c.args.o (sym c.checked.ensures ∙ c.in_ok-d.was) c.of.ensures c.in_ok-layout.ensures c.new-plain.ensures.0 c.size-size.ensures c.saturating_sub-pad.ensures (omega arith) c.place.ensures
