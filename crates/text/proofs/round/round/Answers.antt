-- `text::round::round` meets its contract. Assumes nothing.
use Rattle.std.proofs.Common.{refl}
use Rattle.text.proofs.Rounding.{stays, goes}
use Rattle.text.proofs.round.round.Goals as goal
use Rattle.text.proofs.round.round.Goals.{then-goes_up, else-goes_up}

pub returns : goal.returns
returns c =
    let a = c.args.a in
    elim c.if-goes_up.branch [
      | then-goes_up w ↦ goes a.whole a.part _ c.requires.0 a.below_one c.requires.1 refl c.goes_up.ensures w.if-goes_up.true w.bump-carry.ensures w.digits-is w.carry-is
      | else-goes_up w ↦ stays a.whole a.part _ c.requires.0 a.below_one c.requires.1 refl c.goes_up.ensures w.if-goes_up.false w.digits-is w.carry-is
    ]
