-- `text::round::goes_up` meets its contract. Assumes nothing.
use Rattle.std.proofs.Common.{arith}
use Rattle.text.proofs.Rounding.{by_none, by_low, by_whole}
use Rattle.text.proofs.round.goes_up.Goals as goal
use Rattle.text.proofs.round.goes_up.Goals.{then-f-q-via-then-f-q, then-f-q-via-else-f-q+then-next-lt53}

pub returns-then-f-q : goal.returns-then-f-q
returns-then-f-q c = elim c.then-f-q.branch [
  | then-f-q-via-then-f-q w ↦ by_none _ _ _ c.requires.0 c.requires.1 (omega arith)
  | then-f-q-via-else-f-q+then-next-lt53 w ↦ by_low _ _ _ c.requires.0 c.requires.1 (omega arith)
]

pub returns-then-q-eq0 : goal.returns-then-q-eq0
returns-then-q-eq0 c = by_whole _ _ _ c.requires.0 c.requires.1 (omega arith) c.if-q-eq0.true c.args.a.below_one (omega arith) (omega arith)
