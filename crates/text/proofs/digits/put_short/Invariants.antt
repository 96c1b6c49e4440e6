-- The loop of `text::digits::put_short`: to write the digits that are left gives what is wanted. Assumes nothing.
use Rattle.std.proofs.Common.{◌≡◌, ◌+◌, ◌*◌, length}
use Rattle.laws.specs.Written.{splice}
use Rattle.text.specs.Digits.{ending_digits}
use Rattle.text.proofs.digits.put_short.Given as goal

abbrev pub invariant-loop-i : goal.invariant-loop-i
invariant-loop-i l = splice l.out 0 (ending_digits (l.odd + 2 * l.i) l.rest) ≡ splice l.initial.out 0 (ending_digits (length l.initial.out) l.n)
