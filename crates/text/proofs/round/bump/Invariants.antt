-- The loop of `text::round::bump`: one is carried into the digits that are left. Assumes nothing.
use Rattle.std.proofs.Common.{◌≡◌, ℕ, ◌^◌, ◌<◌, length}
use Rattle.text.specs.Digits.{ending_digits}
use Rattle.text.proofs.Carrying.{Carrying}
use Rattle.text.proofs.round.bump.Given as goal

abbrev pub invariant-loop-i : goal.invariant-loop-i
invariant-loop-i l = (m : ℕ) → m < 10 ^ length l.initial.d → l.initial.d ≡ ending_digits (length l.initial.d) m → Carrying (length l.initial.d) m l.d l.i
