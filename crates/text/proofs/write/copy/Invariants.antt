-- The loop of `text::write::copy`: to write what is left gives src. Assumes nothing.
use Rattle.std.proofs.Common.{◌≡◌, length, drop}
use Rattle.laws.specs.Written.{splice}
use Rattle.text.proofs.write.copy.Given as goal

abbrev pub invariant-loop-i : goal.invariant-loop-i
invariant-loop-i l = (length l.out ≡ length l.src) × (splice l.out l.i (drop l.i l.src) ≡ l.src)
