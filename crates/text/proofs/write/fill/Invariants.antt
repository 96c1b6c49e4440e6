-- The loop of `text::write::fill`: to write what is left gives b throughout. Assumes nothing.
use Rattle.std.proofs.Common.{◌≡◌, ◌-◌, length}
use Rattle.laws.specs.Written.{splice, times}
use Rattle.text.proofs.write.fill.Given as goal

abbrev pub invariant-loop-to : goal.invariant-loop-to
invariant-loop-to l = splice l.to-items l.to-index (times (length l.initial.to-items - l.to-index) l.b) ≡ times (length l.initial.to-items) l.b
