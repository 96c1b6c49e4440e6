-- Whether a pair is a duration, from its nanoseconds, and an answer that is chosen by it. Assumes nothing.
use mathlib.Core.Path.{◌≡◌}
use mathlib.Core.Bool.{true}
use Prim.Native.Nat.{◌^◌, ◌<◌}
use borrow.Author.Tests.{lt-ltb}
use Rattle.duration.specs.declared.Duration.{Duration}
use Rattle.duration.specs.Meaning.{valid}

pub is_valid : (d : Duration) → d.nanos < 10 ^ 9 → valid d ≡ true
unfolding valid
is_valid d h = lt-ltb d.nanos (10 ^ 9) h
