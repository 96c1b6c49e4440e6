-- Two facts of floats in that the definition leaves open. Assumes nothing.
use Rattle.std.specs.Prelude.{◌/◌, ◌≡◌, T}
use Rattle.laws.specs.Names.{Float, binary32, binary64, fits, num, den, Overflow, Duration, Ok, Err}
use Rattle.seconds.specs.From.{from_seconds}

-- an f32 never rounds up into the next second: the seconds of what it gives are its whole part
abbrev pub NoCarry : Type 0
NoCarry = (x : Float) (d : Duration) → T (fits binary32 x) → from_seconds x ≡ Ok d → d.secs ≡ num x / den x

-- no f64, and so no f32, rounds up to 2 ^ 64 s: `exact` has an answer for each, and Overflow is none of float seconds' refusals
abbrev pub NeverOver : Type 0
NeverOver = (x : Float) → T (fits binary64 x) → from_seconds x ≡ Err Overflow → ⊥
