-- What a duration means, and the exact answer of a whole number of nanoseconds. Assumes nothing.
use Rattle.std.specs.Prelude.{ℕ, ◌+◌, ◌*◌, ◌-◌, ◌/◌, ◌%◌, ◌^◌, Bool, cond, leb, ltb, Result, Ok, Err}
use Rattle.refusal.specs.declared.Refusal.{Refusal}
use Rattle.refusal.specs.declared.Refusal.TheVariants.{Overflow, BadDuration}
pub use Rattle.duration.specs.declared.Duration.{Duration}

-- the whole nanoseconds that a pair means
abbrev pub N : Duration → ℕ
N d = d.secs * 10 ^ 9 + d.nanos

-- whether a pair is a duration: its nanoseconds are below a second
unfoldable pub valid : Duration → Bool
valid d = ltb d.nanos (10 ^ 9)

-- the pair itself, or BadDuration exactly where it is no duration
unfoldable pub checked : Duration → Result Duration Refusal
checked d = cond (valid d) (Ok d) (Err BadDuration)

-- the nanoseconds of MAX
abbrev pub most : ℕ
most = (2 ^ 64 - 1) * 10 ^ 9 + 999999999

-- the duration of n nanoseconds, for an n up to `most`
abbrev pub of_nanos : ℕ → Duration
of_nanos n = record { secs = n / 10 ^ 9; nanos = n % 10 ^ 9 }

-- the duration of n nanoseconds, or Overflow exactly where n is above MAX's
unfoldable pub exact : ℕ → Result Duration Refusal
exact n = cond (leb n most) (Ok (of_nanos n)) (Err Overflow)
