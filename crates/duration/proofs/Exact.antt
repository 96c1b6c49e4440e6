-- The two answers of `exact`, from the parts of a duration. Assumes nothing.
use mathlib.Core.Path.{◌≡◌, ap}
use Prim.Native.Nat.{ℕ, ◌+◌, ◌*◌, ◌/◌, ◌%◌, ◌^◌, ◌≤◌, ◌<◌}
use native.Mathlib.Omega.{arith}
use borrow.Author.Tests.{le-leb, lt-leb}
use Rattle.std.specs.Prelude.{Ok, Err}
use Rattle.refusal.specs.declared.Refusal.TheVariants.{Overflow}
use Rattle.duration.specs.declared.Duration.{Duration}
use Rattle.duration.specs.Meaning.{most, of_nanos, exact}

-- a pair that means n, with its nanoseconds below a second, is the duration of n nanoseconds
pub nanos_are : {n s m : ℕ} → m < 10 ^ 9 → s * 10 ^ 9 + m ≡ n → ◌≡◌ {A = Duration} (record { secs = s; nanos = m }) (of_nanos n)
nanos_are {n} {s} {m} b e =
    let p : s ≡ n / 10 ^ 9 = omega arith in
    let q : m ≡ n % 10 ^ 9 = omega arith in
    λ i. record { secs = p i; nanos = q i }

-- and its answer, where the seconds are a word
pub exact_is : {n s m : ℕ} → s < 2 ^ 64 → m < 10 ^ 9 → s * 10 ^ 9 + m ≡ n → Ok (record { secs = s; nanos = m }) ≡ exact n
unfolding exact
exact_is {n} a b e = let h : n ≤ most = omega arith in rw (le-leb n most h) (λ i. Ok (nanos_are b e i))

-- the duration of n nanoseconds is its own answer, where there are no more than MAX has
pub exact-nanos : {n : ℕ} {d : Duration} → n ≤ most → d ≡ of_nanos n → Ok d ≡ exact n
unfolding exact
exact-nanos {n} h e = rw (le-leb n most h) (ap Ok e)

-- more than MAX's nanoseconds
pub exact_over : {n : ℕ} → most < n → Err Overflow ≡ exact n
unfolding exact
exact_over {n} h = rw (lt-leb n most h)
