-- Two words as one natural number, and each operation's exact answer over natural numbers. Assumes nothing.
use Rattle.std.specs.Prelude.{ℕ, ◌+◌, ◌*◌, ◌-◌, ◌/◌, ◌%◌, ◌^◌, cond, ltb, eqb, Result, Ok, Err}
use Rattle.refusal.specs.declared.Refusal.{Refusal}
use Rattle.refusal.specs.declared.Refusal.TheVariants.{Overflow, Underflow, ZeroDivisor}
use Rattle.wide.specs.declared.{Wide.Wide, Division.Division}

-- the number that two words mean
unfoldable pub wide : Wide → ℕ
wide w = w.hi * 2 ^ 64 + w.lo

-- the words of a number below 2 ^ 128
unfoldable pub words : ℕ → Wide
words n = record { hi = n / 2 ^ 64; lo = n % 2 ^ 64 }

-- the number n, or Overflow exactly where n is 2 ^ 128 or more
unfoldable pub answer : ℕ → Result Wide Refusal
answer n = cond (ltb n (2 ^ 128)) (Ok (words n)) (Err Overflow)

-- m less n, or Underflow exactly where m is below n
unfoldable pub difference : ℕ → ℕ → Result Wide Refusal
difference m n = cond (ltb m n) (Err Underflow) (Ok (words (m - n)))

-- quotient and remainder of n by d, or ZeroDivisor exactly where d is 0
unfoldable pub division : ℕ → ℕ → Result Division Refusal
division n d = cond (eqb d 0) (Err ZeroDivisor) (Ok (record { quotient = words (n / d); remainder = words (n % d) }))
