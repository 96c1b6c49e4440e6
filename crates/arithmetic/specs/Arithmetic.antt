-- Integer arithmetic over whole nanoseconds; of a pair that is no duration, BadDuration. Assumes nothing.
use Rattle.std.specs.Prelude.{ℕ, ◌+◌, ◌*◌, ◌-◌, ◌/◌, min, max, cond, ◌&&◌, leb, eqb, Result, Ok, Err}
use Rattle.laws.specs.Names.{Refusal, number_of, Underflow, ZeroDivisor, BadDuration, Wide, words, Duration, N, valid, most, of_nanos, exact}

unfoldable pub added : Duration → Duration → Result Duration Refusal
added a b = cond (valid a && valid b) (exact (N a + N b)) (Err BadDuration)

-- a less b, or Underflow exactly where b is the longer
unfoldable pub subtracted : Duration → Duration → Result Duration Refusal
subtracted a b = cond (valid a && valid b) (cond (leb (N b) (N a)) (exact (N a - N b)) (Err Underflow)) (Err BadDuration)

-- the longer less the shorter
unfoldable pub apart : Duration → Duration → Result Duration Refusal
apart a b = cond (valid a && valid b) (exact (max (N a) (N b) - min (N a) (N b))) (Err BadDuration)

unfoldable pub times : Duration → ℕ → Result Duration Refusal
times d k = cond (valid d) (exact (N d * k)) (Err BadDuration)

-- one of k equal shares, rounded down, or ZeroDivisor exactly where k is 0
unfoldable pub shared : Duration → ℕ → Result Duration Refusal
shared d k = cond (valid d) (cond (eqb k 0) (Err ZeroDivisor) (exact (N d / k))) (Err BadDuration)

-- a quotient q by d, or ZeroDivisor exactly where d is 0
abbrev pub quotient_of : ℕ → ℕ → Result Wide Refusal
quotient_of q d = cond (eqb d 0) (Err ZeroDivisor) (Ok (words q))

-- how many times a holds b, rounded down
unfoldable pub floor_of : Duration → Duration → Result Wide Refusal
floor_of a b = cond (valid a && valid b) (quotient_of (N a / N b) (N b)) (Err BadDuration)

-- the same, rounded up
unfoldable pub ceil_of : Duration → Duration → Result Wide Refusal
ceil_of a b = cond (valid a && valid b) (quotient_of ((N a + (N b - 1)) / N b) (N b)) (Err BadDuration)

-- what a saturating operation answers in place of an answer: MAX for refusal 3, ZERO for 4, and else the same
unfoldable pub saturated : Result Duration Refusal → Result Duration Refusal
saturated (Ok d) = Ok d
saturated (Err r) = cond (eqb (number_of r) 3) (Ok (of_nanos most)) (cond (eqb (number_of r) 4) (Ok (of_nanos 0)) (Err r))
