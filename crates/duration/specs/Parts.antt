-- What is read off a duration, over its whole nanoseconds; of a pair that is none, BadDuration. Assumes nothing.
use Rattle.std.specs.Prelude.{ℕ, ◌/◌, ◌%◌, ◌^◌, Bool, cond, ◌&&◌, eqb, Result, Ok, Err}
use Rattle.refusal.specs.declared.Refusal.{Refusal}
use Rattle.refusal.specs.declared.Refusal.TheVariants.{BadDuration}
use Rattle.std.specs.declared.cmp.Ordering.{Ordering}
use Rattle.std.specs.Ordering.{nat_cmp}
use Rattle.wide.specs.declared.Wide.{Wide}
use Rattle.wide.specs.Wide.{words}
use Rattle.duration.specs.Meaning.{Duration, N, valid}

-- whole seconds
unfoldable pub whole_secs : Duration → Result ℕ Refusal
whole_secs d = cond (valid d) (Ok (N d / 10 ^ 9)) (Err BadDuration)

-- what is below a second, in units of u nanoseconds, rounded down
unfoldable pub subsec : ℕ → Duration → Result ℕ Refusal
subsec u d = cond (valid d) (Ok (N d % 10 ^ 9 / u)) (Err BadDuration)

-- all of it, in units of u nanoseconds, rounded down
unfoldable pub count : ℕ → Duration → Result Wide Refusal
count u d = cond (valid d) (Ok (words (N d / u))) (Err BadDuration)

unfoldable pub is_zero : Duration → Result Bool Refusal
is_zero d = cond (valid d) (Ok (eqb (N d) 0)) (Err BadDuration)

-- the order of two durations is the order of their nanoseconds
unfoldable pub compared : Duration → Duration → Result Ordering Refusal
compared a b = cond (valid a && valid b) (Ok (nat_cmp (N a) (N b))) (Err BadDuration)
