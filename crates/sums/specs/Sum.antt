-- The sum of rows that are lent as two lists, seconds and nanoseconds, over whole nanoseconds. Assumes nothing.
use Rattle.std.specs.Prelude.{ℕ, ◌+◌, ◌-◌, ◌%◌, Bool, true, cond, ◌&&◌, List, [], ◌∷◌, length, take, drop, leb, eqb, Result, Err}
use Rattle.laws.specs.Names.{Refusal, BadRow, BadRange, Duration, N, valid, exact, decoded}

-- the rows of two lists
unfoldable pub rows : List ℕ → List ℕ → List Duration
rows [] ns = []
rows (s ∷ ss) [] = []
rows (s ∷ ss) (n ∷ ns) = record { secs = s; nanos = n } ∷ rows ss ns

unfoldable pub total : List Duration → ℕ
total [] = 0
total (d ∷ ds) = N d + total ds

-- whether each row is a duration
unfoldable pub each_valid : List Duration → Bool
each_valid [] = true
each_valid (d ∷ ds) = valid d && each_valid ds

-- the exact total of rows, or BadRow exactly where one of them is no duration
unfoldable pub sum_answer : List Duration → Result Duration Refusal
sum_answer ds = cond (each_valid ds) (exact (total ds)) (Err BadRow)

-- whether lists of m and n rows both have the rows from first up to end
unfoldable pub within : ℕ → ℕ → ℕ → ℕ → Bool
within m n first end = eqb m n && leb first end && leb end m

-- the sum of the rows from first up to end, or BadRange exactly where there are no such rows
unfoldable pub sum_of : List ℕ → List ℕ → ℕ → ℕ → Result Duration Refusal
sum_of ss ns first end = cond (within (length ss) (length ns) first end) (sum_answer (take (end - first) (drop first (rows ss ns)))) (Err BadRange)

-- whether both are whole rows: eight bytes of seconds and four of nanoseconds for each
unfoldable pub whole_rows : ℕ → ℕ → Bool
whole_rows a b = eqb (a % 8) 0 && eqb (b % 4) 0

-- the same sum, of rows that are lent as bytes
unfoldable pub bytes_sum : List ℕ → List ℕ → ℕ → ℕ → Result Duration Refusal
bytes_sum ss ns first end = cond (whole_rows (length ss) (length ns)) (sum_of (decoded 8 ss) (decoded 4 ns) first end) (Err BadRange)
