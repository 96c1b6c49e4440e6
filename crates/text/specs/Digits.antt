-- Decimal digits, as bytes, and the fewest that do. Assumes nothing.
use Rattle.std.specs.Prelude.{ℕ, zero, suc, ◌+◌, ◌/◌, ◌%◌, ◌^◌, Bool, cond, List, [], ◌∷◌, ◌++◌, ltb}

-- the least of 0 .. f that has the property, or f where none below it has
unfoldable pub least : (ℕ → Bool) → ℕ → ℕ
least p zero = zero
least p (suc f) = cond (p zero) zero (suc (least (λ (i : ℕ). p (suc i)) f))

-- the last k decimal digits of n
unfoldable pub ending_digits : ℕ → ℕ → List ℕ
ending_digits zero n = []
ending_digits (suc k) n = ending_digits k (n / 10) ++ ((48 + n % 10) ∷ [])

-- how many digits n has: the fewest that hold it, and at least one
unfoldable pub width : ℕ → ℕ
width n = suc (least (λ (k : ℕ). ltb n (10 ^ suc k)) n)

-- n in decimal
unfoldable pub decimal : ℕ → List ℕ
decimal n = ending_digits (width n) n

-- a point and the digits, or nothing where there are none
unfoldable pub pointed : List ℕ → List ℕ
pointed [] = []
pointed (d ∷ ds) = 46 ∷ d ∷ ds

-- m with a point before its last p digits, of which it has at least p + 1
unfoldable pub numeral : ℕ → ℕ → List ℕ
numeral m p = decimal (m / 10 ^ p) ++ pointed (ending_digits p m)
