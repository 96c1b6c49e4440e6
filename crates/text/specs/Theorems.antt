-- What is true of every text. Each statement is a type; its proof stands in proofs/Theorems.antt. Assumes nothing.
use Rattle.std.specs.Prelude.{ℕ, ◌+◌, ◌-◌, ◌*◌, ◌^◌, ◌≤◌, ◌<◌, ◌≡◌, true, List, [], ◌∷◌, length, None, Some}
use Rattle.laws.specs.Names.{most}
use Rattle.text.specs.Digits.{width, decimal}
use Rattle.text.specs.Text.{Options, accepts, characters, text}

-- the number that decimal digits show, behind those that showed a
abbrev pub value_from : ℕ → List ℕ → ℕ
value_from a [] = a
value_from a (b ∷ l) = value_from (a * 10 + (b - 48)) l

-- a number of any size shows itself in decimal, and in the fewest digits
abbrev pub Decimal : Type 0
Decimal = (n : ℕ) → (value_from 0 (decimal n) ≡ n) × (length (decimal n) ≡ width n) × (1 < width n → 10 ^ (width n - 1) ≤ n)

-- no text is longer than 278 bytes
abbrev pub Longest : Type 0
Longest = (n : ℕ) (o : Options) → n ≤ most → accepts o ≡ true → length (text n o) ≤ 278

-- and MAX has so many, with a plus sign and 255 fraction digits
abbrev pub Reached : Type 0
Reached = length (text most (record { plus = 1; precision = Some 255; width = None; alignment = 0; fill = 0x20 })) ≡ 278

-- a text has at least as many characters as its width
abbrev pub Wide : Type 0
Wide = (n : ℕ) (o : Options) (w : ℕ) → accepts o ≡ true → o.width ≡ Some w → w ≤ characters (text n o)

-- without a precision, and with no fill to hide it, a text has one value
abbrev pub Distinct : Type 0
Distinct = (m n : ℕ) (o : Options) → o.precision ≡ None → o.width ≡ None → text m o ≡ text n o → m ≡ n
