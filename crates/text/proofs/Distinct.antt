-- Without a precision and a width a text has one value: it is taken apart into its digits and its suffix. Assumes nothing.
use Rattle.std.proofs.Common.{Option, None, ◌≡◌, refl, sym, ap, ◌∙◌, Bool, cond, List, [], ◌∷◌, ◌++◌, append_assoc, append-nil, ℕ, zero, suc, ◌+◌, ◌-◌, ◌*◌, ◌/◌, ◌%◌, ◌^◌, ◌<◌, add-zero, div-add-mod', arith, le-leb, leb, eqb, length, drop}
use Rattle.std.proofs.Math.Arith.{le-zero}
use Rattle.std.proofs.Math.Nat.{eq_of_mul-eq-mul_right}
use lib.Ieee.Nearest.{closest}
use Rattle.laws.specs.Written.{times}
use Rattle.laws.proofs.Closest.{at_lt}
use Rattle.text.specs.declared.Options.{Options}
use Rattle.text.specs.declared.unit.Unit.{Unit}
use Rattle.text.specs.declared.unit.Unit.TheVariants.{Seconds, Millis, Micros, Nanos}
use Rattle.text.specs.Digits.{ending_digits, width, decimal, pointed, numeral}
use Rattle.text.specs.Text.{measure, suffix_of, unit_of, exact_places, places_of, shown, plain_in, plain, characters, lacking, front, padded, text}
use Rattle.text.specs.Theorems.{value_from, Distinct}
use Rattle.text.proofs.Decimals.{ten_pos, length_digits}
use Rattle.text.proofs.Places.{exact_at}
use Rattle.text.proofs.Printing.{front_le}
use Rattle.text.proofs.Runs.{run, Passes, pass_none, pass_one, pass_both, cancel, pieces}
use Rattle.text.proofs.Values.{value-digits, value-decimal}

-- ---- the bytes of a number: digits from 48 to 57, and the point, which is 46
abbrev low : ℕ → Bool
low b = leb b 57

abbrev high : ℕ → Bool
high b = leb 48 b

low-digits : (k n : ℕ) → Passes low (ending_digits k n)
unfolding ending_digits
low-digits zero n = pass_none low
low-digits (suc k) n = pass_both low (ending_digits k (n / 10)) ((48 + n % 10) ∷ []) (low-digits k (n / 10)) (pass_one low (48 + n % 10) (le-leb (48 + n % 10) 57 (omega arith)))

high-digits : (k n : ℕ) → Passes high (ending_digits k n)
unfolding ending_digits
high-digits zero n = pass_none high
high-digits (suc k) n = pass_both high (ending_digits k (n / 10)) ((48 + n % 10) ∷ []) (high-digits k (n / 10)) (pass_one high (48 + n % 10) (le-leb 48 (48 + n % 10) (omega arith)))

low-pointed : (l : List ℕ) → Passes low l → Passes low (pointed l)
unfolding pointed
low-pointed [] f = f
low-pointed (d ∷ ds) f = pass_both low (46 ∷ []) (d ∷ ds) (pass_one low 46 refl) f

low-numeral : (m p : ℕ) → Passes low (numeral m p)
unfolding numeral decimal
low-numeral m p = pass_both low (decimal (m / 10 ^ p)) (pointed (ending_digits p m)) (low-digits (width (m / 10 ^ p)) (m / 10 ^ p)) (low-pointed (ending_digits p m) (low-digits p m))

-- a point is no digit, and no suffix begins with a byte of a number
no_digit : (l : List ℕ) → run high (pointed l) ≡ []
unfolding pointed
no_digit [] = refl
no_digit (d ∷ ds) = refl

no_number : (u : Unit) → run low (suffix_of u) ≡ []
no_number Seconds = refl
no_number Millis = refl
no_number Micros = refl
no_number Nanos = refl

-- ---- a suffix tells its unit's places
abbrev places_by : List ℕ → ℕ
places_by [] = 0
places_by (b ∷ l) = cond (eqb b 115) 9 (cond (eqb b 109) 6 (cond (eqb b 0xC2) 3 0))

tells : (u : Unit) → places_by (suffix_of u) ≡ (measure u).places
tells Seconds = refl
tells Millis = refl
tells Micros = refl
tells Nanos = refl

-- ---- a numeral tells its number and how many digits stand behind the point
behind : (l : List ℕ) → drop 1 (pointed l) ≡ l
unfolding pointed
behind [] = refl
behind (d ∷ ds) = refl

same-numeral : (m n p q : ℕ) → numeral m p ≡ numeral n q → (m ≡ n) × (p ≡ q)
unfolding numeral decimal
same-numeral m n p q e = (whole ∙ both ∙ sym other, places)
  where
    apart : (decimal (m / 10 ^ p) ≡ decimal (n / 10 ^ q)) × (pointed (ending_digits p m) ≡ pointed (ending_digits q n))
    apart =
        pieces high (decimal (m / 10 ^ p)) (pointed (ending_digits p m)) (decimal (n / 10 ^ q)) (pointed (ending_digits q n))
        (high-digits (width (m / 10 ^ p)) (m / 10 ^ p)) (high-digits (width (n / 10 ^ q)) (n / 10 ^ q)) (no_digit (ending_digits p m)) (no_digit (ending_digits q n)) e

    digits : ending_digits p m ≡ ending_digits q n
    digits = sym (behind (ending_digits p m)) ∙ ap (drop 1) apart.1 ∙ behind (ending_digits q n)

    places : p ≡ q
    places = sym (length_digits p m) ∙ ap length digits ∙ length_digits q n

    quotient : m / 10 ^ p ≡ n / 10 ^ q
    quotient = sym (value-decimal (m / 10 ^ p)) ∙ ap (value_from 0) apart.0 ∙ value-decimal (n / 10 ^ q)

    rest : m % 10 ^ p ≡ n % 10 ^ q
    rest = sym (value-digits p m) ∙ ap (value_from 0) digits ∙ value-digits q n

    whole : m ≡ m / 10 ^ p * 10 ^ p + m % 10 ^ p
    whole = sym (div-add-mod' m (10 ^ p))

    both : m / 10 ^ p * 10 ^ p + m % 10 ^ p ≡ n / 10 ^ q * 10 ^ q + n % 10 ^ q
    both = λ i. quotient i * 10 ^ places i + rest i

    other : n ≡ n / 10 ^ q * 10 ^ q + n % 10 ^ q
    other = sym (div-add-mod' n (10 ^ q))

-- ---- with as many digits as are exact, the number shown is the value
exact-shown : (k n p : ℕ) → n * 10 ^ p % 10 ^ k ≡ 0 → closest (n * 10 ^ p) (10 ^ k) * 10 ^ k ≡ n * 10 ^ p
exact-shown k n p z =
    ap (λ (y : ℕ). y * 10 ^ k) (at_lt (n * 10 ^ p / 10 ^ k) (n * 10 ^ p % 10 ^ k * 2) (10 ^ k) small)
    ∙ sym (add-zero (n * 10 ^ p / 10 ^ k * 10 ^ k))
    ∙ ap (λ (y : ℕ). n * 10 ^ p / 10 ^ k * 10 ^ k + y) (sym z)
    ∙ div-add-mod' (n * 10 ^ p) (10 ^ k)
  where
    small : n * 10 ^ p % 10 ^ k * 2 < 10 ^ k
    small = omega (arith, z, ten_pos k)

same-value : (j k m n p q : ℕ) → j ≡ k → p ≡ q → m * 10 ^ p % 10 ^ j ≡ 0 → n * 10 ^ q % 10 ^ k ≡ 0 → closest (m * 10 ^ p) (10 ^ j) ≡ closest (n * 10 ^ q) (10 ^ k) → m ≡ n
same-value j k m n p q e f x y h =
    eq_of_mul-eq-mul_right (10 ^ p) (ten_pos p) m n
    (sym (exact-shown j m p x) ∙ (λ i. h i * 10 ^ e i) ∙ exact-shown k n q y ∙ ap (λ (z : ℕ). n * 10 ^ z) (sym f))

-- ---- the text without padding, with all its digits
no_padding : (alignment b : ℕ) (t : List ℕ) → padded 0 alignment b t ≡ t
unfolding padded times
no_padding alignment b t = let z : front alignment 0 ≡ 0 = le-zero (front_le alignment 0) in ap (λ (k : ℕ). times k b ++ t ++ times (0 - k) b) z ∙ append-nil t

abbrev places : ℕ → ℕ
places n = (measure (unit_of n)).places

abbrev exactly : ℕ → List ℕ
exactly n = shown (places n) n (exact_places (places n) n)

bare : (n : ℕ) (o : Options) → o.precision ≡ None → o.width ≡ None → text n o ≡ times o.plus 43 ++ (exactly n ++ suffix_of (unit_of n))
unfolding text lacking plain plain_in places_of
bare n o P W =
    ap (λ (c : Option ℕ). padded (lacking c (characters (plain n o))) o.alignment o.fill (plain n o)) W
    ∙ no_padding o.alignment o.fill (plain n o)
    ∙ ap (λ (c : Option ℕ). times o.plus 43 ++ shown (places n) n (places_of c (places n) n) ++ suffix_of (unit_of n)) P
    ∙ append_assoc (times o.plus 43) (exactly n) (suffix_of (unit_of n))

low-exactly : (n : ℕ) → Passes low (exactly n)
unfolding shown
low-exactly n = low-numeral (closest (n * 10 ^ exact_places (places n) n) (10 ^ places n)) (exact_places (places n) n)

same-exactly : (m n : ℕ) → exactly m ≡ exactly n → (closest (m * 10 ^ exact_places (places m) m) (10 ^ places m) ≡ closest (n * 10 ^ exact_places (places n) n) (10 ^ places n)) × (exact_places (places m) m ≡ exact_places (places n) n)
unfolding shown
same-exactly m n e = same-numeral (closest (m * 10 ^ exact_places (places m) m) (10 ^ places m)) (closest (n * 10 ^ exact_places (places n) n) (10 ^ places n)) (exact_places (places m) m) (exact_places (places n) n) e

pub distinct : Distinct
distinct m n o P W e = same-value (places m) (places n) m n (exact_places (places m) m) (exact_places (places n) n) units number.1 (exact_at (places m) m) (exact_at (places n) n) number.0
  where
    apart : (exactly m ≡ exactly n) × (suffix_of (unit_of m) ≡ suffix_of (unit_of n))
    apart =
        pieces low (exactly m) (suffix_of (unit_of m)) (exactly n) (suffix_of (unit_of n)) (low-exactly m) (low-exactly n) (no_number (unit_of m)) (no_number (unit_of n))
        (cancel (times o.plus 43) (exactly m ++ suffix_of (unit_of m)) (exactly n ++ suffix_of (unit_of n)) (sym (bare m o P W) ∙ e ∙ bare n o P W))

    number : (closest (m * 10 ^ exact_places (places m) m) (10 ^ places m) ≡ closest (n * 10 ^ exact_places (places n) n) (10 ^ places n)) × (exact_places (places m) m ≡ exact_places (places n) n)
    number = same-exactly m n apart.0

    units : places m ≡ places n
    units = sym (tells (unit_of m)) ∙ ap places_by apart.1 ∙ tells (unit_of n)
