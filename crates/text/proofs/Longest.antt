-- How long a text can be. Assumes nothing.
use Rattle.std.proofs.Common.{Option, None, Some, ◌≡◌, refl, sym, ap, ◌∙◌, Bool, true, false, cond, List, [], ◌∷◌, ◌++◌, ℕ, suc, ◌+◌, ◌*◌, ◌/◌, ◌%◌, ◌^◌, ◌≤◌, ◌<◌, le_trans, add-zero, mul-le-mul_right, lt_of_le_of_lt, arith, leb-false, leb, lit≤, lit<, length, length-append}
use Rattle.std.proofs.Math.Nat.{div-div-eq-div-mul, mul-div-mul_right, add-mul-div_right}
use Prim.Native.Nat.{compare}
use lib.Ieee.Fits.{nearest-le}
use lib.Ieee.Nearest.{closest, div_mono}
use Rattle.duration.specs.Meaning.{most}
use Rattle.laws.specs.Written.{times}
use Rattle.laws.proofs.Written.{length-times}
use Rattle.text.specs.declared.Options.{Options}
use Rattle.text.specs.declared.unit.Unit.{Unit}
use Rattle.text.specs.declared.unit.Unit.TheVariants.{Seconds, Millis, Micros, Nanos}
use Rattle.text.specs.Digits.{ending_digits, width, decimal, pointed, numeral}
use Rattle.text.specs.Options.{limit, within}
use Rattle.text.specs.Text.{measure, suffix_of, unit_of, places_of, shown, plain_in, plain, characters, lacking, text}
use Rattle.text.specs.Theorems.{Longest, Reached, Wide}
use Rattle.text.proofs.Decimals.{ten_pos, length_digits, length_decimal, width_le, width_is}
use Rattle.text.proofs.Accepts.{Accepted, accepted, within-set}
use Rattle.text.proofs.Layouts.{places_le}
use Rattle.text.proofs.Lengths.{point_some}
use Rattle.text.proofs.Plains.{places_nine}
use Rattle.text.proofs.Characters.{chars_append, chars_times, chars_shown}
use Rattle.text.proofs.Printing.{length-padded, characters-padded}

-- ---- rounding adds at most one to the whole part
module _ (k n p : ℕ) where
  abbrev m : ℕ
  m = closest (n * 10 ^ p) (10 ^ k)

  pub whole_le : m / 10 ^ p ≤ n / 10 ^ k + 1
  whole_le =
      le_trans (div_mono m (10 ^ p) (n * 10 ^ p / 10 ^ k + 1 * 10 ^ p) (10 ^ p) (ten_pos p) (ten_pos p) (mul-le-mul_right (10 ^ p) step))
      (omega (arith, add-mul-div_right (n * 10 ^ p / 10 ^ k) 1 (ten_pos p), quotient))
    where
      step : m ≤ n * 10 ^ p / 10 ^ k + 1 * 10 ^ p
      step = omega (arith, nearest-le (n * 10 ^ p / 10 ^ k) (compare (n * 10 ^ p % 10 ^ k * 2) (10 ^ k)), ten_pos p)

      quotient : n * 10 ^ p / 10 ^ k / 10 ^ p ≡ n / 10 ^ k
      quotient = div-div-eq-div-mul (n * 10 ^ p) (10 ^ k) (10 ^ p) ∙ mul-div-mul_right n (10 ^ k) (ten_pos p)

-- ---- a point is one byte at most
length-pointed_le : (l : List ℕ) → length (pointed l) ≤ 1 + length l
unfolding pointed
length-pointed_le [] = lit≤ tt
length-pointed_le (d ∷ ds) = omega arith

pub length-shown : (k n p w : ℕ) → n / 10 ^ k + 1 < 10 ^ suc w → length (shown k n p) ≤ suc w + (1 + p)
unfolding shown numeral
length-shown k n p w h =
    omega (arith, length-append (decimal (m k n p / 10 ^ p)) (pointed (ending_digits p (m k n p))), length_decimal (m k n p / 10 ^ p), width_le (m k n p / 10 ^ p) w (lt_of_le_of_lt (whole_le k n p) h), length-pointed_le (ending_digits p (m k n p)), length_digits p (m k n p))

length-shown_is : (k n p : ℕ) → 0 < p → length (shown k n p) ≡ width (m k n p / 10 ^ p) + (1 + p)
unfolding shown numeral
length-shown_is k n p h =
    length-append (decimal (m k n p / 10 ^ p)) (pointed (ending_digits p (m k n p)))
    ∙ (λ i. length_decimal (m k n p / 10 ^ p) i + length-point (ending_digits p (m k n p)) p (length_digits p (m k n p)) h i)
  where
    length-point : (l : List ℕ) (p : ℕ) → length l ≡ p → 0 < p → length (pointed l) ≡ 1 + p
    length-point l p e h = omega (arith, ap length (point_some l (omega arith)), e)

-- fraction digits
pub few_places : (c : Option ℕ) (u : Unit) (n : ℕ) → within c ≡ true → places_of c (measure u).places n ≤ limit
unfolding places_of
few_places None u n h = omega (arith, places_le (measure u).places n, places_nine u)
few_places (Some p) u n h = within-set refl h

-- ---- the whole part and the suffix: seconds have twenty digits at most, the other units four
room : (n : ℕ) → n ≤ most → (d : ℕ) × ((n / 10 ^ (measure (unit_of n)).places + 1 < 10 ^ suc d) × (suc d + length (suffix_of (unit_of n)) ≤ 21))
unfolding unit_of
room n h = go (leb (10 ^ 9) n) (leb (10 ^ 6) n) (leb (10 ^ 3) n) refl refl refl
  where
    go : (a b c : Bool) → leb (10 ^ 9) n ≡ a → leb (10 ^ 6) n ≡ b → leb (10 ^ 3) n ≡ c
        → (d : ℕ) × ((n / 10 ^ (measure (cond a Seconds (cond b Millis (cond c Micros Nanos)))).places + 1 < 10 ^ suc d) × (suc d + length (suffix_of (cond a Seconds (cond b Millis (cond c Micros Nanos)))) ≤ 21))
    go true b c e f g = (19, (omega arith, lit≤ tt))
    go false true c e f g = (3, (omega (arith, leb-false (10 ^ 9) n e), lit≤ tt))
    go false false true e f g = (3, (omega (arith, leb-false (10 ^ 6) n f), lit≤ tt))
    go false false false e f g = (3, (omega (arith, leb-false (10 ^ 3) n g), lit≤ tt))

module _ (n : ℕ) (o : Options) where
  abbrev u : Unit
  u = unit_of n

  abbrev number : List ℕ
  number = shown (measure u).places n (places_of o.precision (measure u).places n)

  length-plain : length (plain n o) ≡ o.plus + length number + length (suffix_of u)
  unfolding plain plain_in
  length-plain =
      length-append (times o.plus 43 ++ number) (suffix_of u)
      ∙ ap (λ (z : ℕ). z + length (suffix_of u)) (length-append (times o.plus 43) number ∙ ap (λ (z : ℕ). z + length number) (length-times o.plus 43))

  characters-plain : characters (plain n o) ≡ o.plus + length number + characters (suffix_of u)
  unfolding plain plain_in
  characters-plain =
      chars_append (times o.plus 43 ++ number) (suffix_of u)
      ∙ ap (λ (z : ℕ). z + characters (suffix_of u)) (chars_append (times o.plus 43) number ∙ (λ i. chars_times o.plus 43 (lit< tt) i + chars_shown (measure u).places n (places_of o.precision (measure u).places n) i))

  plain_le : n ≤ most → Accepted o → length (plain n o) ≤ limit + 23
  plain_le h a =
      let r = room n h in
      omega (arith, length-plain, length-shown (measure u).places n (places_of o.precision (measure u).places n) r.0 r.1.0, r.1.1, few_places o.precision u n a.precision, a.plus)

-- a suffix has at most one byte that is no character
one_more : (u : Unit) → length (suffix_of u) ≤ characters (suffix_of u) + 1
unfolding characters
one_more Seconds = lit≤ tt
one_more Millis = lit≤ tt
one_more Micros = lit≤ tt
one_more Nanos = lit≤ tt

filled_le : (c : Option ℕ) (b k most : ℕ) → within c ≡ true → b ≤ k + 1 → b ≤ most → limit + 1 ≤ most → b + lacking c k ≤ most
unfolding lacking
filled_le None b k most h l m e = omega arith
filled_le (Some w) b k most h l m e = omega (arith, within-set {c = Some w} refl h)

pub longest : Longest
unfolding text
longest n o h e =
    let a : Accepted o = accepted o e in
    let k : ℕ = characters (plain n o) in
    let one : length (plain n o) ≤ k + 1 = omega (arith, length-plain n o, characters-plain n o, one_more (unit_of n)) in
    omega (arith, length-padded (lacking o.width k) o.alignment o.fill (plain n o), filled_le o.width (length (plain n o)) k 278 a.width one (plain_le n o h a) (lit≤ tt))

pub wide : Wide
unfolding text lacking
wide n o w e f =
    let a : Accepted o = accepted o e in
    let k : ℕ = characters (plain n o) in
    omega (arith, characters-padded (lacking o.width k) o.alignment o.fill (plain n o) (omega (arith, a.high)), ap (λ (c : Option ℕ). lacking c k) f)

-- MAX with a plus sign and all digits that can be asked for
abbrev fullest : Options
fullest = record { plus = 1; precision = Some 255; width = None; alignment = 0; fill = 0x20 }

all_digits : length (shown 9 most 255) ≡ 276
all_digits = length-shown_is 9 most 255 (lit< tt) ∙ ap (λ (z : ℕ). z + (1 + 255)) (sym (width_is (m 9 most 255 / 10 ^ 255) 19 (lit< tt) (lit≤ tt)))

pub reached : Reached
unfolding text lacking unit_of places_of
reached = length-padded 0 0 0x20 (plain most fullest) ∙ add-zero (length (plain most fullest)) ∙ length-plain most fullest ∙ ap (λ (z : ℕ). 1 + z + 1) all_digits
