-- How many bytes a number has, and where they go. Assumes nothing.
use Rattle.std.proofs.Common.{◌≡◌, refl, sym, ap, ◌∙◌, ℕ, ◌+◌, ◌^◌, ◌≤◌, ◌<◌, List, [], ◌∷◌, length, take, length-append, lit<, lit≤, arith, not-suc-le-zero, lt_of_le_of_lt, length-take-le}
use Rattle.laws.specs.Written.{times}
use Rattle.laws.proofs.Written.{length-times}
use Rattle.text.specs.declared.fraction.Fraction.{Fraction}
use Rattle.text.specs.declared.number.Number.{Number}
use Rattle.text.specs.Digits.{ending_digits, width, decimal, pointed}
use Rattle.text.specs.Parts.{places, laid_out}
use Rattle.text.proofs.Decimals.{length_decimal, width_is, width_le}

-- ---- 2 ^ 64, the one number past the largest word that is written
pub past_width : {n : ℕ} → n ≡ 2 ^ 64 → 20 ≡ width n
past_width e = width_is (2 ^ 64) 19 (lit< tt) (lit≤ tt) ∙ ap width (sym e)

pub past_decimal : {n : ℕ} → n ≡ 2 ^ 64
    → 49 ∷ 56 ∷ 52 ∷ 52 ∷ 54 ∷ 55 ∷ 52 ∷ 52 ∷ 48 ∷ 55 ∷ 51 ∷ 55 ∷ 48 ∷ 57 ∷ 53 ∷ 53 ∷ 49 ∷ 54 ∷ 49 ∷ 54 ∷ [] ≡ decimal n
unfolding decimal ending_digits
past_decimal e = ap (λ (k : ℕ). ending_digits k (2 ^ 64)) (past_width refl) ∙ ap decimal (sym e)

pub word_decimal : (n : ℕ) {k : ℕ} → k ≡ width n → ending_digits k n ≡ decimal n
unfolding decimal
word_decimal n e = ap (λ (j : ℕ). ending_digits j n) e

-- ---- a point stands before digits only
pub point_none : (l : List ℕ) → length l ≡ 0 → [] ≡ pointed l
unfolding pointed
point_none [] h = refl
point_none (d ∷ ds) h = absurd (omega arith)

pub point_some : (l : List ℕ) → 0 < length l → 46 ∷ l ≡ pointed l
unfolding pointed
point_some [] h = absurd (not-suc-le-zero h)
point_some (d ∷ ds) h = refl

-- ---- the length of a number that is laid out
module _ (f : Fraction) (zeros : ℕ) (nine : length f.digits ≡ 9) where
  length-places : length (places f zeros) ≡ f.count + zeros
  length-places = length-append (take f.count f.digits) (times zeros 48) ∙ (λ i. length-take-le f.count f.digits (omega (arith, f.used, nine)) i + length-times zeros 48 i)

  pub no_places : f.count + zeros ≡ 0 → [] ≡ pointed (places f zeros)
  no_places e = point_none (places f zeros) (length-places ∙ e)

  pub some_places : (f.count + zeros ≡ 0 → ⊥) → 46 ∷ places f zeros ≡ pointed (places f zeros)
  some_places e = point_some (places f zeros) (omega (arith, length-places, e))

  pub length_none : f.count + zeros ≡ 0 → length (pointed (places f zeros)) ≡ 0
  length_none e = sym (ap length (no_places e))

  pub length_some : (f.count + zeros ≡ 0 → ⊥) → length (pointed (places f zeros)) ≡ 1 + (f.count + zeros)
  length_some e = omega (arith, ap length (sym (some_places e)), length-places)

pub length_laid : (n : ℕ) (f : Fraction) (zeros : ℕ) → length (laid_out n f zeros) ≡ width n + length (pointed (places f zeros))
unfolding laid_out
length_laid n f zeros = length-append (decimal n) (pointed (places f zeros)) ∙ ap (λ (z : ℕ). z + length (pointed (places f zeros))) (length_decimal n)

-- twenty digits are the most
pub few_digits : (n : Number) → n.digits ≤ 20
few_digits n = omega (arith, n.measured, width_le n.whole 19 (lt_of_le_of_lt n.one_past (lit< tt)))
