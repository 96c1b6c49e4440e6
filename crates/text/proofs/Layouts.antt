-- A number laid out: what it shows, and how long it is. Assumes nothing.
use Rattle.std.proofs.Common.{◌≡◌, refl, sym, ap, ◌∙◌, ℕ, ◌+◌, ◌-◌, ◌*◌, ◌/◌, ◌%◌, ◌^◌, ◌≤◌, eqb, List, ◌++◌, take, append-nil, lit<, arith, mul_comm, mul_assoc, mul-one, add-zero, div-one, add-mul, take_all}
use Rattle.std.proofs.Math.Nat.{mod-one, div-eq_of_lt, mul-div-mul_right, mul-add-mod_self_right}
use Prim.Native.Nat.{compare}
use Rattle.std.specs.Int.{from_bool}
use lib.Ieee.{nearest}
use lib.Ieee.Nearest.{closest, closest_same}
use Rattle.laws.specs.Written.{times}
use Rattle.text.specs.declared.unit.Amount.{Amount}
use Rattle.text.specs.declared.fraction.Fraction.{Fraction}
use Rattle.text.specs.declared.round.Rounded.{Rounded}
use Rattle.text.specs.Digits.{least, ending_digits, decimal, pointed, numeral}
use Rattle.text.specs.Text.{exact_places, shown}
use Rattle.text.specs.Parts.{billionths, IsFraction, nearest_to, Rounds, laid_out}
use Rattle.text.proofs.Leasts.{least_le}
use Rattle.text.proofs.Decimals.{ten_pos, length_digits, digits_low, digits-take, digits-zeros}
use Rattle.text.proofs.Places.{tens, exact_from}
use Rattle.text.proofs.Rounding.{kept, kept-lt, whole_of, down}

pub places_le : (k n : ℕ) → exact_places k n ≤ k
unfolding exact_places
places_le k n = least_le (λ (p : ℕ). eqb (n * 10 ^ p % 10 ^ k) 0) k

-- ---- what is shown of n and x billionths at q digits, up to nine
pub shown_nearest : (q n x : ℕ) → q ≤ 9 → closest ((n * 10 ^ 9 + x) * 10 ^ q) (10 ^ 9) ≡ nearest_to q n x
unfolding nearest_to
shown_nearest q n x h =
    let e : q + (9 - q) ≡ 9 = omega arith in
    closest_same ((n * 10 ^ 9 + x) * 10 ^ q) (10 ^ 9) (n * 10 ^ 9 + x) (10 ^ (9 - q)) (lit< tt) (ten_pos (9 - q))
    (mul_assoc (n * 10 ^ 9 + x) (10 ^ q) (10 ^ (9 - q)) ∙ ap (λ (z : ℕ). (n * 10 ^ 9 + x) * z) (sym (tens q (9 - q) 9 e)))

-- the whole part does not change how many digits show the value exactly
pub places-low : (n x : ℕ) → exact_places 9 x ≡ exact_places 9 (n * 10 ^ 9 + x)
unfolding exact_places
places-low n x = λ i. least (λ (p : ℕ). eqb (same p i) 0) 9
  where
    same : (p : ℕ) → x * 10 ^ p % 10 ^ 9 ≡ (n * 10 ^ 9 + x) * 10 ^ p % 10 ^ 9
    same p =
        sym (mul-add-mod_self_right (n * 10 ^ p) (10 ^ 9) (x * 10 ^ p))
        ∙ ap (λ (z : ℕ). (z + x * 10 ^ p) % 10 ^ 9) (mul_assoc n (10 ^ p) (10 ^ 9) ∙ ap (λ (z : ℕ). n * z) (mul_comm (10 ^ p) (10 ^ 9)) ∙ sym (mul_assoc n (10 ^ 9) (10 ^ p)))
        ∙ ap (λ (z : ℕ). z % 10 ^ 9) (sym (add-mul (n * 10 ^ 9) x (10 ^ p)))

-- a number whose digits and whole part are those of the rounded value shows it
shows : (n x q w : ℕ) (f : Fraction) → q ≤ 9 → w ≡ nearest_to q n x / 10 ^ q → f.count ≡ q → take q f.digits ≡ ending_digits q (nearest_to q n x) → laid_out w f 0 ≡ shown 9 (n * 10 ^ 9 + x) q
unfolding laid_out shown numeral times
shows n x q w f h e c d =
    (λ i. decimal (e i) ++ pointed (append-nil ((ap (λ (k : ℕ). take k f.digits) c ∙ d) i) i)) ∙ ap (λ (m : ℕ). decimal (m / 10 ^ q) ++ pointed (ending_digits q m)) (sym (shown_nearest q n x h))

module _ (a : Amount) {f : Fraction} (s : IsFraction a.part f) where
  -- all digits
  pub exactly_is : laid_out a.whole f 0 ≡ shown 9 (billionths a) (exact_places 9 (billionths a))
  exactly_is = shows n x q n f f.used whole refl digits ∙ ap (shown 9 (billionths a)) (s.count ∙ places-low n x)
    where
      n : ℕ
      n = a.whole

      x : ℕ
      x = a.part

      q : ℕ
      q = f.count

      none : x % 10 ^ (9 - q) ≡ 0
      none = exact_from x q f.used (omega (arith, s.count))

      same : kept n x q ≡ nearest_to q n x
      same = sym (add-zero (kept n x q)) ∙ down n x q f.used (omega (arith, none, ten_pos (9 - q)))

      whole : n ≡ nearest_to q n x / 10 ^ q
      whole = sym (ap (λ (z : ℕ). z / 10 ^ q) (sym same) ∙ whole_of n (x / 10 ^ (9 - q)) q ∙ ap (λ (z : ℕ). n + z) (div-eq_of_lt (kept-lt x q f.used a.below_one)) ∙ add-zero n)

      digits : take q f.digits ≡ ending_digits q (nearest_to q n x)
      digits =
          (let e : 9 - q + q ≡ 9 = omega (arith, f.used) in ap (take q) s.digits ∙ rw e at (digits-take (9 - q) q x))
          ∙ sym (digits_low q n (x / 10 ^ (9 - q)))
          ∙ ap (ending_digits q) same

  -- nine and more: zeros follow
  pub padded_is : (p : ℕ) (g : Fraction) → g.digits ≡ f.digits → g.count ≡ 9 → 9 ≤ p → laid_out a.whole g (p - 9) ≡ shown 9 (billionths a) p
  unfolding laid_out shown numeral
  padded_is p g e c h = (λ i. decimal (whole i) ++ pointed (digits i)) ∙ ap (λ (m : ℕ). decimal (m / 10 ^ p) ++ pointed (ending_digits p m)) (sym exact)
    where
      j : ℕ
      j = p - 9

      n : ℕ
      n = a.whole

      v : ℕ
      v = n * 10 ^ 9 + a.part

      sum : 9 + j ≡ p
      sum = omega arith

      exact : closest (v * 10 ^ p) (10 ^ 9) ≡ v * 10 ^ j
      exact =
          closest_same (v * 10 ^ p) (10 ^ 9) (v * 10 ^ j) 1 (lit< tt) (lit< tt)
          (mul-one (v * 10 ^ p) ∙ ap (λ (z : ℕ). v * z) (tens 9 j p sum ∙ mul_comm (10 ^ 9) (10 ^ j)) ∙ sym (mul_assoc v (10 ^ j) (10 ^ 9)))
          ∙ (λ i. nearest (div-one (v * 10 ^ j) i) (compare (mod-one (v * 10 ^ j) i * 2) 1))

      whole : n ≡ v * 10 ^ j / 10 ^ p
      whole = sym (ap (λ (z : ℕ). v * 10 ^ j / z) (tens 9 j p sum) ∙ mul-div-mul_right v (10 ^ 9) (ten_pos j) ∙ whole_of n a.part 9 ∙ ap (λ (z : ℕ). n + z) (div-eq_of_lt a.below_one) ∙ add-zero n)

      digits : take g.count g.digits ++ times (p - 9) 48 ≡ ending_digits p (v * 10 ^ j)
      digits =
          ap (λ (y : List ℕ). y ++ times (p - 9) 48) ((λ i. take (c i) (e i)) ∙ ap (take 9) s.digits ∙ take_all 9 (ending_digits 9 a.part) (omega (arith, length_digits 9 a.part)) ∙ sym (digits_low 9 n a.part))
          ∙ sym (digits-zeros 9 j v)
          ∙ ap (λ (k : ℕ). ending_digits k (v * 10 ^ j)) sum

-- fewer than nine
pub rounded_is : (a : Amount) (q : ℕ) {r : Rounded} → q ≤ 9 → Rounds a.whole a.part q r → laid_out (a.whole + from_bool r.carry) r.fraction 0 ≡ shown 9 (billionths a) q
rounded_is a q {r} h o = shows a.whole a.part q (a.whole + from_bool r.carry) r.fraction h o.whole o.count o.digits
