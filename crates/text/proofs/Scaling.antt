-- A value in its unit is shown as it is in billionths of the unit. Assumes nothing.
use Rattle.std.proofs.Common.{Option, None, Some, ◌≡◌, refl, sym, ap, ◌∙◌, Bool, true, false, ℕ, ◌+◌, ◌-◌, ◌*◌, ◌%◌, ◌^◌, ◌≤◌, mul_comm, mul_assoc, mul_right_comm, zero-mul, arith, eq-eqb, ne_eqb, eqb-true, lit<, eqb}
use Rattle.std.proofs.Math.Nat.{mul-mod_left}
use borrow.Author.Tests.{eqb-false}
use lib.Ieee.Nearest.{closest_same}
use Rattle.laws.proofs.Closest.{zero_of}
use Rattle.text.specs.Digits.{least, numeral}
use Rattle.text.specs.Text.{exact_places, places_of, shown}
use Rattle.text.proofs.Leasts.{least_bound}
use Rattle.text.proofs.Decimals.{ten_pos}
use Rattle.text.proofs.Places.{tens, scaled_mod}

module _ (k n : ℕ) (h : k ≤ 9) where
  sum : k + (9 - k) ≡ 9
  sum = omega arith

  pub shown-scaled : (p : ℕ) → shown 9 (n * 10 ^ (9 - k)) p ≡ shown k n p
  unfolding shown
  shown-scaled p = ap (λ (m : ℕ). numeral m p)
      (closest_same (n * 10 ^ (9 - k) * 10 ^ p) (10 ^ 9) (n * 10 ^ p) (10 ^ k) (lit< tt) (ten_pos k)
      (ap (λ (z : ℕ). z * 10 ^ k) (mul_right_comm n (10 ^ (9 - k)) (10 ^ p)) ∙ mul_assoc (n * 10 ^ p) (10 ^ (9 - k)) (10 ^ k) ∙ ap (λ (z : ℕ). n * 10 ^ p * z) (mul_comm (10 ^ (9 - k)) (10 ^ k) ∙ sym (tens k (9 - k) 9 sum))))

  -- the remainder is the same number of units of 10 ^ (9 - k)
  remainder : (p : ℕ) → n * 10 ^ (9 - k) * 10 ^ p % 10 ^ 9 ≡ n * 10 ^ p % 10 ^ k * 10 ^ (9 - k)
  remainder p =
      (λ i. mul_right_comm n (10 ^ (9 - k)) (10 ^ p) i % tens k (9 - k) 9 sum i)
      ∙ scaled_mod (n * 10 ^ p) (10 ^ k) (10 ^ (9 - k)) (ten_pos k) (ten_pos (9 - k))

  zero_same : (p : ℕ) → eqb (n * 10 ^ (9 - k) * 10 ^ p % 10 ^ 9) 0 ≡ eqb (n * 10 ^ p % 10 ^ k) 0
  zero_same p = ap (λ (z : ℕ). eqb z 0) (remainder p) ∙ go (eqb r 0) refl
    where
      r : ℕ
      r = n * 10 ^ p % 10 ^ k

      c : ℕ
      c = 10 ^ (9 - k)

      go : (b : Bool) → eqb r 0 ≡ b → eqb (r * c) 0 ≡ b
      go true e = eq-eqb (r * c) 0 (ap (λ (z : ℕ). z * c) (eqb-true r 0 e) ∙ zero-mul c)
      go false e = ne_eqb (r * c) 0 (λ (z : r * c ≡ 0). eqb-false r 0 e (zero_of r c (ten_pos (9 - k)) z))

  pub places-scaled : exact_places 9 (n * 10 ^ (9 - k)) ≡ exact_places k n
  unfolding exact_places
  places-scaled =
      (λ i. least (λ (p : ℕ). zero_same p i) 9)
      ∙ least_bound (λ (p : ℕ). eqb (n * 10 ^ p % 10 ^ k) 0) k 9 h (eq-eqb (n * 10 ^ k % 10 ^ k) 0 (mul-mod_left n (10 ^ k)))

  pub of-scaled : (c : Option ℕ) → places_of c 9 (n * 10 ^ (9 - k)) ≡ places_of c k n
  unfolding places_of
  of-scaled None = places-scaled
  of-scaled (Some p) = refl
