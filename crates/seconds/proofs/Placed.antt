-- A whole number as the digits of a float's pattern, with the float that has none of them taken off, and a power of two by its exponent alone: one law for both widths. Assumes nothing.
use Rattle.std.proofs.lemmas.Float.{not_nan_f32_bits}
use Rattle.std.proofs.Common.{if◌then◌else◌, nat_lt, true, refl, ◌≡◌, ℕ, suc, ◌+◌, ◌-◌, ◌*◌, ◌^◌, ◌<◌, ◌≤◌, Bool, false, not, T, sym, ap, ◌∙◌, subst, le-add_right, add-zero, lt_irrefl, mul-le-mul_right, mod-eq_of_lt, mul_assoc, mul_comm, add-mul, mul-one, arith, pow_pos, pow-add, ne_eqb}
use native.Mathlib.Nat.{add-sub_cancel_left}
use lib.Arith.{digits_lt, digits_div, digits_mod}
use lib.Ieee.{Float, Format, binary32, prec, emax, low, hid, ones, top, odd, round, sub, mul, of_fields, of_bits, nan_bits}
use lib.Ieee.Fits.{two, reach}
use lib.Ieee.Exact.{HasValue, odd_sign}
use lib.Ieee.Scale.{round_same}
use borrow.Author.Tests.{lt-leb}
use Rattle.seconds.specs.Out.{whole}
use Rattle.seconds.proofs.Operations.{whole-round, sub_at}
use Rattle.seconds.proofs.Scaled.{lowered, scaled_is}

-- ---- the pattern of the exponent field suc j and the digits t
module _ (f : Format) (j t : ℕ) (X : suc j < ones f) (H : t < hid f) where
  abbrev b : ℕ
  b = suc j * hid f + t

  under_top : b < top f
  under_top = subst (λ (z : ℕ). b < z) (mul_comm (suc (ones f)) (hid f)) (digits_lt (next (suc j) (ones f) X) H)
    where
      next : (x o : ℕ) → x < o → x < suc o
      next x o h = omega arith

  bits_are : of_bits f b ≡ odd (prec f) false (hid f + t) j (low f)
  unfolding of_bits of_fields
  bits_are = rw (lt-leb (top f) b under_top, mod-eq_of_lt under_top, digits_div (suc j) H, digits_mod (suc j) H, ne_eqb (suc j) (ones f) other)
    where
      other : suc j ≡ ones f → ⊥
      other e = lt_irrefl (ones f) (subst (λ (z : ℕ). z < ones f) e X)

  value : HasValue (of_bits f b) false ((hid f + t) * 2 ^ j) (2 ^ low f)
  value = subst (λ (z : Float). HasValue z false ((hid f + t) * 2 ^ j) (2 ^ low f)) (sym bits_are) (odd_sign (prec f) false (hid f + t) j (low f))

-- ---- no digits
module _ (f : Format) (j : ℕ) (X : suc j < ones f) where
  bare_value : HasValue (of_bits f (suc j * hid f)) false (hid f * 2 ^ j) (2 ^ low f)
  bare_value =
      subst (λ (z : ℕ). HasValue (of_bits f z) false (hid f * 2 ^ j) (2 ^ low f)) (add-zero (suc j * hid f))
      (subst (λ (z : ℕ). HasValue (of_bits f (suc j * hid f + 0)) false (z * 2 ^ j) (2 ^ low f)) (add-zero (hid f)) (value f j 0 X (pow_pos (prec f - 1))))

-- ---- the machine's pattern of 2 ^ k: x is the exponent's field
module _ (f : Format) (k x : ℕ) (e : x ≡ emax f + k) (X : x < ones f) where
  next : x ≡ suc (emax f - 1 + k)
  next = e ∙ go (prec f) (emax f) (two f) (reach f)
    where
      go : (p e : ℕ) → 2 ≤ p → p ≤ suc e → e + k ≡ suc (e - 1 + k)
      go p e h g = omega arith

  in_field : suc (emax f - 1 + k) < ones f
  in_field = subst (λ (z : ℕ). z < ones f) next X

  power-value : HasValue (of_bits f (x * hid f)) false (2 ^ k) 1
  power-value =
      lowered (of_bits f (x * hid f)) (2 ^ k) (2 ^ low f) (pow_pos (low f))
      (subst (λ (z : ℕ). HasValue (of_bits f (x * hid f)) false z (2 ^ low f)) (sym (pow-add 2 (prec f - 1) (emax f - 1 + k)) ∙ ap (λ (z : ℕ). 2 ^ z) (go (prec f) (emax f) (two f) (reach f)) ∙ pow-add 2 k (low f))
      (rw next (bare_value f (emax f - 1 + k) in_field)))
    where
      go : (p e : ℕ) → 2 ≤ p → p ≤ suc e → p - 1 + (e - 1 + k) ≡ k + (e + p - 2)
      go p e h g = omega arith

  times_power : (m b : ℕ) → m < 2 ^ b → b + k ≤ emax f → mul f (whole f m) (of_bits f (x * hid f)) ≡ whole f (m * 2 ^ k)
  times_power m b B K = scaled_is f m b k (of_bits f (x * hid f)) B K power-value

-- the scale of an f32's digits, which count in 1 or in 2 ^ 18
abbrev place : ℕ → ℕ
place n = if nat_lt n (2 ^ 46) then 0 else 18

place-le : (n : ℕ) → place n ≤ 18
place-le n = go (nat_lt n (2 ^ 46))
  where
    go : (b : Bool) → (if b then 0 else 18) ≤ 18
    go true = omega arith
    go false = omega arith

pub scale_number : (n b : ℕ) → b ≡ (127 + place n) * 2 ^ 23 → T (not (nan_bits binary32 b))
scale_number n b e = rw e (not_nan_f32_bits ((127 + place n) * 2 ^ 23) (omega (arith, place-le n)))

pub scaled_digits : (n m : ℕ) → m < 2 ^ 46 → mul binary32 (whole binary32 m) (of_bits binary32 ((127 + place n) * 2 ^ 23)) ≡ whole binary32 (m * 2 ^ place n)
scaled_digits n m M = times_power binary32 (place n) (127 + place n) refl (omega (arith, place-le n)) m 46 M (omega (arith, place-le n))

-- ---- the machine's pattern: x is the exponent's field, and its digits count in 2 ^ p
module _ (f : Format) (p x : ℕ) (e : x ≡ suc (low f + p)) (X : x < ones f) where
  X' : suc (low f + p) < ones f
  X' = subst (λ (z : ℕ). z < ones f) e X

  pub placed_is : (t : ℕ) → t < hid f → sub f (of_bits f (x * hid f + t)) (of_bits f (x * hid f)) ≡ whole f (t * 2 ^ p)
  placed_is t H =
      sub_at f (of_bits f (x * hid f + t)) (of_bits f (x * hid f)) ((hid f + t) * 2 ^ j) (hid f * 2 ^ j) (2 ^ low f) (pow_pos (low f)) (mul-le-mul_right (2 ^ j) (le-add_right (hid f) t)) (at t H) unit
      ∙ ap (λ (z : ℕ). round f false z (2 ^ low f)) (ap (λ (z : ℕ). z - hid f * 2 ^ j) (add-mul (hid f) t (2 ^ j)) ∙ add-sub_cancel_left (hid f * 2 ^ j) (t * 2 ^ j))
      ∙ round_same f false (t * 2 ^ j) (2 ^ low f) (t * 2 ^ p) 1 (pow_pos (low f)) (omega arith) (mul-one (t * 2 ^ j) ∙ ap (λ (z : ℕ). t * z) (pow-add 2 (low f) p ∙ mul_comm (2 ^ low f) (2 ^ p)) ∙ sym (mul_assoc t (2 ^ p) (2 ^ low f)))
      ∙ sym (whole-round f (t * 2 ^ p))
    where
      j : ℕ
      j = low f + p

      at : (t : ℕ) → t < hid f → HasValue (of_bits f (x * hid f + t)) false ((hid f + t) * 2 ^ j) (2 ^ low f)
      at t H = rw e (value f j t X' H)

      unit : HasValue (of_bits f (x * hid f)) false (hid f * 2 ^ j) (2 ^ low f)
      unit = rw e (bare_value f j X')
