-- A whole number as a float, times a power of two: the float of the product, since both lose the same digits. One law for both widths. Assumes nothing.
use Rattle.std.proofs.Common.{◌≡◌, ℕ, suc, ◌+◌, ◌-◌, ◌*◌, ◌/◌, ◌%◌, ◌^◌, ◌<◌, ◌≤◌, false, pos, sym, ap, ◌∙◌, subst, inl, inr, le_trans, le_of_eq, lt_of_lt_of_le, lt_of_le_of_lt, le_of_lt, mul-le-mul_right, zero-lt-suc, mul_assoc, lt-suc_self, eq-or-lt_of_le, mul-one, mul_right_comm, div-one, arith, pow_pos, pow_mono, pow-add, shl_lt}
use Prim.Native.Nat.{compare}
use native.Mathlib.Nat.{div-div-eq-div-mul, eq_of_mul-eq-mul_right}
use lib.Pow.{pow-lt}
use lib.Ieee.{Float, nan, inf, fin, Format, prec, emax, low, up, down, size, round, mul}
use lib.Ieee.Digits.{size-le}
use lib.Ieee.Fits.{two, nearest-le, kept-lt, of_int-fits}
use lib.Ieee.Exact.{HasValue}
use lib.Ieee.Order.{kept}
use lib.Ieee.Scale.{grid, overflow, round_val, grid_scale}
use lib.Ieee.Back.{whole_unique}
use Rattle.laws.proofs.Closest.{le_or_lt}
use Rattle.seconds.specs.Out.{whole}
use Rattle.seconds.proofs.Operations.{whole-round, whole_val, shifted_val, mul_at}
use Rattle.seconds.proofs.LastDigits.{size_above}

-- ---- whole values
pub lowered : (x : Float) (w c : ℕ) → 0 < c → HasValue x false (w * c) c → HasValue x false w 1
lowered nan w c C h = h
lowered (inf s) w c C h = h
lowered (fin s m e) w c C h = (h.0, eq_of_mul-eq-mul_right c C (m * up e * 1) (w * down e) (ap (λ (z : ℕ). z * c) (mul-one (m * up e)) ∙ h.1 ∙ mul_right_comm w c (down e)))

product : (f : Format) (x y : Float) (a b : ℕ) → HasValue x false a 1 → HasValue y false b 1 → mul f x y ≡ whole f (a * b)
product f x y a b h k = mul_at f (zero-lt-suc 0) (zero-lt-suc 0) x y a b h k ∙ sym (whole-round f (a * b))

-- as `shifted_val`, with 2 ^ prec itself, which a number can be rounded up to
full_val : (f : Format) (a k : ℕ) → a ≤ 2 ^ prec f → prec f + k ≤ emax f → HasValue (whole f (a * 2 ^ k)) false (a * 2 ^ k) 1
full_val f a k h r = elim (eq-or-lt_of_le h) [
  | inl e ↦
      subst (λ (z : ℕ). HasValue (whole f z) false z 1) (sym (pow-add 2 (prec f - 1) (suc k)) ∙ ap (λ (z : ℕ). 2 ^ z) (next (prec f) (two f)) ∙ pow-add 2 (prec f) k ∙ ap (λ (z : ℕ). z * 2 ^ k) (sym e))
      (shifted_val f (2 ^ (prec f - 1)) (suc k) (pow-lt (less (prec f) (two f))) (over (prec f) (emax f) r))
  | inr l ↦ shifted_val f a k l (under (prec f) (emax f) r)
]
  where
    next : (p : ℕ) → 2 ≤ p → p - 1 + suc k ≡ p + k
    next p h = omega arith

    less : (p : ℕ) → 2 ≤ p → p - 1 < p
    less p h = omega arith

    over : (p e : ℕ) → p + k ≤ e → p + suc k ≤ suc e
    over p e h = omega arith

    under : (p e : ℕ) → p + k ≤ e → p + k ≤ suc e
    under p e h = omega arith

-- ---- a number of more digits than the format keeps, and of b at most: it is rounded to q * 2 ^ d
module _ (f : Format) (m b k : ℕ) (M : 2 ^ prec f ≤ m) (B : m < 2 ^ b) (K : b + k ≤ emax f) where
  -- in units of the format's smallest value
  abbrev n : ℕ
  n = m * 2 ^ low f

  abbrev z : ℕ
  z = size (n / 1)

  abbrev d : ℕ
  d = z - prec f - low f

  abbrev q : ℕ
  q = kept (prec f) n 1

  z_above : prec f + low f < z
  z_above = size_above (n / 1) (prec f + low f) (le_trans (le_of_eq (pow-add 2 (prec f) (low f))) (le_trans (mul-le-mul_right (2 ^ low f) M) (le_of_eq (sym (div-one n)))))

  room : prec f + (d + k) ≤ emax f
  room = go (prec f) (low f) z (emax f) z_above (size-le (n / 1) (b + low f) (lt_of_le_of_lt (le_of_eq (div-one n)) (shl_lt b (low f) B))) K
    where
      go : (p l z e : ℕ) → p + l < z → z ≤ b + l → b + k ≤ e → p + (z - p - l + k) ≤ e
      go p l z e h g r = omega arith

  q_le : q ≤ 2 ^ prec f
  q_le =
      let j = z - prec f in
      let u = 1 * 2 ^ j in
      le_trans (nearest-le (n / u) (compare (n % u * 2) u)) (subst (λ (w : ℕ). w < 2 ^ prec f) (div-div-eq-div-mul n 1 (2 ^ j)) (kept-lt (prec f) (n / 1)))

  val : (a e : ℕ) → prec f + e ≤ emax f → grid f a 1 ≡ q * 2 ^ e * 2 ^ low f → HasValue (whole f a) false (q * 2 ^ e) 1
  val a e h g =
      subst (λ (x : Float). HasValue x false (q * 2 ^ e) 1) (sym (whole-round f a))
      (lowered (round f false a 1) (q * 2 ^ e) (2 ^ low f) (pow_pos (low f))
      (subst (λ (w : ℕ). HasValue (round f false a 1) false w (2 ^ low f)) g (round_val f a 1 (lt_of_le_of_lt (le_of_eq g) fine))))
    where
      far : (p l t : ℕ) → p + e ≤ t → suc p + e + l ≤ l + suc t
      far p l t h = omega arith

      fine : q * 2 ^ e * 2 ^ low f < overflow f
      fine = lt_of_lt_of_le (shl_lt (suc (prec f) + e) (low f) (shl_lt (suc (prec f)) e (lt_of_le_of_lt q_le (pow-lt (lt-suc_self (prec f)))))) (pow_mono (far (prec f) (low f) (emax f) h))

  units_are : grid f m 1 ≡ q * 2 ^ d * 2 ^ low f
  units_are = ap (λ (j : ℕ). q * 2 ^ j) (places (prec f) (low f) z z_above) ∙ ap (λ (w : ℕ). q * w) (pow-add 2 d (low f)) ∙ sym (mul_assoc q (2 ^ d) (2 ^ low f))
    where
      places : (p l z : ℕ) → p + l < z → z - p ≡ z - p - l + l
      places p l z h = omega arith

  shifted : q * 2 ^ d * 2 ^ k ≡ q * 2 ^ (d + k)
  shifted = mul_assoc q (2 ^ d) (2 ^ k) ∙ ap (λ (w : ℕ). q * w) (sym (pow-add 2 d k))

  own_val : HasValue (whole f m) false (q * 2 ^ d) 1
  own_val = val m d (fewer (prec f) d (emax f) room) units_are
    where
      fewer : (p d e : ℕ) → p + (d + k) ≤ e → p + d ≤ e
      fewer p d e h = omega arith

  times_val : HasValue (whole f (m * 2 ^ k)) false (q * 2 ^ (d + k)) 1
  times_val =
      val (m * 2 ^ k) (d + k) room
      (grid_scale f m 1 k (zero-lt-suc 0) (enough (prec f) (low f) z z_above) ∙ ap (λ (w : ℕ). w * 2 ^ k) units_are ∙ mul_right_comm (q * 2 ^ d) (2 ^ low f) (2 ^ k) ∙ ap (λ (w : ℕ). w * 2 ^ low f) shifted)
    where
      enough : (p l z : ℕ) → p + l < z → p ≤ z
      enough p l z h = omega arith

  long_is : (y : Float) → HasValue y false (2 ^ k) 1 → mul f (whole f m) y ≡ whole f (m * 2 ^ k)
  long_is y v =
      product f (whole f m) y (q * 2 ^ d) (2 ^ k) own_val v
      ∙ ap (whole f) shifted
      ∙ whole_unique f (whole f (q * 2 ^ (d + k))) (whole f (m * 2 ^ k)) false (q * 2 ^ (d + k)) (of_int-fits f (pos (q * 2 ^ (d + k)))) (of_int-fits f (pos (m * 2 ^ k))) (full_val f q (d + k) q_le room) times_val

-- ---- y is 2 ^ k, and nothing overflows
pub scaled_is : (f : Format) (m b k : ℕ) (y : Float) → m < 2 ^ b → b + k ≤ emax f → HasValue y false (2 ^ k) 1 → mul f (whole f m) y ≡ whole f (m * 2 ^ k)
scaled_is f m b k y B K v = elim (le_or_lt (2 ^ prec f) m) [
  | inl M ↦ long_is f m b k M B K y v
  | inr h ↦ product f (whole f m) y m (2 ^ k) (whole_val f m (le_of_lt h)) v
]
