-- What a float's bit pattern says of the duration, for both widths. Assumes nothing.
use Rattle.std.proofs.Common.{Ok, Err, ◌≡◌, ℕ, zero, suc, ◌+◌, ◌-◌, ◌*◌, ◌/◌, ◌%◌, ◌^◌, ◌<◌, ◌≤◌, Bool, true, false, cond, not, ◌&&◌, ◌||◌, T, eqb, leb, pos, sym, refl, ap, ◌∙◌, subst, inl, inr, true≢false, le_trans, le-add_right, mul-le-mul_right, eq-zero-or-pos, one-mul, zero-mul, mul-one, arith, lit≤, eqb→eq, pow_pos, ltb-false, le-ltb, lt-ltb, eq-eqb, eqb-true, bit_and, bit_or}
use Rattle.std.proofs.lemmas.Nat.{and_mask}
use lib.Pow.{field}
use lib.Bits.{mask_lt, or_shifted_r}
use lib.Ieee.{Float, nan, inf, fin, Format, binary32, binary64, prec, low, hid, ones, top, up, down, odd, lt, le, eq, below, level, is_nan, fits, of_fields, of_bits, to_bits}
use lib.Ieee.Fits.{down_pos}
use lib.Ieee.Bits.{to_bits-lt, of_bits-to_bits}
use lib.Ieee.Exact.{HasValue, odd_sign}
use Rattle.refusal.specs.declared.Refusal.TheVariants.{Negative, OverflowOrNan}
use Rattle.seconds.specs.From.{of_fraction, of_size, from_seconds}
use Rattle.seconds.proofs.Fraction.{over, fraction_same, scaled_up, scaled_down, under_half}

-- ---- the size of a float whose value is a / c
pub size_is : (x : Float) (s : Bool) (a c : ℕ) → 0 < c → HasValue x s a c → of_size x ≡ of_fraction a c
size_is nan s a c C h = absurd h
size_is (inf t) s a c C h = absurd h
size_is (fin t m e) s a c C h = fraction_same (m * up e) (down e) a c (down_pos e) C h.1

-- ---- what the fields are: x is the exponent's, t the digits'
-- the digits with the leading one, which a field of 0 has not
abbrev pub digits : Format → ℕ → ℕ → ℕ
digits f zero t = t
digits f (suc j) t = hid f + t

-- an infinity's fields would be a value of 2 ^ 64 or more
high : (f : Format) (t : ℕ) → 2 ^ 64 * 2 ^ low f ≤ (hid f + t) * 2 ^ (ones f - 1)
high f t = le_trans (base f) (mul-le-mul_right (2 ^ (ones f - 1)) (le-add_right (hid f) t))
  where
    base : (f : Format) → 2 ^ 64 * 2 ^ low f ≤ hid f * 2 ^ (ones f - 1)
    base binary32 = lit≤ tt
    base binary64 = lit≤ tt

of_fields_is : (f : Format) (s : Bool) (x t : ℕ) → T (not (is_nan (of_fields f s x t))) → of_size (of_fields f s x t) ≡ of_fraction (digits f x t * 2 ^ (x - 1)) (2 ^ low f)
unfolding of_fields is_nan
of_fields_is f s zero t n = size_is (odd (prec f) s t 0 (low f)) s (t * 2 ^ 0) (2 ^ low f) (pow_pos (low f)) (odd_sign (prec f) s t 0 (low f))
of_fields_is f s (suc j) t n = go (eqb (suc j) (ones f)) (eqb t 0) (eqb→eq (suc j) (ones f)) n
  where
    at : suc j - 1 ≡ j
    at = omega arith

    go : (a b : Bool) → (T a → suc j ≡ ones f) → T (not (is_nan (cond a (cond b (inf s) nan) (odd (prec f) s (hid f + t) j (low f)))))
        → of_size (cond a (cond b (inf s) nan) (odd (prec f) s (hid f + t) j (low f))) ≡ of_fraction ((hid f + t) * 2 ^ (suc j - 1)) (2 ^ low f)
    go true true e n = sym (over ((hid f + t) * 2 ^ (suc j - 1)) (2 ^ low f) (subst (λ (z : ℕ). 2 ^ 64 * 2 ^ low f ≤ (hid f + t) * 2 ^ (z - 1)) (sym (e tt)) (high f t)))
    go true false e n = absurd n
    go false b e n = size_is (odd (prec f) s (hid f + t) j (low f)) s ((hid f + t) * 2 ^ j) (2 ^ low f) (pow_pos (low f)) (odd_sign (prec f) s (hid f + t) j (low f)) ∙ ap (λ (z : ℕ). of_fraction ((hid f + t) * 2 ^ z) (2 ^ low f)) (sym at)

of_bits_is : (f : Format) (b : ℕ) → of_bits f b ≡ of_fields f (leb (top f) b) (b % top f / hid f) (b % hid f)
unfolding of_bits
of_bits_is f b = refl

-- ---- the shared rule, over the width: a float of the format f that is no NaN, by its pattern's fields
pub by_fields : (f : Format) (x : Float) → T (fits f x) → T (not (is_nan x))
    → of_size x ≡ of_fraction (digits f (to_bits f x % top f / hid f) (to_bits f x % hid f) * 2 ^ (to_bits f x % top f / hid f - 1)) (2 ^ low f)
by_fields f x F n =
    let b = to_bits f x in
    let e : of_fields f (leb (top f) b) (b % top f / hid f) (b % hid f) ≡ x = sym (of_bits_is f b) ∙ of_bits-to_bits f x F in
    ap of_size (sym e) ∙ of_fields_is f (leb (top f) b) (b % top f / hid f) (b % hid f) (subst (λ (y : Float). T (not (is_nan y))) (sym e) n)

-- x, beside 0: y is the size of x's digits, z is 0
and_left : (a b : Bool) → (a && b) ≡ true → a ≡ true
and_left true b h = refl
and_left false b h = absurd (true≢false (sym h))

above : (s : Bool) (y z : ℕ) → z ≡ 0 → (below false z s y || level false z s y) ≡ true → below s y false z ≡ false
above false y z e h = le-ltb y z (omega arith)
above true y z e h = le-ltb 0 (y + z) (omega (arith, eqb-true z y (and_left (eqb z y) (eqb z 0) h)))

neither : (s : Bool) (y z : ℕ) → z ≡ 0 → (below false z s y || level false z s y) ≡ false → below s y false z ≡ false → ⊥
neither false y z e h k = elim (eq-zero-or-pos y) [
  | inl g ↦ true≢false (rw (le-ltb z y (omega arith), eq-eqb z y (omega arith)) at h)
  | inr g ↦ true≢false (rw (lt-ltb z y (omega arith)) at h)
]
neither true y z e h k = true≢false (rw (eq-eqb z y (omega (arith, ltb-false 0 (y + z) k)), eq-eqb z 0 e) at h)

abbrev nought : Float
nought = fin false 0 (pos 0)

not_below_zero : (x : Float) → le nought x ≡ true → lt x nought ≡ false
unfolding le lt eq
not_below_zero nan h = refl
not_below_zero (inf true) h = absurd (true≢false (sym h))
not_below_zero (inf false) h = refl
not_below_zero (fin s m e) h = above s (m * up e * down (pos 0)) (0 * up (pos 0) * down e) (zero-mul (down e)) h

is_number : (x : Float) → le nought x ≡ true → T (not (is_nan x))
unfolding le lt eq is_nan
is_number nan h = absurd (true≢false (sym h))
is_number (inf s) h = tt
is_number (fin s m e) h = tt

pub nan_is : (x : Float) → le nought x ≡ false → lt x nought ≡ false → Err OverflowOrNan ≡ from_seconds x
unfolding from_seconds le lt eq
nan_is nan h k = refl
nan_is (inf true) h k = absurd (true≢false k)
nan_is (inf false) h k = absurd (true≢false h)
nan_is (fin s m e) h k = absurd (neither s (m * up e * down (pos 0)) (0 * up (pos 0) * down e) (zero-mul (down e)) h k)

pub below_is : (x : Float) → lt x (fin false 0 (pos 0)) ≡ true → Err Negative ≡ from_seconds x
unfolding from_seconds
below_is x h = rw h

pub not_below : (x : Float) → lt x (fin false 0 (pos 0)) ≡ false → from_seconds x ≡ of_size x
unfolding from_seconds
not_below x h = rw h

-- ---- as the machine takes the fields: by shifts and masks, w bits of exponent above the digits
module _ (f : Format) (w : ℕ) (x : Float) where
  abbrev exponent : ℕ
  exponent = bit_and (to_bits f x / hid f) (2 ^ w - 1)

  abbrev fraction : ℕ
  fraction = bit_and (to_bits f x) (hid f - 1)

  abbrev led : ℕ
  led = bit_or fraction (hid f)

  -- what they say where x is not below zero: its value as a whole number of seconds, as one over a power of two, and below half a nanosecond
  pub record Pattern : Type 0 where
    pub number : T (not (is_nan x))
    pub bits-lt : to_bits f x < 2 * top f
    pub led-lt : led < hid f + hid f
    pub upward : suc (low f) ≤ exponent → of_fraction (led * 2 ^ (exponent - suc (low f))) 1 ≡ from_seconds x
    pub downward : 0 < exponent → exponent ≤ suc (low f) → of_fraction led (2 ^ (suc (low f) - exponent)) ≡ from_seconds x
    pub nothing : exponent + (prec f + 31) ≤ suc (low f) → Ok (record { secs = 0; nanos = 0 }) ≡ from_seconds x

-- and why, of the size of an x that is no NaN
module _ (f : Format) (w : ℕ) (W : top f ≡ 2 ^ (w + (prec f - 1))) (x : Float) (F : T (fits f x)) (N : T (not (is_nan x))) where
  abbrev b : ℕ
  b = to_bits f x

  abbrev e : ℕ
  e = exponent f w x

  abbrev t : ℕ
  t = fraction f w x

  abbrev m : ℕ
  m = led f w x

  t_lt : t < hid f
  t_lt = mask_lt b (prec f - 1)

  m_is : m ≡ hid f + t
  m_is = ap (λ (z : ℕ). bit_or t z) (sym (one-mul (hid f))) ∙ or_shifted_r 1 (prec f - 1) t t_lt ∙ ap (λ (z : ℕ). z + t) (one-mul (hid f))

  m_lt : m < hid f + hid f
  m_lt = rw m_is (omega (arith, t_lt))

  read : of_size x ≡ of_fraction (digits f e t * 2 ^ (e - 1)) (2 ^ low f)
  read =
      by_fields f x F N
      ∙ ap (λ (z : ℕ). of_fraction (digits f z (b % hid f) * 2 ^ (z - 1)) (2 ^ low f)) (ap (λ (z : ℕ). b % z / hid f) W ∙ field b w (prec f - 1) ∙ sym (and_mask (b / hid f) w))
      ∙ ap (λ (z : ℕ). of_fraction (digits f e z * 2 ^ (e - 1)) (2 ^ low f)) (sym (and_mask b (prec f - 1)))

  normal : 0 < e → of_size x ≡ of_fraction (m * 2 ^ (e - 1)) (2 ^ low f)
  normal z = read ∙ ap (λ (y : ℕ). of_fraction (y * 2 ^ (e - 1)) (2 ^ low f)) (go e z ∙ sym m_is)
    where
      go : (y : ℕ) → 0 < y → digits f y t ≡ hid f + t
      go zero z = absurd (omega arith)
      go (suc y) z = refl

  above_point : suc (low f) ≤ e → of_size x ≡ of_fraction (m * 2 ^ (e - suc (low f))) 1
  above_point h = normal (omega arith) ∙ scaled_up m (e - 1) (low f) (omega arith) ∙ ap (λ (z : ℕ). of_fraction (m * 2 ^ z) 1) (omega arith)

  below_point : 0 < e → e ≤ suc (low f) → of_size x ≡ of_fraction m (2 ^ (suc (low f) - e))
  below_point z h = normal z ∙ scaled_down m (e - 1) (low f) (omega arith) ∙ ap (λ (w : ℕ). of_fraction m (2 ^ w)) (omega arith)

  subnormal : e ≡ 0 → of_size x ≡ Ok (record { secs = 0; nanos = 0 })
  subnormal z =
      read
      ∙ ap (λ (y : ℕ). of_fraction (digits f y t * 2 ^ (y - 1)) (2 ^ low f)) z
      ∙ ap (λ (y : ℕ). of_fraction y (2 ^ low f)) (mul-one t)
      ∙ under_half t (prec f - 1) (low f) t_lt (far f)
    where
      far : (f : Format) → prec f - 1 + 31 ≤ low f
      far binary32 = lit≤ tt
      far binary64 = lit≤ tt

  too_small : e + (prec f + 31) ≤ suc (low f) → of_size x ≡ Ok (record { secs = 0; nanos = 0 })
  too_small h = elim (eq-zero-or-pos e) [
    | inl z ↦ subnormal z
    | inr z ↦ below_point z (omega arith) ∙ under_half m (prec f) (suc (low f) - e) (subst (λ (z : ℕ). m < z) (twice f) m_lt) (omega arith)
  ]
    where
      twice : (f : Format) → hid f + hid f ≡ 2 ^ prec f
      twice binary32 = refl
      twice binary64 = refl

pub pattern : (f : Format) (w : ℕ) → top f ≡ 2 ^ (w + (prec f - 1)) → (x : Float) → fits f x ≡ true → le nought x ≡ true → Pattern f w x
pattern f w W x F R = record {
  number = N;
  bits-lt = to_bits-lt f x G;
  led-lt = m_lt f w W x G N;
  upward = λ h. sym (sized ∙ above_point f w W x G N h);
  downward = λ z h. sym (sized ∙ below_point f w W x G N z h);
  nothing = λ h. sym (sized ∙ too_small f w W x G N h);
}
  where
    G : T (fits f x)
    G = subst T (sym F) tt

    N : T (not (is_nan x))
    N = is_number x R

    sized : from_seconds x ≡ of_size x
    sized = not_below x (not_below_zero x R)
