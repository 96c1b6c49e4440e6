-- How far a number of 128 bits can be shifted. Assumes nothing.
use Rattle.std.specs.Prelude.{◌≡◌, ℕ, ◌+◌, ◌*◌, ◌/◌, ◌%◌, ◌^◌, ◌≤◌, ◌<◌}
use native.Mathlib.Nat.{le_trans, mul-le-mul_right, lt_of_lt_of_le, pos_of_ne-zero, div-eq_of_lt, mod-eq_of_lt}
use Rattle.std.proofs.Common.{arith, sym, ap, ◌∙◌, mul-one}
use lib.Count.{count_leading_zeros, leading_top, leading_length}
use lib.Pow.{pow_mono, pow-add, shl_lt}

-- y * 2 ^ n is below 2 ^ 128 up to as many places as y has zeros above it
pub shl_fits : (y n : ℕ) → y < 2 ^ 128 → n ≤ count_leading_zeros 128 y → y * 2 ^ n < 2 ^ 128
shl_fits y n b h =
    let t = leading_length 128 y b in
    let w : t.0 + n ≤ 128 = omega (arith, t.1) in
    lt_of_lt_of_le (shl_lt t.0 n t.2) (pow_mono w)

pub shl_over : (y n : ℕ) → y < 2 ^ 128 → count_leading_zeros 128 y < n → (y ≡ 0 → ⊥) → 2 ^ 128 ≤ y * 2 ^ n
shl_over y n b h z =
    let t = leading_top 128 y (pos_of_ne-zero z) b in
    let w : 128 ≤ t.0 + n = omega (arith, t.1) in
    le_trans (pow_mono w) (rw pow-add (mul-le-mul_right (2 ^ n) t.2))

-- what is left of it after fewer
pub shr_kept : (y n : ℕ) → n < 128 → y / 2 ^ (n % 128) * 1 ≡ y / 2 ^ n
shr_kept y n h = mul-one (y / 2 ^ (n % 128)) ∙ ap (λ (k : ℕ). y / 2 ^ k) (mod-eq_of_lt h)

-- nothing is left of it after 128 places or more
pub shr_none : (y n : ℕ) → y < 2 ^ 128 → 128 ≤ n → 0 ≡ y / 2 ^ n
shr_none y n b h = sym (div-eq_of_lt (lt_of_lt_of_le b (pow_mono h)))
