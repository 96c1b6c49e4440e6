-- What `of_fraction` is: of equal fractions, of a whole number, and of a number over a power of two. Assumes nothing.
use Rattle.std.proofs.Common.{Ok, Err, ◌≡◌, ℕ, ◌+◌, ◌-◌, ◌*◌, ◌/◌, ◌%◌, ◌^◌, ◌<◌, ◌≤◌, sym, ap, ◌∙◌, inl, inr, le_trans, le_of_eq, lt_of_lt_of_le, lt_of_le_of_lt, mul-le-mul_right, mod-eq_of_lt, mul_assoc, mul-le-mul_left, div-add-mod', mul-one, mul_right_comm, not-le_of_lt, le_of_mul-le-mul_right, div-one, arith, lit<, pow_pos, pow_mono, pow-add, le-leb}
use native.Mathlib.Nat.{div-eq_of_lt}
use lib.Ieee.Nearest.{closest, closest_same}
use borrow.Author.Tests.{lt-leb}
use Rattle.laws.proofs.Closest.{le_or_lt, at_lt, closest-add}
use Rattle.refusal.specs.declared.Refusal.TheVariants.{OverflowOrNan}
use Rattle.duration.specs.Meaning.{exact}
use Rattle.duration.proofs.Exact.{exact_is}
use Rattle.seconds.specs.From.{of_fraction}

-- ---- the two ways
pub over : (a b : ℕ) → 2 ^ 64 * b ≤ a → of_fraction a b ≡ Err OverflowOrNan
unfolding of_fraction
over a b h = rw (le-leb (2 ^ 64 * b) a h)

pub within : (a b : ℕ) → a < 2 ^ 64 * b → of_fraction a b ≡ exact (closest (a * 10 ^ 9) b)
unfolding of_fraction
within a b h = rw (lt-leb (2 ^ 64 * b) a h)

-- ---- a / b and c / d are the same fraction
crossed : (a b c d k : ℕ) → 0 < b → a * d ≡ c * b → k * b ≤ a → k * d ≤ c
crossed a b c d k B e h = le_of_mul-le-mul_right (le_trans (le_of_eq (mul_right_comm k d b)) (le_trans (mul-le-mul_right d h) (le_of_eq e))) B

pub fraction_same : (a b c d : ℕ) → 0 < b → 0 < d → a * d ≡ c * b → of_fraction a b ≡ of_fraction c d
fraction_same a b c d B D e = elim (le_or_lt (2 ^ 64 * b) a) [
  | inl h ↦ over a b h ∙ sym (over c d (crossed a b c d (2 ^ 64) B e h))
  | inr h ↦
      elim (le_or_lt (2 ^ 64 * d) c) [
        | inl g ↦ absurd (not-le_of_lt h (crossed c d a b (2 ^ 64) D (sym e) g))
        | inr g ↦
            within a b h
            ∙ ap exact (closest_same (a * 10 ^ 9) b (c * 10 ^ 9) d B D (mul_right_comm a (10 ^ 9) d ∙ ap (λ (z : ℕ). z * 10 ^ 9) e ∙ mul_right_comm c b (10 ^ 9)))
            ∙ sym (within c d g)
      ]
]

-- ---- m * 2 ^ e / 2 ^ l, for an e on either side of l
pub scaled_up : (m e l : ℕ) → l ≤ e → of_fraction (m * 2 ^ e) (2 ^ l) ≡ of_fraction (m * 2 ^ (e - l)) 1
scaled_up m e l h =
    fraction_same (m * 2 ^ e) (2 ^ l) (m * 2 ^ (e - l)) 1 (pow_pos l) (lit< tt)
    (mul-one (m * 2 ^ e) ∙ ap (λ (z : ℕ). m * 2 ^ z) (back e l h) ∙ ap (λ (z : ℕ). m * z) (pow-add 2 (e - l) l) ∙ sym (mul_assoc m (2 ^ (e - l)) (2 ^ l)))
  where
    back : (e l : ℕ) → l ≤ e → e ≡ e - l + l
    back e l h = omega arith

pub scaled_down : (m e l : ℕ) → e ≤ l → of_fraction (m * 2 ^ e) (2 ^ l) ≡ of_fraction m (2 ^ (l - e))
scaled_down m e l h =
    fraction_same (m * 2 ^ e) (2 ^ l) m (2 ^ (l - e)) (pow_pos l) (pow_pos (l - e))
    (mul_assoc m (2 ^ e) (2 ^ (l - e)) ∙ ap (λ (z : ℕ). m * z) (sym (pow-add 2 e (l - e))) ∙ ap (λ (z : ℕ). m * 2 ^ z) (join e l h))
  where
    join : (e l : ℕ) → e ≤ l → e + (l - e) ≡ l
    join e l h = omega arith

-- ---- a whole number of seconds
pub closest-whole : (n : ℕ) → closest n 1 ≡ n
closest-whole n = at_lt (n / 1) (n % 1 * 2) 1 (omega arith) ∙ div-one n

whole_is : (n : ℕ) → n < 2 ^ 64 → of_fraction n 1 ≡ Ok (record { secs = n; nanos = 0 })
whole_is n h = within n 1 (omega arith) ∙ ap exact (closest-whole (n * 10 ^ 9)) ∙ sym (exact_is h (lit< tt) (omega arith))

-- ---- an m below 2 ^ 53, over 2 ^ k
module _ (m k : ℕ) (M : m < 2 ^ 53) where
  pub small : m < 2 ^ 64 * 2 ^ k
  small = omega (arith, pow_pos k)

  -- whole seconds and the rest, where 10 ^ 9 is even
  pub split_at : of_fraction m (2 ^ k) ≡ exact (m / 2 ^ k * 10 ^ 9 + closest (m % 2 ^ k * 10 ^ 9) (2 ^ k))
  split_at = within m (2 ^ k) small ∙ ap exact (ap (λ (z : ℕ). closest z (2 ^ k)) parts ∙ closest-add (m / 2 ^ k * 10 ^ 9) (m % 2 ^ k * 10 ^ 9) (2 ^ k) (pow_pos k) (omega arith))
    where
      parts : m * 10 ^ 9 ≡ m % 2 ^ k * 10 ^ 9 + m / 2 ^ k * 10 ^ 9 * 2 ^ k
      parts = rw (mul_right_comm (m / 2 ^ k) (10 ^ 9) (2 ^ k)) (omega (arith, div-add-mod' m (2 ^ k)))

-- an m of b digits, 31 and more places below: less than half a nanosecond
pub under_half : (m b k : ℕ) → m < 2 ^ b → b + 31 ≤ k → of_fraction m (2 ^ k) ≡ Ok (record { secs = 0; nanos = 0 })
under_half m b k M h =
    within m (2 ^ k) (omega (arith, lt))
    ∙ ap exact (at_lt (m * 10 ^ 9 / 2 ^ k) (m * 10 ^ 9 % 2 ^ k * 2) (2 ^ k) (rw (mod-eq_of_lt once) lt) ∙ div-eq_of_lt once)
    ∙ sym (exact_is (lit< tt) (lit< tt) (omega arith))
  where
    half : (m d : ℕ) → m < d → m * 10 ^ 9 * 2 < d * 2 ^ 31
    half m d h = omega arith

    lt : m * 10 ^ 9 * 2 < 2 ^ k
    lt = lt_of_lt_of_le (half m (2 ^ b) M) (le_trans (le_of_eq (sym (pow-add 2 b 31))) (pow_mono h))

    once : m * 10 ^ 9 < 2 ^ k
    once = omega (arith, lt)

-- ---- the ways of `large`, on m * 2 ^ up
pub too_far : (m up most : ℕ) → 2 ^ 64 ≤ m * 2 ^ (most + 1) → most < up → Err OverflowOrNan ≡ of_fraction (m * 2 ^ up) 1
too_far m up most M h = sym (over (m * 2 ^ up) 1 (le_trans M (mul-le-mul_left m (pow_mono (next most up h)))))
  where
    next : (a b : ℕ) → a < b → a + 1 ≤ b
    next a b h = omega arith

pub shifted : (m up most : ℕ) → m * 2 ^ most < 2 ^ 64 → up ≤ most → Ok (record { secs = m * 2 ^ up % 2 ^ 64; nanos = 0 }) ≡ of_fraction (m * 2 ^ up) 1
shifted m up most M h = sym (whole_is (m * 2 ^ up) lt ∙ ap (λ (z : ℕ). Ok (record { secs = z; nanos = 0 })) (sym (mod-eq_of_lt lt)))
  where
    lt : m * 2 ^ up < 2 ^ 64
    lt = lt_of_le_of_lt (mul-le-mul_left m (pow_mono h)) M
