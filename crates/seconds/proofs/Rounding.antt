-- The ways of `rounded`, `nanos` and `near`: a fraction of a second in two words, rounded by one sum. Assumes nothing.
use Rattle.std.proofs.Common.{◌≡◌, ℕ, zero, suc, ◌+◌, ◌-◌, ◌*◌, ◌/◌, ◌%◌, ◌^◌, ◌<◌, ◌≤◌, sym, refl, ap, ◌∙◌, subst, add-zero, lt_of_le_of_lt, lt_of_lt_of_le, div-le_self, mul_assoc, mul_comm, mul_right_comm, arith, lit≤, pow_pos, pow_mono, pow-add, bit_or}
use Rattle.std.proofs.lemmas.Nat.{one_shl, shl-shr, mod-pow-add}
use native.Mathlib.Nat.{mul-mod_left, pow-succ'}
use lib.Ieee.Nearest.{closest, closest_same}
use Rattle.laws.proofs.Closest.{by_sum}
use Rattle.std.specs.Prelude.{Ok}
use Rattle.duration.specs.Meaning.{exact}
use Rattle.duration.proofs.Exact.{exact_is}
use Rattle.seconds.specs.From.{of_fraction}
use Rattle.seconds.proofs.Fraction.{split_at}

-- ---- half of a power of two
pub halves : (j : ℕ) → 0 < j → 2 ^ (j - 1) + 2 ^ (j - 1) ≡ 2 ^ j
halves zero h = absurd (omega arith)
halves (suc i) h = rw (pow-succ' 2 i, back) (omega arith)
  where
    back : suc i - 1 ≡ i
    back = omega arith

-- ---- the bit that is added: the last of x, or 1 where b is not zero
record OneOf (x y t : ℕ) : Type 0 where
  pub small : t ≤ 1
  pub left : y ≡ 0 → t ≡ x
  pub right : y ≡ 1 → t ≡ 1

bit_or_is : (x y : ℕ) → x < 2 → y < 2 → OneOf x y (bit_or x y)
bit_or_is zero zero h k = record { small = lit≤ tt; left = λ z. refl; right = λ z. absurd (omega arith) }
bit_or_is zero (suc zero) h k = record { small = lit≤ tt; left = λ z. absurd (omega arith); right = λ z. refl }
bit_or_is zero (suc (suc y)) h k = absurd (omega arith)
bit_or_is (suc zero) zero h k = record { small = lit≤ tt; left = λ z. refl; right = λ z. absurd (omega arith) }
bit_or_is (suc zero) (suc zero) h k = record { small = lit≤ tt; left = λ z. absurd (omega arith); right = λ z. refl }
bit_or_is (suc zero) (suc (suc y)) h k = absurd (omega arith)
bit_or_is (suc (suc x)) y h k = absurd (omega arith)

abbrev added : ℕ → ℕ → ℕ
added x b = bit_or (x % 2) ((b + 0xffff_ffff) / 0x1_0000_0000)

added_is : (x b : ℕ) → b < 2 ^ 32 → OneOf (x % 2) ((b + 0xffff_ffff) / 0x1_0000_0000) (added x b)
added_is x b B = bit_or_is (x % 2) ((b + 0xffff_ffff) / 0x1_0000_0000) (omega arith) (some-lt b B)
  where
    some-lt : (b : ℕ) → b < 2 ^ 32 → (b + 0xffff_ffff) / 0x1_0000_0000 < 2
    some-lt b B = omega arith

-- ---- the way of `rounded`: half is the machine's, and t the bit that is added
module _ (a b j : ℕ) (A : a < 2 ^ 62) (B : b < 2 ^ 32) (J : 0 < j) (K : j < 64) where
  abbrev half : ℕ
  half = 1 * 2 ^ (j - 1) % 2 ^ 64

  abbrev t : ℕ
  t = added (a / 2 ^ j) b

  half-is : half ≡ 2 ^ (j - 1)
  half-is = one_shl (j - 1) 64 (omega arith)

  is : OneOf (a / 2 ^ j % 2) ((b + 0xffff_ffff) / 0x1_0000_0000) t
  is = added_is (a / 2 ^ j) b B

  pub rounded_fits : a + (half - 1) + t < 2 ^ 64
  rounded_fits = let h : j - 1 ≤ 62 = omega arith in omega (arith, half-is, pow_mono h, is.small)

  pub rounded_is : (a + (half - 1) + t) / 2 ^ j ≡ closest (a * 2 ^ 32 + b) (2 ^ (32 + j))
  rounded_is =
      ap (λ (z : ℕ). (a + (z - 1) + t) / 2 ^ j) half-is
      ∙ ap (λ (z : ℕ). (a + (2 ^ (j - 1) - 1) + t) / z) (sym (halves j J))
      ∙ by_sum a b (2 ^ 32) (2 ^ (j - 1)) t (pow_pos (j - 1)) B is.small (λ e z. is.left (zeros b z) ∙ ap (λ (w : ℕ). a / w % 2) (sym (halves j J))) (λ e z. is.right (ones b z B))
      ∙ ap (λ (z : ℕ). closest (a * 2 ^ 32 + b) (z * 2 ^ 32)) (halves j J)
      ∙ ap (λ (z : ℕ). closest (a * 2 ^ 32 + b) z) (mul_comm (2 ^ j) (2 ^ 32) ∙ sym (pow-add 2 32 j))
    where
      zeros : (b : ℕ) → b ≡ 0 → (b + 0xffff_ffff) / 0x1_0000_0000 ≡ 0
      zeros b z = omega arith

      ones : (b : ℕ) → 0 < b → b < 2 ^ 32 → (b + 0xffff_ffff) / 0x1_0000_0000 ≡ 1
      ones b z B = omega arith

-- ---- f * 10 ^ 9 in two words, the lower of 32 digits
pub words : (f : ℕ) → (f / 0x1_0000_0000 * 1000000000 + f % 0x1_0000_0000 * 1000000000 / 0x1_0000_0000) * 2 ^ 32 + f % 0x1_0000_0000 * 1000000000 % 0x1_0000_0000 ≡ f * 10 ^ 9
words f = omega arith

-- ---- the fraction of m / 2 ^ k, over 2 ^ (k + c)
pub fraction_is : (m k c : ℕ) → closest (m * 2 ^ c % 2 ^ (k + c) * 10 ^ 9) (2 ^ (k + c)) ≡ closest (m % 2 ^ k * 10 ^ 9) (2 ^ k)
fraction_is m k c =
    closest_same (m * 2 ^ c % 2 ^ (k + c) * 10 ^ 9) (2 ^ (k + c)) (m % 2 ^ k * 10 ^ 9) (2 ^ k) (pow_pos (k + c)) (pow_pos k)
    (rw (kept, pow-add 2 k c) (go (m % 2 ^ k) (2 ^ k) (2 ^ c)))
  where
    kept : m * 2 ^ c % 2 ^ (k + c) ≡ m % 2 ^ k * 2 ^ c
    kept = mod-pow-add (m * 2 ^ c) k c ∙ ap (λ (z : ℕ). z % 2 ^ k * 2 ^ c + m * 2 ^ c % 2 ^ c) (shl-shr m c) ∙ ap (λ (z : ℕ). m % 2 ^ k * 2 ^ c + z) (mul-mod_left m (2 ^ c)) ∙ add-zero (m % 2 ^ k * 2 ^ c)

    go : (x d c : ℕ) → x * c * 10 ^ 9 * d ≡ x * 10 ^ 9 * (d * c)
    go x d c = ap (λ (z : ℕ). z * d) (mul_right_comm x c (10 ^ 9)) ∙ mul_assoc (x * 10 ^ 9) c d ∙ ap (λ (z : ℕ). x * 10 ^ 9 * z) (mul_comm c d)

-- the way of `near`: over 2 ^ 64 it is that over 2 ^ k
over_64 : (m k : ℕ) → k < 64 → closest (m * 2 ^ (64 - k) % 2 ^ 64 * 10 ^ 9) (2 ^ 64) ≡ closest (m % 2 ^ k * 10 ^ 9) (2 ^ k)
over_64 m k h = subst (λ (z : ℕ). closest (m * 2 ^ (64 - k) % 2 ^ z * 10 ^ 9) (2 ^ z) ≡ closest (m % 2 ^ k * 10 ^ 9) (2 ^ k)) all (fraction_is m k (64 - k))
  where
    all : k + (64 - k) ≡ 64
    all = omega arith

pub near_is : (m k n : ℕ) → m < 2 ^ 53 → k < 64 → n ≡ closest (m * 2 ^ (64 - k) % 2 ^ 64 * 10 ^ 9) (2 ^ 64) → exact (m / 2 ^ k * 10 ^ 9 + n) ≡ of_fraction m (2 ^ k)
near_is m k n M K e = ap (λ (z : ℕ). exact (m / 2 ^ k * 10 ^ 9 + z)) (e ∙ over_64 m k K) ∙ sym (split_at m k M)

-- the same as a pair, below a second's nanoseconds: so that a carry left out falls on these, and not on the form of the answer
pub near_pair : (m k n : ℕ) → m < 2 ^ 53 → k < 64 → n ≡ closest (m * 2 ^ (64 - k) % 2 ^ 64 * 10 ^ 9) (2 ^ 64) → n < 10 ^ 9 → Ok (record { secs = m / 2 ^ k; nanos = n }) ≡ of_fraction m (2 ^ k)
near_pair m k n M K e T = exact_is (lt_of_le_of_lt (div-le_self m (2 ^ k)) (lt_of_lt_of_le M (lit≤ tt))) T refl ∙ near_is m k n M K e
