-- The way of `short`: 24 digits over a power of two, by one shift and one product, with never a second to carry. Assumes nothing.
use Rattle.std.proofs.Common.{Ok, ◌≡◌, ℕ, ◌+◌, ◌-◌, ◌*◌, ◌/◌, ◌%◌, ◌^◌, ◌<◌, ◌≤◌, sym, refl, ap, ◌∙◌, subst, inl, inr, lt_of_le_of_lt, add-zero, mod-lt, mul-one, arith, lit<, pow_pos, pow_mono, shl_exact, shr-shr}
use Rattle.std.proofs.lemmas.Nat.{shl-shr, shr_le}
use native.Mathlib.Nat.{mod-le}
use lib.Ieee.Nearest.{closest}
use Rattle.laws.proofs.Closest.{le_or_lt, by_sum, closest_le}
use Rattle.duration.proofs.Exact.{exact_is}
use Rattle.seconds.specs.From.{of_fraction}
use Rattle.seconds.proofs.Rounding.{fraction_is}
use Rattle.seconds.proofs.Fraction.{split_at}

-- as the machine has it: the nanoseconds of p / 2 ^ 34
abbrev rounded : ℕ → ℕ
rounded p = (p + 0x1_ffff_ffff + p / 0x4_0000_0000 % 2) / 0x4_0000_0000

rounded_is : (p : ℕ) → rounded p ≡ closest p (2 ^ 34)
rounded_is p = by_sum p 0 1 (2 ^ 33) (p / 0x4_0000_0000 % 2) (lit< tt) (lit< tt) (omega arith) (λ e z. refl) (λ e z. absurd (omega arith)) ∙ ap (λ (z : ℕ). closest z (2 ^ 34)) (add-zero (p * 1) ∙ mul-one p)

-- m / 2 ^ k over 2 ^ 34: its whole seconds, and its nanoseconds
secs_are : (m k : ℕ) → k ≤ 34 → m * 2 ^ (34 - k) / 2 ^ 34 ≡ m / 2 ^ k
secs_are m k h = ap (λ (z : ℕ). m * 2 ^ (34 - k) / 2 ^ z) all ∙ sym (shr-shr (m * 2 ^ (34 - k)) (34 - k) k) ∙ ap (λ (z : ℕ). z / 2 ^ k) (shl-shr m (34 - k))
  where
    all : 34 ≡ 34 - k + k
    all = omega arith

nanos_are : (m k : ℕ) → k ≤ 34 → rounded (m * 2 ^ (34 - k) % 2 ^ 34 * 10 ^ 9) ≡ closest (m % 2 ^ k * 10 ^ 9) (2 ^ k)
nanos_are m k h =
    rounded_is (m * 2 ^ (34 - k) % 2 ^ 34 * 10 ^ 9)
    ∙ subst (λ (z : ℕ). closest (m * 2 ^ (34 - k) % 2 ^ z * 10 ^ 9) (2 ^ z) ≡ closest (m % 2 ^ k * 10 ^ 9) (2 ^ k)) all (fraction_is m k (34 - k))
  where
    all : k + (34 - k) ≡ 34
    all = omega arith

-- ---- 24 digits or fewer below a second never round up to it: the next ones below a second are 60 ns short of it
pub no_carry : (x k : ℕ) → x < 2 ^ k → x < 2 ^ 24 → closest (x * 10 ^ 9) (2 ^ k) ≤ 999999999
no_carry x k h l = closest_le (x * 10 ^ 9) (2 ^ k) 999999999 (pow_pos k) (elim (le_or_lt (2 ^ k) (2 ^ 24)) [
  | inl g ↦ many x (2 ^ k) h g
  | inr g ↦ half x (2 ^ k) l (next k g)
])
  where
    many : (x d : ℕ) → x < d → d ≤ 2 ^ 24 → x * 10 ^ 9 < 999999999 * d
    many x d h l = omega arith

    half : (x d : ℕ) → x < 2 ^ 24 → 2 ^ 25 ≤ d → x * 10 ^ 9 < 999999999 * d
    half x d l g = omega arith

    next : (k : ℕ) → 2 ^ 24 < 2 ^ k → 2 ^ 25 ≤ 2 ^ k
    next k g = elim (le_or_lt k 24) [
      | inl e ↦ absurd (omega (arith, pow_mono e))
      | inr e ↦ pow_mono (from k e)
    ]
      where
        from : (k : ℕ) → 24 < k → 25 ≤ k
        from k e = omega arith

-- v is the machine's shift
module _ (m k : ℕ) (M : m < 2 ^ 24) (K : k ≤ 34) where
  abbrev v : ℕ
  v = m * 2 ^ (34 - k) % 2 ^ 64

  v-is : v ≡ m * 2 ^ (34 - k)
  v-is = shl_exact 24 (34 - k) 64 M (omega arith)

  secs : v / 2 ^ 34 ≡ m / 2 ^ k
  secs = ap (λ (z : ℕ). z / 2 ^ 34) v-is ∙ secs_are m k K

  nanos : rounded (v % 2 ^ 34 * 10 ^ 9) ≡ closest (m % 2 ^ k * 10 ^ 9) (2 ^ k)
  nanos = ap (λ (z : ℕ). rounded (z % 2 ^ 34 * 10 ^ 9)) v-is ∙ nanos_are m k K

  secs-lt : v / 2 ^ 34 < 2 ^ 64
  secs-lt = rw secs (omega (arith, shr_le m k))

  nanos-lt : rounded (v % 2 ^ 34 * 10 ^ 9) < 10 ^ 9
  nanos-lt = omega (arith, nanos, no_carry (m % 2 ^ k) k (mod-lt m (pow_pos k)) (lt_of_le_of_lt (mod-le m (2 ^ k)) M))

  pub short_is : Ok (record { secs = v / 2 ^ 34; nanos = rounded (v % 2 ^ 34 * 10 ^ 9) }) ≡ of_fraction m (2 ^ k)
  short_is = exact_is secs-lt nanos-lt (ap (λ (z : ℕ). z * 10 ^ 9 + rounded (v % 2 ^ 34 * 10 ^ 9)) secs ∙ ap (λ (z : ℕ). m / 2 ^ k * 10 ^ 9 + z) nanos) ∙ sym (split_at m k (omega arith))
