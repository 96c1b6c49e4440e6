-- The ways of `tiny` and `faint`: m / 2 ^ k seconds with m so far below 2 ^ k that no tie can be, since 5 ^ 9 is odd. Assumes nothing.
use Rattle.std.proofs.Common.{Ok, ◌≡◌, ℕ, zero, suc, ◌+◌, ◌-◌, ◌*◌, ◌/◌, ◌%◌, ◌^◌, ◌<◌, ◌≤◌, sym, refl, ap, ◌∙◌, subst, le_trans, le_of_eq, lt_of_lt_of_le, add-zero, mul_assoc, mul_comm, add-mul, div-add-mod', zero-add, mul-one, mul-add, arith, lit<, pow_pos, pow_mono, pow-add}
use native.Mathlib.Nat.{pow-succ'}
use Rattle.std.proofs.lemmas.Nat.{one_shl}
use lib.Ieee.Nearest.{closest}
use Rattle.laws.proofs.Closest.{by_half, closest_le}
use Rattle.duration.proofs.Exact.{exact_is}
use Rattle.seconds.specs.From.{of_fraction}
use Rattle.seconds.proofs.Fraction.{within, small}
use Rattle.seconds.proofs.Rounding.{halves, words}

-- ---- of m * 5 ^ 9 a power of two divides no more than of m
even_is : (m d r w : ℕ) → m ≡ d * 2 + r → r < 2 → m * 1953125 ≡ 2 * w → r ≡ 0
even_is m d zero w e h f = refl
even_is m d (suc zero) w e h f = absurd (uneven d w (sym (ap (λ (z : ℕ). z * 1953125) e) ∙ f))
  where
    uneven : (d w : ℕ) → (d * 2 + 1) * 1953125 ≡ 2 * w → ⊥
    uneven d w f = omega arith
even_is m d (suc (suc r)) w e h f = absurd (omega arith)

odd_factor : (i m z : ℕ) → m * 1953125 ≡ 2 ^ i * z → m < 2 ^ i → m ≡ 0
odd_factor zero m z e h = omega arith
odd_factor (suc i) m z e h = back m (2 ^ i * z) (odd_factor i (m / 2) z (down m (2 ^ i * z) there) (less m (2 ^ i) (subst (λ (w : ℕ). m < w) (pow-succ' 2 i) h))) there
  where
    there : m * 1953125 ≡ 2 * (2 ^ i * z)
    there = e ∙ ap (λ (w : ℕ). w * z) (pow-succ' 2 i) ∙ mul_assoc 2 (2 ^ i) z

    down : (m w : ℕ) → m * 1953125 ≡ 2 * w → m / 2 * 1953125 ≡ w
    down m w e = halve m (m / 2) (m % 2) w (sym (div-add-mod' m 2)) (even_is m (m / 2) (m % 2) w (sym (div-add-mod' m 2)) (omega arith) e) e
      where
        halve : (m d r w : ℕ) → m ≡ d * 2 + r → r ≡ 0 → m * 1953125 ≡ 2 * w → d * 1953125 ≡ w
        halve m d r w e z f = omega arith

    less : (m d : ℕ) → m < 2 * d → m / 2 < d
    less m d h = omega arith

    back : (m w : ℕ) → m / 2 ≡ 0 → m * 1953125 ≡ 2 * w → m ≡ 0
    back m w z e = none m (m / 2) (m % 2) (sym (div-add-mod' m 2)) z (even_is m (m / 2) (m % 2) w (sym (div-add-mod' m 2)) (omega arith) e)
      where
        none : (m d r : ℕ) → m ≡ d * 2 + r → d ≡ 0 → r ≡ 0 → m ≡ 0
        none m d r e z y = omega arith

-- a tie would be an odd number of halves t of a unit, with the nine twos of 10 ^ 9 and i more
no_odd_half : (m t q i : ℕ) → m * 10 ^ 9 ≡ q * (t + t) + t → t ≡ 2 ^ i * 512 → m < 2 ^ i → ⊥
no_odd_half m t q i e f h = some (odd_factor i m (q + q + 1) is h) is
  where
    out : q * (t + t) ≡ (2 ^ i * q + 2 ^ i * q) * 512
    out = mul-add q t t ∙ ap (λ (z : ℕ). z + z) (ap (λ (z : ℕ). q * z) f ∙ sym (mul_assoc q (2 ^ i) 512) ∙ ap (λ (z : ℕ). z * 512) (mul_comm q (2 ^ i))) ∙ sym (add-mul (2 ^ i * q) (2 ^ i * q) 512)

    whole : 2 ^ i * (q + q + 1) ≡ 2 ^ i * q + 2 ^ i * q + 2 ^ i
    whole = mul-add (2 ^ i) (q + q) 1 ∙ ap (λ (z : ℕ). z + 2 ^ i * 1) (mul-add (2 ^ i) q q) ∙ ap (λ (z : ℕ). 2 ^ i * q + 2 ^ i * q + z) (mul-one (2 ^ i))

    less : (m y t x p : ℕ) → m * 10 ^ 9 ≡ y + t → t ≡ p * 512 → y ≡ x * 512 → m * 1953125 ≡ x + p
    less m y t x p e f g = omega arith

    is : m * 1953125 ≡ 2 ^ i * (q + q + 1)
    is = less m (q * (t + t)) t (2 ^ i * q + 2 ^ i * q) (2 ^ i) e f out ∙ sym whole

    some : m ≡ 0 → m * 1953125 ≡ 2 ^ i * (q + q + 1) → ⊥
    some z e = omega (arith, whole, pow_pos i)

-- ---- half a unit of h + h is added to a, which is m * 10 ^ 9 over p but for a rest b
no_tie : (m a b p h k : ℕ) → 0 < h → b < p → a * p + b ≡ m * 10 ^ 9 → (h + h) * p ≡ 2 ^ k → 10 ≤ k → m < 2 ^ (k - 10) → (a + h) / (h + h) ≡ closest (m * 10 ^ 9) (2 ^ k)
no_tie m a b p h k H B e g K M = by_half a b p h H B never ∙ ap (λ (z : ℕ). closest z ((h + h) * p)) e ∙ ap (λ (z : ℕ). closest (m * 10 ^ 9) z) g
  where
    back : (k : ℕ) → 10 ≤ k → k - 10 + 10 ≡ k
    back k h = omega arith

    half : (t g u : ℕ) → g ≡ t + t → g ≡ u * 1024 → t ≡ u * 512
    half t g u e f = omega arith

    exact : (x y b : ℕ) → x + b ≡ y → b ≡ 0 → y ≡ x
    exact x y b e z = omega arith

    never : a % (h + h) ≡ h → b ≡ 0 → ⊥
    never f z =
        no_odd_half m (h * p) (a / (h + h)) (k - 10)
        (exact (a * p) (m * 10 ^ 9) b e z
        ∙ ap (λ (w : ℕ). w * p) (sym (div-add-mod' a (h + h)) ∙ ap (λ (w : ℕ). a / (h + h) * (h + h) + w) f)
        ∙ add-mul (a / (h + h) * (h + h)) h p
        ∙ ap (λ (w : ℕ). w + h * p) (mul_assoc (a / (h + h)) (h + h) p ∙ ap (λ (w : ℕ). a / (h + h) * w) (add-mul h h p)))
        (half (h * p) (2 ^ k) (2 ^ (k - 10)) (sym g ∙ add-mul h h p) (ap (λ (w : ℕ). 2 ^ w) (sym (back k K)) ∙ pow-add 2 (k - 10) 10))
        M

-- ---- m is so far below 2 ^ k
pub apart : (m b k : ℕ) → m < 2 ^ b → b + 10 ≤ k → m < 2 ^ (k - 10)
apart m b k M h = let l : b ≤ k - 10 = omega arith in lt_of_lt_of_le M (pow_mono l)

halved : (m k : ℕ) → 10 < k → m < 2 ^ (k - 10) → m * 2 ≤ 2 ^ k
halved m k K M = le_trans (up m (2 ^ (k - 10)) M) (subst (λ (z : ℕ). z ≤ 2 ^ k) (pow-add 2 (k - 10) 1) (let l : k - 10 + 1 ≤ k = omega arith in pow_mono l))
  where
    up : (m d : ℕ) → m < d → m * 2 ≤ d * 2
    up m d h = omega arith

-- so its nanoseconds n are below a second, and the answer
module _ (m k : ℕ) {n : ℕ} (K : 10 < k) (A : m < 2 ^ (k - 10)) (e : n ≡ closest (m * 10 ^ 9) (2 ^ k)) where
  below : n ≤ 999999999
  below = le_trans (le_of_eq e) (closest_le (m * 10 ^ 9) (2 ^ k) 999999999 (pow_pos k) (few m (2 ^ k) (pow_pos k) (halved m k K A)))
    where
      few : (m d : ℕ) → 0 < d → m * 2 ≤ d → m * 10 ^ 9 < 999999999 * d
      few m d D h = omega arith

  answer : m < 2 ^ 53 → Ok (record { secs = 0; nanos = n }) ≡ of_fraction m (2 ^ k)
  answer M = exact_is (lit< tt) (omega (arith, below)) (zero-add n ∙ e) ∙ sym (within m (2 ^ k) (small m k M))

-- ---- `tiny` has the upper word of m * 10 ^ 9
abbrev upper : ℕ → ℕ
upper m = m / 0x1_0000_0000 * 1000000000 + m % 0x1_0000_0000 * 1000000000 / 0x1_0000_0000

module _ (m k : ℕ) (M : m < 2 ^ 53) (A : m < 2 ^ (k - 10)) (K : 32 < k) (L : k < 96) where
  abbrev tiny : ℕ
  tiny = (upper m + 1 * 2 ^ (k - 33) % 2 ^ 64) / 2 ^ (k - 32)

  tiny-nanos : tiny ≡ closest (m * 10 ^ 9) (2 ^ k)
  tiny-nanos =
      ap (λ (z : ℕ). (upper m + z) / 2 ^ (k - 32)) (one_shl (k - 33) 64 (omega arith))
      ∙ ap (λ (z : ℕ). (upper m + 2 ^ (k - 33)) / z) (sym twice)
      ∙ no_tie m (upper m) (m % 0x1_0000_0000 * 1000000000 % 0x1_0000_0000) (2 ^ 32) (2 ^ (k - 33)) k (pow_pos (k - 33)) (omega arith) (words m)
      (ap (λ (z : ℕ). z * 2 ^ 32) twice ∙ sym (pow-add 2 (k - 32) 32) ∙ ap (λ (z : ℕ). 2 ^ z) whole)
      (omega arith)
      A
    where
      less : k - 32 - 1 ≡ k - 33
      less = omega arith

      whole : k - 32 + 32 ≡ k
      whole = omega arith

      twice : 2 ^ (k - 33) + 2 ^ (k - 33) ≡ 2 ^ (k - 32)
      twice = subst (λ (z : ℕ). 2 ^ z + 2 ^ z ≡ 2 ^ (k - 32)) less (halves (k - 32) (omega arith))

  pub tiny_fits : tiny ≤ 999999999
  tiny_fits = below m k (omega arith) A tiny-nanos

  pub tiny_is : Ok (record { secs = 0; nanos = tiny }) ≡ of_fraction m (2 ^ k)
  tiny_is = answer m k (omega arith) A tiny-nanos M

-- ---- `faint` has the whole of it
module _ (m k : ℕ) (M : m < 2 ^ 24) (K : 34 ≤ k) (L : k ≤ 55) where
  abbrev faint : ℕ
  faint = (m * 10 ^ 9 + 1 * 2 ^ (k - 1) % 2 ^ 64) / 2 ^ k

  far : m < 2 ^ (k - 10)
  far = apart m 24 k M (omega arith)

  faint-nanos : faint ≡ closest (m * 10 ^ 9) (2 ^ k)
  faint-nanos =
      ap (λ (z : ℕ). (m * 10 ^ 9 + z) / 2 ^ k) (one_shl (k - 1) 64 (omega arith))
      ∙ ap (λ (z : ℕ). (m * 10 ^ 9 + 2 ^ (k - 1)) / z) (sym twice)
      ∙ no_tie m (m * 10 ^ 9) 0 1 (2 ^ (k - 1)) k (pow_pos (k - 1)) (lit< tt) (add-zero (m * 10 ^ 9 * 1) ∙ mul-one (m * 10 ^ 9)) (mul-one (2 ^ (k - 1) + 2 ^ (k - 1)) ∙ twice) (omega arith) far
    where
      twice : 2 ^ (k - 1) + 2 ^ (k - 1) ≡ 2 ^ k
      twice = halves k (omega arith)

  pub faint_fits : faint ≤ 999999999
  faint_fits = below m k (omega arith) far faint-nanos

  pub faint_is : Ok (record { secs = 0; nanos = faint }) ≡ of_fraction m (2 ^ k)
  faint_is = answer m k (omega arith) far faint-nanos (omega arith)
