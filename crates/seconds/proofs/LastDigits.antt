-- What the last digits of a whole number count for in a float: above the format's digits and one more, only as zero or not. Assumes nothing.
use Rattle.std.proofs.Common.{max, bit_or, eq-zero-or-pos, ◌≡◌, ℕ, zero, suc, ◌+◌, ◌-◌, ◌*◌, ◌/◌, ◌%◌, ◌^◌, ◌<◌, ◌≤◌, false, sym, ap, ◌∙◌, inl, inr, le_trans, le_of_eq, le_refl, lt_of_lt_of_le, le-add_right, mul-le-mul_right, mul_assoc, add-lt-add_of_le_of_lt, suc-mul, add-mul, le_antisymm, mul-pos, one-mul, mul_right_comm, not-le_of_lt, div-one, arith, pow_pos, pow_mono, pow-add, shl_lt}
use Prim.Native.Nat.{compare}
use native.Mathlib.Nat.{pow-succ'}
use lib.Bits.{or_step, or_zero_r, or_lt}
use lib.Ieee.{Format, binary32, prec, low, size, units, nearest}
use lib.Ieee.Fits.{round_is}
use lib.Ieee.Digits.{size-lt, size-le, size_reaches}
use lib.Ieee.Nearest.{closest}
use Rattle.laws.proofs.Closest.{le_or_lt, at_lt, at_gt, closest-block}
use Rattle.seconds.specs.Out.{whole}
use Rattle.seconds.proofs.Operations.{whole-round}

-- ---- the last digits of a * d + b, where the unit is an even number g of d
last_digits : (a b b' d g : ℕ) → g % 2 ≡ 0 → 0 < g → b < d → b' < d → 0 < b → 0 < b' → closest (a * d + b) (g * d) ≡ closest (a * d + b') (g * d)
last_digits a b b' d g G G0 B B' p p' = closest-block a b d g G0 B ∙ middle ∙ sym (closest-block a b' d g G0 B')
  where
    r : ℕ
    r = a % g

    below : (b r d g : ℕ) → b < d → r * 2 < g → g % 2 ≡ 0 → (r * d + b) * 2 < g * d
    below b r d g B h e =
        let k : (r + 1) * 2 ≤ g = omega arith in
        let m : (r + 1) * 2 * d ≤ g * d = mul-le-mul_right d k in
        omega (arith, mul_right_comm (r + 1) 2 d, add-mul r 1 d)

    above : (b r d g : ℕ) → 0 < b → g ≤ r * 2 → g * d < (r * d + b) * 2
    above b r d g p h =
        let m : g * d ≤ r * 2 * d = mul-le-mul_right d h in
        omega (arith, mul_right_comm r 2 d)

    middle : nearest (a / g) (compare ((r * d + b) * 2) (g * d)) ≡ nearest (a / g) (compare ((r * d + b') * 2) (g * d))
    middle = elim (le_or_lt g (r * 2)) [
      | inl h ↦ at_gt (a / g) ((r * d + b) * 2) (g * d) (above b r d g p h) ∙ sym (at_gt (a / g) ((r * d + b') * 2) (g * d) (above b' r d g p' h))
      | inr h ↦ at_lt (a / g) ((r * d + b) * 2) (g * d) (below b r d g B h G) ∙ sym (at_lt (a / g) ((r * d + b') * 2) (g * d) (below b' r d g B' h G))
    ]

-- ---- how many digits a * 2 ^ j + b has
pub size_above : (n z : ℕ) → 2 ^ z ≤ n → z < size n
size_above n z h = elim (le_or_lt (size n) z) [
  | inl g ↦ absurd (not-le_of_lt (lt_of_lt_of_le (size-lt n) (pow_mono g)) h)
  | inr g ↦ g
]

size_block : (a b j : ℕ) → 0 < size a → b < 2 ^ j → size (a * 2 ^ j + b) ≡ size a + j
size_block a b j A B = le_antisymm (size-le (a * 2 ^ j + b) (size a + j) high) (le_trans (le_of_eq (join (size a) j A)) (size_above (a * 2 ^ j + b) (size a - 1 + j) low'))
  where
    join : (z j : ℕ) → 0 < z → z + j ≡ suc (z - 1 + j)
    join z j h = omega arith

    back : (z : ℕ) → 0 < z → z - 1 < z
    back z h = omega arith

    low' : 2 ^ (size a - 1 + j) ≤ a * 2 ^ j + b
    low' = le_trans (le_of_eq (pow-add 2 (size a - 1) j)) (le_trans (mul-le-mul_right (2 ^ j) (size_reaches a (size a - 1) (back (size a) A))) (le-add_right (a * 2 ^ j) b))

    high : a * 2 ^ j + b < 2 ^ (size a + j)
    high = lt_of_lt_of_le (add-lt-add_of_le_of_lt (le_refl (a * 2 ^ j)) B) (le_trans (le_of_eq (sym (suc-mul a (2 ^ j)))) (le_trans (mul-le-mul_right (2 ^ j) (size-lt a)) (le_of_eq (sym (pow-add 2 (size a) j)))))

even : (j : ℕ) → 0 < j → 2 ^ j % 2 ≡ 0
even zero h = absurd (omega arith)
even (suc i) h = rw (pow-succ' 2 i) (omega arith)

-- ---- two numbers that differ only in their last j digits, which are not zero in either, under an a of more digits than the format keeps
module _ (f : Format) (a b b' j : ℕ) (A : prec f < size a) (B : b < 2 ^ j) (B' : b' < 2 ^ j) (p : 0 < b) (p' : 0 < b') where
  -- in units of the format's smallest value, where i digits are the last
  abbrev i : ℕ
  i = j + low f

  abbrev wide : ℕ → ℕ
  wide b = (a * 2 ^ j + b) * 2 ^ low f

  abbrev k : ℕ
  k = size a + i - prec f

  parts : (b : ℕ) → wide b ≡ a * 2 ^ i + b * 2 ^ low f
  parts b = add-mul (a * 2 ^ j) b (2 ^ low f) ∙ ap (λ (z : ℕ). z + b * 2 ^ low f) (mul_assoc a (2 ^ j) (2 ^ low f) ∙ ap (λ (z : ℕ). a * z) (sym (pow-add 2 j (low f))))

  some : (p z : ℕ) → p < z → 0 < z
  some p z h = omega arith

  dropped : (b : ℕ) → b < 2 ^ j → size (wide b / 1) - prec f ≡ k
  dropped b h = ap (λ (z : ℕ). z - prec f) (ap size (div-one (wide b) ∙ parts b) ∙ size_block a (b * 2 ^ low f) i (some (prec f) (size a) A) (shl_lt j (low f) h))

  split : (z p i : ℕ) → p < z → z + i - p ≡ z - p + i
  split z p i h = omega arith

  more : (z p : ℕ) → p < z → 0 < z - p
  more z p h = omega arith

  g_is : 1 * 2 ^ k ≡ 2 ^ (size a - prec f) * 2 ^ i
  g_is = one-mul (2 ^ k) ∙ ap (λ (z : ℕ). 2 ^ z) (split (size a) (prec f) i A) ∙ pow-add 2 (size a - prec f) i

  kept_same : closest (wide b) (1 * 2 ^ k) ≡ closest (wide b') (1 * 2 ^ k)
  kept_same =
      ap (λ (z : ℕ). closest (wide b) z) g_is
      ∙ ap (λ (z : ℕ). closest z (2 ^ (size a - prec f) * 2 ^ i)) (parts b)
      ∙ last_digits a (b * 2 ^ low f) (b' * 2 ^ low f) (2 ^ i) (2 ^ (size a - prec f)) (even (size a - prec f) (more (size a) (prec f) A)) (pow_pos (size a - prec f)) (shl_lt j (low f) B) (shl_lt j (low f) B') (mul-pos p (pow_pos (low f))) (mul-pos p' (pow_pos (low f)))
      ∙ sym (ap (λ (z : ℕ). closest (wide b') z) g_is ∙ ap (λ (z : ℕ). closest z (2 ^ (size a - prec f) * 2 ^ i)) (parts b'))

  pub same_float : whole f (a * 2 ^ j + b) ≡ whole f (a * 2 ^ j + b')
  same_float = one b B ∙ ap (λ (z : ℕ). units f false z k) kept_same ∙ sym (one b' B')
    where
      one : (b : ℕ) → b < 2 ^ j → whole f (a * 2 ^ j + b) ≡ units f false (closest (wide b) (1 * 2 ^ k)) k
      one b h = whole-round f (a * 2 ^ j + b) ∙ round_is f false (a * 2 ^ j + b) 1 ∙ ap (λ (z : ℕ). units f false (closest (wide b) (1 * 2 ^ z)) z) (dropped b h)

-- ---- the way of `digits`: of the last 18 bits none counts, or some, and in those the bit above them stands for all
abbrev sticky : ℕ → ℕ
sticky n = (n % 0x4_0000 + 0x3_ffff) / 0x4_0000

or-one : (x : ℕ) → bit_or x 1 ≡ x / 2 * 2 + 1
or-one x = or_step x 1 ∙ ap (λ (z : ℕ). z * 2 + max (x % 2) 1) (or_zero_r (x / 2)) ∙ ap (λ (z : ℕ). x / 2 * 2 + z) larger
  where
    larger : max (x % 2) 1 ≡ 1
    larger = omega arith

module _ (n : ℕ) (L : 2 ^ 46 ≤ n) where
  abbrev cut : ℕ
  cut = bit_or (n / 0x4_0000) (sticky n)

  no_rest : n % 0x4_0000 ≡ 0 → cut * 2 ^ 18 ≡ n
  no_rest z = let e : sticky n ≡ 0 = omega arith in rw (e, or_zero_r) (omega arith)

  with_rest : 0 < n % 0x4_0000 → cut * 2 ^ 18 ≡ n / 2 ^ 19 * 2 ^ 19 + 2 ^ 18
  with_rest z = let e : sticky n ≡ 1 = omega arith in rw (e, or-one (n / 0x4_0000)) (omega arith)

  pub cut_is : whole binary32 (cut * 2 ^ 18) ≡ whole binary32 n
  cut_is = elim (eq-zero-or-pos (n % 0x4_0000)) [
    | inl z ↦ ap (whole binary32) (no_rest z)
    | inr z ↦
        let split : n / 2 ^ 19 * 2 ^ 19 + n % 2 ^ 19 ≡ n = omega arith in
        ap (whole binary32) (with_rest z)
        ∙ same_float binary32 (n / 2 ^ 19) (2 ^ 18) (n % 2 ^ 19) 19 (size_above (n / 2 ^ 19) 24 (omega arith)) (omega arith) (omega arith) (omega arith) (omega arith)
        ∙ ap (whole binary32) split
  ]

  pub cut_lt : n < 2 ^ 64 → cut < 2 ^ 46
  cut_lt h = or_lt 46 (n / 0x4_0000) (sticky n) (omega arith) (omega arith)
