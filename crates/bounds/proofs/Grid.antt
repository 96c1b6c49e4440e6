-- One rounding of a fraction a / c to a format, in units of the format's smallest value (`grid`): how far off it is, and that it keeps the order.
-- Assumes nothing.
use Rattle.std.proofs.Common.{◌≡◌, sym, ap, ◌∙◌, subst, true, false, true≢false, ◌⊎◌, inl, inr, ℕ, zero, suc, ◌+◌, ◌-◌, ◌*◌, ◌/◌, ◌%◌, ◌^◌, ◌≤◌, ◌<◌, zero-le, le_trans, le_of_eq, lt_of_le_of_lt, eq-zero-or-pos, suc-mul, mul_assoc, mul_comm, mul_right_comm, mul-le-mul_right, mul-le-mul_left, mul-pos, le-div_iff_mul-le, lt_of_mul-lt-mul_right, le_of_mul-le-mul_right, one-mul, mul-zero, zero-mul, mul-add, add-mul, mod-eq_of_lt, pow-suc, arith, T, lit≤, lit<, pow_pos, pow-add, pow_mono}
use Prim.Native.Nat.{compare}
use native.Mathlib.Nat.{div-eq_of_lt, pow-zero}
use lib.Ieee.{Float, nan, inf, fin, Format, binary32, binary64, prec, low, size, round}
use lib.Ieee.Digits.{size_reaches, size-le}
use lib.Ieee.Exact.{HasValue}
use lib.Ieee.Nearest.{closest, nearest-ge}
use lib.Ieee.Order.{drop, round_mono}
use lib.Ieee.Scale.{grid, overflow, round_val, normal_of_fraction}
use lib.Ieee.Positive.{positive, above, above_of_le, positive_of_value, values_of_le}
use Rattle.laws.proofs.Closest.{le_or_lt, at_lt, closest_error}
use Rattle.bounds.proofs.Rounded.{Rounded}

-- ---- y is n to within one part in P + 1 of n
pub record Near (P n y : ℕ) : Type 0 where
  pub top : y * (P + 1) ≤ n * (P + 2)
  pub bottom : n * P ≤ y * (P + 1)

-- in the normal range: K * u is the rounded value and n the exact one, u the last place, and K has all the format's digits
module _ (h K u n : ℕ) (hi : K * u * 2 ≤ n * 2 + u) (lo : n * 2 ≤ K * u * 2 + u) (ge : h ≤ K) (nu : h * u ≤ n) where
  -- e is the distance, and h * 2 * e ≤ h * u
  up : (e : ℕ) → K * u ≡ n + e → h * 2 * e + e ≤ n
  up zero p = omega (arith, mul-zero (h * 2))
  up (suc e) p =
      let d : suc e * 2 ≤ u = omega arith in
      let m : h * (suc e * 2) ≤ h * u = mul-le-mul_left h d in
      let a : h * (suc e * 2) ≡ h * 2 * suc e = ap (λ (z : ℕ). h * z) (mul_comm (suc e) 2) ∙ sym (mul_assoc h 2 (suc e)) in
      let more : h < K = lt_of_mul-lt-mul_right u (omega arith) in
      let w : suc h * u ≤ K * u = mul-le-mul_right u more in
      omega (arith, suc-mul h u)

  down : (e : ℕ) → n ≡ K * u + e → h * 2 * e + e ≤ n
  down e p =
      let d : e * 2 ≤ u = omega arith in
      let m : h * (e * 2) ≤ h * u = mul-le-mul_left h d in
      let a : h * (e * 2) ≡ h * 2 * e = ap (λ (z : ℕ). h * z) (mul_comm e 2) ∙ sym (mul_assoc h 2 e) in
      omega (arith, mul-le-mul_right u ge)

near_of : (f : Format) (n y : ℕ) → ((e : ℕ) → y ≡ n + e → 2 ^ (prec f - 1) * 2 * e + e ≤ n) → ((e : ℕ) → n ≡ y + e → 2 ^ (prec f - 1) * 2 * e + e ≤ n) → Near (2 ^ prec f) n y
near_of f n y u d = elim (le_or_lt n y) [
  | inl h ↦ over f (u (y - n) (omega arith)) h
  | inr h ↦ under f (d (n - y) (omega arith)) h
]
  where
    over : (f : Format) → 2 ^ (prec f - 1) * 2 * (y - n) + (y - n) ≤ n → n ≤ y → Near (2 ^ prec f) n y
    over binary32 h g = record { top = omega arith; bottom = omega arith }
    over binary64 h g = record { top = omega arith; bottom = omega arith }

    under : (f : Format) → 2 ^ (prec f - 1) * 2 * (n - y) + (n - y) ≤ n → y < n → Near (2 ^ prec f) n y
    under binary32 h g = record { top = omega arith; bottom = omega arith }
    under binary64 h g = record { top = omega arith; bottom = omega arith }

near-normal : (f : Format) (a c : ℕ) → 0 < c → prec f ≤ size (a * 2 ^ low f / c) → Near (2 ^ prec f) (a * 2 ^ low f) (grid f a c * c)
near-normal f a c C N = subst (λ (z : ℕ). Near (2 ^ prec f) n z) (sym back) (near_of f n (K * u) (up h K u n err.0 err.1 ge nu) (down h K u n err.0 err.1 ge nu))
  where
    n : ℕ
    n = a * 2 ^ low f

    k : ℕ
    k = drop (prec f) n c

    h : ℕ
    h = 2 ^ (prec f - 1)

    u : ℕ
    u = c * 2 ^ k

    K : ℕ
    K = closest n u

    U : 0 < u
    U = mul-pos C (pow_pos k)

    err : (K * u * 2 ≤ n * 2 + u) × (n * 2 ≤ K * u * 2 + u)
    err = closest_error n u U

    last : (p z : ℕ) → 1 ≤ p → p ≤ z → p - 1 + (z - p) < z
    last p z P h = omega arith

    one : (f : Format) → 1 ≤ prec f
    one binary32 = omega arith
    one binary64 = omega arith

    nu : h * u ≤ n
    nu =
        le_trans (le_of_eq (ap (λ (z : ℕ). h * z) (mul_comm c (2 ^ k)) ∙ sym (mul_assoc h (2 ^ k) c) ∙ ap (λ (z : ℕ). z * c) (sym (pow-add 2 (prec f - 1) k))))
        ((le-div_iff_mul-le C).0 (size_reaches (n / c) (prec f - 1 + k) (last (prec f) (size (n / c)) (one f) N)))

    ge : h ≤ K
    ge = le_trans ((le-div_iff_mul-le U).1 nu) (nearest-ge (n / u) (compare (n % u * 2) u))

    back : grid f a c * c ≡ K * u
    back = mul_right_comm K (2 ^ k) c ∙ mul_assoc K c (2 ^ k)

grid_zero : (f : Format) (c : ℕ) → 0 < c → grid f 0 c ≡ 0
grid_zero f c C = go (0 * 2 ^ low f) (zero-mul (2 ^ low f))
  where
    go : (n : ℕ) → n ≡ 0 → closest n (c * 2 ^ drop (prec f) n c) * 2 ^ drop (prec f) n c ≡ 0
    go n e =
        let k = drop (prec f) n c in
        let U : 0 < c * 2 ^ k = mul-pos C (pow_pos k) in
        let l : n < c * 2 ^ k = omega arith in
        ap (λ (z : ℕ). z * 2 ^ k) (at_lt (n / (c * 2 ^ k)) (n % (c * 2 ^ k) * 2) (c * 2 ^ k) (rw (mod-eq_of_lt l) (omega arith)) ∙ div-eq_of_lt l) ∙ zero-mul (2 ^ k)

-- ---- fractions far from the ends of either format: zero, or 2 ^ -101 at least; and at most 2 ^ 101
pub record Moderate (a c : ℕ) : Type 0 where
  pub low : (a ≡ 0) ⊎ (c ≤ a * 2 ^ 101)
  pub high : a ≤ c * 2 ^ 101

near_zero : (P n y : ℕ) → n ≡ 0 → y ≡ 0 → Near P n y
near_zero P n y e g = rw (e, g) (record { top = le_of_eq (zero-mul (P + 1) ∙ sym (zero-mul (P + 2))); bottom = le_of_eq (zero-mul P ∙ sym (zero-mul (P + 1))) })

pub near : (f : Format) (a c : ℕ) → 0 < c → Moderate a c → Near (2 ^ prec f) (a * 2 ^ low f) (grid f a c * c)
near f a c C m = go m.low
  where
    room : (f : Format) → 2 ^ 101 * 2 ^ (prec f - 1) ≤ 2 ^ low f
    room binary32 = lit≤ tt
    room binary64 = lit≤ tt

    go : (a ≡ 0) ⊎ (c ≤ a * 2 ^ 101) → Near (2 ^ prec f) (a * 2 ^ low f) (grid f a c * c)
    go (inl e) =
        near_zero (2 ^ prec f) (a * 2 ^ low f) (grid f a c * c) (ap (λ (z : ℕ). z * 2 ^ low f) e ∙ zero-mul (2 ^ low f))
        (ap (λ (z : ℕ). grid f z c * c) e ∙ ap (λ (z : ℕ). z * c) (grid_zero f c C) ∙ zero-mul c)
    go (inr h) =
        near-normal f a c C
        (normal_of_fraction f a c C
        (le_trans (le_of_eq (mul_comm (2 ^ (prec f - 1)) c)) (le_trans (mul-le-mul_right (2 ^ (prec f - 1)) h) (le_trans (le_of_eq (mul_assoc a (2 ^ 101) (2 ^ (prec f - 1)))) (mul-le-mul_left a (room f))))))

-- ---- so each is at most twice the other, and nothing overflows
pub double : (f : Format) (n y : ℕ) → Near (2 ^ prec f) n y → (y ≤ n * 2) × (n ≤ y * 2)
double binary32 n y h = (omega (arith, h.top), omega (arith, h.bottom))
double binary64 n y h = (omega (arith, h.top), omega (arith, h.bottom))

pub in_range : (f : Format) (a c : ℕ) → 0 < c → Moderate a c → grid f a c < overflow f
in_range f a c C m =
    lt_of_le_of_lt
    (le_of_mul-le-mul_right (le_trans (double f (a * 2 ^ low f) (grid f a c * c) (near f a c C m)).0 (less a c (2 ^ low f) m.high)) C)
    (room f)
  where
    less : (a c l : ℕ) → a ≤ c * 2 ^ 101 → a * l * 2 ≤ 2 ^ 102 * l * c
    less a c l h = let k : a * l ≤ c * 2 ^ 101 * l = mul-le-mul_right l h in omega (arith, mul_right_comm c (2 ^ 101) l, mul_right_comm (2 ^ 102) l c, mul_comm c l, mul_assoc (2 ^ 102) l c)

    room : (f : Format) → 2 ^ 102 * 2 ^ low f < overflow f
    room binary32 = lit< tt
    room binary64 = lit< tt

pub value : (f : Format) (a c : ℕ) → 0 < c → Moderate a c → HasValue (round f false a c) false (grid f a c) (2 ^ low f)
value f a c C m = round_val f a c (in_range f a c C m)

-- ---- the larger fraction rounds to no fewer units
still_positive : (x : Float) (a c : ℕ) → HasValue x false a c → T (above x) → T (positive x)
still_positive nan a c h t = absurd h
still_positive (inf s) a c h t = absurd h
still_positive (fin true m e) a c h t = absurd (true≢false h.0)
still_positive (fin false m e) a c h t = t

pub grid_mono : (f : Format) (a c b d : ℕ) → 0 < c → 0 < d → a * d ≤ b * c → grid f a c < overflow f → grid f b d < overflow f → grid f a c ≤ grid f b d
grid_mono f a c b d C D h p q = elim (eq-zero-or-pos (grid f a c)) [
  | inl z ↦ rw z zero-le
  | inr z ↦
      let x = round f false a c in
      let y = round f false b d in
      let l = round_mono f a c b d C D h in
      let v = round_val f a c p in
      let w = round_val f b d q in
      let s : T (positive x) = positive_of_value x (grid f a c) (2 ^ low f) v z in
      let t : T (positive y) = still_positive y (grid f b d) (2 ^ low f) w (above_of_le x y s l) in
      le_of_mul-le-mul_right (values_of_le x y (grid f a c) (2 ^ low f) (grid f b d) (2 ^ low f) s t v w l) (pow_pos (low f))
]

-- ---- within half of c * 2 ^ k units, where it is below 2 ^ (prec + k) units
pub absolute : (f : Format) (a c k : ℕ) → 0 < c → a * 2 ^ low f / c < 2 ^ (prec f + k) → (grid f a c * c * 2 ≤ a * 2 ^ low f * 2 + c * 2 ^ k) × (a * 2 ^ low f * 2 ≤ grid f a c * c * 2 + c * 2 ^ k)
absolute f a c k C h =
    let n = a * 2 ^ low f in
    let j = drop (prec f) n c in
    let K = closest n (c * 2 ^ j) in
    let e = closest_error n (c * 2 ^ j) (mul-pos C (pow_pos j)) in
    let b : grid f a c * c ≡ K * (c * 2 ^ j) = mul_right_comm K (2 ^ j) c ∙ mul_assoc K c (2 ^ j) in
    let i : j ≤ k = fewer (size (n / c)) (prec f) k (size-le (n / c) (prec f + k) h) in
    let u : c * 2 ^ j ≤ c * 2 ^ k = mul-le-mul_left c (pow_mono i) in
    go (grid f a c * c) (K * (c * 2 ^ j)) n (c * 2 ^ j) (c * 2 ^ k) b u e
  where
    fewer : (z p k : ℕ) → z ≤ p + k → z - p ≤ k
    fewer z p k h = omega arith

    go : (g x n u v : ℕ) → g ≡ x → u ≤ v → (x * 2 ≤ n * 2 + u) × (n * 2 ≤ x * 2 + u) → (g * 2 ≤ n * 2 + v) × (n * 2 ≤ g * 2 + v)
    go g x n u v b l e = (omega arith, omega arith)

-- ---- one rounding is one part in P
pub once : (P n y : ℕ) → Near P n y → Rounded P 1 n y
once P n y h = record {
  under = record { bound = rw (one P, one (P + 1)) h.bottom };
  over = record { bound = rw (one P, one (P + 1)) above };
}
  where
    one : (b : ℕ) → b ^ 1 ≡ b
    one b = pow-suc b 0 ∙ ap (λ (z : ℕ). z * b) (pow-zero b) ∙ one-mul b

    square : (P : ℕ) → (P + 2) * P ≤ (P + 1) * (P + 1)
    square P = omega (arith, add-mul P 2 P, add-mul P 1 (P + 1), mul-add P P 1)

    above : y * P ≤ n * (P + 1)
    above =
        le_of_mul-le-mul_right {k = P + 1}
        (le_trans (le_of_eq (mul_right_comm y P (P + 1)))
        (le_trans (mul-le-mul_right P h.top) (le_trans (le_of_eq (mul_assoc n (P + 2) P)) (le_trans (mul-le-mul_left n (square P)) (le_of_eq (sym (mul_assoc n (P + 1) (P + 1))))))))
        (omega arith)
