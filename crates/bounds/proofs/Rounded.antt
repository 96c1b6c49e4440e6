-- Values that were rounded k times, over whole numbers: each of two is at most k parts in P above the other. Assumes nothing.
use Rattle.std.proofs.Common.{◌≡◌, sym, ap, ◌∙◌, inl, inr, ℕ, ◌+◌, ◌-◌, ◌*◌, ◌^◌, ◌≤◌, ◌<◌, le_trans, le_of_eq, le_of_lt, mul_assoc, mul_comm, mul_right_comm, mul-le-mul, mul-le-mul_left, mul-le-mul_right, le_of_mul-le-mul_right, mul-add, add-mul, mul-one, sub-add_cancel, le-add_right, add_comm, arith, pow-add}
use native.Mathlib.Nat.{mul-mul-mul_comm, pow-zero, pow-le-pow_left}
use Rattle.laws.proofs.Closest.{le_or_lt}
use Rattle.bounds.specs.Distance.{apart}

-- ---- a distance, from an inequality each way
below : (a b k w : ℕ) → a ≤ b → b * k ≤ a * k + w → apart a b * k ≤ w
below a b k w h g =
    let e : (b - a) * k + a * k ≡ b * k = sym (add-mul (b - a) a k) ∙ ap (λ (z : ℕ). z * k) (sub-add_cancel h) in
    let z : apart a b ≡ b - a = omega arith in
    rw z (omega arith)

swapped : (a b : ℕ) → apart a b ≡ apart b a
swapped a b = omega arith

pub apart_le : (a b k w : ℕ) → a * k ≤ b * k + w → b * k ≤ a * k + w → apart a b * k ≤ w
apart_le a b k w g h = elim (le_or_lt a b) [
  | inl l ↦ below a b k w l h
  | inr l ↦ le_trans (le_of_eq (ap (λ (z : ℕ). z * k) (swapped a b))) (below b a k w (le_of_lt l) g)
]

-- ---- a ≤ b * (1 + 1 / P) ^ k
pub record AtMost (P k a b : ℕ) : Type 0 where
  pub bound : a * P ^ k ≤ b * (P + 1) ^ k

-- b is a after k roundings
pub record Rounded (P k a b : ℕ) : Type 0 where
  pub under : AtMost P k a b
  pub over : AtMost P k b a

module _ (P : ℕ) where
  most_none : (a : ℕ) → AtMost P 0 a a
  most_none a = record { bound = le_of_eq (ap (λ (z : ℕ). a * z) (pow-zero P ∙ sym (pow-zero (P + 1)))) }

  pub most_more : (j k : ℕ) {a b : ℕ} → AtMost P j a b → AtMost P (j + k) a b
  most_more j k {a} {b} h = record {
    bound =
        le_trans (le_of_eq (ap (λ (z : ℕ). a * z) (pow-add P j k) ∙ sym (mul_assoc a (P ^ j) (P ^ k))))
        (le_trans (mul-le-mul h.bound (pow-le-pow_left (le-add_right P 1) k))
        (le_of_eq (mul_assoc b ((P + 1) ^ j) ((P + 1) ^ k) ∙ ap (λ (z : ℕ). b * z) (sym (pow-add (P + 1) j k)))));
  }

  most_product : (j k : ℕ) {a b c d : ℕ} → AtMost P j a b → AtMost P k c d → AtMost P (j + k) (a * c) (b * d)
  most_product j k {a} {b} {c} {d} h g = record {
    bound =
        le_trans (le_of_eq (ap (λ (z : ℕ). a * c * z) (pow-add P j k) ∙ mul-mul-mul_comm a c (P ^ j) (P ^ k)))
        (le_trans (mul-le-mul h.bound g.bound)
        (le_of_eq (mul-mul-mul_comm b ((P + 1) ^ j) d ((P + 1) ^ k) ∙ ap (λ (z : ℕ). b * d * z) (sym (pow-add (P + 1) j k)))));
  }

  most-scaled : (k t : ℕ) {a b : ℕ} → AtMost P k a b → AtMost P k (a * t) (b * t)
  most-scaled k t {a} {b} h = record { bound = le_trans (le_of_eq (mul_right_comm a t (P ^ k))) (le_trans (mul-le-mul_right t h.bound) (le_of_eq (mul_right_comm b ((P + 1) ^ k) t))) }

  most_cancelled : (k t : ℕ) (a b : ℕ) → 0 < t → AtMost P k (a * t) (b * t) → AtMost P k a b
  most_cancelled k t a b T h = record {
    bound = le_of_mul-le-mul_right (le_trans (le_of_eq (mul_right_comm a (P ^ k) t)) (le_trans h.bound (le_of_eq (mul_right_comm b t ((P + 1) ^ k))))) T;
  }

  most-sum : (k : ℕ) {a b c d : ℕ} → AtMost P k a b → AtMost P k c d → AtMost P k (a + c) (b + d)
  most-sum k {a} {b} {c} {d} h g = record { bound = omega (arith, h.bound, g.bound, add-mul a c (P ^ k), add-mul b d ((P + 1) ^ k)) }

  -- through a value between the two
  most_through : (j k : ℕ) {a b c : ℕ} → AtMost P j a b → AtMost P k b c → AtMost P (j + k) a c
  most_through j k {a} {b} {c} h g = record {
    bound =
        le_trans (le_of_eq (ap (λ (z : ℕ). a * z) (pow-add P j k) ∙ sym (mul_assoc a (P ^ j) (P ^ k))))
        (le_trans (mul-le-mul_right (P ^ k) h.bound)
        (le_trans (le_of_eq (mul_right_comm b ((P + 1) ^ j) (P ^ k)))
        (le_trans (mul-le-mul_right ((P + 1) ^ j) g.bound)
        (le_of_eq (mul_assoc c ((P + 1) ^ k) ((P + 1) ^ j) ∙ ap (λ (z : ℕ). c * z) (mul_comm ((P + 1) ^ k) ((P + 1) ^ j) ∙ sym (pow-add (P + 1) j k)))))));
  }

  -- k parts in P are at most one in H
  pub most-within : (k H : ℕ) {a b : ℕ} → 0 < P ^ k → (P + 1) ^ k * H ≤ P ^ k * (H + 1) → AtMost P k a b → a * H ≤ b * H + b
  most-within k H {a} {b} K c h =
      le_trans
      (le_of_mul-le-mul_right {k = P ^ k}
      (le_trans (le_of_eq (mul_right_comm a H (P ^ k)))
      (le_trans (mul-le-mul_right H h.bound)
      (le_trans (le_of_eq (mul_assoc b ((P + 1) ^ k) H)) (le_trans (mul-le-mul_left b c) (le_of_eq (ap (λ (z : ℕ). b * z) (mul_comm (P ^ k) (H + 1)) ∙ sym (mul_assoc b (H + 1) (P ^ k))))))))
      K)
      (le_of_eq (mul-add b H 1 ∙ ap (λ (z : ℕ). b * H + z) (mul-one b)))

  -- ---- both ways
  pub none : (a : ℕ) → Rounded P 0 a a
  none a = record { under = most_none a; over = most_none a }

  pub more : (j k : ℕ) {a b : ℕ} → Rounded P j a b → Rounded P (j + k) a b
  more j k h = record { under = most_more j k h.under; over = most_more j k h.over }

  pub scaled : (k t : ℕ) {a b : ℕ} → Rounded P k a b → Rounded P k (a * t) (b * t)
  scaled k t h = record { under = most-scaled k t h.under; over = most-scaled k t h.over }

  pub cancelled : (k t : ℕ) (a b : ℕ) → 0 < t → Rounded P k (a * t) (b * t) → Rounded P k a b
  cancelled k t a b T h = record { under = most_cancelled k t a b T h.under; over = most_cancelled k t b a T h.over }

  pub sums : (k : ℕ) {a b c d : ℕ} → Rounded P k a b → Rounded P k c d → Rounded P k (a + c) (b + d)
  sums k h g = record { under = most-sum k h.under g.under; over = most-sum k h.over g.over }

  pub products : (j k : ℕ) {a b c d : ℕ} → Rounded P j a b → Rounded P k c d → Rounded P (j + k) (a * c) (b * d)
  products j k h g = record { under = most_product j k h.under g.under; over = most_product j k h.over g.over }

  -- a / c and b / d: a * d against b * c
  pub quotients : (j k : ℕ) {a b c d : ℕ} → Rounded P j a b → Rounded P k c d → Rounded P (j + k) (a * d) (b * c)
  quotients j k h g = record { under = most_product j k h.under g.over; over = most_product j k h.over g.under }

  pub through : (j k : ℕ) {a b c : ℕ} → Rounded P j a b → Rounded P k b c → Rounded P (j + k) a c
  through j k {a} {b} {c} h g = record { under = most_through j k h.under g.under; over = rw (add_comm j k) (most_through k j g.over h.over) }
