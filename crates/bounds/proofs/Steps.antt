-- A float that is a / c after k roundings, and what each operation makes of such floats: one rounding more. Assumes nothing.
use Rattle.std.proofs.Common.{◌≡◌, refl, sym, ap, ◌∙◌, subst, false, ◌⊎◌, inl, inr, ℕ, ◌+◌, ◌-◌, ◌*◌, ◌^◌, ◌≤◌, ◌<◌, eq-zero-or-pos, mul_assoc, mul_right_comm, mul-le-mul_right, mul-le-mul_left, mul-pos, mul-one, one-mul, zero-mul, add-mul, add-sub_of_le, arith, lit≤, lit<, pow_pos}
use native.Mathlib.Nat.{mul-mul-mul_comm}
use lib.Ieee.{Float, nan, inf, fin, Format, binary32, binary64, prec, low, up, down, round, add, mul, div}
use lib.Ieee.Exact.{HasValue}
use lib.Ieee.Scale.{grid}
use lib.Ieee.Positive.{first_pos}
use Rattle.seconds.specs.Out.{whole}
use Rattle.seconds.proofs.Operations.{whole-round, crosswise, add_at, mul_at, div_at}
use Rattle.bounds.proofs.Rounded.{AtMost, Rounded, most_more, most-within, none, more, scaled, cancelled, sums, products, quotients, through}
use Rattle.bounds.proofs.Grid.{Moderate, near, value, once}

-- the exact fractions here: all are far from the ends of either format
pub record Tame (a c : ℕ) : Type 0 where
  pub top : a ≤ 2 ^ 100
  pub some : 0 < c
  pub bottom : c ≤ 2 ^ 100

-- x is a / c after k roundings; `units` of the format's smallest value are its size
pub record Rounds (f : Format) (x : Float) (a c k : ℕ) : Type 0 where
  pub units : ℕ
  pub value : HasValue x false units (2 ^ low f)
  pub near : Rounded (2 ^ prec f) k (a * 2 ^ low f) (units * c)

pub sum_squared : (a b l : ℕ) → (a * l + b * l) * l ≡ (a + b) * (l * l)
sum_squared a b l = ap (λ (z : ℕ). z * l) (sym (add-mul a b l)) ∙ mul_assoc (a + b) l l

-- seven roundings at most double a value
pub doubled : (f : Format) (k a b : ℕ) → k ≤ 7 → AtMost (2 ^ prec f) k a b → a ≤ b * 2
doubled f k a b K h = go (within f (subst (λ (z : ℕ). AtMost (2 ^ prec f) z a b) (add-sub_of_le K) (most_more (2 ^ prec f) k (7 - k) h)))
  where
    within : (f : Format) → AtMost (2 ^ prec f) 7 a b → a * 1 ≤ b * 1 + b
    within binary32 h = most-within (2 ^ 24) 7 1 (lit< tt) (lit≤ tt) h
    within binary64 h = most-within (2 ^ 53) 7 1 (lit< tt) (lit≤ tt) h

    go : a * 1 ≤ b * 1 + b → a ≤ b * 2
    go g = omega arith

-- ---- one rounding more: A / C, which is a / c after k, is rounded
alike : {P k a b a' b' : ℕ} → Rounded P k a b → a ≡ a' → b ≡ b' → Rounded P k a' b'
alike {P} {k} {a} {b} {a'} {b'} r e g = subst (λ (z : ℕ). Rounded P k z b') e (subst (λ (z : ℕ). Rounded P k a z) g r)

pub moderate : (a c A C : ℕ) → Tame a c → a * C ≤ A * c * 2 → A * c ≤ a * C * 2 → Moderate A C
moderate a c A C t h g = record { low = bottom (eq-zero-or-pos a); high = top }
  where
    bottom : (a ≡ 0) ⊎ (0 < a) → (A ≡ 0) ⊎ (C ≤ A * 2 ^ 101)
    bottom (inl e) = inl (none_left (eq-zero-or-pos A))
      where
        none_left : (A ≡ 0) ⊎ (0 < A) → A ≡ 0
        none_left (inl z) = z
        none_left (inr z) = absurd (omega (arith, mul-pos z t.some, ap (λ (z : ℕ). z * C) e, zero-mul C))
    bottom (inr p) = inr (omega (arith, mul-le-mul_right C p, one-mul C, mul-le-mul_left A t.bottom))

    top : A ≤ C * 2 ^ 101
    top = omega (arith, mul-le-mul_left A t.some, mul-one A, mul-le-mul_right C t.top)

module _ (f : Format) where
  abbrev P : ℕ
  P = 2 ^ prec f

  abbrev l : ℕ
  l = 2 ^ low f

  L : 0 < l
  L = pow_pos (low f)

  step : (a c A C k : ℕ) → Tame a c → 0 < C → k ≤ 7 → Rounded P k (a * C) (A * c) → Rounds f (round f false A C) a c (k + 1)
  step a c A C k t C0 K r = record {
    units = grid f A C;
    value = value f A C C0 m;
    near =
        cancelled P (k + 1) C (a * l) (grid f A C * c) C0
        (through P k 1 (alike (scaled P k l r) (mul_right_comm a C l) (mul_right_comm A c l)) (alike (scaled P 1 c (once P (A * l) (grid f A C * C) (near f A C C0 m))) refl (mul_right_comm (grid f A C) C c)));
  }
    where
      m : Moderate A C
      m = moderate a c A C t (doubled f k (a * C) (A * c) K r.under) (doubled f k (A * c) (a * C) K r.over)

  -- ---- whole numbers: rounded once, or exact
  pub of-whole : (n : ℕ) → Tame n 1 → Rounds f (whole f n) n 1 1
  of-whole n t = subst (λ (z : Float). Rounds f z n 1 1) (sym (whole-round f n)) (step n 1 n 1 0 t (lit< tt) (lit≤ tt) (none P (n * 1)))

  over_units : (x : Float) (n : ℕ) → HasValue x false n 1 → HasValue x false (n * l) l
  over_units nan n h = absurd h
  over_units (inf s) n h = absurd h
  over_units (fin t m e) n h = (h.0, ap (λ (z : ℕ). z * l) (sym (mul-one (m * up e)) ∙ h.1) ∙ mul_right_comm n (down e) l)

  pub of-exact : (x : Float) (n : ℕ) → HasValue x false n 1 → Rounds f x n 1 0
  of-exact x n h = record { units = n * l; value = over_units x n h; near = alike (none P (n * l)) refl (sym (mul-one (n * l))) }

  -- ---- the same float, counted as rounded more often, and over a larger denominator
  pub later : {x : Float} {a c k : ℕ} (j : ℕ) → Rounds f x a c k → Rounds f x a c (k + j)
  later {k = k} j r = record { units = r.units; value = r.value; near = more P k j r.near }

  pub widened : {x : Float} {a c k : ℕ} (t : ℕ) → Rounds f x a c k → Rounds f x (a * t) (c * t) k
  widened {a = a} {c = c} {k = k} t r = record { units = r.units; value = r.value; near = alike (scaled P k t r.near) (mul_right_comm a l t) (mul_assoc r.units c t) }

  -- ---- the operations
  module _ {x y : Float} where
    pub of-sum : {a b c k : ℕ} → Rounds f x a c k → Rounds f y b c k → Tame (a + b) c → k ≤ 7 → Rounds f (add f x y) (a + b) c (k + 1)
    of-sum {a} {b} {c} {k} r s t K =
        subst (λ (z : Float). Rounds f z (a + b) c (k + 1)) (sym (add_at f L L x y r.units s.units r.value s.value))
        (step (a + b) c (r.units * l + s.units * l) (l * l) k t (mul-pos L L) K (alike (scaled P k l (sums P k r.near s.near)) (sum_squared a b l) (two r.units s.units c l)))
      where
        two : (x y c l : ℕ) → (x * c + y * c) * l ≡ (x * l + y * l) * c
        two x y c l = ap (λ (z : ℕ). z * l) (sym (add-mul x y c)) ∙ mul_right_comm (x + y) c l ∙ ap (λ (z : ℕ). z * c) (add-mul x y l)

    pub of-product : {a b c d j k : ℕ} → Rounds f x a c j → Rounds f y b d k → Tame (a * b) (c * d) → j + k ≤ 7 → Rounds f (mul f x y) (a * b) (c * d) (j + k + 1)
    of-product {a} {b} {c} {d} {j} {k} r s t K =
        subst (λ (z : Float). Rounds f z (a * b) (c * d) (j + k + 1)) (sym (mul_at f L L x y r.units s.units r.value s.value))
        (step (a * b) (c * d) (r.units * s.units) (l * l) (j + k) t (mul-pos L L) K (alike (products P j k r.near s.near) (mul-mul-mul_comm a l b l) (mul-mul-mul_comm r.units c s.units d)))

    pub of-quotient : {a b c d j k : ℕ} → 0 < b → Rounds f x a c j → Rounds f y b d k → Tame (a * d) (b * c) → k ≤ 7 → j + k ≤ 7 → Rounds f (div f x y) (a * d) (b * c) (j + k + 1)
    of-quotient {a} {b} {c} {d} {j} {k} B r s t K' K =
        subst (λ (z : Float). Rounds f z (a * d) (b * c) (j + k + 1)) (sym (div_at f L L x y r.units s.units Y r.value s.value))
        (step (a * d) (b * c) (r.units * l) (s.units * l) (j + k) t (mul-pos Y L) K (alike (quotients P j k r.near s.near) (crosswise a l s.units d) (crosswise r.units c b l)))
      where
        some : (n m : ℕ) → 0 < n → n ≤ m * 2 → 0 < m
        some n m h g = omega arith

        Y : 0 < s.units
        Y = first_pos s.units d (some (b * l) (s.units * d) (mul-pos B L) (doubled f k (b * l) (s.units * d) K' s.near.under))
