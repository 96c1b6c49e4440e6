-- A duration's f64 seconds in units of 2 ^ -1074: the units of its seconds, of its nanoseconds and of their sum. Assumes nothing.
use Rattle.std.proofs.Common.{◌≡◌, sym, ap, ◌∙◌, subst, false, ℕ, ◌+◌, ◌*◌, ◌^◌, ◌≤◌, ◌<◌, le_trans, le_of_eq, mul_right_comm, mul-le-mul_right, mul-pos, le_of_mul-le-mul_right, mul-one, add-mul, arith, lit≤, lit<, pow_pos}
use native.Mathlib.Nat.{eq_of_mul-eq-mul_right}
use lib.Ieee.{Float, Format, binary64, round, div}
use lib.Ieee.Exact.{HasValue}
use lib.Ieee.Scale.{grid, round_same}
use lib.Ieee.Positive.{num, den, den_pos, value→cross}
use Rattle.duration.specs.declared.Duration.{Duration}
use Rattle.duration.specs.Meaning.{N}
use Rattle.seconds.specs.Out.{whole, seconds_as}
use Rattle.seconds.proofs.Operations.{whole-round, whole_val, add_at, div_at}
use Rattle.bounds.specs.Distance.{IsDuration}
use Rattle.bounds.proofs.Grid.{Near, Moderate, near, double, value}
use Rattle.bounds.proofs.Steps.{Tame, moderate, sum_squared}

-- ---- what is near n is near it in any measure
module _ (p : ℕ) where
  mix : (t a b s c : ℕ) → Near p a s → Near p b c → Near p (a * t + b) (s * t + c)
  mix t a b s c x y = record { top = go s a c b (p + 1) (p + 2) x.top y.top; bottom = go a s b c p (p + 1) x.bottom y.bottom }
    where
      go : (s a c b u v : ℕ) → s * u ≤ a * v → c * u ≤ b * v → (s * t + c) * u ≤ (a * t + b) * v
      go s a c b u v h k =
          let l : s * u * t ≤ a * v * t = mul-le-mul_right t h in
          omega (arith, add-mul (s * t) c u, add-mul (a * t) b v, mul_right_comm s t u, mul_right_comm a t v)

  pub scaled : (t a s : ℕ) → Near p a s → Near p (a * t) (s * t)
  scaled t a s h = record { top = go s a (p + 1) (p + 2) h.top; bottom = go a s p (p + 1) h.bottom }
    where
      go : (x y u v : ℕ) → x * u ≤ y * v → x * t * u ≤ y * t * v
      go x y u v g = le_trans (le_of_eq (mul_right_comm x t u)) (le_trans (mul-le-mul_right t g) (le_of_eq (mul_right_comm y v t)))

  pub cancelled : (l a b : ℕ) → 0 < l → Near p (a * l) (b * l) → Near p a b
  cancelled l a b L h = record { top = go b a (p + 1) (p + 2) h.top; bottom = go a b p (p + 1) h.bottom }
    where
      go : (x y u v : ℕ) → x * l * u ≤ y * l * v → x * u ≤ y * v
      go x y u v g = le_of_mul-le-mul_right (le_trans (le_of_eq (mul_right_comm x u l)) (le_trans g (le_of_eq (mul_right_comm y l v)))) L

-- a fraction of small numbers, as it stands
pub of_tame : (a c : ℕ) → Tame a c → Moderate a c
of_tame a c t = moderate a c a c t (twice (a * c)) (twice (a * c))
  where
    twice : (x : ℕ) → x ≤ x * 2
    twice x = omega arith

-- a whole number's units are exact where it has no more digits than the format
pub units_are : (x : Float) (a b l : ℕ) → HasValue x false a 1 → HasValue x false b l → b ≡ a * l
units_are x a b l h k =
    eq_of_mul-eq-mul_right (den x) (den_pos x) b (a * l)
    (sym (value→cross x b l k) ∙ ap (λ (z : ℕ). z * l) (sym (mul-one (num x)) ∙ value→cross x a 1 h) ∙ mul_right_comm a (den x) l)

module _ (d : Duration) (good : IsDuration d) where
  abbrev f : Format
  f = binary64

  abbrev s : ℕ
  s = d.secs

  abbrev n : ℕ
  n = d.nanos

  abbrev pub l : ℕ
  l = 2 ^ 1074

  L : 0 < l
  L = pow_pos 1074

  abbrev pub S : ℕ
  S = grid f s 1

  abbrev pub Q : ℕ
  Q = grid f n (10 ^ 9)

  abbrev pub R : ℕ
  R = grid f (S + Q) l

  s_moderate : Moderate s 1
  s_moderate = of_tame s 1 (record { top = omega (arith, good.0); some = lit< tt; bottom = lit≤ tt })

  n_moderate : Moderate n (10 ^ 9)
  n_moderate = of_tame n (10 ^ 9) (record { top = omega (arith, good.1); some = lit< tt; bottom = lit≤ tt })

  S_near : Near (2 ^ 53) (s * l) S
  S_near = subst (λ (z : ℕ). Near (2 ^ 53) (s * l) z) (mul-one S) (near f s 1 (lit< tt) s_moderate)

  pub Q_near : Near (2 ^ 53) (n * l) (Q * 10 ^ 9)
  Q_near = near f n (10 ^ 9) (lit< tt) n_moderate

  -- N * l is the duration's own size, in nanoseconds
  whole_size : (s n l : ℕ) → s * l * 10 ^ 9 + n * l ≡ (s * 10 ^ 9 + n) * l
  whole_size s n l = ap (λ (z : ℕ). z + n * l) (mul_right_comm s l (10 ^ 9)) ∙ sym (add-mul (s * 10 ^ 9) n l)

  pub sum_near : Near (2 ^ 53) (N d * l) ((S + Q) * 10 ^ 9)
  sum_near = subst (λ (z : ℕ). Near (2 ^ 53) z ((S + Q) * 10 ^ 9)) (whole_size s n l) (subst (λ (z : ℕ). Near (2 ^ 53) (s * l * 10 ^ 9 + n * l) z) (sym (add-mul S Q (10 ^ 9))) (mix (2 ^ 53) (10 ^ 9) (s * l) (n * l) S (Q * 10 ^ 9) S_near Q_near))

  pub sum_moderate : Moderate (S + Q) l
  sum_moderate =
      let h = double f (N d * l) ((S + Q) * 10 ^ 9) sum_near in
      moderate (N d) (10 ^ 9) (S + Q) l (record { top = omega (arith, good.0, good.1); some = lit< tt; bottom = lit≤ tt }) h.1 h.0

  pub R_near : Near (2 ^ 53) (S + Q) R
  R_near = cancelled (2 ^ 53) l (S + Q) R L (near f (S + Q) l L sum_moderate)

  -- ---- the values of the seconds, of the nanoseconds and of their sum
  pub secs_value : HasValue (whole f s) false S l
  secs_value = subst (λ (z : Float). HasValue z false S l) (sym (whole-round f s)) (value f s 1 (lit< tt) s_moderate)

  small_n : n ≤ 2 ^ 53
  small_n = omega (arith, good.1)

  part-value : HasValue (div f (whole f n) (whole f (10 ^ 9))) false Q l
  part-value =
      subst (λ (z : Float). HasValue z false Q l)
      (sym (div_at f (lit< tt) (lit< tt) (whole f n) (whole f (10 ^ 9)) n (10 ^ 9) (lit< tt) (whole_val f n small_n) (whole_val f (10 ^ 9) (lit≤ tt)) ∙ ap (λ (z : ℕ). round f false z (10 ^ 9)) (mul-one n)))
      (value f n (10 ^ 9) (lit< tt) n_moderate)

  pub seconds-value : HasValue (seconds_as f d) false R l
  unfolding seconds_as
  seconds-value =
      subst (λ (z : Float). HasValue z false R l)
      (sym (add_at f L L (whole f s) (div f (whole f n) (whole f (10 ^ 9))) S Q secs_value part-value ∙ round_same f false (S * l + Q * l) (l * l) (S + Q) l (mul-pos L L) L (sum_squared S Q l)))
      (value f (S + Q) l L sum_moderate)
