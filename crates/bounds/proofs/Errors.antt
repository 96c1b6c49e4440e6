-- The bounds on the six floats out, from the number of their roundings. Assumes nothing.
use Rattle.std.proofs.Common.{◌≡◌, refl, sym, ap, ◌∙◌, subst, Bool, true, false, cond, true≢false, ◌⊎◌, inl, inr, ℕ, zero, suc, ◌+◌, ◌-◌, ◌*◌, ◌^◌, ◌≤◌, ◌<◌, le_trans, le_of_eq, eq-zero-or-pos, mul_assoc, mul_comm, mul_right_comm, mul-le-mul_right, mul-le-mul_left, le_of_mul-le-mul_right, mul-one, one-mul, zero-mul, le-add_right, arith, pos, eqb, lit≤, lit<, pow_pos}
use lib.Dec.{eqb-suc-zero}
use lib.Ieee.{Float, nan, inf, fin, Format, binary32, binary64, prec, emax, low, up, down, round, add, sum, mul, div, of_int}
use lib.Ieee.Fits.{up_pos, down_pos}
use lib.Ieee.Exact.{HasValue}
use lib.Ieee.Positive.{num, den, value→cross}
use Rattle.laws.proofs.Closest.{le_or_lt, zero_of}
use Rattle.duration.specs.declared.Duration.{Duration}
use Rattle.duration.specs.Meaning.{N}
use Rattle.seconds.specs.Out.{whole, seconds_as, millis_as, nanos_as, quotient_as}
use Rattle.bounds.specs.Distance.{IsDuration}
use Rattle.bounds.specs.Errors.{Close, SecondsClose, MillisClose, QuotientClose, OverZero}
use Rattle.bounds.proofs.Rounded.{most-within}
use Rattle.bounds.proofs.Own.{own, own_near}
use Rattle.bounds.proofs.Steps.{Tame, Rounds, doubled, of-whole, of-exact, later, widened, of-sum, of-product, of-quotient}

-- ---- k roundings that are at most one part in 2 ^ b
lower : (n y H : ℕ) → n * H ≤ y * H + y → n * H ≤ y * H + n
lower n y H h = elim (le_or_lt n y) [
  | inl l ↦ le_trans (mul-le-mul_right H l) (le-add_right (y * H) n)
  | inr l ↦ small l h
]
  where
    small : y < n → n * H ≤ y * H + y → n * H ≤ y * H + n
    small l h = omega arith

zeros : (a y l : ℕ) → a ≡ 0 → y ≤ a * l * 2 → y ≡ 0
zeros a y l z h = omega (arith, ap (λ (z : ℕ). z * l) z, zero-mul l)

zero_or_large : (f : Format) (x : Float) (a c R : ℕ) → Tame a c → HasValue x false R (2 ^ low f) → R * c ≤ a * 2 ^ low f * 2 → a * 2 ^ low f ≤ R * c * 2 → (num x ≡ 0) ⊎ (den x ≤ num x * 2 ^ (emax f - 1))
zero_or_large f x a c R t v h g = go (eq-zero-or-pos a)
  where
    l : ℕ
    l = 2 ^ low f

    e : num x * l ≡ R * den x
    e = value→cross x R l v

    room : (f : Format) → 2 ^ 101 ≤ 2 ^ (emax f - 1)
    room binary32 = lit≤ tt
    room binary64 = lit≤ tt

    far : (a c R l : ℕ) → Tame a c → 0 < a → a * l ≤ R * c * 2 → l ≤ R * 2 ^ 101
    far a c R l t p g = omega (arith, mul-le-mul_right l p, one-mul l, mul-le-mul_left R t.bottom)

    go : (a ≡ 0) ⊎ (0 < a) → (num x ≡ 0) ⊎ (den x ≤ num x * 2 ^ (emax f - 1))
    go (inl z) =
        let r : R * c ≡ 0 = zeros a (R * c) l z h in
        inl (zero_of (num x) l (pow_pos (low f)) (e ∙ ap (λ (z : ℕ). z * den x) (zero_of R c t.some r) ∙ zero-mul (den x)))
    go (inr p) =
        inr
        (le_trans
        (le_of_mul-le-mul_right {k = l}
        (le_trans (le_of_eq (mul_comm (den x) l)) (le_trans (mul-le-mul_right (den x) (far a c R l t p g)) (le_of_eq (mul_right_comm R (2 ^ 101) (den x) ∙ ap (λ (z : ℕ). z * 2 ^ 101) (sym e) ∙ mul_right_comm (num x) l (2 ^ 101)))))
        (pow_pos (low f)))
        (mul-le-mul_left (num x) (room f)))

close : (f : Format) (x : Float) (a c k b : ℕ) → Tame a c → k ≤ 7 → 0 < (2 ^ prec f) ^ k → (2 ^ prec f + 1) ^ k * 2 ^ b ≤ (2 ^ prec f) ^ k * (2 ^ b + 1) → Rounds f x a c k → Close f x a c b
close f x a c k b t K p q r = record {
  value = own x r.units (2 ^ low f) r.value;
  normal = zero_or_large f x a c r.units t r.value (doubled f k (r.units * c) (a * 2 ^ low f) K r.near.over) (doubled f k (a * 2 ^ low f) (r.units * c) K r.near.under);
  near =
      own_near x r.units (2 ^ low f) a a c (2 ^ b) (pow_pos (low f)) r.value (most-within (2 ^ prec f) k (2 ^ b) p q r.near.over)
      (lower (a * 2 ^ low f) (r.units * c) (2 ^ b) (most-within (2 ^ prec f) k (2 ^ b) p q r.near.under));
}

close_3 : (f : Format) (x : Float) (a c : ℕ) → Tame a c → Rounds f x a c 3 → Close f x a c (prec f - 2)
close_3 binary32 x a c t r = close binary32 x a c 3 22 t (lit≤ tt) (lit< tt) (lit≤ tt) r
close_3 binary64 x a c t r = close binary64 x a c 3 51 t (lit≤ tt) (lit< tt) (lit≤ tt) r

close_7 : (f : Format) (x : Float) (a c : ℕ) → Tame a c → Rounds f x a c 7 → Close f x a c (prec f - 3)
close_7 binary32 x a c t r = close binary32 x a c 7 21 t (lit≤ tt) (lit< tt) (lit≤ tt) r
close_7 binary64 x a c t r = close binary64 x a c 7 50 t (lit≤ tt) (lit< tt) (lit≤ tt) r

-- ---- the constants are floats exactly
thousand : (f : Format) → HasValue (whole f (10 ^ 3)) false (10 ^ 3) 1
unfolding of_int round
thousand binary32 = (refl, refl)
thousand binary64 = (refl, refl)

million : (f : Format) → HasValue (whole f (10 ^ 6)) false (10 ^ 6) 1
unfolding of_int round
million binary32 = (refl, refl)
million binary64 = (refl, refl)

billion : (f : Format) → HasValue (whole f (10 ^ 9)) false (10 ^ 9) 1
unfolding of_int round
billion binary32 = (refl, refl)
billion binary64 = (refl, refl)

-- ---- how often each is rounded
module _ (f : Format) (d : Duration) (good : IsDuration d) where
  abbrev s : ℕ
  s = d.secs

  abbrev n : ℕ
  n = d.nanos

  secs : Rounds f (whole f s) s 1 1
  secs = of-whole f s (record { top = omega (arith, good.0); some = lit< tt; bottom = lit≤ tt })

  nanos : Rounds f (whole f n) n 1 1
  nanos = of-whole f n (record { top = omega (arith, good.1); some = lit< tt; bottom = lit≤ tt })

  nanos_tame : (c : ℕ) → 0 < c → c ≤ 2 ^ 100 → Tame (N d) c
  nanos_tame c C h = record { top = omega (arith, good.0, good.1); some = C; bottom = h }

  -- nanoseconds over u, where u of them are one of what is counted
  part : (u : ℕ) → 0 < u → u ≤ 10 ^ 9 → HasValue (whole f u) false u 1 → Rounds f (div f (whole f n) (whole f u)) n u 2
  part u U h v = subst (λ (z : ℕ). Rounds f (div f (whole f n) (whole f u)) z u 2) (mul-one n) (subst (λ (z : ℕ). Rounds f (div f (whole f n) (whole f u)) (n * 1) z 2) (mul-one u) (of-quotient f U nanos (of-exact f (whole f u) u v) (record { top = omega (arith, good.1); some = omega arith; bottom = omega arith }) (lit≤ tt) (lit≤ tt)))

  -- seconds times u
  scaled_secs : (u : ℕ) → u ≤ 10 ^ 9 → HasValue (whole f u) false u 1 → Rounds f (mul f (whole f s) (whole f u)) (s * u) 1 2
  scaled_secs u h v = of-product f secs (of-exact f (whole f u) u v) (record { top = le_trans (mul-le-mul_left s h) (omega (arith, good.0)); some = lit< tt; bottom = lit≤ tt }) (lit≤ tt)

  seconds_rounds : Rounds f (seconds_as f d) (N d) (10 ^ 9) 3
  unfolding seconds_as
  seconds_rounds = of-sum f (later f 1 (widened f (10 ^ 9) secs)) (part (10 ^ 9) (lit< tt) (lit≤ tt) (billion f)) (nanos_tame (10 ^ 9) (lit< tt) (lit≤ tt)) (lit≤ tt)

  millis_rounds : Rounds f (millis_as f d) (N d) (10 ^ 6) 3
  unfolding millis_as
  millis_rounds = of-sum f (subst (λ (z : ℕ). Rounds f (mul f (whole f s) (whole f (10 ^ 3))) z (10 ^ 6) 2) (mul_assoc s (10 ^ 3) (10 ^ 6)) (widened f (10 ^ 6) (scaled_secs (10 ^ 3) (lit≤ tt) (thousand f)))) (part (10 ^ 6) (lit< tt) (lit≤ tt) (million f)) (nanos_tame (10 ^ 6) (lit< tt) (lit≤ tt)) (lit≤ tt)

  nanos_rounds : Rounds f (nanos_as f d) (N d) 1 3
  unfolding nanos_as
  nanos_rounds = of-sum f (scaled_secs (10 ^ 9) (lit≤ tt) (billion f)) (later f 1 nanos) (nanos_tame 1 (lit< tt) (lit≤ tt)) (lit≤ tt)

-- ---- the theorems
pub seconds_close : SecondsClose
seconds_close f d good = close_3 f (seconds_as f d) (N d) (10 ^ 9) (nanos_tame f d good (10 ^ 9) (lit< tt) (lit≤ tt)) (seconds_rounds f d good)

pub millis_close : MillisClose
millis_close f d good = close_3 f (millis_as f d) (N d) (10 ^ 6) (nanos_tame f d good (10 ^ 6) (lit< tt) (lit≤ tt)) (millis_rounds f d good)

pub quotient_close : QuotientClose
unfolding quotient_as
quotient_close f a b p q B = close_7 f (quotient_as f a b) (N a) (N b) tame rounds
  where
    tame : Tame (N a) (N b)
    tame = nanos_tame f a p (N b) B (nanos_tame f b q 1 (lit< tt) (lit≤ tt)).top

    rounds : Rounds f (div f (nanos_as f a) (nanos_as f b)) (N a) (N b) 7
    rounds =
        subst (λ (z : ℕ). Rounds f (div f (nanos_as f a) (nanos_as f b)) z (N b) 7) (mul-one (N a))
        (subst (λ (z : ℕ). Rounds f (div f (nanos_as f a) (nanos_as f b)) (N a * 1) z 7) (mul-one (N b))
        (of-quotient f B (nanos_rounds f a p) (nanos_rounds f b q) (rw (mul-one (N a), mul-one (N b)) tame) (lit≤ tt) (lit≤ tt)))

-- ---- over ZERO
nanos_zero : (f : Format) (d : Duration) → N d ≡ 0 → nanos_as f d ≡ fin false 0 (pos 0)
unfolding nanos_as add sum mul of_int round
nanos_zero f d e = ap (nanos_as f) none ∙ at f
  where
    secs-none : d.secs ≡ 0
    secs-none = omega arith

    nanos-none : d.nanos ≡ 0
    nanos-none = omega arith

    none : ◌≡◌ {A = Duration} d (record { secs = 0; nanos = 0 })
    none = λ i. record { secs = secs-none i; nanos = nanos-none i }

    at : (f : Format) → nanos_as f (record { secs = 0; nanos = 0 }) ≡ fin false 0 (pos 0)
    at binary32 = refl
    at binary64 = refl

both_zero : (m n : ℕ) → (m ≡ 0 → n ≡ 0) → (n ≡ 0 → m ≡ 0) → eqb m 0 ≡ eqb n 0
both_zero zero zero h g = refl
both_zero zero (suc n) h g = absurd (omega (arith, h refl))
both_zero (suc m) zero h g = absurd (omega (arith, g refl))
both_zero (suc m) (suc n) h g = eqb-suc-zero m ∙ sym (eqb-suc-zero n)

by_zero : (f : Format) (x : Float) (n : ℕ) → Rounds f x n 1 3 → div f x (fin false 0 (pos 0)) ≡ cond (eqb n 0) nan (inf false)
unfolding div
by_zero f nan n r = absurd r.value
by_zero f (inf s) n r = absurd r.value
by_zero f (fin true m e) n r = absurd (true≢false r.value.0)
by_zero f (fin false m e) n r = ap (λ (b : Bool). cond b nan (inf false)) (both_zero m n exact-zero float_zero)
  where
    l : ℕ
    l = 2 ^ low f

    exact-zero : m ≡ 0 → n ≡ 0
    exact-zero z =
        let u : r.units ≡ 0 = zero_of r.units (down e) (down_pos e) (sym r.value.1 ∙ ap (λ (z : ℕ). z * up e * l) z ∙ ap (λ (z : ℕ). z * l) (zero-mul (up e)) ∙ zero-mul l) in
        zero_of n l (pow_pos (low f)) (zeros r.units (n * l) 1 u (doubled f 3 (n * l) (r.units * 1) (lit≤ tt) r.near.under))

    float_zero : n ≡ 0 → m ≡ 0
    float_zero z =
        let u : r.units ≡ 0 = zero_of r.units 1 (lit< tt) (zeros n (r.units * 1) l z (doubled f 3 (r.units * 1) (n * l) (lit≤ tt) r.near.over)) in
        zero_of m (up e) (up_pos e) (zero_of (m * up e) l (pow_pos (low f)) (r.value.1 ∙ ap (λ (z : ℕ). z * down e) u ∙ zero-mul (down e)))

pub over_zero : OverZero
unfolding quotient_as
over_zero f a b p e = ap (λ (z : Float). div f (nanos_as f a) z) (nanos_zero f b e) ∙ by_zero f (nanos_as f a) (N a) (nanos_rounds f a p)
