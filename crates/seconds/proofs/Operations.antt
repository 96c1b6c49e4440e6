-- The float operations on values that are fractions: each is one rounding of the exact result. One law for both widths. Assumes nothing.
use Rattle.std.proofs.Common.{◌≡◌, ℕ, zero, suc, ◌+◌, ◌-◌, ◌*◌, ◌/◌, ◌%◌, ◌^◌, ◌<◌, ◌≤◌, true, false, sym, refl, ap, ◌∙◌, subst, true≢false, le_trans, le_of_eq, lt_of_lt_of_le, le_of_lt, mul-le-mul_right, zero-lt-suc, mul_assoc, mul_comm, add-mul, mul-pos, zero-mul, mul-one, mul_right_comm, le_of_mul-le-mul_right, mul_left_comm, arith, pow_mono, pow-add, shl_lt, le-ltb, lit≤}
use native.Mathlib.Nat.{mul-sub, mul-mul-mul_comm}
use lib.Dec.{eqb-suc-zero}
use lib.Ieee.{Float, nan, inf, fin, Format, binary32, binary64, prec, emax, low, up, down, round, add, sum, sub, neg, mul, div, of_int}
use lib.Ieee.Fits.{up_pos, down_pos}
use lib.Ieee.Exact.{HasValue, round_exact}
use lib.Ieee.Scale.{round_same}
use lib.Ieee.Back.{round_whole}
use Rattle.seconds.specs.Out.{whole}

-- ---- whole numbers
pub whole-round : (f : Format) (n : ℕ) → whole f n ≡ round f false n 1
unfolding of_int
whole-round f n = refl

pub whole_val : (f : Format) (n : ℕ) → n ≤ 2 ^ prec f → HasValue (whole f n) false n 1
whole_val f n h = subst (λ (z : Float). HasValue z false n 1) (sym (whole-round f n)) (round_whole f false n h)

pub crosswise : (x y z w : ℕ) → x * y * (z * w) ≡ x * w * (z * y)
crosswise x y z w = simp (mul_assoc, mul_comm, mul_left_comm)

-- ---- x is a / c and y is b / d
module _ (f : Format) {c d : ℕ} (C : 0 < c) (D : 0 < d) where
  pub add_at : (x y : Float) (a b : ℕ) → HasValue x false a c → HasValue y false b d → add f x y ≡ round f false (a * d + b * c) (c * d)
  unfolding add sum
  add_at nan y a b h k = absurd h
  add_at (inf s) y a b h k = absurd h
  add_at (fin s m e) nan a b h k = absurd k
  add_at (fin s m e) (inf t) a b h k = absurd k
  add_at (fin true m e) (fin t n g) a b h k = absurd (true≢false h.0)
  add_at (fin false m e) (fin true n g) a b h k = absurd (true≢false k.0)
  add_at (fin false m e) (fin false n g) a b h k =
      round_same f false (m * up e * down g + n * up g * down e) (down e * down g) (a * d + b * c) (c * d) (mul-pos (down_pos e) (down_pos g)) (mul-pos C D) (go (m * up e) (down e) (n * up g) (down g) h.1 k.1)
    where
      one : (m e g a c d : ℕ) → m * c ≡ a * e → m * g * (c * d) ≡ a * d * (e * g)
      one m e g a c d p = simp (mul_assoc, mul_comm, mul_left_comm) (simp (mul_assoc, mul_comm, mul_left_comm) at (ap (λ (z : ℕ). z * (g * d)) p))

      go : (m e n g : ℕ) → m * c ≡ a * e → n * d ≡ b * g → (m * g + n * e) * (c * d) ≡ (a * d + b * c) * (e * g)
      go m e n g p q =
          add-mul (m * g) (n * e) (c * d)
          ∙ ap (λ (z : ℕ). z + n * e * (c * d)) (one m e g a c d p)
          ∙ ap (λ (z : ℕ). a * d * (e * g) + z) (ap (λ (z : ℕ). n * e * z) (mul_comm c d) ∙ one n g e b d c q ∙ ap (λ (z : ℕ). b * c * z) (mul_comm g e))
          ∙ sym (add-mul (a * d) (b * c) (e * g))

  pub mul_at : (x y : Float) (a b : ℕ) → HasValue x false a c → HasValue y false b d → mul f x y ≡ round f false (a * b) (c * d)
  unfolding mul
  mul_at nan y a b h k = absurd h
  mul_at (inf s) y a b h k = absurd h
  mul_at (fin s m e) nan a b h k = absurd k
  mul_at (fin s m e) (inf t) a b h k = absurd k
  mul_at (fin true m e) (fin t n g) a b h k = absurd (true≢false h.0)
  mul_at (fin false m e) (fin true n g) a b h k = absurd (true≢false k.0)
  mul_at (fin false m e) (fin false n g) a b h k =
      round_same f false (m * up e * (n * up g)) (down e * down g) (a * b) (c * d) (mul-pos (down_pos e) (down_pos g)) (mul-pos C D) (go (m * up e) (down e) (n * up g) (down g) h.1 k.1)
    where
      go : (m e n g : ℕ) → m * c ≡ a * e → n * d ≡ b * g → m * n * (c * d) ≡ a * b * (e * g)
      go m e n g p q = mul-mul-mul_comm m n c d ∙ ap (λ (z : ℕ). z * (n * d)) p ∙ ap (λ (z : ℕ). a * e * z) q ∙ mul-mul-mul_comm a e b g

  pub div_at : (x y : Float) (a b : ℕ) → 0 < b → HasValue x false a c → HasValue y false b d → div f x y ≡ round f false (a * d) (b * c)
  unfolding div
  div_at nan y a b B h k = absurd h
  div_at (inf s) y a b B h k = absurd h
  div_at (fin s m e) nan a b B h k = absurd k
  div_at (fin s m e) (inf t) a b B h k = absurd k
  div_at (fin true m e) (fin t n g) a b B h k = absurd (true≢false h.0)
  div_at (fin false m e) (fin true n g) a b B h k = absurd (true≢false k.0)
  div_at (fin false m e) (fin false zero g) a b B h k = absurd (no k.1)
    where
      no : 0 * up g * d ≡ b * down g → ⊥
      no q = let z : 0 < b * down g = mul-pos B (down_pos g) in omega (arith, ap (λ (z : ℕ). z * d) (zero-mul (up g)), zero-mul d)
  div_at (fin false m e) (fin false (suc n) g) a b B h k =
      rw (eqb-suc-zero n)
      (round_same f false (m * up e * down g) (suc n * up g * down e) (a * d) (b * c) (mul-pos (mul-pos (zero-lt-suc n) (up_pos g)) (down_pos e)) (mul-pos B C) (go (m * up e) (down e) (suc n * up g) (down g) h.1 k.1))
    where
      go : (m e n g : ℕ) → m * c ≡ a * e → n * d ≡ b * g → m * g * (b * c) ≡ a * d * (n * e)
      go m e n g p q = crosswise m g b c ∙ ap (λ (z : ℕ). z * (b * g)) p ∙ ap (λ (z : ℕ). a * e * z) (sym q) ∙ crosswise a e n d

-- ---- the difference, where both have one denominator
pub sub_at : (f : Format) (x y : Float) (a b c : ℕ) → 0 < c → b ≤ a → HasValue x false a c → HasValue y false b c → sub f x y ≡ round f false (a - b) c
unfolding sub add sum neg
sub_at f nan y a b c C l h k = absurd h
sub_at f (inf s) y a b c C l h k = absurd h
sub_at f (fin s m e) nan a b c C l h k = absurd k
sub_at f (fin s m e) (inf t) a b c C l h k = absurd k
sub_at f (fin true m e) (fin t n g) a b c C l h k = absurd (true≢false h.0)
sub_at f (fin false m e) (fin true n g) a b c C l h k = absurd (true≢false k.0)
sub_at f (fin false m e) (fin false n g) a b c C l h k =
    rw (le-ltb x y less) (round_same f false (x - y) (down e * down g) (a - b) c (mul-pos (down_pos e) (down_pos g)) C same)
  where
    x : ℕ
    x = m * up e * down g

    y : ℕ
    y = n * up g * down e

    one : (m e g a c : ℕ) → m * c ≡ a * e → m * g * c ≡ a * (e * g)
    one m e g a c p = mul_right_comm m g c ∙ ap (λ (z : ℕ). z * g) p ∙ mul_assoc a e g

    x-is : x * c ≡ a * (down e * down g)
    x-is = one (m * up e) (down e) (down g) a c h.1

    y-is : y * c ≡ b * (down e * down g)
    y-is = one (n * up g) (down g) (down e) b c k.1 ∙ ap (λ (z : ℕ). b * z) (mul_comm (down g) (down e))

    less : y ≤ x
    less = le_of_mul-le-mul_right (le_trans (le_of_eq y-is) (le_trans (mul-le-mul_right (down e * down g) l) (le_of_eq (sym x-is)))) C

    away : (x y c : ℕ) → (x - y) * c ≡ x * c - y * c
    away x y c = mul_comm (x - y) c ∙ mul-sub c x y ∙ ap (λ (z : ℕ). z - c * y) (mul_comm c x) ∙ ap (λ (z : ℕ). x * c - z) (mul_comm c y)

    same : (x - y) * c ≡ (a - b) * (down e * down g)
    same = away x y c ∙ ap (λ (z : ℕ). z - y * c) x-is ∙ ap (λ (z : ℕ). a * (down e * down g) - z) y-is ∙ sym (away a b (down e * down g))

-- ---- a short whole number times 2 ^ k is a float exactly
pub shifted_val : (f : Format) (a k : ℕ) → a < 2 ^ prec f → prec f + k ≤ suc (emax f) → HasValue (whole f (a * 2 ^ k)) false (a * 2 ^ k) 1
shifted_val f a k h r =
    subst (λ (z : Float). HasValue z false (a * 2 ^ k) 1) (sym (whole-round f (a * 2 ^ k)))
    (round_exact f false (a * 2 ^ k) 1 a (k + low f) (zero-lt-suc 0) h (lt_of_lt_of_le (shl_lt (prec f) (k + low f) h) (pow_mono (room (prec f) (low f) (suc (emax f)) r)))
    (mul_assoc a (2 ^ k) (2 ^ low f) ∙ ap (λ (z : ℕ). a * z) (sym (pow-add 2 k (low f))) ∙ sym (mul-one (a * 2 ^ (k + low f)))))
  where
    room : (p l t : ℕ) → p + k ≤ t → p + (k + l) ≤ l + t
    room p l t h = omega arith

-- and a sum of whole numbers rounds once
sum-whole : (f : Format) (x y : Float) (a b : ℕ) → HasValue x false a 1 → HasValue y false b 1 → add f x y ≡ whole f (a + b)
sum-whole f x y a b h k =
    add_at f (zero-lt-suc 0) (zero-lt-suc 0) x y a b h k ∙ ap (λ (z : ℕ). round f false z 1) (ap (λ (z : ℕ). z + b * 1) (mul-one a) ∙ ap (λ (z : ℕ). a + z) (mul-one b)) ∙ sym (whole-round f (a + b))

-- so two parts of a number, the upper one k places above the lower, make it in one rounding
halves_are : (f : Format) (high rest k n : ℕ) → high < 2 ^ prec f → rest < 2 ^ prec f → prec f + k ≤ suc (emax f) → high * 2 ^ k + rest ≡ n
    → add f (whole f (high * 2 ^ k)) (whole f (rest * 1)) ≡ whole f n
halves_are f high rest k n H R r e =
    ap (λ (z : ℕ). add f (whole f (high * 2 ^ k)) (whole f z)) (mul-one rest)
    ∙ sum-whole f (whole f (high * 2 ^ k)) (whole f rest) (high * 2 ^ k) rest (shifted_val f high k H r) (whole_val f rest (le_of_lt R))
    ∙ ap (whole f) e

pub f64_halves : (n : ℕ) → n < 2 ^ 64 → add binary64 (whole binary64 (n / 0x1_0000_0000 * 2 ^ 32)) (whole binary64 (n % 0x1_0000_0000 * 1)) ≡ whole binary64 n
f64_halves n N = halves_are binary64 (n / 0x1_0000_0000) (n % 0x1_0000_0000) 32 n (omega arith) (omega arith) (lit≤ tt) (omega arith)

pub f32_halves : (n : ℕ) → n < 2 ^ 46 → add binary32 (whole binary32 (n / 0x80_0000 * 2 ^ 23)) (whole binary32 (n % 0x80_0000 * 1)) ≡ whole binary32 n
f32_halves n N = halves_are binary32 (n / 0x80_0000) (n % 0x80_0000) 23 n (omega arith) (omega arith) (lit≤ tt) (omega arith)
