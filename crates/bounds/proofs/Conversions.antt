-- An f32 never carries into the next second, and no float rounds up to 2 ^ 64 s. Assumes nothing.
use Rattle.std.proofs.Common.{◌≡◌, refl, sym, ap, ◌∙◌, Bool, true, false, cond, ◌&&◌, inl, inr, ℕ, zero, suc, ◌+◌, ◌*◌, ◌/◌, ◌%◌, ◌^◌, ◌≤◌, ◌<◌, le_trans, le_of_eq, mul-div_cancel, lt_of_le_of_lt, mod-lt, mul-one, div-one, arith, ℤ, pos, negsuc, T, leb, ltb, eqb, ltb→lt, lit<, lit≤, pow_pos, le-leb, Result, Ok, Err}
use native.Mathlib.Nat.{mod-le}
use lib.Ieee.{Float, nan, inf, fin, Format, binary32, binary64, prec, emax, low, up, down, lt, fits}
use lib.Ieee.Fits.{and_l, and_r}
use lib.Ieee.Nearest.{closest}
use Rattle.laws.proofs.Closest.{le_or_lt, closest_le}
use Rattle.refusal.specs.declared.Refusal.{Refusal}
use Rattle.refusal.specs.declared.Refusal.TheVariants.{Negative, Overflow, OverflowOrNan}
use Rattle.duration.specs.declared.Duration.{Duration}
use Rattle.duration.specs.Meaning.{most, of_nanos, exact}
use Rattle.seconds.specs.From.{of_fraction, of_size, from_seconds}
use Rattle.seconds.proofs.Fraction.{over, within, closest-whole, split_at}
use Rattle.seconds.proofs.FewDigits.{no_carry}
use Rattle.bounds.specs.Conversions.{NoCarry, NeverOver}

-- ---- the digits of a float that a format holds
few_digits : (f : Format) (s : Bool) (m : ℕ) (e : ℤ) → T (fits f (fin s m e)) → m < 2 ^ prec f
unfolding fits
few_digits f s zero e t = pow_pos (prec f)
few_digits f s (suc m) e t =
    let A = eqb (suc m % 2) 1 in
    let B = ltb (suc m) (2 ^ prec f) in
    let C = leb (down e) (2 ^ low f) in
    let D = ltb (suc m * up e) (2 ^ suc (emax f) * down e) in
    ltb→lt (suc m) (2 ^ prec f) (and_r A B (and_l (A && B) C (and_l (A && B && C) D t)))

-- ---- answers that differ
is_not : {r : Refusal} {d : Duration} → Err r ≡ Ok d → ⊥
is_not e = cc

negative_not : ◌≡◌ {A = Result Duration Refusal} (Err Negative) (Err Overflow) → ⊥
negative_not e = cc

nan_not : ◌≡◌ {A = Result Duration Refusal} (Err OverflowOrNan) (Err Overflow) → ⊥
nan_not e = cc

-- ---- an answer that is not the refusal tested for comes from the other way
passed : (b : Bool) (r : Refusal) (a c : Result Duration Refusal) → (Err r ≡ c → ⊥) → cond b (Err r) a ≡ c → a ≡ c
passed true r a c n e = absurd (n e)
passed false r a c n e = e

from_size : (x : Float) (c : Result Duration Refusal) → (Err Negative ≡ c → ⊥) → from_seconds x ≡ c → of_size x ≡ c
unfolding from_seconds
from_size x c n e = passed (lt x (fin false 0 (pos 0))) Negative (of_size x) c n e

from_fraction : (a b : ℕ) (c : Result Duration Refusal) → (Err OverflowOrNan ≡ c → ⊥) → of_fraction a b ≡ c → (a < 2 ^ 64 * b) × (exact (closest (a * 10 ^ 9) b) ≡ c)
from_fraction a b c n e = elim (le_or_lt (2 ^ 64 * b) a) [
  | inl h ↦ absurd (n (sym (over a b h) ∙ e))
  | inr h ↦ (h, sym (within a b h) ∙ e)
]

exact_secs : (n : ℕ) (d : Duration) → exact n ≡ Ok d → d.secs ≡ n / 10 ^ 9
unfolding exact
exact_secs n d e = go (leb n most) e
  where
    go : (b : Bool) → cond b (Ok (of_nanos n)) (Err Overflow) ≡ Ok d → d.secs ≡ n / 10 ^ 9
    go true e = let p : of_nanos n ≡ d = cc in sym (ap (λ (z : Duration). z.secs) p)
    go false e = absurd (is_not e)

exact_fits : (n : ℕ) → n ≤ most → exact n ≡ Err Overflow → ⊥
unfolding exact
exact_fits n h e = is_not (sym (rw (le-leb n most h) at e))

-- ---- an f32's whole part is its seconds
whole_part : (n w r : ℕ) → n ≡ w * 10 ^ 9 + r → r ≤ 999999999 → n / 10 ^ 9 ≡ w
whole_part n w r e h = omega arith

no_carry_at : (m : ℕ) (e : ℤ) (d : Duration) → m < 2 ^ 24 → of_fraction (m * up e) (down e) ≡ Ok d → d.secs ≡ m * up e / down e
no_carry_at m (pos k) d M e =
    let h = from_fraction (m * 2 ^ k) 1 (Ok d) is_not e in
    exact_secs (closest (m * 2 ^ k * 10 ^ 9) 1) d h.1
    ∙ ap (λ (z : ℕ). z / 10 ^ 9) (closest-whole (m * 2 ^ k * 10 ^ 9))
    ∙ mul-div_cancel (m * 2 ^ k) (lit< tt)
    ∙ sym (div-one (m * 2 ^ k))
no_carry_at m (negsuc k) d M e =
    let b = 2 ^ suc k in
    let c = closest (m % b * 10 ^ 9) b in
    exact_secs (m / b * 10 ^ 9 + c) d (sym (split_at m (suc k) (omega arith)) ∙ ap (λ (z : ℕ). of_fraction z b) (sym (mul-one m)) ∙ e)
    ∙ whole_part (m / b * 10 ^ 9 + c) (m / b) c refl (no_carry (m % b) (suc k) (mod-lt m (pow_pos (suc k))) (lt_of_le_of_lt (mod-le m b) M))
    ∙ ap (λ (z : ℕ). z / b) (sym (mul-one m))

pub no_carry_ever : NoCarry
no_carry_ever nan d t e = absurd (is_not (from_size nan (Ok d) is_not e))
no_carry_ever (inf s) d t e = absurd (is_not (from_size (inf s) (Ok d) is_not e))
no_carry_ever (fin s m g) d t e = no_carry_at m g d (few_digits binary32 s m g t) (from_size (fin s m g) (Ok d) is_not e)

-- ---- a float under 2 ^ 64 is whole, or so small that its seconds are far from 2 ^ 64
under_most : (m : ℕ) (e : ℤ) → m < 2 ^ 53 → m * up e < 2 ^ 64 * down e → closest (m * up e * 10 ^ 9) (down e) ≤ most
under_most m (pos k) M h = le_trans (le_of_eq (closest-whole (m * 2 ^ k * 10 ^ 9))) (whole_le (m * 2 ^ k) h)
  where
    whole_le : (n : ℕ) → n < 2 ^ 64 * 1 → n * 10 ^ 9 ≤ most
    whole_le n h = omega arith
under_most m (negsuc k) M h = le_trans (closest_le (m * 1 * 10 ^ 9) (2 ^ suc k) (2 ^ 53 * 10 ^ 9) (pow_pos (suc k)) (small m (2 ^ suc k) M (pow_pos (suc k)))) (lit≤ tt)
  where
    small : (m b : ℕ) → m < 2 ^ 53 → 0 < b → m * 1 * 10 ^ 9 < 2 ^ 53 * 10 ^ 9 * b
    small m b M B = omega arith

pub never_over : NeverOver
never_over nan t e = nan_not (from_size nan (Err Overflow) negative_not e)
never_over (inf s) t e = nan_not (from_size (inf s) (Err Overflow) negative_not e)
never_over (fin s m g) t e =
    let h = from_fraction (m * up g) (down g) (Err Overflow) nan_not (from_size (fin s m g) (Err Overflow) negative_not e) in
    exact_fits (closest (m * up g * 10 ^ 9) (down g)) (under_most m g (few_digits binary64 s m g t) h.0) h.1
