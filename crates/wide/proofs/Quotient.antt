-- A quotient by what it leaves. Assumes nothing.
use Rattle.std.specs.Prelude.{◌≡◌, ℕ, ◌+◌, ◌*◌, ◌/◌, ◌%◌, ◌^◌, ◌<◌, Ok, Err}
use Rattle.std.proofs.Common.{arith, sym, ap, ◌∙◌, eq-eqb, ne_eqb}
use native.Mathlib.Nat.{div-add-mod'}
use lib.Arith.{digits_div, digits_mod}
use Rattle.refusal.specs.declared.Refusal.TheVariants.{ZeroDivisor}
use Rattle.wide.specs.declared.{Wide.Wide}
use Rattle.wide.specs.Wide.{words, division}

-- a high part's quotient beside that of what it leaves
pub carried_is : (h l d q r : ℕ) → q * d + r ≡ h % d * 2 ^ 64 + l → (h / d * 2 ^ 64 + q) * d + r ≡ h * 2 ^ 64 + l
carried_is h l d q r e = omega (arith, e, ap (λ (z : ℕ). z * 2 ^ 64) (div-add-mod' h d))

pub division_is : (n d q r : ℕ) {a b : Wide} → a ≡ words q → b ≡ words r → 0 < d → q * d + r ≡ n → r < d → Ok (record { quotient = a; remainder = b }) ≡ division n d
unfolding division
division_is n d q r e f some g below =
    let over : words q ≡ words (n / d) = ap words (sym (digits_div q below) ∙ ap (λ (z : ℕ). z / d) g) in
    let left : words r ≡ words (n % d) = ap words (sym (digits_mod q below) ∙ ap (λ (z : ℕ). z % d) g) in
    rw (ne_eqb d 0 (λ z. omega (arith, z, some))) (λ i. Ok (record { quotient = (e ∙ over) i; remainder = (f ∙ left) i }))

pub no_division : (n d : ℕ) → d ≡ 0 → Err ZeroDivisor ≡ division n d
unfolding division
no_division n d z = rw (eq-eqb d 0 z)
