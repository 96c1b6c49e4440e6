-- From units of a format's smallest value to a float's own fraction num / den. Assumes nothing.
use Rattle.std.proofs.Common.{◌≡◌, refl, sym, ap, ◌∙◌, false, ℕ, ◌+◌, ◌*◌, ◌≤◌, ◌<◌, le_trans, le_of_eq, mul_assoc, mul_comm, mul_left_comm, mul-le-mul_right, le_of_mul-le-mul_right, add-mul}
use lib.Ieee.{Float, nan, inf, fin}
use lib.Ieee.Exact.{HasValue}
use lib.Ieee.Positive.{num, den, value→cross}
use Rattle.bounds.specs.Distance.{apart}
use Rattle.bounds.proofs.Rounded.{apart_le}

pub own : (x : Float) (a c : ℕ) → HasValue x false a c → HasValue x false (num x) (den x)
own nan a c h = absurd h
own (inf s) a c h = absurd h
own (fin t m e) a c h = (h.0, refl)

-- q / d is R / l: what holds of R and l, to within w / h of them, holds of q and d
module _ (q d R l x w : ℕ) (L : 0 < l) (e : q * l ≡ R * d) where
  over : (t h : ℕ) → R * t * h ≤ x * l * h + w * l → q * t * h ≤ x * d * h + w * d
  over t h k =
      le_of_mul-le-mul_right
      (le_trans (le_of_eq (one q t h l ∙ ap (λ (z : ℕ). z * (t * h)) e ∙ two R d t h))
      (le_trans (mul-le-mul_right d k) (le_of_eq (three x w l d h))))
      L
    where
      one : (a t h l : ℕ) → a * t * h * l ≡ a * l * (t * h)
      one a t h l = mul_assoc (a * t) h l ∙ simp (mul_assoc, mul_comm, mul_left_comm)

      two : (a d t h : ℕ) → a * d * (t * h) ≡ a * t * h * d
      two a d t h = simp (mul_assoc, mul_comm, mul_left_comm)

      three : (x w l d h : ℕ) → (x * l * h + w * l) * d ≡ (x * d * h + w * d) * l
      three x w l d h = simp (add-mul, mul_assoc, mul_comm, mul_left_comm)

  under : (t h : ℕ) → x * l * h ≤ R * t * h + w * l → x * d * h ≤ q * t * h + w * d
  under t h k =
      le_of_mul-le-mul_right
      (le_trans (le_of_eq (one x d h l))
      (le_trans (mul-le-mul_right d k) (le_of_eq (two R t h w l d ∙ ap (λ (z : ℕ). z * (t * h) + w * d * l) (sym e) ∙ three q l t h w d))))
      L
    where
      one : (x d h l : ℕ) → x * d * h * l ≡ x * l * h * d
      one x d h l = simp (mul_assoc, mul_comm, mul_left_comm)

      two : (a t h w l d : ℕ) → (a * t * h + w * l) * d ≡ a * d * (t * h) + w * d * l
      two a t h w l d = simp (add-mul, mul_assoc, mul_comm, mul_left_comm)

      three : (a l t h w d : ℕ) → a * l * (t * h) + w * d * l ≡ (a * t * h + w * d) * l
      three a l t h w d = simp (add-mul, mul_assoc, mul_comm, mul_left_comm)

-- | x - a / t | ≤ w / t / h, from the units R of x
pub own_near : (x : Float) (R l a w t h : ℕ) → 0 < l → HasValue x false R l → R * t * h ≤ a * l * h + w * l → a * l * h ≤ R * t * h + w * l
    → apart (num x * t) (a * den x) * h ≤ w * den x
own_near x R l a w t h L v p q =
    let e : num x * l ≡ R * den x = value→cross x R l v in
    apart_le (num x * t) (a * den x) h (w * den x) (over (num x) (den x) R l a w L e t h p) (under (num x) (den x) R l a w L e t h q)
