-- The number that decimal digits show. Assumes nothing.
use Rattle.std.proofs.Common.{◌≡◌, refl, sym, ap, ◌∙◌, false, List, [], ◌∷◌, ◌++◌, ℕ, zero, suc, ◌+◌, ◌-◌, ◌*◌, ◌/◌, ◌%◌, ◌^◌, ◌≤◌, ◌<◌, mod-eq_of_lt, pow-suc, le_refl, arith, lt-ltb, ltb-true, ltb-false, ltb}
use Rattle.std.proofs.Math.Arith.{mod-mul}
use Rattle.std.proofs.Math.Nat.{mod-one}
use Rattle.text.specs.Digits.{least, ending_digits, width, decimal}
use Rattle.text.specs.Theorems.{value_from}
use Rattle.text.proofs.Leasts.{least_at, least_before}
use Rattle.text.proofs.Decimals.{ten_pos, index_lt}

value_last : (a : ℕ) (l : List ℕ) (d : ℕ) → value_from a (l ++ (d ∷ [])) ≡ value_from a l * 10 + (d - 48)
value_last a [] d = refl
value_last a (b ∷ l) d = value_last (a * 10 + (b - 48)) l d

pub value-digits : (k n : ℕ) → value_from 0 (ending_digits k n) ≡ n % 10 ^ k
unfolding ending_digits
value-digits zero n = sym (mod-one n)
value-digits (suc k) n =
    value_last 0 (ending_digits k (n / 10)) (48 + n % 10)
    ∙ ap (λ (z : ℕ). z * 10 + (48 + n % 10 - 48)) (value-digits k (n / 10))
    ∙ ap (λ (z : ℕ). n / 10 % 10 ^ k * 10 + z) (digit (n % 10))
    ∙ sym (ap (λ (z : ℕ). n % z) (pow-suc 10 k) ∙ mod-mul n (ten_pos k) (omega arith))
  where
    digit : (d : ℕ) → 48 + d - 48 ≡ d
    digit d = omega arith

-- a number fits in its digits, and in no fewer
pub width-holds : (n : ℕ) → n < 10 ^ width n
unfolding width
width-holds n = ltb-true n (10 ^ suc (least (λ (k : ℕ). ltb n (10 ^ suc k)) n)) (least_at (λ (k : ℕ). ltb n (10 ^ suc k)) n (lt-ltb n (10 ^ suc n) bound))
  where
    bound : n < 10 ^ suc n
    bound = omega (arith, index_lt n, pow-suc 10 n)

pub width_fewest : (n : ℕ) → 1 < width n → 10 ^ (width n - 1) ≤ n
unfolding width
width_fewest n h = go (least (λ (k : ℕ). ltb n (10 ^ suc k)) n) (least_before (λ (k : ℕ). ltb n (10 ^ suc k)) n) h
  where
    go : (j : ℕ) → ((i : ℕ) → i < j → ltb n (10 ^ suc i) ≡ false) → 1 < suc j → 10 ^ (suc j - 1) ≤ n
    go zero f h = absurd (omega arith)
    go (suc j) f h = let e : suc (suc j) - 1 ≡ suc j = omega arith in rw e (ltb-false n (10 ^ suc j) (f j (le_refl (suc j))))

pub value-decimal : (n : ℕ) → value_from 0 (decimal n) ≡ n
unfolding decimal
value-decimal n = value-digits (width n) n ∙ mod-eq_of_lt (width-holds n)
