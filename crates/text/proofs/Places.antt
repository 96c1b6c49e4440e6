-- How many fraction digits show a number exactly. Assumes nothing.
use Rattle.std.proofs.Common.{◌≡◌, sym, ap, ◌∙◌, ℕ, zero, suc, ◌+◌, ◌-◌, ◌*◌, ◌/◌, ◌%◌, ◌^◌, ◌≤◌, ◌<◌, mul_comm, mul-div_cancel, pow-suc, add-zero, zero-mul, arith, eq-eqb, ne_eqb, eqb-true, eqb, get_or, length, length-take-le, List, [], ◌∷◌, ◌++◌, take, drop, get_or-take, pow-add, inl, inr}
use Rattle.std.proofs.Math.Arith.{mod-mul}
use Rattle.std.proofs.Math.Nat.{mul-mod_left, mod-one}
use borrow.Author.Tests.{eqb-false}
use Rattle.std.proofs.lemmas.List.{drop-replicate, get_or-append_right, get_or-replicate}
use Rattle.laws.specs.Written.{times}
use Rattle.laws.proofs.Closest.{zero_of, le_or_lt}
use Rattle.text.specs.declared.fraction.Fraction.{Fraction}
use Rattle.text.specs.Text.{exact_places}
use Rattle.text.specs.Parts.{IsFraction}
use Rattle.text.proofs.Leasts.{least_is, least_at, least_before}
use Rattle.text.specs.Digits.{ending_digits}
use Rattle.text.proofs.Decimals.{ten_pos, digit_at, length_digits, digits-zeros}

-- ---- remainders of multiples
pub scaled_mod : (x m c : ℕ) → 0 < m → 0 < c → x * c % (m * c) ≡ x % m * c
scaled_mod x m c M C =
    mod-mul (x * c) M C
    ∙ ap (λ (z : ℕ). z % m * c + x * c % c) (mul-div_cancel x C)
    ∙ ap (λ (z : ℕ). x % m * c + z) (mul-mod_left x c)
    ∙ add-zero (x % m * c)

low_zero : (x a b : ℕ) → 0 < a → 0 < b → x % (a * b) ≡ 0 → x % b ≡ 0
low_zero x a b A B e = omega (arith, mod-mul x A B)

pub tens : (a b c : ℕ) → a + b ≡ c → 10 ^ c ≡ 10 ^ a * 10 ^ b
tens a b c e = ap (λ (z : ℕ). 10 ^ z) (sym e) ∙ pow-add 10 a b

-- p digits show x over 10 ^ k exactly where x is a multiple of 10 ^ (k - p)
pub left_over : (k x p : ℕ) → p ≤ k → x * 10 ^ p % 10 ^ k ≡ x % 10 ^ (k - p) * 10 ^ p
left_over k x p h =
    let e : k - p + p ≡ k = omega arith in
    ap (λ (z : ℕ). x * 10 ^ p % z) (tens (k - p) p k e) ∙ scaled_mod x (10 ^ (k - p)) (10 ^ p) (ten_pos (k - p)) (ten_pos p)

-- ---- c digits of nine are in use where those behind are zeros, and the last of them is none
module _ (x c : ℕ) (h : c ≤ 9) where
  -- fewer digits than c do not show x, unless the last of the c is a zero
  last_zero : (i : ℕ) → i < c → x * 10 ^ i % 10 ^ 9 ≡ 0 → x / 10 ^ (9 - c) % 10 ≡ 0
  last_zero i l z = low_zero (x / 10 ^ (9 - c)) (10 ^ j) 10 (ten_pos j) (omega arith) (ap (λ (y : ℕ). x / 10 ^ (9 - c) % y) (sym (pow-suc 10 j)) ∙ divides)
    where
      j : ℕ
      j = c - suc i

      le : i ≤ 9
      le = omega arith

      sum : suc j + (9 - c) ≡ 9 - i
      sum = omega arith

      whole : x % 10 ^ (9 - i) ≡ 0
      whole = zero_of (x % 10 ^ (9 - i)) (10 ^ i) (ten_pos i) (sym (left_over 9 x i le) ∙ z)

      divides : x / 10 ^ (9 - c) % 10 ^ suc j ≡ 0
      divides = zero_of (x / 10 ^ (9 - c) % 10 ^ suc j) (10 ^ (9 - c)) (ten_pos (9 - c)) (omega (arith, mod-mul x (ten_pos (suc j)) (ten_pos (9 - c)), ap (λ (y : ℕ). x % y) (sym (tens (suc j) (9 - c) (9 - i) sum)) ∙ whole))

zeros_end : (x j : ℕ) → j ≤ 9 → ((k : ℕ) → 9 - j ≤ k → k < 9 → get_or (ending_digits 9 x) k 0 ≡ 48) → x % 10 ^ j ≡ 0
zeros_end x zero h f = mod-one x
zeros_end x (suc j) h f =
    let e : 8 - (8 - j) ≡ j = omega arith in
    let low : x % 10 ^ j ≡ 0 = zeros_end x j (omega arith) (λ k a b. f k (omega arith) b) in
    let digit : 48 + x / 10 ^ j % 10 ≡ 48 = rw e at (sym (digit_at x (8 - j) (omega arith)) ∙ f (8 - j) (omega arith) (omega arith)) in
    let ten : 0 < 10 = omega arith in
    let none : x / 10 ^ j % 10 ≡ 0 = omega arith in
    ap (λ (z : ℕ). x % z) (pow-suc 10 j ∙ mul_comm (10 ^ j) 10) ∙ mod-mul x ten (ten_pos j) ∙ (λ i. none i * 10 ^ j + low i) ∙ add-zero (0 * 10 ^ j) ∙ zero-mul (10 ^ j)

pub used_is : (x : ℕ) {c : ℕ} {d : List ℕ} → d ≡ ending_digits 9 x → c ≤ length d → ((k : ℕ) → c ≤ k → k < length d → get_or d k 0 ≡ 48) → (0 < c → get_or d (c - 1) 0 ≡ 48 → ⊥) → c ≡ exact_places 9 x
unfolding exact_places
used_is x {c} {d} e h f g = sym (least_is _ 9 c le (eq-eqb _ 0 hit) (λ (i : ℕ) (l : i < c). ne_eqb _ 0 (miss i l)))
  where
    nine : length d ≡ 9
    nine = ap length e ∙ length_digits 9 x

    le : c ≤ 9
    le = omega (arith, h, nine)

    same : (k : ℕ) → get_or d k 0 ≡ get_or (ending_digits 9 x) k 0
    same k = ap (λ (l : List ℕ). get_or l k 0) e

    hit : x * 10 ^ c % 10 ^ 9 ≡ 0
    hit = left_over 9 x c le ∙ ap (λ (z : ℕ). z * 10 ^ c) (zeros_end x (9 - c) (omega arith) (λ k a b. sym (same k) ∙ f k (omega (arith, a, le)) (omega (arith, b, nine)))) ∙ zero-mul (10 ^ c)

    miss : (i : ℕ) → i < c → x * 10 ^ i % 10 ^ 9 ≡ 0 → ⊥
    miss i l z =
        let k : 8 - (c - 1) ≡ 9 - c = omega (arith, l, le) in
        let digit : get_or d (c - 1) 0 ≡ 48 + x / 10 ^ (9 - c) % 10 = same (c - 1) ∙ rw k at (digit_at x (c - 1) (omega (arith, l, le))) in
        g (omega arith) (omega (arith, digit, last_zero x c le i l z))

abbrev pub zeros : List ℕ
zeros = 48 ∷ 48 ∷ 48 ∷ 48 ∷ 48 ∷ 48 ∷ 48 ∷ 48 ∷ 48 ∷ []

-- ---- x is y and zeros behind it: only the first m of its nine digits are written and looked at
module _ (x y m : ℕ) (h : m ≤ 9) (w : x ≡ y * 10 ^ (9 - m)) where
  nine : m + (9 - m) ≡ 9
  nine = omega arith

  split : ending_digits 9 x ≡ ending_digits m y ++ times (9 - m) 48
  split = ap (ending_digits 9) w ∙ rw nine at (digits-zeros m (9 - m) y)

  written : {b : List ℕ} → b ≡ ending_digits (length (take m zeros)) y → b ++ drop m zeros ≡ ending_digits 9 x
  unfolding times
  written {b} e =
      let len : length (take m zeros) ≡ m = length-take-le m zeros h in
      (λ i. (e ∙ ap (λ (z : ℕ). ending_digits z y) len) i ++ drop-replicate m 9 48 i) ∙ sym split

  used : {c : ℕ} {d : List ℕ} → d ≡ ending_digits 9 x → c ≤ length (take m d) → ((k : ℕ) → c ≤ k → k < length (take m d) → get_or (take m d) k 0 ≡ 48) → (0 < c → get_or (take m d) (c - 1) 0 ≡ 48 → ⊥) → c ≡ exact_places 9 x
  unfolding times
  used {c} {d} e l f g = used_is x e (omega (arith, l, few, all)) rest (λ p z. g p (get_or-take m d (c - 1) 0 (omega (arith, l, few, p)) ∙ z))
    where
      all : length d ≡ 9
      all = ap length e ∙ length_digits 9 x

      few : length (take m d) ≡ m
      few = length-take-le m d (omega (arith, h, all))

      behind : (k : ℕ) → m ≤ k → k < 9 → get_or d k 0 ≡ 48
      behind k a b =
          ap (λ (z : List ℕ). get_or z k 0) (e ∙ split)
          ∙ get_or-append_right (ending_digits m y) (times (9 - m) 48) m k 0 (length_digits m y) a
          ∙ get_or-replicate (9 - m) (k - m) 48 0 (omega arith)

      rest : (k : ℕ) → c ≤ k → k < length d → get_or d k 0 ≡ 48
      rest k a b = elim (le_or_lt m k) [
        | inl t ↦ behind k t (omega (arith, b, all))
        | inr t ↦ sym (get_or-take m d k 0 t) ∙ f k a (omega (arith, few, t))
      ]

  pub front_is : {b : List ℕ} {f : Fraction} → b ≡ ending_digits (length (take m zeros)) y → f.digits ≡ b ++ drop m zeros → f.count ≤ length (take m f.digits) → ((k : ℕ) → f.count ≤ k → k < length (take m f.digits) → get_or (take m f.digits) k 0 ≡ 48) → (0 < f.count → get_or (take m f.digits) (f.count - 1) 0 ≡ 48 → ⊥) → IsFraction x f
  front_is {b} {f} e d l z g = let same : f.digits ≡ ending_digits 9 x = d ∙ written e in record { digits = same; count = used same l z g }

pub as_part : {x y : ℕ} {f : Fraction} → y ≡ x → IsFraction x f → IsFraction y f
as_part e s = rw (← e) at s

-- ---- what the count of digits in use says of what follows them
-- as many digits as are in use show x exactly
pub exact_at : (k n : ℕ) → n * 10 ^ exact_places k n % 10 ^ k ≡ 0
unfolding exact_places
exact_at k n = eqb-true (n * 10 ^ exact_places k n % 10 ^ k) 0 (least_at (λ (p : ℕ). eqb (n * 10 ^ p % 10 ^ k) 0) k (eq-eqb (n * 10 ^ k % 10 ^ k) 0 (mul-mod_left n (10 ^ k))))

pub exact_from : (x q : ℕ) → q ≤ 9 → exact_places 9 x ≤ q → x % 10 ^ (9 - q) ≡ 0
exact_from x q h l = low_zero x (10 ^ (q - c)) (10 ^ (9 - q)) (ten_pos (q - c)) (ten_pos (9 - q)) (ap (λ (z : ℕ). x % z) (sym (tens (q - c) (9 - q) (9 - c) sum)) ∙ at_c)
  where
    c : ℕ
    c = exact_places 9 x

    sum : q - c + (9 - q) ≡ 9 - c
    sum = omega arith

    at_c : x % 10 ^ (9 - c) ≡ 0
    at_c = let le : c ≤ 9 = omega arith in zero_of (x % 10 ^ (9 - c)) (10 ^ c) (ten_pos c) (sym (left_over 9 x c le) ∙ exact_at 9 x)

pub exact_past : (x q : ℕ) → q ≤ 9 → q < exact_places 9 x → x % 10 ^ (9 - q) ≡ 0 → ⊥
unfolding exact_places
exact_past x q h l z = eqb-false _ 0 (least_before _ 9 q l) (left_over 9 x q h ∙ ap (λ (y : ℕ). y * 10 ^ q) z ∙ zero-mul (10 ^ q))
