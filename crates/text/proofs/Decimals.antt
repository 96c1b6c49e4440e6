-- Decimal digits: how many, which, and how they are written one by one. Assumes nothing.
use Rattle.std.proofs.Common.{◌≡◌, refl, sym, ap, ◌∙◌, List, [], ◌∷◌, ◌++◌, append_assoc, append-nil, ℕ, zero, suc, ◌+◌, ◌-◌, ◌*◌, ◌/◌, ◌%◌, ◌^◌, ◌≤◌, ◌<◌, suc-le-suc, not-suc-le-zero, add-suc, add-zero, le_refl, le_trans, pow-suc, div-one, mul_comm, mul_assoc, add_comm, add-one, arith, lt-ltb, le-ltb, ltb, lit<, length, take, set, get_or, drop_of_length-le, length-append, take_at, take-take, get_or-take}
use Rattle.std.proofs.Math.ListN.{replicate-append-replicate}
use Rattle.std.proofs.Math.Nat.{one-le-pow, pow-le-pow_right, div-div-eq-div-mul}
use Rattle.std.proofs.Math.Seq.{get_or_at}
use Rattle.laws.specs.Written.{splice, times}
use Rattle.laws.proofs.Written.{splice_is, splice_last}
use Rattle.text.specs.Digits.{ending_digits, width, decimal}
use Rattle.text.proofs.Leasts.{least_is, least_under}

pub ten_pos : (i : ℕ) → 0 < 10 ^ i
ten_pos i = one-le-pow i 10 (omega arith)

pub tens_mono : {a b : ℕ} → a ≤ b → 10 ^ a ≤ 10 ^ b
tens_mono h = pow-le-pow_right (lit< tt) h

pub length_digits : (k n : ℕ) → length (ending_digits k n) ≡ k
unfolding ending_digits
length_digits zero n = refl
length_digits (suc k) n = length-append (ending_digits k (n / 10)) ((48 + n % 10) ∷ []) ∙ (λ i. length_digits k (n / 10) i + 1) ∙ add-one k

-- ---- a loop that writes digits from the last: to write the digits that are left gives what is wanted
pub digit_last : (xs : List ℕ) (k n : ℕ) → splice (set xs k (48 + n % 10)) 0 (ending_digits k (n / 10)) ≡ splice xs 0 (ending_digits (suc k) n)
unfolding ending_digits
digit_last xs k n =
    let e : 0 + length (ending_digits k (n / 10)) ≡ k = omega (arith, length_digits k (n / 10)) in
    (λ i. splice (set xs (sym e i) (48 + n % 10)) 0 (ending_digits k (n / 10))) ∙ splice_last xs 0 (ending_digits k (n / 10)) (48 + n % 10)

pub digit_pair : (xs : List ℕ) (j n : ℕ) → splice (set (set xs (j + 1) (48 + n % 100 % 10)) j (48 + n % 100 / 10)) 0 (ending_digits j (n / 100)) ≡ splice xs 0 (ending_digits (j + 2) n)
digit_pair xs j n =
    let e : j + 1 ≡ suc j = omega arith in
    let f : suc (suc j) ≡ j + 2 = omega arith in
    let last : n % 100 % 10 ≡ n % 10 = omega arith in
    let tens : n % 100 / 10 ≡ n / 10 % 10 = omega arith in
    let rest : n / 100 ≡ n / 10 / 10 = omega arith in
    (λ i. splice (set (set xs (e i) (48 + last i)) j (48 + tens i)) 0 (ending_digits j (rest i)))
    ∙ digit_last (set xs (suc j) (48 + n % 10)) j (n / 10)
    ∙ digit_last xs (suc j) n
    ∙ ap (λ (z : ℕ). splice xs 0 (ending_digits z n)) f

pub one_left : (xs : List ℕ) (n : ℕ) {k : ℕ} → k ≡ 1 → set xs 0 (48 + n % 10) ≡ splice xs 0 (ending_digits k n)
unfolding ending_digits splice
one_left xs n e = rw e (digit_last xs 0 n)

pub none_left : (xs : List ℕ) (n : ℕ) {k : ℕ} → k ≡ 0 → xs ≡ splice xs 0 (ending_digits k n)
unfolding ending_digits splice
none_left xs n e = rw e

-- where as many digits as there are bytes are wanted, nothing of the list is left
pub all_digits : (xs : List ℕ) {k : ℕ} (n : ℕ) → k ≡ length xs → splice xs 0 (ending_digits k n) ≡ ending_digits k n
all_digits xs {k} n e =
    let len : 0 + length (ending_digits k n) ≡ length xs = omega (arith, length_digits k n) in
    splice_is xs 0 (ending_digits k n) (omega arith) ∙ ap (λ (l : List ℕ). ending_digits k n ++ l) (drop_of_length-le xs (omega arith)) ∙ append-nil (ending_digits k n)

-- ---- how many digits a number has
pub index_lt : (j : ℕ) → j < 10 ^ j
index_lt zero = omega arith
index_lt (suc j) = omega (arith, index_lt j, pow-suc 10 j)

pub width_is : (n j : ℕ) → n < 10 ^ suc j → 10 ^ j ≤ n → suc j ≡ width n
unfolding width
width_is n j h l = ap suc (sym (least_is _ n j enough (lt-ltb n (10 ^ suc j) h) (λ (i : ℕ) (k : i < j). le-ltb n (10 ^ suc i) (le_trans (tens_mono k) l))))
  where
    enough : j ≤ n
    enough = omega (arith, index_lt j)

pub width_one : (n : ℕ) → n < 10 → 1 ≡ width n
unfolding width
width_one n h = ap suc (sym (least_is _ n 0 (omega arith) (lt-ltb n 10 h) (λ (i : ℕ) (k : i < 0). absurd (not-suc-le-zero k))))

-- as a logarithm gives it
pub width_log : (n j : ℕ) → n < 10 * 10 ^ j → 10 ^ j ≤ n → j + 1 ≡ width n
width_log n j h l = add-one j ∙ width_is n j (omega (arith, pow-suc 10 j)) l

pub width_le : (n k : ℕ) → n < 10 ^ suc k → width n ≤ suc k
unfolding width
width_le n k h = suc-le-suc (least_under (λ (j : ℕ). ltb n (10 ^ suc j)) n k (lt-ltb n (10 ^ suc k) h))

pub length_decimal : (n : ℕ) → length (decimal n) ≡ width n
unfolding decimal
length_decimal n = length_digits (width n) n

-- ---- the first and the last of a number's digits
pub digits_split : (a b n : ℕ) → ending_digits (a + b) n ≡ ending_digits a (n / 10 ^ b) ++ ending_digits b n
unfolding ending_digits
digits_split a zero n = (λ i. ending_digits (add-zero a i) (sym (div-one n) i)) ∙ sym (append-nil (ending_digits a (n / 10 ^ 0)))
digits_split a (suc b) n =
    let e : n / 10 / 10 ^ b ≡ n / 10 ^ suc b = div-div-eq-div-mul n 10 (10 ^ b) ∙ ap (λ (z : ℕ). n / z) (mul_comm 10 (10 ^ b) ∙ sym (pow-suc 10 b)) in
    ap (λ (z : ℕ). ending_digits z n) (add-suc a b)
    ∙ ap (λ (l : List ℕ). l ++ ((48 + n % 10) ∷ [])) (digits_split a b (n / 10) ∙ ap (λ (z : ℕ). ending_digits a z ++ ending_digits b (n / 10)) e)
    ∙ append_assoc (ending_digits a (n / 10 ^ suc b)) (ending_digits b (n / 10)) ((48 + n % 10) ∷ [])

pub digits-take : (i q n : ℕ) → take q (ending_digits (i + q) n) ≡ ending_digits q (n / 10 ^ i)
digits-take i q n = ap (λ (z : ℕ). take q (ending_digits z n)) (add_comm i q) ∙ ap (take q) (digits_split q i n) ∙ take_at (ending_digits q (n / 10 ^ i)) (ending_digits i n) q (length_digits q (n / 10 ^ i))

module _ (d : List ℕ) (j m : ℕ) (e : take (suc j) d ≡ ending_digits (suc j) m) where
  pub last_digit : get_or d j 0 ≡ 48 + m % 10
  unfolding ending_digits
  last_digit = sym (get_or-take (suc j) d j 0 (le_refl (suc j))) ∙ ap (λ (l : List ℕ). get_or l j 0) e ∙ get_or_at (ending_digits j (m / 10)) (48 + m % 10) [] 0 j (length_digits j (m / 10))

  pub front-digits : take j d ≡ ending_digits j (m / 10)
  unfolding ending_digits
  front-digits = sym (take-take j (suc j) d (omega arith)) ∙ ap (take j) e ∙ take_at (ending_digits j (m / 10)) ((48 + m % 10) ∷ []) j (length_digits j (m / 10))

-- the digit at q of nine
pub digit_at : (x q : ℕ) → q < 9 → get_or (ending_digits 9 x) q 0 ≡ 48 + x / 10 ^ (8 - q) % 10
digit_at x q h = let e : 8 - q + suc q ≡ 9 = omega arith in rw e at (last_digit (ending_digits (8 - q + suc q) x) q (x / 10 ^ (8 - q)) (digits-take (8 - q) (suc q) x))

-- the last q digits do not see what stands before them
pub digits_low : (q n m : ℕ) → ending_digits q (n * 10 ^ q + m) ≡ ending_digits q m
unfolding ending_digits
digits_low zero n m = refl
digits_low (suc q) n m =
    let w : n * 10 ^ suc q ≡ n * 10 ^ q * 10 = ap (λ (z : ℕ). n * z) (pow-suc 10 q) ∙ sym (mul_assoc n (10 ^ q) 10) in
    let d : (n * 10 ^ suc q + m) / 10 ≡ n * 10 ^ q + m / 10 = omega arith in
    let r : (n * 10 ^ suc q + m) % 10 ≡ m % 10 = omega arith in
    rw (d, r, digits_low q n (m / 10))

-- a number in two parts
pub two_parts : (n k : ℕ) {a b : ℕ} {ys zs : List ℕ} → 10 ≤ k → a ≡ k - 10 → b ≡ 10 → ys ≡ ending_digits a (n / 10 ^ 10) → zs ≡ ending_digits b (n % 10 ^ 10) → ys ++ zs ≡ ending_digits k n
two_parts n k h e f y z =
    let g : k - 10 + 10 ≡ k = omega arith in
    let w : n / 10 ^ 10 * 10 ^ 10 + n % 10 ^ 10 ≡ n = omega arith in
    (λ i. (y ∙ ap (λ (j : ℕ). ending_digits j (n / 10 ^ 10)) e) i ++ (z ∙ ap (λ (j : ℕ). ending_digits j (n % 10 ^ 10)) f) i)
    ∙ ap (λ (l : List ℕ). ending_digits (k - 10) (n / 10 ^ 10) ++ l) (sym (digits_low 10 (n / 10 ^ 10) (n % 10 ^ 10)) ∙ ap (ending_digits 10) w)
    ∙ sym (digits_split (k - 10) 10 n)
    ∙ ap (λ (z : ℕ). ending_digits z n) g

-- a multiple of 10 ^ b ends in b zeros
pub digits-zeros : (a b y : ℕ) → ending_digits (a + b) (y * 10 ^ b) ≡ ending_digits a y ++ times b 48
unfolding ending_digits times
digits-zeros a zero y = (λ i. ending_digits (add-zero a i) (one y i)) ∙ sym (append-nil (ending_digits a y))
  where
    one : (y : ℕ) → y * 10 ^ 0 ≡ y
    one y = omega arith
digits-zeros a (suc b) y =
    let w : y * 10 ^ suc b ≡ y * 10 ^ b * 10 = ap (λ (z : ℕ). y * z) (pow-suc 10 b) ∙ sym (mul_assoc y (10 ^ b) 10) in
    let d : y * 10 ^ suc b / 10 ≡ y * 10 ^ b = omega arith in
    let r : 48 + y * 10 ^ suc b % 10 ≡ 48 = omega arith in
    ap (λ (z : ℕ). ending_digits z (y * 10 ^ suc b)) (add-suc a b)
    ∙ (λ i. ending_digits (a + b) (d i) ++ (r i ∷ []))
    ∙ ap (λ (l : List ℕ). l ++ (48 ∷ [])) (digits-zeros a b y)
    ∙ append_assoc (ending_digits a y) (times b 48) (48 ∷ [])
    ∙ ap (λ (l : List ℕ). ending_digits a y ++ l) (replicate-append-replicate b 1 48 ∙ ap (λ (z : ℕ). times z 48) (add-one b))
