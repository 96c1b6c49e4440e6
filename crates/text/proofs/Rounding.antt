-- Rounding n and x billionths to q digits: by the digits of x alone, and with a carry. Assumes nothing.
use Rattle.std.proofs.Common.{◌≡◌, refl, sym, ap, ◌∙◌, ℕ, zero, suc, ◌+◌, ◌-◌, ◌*◌, ◌/◌, ◌%◌, ◌^◌, ◌≤◌, ◌<◌, Bool, true, false, eqb, List, ◌++◌, length, take, drop, get_or, arith, take_at, pow-suc, mul_comm, mul_assoc, mul-le-mul_right, mod-lt, add_comm, add_assoc, add-zero, div-lt_iff_lt-mul}
use Rattle.std.proofs.Math.Arith.{mod-mul}
use Rattle.std.proofs.Math.Nat.{add-mul-div_right, mul-add-mod_self_right, div-eq_of_lt}
use Prim.Native.Nat.{compare}
use Rattle.std.specs.Int.{from_bool}
use lib.Ieee.{nearest}
use Rattle.laws.proofs.Closest.{at_lt, at_eq, at_gt}
use Rattle.text.specs.declared.fraction.Fraction.{Fraction}
use Rattle.text.specs.declared.round.Rounded.{Rounded}
use Rattle.text.specs.Digits.{ending_digits}
use Rattle.text.specs.Parts.{IsFraction, nearest_to, Bumps, Rounds}
use Rattle.text.proofs.Decimals.{ten_pos, length_digits, digits-take, digit_at, digits_low}
use Rattle.text.proofs.Places.{tens, exact_from, exact_past}

-- what is kept of x, and that it has q digits
pub kept-lt : (x q : ℕ) → q ≤ 9 → x < 10 ^ 9 → x / 10 ^ (9 - q) < 10 ^ q
kept-lt x q h s = let e : q + (9 - q) ≡ 9 = omega arith in (div-lt_iff_lt-mul (ten_pos (9 - q))).1 (rw (tens q (9 - q) 9 e) at s)

-- n * 10 ^ q + y over 10 ^ q
pub whole_of : (n y q : ℕ) → (n * 10 ^ q + y) / 10 ^ q ≡ n + y / 10 ^ q
whole_of n y q = ap (λ (z : ℕ). z / 10 ^ q) (add_comm (n * 10 ^ q) y) ∙ add-mul-div_right y n (ten_pos q) ∙ add_comm (y / 10 ^ q) n

-- an odd number's remainder, as a test gives it
is_odd : (m : ℕ) → from_bool (eqb (m % 2) 1) ≡ m % 2
is_odd m = go (m % 2) (omega arith)
  where
    go : (r : ℕ) → r < 2 → from_bool (eqb r 1) ≡ r
    go zero h = refl
    go (suc zero) h = refl
    go (suc (suc r)) h = absurd (omega arith)

-- n and x billionths to q digits, rounded down
abbrev pub kept : ℕ → ℕ → ℕ → ℕ
kept n x q = n * 10 ^ q + x / 10 ^ (9 - q)

module _ (n x q : ℕ) (h : q ≤ 9) where
  parts : n * 10 ^ 9 + x ≡ n * 10 ^ q * 10 ^ (9 - q) + x
  parts = let e : q + (9 - q) ≡ 9 = omega arith in ap (λ (z : ℕ). n * z + x) (tens q (9 - q) 9 e) ∙ ap (λ (z : ℕ). z + x) (sym (mul_assoc n (10 ^ q) (10 ^ (9 - q))))

  quotient : (n * 10 ^ 9 + x) / 10 ^ (9 - q) ≡ kept n x q
  quotient = ap (λ (z : ℕ). z / 10 ^ (9 - q)) (parts ∙ add_comm (n * 10 ^ q * 10 ^ (9 - q)) x) ∙ add-mul-div_right x (n * 10 ^ q) (ten_pos (9 - q)) ∙ add_comm (x / 10 ^ (9 - q)) (n * 10 ^ q)

  remainder : (n * 10 ^ 9 + x) % 10 ^ (9 - q) ≡ x % 10 ^ (9 - q)
  remainder = ap (λ (z : ℕ). z % 10 ^ (9 - q)) parts ∙ mul-add-mod_self_right (n * 10 ^ q) (10 ^ (9 - q)) x

  nearest_is : nearest_to q n x ≡ nearest (kept n x q) (compare (x % 10 ^ (9 - q) * 2) (10 ^ (9 - q)))
  unfolding nearest_to
  nearest_is = λ i. nearest (quotient i) (compare (remainder i * 2) (10 ^ (9 - q)))

  -- below a half, above it, and a tie
  pub down : x % 10 ^ (9 - q) * 2 < 10 ^ (9 - q) → kept n x q + 0 ≡ nearest_to q n x
  down l = add-zero (kept n x q) ∙ sym (nearest_is ∙ at_lt (kept n x q) (x % 10 ^ (9 - q) * 2) (10 ^ (9 - q)) l)

  pub up : 10 ^ (9 - q) < x % 10 ^ (9 - q) * 2 → kept n x q + 1 ≡ nearest_to q n x
  up l = sym (nearest_is ∙ at_gt (kept n x q) (x % 10 ^ (9 - q) * 2) (10 ^ (9 - q)) l)

  pub tie : x % 10 ^ (9 - q) * 2 ≡ 10 ^ (9 - q) → kept n x q + kept n x q % 2 ≡ nearest_to q n x
  tie l = sym (nearest_is ∙ at_eq (kept n x q) (x % 10 ^ (9 - q) * 2) (10 ^ (9 - q)) l)

-- ---- by the digit at q, and whether any after it is in use
module _ (n x q : ℕ) (h : q < 9) {f : Fraction} (s : IsFraction x f) where
  le : q ≤ 9
  le = omega arith

  digit : (j : ℕ) → j < 9 → get_or f.digits j 0 ≡ 48 + x / 10 ^ (8 - j) % 10
  digit j l = ap (λ (d : List ℕ). get_or d j 0) s.digits ∙ digit_at x j l

  unit : 10 ^ (9 - q) ≡ 10 * 10 ^ (8 - q)
  unit = let e : 9 - q ≡ suc (8 - q) = omega arith in rw e (pow-suc 10 (8 - q) ∙ mul_comm (10 ^ (8 - q)) 10)

  rest : x % 10 ^ (9 - q) ≡ x / 10 ^ (8 - q) % 10 * 10 ^ (8 - q) + x % 10 ^ (8 - q)
  rest = ap (λ (z : ℕ). x % z) unit ∙ mod-mul x (omega arith) (ten_pos (8 - q))

  pub by_none : f.count ≤ q → kept n x q + 0 ≡ nearest_to q n x
  by_none c = down n x q le (omega (arith, exact_from x q le (omega (arith, s.count)), ten_pos (9 - q)))

  pub by_low : get_or f.digits q 0 < 53 → kept n x q + 0 ≡ nearest_to q n x
  by_low d =
      let few : x / 10 ^ (8 - q) % 10 ≤ 4 = omega (arith, digit q h) in
      down n x q le (omega (arith, unit, rest, mul-le-mul_right (10 ^ (8 - q)) few, mod-lt x (ten_pos (8 - q))))

  pub by_high : 53 < get_or f.digits q 0 → kept n x q + 1 ≡ nearest_to q n x
  by_high d =
      let many : 6 ≤ x / 10 ^ (8 - q) % 10 = omega (arith, digit q h) in
      up n x q le (omega (arith, unit, rest, mul-le-mul_right (10 ^ (8 - q)) many, ten_pos (8 - q)))

  -- where the digit is a five, or more
  module _ (d : 53 ≤ get_or f.digits q 0) where
    five : 5 ≤ x / 10 ^ (8 - q) % 10
    five = omega (arith, digit q h)

    next : 9 - (q + 1) ≡ 8 - q
    next = omega arith

    pub by_more : q + 1 < f.count → kept n x q + 1 ≡ nearest_to q n x
    by_more c =
        let some : x % 10 ^ (8 - q) ≡ 0 → ⊥ = rw next at (exact_past x (q + 1) (omega arith) (omega (arith, s.count))) in
        up n x q le (omega (arith, unit, rest, mul-le-mul_right (10 ^ (8 - q)) five, some))

    tied : get_or f.digits q 0 ≤ 53 → f.count ≤ q + 1 → kept n x q + kept n x q % 2 ≡ nearest_to q n x
    tied u c =
        let none : x % 10 ^ (8 - q) ≡ 0 = rw next at (exact_from x (q + 1) (omega arith) (omega (arith, s.count))) in
        let just : x / 10 ^ (8 - q) % 10 ≡ 5 = omega (arith, digit q h) in
        let half : x % 10 ^ (9 - q) ≡ 5 * 10 ^ (8 - q) + x % 10 ^ (8 - q) = rest ∙ ap (λ (z : ℕ). z * 10 ^ (8 - q) + x % 10 ^ (8 - q)) just in
        tie n x q le (omega (arith, unit, half))

    pub by_whole : q ≡ 0 → x < 10 ^ 9 → get_or f.digits q 0 ≤ 53 → f.count ≤ q + 1 → kept n x q + from_bool (eqb (n % 2) 1) ≡ nearest_to q n x
    by_whole z l u c =
        let e : (n * 10 ^ q + x / 10 ^ (9 - q)) % 2 ≡ n % 2 = rw z (omega arith) in
        ap (λ (y : ℕ). kept n x q + y) (is_odd n ∙ sym e) ∙ tied u c

    pub by_last : 0 < q → get_or f.digits q 0 ≤ 53 → f.count ≤ q + 1 → kept n x q + from_bool (eqb (get_or f.digits (q - 1) 0 % 2) 1) ≡ nearest_to q n x
    by_last p u c =
        let a : 8 - (q - 1) ≡ 9 - q = omega arith in
        let b : get_or f.digits (q - 1) 0 ≡ 48 + x / 10 ^ (9 - q) % 10 = rw a at (digit (q - 1) (omega arith)) in
        let j : q ≡ suc (q - 1) = omega arith in
        let w : n * 10 ^ q ≡ n * 10 ^ (q - 1) * 10 = ap (λ (z : ℕ). n * 10 ^ z) j ∙ ap (λ (z : ℕ). n * z) (pow-suc 10 (q - 1)) ∙ sym (mul_assoc n (10 ^ (q - 1)) 10) in
        let e : get_or f.digits (q - 1) 0 % 2 ≡ (n * 10 ^ q + x / 10 ^ (9 - q)) % 2 = omega arith in
        ap (λ (y : ℕ). kept n x q + y) (is_odd (get_or f.digits (q - 1) 0) ∙ e) ∙ tied u c

-- ---- the two ways of the rounding step
module _ (n x q : ℕ) (h : q < 9) (l : x < 10 ^ 9) {f : Fraction} (s : IsFraction x f) where
  first : take q f.digits ≡ ending_digits q (x / 10 ^ (9 - q))
  first = let a : 9 - q + q ≡ 9 = omega arith in ap (take q) s.digits ∙ rw a at (digits-take (9 - q) q x)

  module _ {r : Rounded} (k : r.fraction.count ≡ q) where
    -- y is what is kept of x, with what rounding adds
    rounds : (y : ℕ) → n * 10 ^ q + y ≡ nearest_to q n x → take q r.fraction.digits ≡ ending_digits q y → from_bool r.carry ≡ y / 10 ^ q → Rounds n x q r
    rounds y m t c = record {
      count = k;
      digits = t ∙ sym (digits_low q n y) ∙ ap (ending_digits q) m;
      whole = ap (λ (z : ℕ). n + z) c ∙ sym (whole_of n y q) ∙ ap (λ (z : ℕ). z / 10 ^ q) m;
    }

    module _ {u : Bool} (e : kept n x q + from_bool u ≡ nearest_to q n x) where
      pub stays : u ≡ false → r.fraction.digits ≡ f.digits → r.carry ≡ u → Rounds n x q r
      stays a d c = rounds (x / 10 ^ (9 - q)) (sym (add-zero (kept n x q)) ∙ ap (λ (b : Bool). kept n x q + from_bool b) (sym a) ∙ e) (ap (take q) d ∙ first) (ap from_bool (c ∙ a) ∙ sym (div-eq_of_lt (kept-lt x q (omega arith) l)))

      pub goes : u ≡ true → {b : List ℕ} {v : Bool} → Bumps (take q f.digits) b v → r.fraction.digits ≡ b ++ drop q f.digits → r.carry ≡ v → Rounds n x q r
      goes a {b} {v} p d c =
          rounds (y + 1) (sym (add_assoc (n * 10 ^ q) y 1) ∙ ap (λ (b : Bool). kept n x q + from_bool b) (sym a) ∙ e)
          (ap (take q) (d ∙ ap (λ (z : List ℕ). z ++ drop q f.digits) up.0) ∙ take_at (ending_digits q (y + 1)) (drop q f.digits) q (length_digits q (y + 1)))
          (ap from_bool c ∙ up.1)
        where
          y : ℕ
          y = x / 10 ^ (9 - q)

          len : length (take q f.digits) ≡ q
          len = ap length first ∙ length_digits q y

          up : (b ≡ ending_digits q (y + 1)) × (from_bool v ≡ (y + 1) / 10 ^ q)
          up = (rw len at p) y (kept-lt x q (omega arith) l) first
