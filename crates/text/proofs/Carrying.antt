-- One added to a number by its digits, from the last to the first. Assumes nothing.
use Rattle.std.proofs.Common.{◌≡◌, refl, sym, ap, ◌∙◌, List, ◌++◌, ℕ, zero, suc, ◌+◌, ◌-◌, ◌*◌, ◌/◌, ◌%◌, ◌^◌, ◌≤◌, ◌<◌, not-suc-le-zero, pow-suc, le_refl, arith, length, take, drop, set, get_or, length-set, take-append-drop, take_all, length-take-le}
use Rattle.std.proofs.Math.Nat.{mul-div-mul_right, div-eq_of_lt}
use Rattle.std.proofs.Math.Seq.{take-set-le}
use Rattle.laws.specs.Written.{splice}
use Rattle.laws.proofs.Written.{splice_is}
use Rattle.text.specs.Digits.{ending_digits}
use Rattle.text.proofs.Decimals.{digit_last, all_digits, last_digit, front-digits}

-- to write what stands there already changes nothing
splice_self : (d : List ℕ) (j : ℕ) → j ≤ length d → splice d 0 (take j d) ≡ d
splice_self d j h =
    let e : length (take j d) ≡ j = length-take-le j d h in
    let f : 0 + length (take j d) ≡ j = omega arith in
    splice_is d 0 (take j d) (omega arith) ∙ ap (λ (k : ℕ). take j d ++ drop k d) f ∙ take-append-drop j d

-- d is on the way to n + 1 in p digits: the first i are those of m, and m + 1 in their place gives the whole
pub record Carrying (p n : ℕ) (d : List ℕ) (i : ℕ) : Type 0 where
  pub m : ℕ
  pub short : m < 10 ^ i
  pub front : take i d ≡ ending_digits i m
  pub goal : splice d 0 (ending_digits i (m + 1)) ≡ ending_digits p (n + 1)
  pub over : (m + 1) / 10 ^ i ≡ (n + 1) / 10 ^ p

module _ (p n : ℕ) where
  pub carry_start : {d : List ℕ} → length d ≡ p → n < 10 ^ p → d ≡ ending_digits p n → Carrying p n d p
  carry_start {d} l h e = record { m = n; short = h; front = take_all p d (omega arith) ∙ e; goal = all_digits d (n + 1) (sym l); over = refl }

  -- a nine becomes a zero, and the carry goes on
  pub carry_step : (d : List ℕ) (i : ℕ) → Carrying p n d i → 0 < i → 57 ≤ get_or d (i - 1) 0 → Carrying p n (set d (i - 1) 48) (i - 1)
  carry_step d zero c h b = absurd (not-suc-le-zero h)
  carry_step d (suc j) c h b =
      let e : suc j - 1 ≡ j = omega arith in
      let m : ℕ = c.m in
      let nine : m % 10 ≡ 9 = omega (arith, rw e at b, last_digit d j m c.front) in
      let up : (m + 1) / 10 ≡ m / 10 + 1 = omega arith in
      let none : 48 + (m + 1) % 10 ≡ 48 = omega arith in
      let tens : m + 1 ≡ (m / 10 + 1) * 10 = omega arith in
      rw e record {
        m = m / 10;
        short = omega (arith, c.short, pow-suc 10 j);
        front = take-set-le j d j 48 (le_refl j) ∙ front-digits d j m c.front;
        goal = (λ k. splice (set d j (sym none k)) 0 (ending_digits j (sym up k))) ∙ digit_last d j (m + 1) ∙ c.goal;
        over = sym (mul-div-mul_right (m / 10 + 1) (10 ^ j) (omega arith)) ∙ (λ k. sym tens k / sym (pow-suc 10 j) k) ∙ c.over;
      }

  -- any other digit takes the one, and nothing is carried
  pub carry_stop : (d : List ℕ) (i : ℕ) → Carrying p n d i → 0 < i → i ≤ length d → get_or d (i - 1) 0 < 57
      → (set d (i - 1) (get_or d (i - 1) 0 + 1) ≡ ending_digits p (n + 1)) × (0 ≡ (n + 1) / 10 ^ p)
  carry_stop d zero c h l b = absurd (not-suc-le-zero h)
  carry_stop d (suc j) c h l b =
      let e : suc j - 1 ≡ j = omega arith in
      let m : ℕ = c.m in
      let at : get_or d j 0 ≡ 48 + m % 10 = last_digit d j m c.front in
      let less : m % 10 < 9 = omega (arith, rw e at b) in
      let same : (m + 1) / 10 ≡ m / 10 = omega arith in
      let one : get_or d j 0 + 1 ≡ 48 + (m + 1) % 10 = omega arith in
      let v : ℕ = 48 + (m + 1) % 10 in
      let f : take j (set d j v) ≡ ending_digits j (m / 10) = take-set-le j d j v (le_refl j) ∙ front-digits d j m c.front in
      rw e (
        ap (set d j) one ∙ sym (splice_self (set d j v) j (simp length-set (omega arith))) ∙ ap (splice (set d j v) 0) f
            ∙ (λ k. splice (set d j v) 0 (ending_digits j (sym same k))) ∙ digit_last d j (m + 1) ∙ c.goal,
        sym (div-eq_of_lt (omega (arith, c.short, pow-suc 10 j))) ∙ c.over,
      )

  -- all were nines
  pub carry_end : (d : List ℕ) (i : ℕ) → Carrying p n d i → i ≤ 0 → (d ≡ ending_digits p (n + 1)) × (1 ≡ (n + 1) / 10 ^ p)
  unfolding ending_digits splice
  carry_end d zero c h = let z : c.m ≡ 0 = omega (arith, c.short) in (c.goal, (λ k. (sym z k + 1) / 10 ^ 0) ∙ c.over)
  carry_end d (suc i) c h = absurd (not-suc-le-zero h)
