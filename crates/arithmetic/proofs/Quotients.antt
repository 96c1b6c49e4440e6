-- Laws of quotients: one of k equal shares by its parts, and a quotient by the upper parts of both, at most 1 too small. Assumes nothing.
use Rattle.std.specs.Prelude.{◌≡◌, ℕ, ◌+◌, ◌*◌, ◌-◌, ◌/◌, ◌%◌, ◌^◌, ◌<◌, ◌≤◌, Ok}
use Rattle.std.proofs.Common.{arith, sym}
use Rattle.std.proofs.Math.Nat.{div-add-mod', div-lt_iff_lt-mul, div-le_self, div-eq_of_lt, div-eq_of_lt-le, mod-lt, mul-le-mul_left}
use Rattle.duration.specs.Meaning.{exact}
use Rattle.duration.proofs.Exact.{exact_is}

-- a share of a duration: the seconds that are left over are divided as nanoseconds
pub share_is : (s n k : ℕ) → 0 < k → s < 2 ^ 64 → n < 10 ^ 9 → Ok (record { secs = s / k; nanos = (s % k * 10 ^ 9 + n) / k }) ≡ exact ((s * 10 ^ 9 + n) / k)
share_is s n k some word below =
    let left = s % k * 10 ^ 9 + n in
    let few : left / k < 10 ^ 9 = (div-lt_iff_lt-mul some).1 (omega (arith, mod-lt s some)) in
    let whole = div-add-mod' s k in
    let rest = div-add-mod' left k in
    let over = mod-lt left some in
    exact_is (omega (arith, div-le_self s k)) few (sym (div-eq_of_lt-le k (omega (arith, whole, rest)) (omega (arith, whole, rest, over))))

-- ---- the quotient of two counts by what they have above their last 31 bits, where the divisor has two words
module _ (n d : ℕ) (few : n < 2 ^ 65 * 10 ^ 9) (long : 2 ^ 64 ≤ d) where
  -- the divisor's upper part, rounded up
  abbrev m : ℕ
  m = d / 2 ^ 31 + 1

  abbrev q : ℕ
  q = n / 2 ^ 31 / m

  q_lt : q < 2 ^ 31
  q_lt = (div-lt_iff_lt-mul {k = m} {x = n / 2 ^ 31} {y = 2 ^ 31} (omega arith)).1 (omega arith)

  pub not_above : q * d ≤ n
  not_above =
      let above : d ≤ m * 2 ^ 31 = omega arith in
      omega (arith, div-add-mod' (n / 2 ^ 31) m, mul-le-mul_left q above)

  near : n < q * d + d * 2
  near =
      let below : d / 2 ^ 31 * 2 ^ 31 ≤ d = omega arith in
      let left : n / 2 ^ 31 % m < m = mod-lt (n / 2 ^ 31) {m = m} (omega arith) in
      omega (arith, div-add-mod' (n / 2 ^ 31) m, mul-le-mul_left q below, q_lt)

  pub as_it_is : n - q * d < d → q ≡ n / d
  as_it_is h = sym (div-eq_of_lt-le d not_above (omega (arith, not_above)))

  pub one_more : d ≤ n - q * d → q + 1 ≡ n / d
  one_more h = sym (div-eq_of_lt-le d (omega (arith, not_above)) (omega (arith, near)))

-- a number of one word holds none of two
pub none : (n d : ℕ) → n < 2 ^ 64 → 2 ^ 64 ≤ d → 0 ≡ n / d
none n d short long = sym (div-eq_of_lt (omega arith))

-- ---- a quotient rounded up, from the one rounded down
pub nothing_left : (n d : ℕ) → 0 < d → n ≤ n / d * d → n / d ≡ (n + (d - 1)) / d
nothing_left n d some h = sym (div-eq_of_lt-le d (omega (arith, div-add-mod' n d)) (omega (arith, h)))

pub something_left : (n d : ℕ) → 0 < d → n / d * d < n → n / d + 1 ≡ (n + (d - 1)) / d
something_left n d some h = sym (div-eq_of_lt-le d (omega (arith, h)) (omega (arith, div-add-mod' n d, mod-lt n some)))

pub one_part : (n d : ℕ) → 0 < n → n < d → 1 ≡ (n + (d - 1)) / d
one_part n d some h = sym (div-eq_of_lt-le d (omega arith) (omega arith))

pub no_part : (n d : ℕ) → n ≤ 0 → 0 < d → 0 ≡ (n + (d - 1)) / d
no_part n d none some = sym (div-eq_of_lt (omega arith))
