-- Demand 3: the distance, the return trip under 2 ^ 23 s, the distance of what comes back from there on, and where it is refused. Assumes nothing.
use Rattle.std.proofs.Common.{◌≡◌, refl, sym, ap, ◌∙◌, subst, true, false, true≢false, inl, inr, ℕ, ◌+◌, ◌-◌, ◌*◌, ◌/◌, ◌%◌, ◌^◌, ◌≤◌, ◌<◌, le_trans, le_of_eq, lt_of_lt_of_le, lt_of_le_of_lt, mul_assoc, mul_comm, mul_left_comm, mul_right_comm, mul-le-mul_left, mul-le-mul_right, mul-lt-mul_of_pos_right, mul-pos, le_of_mul-le-mul_right, zero-mul, add-mul, suc-mul, mul-add, mul-div_cancel, div-add-mod', le_refl, add-lt-add_of_le_of_lt, arith, pos, lit≤, lit<, pow_pos, le-ltb, Ok}
use native.Mathlib.Nat.{mul-mul-mul_comm}
use lib.Ieee.{Float, nan, inf, fin, binary64, up, down, size, lt}
use lib.Ieee.Exact.{HasValue}
use lib.Ieee.Nearest.{closest}
use lib.Ieee.Scale.{grid, overflow}
use Rattle.laws.proofs.Closest.{le_or_lt, closest_error, closest_is, closest_le}
use Rattle.duration.specs.declared.Duration.{Duration}
use Rattle.duration.specs.Meaning.{N, most, of_nanos, exact}
use Rattle.duration.proofs.Exact.{exact_is, exact-nanos}
use Rattle.seconds.specs.Out.{seconds_as, whole}
use Rattle.seconds.specs.From.{of_fraction, from_seconds}
use Rattle.seconds.proofs.Fraction.{over, within}
use Rattle.seconds.proofs.Fields.{size_is, not_below}
use Rattle.seconds.proofs.Operations.{whole_val, crosswise}
use Rattle.bounds.specs.Distance.{apart, IsDuration}
use Rattle.bounds.specs.Trip.{Back, EveryTrip}
use Rattle.bounds.proofs.Rounded.{apart_le}
use Rattle.bounds.proofs.Own.{own, own_near}
use Rattle.bounds.proofs.Grid.{Near, in_range, grid_mono, absolute}
use Rattle.bounds.proofs.Parts.{scaled, of_tame, units_are, l, S, Q, R, Q_near, sum_near, R_near, secs_value, seconds-value, sum_moderate}

-- ---- two roundings to 53 digits are within one part in 2 ^ 52
upper : (y t x a b d : ℕ) → 0 < b → d * a ≤ b * b → y * b ≤ t * d → t * b ≤ x * d → y * a ≤ x * d
upper y t x a b d B q h k =
    le_of_mul-le-mul_right {k = b * b}
    (le_trans (le_of_eq (simp (mul_assoc, mul_comm, mul_left_comm)))
    (le_trans (mul-le-mul_right (b * a) h)
    (le_trans (le_of_eq (mul-mul-mul_comm t d b a)) (le_trans (mul-le-mul_right (d * a) k) (mul-le-mul_left (x * d) q)))))
    (mul-pos B B)

lower : (x t y a b z : ℕ) → 0 < b → z * (b * b) ≤ a * a * a → x * a ≤ t * b → t * a ≤ y * b → x * z ≤ y * a
lower x t y a b z B q h k =
    le_of_mul-le-mul_right {k = b * b}
    (le_trans (le_of_eq (mul_assoc x z (b * b)))
    (le_trans (mul-le-mul_left x q)
    (le_trans (le_of_eq (one x a))
    (le_trans (mul-le-mul_right (a * a) h)
    (le_trans (le_of_eq (mul-mul-mul_comm t b a a)) (le_trans (mul-le-mul_right (b * a) k) (le_of_eq (crosswise y b b a))))))))
    (mul-pos B B)
  where
    one : (x a : ℕ) → x * (a * a * a) ≡ x * a * (a * a)
    one x a = simp (mul_assoc, mul_comm, mul_left_comm)

twice : (x t y : ℕ) → Near (2 ^ 53) x t → Near (2 ^ 53) t y → (y * 2 ^ 52 ≤ x * 2 ^ 52 + x) × (x * 2 ^ 52 ≤ y * 2 ^ 52 + x)
twice x t y h k =
    (done (upper y t x (2 ^ 53) (2 ^ 53 + 1) (2 ^ 53 + 2) (lit< tt) (lit≤ tt) k.top h.top), also (lower x t y (2 ^ 53) (2 ^ 53 + 1) (2 ^ 53 - 2) (lit< tt) (lit≤ tt) h.bottom k.bottom))
  where
    done : y * 2 ^ 53 ≤ x * (2 ^ 53 + 2) → y * 2 ^ 52 ≤ x * 2 ^ 52 + x
    done u = omega arith

    also : x * (2 ^ 53 - 2) ≤ y * 2 ^ 53 → x * 2 ^ 52 ≤ y * 2 ^ 52 + x
    also l = omega arith

-- ---- back from a value that is not negative
not_negative : (x : Float) (a c : ℕ) → HasValue x false a c → lt x (fin false 0 (pos 0)) ≡ false
unfolding lt
not_negative nan a c h = absurd h
not_negative (inf s) a c h = absurd h
not_negative (fin true m e) a c h = absurd (true≢false h.0)
not_negative (fin false m e) a c h = le-ltb (m * up e * 1) (0 * down e) (go (m * up e * 1) (zero-mul (down e)))
  where
    go : (x : ℕ) → 0 * down e ≡ 0 → 0 * down e ≤ x
    go x z = omega arith

by_value : (x : Float) (a c : ℕ) → 0 < c → HasValue x false a c → from_seconds x ≡ of_fraction a c
by_value x a c C h = not_below x (not_negative x a c h) ∙ size_is x false a c C h

-- ---- a value that is off by one rounding, in other measures
by : (p x y w : ℕ) → y ≡ x + w → y * (p + 1) ≤ x * (p + 2) → w * p ≤ x
by p x y w e h = omega (arith, mul-add y p 1, mul-add x p 2, ap (λ (z : ℕ). z * p) e ∙ add-mul x w p)

by' : (p x y w : ℕ) → x ≡ y + w → x * p ≤ y * (p + 1) → w * p ≤ x
by' p x y w e h = omega (arith, mul-add y p 1, ap (λ (z : ℕ). z * p) e ∙ add-mul y w p)

none : (p x w : ℕ) → w ≡ 0 → w * p ≤ x
none p x w e = rw (e, zero-mul p) (omega arith)

over_by : (p x y : ℕ) → y * (p + 1) ≤ x * (p + 2) → (y - x) * p ≤ x
over_by p x y g = elim (le_or_lt x y) [
  | inl h ↦ by p x y (y - x) (omega arith) g
  | inr h ↦ none p x (y - x) (omega arith)
]

under_by : (p x y : ℕ) → x * p ≤ y * (p + 1) → (x - y) * p ≤ x
under_by p x y g = elim (le_or_lt y x) [
  | inl h ↦ by' p x y (x - y) (omega arith) g
  | inr h ↦ none p x (x - y) (omega arith)
]

little : (w x l : ℕ) → w * 2 ^ 53 ≤ x → x < 10 ^ 9 * l → w * 2 ^ 20 ≤ l
little w x l g k = omega arith

spread : (x y l : ℕ) → (y - x) * 2 ^ 20 ≤ l → y * 2 ^ 20 ≤ x * 2 ^ 20 + l
spread x y l h = omega arith

finer : (x y l : ℕ) → Near (2 ^ 53) x y → x < 10 ^ 9 * l → (y * 2 ^ 20 ≤ x * 2 ^ 20 + l) × (x * 2 ^ 20 ≤ y * 2 ^ 20 + l)
finer x y l h k = (spread x y l (little (y - x) x l (over_by (2 ^ 53) x y h.top) k), spread y x l (little (x - y) x l (under_by (2 ^ 53) x y h.bottom) k))

-- g is the last place of the sum, and 2 ^ 30 * g a second; the nanoseconds are off by less than half of one
half_off : (a b g q r : ℕ) → 0 < g → (r * 2 ≤ (a + q) * 2 + g) × ((a + q) * 2 ≤ r * 2 + g) → (q * 10 ^ 9 * 2 ^ 20 ≤ b * 2 ^ 20 + g * 2 ^ 30) × (b * 2 ^ 20 ≤ q * 10 ^ 9 * 2 ^ 20 + g * 2 ^ 30)
    → (r * 10 ^ 9 * 2 < (a * 10 ^ 9 + b) * 2 + g * 2 ^ 30) × ((a * 10 ^ 9 + b) * 2 < r * 10 ^ 9 * 2 + g * 2 ^ 30)
half_off a b g q r G h k = (omega arith, omega arith)

below_one : (n l q : ℕ) → 0 < l → n * l + l ≤ 10 ^ 9 * l → q * 10 ^ 9 * 2 ^ 20 ≤ n * l * 2 ^ 20 + l → q < l
below_one n l q L h k = omega arith

-- ---- the two numbers about which the refusal turns: 2 ^ 64 - 1024 lies half way, and goes to the even 2 ^ 64
half_way : grid binary64 (2 ^ 64 - 1024) 1 ≡ 2 ^ 64 * 2 ^ 1074
unfolding size
half_way = refl

just_under : grid binary64 (2 ^ 64 - 1025) 1 ≡ (2 ^ 64 - 2048) * 2 ^ 1074
unfolding size
just_under = refl

at_top : grid binary64 (2 ^ 64) 1 ≡ 2 ^ 64 * 2 ^ 1074
unfolding size
at_top = refl

word_range : (n : ℕ) → n ≤ 2 ^ 64 → grid binary64 n 1 < overflow binary64
word_range n h = in_range binary64 n 1 (lit< tt) (of_tame n 1 (record { top = omega arith; some = lit< tt; bottom = lit≤ tt }))

-- ---- the distance of the nearest nanosecond, in units: x of it, y of the float and z of the duration, to within m
coarse : (x y z m l : ℕ) → x * 2 ≤ y * 2 + l → y * 2 ^ 52 ≤ z * 2 ^ 52 + m → x * 2 ^ 53 ≤ z * 2 ^ 53 + (m * 2 + l * 2 ^ 52)
coarse x y z m l h k = omega arith

coarse' : (x y z m l : ℕ) → y * 2 ≤ x * 2 + l → z * 2 ^ 52 ≤ y * 2 ^ 52 + m → z * 2 ^ 53 ≤ x * 2 ^ 53 + (m * 2 + l * 2 ^ 52)
coarse' x y z m l h k = omega arith

-- and without the units
plain : (x z m l : ℕ) → 0 < l → x * l * 2 ^ 53 ≤ z * l * 2 ^ 53 + (m * l * 2 + l * 2 ^ 52) → x * 2 ^ 53 ≤ z * 2 ^ 53 + (m * 2 + 2 ^ 52)
plain x z m l L h = le_of_mul-le-mul_right (le_trans (le_of_eq (mul_right_comm x (2 ^ 53) l)) (le_trans h (le_of_eq (sym (parts z m l (2 ^ 53) (2 ^ 52)))))) L
  where
    parts : (z m l a b : ℕ) → (z * a + (m * 2 + b)) * l ≡ z * l * a + (m * l * 2 + l * b)
    parts z m l a b = add-mul (z * a) (m * 2 + b) l ∙ ap (λ (w : ℕ). w + (m * 2 + b) * l) (mul_right_comm z a l) ∙ ap (λ (w : ℕ). z * l * a + w) (add-mul (m * 2) b l ∙ ap (λ (w : ℕ). w + b * l) (mul_right_comm m 2 l) ∙ ap (λ (w : ℕ). m * l * 2 + w) (mul_comm b l))

module _ (d : Duration) (good : IsDuration d) where
  abbrev x : Float
  x = seconds_as binary64 d

  abbrev u : ℕ
  u = 2 ^ 1074

  U : 0 < u
  U = pow_pos 1074

  abbrev r : ℕ
  r = R d good

  abbrev M : ℕ
  M = (d.secs + 1) * 10 ^ 9

  Q_fine : (Q d good * 10 ^ 9 * 2 ^ 20 ≤ d.nanos * u * 2 ^ 20 + u) × (d.nanos * u * 2 ^ 20 ≤ Q d good * 10 ^ 9 * 2 ^ 20 + u)
  Q_fine = finer (d.nanos * u) (Q d good * 10 ^ 9) u (Q_near d good) (mul-lt-mul_of_pos_right good.1 U)

  Q_lt : Q d good < u
  Q_lt = below_one d.nanos u (Q d good) U (le_trans (le_of_eq (sym (suc-mul d.nanos u))) (mul-le-mul_right u good.1)) Q_fine.0

  -- ---- the distance
  in_units : (r * 10 ^ 9 * 2 ^ 52 ≤ N d * u * 2 ^ 52 + M * u) × (N d * u * 2 ^ 52 ≤ r * 10 ^ 9 * 2 ^ 52 + M * u)
  in_units =
      let t = twice (N d * u) ((S d good + Q d good) * 10 ^ 9) (r * 10 ^ 9) (sum_near d good) (scaled (2 ^ 53) (10 ^ 9) (S d good + Q d good) r (R_near d good)) in
      let m : N d * u ≤ M * u = mul-le-mul_right u top in
      (weaker (r * 10 ^ 9 * 2 ^ 52) (N d * u * 2 ^ 52) (N d * u) (M * u) m t.0, weaker (N d * u * 2 ^ 52) (r * 10 ^ 9 * 2 ^ 52) (N d * u) (M * u) m t.1)
    where
      top : N d ≤ M
      top = omega (arith, good.1)

      weaker : (y z m w : ℕ) → m ≤ w → y ≤ z + m → y ≤ z + w
      weaker y z m w h k = omega arith

  -- ---- under 2 ^ 64 - 1024 s
  module _ (under : d.secs < 2 ^ 64 - 1024) where
    S-le : S d good ≤ (2 ^ 64 - 2048) * u
    S-le = le_trans (grid_mono binary64 d.secs 1 (2 ^ 64 - 1025) 1 (lit< tt) (lit< tt) (omega arith) (word_range d.secs (omega arith)) (word_range (2 ^ 64 - 1025) (lit≤ tt))) (le_of_eq just_under)

    R-le : r ≤ (2 ^ 64 - 2048) * u
    R-le =
        le_trans (grid_mono binary64 (S d good + Q d good) u (2 ^ 64 - 1025) 1 U (lit< tt) (go (S d good) (Q d good) u S-le Q_lt) (in_range binary64 (S d good + Q d good) u U (sum_moderate d good)) (word_range (2 ^ 64 - 1025) (lit≤ tt)))
        (le_of_eq just_under)
      where
        go : (a q l : ℕ) → a ≤ (2 ^ 64 - 2048) * l → q < l → (a + q) * 1 ≤ (2 ^ 64 - 1025) * l
        go a q l h k = omega arith

    R-lt : r < 2 ^ 64 * u
    R-lt = go r u U R-le
      where
        go : (r l : ℕ) → 0 < l → r ≤ (2 ^ 64 - 2048) * l → r < 2 ^ 64 * l
        go r l L h = omega arith

    abbrev n : ℕ
    n = closest (r * 10 ^ 9) u

    n-le : n ≤ (2 ^ 64 - 2048) * 10 ^ 9 + 1
    n-le = closest_le (r * 10 ^ 9) u ((2 ^ 64 - 2048) * 10 ^ 9 + 1) U (go r u U R-le)
      where
        go : (r l : ℕ) → 0 < l → r ≤ (2 ^ 64 - 2048) * l → r * 10 ^ 9 < ((2 ^ 64 - 2048) * 10 ^ 9 + 1) * l
        go r l L h = omega arith

    n-most : n ≤ most
    n-most = le_trans n-le (lit≤ tt)

    close : apart n (N d) * 2 ^ 53 ≤ M * 2 + 2 ^ 52
    close =
        let e = closest_error (r * 10 ^ 9) u U in
        apart_le n (N d) (2 ^ 53) (M * 2 + 2 ^ 52)
        (plain n (N d) M u U (coarse (n * u) (r * 10 ^ 9) (N d * u) (M * u) u e.0 in_units.0))
        (plain (N d) n M u U (coarse' (n * u) (r * 10 ^ 9) (N d * u) (M * u) u e.1 in_units.1))

    returns : Back d (of_nanos n)
    returns = record {
      answer = by_value x r u U (seconds-value d good) ∙ within r u R-lt ∙ sym (exact-nanos n-most refl);
      sound = (secs-lt n n-most, nanos-lt n);
      near = subst (λ (z : ℕ). apart z (N d) * 2 ^ 53 ≤ M * 2 + 2 ^ 52) (sym (div-add-mod' n (10 ^ 9))) close;
    }
      where
        secs-lt : (n : ℕ) → n ≤ most → n / 10 ^ 9 < 2 ^ 64
        secs-lt n h = omega arith

        nanos-lt : (n : ℕ) → n % 10 ^ 9 < 10 ^ 9
        nanos-lt n = omega arith

  -- ---- under 2 ^ 23 s
  module _ (short : d.secs < 8388608) where
    abbrev g : ℕ
    g = 2 ^ 1044

    S-is : S d good ≡ d.secs * u
    S-is = units_are (whole binary64 d.secs) d.secs (S d good) u (whole_val binary64 d.secs (omega arith)) (secs_value d good)

    sum_lt : S d good + Q d good < 2 ^ 1097
    sum_lt = rw S-is (lt_of_lt_of_le (add-lt-add_of_le_of_lt (le_refl (d.secs * u)) Q_lt) (le_trans (le_of_eq (sym (suc-mul d.secs u))) (mul-le-mul_right u short)))

    R-off : (r * 2 ≤ (S d good + Q d good) * 2 + g) × ((S d good + Q d good) * 2 ≤ r * 2 + g)
    R-off =
        let e = absolute binary64 (S d good + Q d good) u 1044 U (lt_of_le_of_lt (le_of_eq (mul-div_cancel (S d good + Q d good) U)) sum_lt) in
        (off r (S d good + Q d good) u g U e.0, off (S d good + Q d good) r u g U e.1)
      where
        off : (a b l g : ℕ) → 0 < l → a * l * 2 ≤ b * l * 2 + l * g → a * 2 ≤ b * 2 + g
        off a b l g L h =
            le_of_mul-le-mul_right
            (le_trans (le_of_eq (mul_right_comm a 2 l)) (le_trans h (le_of_eq (sym (add-mul (b * 2) g l ∙ ap (λ (z : ℕ). z + g * l) (mul_right_comm b 2 l) ∙ ap (λ (z : ℕ). b * l * 2 + z) (mul_comm g l))))))
            L

    near-N : (r * 10 ^ 9 * 2 < N d * u * 2 + u) × (N d * u * 2 < r * 10 ^ 9 * 2 + u)
    near-N = subst (λ (z : ℕ). (r * 10 ^ 9 * 2 < z * 2 + u) × (z * 2 < r * 10 ^ 9 * 2 + u)) sized (half_off (S d good) (d.nanos * u) g (Q d good) r (pow_pos 1044) R-off Q_fine)
      where
        sized : S d good * 10 ^ 9 + d.nanos * u ≡ N d * u
        sized = ap (λ (z : ℕ). z * 10 ^ 9 + d.nanos * u) S-is ∙ ap (λ (z : ℕ). z + d.nanos * u) (mul_right_comm d.secs u (10 ^ 9)) ∙ sym (add-mul (d.secs * 10 ^ 9) d.nanos u)

    comes_back : from_seconds x ≡ Ok d
    comes_back =
        by_value x r u U (seconds-value d good)
        ∙ within r u (R-lt (omega arith))
        ∙ ap exact (closest_is (r * 10 ^ 9) u (N d) U near-N.0 near-N.1)
        ∙ sym (exact_is good.0 good.1 refl)

  -- ---- from 2 ^ 64 - 1024 s on
  module _ (above : 2 ^ 64 - 1024 ≤ d.secs) where
    S-ge : 2 ^ 64 * u ≤ S d good
    S-ge = le_trans (le_of_eq (sym half_way)) (grid_mono binary64 (2 ^ 64 - 1024) 1 d.secs 1 (lit< tt) (lit< tt) (omega arith) (word_range (2 ^ 64 - 1024) (lit≤ tt)) (word_range d.secs (omega (arith, good.0))))

    R-ge : 2 ^ 64 * u ≤ r
    R-ge =
        le_trans (le_of_eq (sym at_top))
        (grid_mono binary64 (2 ^ 64) 1 (S d good + Q d good) u (lit< tt) U (go (S d good) (Q d good) (2 ^ 64 * u) S-ge) (word_range (2 ^ 64) (lit≤ tt)) (in_range binary64 (S d good + Q d good) u U (sum_moderate d good)))
      where
        go : (a q m : ℕ) → m ≤ a → m ≤ (a + q) * 1
        go a q m h = omega arith

pub every_trip : EveryTrip
every_trip d good = record {
  value = own (seconds_as binary64 d) (R d good) (2 ^ 1074) (seconds-value d good);
  distance = own_near (seconds_as binary64 d) (R d good) (2 ^ 1074) (N d) ((d.secs + 1) * 10 ^ 9) (10 ^ 9) (2 ^ 52) (pow_pos 1074) (seconds-value d good) (in_units d good).0 (in_units d good).1;
  same = λ h. comes_back d good h;
  back = λ h. (of_nanos (n d good h), returns d good h);
  refused = λ h. by_value (seconds_as binary64 d) (R d good) (2 ^ 1074) (pow_pos 1074) (seconds-value d good) ∙ over (R d good) (2 ^ 1074) (R-ge d good h);
}
