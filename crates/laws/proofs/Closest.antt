-- The nearest whole number to a fraction, a tie to the even one: what `closest` is where a quotient and a remainder are known, and how far off it is.
-- Assumes nothing.
use mathlib.Core.Path.{◌≡◌, refl, sym, ap, ◌∙◌, subst}
use mathlib.Core.Bool.{Bool, true, false, not}
use mathlib.Core.Logic.{◌⊎◌, inl, inr}
use Prim.Native.Nat.{ℕ, suc, ◌+◌, ◌-◌, ◌*◌, ◌/◌, ◌%◌, ◌≤◌, ◌<◌, compare, Ordering}
use native.Mathlib.Nat.{one-mul, add-mul, suc-mul, zero-add, le_trans, le_antisymm, le_of_suc-le-suc, lt_of_mul-lt-mul_right, add_comm, mul_comm, mod-lt, div-add-mod', div-eq_of_lt, div-eq_of_lt-le, eq-zero-or-pos, div-div-eq-div-mul, add-mul-div_right, add-mul-mod_self_right, div-lt_iff_lt-mul, mul-lt-mul_of_pos_right, mul-le-mul_right, eq_of_mul-eq-mul_right, zero-mul}
use native.Mathlib.Omega.{arith}
use lib.Dec.{lit≤, T, leb, is_le, compare_is_eq, eqb, leb→le, nleb→lt, eqb→eq, eqb_refl}
use lib.Arith.{lt_of_le-ne, mod-mul, digits_lt, digits_div, digits_mod}
use lib.Ieee.{nearest}
use lib.Ieee.Fits.{nearest-le}
use lib.Ieee.Nearest.{closest}

pub le_or_lt : (a b : ℕ) → (a ≤ b) ⊎ (b < a)
le_or_lt a b = go (leb a b) (leb→le a b) (nleb→lt a b)
  where
    go : (t : Bool) → (T t → a ≤ b) → (T (not t) → b < a) → (a ≤ b) ⊎ (b < a)
    go true h k = inl (h tt)
    go false h k = inr (k tt)

-- a product that is zero, of a factor that is not
pub zero_of : (z c : ℕ) → 0 < c → z * c ≡ 0 → z ≡ 0
zero_of z c C e = eq_of_mul-eq-mul_right c C z 0 (e ∙ sym (zero-mul c))

-- ---- what `compare` says
abbrev Cmp : Ordering → ℕ → ℕ → Type 0
Cmp Ordering.lt a b = a < b
Cmp Ordering.eq a b = a ≡ b
Cmp Ordering.gt a b = b < a

cmp : (a b : ℕ) → Cmp (compare a b) a b
cmp a b = go (compare a b) (leb→le a b) (nleb→lt a b) (eqb→eq a b) (λ (e : a ≡ b). subst (λ (x : ℕ). T (eqb a x)) e (eqb_refl a))
  where
    go : (o : Ordering) → (T (is_le o) → a ≤ b) → (T (not (is_le o)) → b < a) → (T (compare_is_eq o) → a ≡ b) → (a ≡ b → T (compare_is_eq o)) → Cmp o a b
    go Ordering.lt h k e n = lt_of_le-ne (h tt) n
    go Ordering.eq h k e n = e tt
    go Ordering.gt h k e n = k tt

pub at_lt : (q a b : ℕ) → a < b → nearest q (compare a b) ≡ q
at_lt q a b h = go (compare a b) (cmp a b)
  where
    go : (o : Ordering) → Cmp o a b → nearest q o ≡ q
    go Ordering.lt x = refl
    go Ordering.eq x = absurd (omega arith)
    go Ordering.gt x = absurd (omega arith)

pub at_eq : (q a b : ℕ) → a ≡ b → nearest q (compare a b) ≡ q + q % 2
at_eq q a b h = go (compare a b) (cmp a b)
  where
    go : (o : Ordering) → Cmp o a b → nearest q o ≡ q + q % 2
    go Ordering.lt x = absurd (omega arith)
    go Ordering.eq x = refl
    go Ordering.gt x = absurd (omega arith)

pub at_gt : (q a b : ℕ) → b < a → nearest q (compare a b) ≡ q + 1
at_gt q a b h = go (compare a b) (cmp a b)
  where
    go : (o : Ordering) → Cmp o a b → nearest q o ≡ q + 1
    go Ordering.lt x = absurd (omega arith)
    go Ordering.eq x = absurd (omega arith)
    go Ordering.gt x = omega arith

-- ---- a whole part that is even comes out
nearest_add : (c q : ℕ) (o : Ordering) → c % 2 ≡ 0 → nearest (q + c) o ≡ c + nearest q o
nearest_add c q Ordering.lt h = omega arith
nearest_add c q Ordering.eq h = omega arith
nearest_add c q Ordering.gt h = omega arith

pub closest-add : (c n d : ℕ) → 0 < d → c % 2 ≡ 0 → closest (n + c * d) d ≡ c + closest n d
closest-add c n d D h = rw (add-mul-div_right n c D, add-mul-mod_self_right n c d) (nearest_add c (n / d) (compare (n % d * 2) d) h)

pub closest_le : (n d q : ℕ) → 0 < d → n < q * d → closest n d ≤ q
closest_le n d q D h = le_trans (nearest-le (n / d) (compare (n % d * 2) d)) ((div-lt_iff_lt-mul D).1 h)

-- ---- a * p + b over g * p, for a b below p: the quotient and the remainder are those of a over g
pub closest-block : (a b p g : ℕ) → 0 < g → b < p → closest (a * p + b) (g * p) ≡ nearest (a / g) (compare ((a % g * p + b) * 2) (g * p))
closest-block a b p g G h = rw (quot, rest)
  where
    P : 0 < p
    P = omega arith

    quot : (a * p + b) / (g * p) ≡ a / g
    quot = ap (λ (z : ℕ). (a * p + b) / z) (mul_comm g p) ∙ sym (div-div-eq-div-mul (a * p + b) p g) ∙ ap (λ (z : ℕ). z / g) (digits_div a h)

    rest : (a * p + b) % (g * p) ≡ a % g * p + b
    rest = mod-mul (a * p + b) G P ∙ ap (λ (z : ℕ). z % g * p + (a * p + b) % p) (digits_div a h) ∙ ap (λ (z : ℕ). a % g * p + z) (digits_mod a h)

-- ---- the same by one sum and one quotient, with no test: h is half of g, and t is 1 where the whole part is odd or b is not zero
join : (a x r h t : ℕ) → x + r ≡ a → a + (h - 1) + t ≡ r + (h - 1) + t + x
join a x r h t e = omega arith

sum_is : (a h t : ℕ) → 0 < h + h → (a + (h - 1) + t) / (h + h) ≡ (a % (h + h) + (h - 1) + t) / (h + h) + a / (h + h)
sum_is a h t G =
    ap (λ (z : ℕ). z / (h + h)) (join a (a / (h + h) * (h + h)) (a % (h + h)) h t (div-add-mod' a (h + h)))
    ∙ add-mul-div_right (a % (h + h) + (h - 1) + t) (a / (h + h)) G

-- what is left of the sum, over g
none : (r h t q : ℕ) → t ≤ 1 → r < h → (r + (h - 1) + t) / (h + h) + q ≡ q
none r h t q T l = ap (λ (z : ℕ). z + q) (div-eq_of_lt lt) ∙ zero-add q
  where
    lt : r + (h - 1) + t < h + h
    lt = omega arith

once : (r h t q : ℕ) → t ≤ 1 → r < h + h → h + h ≤ r + (h - 1) + t → (r + (h - 1) + t) / (h + h) + q ≡ q + 1
once r h t q T l u = ap (λ (z : ℕ). z + q) (div-eq_of_lt-le {k = 1} (h + h) low top) ∙ add_comm 1 q
  where
    low : 1 * (h + h) ≤ r + (h - 1) + t
    low = rw (one-mul (h + h)) u

    top : r + (h - 1) + t < 2 * (h + h)
    top = omega arith

middle : (r h t q : ℕ) → 0 < h → t ≤ 1 → r ≡ h → t ≡ q % 2 → (r + (h - 1) + t) / (h + h) + q ≡ q + q % 2
middle r h t q H T e p = elim (eq-zero-or-pos t) [
  | inl z ↦ ap (λ (z : ℕ). z + q) (div-eq_of_lt (short r h t H e z)) ∙ zero-add q ∙ same q t p z
  | inr z ↦ once r h t q T (under r h H e) (full r h t H e z) ∙ ap (λ (z : ℕ). q + z) (one t q p T z)
]
  where
    short : (r h t : ℕ) → 0 < h → r ≡ h → t ≡ 0 → r + (h - 1) + t < h + h
    short r h t H e z = omega arith

    same : (q t : ℕ) → t ≡ q % 2 → t ≡ 0 → q ≡ q + q % 2
    same q t p z = omega arith

    under : (r h : ℕ) → 0 < h → r ≡ h → r < h + h
    under r h H e = omega arith

    full : (r h t : ℕ) → 0 < h → r ≡ h → 0 < t → h + h ≤ r + (h - 1) + t
    full r h t H e z = omega arith

    one : (t q : ℕ) → t ≡ q % 2 → t ≤ 1 → 0 < t → 1 ≡ q % 2
    one t q p T z = omega arith

-- twice x = r * p + b, beside g = (h + h) * p, where y = h * p
double_lt : (x y g : ℕ) → g ≡ y + y → x < y → x * 2 < g
double_lt x y g e l = omega arith

double_gt : (x y g : ℕ) → g ≡ y + y → y < x → g < x * 2
double_gt x y g e l = omega arith

double_eq : (x y g : ℕ) → g ≡ y + y → x ≡ y → x * 2 ≡ g
double_eq x y g e l = omega arith

more_left : (x y b : ℕ) → y < x → y < x + b
more_left x y b l = omega arith

more_right : (x y b : ℕ) → x ≡ y → 0 < b → y < x + b
more_right x y b e l = omega arith

no_more : (x y b : ℕ) → x ≡ y → b ≡ 0 → x + b ≡ y
no_more x y b e z = omega arith

pub by_sum : (a b p h t : ℕ) → 0 < h → b < p → t ≤ 1 → (a % (h + h) ≡ h → b ≡ 0 → t ≡ a / (h + h) % 2) → (a % (h + h) ≡ h → 0 < b → t ≡ 1)
    → (a + (h - 1) + t) / (h + h) ≡ closest (a * p + b) ((h + h) * p)
by_sum a b p h t H B T E N = sum_is a h t G ∙ go (compare r h) (cmp r h) ∙ sym (closest-block a b p (h + h) G B)
  where
    G : 0 < h + h
    G = omega arith

    P : 0 < p
    P = omega arith

    q : ℕ
    q = a / (h + h)

    r : ℕ
    r = a % (h + h)

    x : ℕ
    x = r * p + b

    g : ℕ
    g = (h + h) * p

    twice : g ≡ h * p + h * p
    twice = add-mul h h p

    go : (o : Ordering) → Cmp o r h → (r + (h - 1) + t) / (h + h) + q ≡ nearest q (compare (x * 2) g)
    go Ordering.lt l = none r h t q T l ∙ sym (at_lt q (x * 2) g (double_lt x (h * p) g twice (digits_lt l B)))
    go Ordering.gt l = once r h t q T (mod-lt a G) (wide r h t l) ∙ sym (at_gt q (x * 2) g (double_gt x (h * p) g twice (more_left (r * p) (h * p) b (mul-lt-mul_of_pos_right l P))))
      where
        wide : (r h t : ℕ) → h < r → h + h ≤ r + (h - 1) + t
        wide r h t l = omega arith
    go Ordering.eq l = elim (eq-zero-or-pos b) [
      | inl z ↦ middle r h t q H T l (E l z) ∙ sym (at_eq q (x * 2) g (double_eq x (h * p) g twice (no_more (r * p) (h * p) b (ap (λ (z : ℕ). z * p) l) z)))
      | inr z ↦ once r h t q T (mod-lt a G) (up r h t l (N l z)) ∙ sym (at_gt q (x * 2) g (double_gt x (h * p) g twice (more_right (r * p) (h * p) b (ap (λ (z : ℕ). z * p) l) z)))
    ]
      where
        up : (r h t : ℕ) → r ≡ h → t ≡ 1 → h + h ≤ r + (h - 1) + t
        up r h t e f = omega arith

-- where there is no tie, half a unit is added
pub by_half : (a b p h : ℕ) → 0 < h → b < p → (a % (h + h) ≡ h → b ≡ 0 → ⊥) → (a + h) / (h + h) ≡ closest (a * p + b) ((h + h) * p)
by_half a b p h H B N = ap (λ (z : ℕ). z / (h + h)) one ∙ by_sum a b p h 1 H B (lit≤ tt) (λ e z. absurd (N e z)) (λ e z. refl)
  where
    one : a + h ≡ a + (h - 1) + 1
    one = omega arith

-- ---- the closest whole number is within a half
at_most : (q : ℕ) (o : Ordering) (r d : ℕ) → Cmp o (r * 2) d → r < d → (nearest q o * d * 2 ≤ (q * d + r) * 2 + d) × ((q * d + r) * 2 ≤ nearest q o * d * 2 + d)
at_most q Ordering.lt r d h l = (omega arith, omega arith)
at_most q Ordering.eq r d h l =
    let e : (q + q % 2) * d ≡ q * d + q % 2 * d = add-mul q (q % 2) d in
    let b : q % 2 * d ≤ 1 * d = mul-le-mul_right d (bit q) in
    (omega arith, omega arith)
  where
    bit : (q : ℕ) → q % 2 ≤ 1
    bit q = omega arith
at_most q Ordering.gt r d h l =
    let e : suc q * d ≡ q * d + d = suc-mul q d in
    (omega arith, omega arith)

pub closest_error : (n d : ℕ) → 0 < d → (closest n d * d * 2 ≤ n * 2 + d) × (n * 2 ≤ closest n d * d * 2 + d)
closest_error n d D =
    subst (λ (z : ℕ). (closest n d * d * 2 ≤ z * 2 + d) × (z * 2 ≤ closest n d * d * 2 + d)) (div-add-mod' n d)
    (at_most (n / d) (compare (n % d * 2) d) (n % d) d (cmp (n % d * 2) d) (mod-lt n D))

-- and a whole number that is nearer than a half is the closest
pub closest_is : (x d m : ℕ) → 0 < d → x * 2 < m * d * 2 + d → m * d * 2 < x * 2 + d → closest x d ≡ m
closest_is x d m D h k = le_antisymm (le_of_suc-le-suc (lt_of_mul-lt-mul_right d (omega (arith, suc-mul m d, e.0)))) (le_of_suc-le-suc (lt_of_mul-lt-mul_right d (omega (arith, suc-mul (closest x d) d, e.1))))
  where
    e : (closest x d * d * 2 ≤ x * 2 + d) × (x * 2 ≤ closest x d * d * 2 + d)
    e = closest_error x d D
