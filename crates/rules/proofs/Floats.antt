-- A float to be converted: below zero, a NaN or at least 2 ^ 64, or neither. Assumes nothing.
use mathlib.Core.Path.{◌≡◌, refl, sym, ap, ◌∙◌}
use mathlib.Core.Bool.{Bool, true, false, cond, ◌&&◌, ◌||◌, and-false}
use Prim.Native.Nat.{ℕ, ◌+◌, ◌*◌, ◌^◌, ◌<◌}
use native.Mathlib.Nat.{le_of_eq, mul-one}
use native.Mathlib.Omega.{arith}
use borrow.Author.Tests.{ltb-true, ltb-false, eqb-true, eqb-false, le-ltb, le-leb, lt-leb, ne_eqb}
use lib.IntN.{pos}
use lib.Dec.{leb, ltb, eqb}
use lib.Ieee.{Float, nan, inf, fin, up, down, below, level, lt, eq, le, is_nan}
use lib.Ieee.Fits.{down_pos}
use lib.Ieee.Nearest.{closest}
use Rattle.std.specs.Prelude.{Err}
use Rattle.refusal.specs.declared.Refusal.TheVariants.{OverflowOrNan}
use Rattle.duration.specs.Meaning.{exact}
use Rattle.seconds.specs.From.{of_fraction, of_size}
use Rattle.rules.proofs.Checks.{differ}

abbrev pub negative : Float → Bool
negative x = lt x (fin false 0 (pos 0))

abbrev pub large : Float → Bool
large x = is_nan x || le (fin false 1 (pos 64)) x

-- ---- at least, as the definitions have it and as IEEE 754 has it
at_least : (a b : ℕ) → leb a b ≡ ltb a b || (eqb a b && (true || eqb a 0))
at_least a b = go (ltb a b) (eqb a b) refl refl
  where
    go : (p q : Bool) → ltb a b ≡ p → eqb a b ≡ q → leb a b ≡ p || (q && (true || eqb a 0))
    go true q h k = le-leb a b (omega (arith, ltb-true a b h))
    go false true h k = le-leb a b (le_of_eq (eqb-true a b k))
    go false false h k = lt-leb a b (omega (arith, ltb-false a b h, eqb-false a b k))

reaches : (s : Bool) (m d : ℕ) → 0 < d → (s ≡ true → m ≡ 0) → leb (2 ^ 64 * d) m ≡ below false (2 ^ 64 * d) s m || level false (2 ^ 64 * d) s m
reaches false m d p z = at_least (2 ^ 64 * d) m
reaches true m d p z = let e = z refl in lt-leb (2 ^ 64 * d) m (omega arith) ∙ sym (ap (λ (b : Bool). b && (false || eqb (2 ^ 64 * d) 0)) (ne_eqb (2 ^ 64 * d) m (λ (k : 2 ^ 64 * d ≡ m). omega arith)))

-- ---- what a float that is not below zero gives
zero_size : (s : Bool) (m d : ℕ) → below s (m * 1) false (0 * d) ≡ false → s ≡ true → m ≡ 0
zero_size true m d h e = omega (arith, ltb-false 0 (m * 1 + 0 * d) h)
zero_size false m d h e = absurd (differ e refl)

pub sized : (x : Float) → negative x ≡ false → (n : ℕ) × (of_size x ≡ cond (large x) (Err OverflowOrNan) (exact n))
unfolding of_fraction lt eq le is_nan
sized nan h = (0, refl)
sized (inf true) h = absurd (differ refl h)
sized (inf false) h = (0, refl)
sized (fin s m e) h =
    (closest (m * up e * 10 ^ 9) (down e), rw (mul-one (m * up e), ← reaches s (m * up e) (down e) (down_pos e) (zero_size s (m * up e) (down e) h)))

-- ---- no float is both
pub apart : (x : Float) → negative x ≡ true → large x ≡ false
unfolding lt eq le is_nan
apart nan h = absurd (differ h refl)
apart (inf true) h = refl
apart (inf false) h = absurd (differ h refl)
apart (fin true m e) h = rw (ne_eqb (2 ^ 64 * down e) 0 (λ (k : 2 ^ 64 * down e ≡ 0). omega (arith, down_pos e))) (and-false (eqb (2 ^ 64 * down e) (m * up e * 1)))
apart (fin false m e) h = absurd (differ h (le-ltb (m * up e * 1) (0 * down e) (omega arith)))
