-- Counts of a unit: whole seconds up to a limit, and the door by the unit's number. Assumes nothing.
use mathlib.Core.Path.{◌≡◌, ap, ◌∙◌}
use Prim.Native.Nat.{ℕ, ◌+◌, ◌*◌, ◌^◌, ◌≤◌, ◌<◌}
use native.Mathlib.Nat.{mul_assoc}
use native.Mathlib.Omega.{arith}
use lib.ListN.{get_or}
use borrow.Author.Tests.{le-leb, lt-leb}
use Rattle.std.specs.Prelude.{Result, Err}
use Rattle.refusal.specs.declared.Refusal.TheVariants.{BadUnit}
use Rattle.refusal.specs.declared.Refusal.{Refusal}
use Rattle.duration.specs.Meaning.{Duration, exact}
use Rattle.duration.specs.Units.{units, from_unit_number}

-- the two answers of `from_unit_number`
pub unit_is : (count : ℕ) {unit : ℕ} (k : ℕ) {a : Result Duration Refusal} → unit ≡ k → k ≤ 7 → a ≡ exact (count * get_or units k 0) → a ≡ from_unit_number count unit
unfolding from_unit_number
unit_is count k e h f = rw (e, le-leb k 7 h) f

pub unit-bad : (count : ℕ) {unit : ℕ} → 7 < unit → Err BadUnit ≡ from_unit_number count unit
unfolding from_unit_number
unit-bad count {unit} h = rw (lt-leb unit 7 h)

pub whole-limit : (s l : ℕ) {g : ℕ} → s * 10 ^ 9 ≡ g → (l * g < 2 ^ 64 * 10 ^ 9) × (2 ^ 64 * 10 ^ 9 ≤ (l + 1) * g) → (l * s < 2 ^ 64) × (2 ^ 64 ≤ (l + 1) * s)
whole-limit s l {g} e h =
    let a : l * s * 10 ^ 9 ≡ l * g = mul_assoc l s (10 ^ 9) ∙ ap (λ (v : ℕ). l * v) e in
    let b : (l + 1) * s * 10 ^ 9 ≡ (l + 1) * g = mul_assoc (l + 1) s (10 ^ 9) ∙ ap (λ (v : ℕ). (l + 1) * v) e in
    (omega (arith, h.0), omega (arith, h.1))
