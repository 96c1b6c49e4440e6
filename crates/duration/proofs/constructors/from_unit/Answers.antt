-- `duration::constructors::from_unit` meets its contract. Assumes nothing.
use mathlib.Core.Path.{refl, ap, ◌∙◌}
use Prim.Native.Nat.{ℕ, ◌*◌}
use native.Mathlib.Omega.{arith}
use Rattle.duration.specs.Meaning.{of_nanos, exact}
use Rattle.duration.proofs.Counts.{unit_is, unit-bad, whole-limit}
use Rattle.duration.proofs.Exact.{exact-nanos}
use Rattle.duration.proofs.constructors.from_unit.Goals as goal

pub seconds-requires : goal.seconds-requires
seconds-requires c = whole-limit _ _ c.scale.ensures c.limit.ensures

pub returns-in-0 : goal.returns-in-0
returns-in-0 c = unit_is _ 0 c.in-0.is (omega arith) (exact-nanos (omega arith) (c.from_nanos.ensures ∙ ap of_nanos (omega arith)))

pub returns-in-1-to-3 : goal.returns-in-1-to-3
returns-in-1-to-3 c = c.any_count.ensures

pub returns-in-4-to-7 : goal.returns-in-4-to-7
returns-in-4-to-7 c =
    let a = c.args in
    unit_is _ a.unit refl (omega arith) (c.seconds.ensures ∙ ap (λ (v : ℕ). exact (a.count * v)) c.scale.ensures)

pub returns-in-8-to-4294967295 : goal.returns-in-8-to-4294967295
returns-in-8-to-4294967295 c = unit-bad _ (omega arith)
