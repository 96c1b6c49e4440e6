-- What accepted options have. Assumes nothing.
use Rattle.std.proofs.Common.{Option, Some, ◌≡◌, refl, Bool, true, false, ◌&&◌, ℕ, ◌≤◌, arith, leb-true, leb}
use Rattle.text.specs.declared.Options.{Options}
use Rattle.text.specs.Options.{limit, within, accepts}

pub within-set : {c : Option ℕ} {p : ℕ} → c ≡ Some p → within c ≡ true → p ≤ limit
unfolding within
within-set {c} {p} e h = leb-true p limit (rw e at h)

-- what accepted options have
pub record Accepted (o : Options) : Type 0 where
  pub plus : o.plus ≤ 1
  pub low : 0x20 ≤ o.fill
  pub high : o.fill ≤ 0x7E
  pub precision : within o.precision ≡ true
  pub width : within o.width ≡ true

pub both : (a b : Bool) → a && b ≡ true → (a ≡ true) × (b ≡ true)
both true b h = (refl, h)
both false b h = let z : ◌≡◌ {A = ℕ} 0 1 = cc in absurd (omega arith)

pub accepted : (o : Options) → accepts o ≡ true → Accepted o
unfolding accepts
accepted o h =
    let a = both (leb o.plus 1) _ h in
    let b = both (leb o.alignment 3) _ a.1 in
    let c = both (leb 0x20 o.fill) _ b.1 in
    let d = both (leb o.fill 0x7E) _ c.1 in
    let e = both (within o.precision) _ d.1 in
    record { plus = leb-true _ _ a.0; low = leb-true _ _ c.0; high = leb-true _ _ d.0; precision = e.0; width = e.1 }
