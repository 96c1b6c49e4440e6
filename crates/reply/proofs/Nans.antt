-- The bits of a NaN are the one pattern of its format. Assumes nothing.
use Rattle.std.proofs.Common.{◌≡◌, true, refl, sym, ap}
use lib.Ieee.{is_nan, to_bits}
use Rattle.laws.specs.Names.{Float, Format, nan, inf, fin}

only-nan : (x : Float) → is_nan x ≡ true → x ≡ nan
unfolding is_nan
only-nan nan h = refl
only-nan (inf s) h = cc
only-nan (fin s m e) h = cc

pub nan_bits : (f : Format) (x : Float) → is_nan x ≡ true → to_bits f nan ≡ to_bits f x
nan_bits f x h = ap (to_bits f) (sym (only-nan x h))
