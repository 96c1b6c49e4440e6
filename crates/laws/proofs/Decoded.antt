-- Numbers that stand as little-endian bytes, one after the other. Assumes nothing.
use mathlib.Core.Path.{◌≡◌, refl, sym, ap, ◌∙◌}
use mathlib.Core.List.{List, [], ◌∷◌}
use Prim.Native.Nat.{ℕ, zero, suc, ◌*◌, ◌/◌, ◌%◌, ◌^◌, ◌<◌}
use native.Mathlib.Nat.{zero-mul, suc-mul, pow-suc, div-lt_iff_lt-mul, mul-div_cancel, mul-mod_left}
use native.Mathlib.Omega.{arith}
use lib.ListN.{length, get_or, length-append}
use lib.Seq.{take_at, drop_at}
use Rattle.laws.specs.Bytes.{little_endian, little, numbers, decoded, encoded, LittleUndoes, DecodedUndoes}
use Rattle.laws.proofs.Bytes.{length-bytes}

pub little_undoes : LittleUndoes
unfolding little
little_undoes zero n h = omega arith
little_undoes (suc k) n h =
    let b : n / 256 < 256 ^ k = (div-lt_iff_lt-mul {k = 256} (omega arith)).1 (rw pow-suc at h) in
    omega (arith, little_undoes k (n / 256) b)

-- ---- decoding undoes encoding
length-encoded : (k : ℕ) (ns : List ℕ) → length (encoded k ns) ≡ length ns * k
unfolding encoded
length-encoded k [] = sym (zero-mul k)
length-encoded k (n ∷ ns) = omega (arith, length-append (little_endian k n) (encoded k ns), length-bytes k n, length-encoded k ns, suc-mul (length ns) k)

numbers_undo : (k : ℕ) (ns : List ℕ) → ((i : ℕ) → get_or ns i 0 < 256 ^ k) → numbers k (length ns) (encoded k ns) ≡ ns
unfolding numbers encoded
numbers_undo k [] h = refl
numbers_undo k (n ∷ ns) h =
    rw (take_at (little_endian k n) (encoded k ns) k (length-bytes k n), drop_at (little_endian k n) (encoded k ns) k (length-bytes k n))
    (λ i. little_undoes k n (h 0) i ∷ numbers_undo k ns (λ j. h (suc j)) i)

pub decoded_undoes : DecodedUndoes
unfolding decoded
decoded_undoes k ns pos h = rw (length-encoded k ns, mul-div_cancel (length ns) pos) (numbers_undo k ns h)

-- encoded numbers are a whole number of k bytes
pub whole-encoded : (k : ℕ) (ns : List ℕ) → length (encoded k ns) % k ≡ 0
whole-encoded k ns = ap (λ (z : ℕ). z % k) (length-encoded k ns) ∙ mul-mod_left (length ns) k
