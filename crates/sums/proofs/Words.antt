-- Numbers that are read from their bytes. Assumes nothing.
use Rattle.std.proofs.Common.{◌≡◌, ℕ, zero, suc, ◌/◌, List, [], ◌∷◌, length, take, drop, map, ap, refl, arith, w32, w64}
use Rattle.std.specs.Int.{from_le_bytes}
use Rattle.std.specs.Simd.{first_chunks}
use Rattle.laws.specs.Bytes.{little, numbers, decoded}

-- the library's number of four and of eight bytes is `little`
pub four : (bs : List ℕ) → length bs ≡ 4 → from_le_bytes w32 bs ≡ little bs
unfolding little
four (a ∷ b ∷ c ∷ d ∷ []) e = omega arith
four _ e = absurd (omega arith)

pub eight : (bs : List ℕ) → length bs ≡ 8 → from_le_bytes w64 bs ≡ little bs
unfolding little
eight (a ∷ b ∷ c ∷ d ∷ e ∷ f ∷ g ∷ h ∷ []) k = omega arith
eight _ k = absurd (omega arith)

-- all the numbers of k bytes are those of the chunks
chunked : (k n : ℕ) (bs : List ℕ) → map little (first_chunks k n bs) ≡ numbers k n bs
unfolding numbers
chunked k zero bs = refl
chunked k (suc n) bs = ap (λ (l : List ℕ). little (take k bs) ∷ l) (chunked k n (drop k bs))

pub decoded_chunks : (k : ℕ) (bs : List ℕ) → map little (first_chunks k (length bs / k) bs) ≡ decoded k bs
unfolding decoded
decoded_chunks k bs = chunked k (length bs / k) bs
