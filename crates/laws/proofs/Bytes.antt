-- The bytes of a number, written one by one into a list. Assumes nothing.
use mathlib.Core.Path.{◌≡◌, refl, sym, ap, ◌∙◌}
use mathlib.Core.List.{List, ◌∷◌}
use Prim.Native.Nat.{ℕ, zero, suc, ◌+◌, ◌/◌, ◌%◌, ◌^◌, ◌<◌}
use native.Mathlib.Nat.{zero-add, suc-add, pow-suc, div-lt_iff_lt-mul}
use native.Mathlib.Omega.{arith}
use lib.ListN.{length, replicate}
use Rattle.std.proofs.Math.Nat.{div-one, div-div-eq-div-mul}
use Rattle.std.specs.Int.{byte_at, bytes_low_first}
use Rattle.laws.specs.Bytes.{little_endian, UpperZeros}

pub length-bytes : (k n : ℕ) → length (little_endian k n) ≡ k
length-bytes zero n = refl
length-bytes (suc k) n = ap suc (length-bytes k (n / 256))

-- ---- a number below 256 ^ j has zeros above its j bytes
all-zeros : (k : ℕ) → little_endian k 0 ≡ replicate k 0
all-zeros zero = refl
all-zeros (suc k) = ap (λ (l : List ℕ). 0 ∷ l) (all-zeros k)

pub upper-zeros : UpperZeros
upper-zeros zero k n h = let e : n ≡ 0 = omega arith in ap (λ (z : ℕ). little_endian (0 + k) z) e ∙ ap (λ (z : ℕ). little_endian z 0) (zero-add k) ∙ all-zeros k
upper-zeros (suc j) k n h =
    let b : n / 256 < 256 ^ j = (div-lt_iff_lt-mul {k = 256} (omega arith)).1 (rw pow-suc at h) in
    ap (λ (z : ℕ). little_endian z n) (suc-add j k) ∙ ap (λ (l : List ℕ). n % 256 ∷ l) (upper-zeros j k (n / 256) b)

-- ---- the bytes that the library makes of a number
byte-is : (i n : ℕ) → byte_at i n ≡ n / 256 ^ i % 256
byte-is zero n = ap (λ (z : ℕ). z % 256) (sym (div-one n))
byte-is (suc i) n = refl

next-byte : (i n : ℕ) → n / 256 ^ suc i ≡ n / 256 ^ i / 256
next-byte i n = ap (λ (z : ℕ). n / z) (pow-suc 256 i) ∙ sym (div-div-eq-div-mul n (256 ^ i) 256)

low-first : (k i n : ℕ) → bytes_low_first i k n ≡ little_endian k (n / 256 ^ i)
low-first zero i n = refl
low-first (suc k) i n = λ j. byte-is i n j ∷ (low-first k (suc i) n ∙ ap (little_endian k) (next-byte i n)) j

pub library_bytes : (k n : ℕ) → bytes_low_first 0 k n ≡ little_endian k n
library_bytes k n = low-first k 0 n ∙ ap (little_endian k) (div-one n)
