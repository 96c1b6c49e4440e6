-- A number as bytes, and numbers one after the other. Assumes nothing.
use Rattle.std.specs.Prelude.{ℕ, zero, suc, ◌+◌, ◌*◌, ◌/◌, ◌%◌, ◌^◌, ◌<◌, ◌≡◌, List, [], ◌∷◌, ◌++◌, length, take, drop, get_or, replicate}

-- the k lowest bytes of n, the lowest first
abbrev pub little_endian : ℕ → ℕ → List ℕ
little_endian zero n = []
little_endian (suc k) n = n % 256 ∷ little_endian k (n / 256)

-- the bytes above a number are zeros: nanoseconds in eight bytes are their four bytes and four zeros
abbrev pub UpperZeros : Type 0
UpperZeros = (j k n : ℕ) → n < 256 ^ j → little_endian (j + k) n ≡ little_endian j n ++ replicate k 0

-- the number whose bytes these are, the lowest first
unfoldable pub little : List ℕ → ℕ
little [] = 0
little (b ∷ bs) = b + 256 * little bs

-- it undoes `little_endian`
abbrev pub LittleUndoes : Type 0
LittleUndoes = (k n : ℕ) → n < 256 ^ k → little (little_endian k n) ≡ n

-- the first n numbers of k bytes each
unfoldable pub numbers : ℕ → ℕ → List ℕ → List ℕ
numbers k zero bs = []
numbers k (suc n) bs = little (take k bs) ∷ numbers k n (drop k bs)

-- all the numbers of k bytes each
unfoldable pub decoded : ℕ → List ℕ → List ℕ
decoded k bs = numbers k (length bs / k) bs

-- the bytes of numbers, k bytes each
unfoldable pub encoded : ℕ → List ℕ → List ℕ
encoded k [] = []
encoded k (n ∷ ns) = little_endian k n ++ encoded k ns

-- decoding undoes encoding, of numbers that fit their bytes
abbrev pub DecodedUndoes : Type 0
DecodedUndoes = (k : ℕ) (ns : List ℕ) → 0 < k → ((i : ℕ) → get_or ns i 0 < 256 ^ k) → decoded k (encoded k ns) ≡ ns
