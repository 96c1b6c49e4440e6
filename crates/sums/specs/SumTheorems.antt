-- What is proved of the sum's definition, in proofs/SumTheorems.antt. Assumes nothing.
use mathlib.Core.List.{Permᴰ}
use Rattle.std.specs.Prelude.{ℕ, ◌^◌, ◌≤◌, ◌<◌, ◌≡◌, List, length, get_or, Ok}
use Rattle.laws.specs.Names.{Duration, of_nanos, encoded}
use Rattle.sums.specs.Sum.{sum_answer, sum_of, bytes_sum}

-- any order of the rows gives the same answer
abbrev pub AnyOrder : Type 0
AnyOrder = (ds es : List Duration) → Permᴰ ds es → sum_answer ds ≡ sum_answer es

-- an empty range gives ZERO
abbrev pub EmptyIsZero : Type 0
EmptyIsZero = (ss ns : List ℕ) (k : ℕ) → length ss ≡ length ns → k ≤ length ss → sum_of ss ns k k ≡ Ok (of_nanos 0)

-- the sum over bytes answers as the sum over numbers does
abbrev pub BytesAsNumbers : Type 0
BytesAsNumbers =
    (ss ns : List ℕ) (first end : ℕ) → ((i : ℕ) → get_or ss i 0 < 2 ^ 64) → ((i : ℕ) → get_or ns i 0 < 2 ^ 32)
    → bytes_sum (encoded 8 ss) (encoded 4 ns) first end ≡ sum_of ss ns first end
