-- The theorems of specs/SumTheorems.antt. Assumes nothing.
use mathlib.Core.List.{Permᴰ}
use borrow.Author.Tests.{eq-eqb, le-leb}
use Rattle.std.proofs.Common.{◌≡◌, ◌-◌, ◌%◌, Bool, true, false, ◌&&◌, List, length, refl, ap, ◌∙◌, arith}
use Rattle.duration.specs.Meaning.{N, valid, exact}
use Rattle.laws.specs.Names.{Duration, encoded}
use Rattle.laws.proofs.Decoded.{decoded_undoes, whole-encoded}
use Rattle.sums.specs.Sum.{total, each_valid, sum_answer, within, sum_of, whole_rows, bytes_sum}
use Rattle.sums.specs.SumTheorems.{AnyOrder, EmptyIsZero, BytesAsNumbers}

-- ---- any order
and_swap : (p q r : Bool) → (p && (q && r)) ≡ (q && (p && r))
and_swap true true r = refl
and_swap true false r = refl
and_swap false true r = refl
and_swap false false r = refl

same_total : {ds es : List Duration} → Permᴰ ds es → total ds ≡ total es
unfolding total
same_total Permᴰ.nil = refl
same_total (Permᴰ.cons e p) = omega (arith, same_total p, ap N e)
same_total (Permᴰ.swap e f) = omega (arith, ap N e, ap N f)
same_total (Permᴰ.trans p q) = same_total p ∙ same_total q

same-valid : {ds es : List Duration} → Permᴰ ds es → each_valid ds ≡ each_valid es
unfolding each_valid
same-valid Permᴰ.nil = refl
same-valid (Permᴰ.cons e p) = λ i. valid (e i) && same-valid p i
same-valid (Permᴰ.swap {a} {b} {l = l} e f) = and_swap (valid a) (valid b) (each_valid l) ∙ (λ i. valid (f i) && (valid (e i) && each_valid l))
same-valid (Permᴰ.trans p q) = same-valid p ∙ same-valid q

pub any_order : AnyOrder
unfolding sum_answer
any_order ds es p = rw (same_total p, same-valid p)

-- ---- an empty range
pub empty_is_zero : EmptyIsZero
unfolding sum_of within sum_answer total each_valid exact
empty_is_zero ss ns k e h = let z : k - k ≡ 0 = omega arith in rw (eq-eqb (length ss) (length ns) e, le-leb k k (omega arith), le-leb k (length ss) h, z)

-- ---- bytes as numbers
pub bytes_as_numbers : BytesAsNumbers
unfolding bytes_sum whole_rows
bytes_as_numbers ss ns first end h k =
    rw (eq-eqb (length (encoded 8 ss) % 8) 0 (whole-encoded 8 ss), eq-eqb (length (encoded 4 ns) % 4) 0 (whole-encoded 4 ns), decoded_undoes 8 ss (omega arith) h, decoded_undoes 4 ns (omega arith) k)
