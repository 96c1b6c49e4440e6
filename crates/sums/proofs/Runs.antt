-- Laws of the sums of a block and of the total of blocks. Assumes nothing.
use Rattle.std.proofs.Common.{◌≡◌, ℕ, ◌+◌, ◌-◌, ◌*◌, ◌/◌, ◌%◌, ◌^◌, ◌≤◌, ◌<◌, max, Bool, true, false, ◌&&◌, ltb, List, [], ◌∷◌, ◌++◌, length, Ok, Err, refl, sym, ◌∙◌, arith}
use Rattle.std.proofs.lemmas.List.{length-append}
use Rattle.std.proofs.Math.Bool.{and-true}
use Rattle.std.proofs.lemmas.Bool.Decides.{nat_tests}
use Rattle.duration.proofs.Exact.{exact_is, exact_over}
use Rattle.duration.specs.Meaning.{valid}
use Rattle.laws.specs.Names.{Overflow, BadRow, Duration}
use Rattle.sums.specs.declared.run.Block.{Block}
use Rattle.sums.specs.declared.run.Total.{Total}
use Rattle.sums.specs.Sum.{total, each_valid, sum_answer}
use Rattle.sums.specs.Runs.{Sums, Short, Totals}
use Rattle.sums.proofs.Rows.{total-append, valid-append}

-- the larger of two is below n where both are
both_below : (a b n : ℕ) → ltb (max a b) n ≡ (ltb a n && ltb b n)
both_below a b n = grind (arith, nat_tests)

-- ---- a block: no row, and one row more
pub sums_none : Sums [] (record { secs = 0; high = 0; nanos = 0; largest = 0 })
unfolding total each_valid
sums_none = record { low = 0; few = omega arith; all = refl; secs = refl; good = refl; high_limit = omega arith; low_limit = omega arith; nanos_limit = omega arith }

pub sums_more : (ds : List Duration) (b : Block) (s y : ℕ) → length ds < 65536 → s < 2 ^ 64 → y < 2 ^ 32 → Sums ds b
    → Sums (ds ++ record { secs = s; nanos = y } ∷ []) (record { secs = (b.secs + s) % 2 ^ 64; high = b.high + s / 2 ^ 32; nanos = b.nanos + y; largest = max b.largest y })
unfolding total each_valid valid
sums_more ds b s y f p q k =
    let n : length (ds ++ record { secs = s; nanos = y } ∷ []) ≡ length ds + 1 = length-append ds (record { secs = s; nanos = y } ∷ []) in
    record {
      low = k.low + s % 2 ^ 32;
      few = omega arith;
      all = omega (arith, k.all, total-append ds (record { secs = s; nanos = y } ∷ []));
      secs = omega (arith, k.secs);
      good = both_below b.largest y (10 ^ 9) ∙ (λ i. k.good i && sym (and-true (ltb y (10 ^ 9))) i) ∙ sym (valid-append ds (record { secs = s; nanos = y } ∷ []));
      high_limit = omega (arith, k.high_limit);
      low_limit = omega (arith, k.low_limit);
      nanos_limit = omega (arith, k.nanos_limit);
    }

-- the sums of a block have room for one row more
pub short : {ds : List Duration} {b : Block} → Sums ds b → Short b
short s = record { high = omega (arith, s.few, s.high_limit); nanos = omega (arith, s.few, s.nanos_limit) }

-- ---- a total: no row, and one block more
pub totals_none : Totals [] (record { secs = 0; nanos = 0; valid = true })
unfolding total each_valid
totals_none = record { all = refl; good = refl; secs_limit = omega arith; nanos_limit = omega arith }

pub joined : (ds es : List Duration) (t : Total) (b : Block) {h l n : ℕ} {v : Bool} → h ≡ b.high * 2 ^ 32 % 2 ^ 128 → l ≡ (b.secs + (2 ^ 64 - b.high * 2 ^ 32 % 2 ^ 64)) % 2 ^ 64 → n ≡ t.nanos + b.nanos → v ≡ (t.valid && ltb b.largest (10 ^ 9)) → Totals ds t → Sums es b
    → Totals (ds ++ es) (record { secs = t.secs + h + l + n / 10 ^ 9; nanos = n % 10 ^ 9; valid = v })
joined ds es t b {h} {l} {n} o p q r j k =
    let e : h + l ≡ b.high * 2 ^ 32 + k.low = omega (arith, k.secs, k.few, k.high_limit, k.low_limit) in record {
      all = omega (arith, e, j.all, k.all, total-append ds es);
      good = r ∙ (λ i. j.good i && k.good i) ∙ sym (valid-append ds es);
      secs_limit = omega (arith, e, j.secs_limit, j.nanos_limit, k.high_limit, k.low_limit, k.nanos_limit, length-append ds es);
      nanos_limit = omega arith;
    }

-- ---- the answer of a total
module _ (ds : List Duration) (t : Total) (h : Totals ds t) where
  pub answer_bad : t.valid ≡ false → Err BadRow ≡ sum_answer ds
  unfolding sum_answer
  answer_bad e = rw (← h.good, e)

  pub answer_over : t.valid ≡ true → 2 ^ 64 ≤ t.secs → Err Overflow ≡ sum_answer ds
  unfolding sum_answer
  answer_over e o = rw (← h.good, e) (exact_over (omega (arith, h.all)))

  pub answer_is : t.valid ≡ true → t.secs < 2 ^ 64 → Ok (record { secs = t.secs; nanos = t.nanos }) ≡ sum_answer ds
  unfolding sum_answer
  answer_is e o = rw (← h.good, e) (exact_is o h.nanos_limit h.all)
