-- Every row of the table obeys the order of checks: each definition looks at its conditions one by one. Assumes nothing.
use mathlib.Core.Path.{◌≡◌, refl, sym, ap, ◌∙◌}
use mathlib.Core.Bool.{Bool, true, false, cond, not, ◌&&◌, ◌||◌, and-false}
use mathlib.Core.List.{List, [], ◌∷◌, ◌++◌}
use Prim.Native.Nat.{ℕ, suc, ◌+◌, ◌-◌, ◌*◌, ◌/◌, ◌%◌, ◌^◌, ◌≤◌, min, max}
use native.Mathlib.Nat.{le_trans, div-le_self}
use native.Mathlib.Omega.{arith}
use borrow.Author.Tests.{leb-true, leb-false, le-leb}
use lib.ListN.{length, take, drop, get_or}
use lib.Dec.{T, leb, ltb, eqb, lit≤}
use lib.Ieee.{Float, binary64, fits, mul, div}
use lib.Ieee.Fits.{mul-fits, div-fits}
use Rattle.std.specs.Prelude.{Result, Ok, Err}
use Rattle.laws.specs.Bytes.{little_endian, decoded}
use Rattle.refusal.specs.Numbers.{number_of}
use Rattle.refusal.specs.declared.Refusal.{Refusal}
use Rattle.refusal.specs.declared.Refusal.TheVariants as R
use Rattle.wide.specs.Wide.{answer, difference, division}
use Rattle.door.specs.Door as Door
use Rattle.duration.specs.declared.Duration.{Duration}
use Rattle.duration.specs.Meaning.{N, valid, most, of_nanos, exact}
use Rattle.duration.specs.Units.{units, from_unit_number}
use Rattle.duration.specs.Parts.{whole_secs, subsec, count, is_zero, compared}
use Rattle.arithmetic.specs.Arithmetic.{added, subtracted, apart, times, shared, floor_of, ceil_of, saturated}
use Rattle.sums.specs.Sum as Sums
use Rattle.seconds.specs.Out.{seconds_as}
use Rattle.seconds.specs.From.{of_size, from_seconds, times_float, over_float}
use Rattle.bounds.proofs.Conversions.{never_over}
use Rattle.text.specs.Options.{accepts}
use Rattle.text.specs.Text.{text}
use Rattle.text.specs.Answer.{fitted, answer_of}
use Rattle.reply.specs.Reply.{code_of, left_in, duration_reply, wide_reply, word_reply, flag_reply, order_reply, f64_reply, f32_reply}
use Rattle.rules.specs.Refusals.{Grounds, any, holds, order, first_holding, chosen, met, Ruled, bad, converted, listed, bad_options, text_code, Table, NeverBad, Saturates, Unchanged}
use Rattle.rules.proofs.Checks.{◌also◌, differ, neither, exactly}
use Rattle.rules.proofs.Conditions.{not_above, not_reached, is_valid, are_valid, at_most, all_valid, is_within, are_whole, are_accepted}
use Rattle.rules.proofs.Floats as Floats

-- ---- a condition that does not hold chooses nothing
same : (l m : Grounds) → ((n : ℕ) → holds l n ≡ holds m n) → (ns : List ℕ) → first_holding l ns ≡ first_holding m ns
same l m h [] = refl
same l m h (n ∷ ns) = λ i. cond (h n i) n (same l m h ns i)

dropped : (r : Refusal) (l : Grounds) → chosen ((r, false) ∷ l) ≡ chosen l
dropped r l = same ((r, false) ∷ l) l (λ (n : ℕ). rw (and-false (eqb (number_of r) n))) order

-- ---- a call obeys the order
record Obeys (n : ℕ) (l : Grounds) : Type 0 where
  is : n ≡ chosen l

-- one check: a call is refused where a condition holds, and goes on where it does not
module _ {A : Type 0} (code : A → ℕ) {l : Grounds} where
  check : (r : Refusal) (ok t : Bool) (x y : A) → ok ≡ not t → code y ≡ number_of r → chosen ((r, true) ∷ l) ≡ number_of r → (t ≡ false → Obeys (code x) l) → Obeys (code (cond ok x y)) ((r, t) ∷ l)
  check r ok true x y e f g h = rw e record { is = f ∙ sym g }
  check r ok false x y e f g h = rw e record { is = (h refl).is ∙ sym (dropped r l) }

  -- the same, where the condition itself is tested
  check_if : (r : Refusal) (t : Bool) (x y : A) → code y ≡ number_of r → chosen ((r, true) ∷ l) ≡ number_of r → (t ≡ false → Obeys (code x) l) → Obeys (code (cond t y x)) ((r, t) ∷ l)
  check_if r true x y f g h = check r false true x y refl f g h
  check_if r false x y f g h = check r true false x y refl f g h

  -- the first of all: one duration, and two
  one : (a : Duration) (x y : A) → code y ≡ 10 → (bad a ≡ false → Obeys (code x) l) → Obeys (code (cond (valid a) x y)) ((R.BadDuration, bad a) ∷ l)
  one a x y f h = check R.BadDuration (valid a) (bad a) x y (is_valid a) f refl h

  two : (a b : Duration) (x y : A) → code y ≡ 10 → (bad a || bad b ≡ false → Obeys (code x) l) → Obeys (code (cond (valid a && valid b) x y)) ((R.BadDuration, bad a || bad b) ∷ l)
  two a b x y f h = check R.BadDuration (valid a && valid b) (bad a || bad b) x y (are_valid a b) f refl h

-- ---- an exact result
module _ (code : Result Duration Refusal → ℕ) {l : Grounds} (h : (d : Duration) → Obeys (code (Ok d)) l) where
  exact_is : (n : ℕ) → code (Err R.Overflow) ≡ 3 → chosen ((R.Overflow, true) ∷ l) ≡ 3 → Obeys (code (exact n)) ((R.Overflow, ltb most n) ∷ l)
  unfolding exact
  exact_is n f g = check code R.Overflow (leb n most) (ltb most n) (Ok (of_nanos n)) (Err R.Overflow) (not_above n most) f g (λ _. h (of_nanos n))

  -- one that is never refused
  exact_not : (n : ℕ) → (exact n ≡ Err R.Overflow → ⊥) → Obeys (code (exact n)) l
  unfolding exact
  exact_not n k = go (leb n most) k
    where
      go : (b : Bool) → (cond b (Ok (of_nanos n)) (Err R.Overflow) ≡ Err R.Overflow → ⊥) → Obeys (code (cond b (Ok (of_nanos n)) (Err R.Overflow))) l
      go true k = h (of_nanos n)
      go false k = absurd (k refl)

  exact_fits : (n : ℕ) → n ≤ most → Obeys (code (exact n)) l
  unfolding exact
  exact_fits n k = rw (le-leb n most k) (h (of_nanos n))

-- ---- the rows of C functions
module _ (room : ℕ) where
  abbrev small : Grounds
  small = (R.NoRoom, ltb room 16) ∷ []

  -- the room is looked at last
  enough : Obeys (cond (ltb room 16) 9 0) small
  enough = go (ltb room 16)
    where
      go : (b : Bool) → Obeys (cond b 9 0) ((R.NoRoom, b) ∷ [])
      go true = record { is = refl }
      go false = record { is = refl }

  abbrev code : Result Duration Refusal → ℕ
  code z = code_of (duration_reply z) room

  answered : (d : Duration) → Obeys (code (Ok d)) small
  unfolding code_of
  answered d = enough

  exact_row : (n : ℕ) → Obeys (code (exact n)) ((R.Overflow, ltb most n) ∷ small)
  unfolding code_of
  exact_row n = exact_is code answered n refl refl

  unit_row : (i j : ℕ) → Obeys (code (from_unit_number i j)) ((R.BadUnit, ltb 7 j) ∷ (R.Overflow, ltb most (i * get_or units j 0)) ∷ small)
  unfolding code_of from_unit_number
  unit_row i j = check code R.BadUnit (leb j 7) (ltb 7 j) (exact (i * get_or units j 0)) (Err R.BadUnit) (not_above j 7) refl refl (λ _. exact_row _)

  -- ---- lists
  abbrev sum-code : Result Duration Refusal → ℕ
  sum-code z = code_of (duration_reply z) room

  rows_row : (ds : List Duration) → Obeys (sum-code (Sums.sum_answer ds)) ((R.BadRow, any bad ds) ∷ (R.Overflow, ltb most (Sums.total ds)) ∷ small)
  unfolding code_of Sums.sum_answer
  rows_row ds = check sum-code R.BadRow (Sums.each_valid ds) (any bad ds) _ (Err R.BadRow) (all_valid ds) refl refl (λ _. exact_is (λ (z : Result Duration Refusal). sum-code z) (λ _. enough) (Sums.total ds) refl refl)

  sum_row : (ss ns : List ℕ) (i j : ℕ) → Obeys (sum-code (Sums.sum_of ss ns i j)) (listed false ss ns i j ++ small)
  unfolding code_of Sums.sum_of
  sum_row ss ns i j = check sum-code R.BadRange (Sums.within (length ss) (length ns) i j) _ _ (Err R.BadRange) (is_within (length ss) (length ns) i j) refl refl (λ _. rows_row (take (j - i) (drop i (Sums.rows ss ns))))

  odd_row : (odd : Bool) (ss ns : List ℕ) (i j : ℕ) → Obeys (sum-code (cond (not odd) (Sums.sum_of ss ns i j) (Err R.BadRange))) (listed odd ss ns i j ++ small)
  unfolding code_of
  odd_row true ss ns i j = record { is = refl }
  odd_row false ss ns i j = sum_row ss ns i j

  bytes_row : (ss ns : List ℕ) (i j : ℕ) → Obeys (sum-code (Sums.bytes_sum ss ns i j)) (listed (not (eqb (length ss % 8) 0) || not (eqb (length ns % 4) 0)) (decoded 8 ss) (decoded 4 ns) i j ++ small)
  unfolding Sums.bytes_sum
  bytes_row ss ns i j = rw (are_whole (length ss) (length ns)) (odd_row (not (eqb (length ss % 8) 0) || not (eqb (length ns % 4) 0)) (decoded 8 ss) (decoded 4 ns) i j)

  -- ---- floats in
  module _ (x : Float) (f : T (fits binary64 x)) where
    size-row : Floats.negative x ≡ false → Obeys (code (of_size x)) ((R.OverflowOrNan, Floats.large x) ∷ small)
    unfolding code_of from_seconds
    size-row h =
        let z = Floats.sized x h in
        rw z.1 (check_if code R.OverflowOrNan (Floats.large x) (exact z.0) (Err R.OverflowOrNan) refl refl (λ k.
        exact_not code answered z.0 (λ e. never_over x f (
        ap (λ (b : Bool). cond b (Err R.Negative) (of_size x)) h ∙ z.1 ∙ ap (λ (b : Bool). cond b (Err R.OverflowOrNan) (exact z.0)) k ∙ e))))

    float-row : Obeys (code (from_seconds x)) (converted x ++ small)
    unfolding code_of from_seconds
    float-row = check_if code R.Negative (Floats.negative x) (of_size x) (Err R.Negative) refl refl size-row

-- ---- saturation
saturated-exact : (n : ℕ) → saturated (exact n) ≡ Ok (of_nanos (min n most))
unfolding saturated exact
saturated-exact n = go (leb n most) refl
  where
    go : (b : Bool) → leb n most ≡ b → saturated (cond b (Ok (of_nanos n)) (Err R.Overflow)) ≡ Ok (of_nanos (min n most))
    go true e = let h : n ≡ min n most = omega (arith, leb-true n most e) in ap (λ (k : ℕ). Ok (of_nanos k)) h
    go false e = let h : most ≡ min n most = omega (arith, leb-false n most e) in ap (λ (k : ℕ). Ok (of_nanos k)) h

saturated-less : (m n : ℕ) → m ≤ most → saturated (cond (leb n m) (exact (m - n)) (Err R.Underflow)) ≡ Ok (of_nanos (m - n))
unfolding saturated exact
saturated-less m n k = go (leb n m) refl
  where
    go : (b : Bool) → leb n m ≡ b → saturated (cond b (exact (m - n)) (Err R.Underflow)) ≡ Ok (of_nanos (m - n))
    go true e = rw (le-leb (m - n) most (omega arith))
    go false e = let h : 0 ≡ m - n = omega (arith, leb-false n m e) in ap (λ (k : ℕ). Ok (of_nanos k)) h

-- ---- of 1 to 5 at most one: a call can name but one, or it converts a float
abbrev named : Grounds → ℕ
named [] = 0
named (g ∷ l) = cond (leb (number_of g.0) 5) (suc (named l)) (named l)

met_named : (l : Grounds) → met l ≤ named l
met_named [] = lit≤ tt
met_named (g ∷ l) = go (leb (number_of g.0) 5) g.1 (met_named l)
  where
    go : (a b : Bool) → met l ≤ named l → cond (a && b) (suc (met l)) (met l) ≤ cond a (suc (named l)) (named l)
    go true true h = omega arith
    go true false h = omega arith
    go false b h = h

alone : {n : ℕ} {l : Grounds} → Obeys n l → met l ≤ 1 → Ruled (n, l)
alone h k = record { given = h.is; alone = k }

ruled : {n : ℕ} {l : Grounds} → Obeys n l → named l ≤ 1 → Ruled (n, l)
ruled {n} {l} h k = alone h (le_trans (met_named l) k)

met_float : (x : Float) → met (converted x) ≤ 1
met_float x = go (Floats.negative x) (Floats.large x) (Floats.apart x)
  where
    go : (a b : Bool) → (a ≡ true → b ≡ false) → cond a (suc (cond b 1 0)) (cond b 1 0) ≤ 1
    go true b h = rw (h refl) (lit≤ tt)
    go false true h = lit≤ tt
    go false false h = lit≤ tt

pub saturates : Saturates
unfolding added subtracted times
saturates a b k s h =
    let p = neither (bad a) (bad b) h in (
      rw (are_valid a b, h) (saturated-exact (N a + N b)),
      rw (are_valid a b, h) (saturated-less (N a) (N b) (at_most a s p.0)),
      rw (is_valid a, p.0) (saturated-exact (N a * k)),
    )

pub never_bad : NeverBad
never_bad room n h = differ ((exactly ((R.Overflow, ltb most n) ∷ (R.NoRoom, ltb room 16) ∷ []) [] _ 10 refl).0 (sym (exact_row room n).is ∙ h)).0 refl

pub unchanged : Unchanged
unfolding code_of left_in
unchanged (Err r) before h = refl
unchanged (Ok w) before h = go (little_endian 8 w.low ++ little_endian 8 w.high ++ drop 16 before) (ltb (length before) 16) h
  where
    go : (z : List ℕ) (b : Bool) → (◌≡◌ {A = ℕ} (cond b 9 0) 0 → ⊥) → cond b before z ≡ before
    go z true h = refl
    go z false h = absurd (h refl)

pub table : Table
unfolding code_of Door.code_of Door.answer_reply Door.division_reply answer difference division whole_secs subsec count is_zero compared added subtracted apart times shared floor_of ceil_of saturated times_float over_float answer_of fitted
table room i j a b ss ns x o s t f =
    let done = enough room in
    let is = answered room in
    let ofA : bad a || bad b ≡ false → N a ≤ most = λ h. at_most a s (neither (bad a) (bad b) h).0 in
    let ofB : bad a || bad b ≡ false → N b ≤ most = λ h. at_most b t (neither (bad a) (bad b) h).1 in
    ruled (check (λ z. Door.code_of (Door.answer_reply z)) R.Overflow (ltb i (2 ^ 128)) (leb (2 ^ 128) i) _ _ (not_reached i (2 ^ 128)) refl refl (λ _. record { is = refl })) (lit≤ tt)
    also ruled (check_if (λ z. Door.code_of (Door.answer_reply z)) R.Underflow (ltb i j) _ _ refl refl (λ _. record { is = refl })) (lit≤ tt)
    also ruled (check_if (λ z. Door.code_of (Door.division_reply z)) R.ZeroDivisor (eqb j 0) _ _ refl refl (λ _. record { is = refl })) (lit≤ tt)
    also ruled (exact_row room i) (lit≤ tt)
    also ruled (unit_row room i j) (lit≤ tt)
    also ruled (one (λ z. code_of (word_reply z) room) a _ _ refl (λ _. done)) (lit≤ tt)
    also ruled (one (λ z. code_of (word_reply z) room) a _ _ refl (λ _. done)) (lit≤ tt)
    also ruled (one (λ z. code_of (wide_reply z) room) a _ _ refl (λ _. done)) (lit≤ tt)
    also ruled (one (λ z. code_of (flag_reply z) room) a _ _ refl (λ _. done)) (lit≤ tt)
    also ruled (two (λ z. code_of (order_reply z) room) a b _ _ refl (λ _. done)) (lit≤ tt)
    also ruled (two (code room) a b _ _ refl (λ _. exact_row room (N a + N b))) (lit≤ tt)
    also ruled (two (code room) a b _ _ refl (λ h. check (code room) R.Underflow (leb (N b) (N a)) (ltb (N a) (N b)) _ _ (not_above (N b) (N a)) refl refl (λ _. exact_fits (code room) is (N a - N b) (omega (arith, ofA h))))) (lit≤ tt)
    also ruled (two (code room) a b _ _ refl (λ h. exact_fits (code room) is (max (N a) (N b) - min (N a) (N b)) (omega (arith, ofA h, ofB h)))) (lit≤ tt)
    also ruled (one (code room) a _ _ refl (λ _. exact_row room (N a * i))) (lit≤ tt)
    also ruled (one (code room) a _ _ refl (λ h. check_if (code room) R.ZeroDivisor (eqb i 0) _ _ refl refl (λ _. exact_fits (code room) is (N a / i) (le_trans (div-le_self (N a) i) (at_most a s h))))) (lit≤ tt)
    also ruled (two (λ z. code_of (wide_reply z) room) a b _ _ refl (λ _. check_if (λ z. code_of (wide_reply z) room) R.ZeroDivisor (eqb (N b) 0) _ _ refl refl (λ _. done))) (lit≤ tt)
    also ruled (two (λ z. code_of (wide_reply z) room) a b _ _ refl (λ _. check_if (λ z. code_of (wide_reply z) room) R.ZeroDivisor (eqb (N b) 0) _ _ refl refl (λ _. done))) (lit≤ tt)
    also ruled (two (λ z. code room (saturated z)) a b _ _ refl (λ _. rw (saturated-exact (N a + N b)) done)) (lit≤ tt)
    also ruled (two (λ z. code room (saturated z)) a b _ _ refl (λ h. rw (saturated-less (N a) (N b) (ofA h)) done)) (lit≤ tt)
    also ruled (one (λ z. code room (saturated z)) a _ _ refl (λ _. rw (saturated-exact (N a * i)) done)) (lit≤ tt)
    also ruled (sum_row room ss ns i j) (lit≤ tt)
    also ruled (bytes_row room ss ns i j) (lit≤ tt)
    also ruled (one (λ z. code_of (f64_reply z) room) a _ _ refl (λ _. done)) (lit≤ tt)
    also ruled (one (λ z. code_of (f32_reply z) room) a _ _ refl (λ _. done)) (lit≤ tt)
    also ruled (two (λ z. code_of (f64_reply z) room) a b _ _ refl (λ _. done)) (lit≤ tt)
    also ruled (two (λ z. code_of (f32_reply z) room) a b _ _ refl (λ _. done)) (lit≤ tt)
    also alone (float-row room x f) (met_float x)
    also alone (one (code room) a _ _ refl (λ _. float-row room (mul binary64 x (seconds_as binary64 a)) (mul-fits binary64 x (seconds_as binary64 a)))) (met_float _)
    also alone (one (code room) a _ _ refl (λ _. float-row room (div binary64 (seconds_as binary64 a) x) (div-fits binary64 (seconds_as binary64 a) x))) (met_float _)
    also ruled (one text_code a _ _ refl (λ _. check text_code R.BadOptions (accepts o) (bad_options o) _ _ (are_accepted o) refl refl (λ _. check text_code R.NoRoom (leb (length (text (N a) o)) room) (ltb room (length (text (N a) o))) _ _ (not_above (length (text (N a) o)) room) refl refl (λ _. record { is = refl })))) (lit≤ tt)
    also tt
