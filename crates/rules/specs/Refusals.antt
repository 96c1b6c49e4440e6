-- Document 01's refusal table: the order of checks, and every definition that a contract cites beside what the table says of it. Assumes nothing.
use Rattle.std.specs.Prelude.{ℕ, suc, ◌+◌, ◌-◌, ◌*◌, ◌%◌, ◌^◌, ◌≤◌, ◌<◌, min, ◌≡◌, ◌↔◌, Bool, true, false, cond, not, ◌&&◌, ◌||◌, List, [], ◌∷◌, ◌++◌, length, take, drop, get_or, T, leb, ltb, eqb, Option, None, Some, Result, Ok, Err}
use Rattle.laws.specs.Names.{pos, Float, fin, binary64, lt, le, is_nan, fits, mul, div, number_of, Refusal, Negative, OverflowOrNan, Overflow, Underflow, ZeroDivisor, BadRow, BadRange, BadOptions, NoRoom, BadDuration, BadUnit, Duration, N, valid, most, of_nanos, exact, decoded}
use Rattle.wide.specs.Wide.{answer, difference, division}
use Rattle.door.specs.Door as Door
use Rattle.duration.specs.Units.{units, from_unit_number}
use Rattle.duration.specs.Parts.{whole_secs, subsec, count, is_zero, compared}
use Rattle.arithmetic.specs.Arithmetic.{added, subtracted, apart, times, shared, floor_of, ceil_of, saturated}
use Rattle.sums.specs.Sum.{rows, total, sum_of, bytes_sum}
use Rattle.seconds.specs.Out.{seconds_as, float_if}
use Rattle.seconds.specs.From.{from_seconds, times_float, over_float}
use Rattle.text.specs.declared.Options.{Options}
use Rattle.text.specs.Answer.{text, answer_of}
use Rattle.reply.specs.Reply.{Reply, code_of, left_in, duration_reply, wide_reply, word_reply, flag_reply, order_reply, f64_reply, f32_reply}

-- what 01's column "given exactly when" says of one call: the refusals that it can meet, each with whether its condition holds
abbrev pub Grounds : Type 0
Grounds = List (Refusal × Bool)

abbrev pub any : {A : Type 0} → (A → Bool) → List A → Bool
any p [] = false
any p (x ∷ l) = p x || any p l

-- whether the condition of the refusal with that number holds
abbrev pub holds : Grounds → ℕ → Bool
holds l n = any (λ (g : Refusal × Bool). eqb (number_of g.0) n && g.1) l

-- 10; 11; 8; 7; 6; then 1 to 5; 9 last
abbrev pub order : List ℕ
order = 10 ∷ 11 ∷ 8 ∷ 7 ∷ 6 ∷ 1 ∷ 2 ∷ 3 ∷ 4 ∷ 5 ∷ 9 ∷ []

-- the first of the numbers whose condition holds, or 0
abbrev pub first_holding : Grounds → List ℕ → ℕ
first_holding l [] = 0
first_holding l (n ∷ ns) = cond (holds l n) n (first_holding l ns)

-- the number that a call returns: a refusal's, or 0 for an answer
abbrev pub chosen : Grounds → ℕ
chosen l = first_holding l order

-- a number is given exactly when its condition holds and none that is looked at before it does
abbrev pub Exactly : Type 0
Exactly = (l : Grounds) (before after : List ℕ) (n : ℕ) → order ≡ before ++ n ∷ after → (chosen l ≡ n) ↔ ((holds l n ≡ true) × (any (holds l) before ≡ false))

-- and there is an answer exactly when none holds
abbrev pub Answered : Type 0
Answered = (l : Grounds) → (chosen l ≡ 0) ↔ (any (holds l) order ≡ false)

-- how many of 1 to 5 a call meets
abbrev pub met : Grounds → ℕ
met [] = 0
met (g ∷ l) = cond (leb (number_of g.0) 5 && g.1) (suc (met l)) (met l)

-- a call that returns that number obeys the order, and of 1 to 5 it meets at most one
pub record Ruled (call : ℕ × Grounds) : Type 0 where
  pub given : call.0 ≡ chosen call.1
  pub alone : met call.1 ≤ 1

abbrev pub All : {A : Type 0} → (A → Type 0) → List A → Type 0
All P [] = Unit {0}
All P (x ∷ l) = P x × All P l

-- a pair whose nanoseconds are 10 ^ 9 or more
abbrev pub bad : Duration → Bool
bad d = leb (10 ^ 9) d.nanos

-- a float to be converted: below zero; a NaN or at least 2 ^ 64
abbrev pub converted : Float → Grounds
converted x = (Negative, lt x (fin false 0 (pos 0))) ∷ (OverflowOrNan, is_nan x || le (fin false 1 (pos 64)) x) ∷ []

-- a list: over C bytes that are no whole rows; slices of unequal length, first > end, end > that length; a bad row in the range; a total above MAX
abbrev pub listed : Bool → List ℕ → List ℕ → ℕ → ℕ → Grounds
listed odd ss ns first end =
    let range = take (end - first) (drop first (rows ss ns)) in
    (BadRange, odd || not (eqb (length ss) (length ns)) || ltb end first || ltb (length ss) end) ∷ (BadRow, any bad range) ∷ (Overflow, ltb most (total range)) ∷ []

-- a count of fraction digits or of characters above 255
abbrev pub above : Option ℕ → Bool
above None = false
above (Some n) = ltb 255 n

abbrev pub bad_options : Options → Bool
bad_options o = ltb 1 o.plus || ltb 3 o.alignment || ltb o.fill 0x20 || ltb 0x7E o.fill || above o.precision || above o.width

-- a text's number: its refusal's, or 0
abbrev pub text_code : Result ℕ Refusal → ℕ
text_code (Ok k) = 0
text_code (Err r) = number_of r

-- a call with 16 bytes to write into a buffer of so many
abbrev pub call : ℕ → Reply → Grounds → ℕ × Grounds
call room a l = (code_of a room, l ++ (NoRoom, ltb room 16) ∷ [])

-- two-word operations; constructors; parts; integers; sums; floats out; floats in; text. i and j stand for counts, units, factors, divisors, first and end
abbrev pub table : (room i j : ℕ) (a b : Duration) (ss ns : List ℕ) (x : Float) (o : Options) → List (ℕ × Grounds)
table room i j a b ss ns x o =
    (Door.code_of (Door.answer_reply (answer i)), (Overflow, leb (2 ^ 128) i) ∷ [])
    ∷ (Door.code_of (Door.answer_reply (difference i j)), (Underflow, ltb i j) ∷ [])
    ∷ (Door.code_of (Door.division_reply (division i j)), (ZeroDivisor, eqb j 0) ∷ [])
    ∷ call room (duration_reply (exact i)) ((Overflow, ltb most i) ∷ [])
    ∷ call room (duration_reply (from_unit_number i j)) ((BadUnit, ltb 7 j) ∷ (Overflow, ltb most (i * get_or units j 0)) ∷ [])
    ∷ call room (word_reply (whole_secs a)) ((BadDuration, bad a) ∷ [])
    ∷ call room (word_reply (subsec i a)) ((BadDuration, bad a) ∷ [])
    ∷ call room (wide_reply (count i a)) ((BadDuration, bad a) ∷ [])
    ∷ call room (flag_reply (is_zero a)) ((BadDuration, bad a) ∷ [])
    ∷ call room (order_reply (compared a b)) ((BadDuration, bad a || bad b) ∷ [])
    ∷ call room (duration_reply (added a b)) ((BadDuration, bad a || bad b) ∷ (Overflow, ltb most (N a + N b)) ∷ [])
    ∷ call room (duration_reply (subtracted a b)) ((BadDuration, bad a || bad b) ∷ (Underflow, ltb (N a) (N b)) ∷ [])
    ∷ call room (duration_reply (apart a b)) ((BadDuration, bad a || bad b) ∷ [])
    ∷ call room (duration_reply (times a i)) ((BadDuration, bad a) ∷ (Overflow, ltb most (N a * i)) ∷ [])
    ∷ call room (duration_reply (shared a i)) ((BadDuration, bad a) ∷ (ZeroDivisor, eqb i 0) ∷ [])
    ∷ call room (wide_reply (floor_of a b)) ((BadDuration, bad a || bad b) ∷ (ZeroDivisor, eqb (N b) 0) ∷ [])
    ∷ call room (wide_reply (ceil_of a b)) ((BadDuration, bad a || bad b) ∷ (ZeroDivisor, eqb (N b) 0) ∷ [])
    ∷ call room (duration_reply (saturated (added a b))) ((BadDuration, bad a || bad b) ∷ [])
    ∷ call room (duration_reply (saturated (subtracted a b))) ((BadDuration, bad a || bad b) ∷ [])
    ∷ call room (duration_reply (saturated (times a i))) ((BadDuration, bad a) ∷ [])
    ∷ call room (duration_reply (sum_of ss ns i j)) (listed false ss ns i j)
    ∷ call room (duration_reply (bytes_sum ss ns i j)) (listed (not (eqb (length ss % 8) 0) || not (eqb (length ns % 4) 0)) (decoded 8 ss) (decoded 4 ns) i j)
    ∷ call room (f64_reply (float_if (valid a) x)) ((BadDuration, bad a) ∷ [])
    ∷ call room (f32_reply (float_if (valid a) x)) ((BadDuration, bad a) ∷ [])
    ∷ call room (f64_reply (float_if (valid a && valid b) x)) ((BadDuration, bad a || bad b) ∷ [])
    ∷ call room (f32_reply (float_if (valid a && valid b) x)) ((BadDuration, bad a || bad b) ∷ [])
    ∷ call room (duration_reply (from_seconds x)) (converted x)
    ∷ call room (duration_reply (times_float a x)) ((BadDuration, bad a) ∷ converted (mul binary64 x (seconds_as binary64 a)))
    ∷ call room (duration_reply (over_float a x)) ((BadDuration, bad a) ∷ converted (div binary64 (seconds_as binary64 a) x))
    ∷ (text_code (answer_of a o room), (BadDuration, bad a) ∷ (BadOptions, bad_options o) ∷ (NoRoom, ltb room (length (text (N a) o))) ∷ [])
    ∷ []

-- the seconds are words, and the float is an f64, as every f32 is
abbrev pub Table : Type 0
Table = (room i j : ℕ) (a b : Duration) (ss ns : List ℕ) (x : Float) (o : Options) → a.secs < 2 ^ 64 → b.secs < 2 ^ 64 → T (fits binary64 x) → All Ruled (table room i j a b ss ns x o)

-- a constructor never gives 10
abbrev pub NeverBad : Type 0
NeverBad = (room n : ℕ) → code_of (duration_reply (exact n)) room ≡ number_of BadDuration → ⊥

-- a saturating operation answers MAX in place of more, and ZERO in place of less, where a difference of natural numbers stops
abbrev pub Saturates : Type 0
Saturates = (a b : Duration) (k : ℕ) → a.secs < 2 ^ 64 → bad a || bad b ≡ false
    → (saturated (added a b) ≡ Ok (of_nanos (min (N a + N b) most))) × (saturated (subtracted a b) ≡ Ok (of_nanos (N a - N b))) × (saturated (times a k) ≡ Ok (of_nanos (min (N a * k) most)))

-- a refused call changes no byte
abbrev pub Unchanged : Type 0
Unchanged = (a : Reply) (before : List ℕ) → (code_of a (length before) ≡ 0 → ⊥) → left_in a before ≡ before
