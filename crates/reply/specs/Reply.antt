-- What a C function returns and leaves in the lent buffer: every answer is two words, or a refusal. Assumes nothing.
use Rattle.std.specs.Prelude.{ℕ, ◌≡◌, cond, Bool, List, ◌++◌, length, drop, ltb}
use Rattle.std.specs.declared.cmp.Ordering.TheVariants.{Less, Equal, Greater}
use Rattle.laws.specs.Names.{Float, binary32, binary64, to_bits, Result, Ok, Err, Ordering, Refusal, number_of, NoRoom, Wide, Duration, little_endian}
use Rattle.reply.specs.declared.Words.{Words}

-- two words, or a refusal
abbrev pub Reply : Type 0
Reply = Result Words Refusal

-- the number returned for a buffer of n bytes: 0, or the refusal's; NoRoom is looked for last
unfoldable pub code_of : Reply → ℕ → ℕ
code_of (Err r) n = number_of r
code_of (Ok w) n = cond (ltb n 16) (number_of NoRoom) 0

-- the buffer after the call, from the buffer before it: 16 bytes at the front and the rest as it was, or all as it was
unfoldable pub left_in : Reply → List ℕ → List ℕ
left_in (Err r) before = before
left_in (Ok w) before = cond (ltb (length before) 16) before (little_endian 8 w.low ++ little_endian 8 w.high ++ drop 16 before)

-- what a call with the reply a does: the number that it returns, and the buffer after it
pub record Replied (before after : List ℕ) (a : Reply) (n : ℕ) : Type 0 where
  pub code : n ≡ code_of a (length before)
  pub left : after ≡ left_in a before

-- the reply of an answer whose words are f's
abbrev pub reply_of : {A : Type 0} → (A → Words) → Result A Refusal → Reply
reply_of f (Ok x) = Ok (f x)
reply_of f (Err r) = Err r

-- a duration: seconds, then nanoseconds, whose upper four bytes are zeros
abbrev pub duration_words : Duration → Words
duration_words d = record { low = d.secs; high = d.nanos }

-- a wide count: the low word first
abbrev pub wide_words : Wide → Words
wide_words w = record { low = w.lo; high = w.hi }

-- whole seconds, or a part below a second: the number, then zeros
abbrev pub number_words : ℕ → Words
number_words n = record { low = n; high = 0 }

-- yes or no: 1 or 0 in the first byte, then zeros
abbrev pub flag_words : Bool → Words
flag_words b = number_words (cond b 1 0)

-- the place of an order: 0 less, 1 equal, 2 greater
abbrev pub place_of : Ordering → ℕ
place_of Less = 0
place_of Equal = 1
place_of Greater = 2

-- an order: its place in the first byte, then zeros
abbrev pub order_words : Ordering → Words
order_words o = number_words (place_of o)

-- an f64: its eight bytes, then zeros. A NaN has the one pattern that the library writes, 0x7FF8000000000000
abbrev pub f64_words : Float → Words
f64_words x = number_words (to_bits binary64 x)

-- an f32: its four bytes, then zeros. A NaN is 0x7FC00000
abbrev pub f32_words : Float → Words
f32_words x = number_words (to_bits binary32 x)

abbrev pub duration_reply : Result Duration Refusal → Reply
duration_reply = reply_of duration_words

abbrev pub wide_reply : Result Wide Refusal → Reply
wide_reply = reply_of wide_words

abbrev pub word_reply : Result ℕ Refusal → Reply
word_reply = reply_of number_words

abbrev pub flag_reply : Result Bool Refusal → Reply
flag_reply = reply_of flag_words

abbrev pub order_reply : Result Ordering Refusal → Reply
order_reply = reply_of order_words

abbrev pub f64_reply : Result Float Refusal → Reply
f64_reply = reply_of f64_words

abbrev pub f32_reply : Result Float Refusal → Reply
f32_reply = reply_of f32_words
