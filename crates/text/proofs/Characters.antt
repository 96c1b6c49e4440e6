-- How many characters a text has. Assumes nothing.
use Rattle.std.proofs.Common.{◌≡◌, refl, sym, ap, ◌∙◌, Bool, true, false, cond, ◌&&◌, List, [], ◌∷◌, ◌++◌, ℕ, zero, suc, ◌+◌, ◌*◌, ◌/◌, ◌%◌, ◌^◌, ◌<◌, zero-add, suc-add, arith, leb, ltb, length, length-append}
use borrow.Author.Tests.{lt-leb}
use lib.Ieee.Nearest.{closest}
use Rattle.laws.specs.Written.{times}
use Rattle.text.specs.Digits.{ending_digits, width, decimal, pointed, numeral}
use Rattle.text.specs.Text.{characters, shown}

pub chars_append : (a b : List ℕ) → characters (a ++ b) ≡ characters a + characters b
unfolding characters
chars_append [] b = sym (zero-add (characters b))
chars_append (x ∷ a) b = ap (λ (z : ℕ). cond (leb 0x80 x && ltb x 0xC0) z (suc z)) (chars_append a b) ∙ go (leb 0x80 x && ltb x 0xC0)
  where
    go : (t : Bool) → cond t (characters a + characters b) (suc (characters a + characters b)) ≡ cond t (characters a) (suc (characters a)) + characters b
    go true = refl
    go false = sym (suc-add (characters a) (characters b))

-- a byte below 0x80 is a character
pub chars_one : (b : ℕ) (l : List ℕ) → b < 0x80 → characters (b ∷ l) ≡ suc (characters l)
unfolding characters
chars_one b l h = rw (lt-leb 0x80 b h)

pub chars_times : (n b : ℕ) → b < 0x80 → characters (times n b) ≡ n
unfolding times characters
chars_times zero b h = refl
chars_times (suc n) b h = chars_one b (times n b) h ∙ ap suc (chars_times n b h)

pub chars_digits : (k n : ℕ) → characters (ending_digits k n) ≡ length (ending_digits k n)
unfolding ending_digits characters
chars_digits zero n = refl
chars_digits (suc k) n =
    chars_append (ending_digits k (n / 10)) ((48 + n % 10) ∷ [])
    ∙ (λ i. chars_digits k (n / 10) i + chars_one (48 + n % 10) [] (omega arith) i)
    ∙ sym (length-append (ending_digits k (n / 10)) ((48 + n % 10) ∷ []))

chars_pointed : (l : List ℕ) → characters l ≡ length l → characters (pointed l) ≡ length (pointed l)
unfolding pointed
chars_pointed [] h = h
chars_pointed (d ∷ ds) h = chars_one 46 (d ∷ ds) (omega arith) ∙ ap suc h

-- a number has no other bytes
pub chars_shown : (k n p : ℕ) → characters (shown k n p) ≡ length (shown k n p)
unfolding shown numeral decimal
chars_shown k n p = go (closest (n * 10 ^ p) (10 ^ k))
  where
    go : (m : ℕ) → characters (decimal (m / 10 ^ p) ++ pointed (ending_digits p m)) ≡ length (decimal (m / 10 ^ p) ++ pointed (ending_digits p m))
    go m =
        chars_append (decimal (m / 10 ^ p)) (pointed (ending_digits p m))
        ∙ (λ i. chars_digits (width (m / 10 ^ p)) (m / 10 ^ p) i + chars_pointed (ending_digits p m) (chars_digits p m) i)
        ∙ sym (length-append (decimal (m / 10 ^ p)) (pointed (ending_digits p m)))
