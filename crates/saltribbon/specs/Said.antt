-- What the text's C function takes, returns and leaves in the lent buffer. Assumes nothing.
use Rattle.std.specs.Int.Signed.{le_z}
use Rattle.std.specs.Prelude.{ℕ, zero, suc, ◌-◌, ◌^◌, ◌<◌, ◌≡◌, Bool, ◌&&◌, List, length, Option, None, Some, Result, Ok, Err}
use Rattle.laws.specs.Names.{ℤ, pos, negsuc, neg_ℤ, Refusal, number_of, Duration, N}
use Rattle.text.specs.declared.Options.{Options}
use Rattle.text.specs.Answer.{limit, accepts, text, answer_of, left_in}

-- an option's number: what is below zero is the largest word, which no limit admits
abbrev pub option_of : ℤ → ℕ
option_of (pos n) = n
option_of (negsuc n) = 2 ^ 64 - 1

-- a number of digits or of characters: -1 is none
abbrev pub count_of : ℤ → Option ℕ
count_of (pos n) = Some n
count_of (negsuc zero) = None
count_of (negsuc (suc n)) = Some (2 ^ 64 - 1)

abbrev pub options_of : ℤ → ℤ → ℤ → ℤ → ℤ → Options
options_of plus precision width align fill = record { plus = option_of plus; precision = count_of precision; width = count_of width; alignment = option_of align; fill = option_of fill }

-- the length, or the refusal's number negated
abbrev pub signed_of : Result ℕ Refusal → ℤ
signed_of (Ok k) = pos k
signed_of (Err f) = neg_ℤ (pos (number_of f))

-- a length that is a signed word
abbrev pub Short : Result ℕ Refusal → Type 0
Short (Ok k) = k < 2 ^ 63
Short (Err f) = Unit {0}

-- what a call that returns r does
pub record Said (before after : List ℕ) (d : Duration) (o : Options) (r : ℤ) : Type 0 where
  pub code : r ≡ signed_of (answer_of d o (length before))
  pub left : after ≡ left_in (answer_of d o (length before)) (text (N d) o) before

-- a number from low to high
abbrev pub between : ℤ → ℤ → ℤ → Bool
between low high z = le_z low z && le_z z high

-- the numbers that are accepted: those of document 01, with -1 for none
abbrev pub AcceptedNumbers : Type 0
AcceptedNumbers = (plus precision width align fill : ℤ)
    → accepts (options_of plus precision width align fill) ≡ between (pos 0) (pos 1) plus && (between (pos 0) (pos 3) align && (between (pos 0x20) (pos 0x7E) fill && (between (negsuc 0) (pos limit) precision && between (negsuc 0) (pos limit) width)))
