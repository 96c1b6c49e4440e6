-- The samples that document 01 marks as proved, as one table. Assumes nothing.
use Rattle.std.specs.Prelude.{ℕ, ◌-◌, ◌^◌, ◌≡◌, true, false, List, [], ◌∷◌, None, Some, Result, Ok, Err}
use Rattle.laws.specs.Names.{pos, negsuc, Float, inf, fin, binary64, of_bits, Negative, OverflowOrNan, Refusal, words, Duration, N}
use Rattle.arithmetic.specs.Arithmetic.{floor_of, ceil_of}
use Rattle.seconds.specs.From.{seconds_as, from_seconds}
use Rattle.text.specs.Text.{text}
use Rattle.rules.specs.Refusals.{All}

-- a float in and its answer; the text of a duration without fraction digits; a quotient rounded down, and up
pub data Sample : Type 0 where
  from_float : Float → Result Duration Refusal → Sample
  printed : Duration → List ℕ → Sample
  floor ceiling : Duration → Duration → ℕ → Sample

abbrev pub Holds : Sample → Type 0
Holds (from_float x r) = from_seconds x ≡ r
Holds (printed d t) = text (N d) (record { plus = 0; precision = Some 0; width = None; alignment = 0; fill = 0x20 }) ≡ t
Holds (floor a b n) = floor_of a b ≡ Ok (words n)
Holds (ceiling a b n) = ceil_of a b ≡ Ok (words n)

abbrev of : ℕ → ℕ → Duration
of s n = record { secs = s; nanos = n }

-- in 01's order: -0.0; minus infinity; a NaN; 1/1024; 3/1024; 2 ^ -31; 2 ^ -30; 1 - 2 ^ -53; 2 ^ 64; (8388608, 1) and back; "2s"; "4s"; "18446744073709551616s"; 1 s over 300 ms
abbrev pub samples : List Sample
samples =
    from_float (fin true 0 (pos 0)) (Ok (of 0 0))
    ∷ from_float (inf true) (Err Negative)
    ∷ from_float (of_bits binary64 0x7FF8_0000_0000_0000) (Err OverflowOrNan)
    ∷ from_float (fin false 1 (negsuc 9)) (Ok (of 0 976562))
    ∷ from_float (fin false 3 (negsuc 9)) (Ok (of 0 2929688))
    ∷ from_float (fin false 1 (negsuc 30)) (Ok (of 0 0))
    ∷ from_float (fin false 1 (negsuc 29)) (Ok (of 0 1))
    ∷ from_float (fin false (2 ^ 53 - 1) (negsuc 52)) (Ok (of 1 0))
    ∷ from_float (fin false 1 (pos 64)) (Err OverflowOrNan)
    ∷ from_float (seconds_as binary64 (of 8388608 1)) (Ok (of 8388608 2))
    ∷ printed (of 2 500000000) (50 ∷ 115 ∷ [])
    ∷ printed (of 3 500000000) (52 ∷ 115 ∷ [])
    ∷ printed (of 18446744073709551615 500000000) (49 ∷ 56 ∷ 52 ∷ 52 ∷ 54 ∷ 55 ∷ 52 ∷ 52 ∷ 48 ∷ 55 ∷ 51 ∷ 55 ∷ 48 ∷ 57 ∷ 53 ∷ 53 ∷ 49 ∷ 54 ∷ 49 ∷ 54 ∷ 115 ∷ [])
    ∷ floor (of 1 0) (of 0 300000000) 3
    ∷ ceiling (of 1 0) (of 0 300000000) 4
    ∷ []

abbrev pub Samples : Type 0
Samples = All Holds samples
