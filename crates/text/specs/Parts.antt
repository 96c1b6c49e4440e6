-- What passes between the steps of printing: what is asked for, a duration in its unit, the digits of a fraction, a number laid out. Assumes nothing.
use Rattle.std.specs.Prelude.{ℕ, ◌+◌, ◌-◌, ◌*◌, ◌/◌, ◌^◌, ◌≤◌, ◌<◌, ◌≡◌, Bool, true, false, List, [], ◌∷◌, ◌++◌, length, take, Result, Ok, Err}
use Rattle.std.specs.Int.{from_bool}
use Rattle.laws.specs.Names.{Refusal, BadOptions, closest, times}
use Rattle.text.specs.declared.{layout.Alignment.Alignment, layout.Layout.Layout, unit.Amount.Amount, unit.Scaled.Scaled, fraction.Fraction.Fraction, round.Rounded.Rounded, number.Number.Number, plain.Plain.Plain, plain.Size.Size}
use Rattle.text.specs.Digits.{ending_digits, decimal, pointed}
use Rattle.text.specs.Text.{Options, limit, accepts, measure, suffix_of, unit_of, exact_places, places_of, shown, characters, lacking, front}

-- how much of the padding goes in front
abbrev pub in_front : Alignment → ℕ → ℕ
in_front Alignment.Left pad = 0
in_front Alignment.Centre pad = pad / 2
in_front Alignment.Right pad = pad

-- l is what o asks for
pub record Asks (o : Options) (l : Layout) : Type 0 where
  pub plus : o.plus ≡ from_bool l.plus
  pub precision : l.precision ≡ o.precision
  pub width : (c : ℕ) → l.width - c ≡ lacking o.width c
  pub front : (pad : ℕ) → in_front l.alignment pad ≡ front o.alignment pad
  pub fill : l.fill ≡ o.fill

-- what looking at the options answers
abbrev pub IsLayout : Options → Result Layout Refusal → Type 0
IsLayout o (Ok l) = (accepts o ≡ true) × Asks o l
IsLayout o (Err e) = (accepts o ≡ false) × (e ≡ BadOptions)

-- an amount in billionths of its unit
abbrev pub billionths : Amount → ℕ
billionths a = a.whole * 10 ^ 9 + a.part

-- s is n nanoseconds in their unit
pub record Scales (n : ℕ) (s : Scaled) : Type 0 where
  pub unit : s.unit ≡ unit_of n
  pub value : billionths s.amount ≡ n * 10 ^ (9 - (measure s.unit).places)

-- f has the digits of x billionths, and how many are in use
pub record IsFraction (x : ℕ) (f : Fraction) : Type 0 where
  pub digits : f.digits ≡ ending_digits 9 x
  pub count : f.count ≡ exact_places 9 x

-- n and x billionths to q digits, in units of the last
unfoldable pub nearest_to : ℕ → ℕ → ℕ → ℕ
nearest_to q n x = closest (n * 10 ^ 9 + x) (10 ^ (9 - q))

-- d became b, whose digits show one more, and v is whether that carries one out of them
abbrev pub Bumps : List ℕ → List ℕ → Bool → Type 0
Bumps d b v = (m : ℕ) → m < 10 ^ length d → d ≡ ending_digits (length d) m → (b ≡ ending_digits (length d) (m + 1)) × (from_bool v ≡ (m + 1) / 10 ^ length d)

-- r is the fraction of x billionths rounded to q digits beside n, and the carry into n
pub record Rounds (n x q : ℕ) (r : Rounded) : Type 0 where
  pub count : r.fraction.count ≡ q
  pub digits : take q r.fraction.digits ≡ ending_digits q (nearest_to q n x)
  pub whole : n + from_bool r.carry ≡ nearest_to q n x / 10 ^ q

-- the digits of f in use, and zeros after them
abbrev pub places : Fraction → ℕ → List ℕ
places f zeros = take f.count f.digits ++ times zeros 48

-- the bytes of a number that is laid out
unfoldable pub laid_out : ℕ → Fraction → ℕ → List ℕ
laid_out whole f zeros = decimal whole ++ pointed (places f zeros)

abbrev pub laid : Number → List ℕ
laid n = laid_out n.whole n.fraction n.zeros

-- each byte of n is a character
abbrev pub IsAscii : Number → Type 0
IsAscii n = characters (laid n) ≡ length (laid n)

abbrev pub sign : Bool → List ℕ
sign false = []
sign true = 43 ∷ []

-- the bytes of a text that is laid out
unfoldable pub emitted : Plain → List ℕ
emitted p = sign p.plus ++ laid p.number ++ suffix_of p.unit

-- what a duration in its unit shows, as it is asked for
unfoldable pub composed : Scaled → Layout → List ℕ
composed s l = sign l.plus ++ shown 9 (billionths s.amount) (places_of l.precision 9 (billionths s.amount)) ++ suffix_of s.unit

-- s is how long p is
pub record Sized (p : Plain) (s : Size) : Type 0 where
  pub bytes : s.bytes ≡ length (emitted p)
  pub characters : s.characters ≡ characters (emitted p)
  pub small : s.bytes ≤ limit + 64

-- a text between its padding
unfoldable pub surrounded : Layout → ℕ → List ℕ → List ℕ
surrounded l pad t = times (in_front l.alignment pad) l.fill ++ t ++ times (pad - in_front l.alignment pad) l.fill
