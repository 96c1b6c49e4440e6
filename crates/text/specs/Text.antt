-- The text of n nanoseconds. It is said over n and the options alone: a text does not know its buffer. Assumes nothing.
use Rattle.std.specs.Prelude.{ℕ, suc, ◌-◌, ◌*◌, ◌/◌, ◌%◌, ◌^◌, cond, ◌&&◌, List, [], ◌∷◌, ◌++◌, leb, ltb, eqb, Option, None, Some}
use Rattle.laws.specs.Names.{closest, times}
use Rattle.text.specs.declared.unit.Unit.{Unit}
use Rattle.text.specs.Digits.{least, numeral}
pub use Rattle.text.specs.Options.{Options, limit, accepts}

-- a unit is 10 ^ places nanoseconds, and has a suffix
pub record Measure : Type 0 where
  pub places : ℕ
  pub suffix : List ℕ

abbrev pub measure : Unit → Measure
measure Unit.Seconds = record { places = 9; suffix = 115 ∷ [] }
measure Unit.Millis = record { places = 6; suffix = 109 ∷ 115 ∷ [] }
measure Unit.Micros = record { places = 3; suffix = 0xC2 ∷ 0xB5 ∷ 115 ∷ [] }
measure Unit.Nanos = record { places = 0; suffix = 110 ∷ 115 ∷ [] }

abbrev pub suffix_of : Unit → List ℕ
suffix_of u = (measure u).suffix

-- the largest unit that n nanoseconds reach, or nanoseconds
unfoldable pub unit_of : ℕ → Unit
unit_of n = cond (leb (10 ^ 9) n) Unit.Seconds (cond (leb (10 ^ 6) n) Unit.Millis (cond (leb (10 ^ 3) n) Unit.Micros Unit.Nanos))

-- the fewest fraction digits that show n over 10 ^ k exactly
unfoldable pub exact_places : ℕ → ℕ → ℕ
exact_places k n = least (λ (p : ℕ). eqb (n * 10 ^ p % 10 ^ k) 0) k

-- how many fraction digits are shown
unfoldable pub places_of : Option ℕ → ℕ → ℕ → ℕ
places_of None k n = exact_places k n
places_of (Some p) k n = p

-- n over 10 ^ k to p fraction digits: the nearest such number, half to even
unfoldable pub shown : ℕ → ℕ → ℕ → List ℕ
shown k n p = numeral (closest (n * 10 ^ p) (10 ^ k)) p

-- sign, number and suffix
unfoldable pub plain_in : Measure → ℕ → Options → List ℕ
plain_in m n o = times o.plus 43 ++ shown m.places n (places_of o.precision m.places n) ++ m.suffix

unfoldable pub plain : ℕ → Options → List ℕ
plain n o = plain_in (measure (unit_of n)) n o

-- how many characters a text has: each byte but those that continue one in UTF-8
unfoldable pub characters : List ℕ → ℕ
characters [] = 0
characters (b ∷ l) = cond (leb 0x80 b && ltb b 0xC0) (characters l) (suc (characters l))

-- how many characters a text of so many lacks
unfoldable pub lacking : Option ℕ → ℕ → ℕ
lacking None c = 0
lacking (Some w) c = w - c

-- how much of the padding goes in front
unfoldable pub front : ℕ → ℕ → ℕ
front alignment pad = cond (eqb alignment 3) pad (cond (eqb alignment 2) (pad / 2) 0)

unfoldable pub padded : ℕ → ℕ → ℕ → List ℕ → List ℕ
padded pad alignment fill t = times (front alignment pad) fill ++ t ++ times (pad - front alignment pad) fill

unfoldable pub text : ℕ → Options → List ℕ
text n o = padded (lacking o.width (characters (plain n o))) o.alignment o.fill (plain n o)
