-- The text without padding: what it is made of, and how long it is. Assumes nothing.
use Rattle.std.proofs.Common.{◌≡◌, refl, sym, ap, ◌∙◌, ℕ, ◌+◌, ◌-◌, ◌*◌, ◌^◌, ◌≤◌, Bool, true, false, List, ◌++◌, length, length-append, lit≤}
use Rattle.std.specs.Int.{from_bool}
use Rattle.laws.specs.Written.{times}
use Rattle.text.specs.declared.Options.{Options}
use Rattle.text.specs.declared.layout.Layout.{Layout}
use Rattle.text.specs.declared.unit.Unit.{Unit}
use Rattle.text.specs.declared.unit.Unit.TheVariants.{Seconds, Millis, Micros, Nanos}
use Rattle.text.specs.declared.unit.Scaled.{Scaled}
use Rattle.text.specs.declared.number.Number.{Number}
use Rattle.text.specs.declared.plain.Plain.{Plain}
use Rattle.text.specs.Text.{measure, suffix_of, places_of, shown, plain_in, plain, characters}
use Rattle.text.specs.Parts.{Asks, Scales, laid, IsAscii, sign, emitted, composed}
use Rattle.text.proofs.Scaling.{shown-scaled, of-scaled}
use Rattle.text.proofs.Characters.{chars_append, chars_shown}

pub length_sign : (b : Bool) → length (sign b) ≡ from_bool b
length_sign true = refl
length_sign false = refl

pub sign_le : (b : Bool) → from_bool b ≤ 1
sign_le true = lit≤ tt
sign_le false = lit≤ tt

chars_sign : (b : Bool) → characters (sign b) ≡ from_bool b
unfolding characters
chars_sign true = refl
chars_sign false = refl

pub places_nine : (u : Unit) → (measure u).places ≤ 9
places_nine Seconds = lit≤ tt
places_nine Millis = lit≤ tt
places_nine Micros = lit≤ tt
places_nine Nanos = lit≤ tt

pub suffix_le : (u : Unit) → length (suffix_of u) ≤ 3
suffix_le Seconds = lit≤ tt
suffix_le Millis = lit≤ tt
suffix_le Micros = lit≤ tt
suffix_le Nanos = lit≤ tt

pub suffix_characters_le : (u : Unit) → characters (suffix_of u) ≤ 3
unfolding characters
suffix_characters_le Seconds = lit≤ tt
suffix_characters_le Millis = lit≤ tt
suffix_characters_le Micros = lit≤ tt
suffix_characters_le Nanos = lit≤ tt

-- ---- the three pieces
pub length_emitted : (p : Plain) → length (emitted p) ≡ from_bool p.plus + length (laid p.number) + length (suffix_of p.unit)
unfolding emitted
length_emitted p =
    length-append (sign p.plus ++ laid p.number) (suffix_of p.unit)
    ∙ ap (λ (z : ℕ). z + length (suffix_of p.unit)) (length-append (sign p.plus) (laid p.number) ∙ ap (λ (z : ℕ). z + length (laid p.number)) (length_sign p.plus))

pub characters_emitted : (p : Plain) → IsAscii p.number → characters (emitted p) ≡ from_bool p.plus + length (laid p.number) + characters (suffix_of p.unit)
unfolding emitted
characters_emitted p h =
    chars_append (sign p.plus ++ laid p.number) (suffix_of p.unit)
    ∙ ap (λ (z : ℕ). z + characters (suffix_of p.unit)) (chars_append (sign p.plus) (laid p.number) ∙ (λ i. chars_sign p.plus i + h i))

-- ---- what a duration in its unit shows is the text of its nanoseconds
sign_is : (b : Bool) {k : ℕ} → k ≡ from_bool b → sign b ≡ times k 43
unfolding times
sign_is false e = rw e
sign_is true e = rw e

pub composed_is : (n : ℕ) (o : Options) {s : Scaled} {l : Layout} → Scales n s → Asks o l → composed s l ≡ plain n o
unfolding composed plain plain_in
composed_is n o {s} {l} a q =
    (λ i. sign_is l.plus q.plus i ++ shown 9 (a.value i) (places_of (q.precision i) 9 (a.value i)) ++ suffix_of s.unit)
    ∙ ap (λ (y : List ℕ). times o.plus 43 ++ y ++ suffix_of s.unit) scaled
    ∙ ap (λ (u : Unit). plain_in (measure u) n o) a.unit
  where
    k : ℕ
    k = (measure s.unit).places

    scaled : shown 9 (n * 10 ^ (9 - k)) (places_of o.precision 9 (n * 10 ^ (9 - k))) ≡ shown k n (places_of o.precision k n)
    scaled = ap (shown 9 (n * 10 ^ (9 - k))) (of-scaled k n (places_nine s.unit) o.precision) ∙ shown-scaled k n (places_nine s.unit) (places_of o.precision k n)

-- a number that shows a value has no other characters
pub ascii_is : (v p : ℕ) (n : Number) → laid n ≡ shown 9 v p → IsAscii n
ascii_is v p n e = ap characters e ∙ chars_shown 9 v p ∙ ap length (sym e)
