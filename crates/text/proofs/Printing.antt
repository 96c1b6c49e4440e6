-- Padding, and the answers of printing. Assumes nothing.
use Rattle.std.proofs.Common.{◌≡◌, refl, sym, ap, ◌∙◌, ℕ, ◌+◌, ◌-◌, ◌/◌, ◌≤◌, ◌<◌, Bool, true, false, cond, eqb, List, ◌++◌, length, drop, length-append, Ok, Err, arith, le-leb}
use borrow.Author.Tests.{lt-leb}
use Rattle.refusal.specs.declared.Refusal.TheVariants.{NoRoom, BadDuration}
use Rattle.duration.specs.declared.Duration.{Duration}
use Rattle.duration.specs.Meaning.{N, valid, checked}
use Rattle.laws.specs.Written.{times, Wrote}
use Rattle.laws.proofs.Written.{length-times, splice_is, as_bytes}
use Rattle.text.specs.declared.Options.{Options}
use Rattle.text.specs.declared.layout.Alignment.{Alignment}
use Rattle.text.specs.declared.layout.Alignment.TheVariants.{Left, Centre, Right}
use Rattle.text.specs.declared.layout.Layout.{Layout}
use Rattle.text.specs.declared.plain.Plain.{Plain}
use Rattle.text.specs.declared.plain.Size.{Size}
use Rattle.text.specs.declared.unit.Scaled.{Scaled}
use Rattle.text.specs.Options.{accepts}
use Rattle.text.specs.Text.{lacking, front, padded, plain, characters, text}
use Rattle.text.specs.Parts.{in_front, Scales, Asks, emitted, composed, Sized, surrounded}
use Rattle.text.specs.Answer.{fitted, answer_of, left_in, Printed}
use Rattle.text.proofs.Characters.{chars_append, chars_times}
use Rattle.text.proofs.Plains.{composed_is}

-- ---- padding
pub front_le : (alignment pad : ℕ) → front alignment pad ≤ pad
unfolding front
front_le alignment pad = go (eqb alignment 3) (eqb alignment 2)
  where
    go : (a b : Bool) → cond a pad (cond b (pad / 2) 0) ≤ pad
    go true b = omega arith
    go false true = omega arith
    go false false = omega arith

pub length-padded : (pad alignment b : ℕ) (t : List ℕ) → length (padded pad alignment b t) ≡ length t + pad
unfolding padded
length-padded pad alignment b t =
    let k : ℕ = front alignment pad in
    omega (arith, front_le alignment pad, length-append (times k b ++ t) (times (pad - k) b), length-append (times k b) t, length-times k b, length-times (pad - k) b)

pub characters-padded : (pad alignment b : ℕ) (t : List ℕ) → b < 0x80 → characters (padded pad alignment b t) ≡ characters t + pad
unfolding padded
characters-padded pad alignment b t h =
    let k : ℕ = front alignment pad in
    omega (arith, front_le alignment pad, chars_append (times k b ++ t) (times (pad - k) b), chars_append (times k b) t, chars_times k b h, chars_times (pad - k) b h)

-- what goes in front is some of the padding
pub in_front_le : (a : Alignment) (pad : ℕ) → in_front a pad ≤ pad
in_front_le Left pad = omega arith
in_front_le Centre pad = omega arith
in_front_le Right pad = omega arith

pub length-surrounded : (l : Layout) (pad : ℕ) (t : List ℕ) → length (surrounded l pad t) ≡ length t + pad
unfolding surrounded
length-surrounded l pad t =
    let k : ℕ = in_front l.alignment pad in
    omega (arith, in_front_le l.alignment pad, length-append (times k l.fill ++ t) (times (pad - k) l.fill), length-append (times k l.fill) t, length-times k l.fill, length-times (pad - k) l.fill)

pub surrounds : (l : Layout) (pad : ℕ) (t : List ℕ) {k : ℕ} → k ≡ in_front l.alignment pad → times k l.fill ++ t ++ times (pad - k) l.fill ≡ surrounded l pad t
unfolding surrounded
surrounds l pad t e = ap (λ (k : ℕ). times k l.fill ++ t ++ times (pad - k) l.fill) e

-- ---- the answers: what was measured and is written is the text
-- the pair that was looked at
checked_is : (d : Duration) {e : Duration} → checked d ≡ Ok e → (valid d ≡ true) × (e ≡ d)
unfolding checked
checked_is d {e} h = go (valid d) h
  where
    go : (b : Bool) → cond b (Ok d) (Err BadDuration) ≡ Ok e → (b ≡ true) × (e ≡ d)
    go true h = (refl, cc)
    go false h = cc

module _ (d : Duration) (o : Options) {e : Duration} {s : Scaled} {l : Layout} {p : Plain} {z : Size} {pad : ℕ}
    (good : checked d ≡ Ok e) (a : Scales (N e) s) (asked : (accepts o ≡ true) × Asks o l) (m : emitted p ≡ composed s l) (sized : Sized p z) (h : pad ≡ l.width - z.characters) where
  whole_text : surrounded l pad (emitted p) ≡ text (N d) o
  unfolding text surrounded padded
  whole_text = (λ i. times (before i) (q.fill i) ++ emitted p ++ times (lacks i - before i) (q.fill i)) ∙ ap (λ (t : List ℕ). padded (lacking o.width (characters t)) o.alignment o.fill t) plain_is
    where
      q : Asks o l
      q = asked.1

      plain_is : emitted p ≡ plain (N d) o
      plain_is = m ∙ composed_is (N d) o (rw (checked_is d good).1 at a) q

      lacks : pad ≡ lacking o.width (characters (emitted p))
      lacks = h ∙ q.width z.characters ∙ ap (lacking o.width) sized.characters

      before : in_front l.alignment pad ≡ front o.alignment (lacking o.width (characters (emitted p)))
      before = q.front pad ∙ ap (front o.alignment) lacks

  length-text : length (text (N d) o) ≡ z.bytes + pad
  length-text = sym (ap length whole_text) ∙ length-surrounded l pad (emitted p) ∙ ap (λ (k : ℕ). k + pad) (sym sized.bytes)

  by-room : (xs : List ℕ) → fitted (text (N d) o) (length xs) ≡ answer_of d o (length xs)
  unfolding answer_of
  by-room xs = rw ((checked_is d good).0, asked.0)

  pub no_room : (xs : List ℕ) → length xs < z.bytes + pad → Printed xs xs d o (Err NoRoom)
  unfolding left_in fitted
  no_room xs k = record { answer = let b = by-room xs in rw (lt-leb (length (text (N d) o)) (length xs) (omega (arith, k, length-text))) at b; left = refl }

  pub placed : {xs zs : List ℕ} {r : ℕ} → z.bytes + pad ≤ length xs → Wrote xs zs 0 r (surrounded l pad (emitted p)) → Printed xs zs d o (Ok r)
  unfolding left_in fitted
  placed {xs} {zs} {r} k u = record {
    answer = ap Ok (omega (arith, w.next)) ∙ rw (le-leb (length (text (N d) o)) (length xs) fits) at (by-room xs);
    left = w.bytes ∙ splice_is xs 0 (text (N d) o) (omega (arith, fits)) ∙ ap (λ (k : ℕ). text (N d) o ++ drop k xs) (sym w.next);
  }
    where
      w : Wrote xs zs 0 r (text (N d) o)
      w = as_bytes whole_text u

      fits : length (text (N d) o) ≤ length xs
      fits = omega (arith, k, length-text)
