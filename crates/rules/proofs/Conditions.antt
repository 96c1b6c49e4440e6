-- What the definitions test is what document 01 says, the other way round. Assumes nothing.
use mathlib.Core.Path.{◌≡◌, refl, ◌∙◌}
use mathlib.Core.Bool.{Bool, true, false, not, ◌&&◌, ◌||◌}
use mathlib.Core.List.{List, [], ◌∷◌}
use Prim.Native.Nat.{ℕ, ◌%◌, ◌^◌, ◌≤◌, ◌<◌}
use native.Mathlib.Omega.{arith}
use borrow.Author.Tests.{ltb-true, ltb-false, leb-true, leb-false, lt-ltb, le-ltb, le-leb, lt-leb}
use lib.Dec.{leb, ltb, eqb}
use Rattle.duration.specs.declared.Duration.{Duration}
use Rattle.duration.specs.Meaning.{N, valid, most}
use Rattle.sums.specs.Sum.{each_valid, within, whole_rows}
use Rattle.std.specs.Prelude.{Option, None, Some}
use Rattle.text.specs.declared.Options.{Options}
use Rattle.text.specs.Options as Options
use Rattle.rules.specs.Refusals.{any, bad, above, bad_options}

-- ---- numbers
pub not_above : (m n : ℕ) → leb m n ≡ not (ltb n m)
not_above m n = go (ltb n m) refl
  where
    go : (b : Bool) → ltb n m ≡ b → leb m n ≡ not b
    go true e = lt-leb m n (ltb-true n m e)
    go false e = le-leb m n (ltb-false n m e)

pub not_reached : (m n : ℕ) → ltb m n ≡ not (leb n m)
not_reached m n = go (leb n m) refl
  where
    go : (b : Bool) → leb n m ≡ b → ltb m n ≡ not b
    go true e = le-ltb m n (leb-true n m e)
    go false e = lt-ltb m n (leb-false n m e)

-- ---- durations
pub is_valid : (d : Duration) → valid d ≡ not (bad d)
unfolding valid
is_valid d = not_reached d.nanos (10 ^ 9)

and_not : (a b : Bool) → not a && not b ≡ not (a || b)
and_not true b = refl
and_not false b = refl

pub are_valid : (a b : Duration) → valid a && valid b ≡ not (bad a || bad b)
are_valid a b = (λ i. is_valid a i && is_valid b i) ∙ and_not (bad a) (bad b)

pub at_most : (d : Duration) → d.secs < 2 ^ 64 → bad d ≡ false → N d ≤ most
at_most d s h = omega (arith, leb-false (10 ^ 9) d.nanos h)

-- ---- lists
pub all_valid : (ds : List Duration) → each_valid ds ≡ not (any bad ds)
unfolding each_valid
all_valid [] = refl
all_valid (d ∷ ds) = (λ i. is_valid d i && all_valid ds i) ∙ and_not (bad d) (any bad ds)

pub is_within : (m n first end : ℕ) → within m n first end ≡ not (not (eqb m n) || ltb end first || ltb m end)
unfolding within
is_within m n first end = (λ i. eqb m n && not_above first end i && not_above end m i) ∙ go (eqb m n) (ltb end first) (ltb m end)
  where
    go : (a b c : Bool) → a && not b && not c ≡ not (not a || b || c)
    go true b c = and_not b c
    go false b c = refl

pub are_whole : (m n : ℕ) → whole_rows m n ≡ not (not (eqb (m % 8) 0) || not (eqb (n % 4) 0))
unfolding whole_rows
are_whole m n = go (eqb (m % 8) 0) (eqb (n % 4) 0)
  where
    go : (a b : Bool) → a && b ≡ not (not a || not b)
    go true true = refl
    go true false = refl
    go false b = refl

-- ---- options
within-limit : (c : Option ℕ) → Options.within c ≡ not (above c)
unfolding Options.within
within-limit None = refl
within-limit (Some n) = not_above n 255

pub are_accepted : (o : Options) → Options.accepts o ≡ not (bad_options o)
unfolding Options.accepts
are_accepted o =
    (λ i. not_above o.plus 1 i && (not_above o.alignment 3 i && (not_above 0x20 o.fill i && (not_above o.fill 0x7E i && (within-limit o.precision i && within-limit o.width i)))))
    ∙ go (ltb 1 o.plus) (ltb 3 o.alignment) (ltb o.fill 0x20) (ltb 0x7E o.fill) (above o.precision) (above o.width)
  where
    go : (a b c d e f : Bool) → not a && (not b && (not c && (not d && (not e && not f)))) ≡ not (a || b || c || d || e || f)
    go true b c d e f = refl
    go false true c d e f = refl
    go false false true d e f = refl
    go false false false true e f = refl
    go false false false false e f = and_not e f
