-- Signed numbers at the text's C function: a refusal that goes out, every answer's length, and the numbers that are accepted. Assumes nothing.
use mathlib.Core.Path.{◌≡◌, refl, sym, ap, ◌∙◌}
use mathlib.Core.Bool.{Bool, true, false, cond, ◌&&◌}
use Prim.Native.Nat.{ℕ, zero, suc, ◌-◌, ◌^◌, ◌≤◌, ◌<◌}
use native.Mathlib.Nat.{lt_of_le_of_lt}
use native.Mathlib.Omega.{arith}
use borrow.Author.Tests.{ltb-true, lt-leb}
use lib.Dec.{leb, lit<, leb-zero, leb-suc-zero}
use lib.IntN.{ℤ, pos, negsuc, neg_ℤ, ◌-ℤ◌, +ℤ_idl}
use lib.ListN.{length}
use mir.Syntax.{w64}
use mir.Val.{SFits, of_z, to_z}
use mir.Facts.{to_z-of_z, to_z_pos}
use Rattle.std.specs.Prelude.{Result, Ok, Err}
use Rattle.refusal.specs.Numbers.{number_of}
use Rattle.refusal.specs.declared.Refusal.{Refusal}
use Rattle.refusal.specs.declared.Refusal.TheVariants.{BadOptions, NoRoom, BadDuration}
use Rattle.duration.specs.declared.Duration.{Duration}
use Rattle.duration.specs.Meaning.{N, valid, most}
use Rattle.text.specs.declared.Options.{Options}
use Rattle.text.specs.Options.{limit, within, accepts}
use Rattle.text.specs.Text.{text}
use Rattle.text.specs.Answer.{fitted, answer_of}
use Rattle.text.proofs.Theorems.{longest}
use Rattle.saltribbon.specs.Said.{option_of, count_of, signed_of, Short, between, AcceptedNumbers}

-- ---- the number that goes out
negated_fits : (n : ℕ) → n < 2 ^ 63 → SFits w64 (neg_ℤ (pos n))
negated_fits zero h = record { sfits = h }
negated_fits (suc n) h = record { sfits = omega arith }

negated : (n : ℕ) → n < 2 ^ 63 → pos 0 -ℤ to_z w64 n ≡ neg_ℤ (pos n)
negated n h = ap (λ (z : ℤ). pos 0 -ℤ z) (to_z_pos w64 h) ∙ +ℤ_idl (neg_ℤ (pos n))

refusal_fits : {n : ℕ} → n < 2 ^ 63 → SFits w64 (pos 0 -ℤ to_z w64 n)
refusal_fits {n} h = rw (negated n h) (negated_fits n h)

pub sent_refusal : {a : Result ℕ Refusal} {f : Refusal} {n : ℕ} → a ≡ Err f → n ≡ number_of f → n < 2 ^ 63 → to_z w64 (of_z w64 (pos 0 -ℤ to_z w64 n)) ≡ signed_of a
sent_refusal {a} {f} {n} e g h = to_z-of_z (refusal_fits h) ∙ negated n h ∙ ap (λ (k : ℕ). neg_ℤ (pos k)) g ∙ ap signed_of (sym e)

-- ---- every answer's length is a signed word
pub short : (d : Duration) (o : Options) (room : ℕ) → d.secs < 2 ^ 64 → Short (answer_of d o room)
unfolding answer_of fitted valid
short d o room h = go (valid d) (accepts o) (leb (length (text (N d) o)) room) refl refl
  where
    go : (a b c : Bool) → valid d ≡ a → accepts o ≡ b → Short (cond a (cond b (cond c (Ok (length (text (N d) o))) (Err NoRoom)) (Err BadOptions)) (Err BadDuration))
    go true true true e f = let top : N d ≤ most = omega (arith, ltb-true d.nanos (10 ^ 9) e) in lt_of_le_of_lt (longest (N d) o top f) (lit< tt)
    go true true false e f = tt
    go true false c e f = tt
    go false b c e f = tt

-- ---- which numbers are accepted
up_to : (z : ℤ) (c : ℕ) → c < 2 ^ 64 - 1 → leb (option_of z) c ≡ between (pos 0) (pos c) z
up_to (pos n) c h = rw (leb-zero n)
up_to (negsuc n) c h = lt-leb (2 ^ 64 - 1) c h

count_to : (z : ℤ) → within (count_of z) ≡ between (negsuc 0) (pos limit) z
unfolding within
count_to (pos n) = refl
count_to (negsuc zero) = refl
count_to (negsuc (suc n)) = rw (leb-suc-zero n)

fill_to : (z : ℤ) → leb 0x20 (option_of z) && leb (option_of z) 0x7E ≡ between (pos 0x20) (pos 0x7E) z
fill_to (pos n) = refl
fill_to (negsuc n) = refl

grouped : (a b c : Bool) → a && (b && c) ≡ a && b && c
grouped true b c = refl
grouped false b c = refl

pub accepted-numbers : AcceptedNumbers
unfolding accepts
accepted-numbers plus precision width align fill =
    ap (λ (t : Bool). leb (option_of plus) 1 && (leb (option_of align) 3 && t)) (grouped (leb 0x20 (option_of fill)) (leb (option_of fill) 0x7E) (within (count_of precision) && within (count_of width)))
    ∙ (λ i. up_to plus 1 (lit< tt) i && (up_to align 3 (lit< tt) i && (fill_to fill i && (count_to precision i && count_to width i))))
