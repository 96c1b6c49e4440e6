-- The law that makes a contract tight, and its forms: one for each way in which a contract says what is answered. Assumes nothing.
use mathlib.Core.Path.{◌≡◌, refl, sym, ap, ◌∙◌}
use mathlib.Core.List.{List}
use Prim.Native.Nat.{ℕ, zero, suc}
use lib.IntN.{ℤ}
use lib.ListN.{length}
use Rattle.std.specs.Prelude.{Result}
use Rattle.refusal.specs.declared.Refusal.{Refusal}
use Rattle.door.specs.Door.{Gives}
use Rattle.duration.specs.declared.Duration.{Duration}
use Rattle.duration.specs.Meaning.{N}
use Rattle.text.specs.declared.Options.{Options}
use Rattle.text.specs.Text.{text}
use Rattle.text.specs.Answer.{Printed, answer_of, left_in}
use Rattle.reply.specs.Reply.{Replied}
use Rattle.saltribbon.specs.Said.{Said}

-- the law: where a contract says what the result is, and what is left of what was lent, any two answers are equal
pub law : {A B : Type 0} {r s a : A} {u v b : B} → (r ≡ a) × (u ≡ b) → (s ≡ a) × (v ≡ b) → (r ≡ s) × (u ≡ v)
law p q = (p.0 ∙ sym q.0, p.1 ∙ sym q.1)

-- ---- a contract `r ≡ a`, of a call that is lent nothing to write in
pub plain : {A B : Type 0} {r s a : A} {u : B} → r ≡ a → s ≡ a → (r ≡ s) × (u ≡ u)
plain p q = law (p, refl) (q, refl)

-- ---- what is left of the parameters where the last one is a lent buffer, and n stand before it
abbrev Lent : ℕ → Type 0
Lent zero = List ℕ × Unit {0}
Lent (suc n) = Unit {0} × Lent n

abbrev pub after : (n : ℕ) → List ℕ → Lent n
after zero xs = (xs, tt)
after (suc n) xs = (tt, after n xs)

-- ---- a C function of `door`
pub gives : (n : ℕ) {x : _} {r s : ℕ} {before us vs : List ℕ} → Gives x r before us → Gives x s before vs → (r ≡ s) × (after n us ≡ after n vs)
gives n p q = law (p.code, ap (after n) p.left) (q.code, ap (after n) q.left)

-- ---- the text
pub printed : (n : ℕ) {before us vs : List ℕ} {d : Duration} {o : Options} {r s : Result ℕ Refusal} → Printed before us d o r → Printed before vs d o s → (r ≡ s) × (after n us ≡ after n vs)
printed n {before} {us} {vs} {d} {o} p q = law (p.answer, ap (after n) (held p)) (q.answer, ap (after n) (held q))
  where
    held : {r : Result ℕ Refusal} {us : List ℕ} → Printed before us d o r → us ≡ left_in (answer_of d o (length before)) (text (N d) o) before
    held p = p.left ∙ ap (λ (z : Result ℕ Refusal). left_in z (text (N d) o) before) p.answer

-- ---- a C function
pub replied : (n : ℕ) {x : _} {r s : ℕ} {before us vs : List ℕ} → Replied before us x r → Replied before vs x s → (r ≡ s) × (after n us ≡ after n vs)
replied n p q = law (p.code, ap (after n) p.left) (q.code, ap (after n) q.left)

-- ---- the text's C function
pub said : (n : ℕ) {before us vs : List ℕ} {d : Duration} {o : Options} {r s : ℤ} → Said before us d o r → Said before vs d o s → (r ≡ s) × (after n us ≡ after n vs)
said n p q = law (p.code, ap (after n) p.left) (q.code, ap (after n) q.left)
