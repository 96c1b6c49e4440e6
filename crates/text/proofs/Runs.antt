-- The bytes at a list's front that pass a test: where a text's pieces part. Assumes nothing.
use Rattle.std.proofs.Common.{◌≡◌, refl, sym, ap, ◌∙◌, Bool, true, cond, List, [], ◌∷◌, ◌++◌, append_assoc, append-nil, ℕ, length, drop}
use Rattle.std.proofs.Math.Seq.{drop-append_seam}

abbrev pub run : (ℕ → Bool) → List ℕ → List ℕ
run p [] = []
run p (b ∷ l) = cond (p b) (b ∷ run p l) []

-- every byte of a passes
abbrev pub Passes : (ℕ → Bool) → List ℕ → Type 0
Passes p a = (t : List ℕ) → run p (a ++ t) ≡ a ++ run p t

pub pass_none : (p : ℕ → Bool) → Passes p []
pass_none p t = refl

pub pass_one : (p : ℕ → Bool) (b : ℕ) → p b ≡ true → Passes p (b ∷ [])
pass_one p b h t = rw h

pub pass_both : (p : ℕ → Bool) (a b : List ℕ) → Passes p a → Passes p b → Passes p (a ++ b)
pass_both p a b f g t = ap (run p) (append_assoc a b t) ∙ f (b ++ t) ∙ ap (λ (l : List ℕ). a ++ l) (g t) ∙ sym (append_assoc a b (run p t))

pub cancel : (p a b : List ℕ) → p ++ a ≡ p ++ b → a ≡ b
cancel p a b e = sym (drop-append_seam p a) ∙ ap (drop (length p)) e ∙ drop-append_seam p b

-- where the first pieces pass and the second begin with a byte that does not, equal lists have equal pieces
pub pieces : (p : ℕ → Bool) (a b c d : List ℕ) → Passes p a → Passes p c → run p b ≡ [] → run p d ≡ [] → a ++ b ≡ c ++ d → (a ≡ c) × (b ≡ d)
pieces p a b c d f g x y e = (first, cancel a b d (e ∙ ap (λ (l : List ℕ). l ++ d) (sym first)))
  where
    alone : (a b : List ℕ) → Passes p a → run p b ≡ [] → run p (a ++ b) ≡ a
    alone a b f x = f b ∙ ap (λ (l : List ℕ). a ++ l) x ∙ append-nil a

    first : a ≡ c
    first = sym (alone a b f x) ∙ ap (run p) e ∙ alone c d g y
