-- The order of checks chooses the first condition that holds. Assumes nothing.
use mathlib.Core.Path.{◌≡◌, refl, sym, ap, ◌∙◌}
use mathlib.Core.Bool.{Bool, true, false, cond, not, ◌&&◌, ◌||◌}
use mathlib.Core.List.{List, [], ◌∷◌, ◌++◌, append-nil}
use Prim.Native.Nat.{ℕ}
use native.Mathlib.Omega.{arith}
use borrow.Author.Tests.{eqb-false, ne_eqb, not-true}
use lib.Dec.{eqb}
use Rattle.text.proofs.Accepts.{both}
use Rattle.rules.specs.Refusals.{Grounds, any, holds, order, first_holding, Exactly, Answered}

-- ---- a list of statements, one by one
infixr 5 ◌also◌
pub ◌also◌ : {A B : Type 0} → A → B → A × B
◌also◌ a b = (a, b)

-- ---- tests
pub differ : {b : Bool} → b ≡ true → b ≡ false → ⊥
differ h k = let z : ◌≡◌ {A = ℕ} 0 1 = cc in omega arith

pub neither : (a b : Bool) → a || b ≡ false → (a ≡ false) × (b ≡ false)
neither true b h = absurd (differ refl h)
neither false b h = (refl, h)

-- ---- a number stands once in a list
once : List ℕ → Bool
once [] = true
once (m ∷ l) = not (any (eqb m) l) && once l

not_among : (m n : ℕ) (before after : List ℕ) → any (eqb m) (before ++ n ∷ after) ≡ false → eqb n m ≡ false
not_among m n [] after h = ne_eqb n m (λ (e : n ≡ m). eqb-false m n (neither (eqb m n) _ h).0 (sym e))
not_among m n (k ∷ before) after h = not_among m n before after (neither (eqb m k) _ h).1

alone : (n : ℕ) (before after : List ℕ) → once (before ++ n ∷ after) ≡ true → (any (eqb n) before ≡ false) × (any (eqb n) after ≡ false)
unfolding once
alone n [] after h = (refl, not-true _ (both (not (any (eqb n) after)) _ h).0)
alone n (m ∷ before) after h =
    let p = both (not (any (eqb m) (before ++ n ∷ after))) _ h in
    let q = alone n before after p.1 in
    (rw (not_among m n before after (not-true _ p.0)) q.0, q.1)

-- ---- the first that holds
after_none : (l : Grounds) (before rest : List ℕ) → any (holds l) before ≡ false → first_holding l (before ++ rest) ≡ first_holding l rest
after_none l [] rest h = refl
after_none l (m ∷ before) rest h = let p = neither (holds l m) _ h in rw p.0 (after_none l before rest p.1)

none_before : (l : Grounds) (n : ℕ) (before rest : List ℕ) → any (eqb n) before ≡ false → first_holding l (before ++ rest) ≡ n → any (holds l) before ≡ false
none_before l n [] rest d e = refl
none_before l n (m ∷ before) rest d e = go (holds l m) (none_before l n before rest (neither (eqb n m) _ d).1) e
  where
    go : (b : Bool) → (first_holding l (before ++ rest) ≡ n → any (holds l) before ≡ false) → cond b m (first_holding l (before ++ rest)) ≡ n → b || any (holds l) before ≡ false
    go true k e = absurd (eqb-false n m (neither (eqb n m) _ d).0 (sym e))
    go false k e = k e

-- ---- the theorems, of a list in which each number stands once, and no 0
module _ (l : Grounds) (before after : List ℕ) (n : ℕ) (h : once (0 ∷ before ++ n ∷ after) ≡ true) where
  given : first_holding l (before ++ n ∷ after) ≡ n → (holds l n ≡ true) × (any (holds l) before ≡ false)
  given e = (go (holds l n) refl (sym (after_none l before (n ∷ after) none) ∙ e), none)
    where
      d : (any (eqb n) (0 ∷ before) ≡ false) × (any (eqb n) after ≡ false)
      d = alone n (0 ∷ before) after h

      none : any (holds l) before ≡ false
      none = none_before l n before (n ∷ after) (neither (eqb n 0) _ d.0).1 e

      go : (b : Bool) → holds l n ≡ b → cond b n (first_holding l after) ≡ n → b ≡ true
      go true k e = refl
      go false k e =
          let q = append-nil after in
          let z = none_before l n after [] d.1 (ap (first_holding l) q ∙ e) in
          absurd (eqb-false n 0 (neither (eqb n 0) _ d.0).0 (sym e ∙ sym (ap (first_holding l) q) ∙ after_none l after [] z))

  gives : (holds l n ≡ true) × (any (holds l) before ≡ false) → first_holding l (before ++ n ∷ after) ≡ n
  gives p = after_none l before (n ∷ after) p.1 ∙ rw p.0

pub exactly : Exactly
unfolding once
exactly l before after n e =
    let h : once (0 ∷ before ++ n ∷ after) ≡ true = ap (λ (z : List ℕ). once (0 ∷ z)) (sym e) in
    let c = ap (first_holding l) e in
    (λ g. given l before after n h (sym c ∙ g), λ p. c ∙ gives l before after n h p)

pub answered : Answered
answered l = (none_before l 0 order [] refl, after_none l order [])
