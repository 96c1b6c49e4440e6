-- The least number with a property: it has it, and none below has. Assumes nothing.
use Rattle.std.proofs.Common.{◌≡◌, refl, sym, ap, Bool, true, false, cond, ℕ, zero, suc, ◌≤◌, ◌<◌, zero-le, suc-le-suc, le_refl, le_of_suc-le-suc, not-suc-le-zero, zero-lt-suc, arith, inl, inr}
use Rattle.std.proofs.Math.Arith.{le-zero}
use Rattle.laws.proofs.Closest.{le_or_lt}
use Rattle.text.specs.Digits.{least}

pub least_is : (p : ℕ → Bool) (f j : ℕ) → j ≤ f → p j ≡ true → ((i : ℕ) → i < j → p i ≡ false) → least p f ≡ j
unfolding least
least_is p zero j h t n = sym (le-zero h)
least_is p (suc f) zero h t n = rw t
least_is p (suc f) (suc j) h t n =
    rw (n zero (zero-lt-suc j)) (ap suc (least_is (λ (i : ℕ). p (suc i)) f j (le_of_suc-le-suc h) t (λ (i : ℕ) (l : i < j). n (suc i) (suc-le-suc l))))

pub least_at : (p : ℕ → Bool) (f : ℕ) → p f ≡ true → p (least p f) ≡ true
unfolding least
least_at p zero t = t
least_at p (suc f) t = go (least_at (λ (i : ℕ). p (suc i)) f t) (p zero) refl
  where
    go : p (suc (least (λ (i : ℕ). p (suc i)) f)) ≡ true → (b : Bool) → p zero ≡ b → p (cond b zero (suc (least (λ (i : ℕ). p (suc i)) f))) ≡ true
    go ih true e = e
    go ih false e = ih

pub least_before : (p : ℕ → Bool) (f i : ℕ) → i < least p f → p i ≡ false
unfolding least
least_before p zero i h = absurd (not-suc-le-zero h)
least_before p (suc f) i h = go (least_before (λ (i : ℕ). p (suc i)) f) (p zero) refl i h
  where
    go : ((i : ℕ) → i < least (λ (i : ℕ). p (suc i)) f → p (suc i) ≡ false) → (b : Bool) → p zero ≡ b → (i : ℕ) → i < cond b zero (suc (least (λ (i : ℕ). p (suc i)) f)) → p i ≡ false
    go ih true e i h = absurd (not-suc-le-zero h)
    go ih false e zero h = e
    go ih false e (suc i) h = ih i (le_of_suc-le-suc h)

pub least_le : (p : ℕ → Bool) (f : ℕ) → least p f ≤ f
unfolding least
least_le p zero = le_refl 0
least_le p (suc f) = go (least_le (λ (i : ℕ). p (suc i)) f) (p zero)
  where
    go : least (λ (i : ℕ). p (suc i)) f ≤ f → (b : Bool) → cond b zero (suc (least (λ (i : ℕ). p (suc i)) f)) ≤ suc f
    go ih true = zero-le
    go ih false = suc-le-suc ih

-- what has the property is not below the least
pub least_under : (p : ℕ → Bool) (f j : ℕ) → p j ≡ true → least p f ≤ j
least_under p f j t = elim (le_or_lt (least p f) j) [
  | inl h ↦ h
  | inr h ↦ let e : p j ≡ false = least_before p f j h in let z : ◌≡◌ {A = ℕ} 0 1 = cc in absurd (omega arith)
]

-- a bound that has the property is as good as any larger one
pub least_bound : (p : ℕ → Bool) (k f : ℕ) → k ≤ f → p k ≡ true → least p f ≡ least p k
unfolding least
least_bound p zero zero h t = refl
least_bound p zero (suc f) h t = rw t
least_bound p (suc k) zero h t = absurd (not-suc-le-zero h)
least_bound p (suc k) (suc f) h t = ap (λ (z : ℕ). cond (p zero) zero (suc z)) (least_bound (λ (i : ℕ). p (suc i)) k f (le_of_suc-le-suc h) t)
