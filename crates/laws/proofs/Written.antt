-- Lists that are written into: what a write leaves, two writes in a row, and the loops that write. Assumes nothing.
use mathlib.Core.Path.{◌≡◌, refl, sym, ap, ◌∙◌}
use mathlib.Core.List.{List, [], ◌∷◌, ◌++◌, append-nil}
use Prim.Native.Nat.{ℕ, suc, ◌+◌, ◌-◌, ◌≤◌, ◌<◌}
use native.Mathlib.Nat.{add-suc, suc-add, add-zero, zero-add}
use native.Mathlib.Numerals.{add-one}
use native.Mathlib.Omega.{arith}
use lib.ListN.{length, take, drop, set, get_or, length-append, length-replicate}
use lib.Seq.{sets, sets-eq, drop-cons, set_comm, drop-length}
use Rattle.laws.specs.Written.{splice, times, Wrote}

-- the elements before, the written list, the elements after
pub splice_is : (xs : List ℕ) (i : ℕ) (ys : List ℕ) → i + length ys ≤ length xs → splice xs i ys ≡ take i xs ++ ys ++ drop (i + length ys) xs
unfolding splice
splice_is xs i ys h = sets-eq ys xs i h

pub splice_none : (xs : List ℕ) (i : ℕ) → splice xs i [] ≡ xs
unfolding splice
splice_none xs i = refl

-- two writes in a row are one
pub splice-append : (xs : List ℕ) (i : ℕ) (a b : List ℕ) → splice (splice xs i a) (i + length a) b ≡ splice xs i (a ++ b)
unfolding splice
splice-append xs i [] b = ap (λ (k : ℕ). sets xs k b) (add-zero i)
splice-append xs i (x ∷ a) b =
    ap (λ (k : ℕ). sets (sets (set xs i x) (suc i) a) k b) (add-suc i (length a) ∙ sym (suc-add i (length a))) ∙ splice-append (set xs i x) (suc i) a b

-- a write whose last element is stored first
pub splice_last : (xs : List ℕ) (i : ℕ) (a : List ℕ) (y : ℕ) → splice (set xs (i + length a) y) i a ≡ splice xs i (a ++ (y ∷ []))
unfolding splice
splice_last xs i [] y = ap (λ (k : ℕ). set xs k y) (add-zero i)
splice_last xs i (x ∷ a) y =
    let e : i + length (x ∷ a) ≡ suc i + length a = add-suc i (length a) ∙ sym (suc-add i (length a)) in
    ap (λ (l : List ℕ). sets l (suc i) a) (set_comm xs (i + length (x ∷ a)) i y x (λ q. omega arith) ∙ ap (λ (k : ℕ). set (set xs i x) k y) e)
    ∙ splice_last (set xs i x) (suc i) a y

-- ---- writes in a row
pub then : {xs ys zs : List ℕ} {i m r : ℕ} {a b : List ℕ} → Wrote xs ys i m a → Wrote ys zs m r b → Wrote xs zs i r (a ++ b)
then {xs} {ys} {zs} {i} {m} {r} {a} {b} u v = record {
  next = omega (arith, length-append a b);
  bytes = v.bytes ∙ (λ k. splice (u.bytes k) (u.next k) b) ∙ splice-append xs i a b;
}

-- a write of nothing
pub nothing : (xs : List ℕ) (i : ℕ) → Wrote xs xs i i []
nothing xs i = record { next = sym (add-zero i); bytes = sym (splice_none xs i) }

-- the same bytes by another name
pub as_bytes : {xs zs : List ℕ} {i r : ℕ} {a b : List ℕ} → a ≡ b → Wrote xs zs i r a → Wrote xs zs i r b
as_bytes e w = rw e at w

-- ---- a loop that writes src from its front: to write what is left of src gives what is wanted
pub write_more : (xs src : List ℕ) (i : ℕ) → i < length src → splice (set xs i (get_or src i 0)) (i + 1) (drop (i + 1) src) ≡ splice xs i (drop i src)
unfolding splice
write_more xs src i h = rw (add-one, drop-cons src i 0)

-- ---- the same for a loop that writes n times b
pub length-times : (n b : ℕ) → length (times n b) ≡ n
unfolding times
length-times n b = length-replicate n b

pub fill_more : (xs : List ℕ) (i n b : ℕ) → i < n → splice (set xs i b) (i + 1) (times (n - (i + 1)) b) ≡ splice xs i (times (n - i) b)
unfolding splice times
fill_more xs i n b h = let e : n - i ≡ suc (n - (i + 1)) = omega arith in rw (e, add-one)

-- a write over all that is there
pub write_all : (xs ys : List ℕ) → length xs ≡ length ys → splice xs 0 ys ≡ ys
write_all xs ys h =
    splice_is xs 0 ys (omega arith) ∙ ap (λ (z : List ℕ). ys ++ z) (ap (λ (k : ℕ). drop k xs) (zero-add (length ys) ∙ sym h) ∙ drop-length xs) ∙ append-nil ys
