-- What a writer appends: a part of the buffer that is written, and what fits after it. Assumes nothing.
use Rattle.std.proofs.Common.{◌≡◌, ℕ, ◌+◌, ◌-◌, ◌≤◌, List, [], ◌++◌, length, take, drop, refl, sym, ap, ◌∙◌, append_assoc, length-take, length-drop, arith}
use Rattle.std.proofs.Math.Seq.{length-sets}
use Rattle.std.proofs.lemmas.List.Edits.{paste_all}
use Rattle.std.proofs.lemmas.Slice.{put_mid-paste}
use borrow.Rule.Slice.PartMut.{put_mid}
use Rattle.laws.specs.Written.{Wrote, splice}
use Rattle.laws.proofs.Written.{splice_is, then, nothing, as_bytes}
use Rattle.text.specs.declared.write.Writer.{Writer}
use Rattle.text.specs.Writing.{Appended}

-- the part from i on, of as many bytes as ys has, is ys now
pub part_written : (xs : List ℕ) (i n : ℕ) {zs : List ℕ} (ys : List ℕ) → i + n ≤ length xs → n ≡ length ys → zs ≡ ys → Wrote xs (put_mid i (i + n - i) xs zs) i (i + n) ys
part_written xs i n {zs} ys h e f = record {
  next = ap (λ (k : ℕ). i + k) e;
  bytes =
      put_mid-paste i (i + n - i) xs zs ys n f (omega arith) e ∙ paste_all xs i ys n e ∙ sym (append_assoc (take i xs) ys (drop (i + n) xs))
      ∙ ap (λ (k : ℕ). take i xs ++ ys ++ drop (i + k) xs) e
      ∙ sym (splice_is xs i ys (omega arith));
}

-- the same, where what is written depends on the part's length alone
pub part_filled : (xs : List ℕ) (i n : ℕ) {zs : List ℕ} (f : ℕ → List ℕ) → i + n ≤ length xs → length (f n) ≡ n → zs ≡ f (length (take (i + n - i) (drop i xs))) → Wrote xs (put_mid i (i + n - i) xs zs) i (i + n) (f n)
part_filled xs i n f h e g =
    let len : length (take (i + n - i) (drop i xs)) ≡ n = omega (arith, length-take {A = ℕ}, length-drop {A = ℕ}) in
    part_written xs i n (f n) h (sym e) (g ∙ ap f len)

-- ---- what is appended in a row
pub unchanged : (w : Writer) → Appended w w []
unchanged w = record { same = refl; wrote = nothing _ _ }

pub both : {u v w : Writer} {a b : List ℕ} → Appended u v a → Appended v w b → Appended u w (a ++ b)
both d e = record { same = e.same ∙ d.same; wrote = then d.wrote e.wrote }

-- the same bytes by another name
pub as_same : {u v : Writer} {a b : List ℕ} → a ≡ b → Appended u v a → Appended u v b
as_same e d = record { same = d.same; wrote = as_bytes e d.wrote }

-- what is left of the buffer is less by what is appended
pub left : {u v : Writer} {a : List ℕ} → Appended u v a → v.at + length u.out.now ≡ u.at + length a + length v.out.now
unfolding splice
left {u} {v} {a} d = omega (arith, d.wrote.next, ap length d.wrote.bytes, length-sets u.out.now u.at a)
