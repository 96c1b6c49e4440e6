-- A list written into a list. Assumes nothing.
use Rattle.std.specs.Prelude.{ℕ, ◌+◌, ◌≡◌, List, length, replicate}
use Rattle.std.proofs.lemmas.List.Edits.{sets}

-- xs with ys written from index i on, every other element as it was
unfoldable pub splice : List ℕ → ℕ → List ℕ → List ℕ
splice xs i ys = sets xs i ys

-- ys was written at index i: what was xs is now zs, and r is the index after what was written
pub record Wrote (xs zs : List ℕ) (i r : ℕ) (ys : List ℕ) : Type 0 where
  pub next : r ≡ i + length ys
  pub bytes : zs ≡ splice xs i ys

-- n times b
unfoldable pub times : ℕ → ℕ → List ℕ
times n b = replicate n b
