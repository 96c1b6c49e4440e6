-- A writer over a lent buffer, and what it appends. Assumes nothing.
use Rattle.std.specs.Prelude.{ℕ, ◌+◌, ◌≤◌, ◌≡◌, List, length}
use Rattle.laws.specs.Written.{Wrote}
use Rattle.text.specs.declared.write.Writer.{Writer}

-- n more bytes fit
abbrev pub HasRoom : Writer → ℕ → Type 0
HasRoom w n = w.at + n ≤ length w.out.now

-- ys was written behind what stood there, into the same buffer
pub record Appended (before after : Writer) (ys : List ℕ) : Type 0 where
  pub same : after.out.ghost_name ≡ before.out.ghost_name
  pub wrote : Wrote before.out.now after.out.now before.at after.at ys
