-- Which options are accepted. Every limit stands here and nowhere else. Assumes nothing.
use Rattle.std.specs.Prelude.{ℕ, Bool, true, ◌&&◌, leb, Option, None, Some}
pub use Rattle.text.specs.declared.Options.{Options}

-- the most fraction digits, and the most characters, that can be asked for
abbrev pub limit : ℕ
limit = 255

unfoldable pub within : Option ℕ → Bool
within None = true
within (Some n) = leb n limit

unfoldable pub accepts : Options → Bool
accepts o = leb o.plus 1 && (leb o.alignment 3 && (leb 0x20 o.fill && (leb o.fill 0x7E && (within o.precision && within o.width))))
