-- Products of numbers of two words. Assumes nothing.
use Rattle.std.specs.Prelude.{ℕ, ◌+◌, ◌*◌, ◌^◌, ◌≤◌, ◌<◌}
use Rattle.std.proofs.Common.{arith}
use Rattle.std.proofs.lemmas.Nat.{mul-le}

-- two numbers of two words each have a product of more
pub both_long : (h l k j : ℕ) → 0 < h → 0 < k → 2 ^ 128 ≤ (h * 2 ^ 64 + l) * (k * 2 ^ 64 + j)
both_long h l k j a b = mul-le (2 ^ 64) (2 ^ 64) (h * 2 ^ 64 + l) (k * 2 ^ 64 + j) (omega arith) (omega arith)
