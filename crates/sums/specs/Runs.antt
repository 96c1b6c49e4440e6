-- What the sums of a block and the total of blocks stand for: what the contracts of the private functions of `sums` cite. Assumes nothing.
use Rattle.std.specs.Prelude.{ℕ, ◌+◌, ◌*◌, ◌%◌, ◌^◌, ◌≤◌, ◌<◌, ◌≡◌, List, length, ltb}
use Rattle.laws.specs.Names.{Duration}
use Rattle.sums.specs.declared.run.Block.{Block}
use Rattle.sums.specs.declared.run.Total.{Total}
use Rattle.sums.specs.Sum.{total, each_valid}

-- the rows are a block's and b has their sums, where low is that of the low halves of their seconds
pub record Sums (ds : List Duration) (b : Block) : Type 0 where
  pub low : ℕ
  pub few : length ds ≤ 65536
  pub all : (b.high * 2 ^ 32 + low) * 10 ^ 9 + b.nanos ≡ total ds
  pub secs : b.secs ≡ (b.high * 2 ^ 32 + low) % 2 ^ 64
  pub good : ltb b.largest (10 ^ 9) ≡ each_valid ds
  pub high_limit : b.high ≤ length ds * 2 ^ 32
  pub low_limit : low ≤ length ds * 2 ^ 32
  pub nanos_limit : b.nanos ≤ length ds * 2 ^ 32

-- b has room for one row more
pub record Short (b : Block) : Type 0 where
  pub high : b.high ≤ 2 ^ 48
  pub nanos : b.nanos ≤ 2 ^ 48

-- t is the total of the rows, carried
pub record Totals (ds : List Duration) (t : Total) : Type 0 where
  pub all : t.secs * 10 ^ 9 + t.nanos ≡ total ds
  pub good : t.valid ≡ each_valid ds
  pub secs_limit : t.secs ≤ length ds * 2 ^ 65
  pub nanos_limit : t.nanos < 10 ^ 9
