-- `duration::constructors::any_count` meets its contract. Assumes nothing.
use native.Mathlib.Omega.{arith}
use Rattle.duration.proofs.Counts.{unit_is}
use Rattle.duration.proofs.Exact.{exact-nanos}
use Rattle.duration.proofs.constructors.any_count.Goals as goal

pub returns-in-1 : goal.returns-in-1
returns-in-1 c = unit_is _ 1 c.in-1.is (omega arith) (exact-nanos (omega arith) c.from_micros.ensures)

pub returns-in-2 : goal.returns-in-2
returns-in-2 c = unit_is _ 2 c.in-2.is (omega arith) (exact-nanos (omega arith) c.from_millis.ensures)

pub returns-in_default : goal.returns-in_default
returns-in_default c =
    unit_is _ 3 (omega arith) (omega arith) (exact-nanos (omega arith) c.from_secs.ensures)
