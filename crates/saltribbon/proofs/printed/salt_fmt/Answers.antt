-- `saltribbon::printed::salt_fmt` meets its contract. Assumes nothing.
use native.Mathlib.Omega.{arith}
use Rattle.saltribbon.proofs.Signs.{short}
use Rattle.saltribbon.proofs.printed.salt_fmt.Goals as goal

pub signed-requires : goal.signed-requires
signed-requires c = rw c.fmt.ensures.answer (short _ _ _ (omega arith))
