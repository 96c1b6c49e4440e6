-- `saltribbon::printed::signed` meets its contract: a refusal goes out as its number negated. Assumes nothing.
use Rattle.std.proofs.Common.{arith}
use Rattle.saltribbon.proofs.Signs.{sent_refusal}
use Rattle.saltribbon.proofs.printed.signed.Goals as goal

pub returns-in-Err : goal.returns-in-Err
returns-in-Err c = sent_refusal c.in-Err.is c.number.ensures (omega arith)
