-- `sums::run::Total::answer` meets its contract. Assumes nothing.
use Rattle.std.proofs.Common.{arith, rules}
use Rattle.std.proofs.lemmas.Grind.{common_steps}
use Rattle.sums.proofs.Runs.{answer_bad, answer_over, answer_is}
use Rattle.sums.proofs.run.Total.answer.Goals as goal

pub returns-then-not-self : goal.returns-then-not-self
returns-then-not-self c ds h = answer_bad ds c.args.self h (search rules)

pub returns-in_err-secs : goal.returns-in_err-secs
returns-in_err-secs c ds h = let k = answer_over ds c.args.self h (search rules) in grind (arith, common_steps, k)

pub returns : goal.returns
returns c ds h = let k = answer_is ds c.args.self h (search rules) in grind (arith, common_steps, k)
