-- `Layout::try_from` meets its contract. Assumes nothing.
use Rattle.std.proofs.Common.{ap, arith}
use Rattle.std.specs.Option.{unwrap_or}
use Rattle.text.proofs.layout.LayoutTryFromOptions.try_from.Goals as goal

pub invariant_of-result : goal.invariant_of-result
invariant_of-result c = record {
  few_digits = λ x e. omega (arith, c.if-unwrap_or-gt-LIMIT.false, c.unwrap_or.ensures, ap (λ o. unwrap_or o 0) e);
  few_columns = c.if-width-gt-LIMIT.false;
}
