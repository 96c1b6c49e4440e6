-- `text::write::copy` meets its contract. Assumes nothing.
use Rattle.std.proofs.Common.{ℕ, List, sym, ap, ◌∙◌}
use Rattle.std.proofs.lemmas.List.{length-set, drop_all}
use Rattle.laws.specs.Written.{splice}
use Rattle.laws.proofs.Written.{write_all, write_more, splice_none}
use Rattle.text.proofs.write.copy.Goals as goal

pub loop-i-init : goal.loop-i-init
loop-i-init c = (c.requires, write_all _ _ c.requires)

pub loop-i-preserved : goal.loop-i-preserved
loop-i-preserved c = (length-set _ _ _ ∙ c.loop-i.invariant.0, write_more _ _ _ c.loop-i-test.true ∙ c.loop-i.invariant.1)

pub returns : goal.returns
returns c =
    let l = c.loop-i in
    sym (splice_none l.out l.i) ∙ ap (λ (z : List ℕ). splice l.out l.i z) (sym (drop_all l.i c.args.src.now c.loop-i-test.false)) ∙ l.invariant.1
