-- `text::write::fill` meets its contract. Assumes nothing.
use Rattle.std.proofs.Common.{ℕ, ◌≡◌, ◌-◌, length, arith, sym, ap, ◌∙◌}
use Rattle.laws.specs.Written.{splice, times}
use Rattle.laws.proofs.Written.{write_all, fill_more, splice_none, length-times}
use Rattle.text.proofs.write.fill.Goals as goal

pub loop-to-init : goal.loop-to-init
loop-to-init c =
    let all : length c.args.out.now - 0 ≡ length c.args.out.now = omega arith in
    rw all (write_all c.args.out.now (times (length c.args.out.now) c.args.b) (sym (length-times _ _)))

pub loop-to-preserved : goal.loop-to-preserved
loop-to-preserved c = fill_more _ _ _ _ c.loop-to-test.true ∙ c.loop-to.invariant

pub returns : goal.returns
unfolding times
returns c =
    let l = c.loop-to in
    let none : length c.args.out.now - l.to-index ≡ 0 = omega (arith, c.loop-to-test.false) in
    sym (splice_none l.to-items l.to-index) ∙ ap (λ (n : ℕ). splice l.to-items l.to-index (times n c.args.b)) (sym none) ∙ l.invariant
