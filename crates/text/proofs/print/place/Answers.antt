-- `text::print::place` meets its contract. Assumes nothing.
use Rattle.std.proofs.Common.{rules, arith}
use Rattle.laws.specs.Written.{Wrote}
use Rattle.laws.proofs.Written.{length-times, as_bytes}
use Rattle.text.specs.Parts.{emitted, surrounded}
use Rattle.text.proofs.Printing.{in_front_le, surrounds}
use Rattle.text.proofs.Writing.{both, left}
use Rattle.text.proofs.print.place.Goals as goal

pub write-requires : goal.write-requires
write-requires c = omega (arith, c.requires, c.front-front.ensures, in_front_le c.args.l.alignment c.args.pad, length-times c.front-front.result c.args.l.fill, left c.repeat.ensures)

pub repeat-requires-2 : goal.repeat-requires-2
repeat-requires-2 c = omega (arith, c.requires, c.front-front.ensures, in_front_le c.args.l.alignment c.args.pad, length-times c.front-front.result c.args.l.fill, left c.repeat.ensures, left c.write.ensures)

pub returns : goal.returns
returns c =
    let w : Wrote c.args.out.now c.repeat-2.new.self.out.now 0 c.repeat-2.new.self.at (surrounded c.args.l c.args.pad (emitted c.args.p)) =
    as_bytes (surrounds _ _ _ c.front-front.ensures) (both (both c.repeat.ensures c.write.ensures) c.repeat-2.ensures).wrote in
    search rules
