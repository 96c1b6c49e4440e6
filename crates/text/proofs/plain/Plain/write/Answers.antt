-- `text::plain::Plain::write` meets its contract. Assumes nothing.
use Rattle.std.proofs.Common.{length, ap, arith}
use Rattle.text.specs.Parts.{sign, emitted}
use Rattle.text.specs.Writing.{Appended}
use Rattle.text.proofs.Plains.{length_emitted, length_sign}
use Rattle.text.proofs.Writing.{unchanged, both, as_same, left}
use Rattle.text.proofs.plain.Plain.write.Goals as goal
use Rattle.text.proofs.plain.Plain.write.Goals.{then-self, else-self, Joined-self}

signed : (c : Joined-self) → Appended c.args.w.now c.if-self.w (sign c.args.self.plus)
signed c = elim c.if-self.branch [
  | then-self w ↦ rw (w.w-is, w.if-self.true) w.put.ensures
  | else-self w ↦ rw (w.w-is, w.if-self.false) (unchanged _)
]

pub write-requires : goal.write-requires
write-requires c = let p = c.args.self in omega (arith, c.requires, length_emitted p, length_sign p.plus, left (signed (goal.at.write-requires c).Joined-self))

pub put-requires-2 : goal.put-requires-2
put-requires-2 c = let p = c.args.self in omega (arith, c.requires, length_emitted p, length_sign p.plus, left (signed (goal.at.put-requires-2 c).Joined-self), left c.write.ensures, ap length c.suffix.ensures)

pub returns : goal.returns
unfolding emitted
returns c = both (both (signed (goal.at.returns c).Joined-self) c.write.ensures) (as_same c.suffix.ensures c.put-2.ensures)
