-- `reply::send`: the room is enough where the words are written. Written out, so that a wrong test of the room falls on this fact and not on a limit of the search. Assumes nothing.
use Rattle.std.proofs.Common.{arith}
use Rattle.reply.proofs.send.Goals as goal

pub put_words-requires : goal.put_words-requires
put_words-requires c = omega arith
