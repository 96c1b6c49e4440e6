-- What printing answers, and what it leaves in the lent buffer. Assumes nothing.
use Rattle.std.specs.Prelude.{ℕ, ◌≡◌, cond, List, ◌++◌, length, drop, leb, Result, Ok, Err}
use Rattle.laws.specs.Names.{Refusal, BadOptions, NoRoom, BadDuration, Duration, N, valid}
pub use Rattle.text.specs.Text.{Options, limit, accepts, text}

-- the length of a text, for a buffer of so many bytes
unfoldable pub fitted : List ℕ → ℕ → Result ℕ Refusal
fitted t room = cond (leb (length t) room) (Ok (length t)) (Err NoRoom)

-- the answer: first the duration is looked at, then the options, last the room
unfoldable pub answer_of : Duration → Options → ℕ → Result ℕ Refusal
answer_of d o room = cond (valid d) (cond (accepts o) (fitted (text (N d) o) room) (Err BadOptions)) (Err BadDuration)

-- the buffer after the call, from the buffer before it: the text at the front and the rest as it was, or all as it was
unfoldable pub left_in : Result ℕ Refusal → List ℕ → List ℕ → List ℕ
left_in (Ok k) t before = t ++ drop k before
left_in (Err r) t before = before

-- what a call that answers r does
pub record Printed (before after : List ℕ) (d : Duration) (o : Options) (r : Result ℕ Refusal) : Type 0 where
  pub answer : r ≡ answer_of d o (length before)
  pub left : after ≡ left_in r (text (N d) o) before
