-- How each answer of `wide` goes out through C: four words, or a refusal's number and nothing written. Assumes nothing.
use Rattle.std.specs.Prelude.{ℕ, ◌≡◌, List, [], ◌∷◌, Result, Ok, Err}
use Rattle.refusal.specs.Numbers.{number_of}
use Rattle.std.specs.declared.cmp.Ordering.{Ordering}
use Rattle.std.specs.declared.cmp.Ordering.TheVariants.{Less, Equal, Greater}
use Rattle.refusal.specs.declared.Refusal.{Refusal}
use Rattle.wide.specs.declared.{Wide.Wide, Division.Division}

-- what a call writes, or why it writes nothing
abbrev pub Reply : Type 0
Reply = Result (List ℕ) Refusal

-- the number of a low and a high word
abbrev pub pair : ℕ → ℕ → Wide
pair l h = record { hi = h; lo = l }

-- a number: its low word, its high word, two zeros
abbrev pub wide_reply : Wide → Reply
wide_reply w = Ok (w.lo ∷ w.hi ∷ 0 ∷ 0 ∷ [])

unfoldable pub answer_reply : Result Wide Refusal → Reply
answer_reply (Ok w) = wide_reply w
answer_reply (Err f) = Err f

-- an order: 0 for less, 1 for equal, 2 for greater
abbrev pub order_reply : Ordering → Reply
order_reply Less = Ok (0 ∷ 0 ∷ 0 ∷ 0 ∷ [])
order_reply Equal = Ok (1 ∷ 0 ∷ 0 ∷ 0 ∷ [])
order_reply Greater = Ok (2 ∷ 0 ∷ 0 ∷ 0 ∷ [])

-- a division: the quotient's words, then the remainder's
unfoldable pub division_reply : Result Division Refusal → Reply
division_reply (Ok a) = Ok (a.quotient.lo ∷ a.quotient.hi ∷ a.remainder.lo ∷ a.remainder.hi ∷ [])
division_reply (Err f) = Err f

-- what a call returns
unfoldable pub code_of : Reply → ℕ
code_of (Ok ws) = 0
code_of (Err f) = number_of f

-- what it leaves in a buffer that held xs
unfoldable pub left_in : Reply → List ℕ → List ℕ
left_in (Ok ws) xs = ws
left_in (Err f) xs = xs

-- a call with that reply returned n, and its buffer, which held xs, holds ys
pub record Gives (reply : Reply) (n : ℕ) (xs ys : List ℕ) : Type 0 where
  pub code : n ≡ code_of reply
  pub left : ys ≡ left_in reply xs
