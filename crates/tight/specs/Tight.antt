-- What it is for a contract to be tight: it leaves one answer to each call. Assumes nothing.
use Rattle.std.specs.Prelude.{◌≡◌}
use contract.Lifetimes.{Lfts}
use denote.Triple.Entry.{Args, Res}
use denote.Triple.Clauses.{Ended, Lasts, AtExit, at_exit}

-- what a contract with the signature T says of a call: of its arguments, its result, and its parameters at exit
abbrev pub Says : Ended → Type 1
Says T = (κs : Lfts T.signature.lifetimes) → Args T.signature κs → Res T.signature κs → AtExit T κs → Type 0

-- any two results r and s, and any two last contents u and v of what is lent, that it allows for the arguments a are equal
abbrev pub Tight : (T : Ended) → Says T → Type 0
Tight T says = (κs : Lfts T.signature.lifetimes) (a : Args T.signature κs) (r s : Res T.signature κs) (u v : Lasts T κs a)
    → says κs a r (at_exit T κs a u) → says κs a s (at_exit T κs a v) → (r ≡ s) × (u ≡ v)
