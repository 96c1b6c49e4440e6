-- Laws of rows, of their total, and of whether all are durations. Assumes nothing.
use Rattle.std.proofs.Common.{◌≡◌, ℕ, zero, suc, ◌+◌, ◌-◌, ◌<◌, Bool, ◌&&◌, List, [], ◌∷◌, ◌++◌, length, take, drop, get_or, min, map, refl, sym, ap, ◌∙◌, arith}
use Rattle.std.proofs.lemmas.List.{map_more, map-append, take-map, drop-map, length-map, length-take}
use Rattle.std.proofs.Math.Bool.{and_assoc}
use Rattle.laws.specs.Names.{Duration, valid}
use Rattle.sums.specs.Sum.{rows, total, each_valid}

-- as many rows as the shorter list has elements
rows-length : (ss ns : List ℕ) → length (rows ss ns) ≡ min (length ss) (length ns)
unfolding rows
rows-length [] ns = omega arith
rows-length (s ∷ ss) [] = omega arith
rows-length (s ∷ ss) (n ∷ ns) = omega (arith, rows-length ss ns)

-- the rows of parts are a part of the rows
rows_take : (k : ℕ) (ss ns : List ℕ) → rows (take k ss) (take k ns) ≡ take k (rows ss ns)
unfolding rows
rows_take zero ss ns = refl
rows_take (suc k) [] ns = refl
rows_take (suc k) (s ∷ ss) [] = refl
rows_take (suc k) (s ∷ ss) (n ∷ ns) = ap (λ (l : List Duration). record { secs = s; nanos = n } ∷ l) (rows_take k ss ns)

rows_drop : (k : ℕ) (ss ns : List ℕ) → rows (drop k ss) (drop k ns) ≡ drop k (rows ss ns)
unfolding rows
rows_drop zero ss ns = refl
rows_drop (suc k) [] ns = refl
rows_drop (suc k) (s ∷ ss) [] = none (drop k ss)
  where
    none : (l : List ℕ) → rows l [] ≡ []
    none [] = refl
    none (x ∷ l) = refl
rows_drop (suc k) (s ∷ ss) (n ∷ ns) = rows_drop k ss ns

-- rows put one after the other
rows-append : (a b c d : List ℕ) → length a ≡ length b → rows (a ++ c) (b ++ d) ≡ rows a b ++ rows c d
unfolding rows
rows-append [] [] c d e = refl
rows-append [] (n ∷ b) c d e = absurd (omega arith)
rows-append (s ∷ a) [] c d e = absurd (omega arith)
rows-append (s ∷ a) (n ∷ b) c d e = ap (λ (l : List Duration). record { secs = s; nanos = n } ∷ l) (rows-append a b c d (omega arith))

pub total-append : (a b : List Duration) → total (a ++ b) ≡ total a + total b
unfolding total
total-append [] b = omega arith
total-append (d ∷ a) b = omega (arith, total-append a b)

pub valid-append : (a b : List Duration) → each_valid (a ++ b) ≡ (each_valid a && each_valid b)
unfolding each_valid
valid-append [] b = refl
valid-append (d ∷ a) b = ap (λ (z : Bool). valid d && z) (valid-append a b) ∙ sym (and_assoc (valid d) (each_valid a) (each_valid b))

-- ---- rows that are read from lists by f and g
module _ {X Y : Type 0} (f : X → ℕ) (g : Y → ℕ) (ss : List X) (ns : List Y) where
  -- the rows of parts
  pub read_part : (a e : ℕ) → rows (map f (take (e - a) (drop a ss))) (map g (take (e - a) (drop a ns))) ≡ take (e - a) (drop a (rows (map f ss) (map g ns)))
  read_part a e = rw (← take-map f (e - a) (drop a ss), ← take-map g (e - a) (drop a ns), ← drop-map f a ss, ← drop-map g a ns, rows_take, rows_drop)

  -- one row more
  pub read_more : (i : ℕ) {x : X} {y : Y} → i < length ss → length ss ≡ length ns → x ≡ get_or ss i x → y ≡ get_or ns i y
      → rows (map f (take (i + 1) ss)) (map g (take (i + 1) ns)) ≡ rows (map f (take i ss)) (map g (take i ns)) ++ record { secs = f x; nanos = g y } ∷ []
  unfolding rows
  read_more i {x} {y} h e p q =
      rw (map_more f ss i x h, map_more g ns i y (omega arith), ← p, ← q)
      (rows-append (map f (take i ss)) (map g (take i ns)) (f x ∷ []) (g y ∷ []) (omega (arith, length-map (take i ss) f, length-map (take i ns) g, length-take i ss, length-take i ns)))

  pub read_length : length (rows (map f ss) (map g ns)) ≡ min (length ss) (length ns)
  read_length = omega (arith, rows-length (map f ss) (map g ns), length-map ss f, length-map ns g)

  -- the rows of parts in front, and the rest
  pub read_append : (cs : List X) (ms : List Y) → length ss ≡ length ns → rows (map f (ss ++ cs)) (map g (ns ++ ms)) ≡ rows (map f ss) (map g ns) ++ rows (map f cs) (map g ms)
  read_append cs ms e = rw (map-append f ss cs, map-append g ns ms) (rows-append (map f ss) (map g ns) (map f cs) (map g ms) (omega (arith, length-map ss f, length-map ns g)))
