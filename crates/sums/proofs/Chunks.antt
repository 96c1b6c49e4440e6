-- A loop over the chunks of two slices side by side: the rows that are passed, and those that are left. Assumes nothing.
use Rattle.std.proofs.Common.{◌≡◌, ℕ, ◌^◌, ◌<◌, true, List, [], ◌++◌, length, map, Some, None, ap, sym, ◌∙◌, ⊎_elim, arith, Bor}
use Rattle.std.proofs.lemmas.List.{length-append, append-nil, append_assoc, nil_from_length}
use Rattle.std.specs.declared.iter.Zip.{Zip}
use Rattle.std.specs.declared.slice.Chunks.{Chunks}
use Rattle.std.specs.Slice.Iter.{chunks_rest, chunks_size, chunks_steps}
use Rattle.std.specs.Iterator.Adapters.{zip_first, zip_second, zip_steps}
use Rattle.laws.specs.Names.{Duration}
use Rattle.sums.specs.declared.run.Total.{Total}
use Rattle.sums.specs.Sum.{rows}
use Rattle.sums.specs.Runs.{Totals}
use Rattle.sums.proofs.Rows.{read_length, read_append}
use Rattle.sums.proofs.Runs.{totals_none}

-- t is the total of the rows ds, and `it` has the chunks of those behind them
pub record Passed {X Y : Type 0} (f : X → ℕ) (g : Y → ℕ) (ss : List X) (ns : List Y) (it : Zip (Chunks X) (Chunks Y)) (t : Total) : Type 0 where
  pub ds : List Duration
  pub totals : Totals ds t
  pub all : ds ++ rows (map f (chunks_rest (zip_first it))) (map g (chunks_rest (zip_second it))) ≡ rows (map f ss) (map g ns)
  pub same : length (chunks_rest (zip_first it)) ≡ length (chunks_rest (zip_second it))
  pub first : chunks_size (zip_first it) ≡ 65536
  pub second : chunks_size (zip_second it) ≡ 65536

module _ {X Y : Type 0} {f : X → ℕ} {g : Y → ℕ} {ss : List X} {ns : List Y} where
  pub passed_none : {it : Zip (Chunks X) (Chunks Y)} → chunks_rest (zip_first it) ≡ ss → chunks_rest (zip_second it) ≡ ns → length ss ≡ length ns → chunks_size (zip_first it) ≡ 65536 → chunks_size (zip_second it) ≡ 65536
      → Passed f g ss ns it (record { secs = 0; nanos = 0; valid = true })
  passed_none a b e p q = record { ds = []; totals = totals_none; all = λ i. rows (map f (a i)) (map g (b i)); same = ap length a ∙ e ∙ sym (ap length b); first = p; second = q }

  -- one chunk more
  pub passed_more : (x : Bor (List X)) (y : Bor (List Y)) {it at : Zip (Chunks X) (Chunks Y)} {t r : Total} (h : Passed f g ss ns it t) → zip_steps chunks_steps chunks_steps it (Some (x, y)) at
      → Totals (h.ds ++ rows (map f x.now) (map g y.now)) r → Passed f g ss ns at r
  passed_more x y {it} {at} h k m =
      let e : length x.now ≡ length y.now = omega (arith, h.same, h.first, h.second) in
      let left = chunks_rest (zip_first at) in let right = chunks_rest (zip_second at) in record {
        ds = h.ds ++ rows (map f x.now) (map g y.now);
        totals = m;
        all = append_assoc h.ds _ _ ∙ ap (λ (z : List Duration). h.ds ++ z) (sym (rw (k.0.1.0, k.1.1.0) (read_append f g x.now y.now left right e))) ∙ h.all;
        same = omega (arith, h.same, ap length k.0.1.0, ap length k.1.1.0, length-append x.now left, length-append y.now right);
        first = k.0.0 ∙ h.first;
        second = k.1.0 ∙ h.second;
      }

  pub passed_room : {it : Zip (Chunks X) (Chunks Y)} {t : Total} → Passed f g ss ns it t → length ss < 2 ^ 62 → t.secs < 2 ^ 127
  passed_room h k = omega (arith, h.totals.secs_limit, ap length h.all, length-append h.ds, read_length f g ss ns)

  -- no chunk more
  pub passed_all : (at : Zip (Chunks X) (Chunks Y)) {it : Zip (Chunks X) (Chunks Y)} {t : Total} → Passed f g ss ns it t → zip_steps chunks_steps chunks_steps it None at → Totals (rows (map f ss) (map g ns)) t
  passed_all at {it} h k =
      let left = chunks_rest (zip_first it) in let right = chunks_rest (zip_second it) in
      let e : length left ≡ 0 = ⊎_elim (λ a. a.1.1.0) (λ b. h.same ∙ b.1.1.0) k in
      let n : rows (map f left) (map g right) ≡ [] = nil_from_length _ (omega (arith, read_length f g left right)) in
      let d : h.ds ≡ rows (map f ss) (map g ns) = sym (append-nil h.ds) ∙ ap (λ (z : List Duration). h.ds ++ z) (sym n) ∙ h.all in
      rw (← d) h.totals
