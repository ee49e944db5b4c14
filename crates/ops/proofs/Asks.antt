-- The questions of both zips, what a "yes" to all of them tells, and that a missing fill shows nowhere.
-- Assumes nothing.
use Prim.Native.Nat.{ℕ, ◌+◌}
use Rattle.std.specs.Prelude.{None, Option, Some}
use mathlib.Core.List.{List, [], ◌∷◌}
use mathlib.Core.Path.{◌≡◌, refl, sym, ap₂, ◌∙◌}
use lib.IntN.{ℤ}
use lib.ListN.{length}
use Rattle.column.specs.Asking.{Question}
use Rattle.column.specs.Combine.{value_of, all_filled, combined, table, greatest_length, row_at, value_at}
use Rattle.column.specs.Questions.{listed, paired, ends_valid, side, filled, room, both}
use Rattle.column.specs.Runs.{Sequence, sequence, runs_of, length_of, length_of_ends, Filled}
use Rattle.column.proofs.Ends.{rising, runs-rise, length_of-ends}
use Rattle.column.proofs.FirstNo.{all_yes}
use Rattle.column.proofs.Told.{agree-told, both_told}
use Rattle.plan.specs.Calls.{segment_runs}
use Rattle.plan.proofs.Fills.{or_else, or_else-given, missing_shows_nowhere}
use Rattle.ops.specs.Calls.{sides, zip_asked}
use Rattle.ops.specs.Workers.{Zippable}

module _ (ae av be bv : List ℤ) (fa fb : Option ℤ) where
  abbrev a : Sequence
  a = sequence ae av

  abbrev b : Sequence
  b = sequence be bv

  -- 10, by the last ends: they are the lengths where every question before it is answered "yes"
  pub filled-asked : {x y : ℤ} {q : Question} → q ≡ filled x y (side x fa ∷ side y fb ∷ []) → x ≡ length_of_ends ae → y ≡ length_of_ends be
      → None ≡ paired a → None ≡ paired b → None ≡ ends_valid ae → None ≡ ends_valid be
      → q ≡ all_filled (length_of (runs_of ae av)) (length_of (runs_of be bv)) (sides a b fa fb)
  unfolding all_filled paired
  filled-asked e ex ey pa pb va vb =
      let left = length_of-ends ae av (sym va) (agree-told 3 (length ae) (length av) (sym pa)) in
      let right = length_of-ends be bv (sym vb) (agree-told 3 (length be) (length bv) (sym pb)) in
      e ∙ ap₂ (λ (l r : ℤ). filled l r (side l fa ∷ side r fb ∷ [])) (ex ∙ left) (ey ∙ right)

  pub zip-yes : (code : ℕ) (e v : List ℤ) → zip_asked a b fa fb code (length e ∷ length v ∷ []) ≡ None → Zippable a b e v
  unfolding zip_asked paired
  zip-yes code e v h =
      let space = room (both (length ae + length be)) (length e ∷ length v ∷ []) in
      let fill = all_filled (length_of (runs_of ae av)) (length_of (runs_of be bv)) (sides a b fa fb) in
      let (_, (pa, (pb, (va, (vb, (_, (enough, _))))))) = all_yes (listed 0 9 code ∷ paired a ∷ paired b ∷ ends_valid ae ∷ ends_valid be ∷ fill ∷ space ∷ []) h in
      let r = both_told (length ae + length be) (length e) (length v) enough in
      record {
        valid_a = va;
        valid_b = vb;
        paired_a = agree-told 3 (length ae) (length av) pa;
        paired_b = agree-told 3 (length be) (length bv) pb;
        room_ends = r.0;
        room_values = r.1;
      }

  -- ---- a fill that is missing shows nowhere: where 10 is answered "yes", the zip comes to the same with any value in its place

  pub missing_fill : (op : ℤ → ℤ → ℤ) → ends_valid ae ≡ None → ends_valid be ≡ None
      → all_filled (length_of (runs_of ae av)) (length_of (runs_of be bv)) (sides a b fa fb) ≡ None
      → (x y : ℤ) → combined op (sides a b (or_else x fa) (or_else y fb)) ≡ combined op (sides a b fa fb)
  missing_fill op va vb e x y =
      missing_shows_nowhere op (length_of (runs_of ae av)) (length_of (runs_of be bv)) (sides a b fa fb) (sides a b (or_else x fa) (or_else y fb))
      (runs-rise 0 ae av (rising ae va), (runs-rise 0 be bv (rising be vb), tt)) e
      (refl, or_else-given x fa, (refl, or_else-given y fb, tt))

  -- ---- so the code takes the fill's value, 0 where it is missing

  module _ (op : ℤ → ℤ → ℤ) {x y : ℤ} (ex : x ≡ value_of fa) (ey : y ≡ value_of fb) {e e' v v' : List ℤ} {n : ℕ} where
    pub combined-filled : Filled (combined op (sides a b (Some x) (Some y))) e e' v v' n → Filled (combined op (sides a b fa fb)) e e' v v' n
    unfolding combined table greatest_length row_at value_at
    combined-filled f = rw (ex, ey) at f

    pub raw_filled : Filled (segment_runs op (sides a b (Some x) (Some y))) e e' v v' n → Filled (segment_runs op (sides a b fa fb)) e e' v v' n
    unfolding segment_runs
    raw_filled f = rw (ex, ey) at f
