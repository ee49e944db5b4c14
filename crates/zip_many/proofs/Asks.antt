-- The questions of zip_many, what a "yes" to all of them tells, and that a missing fill shows nowhere.
-- Assumes nothing.
use Prim.Native.Nat.{ℕ}
use Rattle.std.specs.Prelude.{None, Option}
use mathlib.Core.List.{List, [], ◌∷◌, ◌++◌, map}
use mathlib.Core.Path.{◌≡◌, refl, ap, sym, ◌∙◌}
use lib.IntN.{ℤ}
use lib.ListN.{length}
use Rattle.column.specs.Asking.{Question, first_no}
use Rattle.column.specs.Combine.{Column, many, greatest_length, all_filled, combined}
use Rattle.column.specs.Flat.{Flat, flat, count, columns, flat_asked}
use Rattle.column.specs.Lists.{parts}
use Rattle.column.specs.Questions.{listed, paired, sequences_valid, at_most, side, filled, room, both}
use Rattle.column.specs.Runs.{Runs, length_of_ends}
use Rattle.column.proofs.All.{All}
use Rattle.column.proofs.FirstNo.{all_yes, rest-yes}
use Rattle.column.proofs.Flattened.{sequences-told, columns-valid, lengths_by_ends}
use Rattle.column.proofs.Rising.{Valid}
use Rattle.column.proofs.Told.{agree-told, both_told}
use Rattle.plan.proofs.Fills.{Refilled, or_else, or_else-given, missing_shows_nowhere}
use Rattle.many.specs.Calls.{most_columns}
use Rattle.many.proofs.Asks.{flat-yes}
use Rattle.zip_many.specs.declared.Lengths.{Lengths}
use Rattle.zip_many.specs.Calls.{least_length, zip_many_asked}
use Rattle.zip_many.specs.Workers.{Zippable, LengthsOf, from_first, least_from, greatest_from}
use Rattle.zip_many.proofs.Ranging.{least_is, greatest_is, many-filled}

module _ (os : List ℕ) (es vs : List ℤ) where
  abbrev f : Flat
  f = flat os es vs

  abbrev most : Question
  most = at_most most_columns (count f)

  module _ (fill : Option ℤ) where
    abbrev fills : Question
    fills = all_filled (least_length (columns f)) (greatest_length (many fill (columns f))) (many fill (columns f))

    -- 10, by the last ends: they are the lengths where every question before it is answered "yes"
    pub filled-asked : {q : Question} {x y : ℤ} {n : Lengths} → q ≡ filled x y (side x fill ∷ side y fill ∷ []) → x ≡ n.least → y ≡ n.greatest
        → LengthsOf (map length_of_ends (parts os es)) n → None ≡ first_no (flat_asked f) → q ≡ fills
    unfolding paired
    filled-asked hq ex ey n h =
        let (pairs, (_, (valid, _))) = all_yes (flat_asked f) (sym h) in
        let e = sym (lengths_by_ends os es vs (agree-told 3 (length es) (length vs) pairs) (sequences-told os es valid)) in
        let least = ex ∙ n.least ∙ ap (from_first least_from) e ∙ least_is (columns f) in
        let greatest = ey ∙ n.greatest ∙ ap (from_first greatest_from) e ∙ greatest_is fill (columns f) in
        hq ∙ many-filled fill (columns f) least greatest

    pub zip-many-yes : (code : ℕ) (e v : List ℤ) → zip_many_asked f fill code (length e ∷ length v ∷ []) ≡ None → Zippable os es vs e v
    unfolding zip_many_asked
    zip-many-yes code e v h =
        let space = room (both (length es)) (length e ∷ length v ∷ []) in
        let y = flat-yes os es vs (fills ∷ space ∷ []) (rest-yes (listed 0 9 code) (flat_asked f ++ most ∷ fills ∷ space ∷ []) h) in
        let r = both_told (length es) (length e) (length v) y.4.1.0 in
        record { offsets = y.1; valid = y.2; columns = y.3; paired = y.0; room_ends = r.0; room_values = r.1 }

    -- ---- a fill that is missing shows nowhere: where 10 is answered "yes", the columns come to the same with any value in its place

    refilled : (x : ℤ) (cs : List Runs) → Refilled (many fill cs) (many (or_else x fill) cs)
    refilled x [] = tt
    refilled x (c ∷ cs) = (refl, or_else-given x fill, refilled x cs)

    valid-many : (cs : List Runs) → All Valid cs → All (λ (c : Column). Valid c.runs) (many fill cs)
    valid-many [] v = tt
    valid-many (c ∷ cs) v = (v.0, valid-many cs v.1)

    pub missing_fill : (op : ℤ → ℤ → ℤ) → sequences_valid os es ≡ None → fills ≡ None
        → (x : ℤ) → combined op (many (or_else x fill) (columns f)) ≡ combined op (many fill (columns f))
    missing_fill op v e x =
        let cs = columns f in
        let valid = valid-many cs (columns-valid os es vs (sequences-told os es v)) in
        missing_shows_nowhere op (least_length cs) (greatest_length (many fill cs)) (many fill cs) (many (or_else x fill) cs) valid e (refilled x cs)
