-- Cutting never shows: many columns combined.
-- Assumes nothing.
use Prim.Native.Nat.{ℕ, suc}
use mathlib.Core.Bool.{true}
use Rattle.std.specs.Prelude.{None, Option}
use mathlib.Core.List.{List, [], ◌∷◌, map, map-map}
use mathlib.Core.Path.{◌≡◌, refl, ap, sym, ◌∙◌}
use native.Mathlib.Omega.{arith}
use lib.IntN.{ℤ}
use lib.ListN.{length, length-map}
use Rattle.num.specs.Numbers.{operation}
use Rattle.column.specs.Asking.{Question, first_no, ◌otherwise◌}
use Rattle.column.specs.Combine.{many, greatest_length, all_filled, combined}
use Rattle.column.specs.Flat.{Flat, flat, count, sequences_of, sequences, columns, paired_flat, offsets_flat, ends_flat, flat_asked}
use Rattle.column.specs.Lists.{part, parts_from, parts}
use Rattle.column.specs.Paper.{Outcome, answers}
use Rattle.column.specs.Questions.{listed, paired, ends_valid, at_most, room, both}
use Rattle.column.specs.Runs.{Sequence, sequence, Runs, runs}
use Rattle.column.proofs.All.{All}
use Rattle.column.proofs.FirstNo.{first_several, all_yes}
use Rattle.column.proofs.Flattened.{AllValid, sequences-told, columns-valid}
use Rattle.column.proofs.Parts.{part-paired}
use Rattle.column.proofs.Rising.{Valid}
use Rattle.column.proofs.Told.{agree-told}
use Rattle.slice.proofs.Sliced.{valid-slice}
use Rattle.batch.proofs.Entries.{length-columns}
use Rattle.many.specs.Calls.{most_columns}
use Rattle.zip_many.specs.Calls.{least_length, zip_many_asked}
use Rattle.zip_many.specs.Calls as calls
use Rattle.cutting.specs.Cut.{longest, cut_points, Span, spans, numbered, flat_of, in_turn}
use Rattle.cutting.specs.Claim.{ValidFlat, NeverShows, cut, zip_many, JoinsUp, Call, combines_whole, cuts, combines, joins, zip_many_pieces}
use Rattle.cutting.proofs.Combined.{piece, sliced, ValidColumn}
use Rattle.cutting.proofs.Columns.{numbered-same, first-same, cut-columns, cut-answers}
use Rattle.cutting.proofs.Laid.{agree-yes, columns-flat, paired-flat, length-flat-offsets, offsets-flat, ends-flat}

-- ---- each sequence of several laid flat

-- a sequence that is asked nothing more
abbrev Fine : Sequence → Type 0
Fine s = (paired s ≡ None) × (ends_valid s.ends ≡ None)

fine_from : (a : ℕ) (os : List ℕ) (es vs : List ℤ) → length es ≡ length vs → AllValid (parts_from a os es)
    → All Fine (sequences_of (parts_from a os es) (parts_from a os vs))
unfolding sequences_of parts_from paired
fine_from a [] es vs l v = tt
fine_from a (b ∷ os) es vs l v =
    ((agree-yes 3 (length (part a b es)) (length (part a b vs)) (part-paired a b es vs l), v.0), fine_from b os es vs l v.1)

fine_at : (os : List ℕ) (es vs : List ℤ) → paired (sequence es vs) ≡ None → ends_flat (flat os es vs) ≡ None → All Fine (sequences_of (parts os es) (parts os vs))
unfolding paired sequences_of
fine_at [] es vs p e = tt
fine_at (a ∷ os) es vs p e = fine_from a os es vs (agree-told 3 (length es) (length vs) p) (sequences-told (a ∷ os) es e)

columns-count : (f : Flat) → paired_flat f ≡ None → ends_flat f ≡ None → length (columns f) ≡ count f
unfolding paired
columns-count f p e =
    length-columns f.offsets f.ends f.values (agree-told 3 (length f.ends) (length f.values) p) (sequences-told f.offsets f.ends e)

-- ---- the columns of the pieces

greatest-many : (fill : Option ℤ) (cs : List Runs) → greatest_length (many fill cs) ≡ longest cs
unfolding greatest_length
greatest-many fill [] = refl
greatest-many fill (c ∷ cs) = rw (greatest-many fill cs)

valid-many : (fill : Option ℤ) (cs : List Runs) → All Valid cs → All ValidColumn (many fill cs)
valid-many fill [] v = tt
valid-many fill (c ∷ cs) v = (v.0, valid-many fill cs v.1)

valid-cut : (z : Span) (cs : List Runs) → All Valid cs → All Valid (map (piece z) cs)
valid-cut z [] v = tt
valid-cut z (c ∷ cs) v = (valid-slice z.start z.end c v.0, valid-cut z cs v.1)

many-cut : (fill : Option ℤ) (z : Span) (cs : List Runs) → many fill (map (piece z) cs) ≡ map (sliced z) (many fill cs)
many-cut fill z [] = refl
many-cut fill z (c ∷ cs) = rw (many-cut fill z cs)

module _ (fill : Option ℤ) (code : ℕ) where
  -- the questions before the fills: the same for the whole and for every piece
  abbrev before : ℕ → Question
  before k = first_no (listed 0 9 code ∷ at_most most_columns k ∷ [])

  abbrev fills : List Runs → Question
  fills cs = all_filled (least_length cs) (greatest_length (many fill cs)) (many fill cs)

  -- the questions that are left, of columns that are valid
  abbrev settled : ℕ → List Runs → Outcome Runs
  settled k cs = first_no (before k ∷ fills cs ∷ []) otherwise combined (operation code) (many fill cs)

  zip_settles : (f : Flat) (given : List ℕ) → paired_flat f ≡ None → offsets_flat f ≡ None → ends_flat f ≡ None → room (both (length f.ends)) given ≡ None
      → calls.zip_many f fill code given ≡ settled (count f) (columns f)
  unfolding calls.zip_many zip_many_asked
  zip_settles f given p o e r =
      let few = at_most most_columns (count f) in
      let ask = fills (columns f) in
      let room = room (both (length f.ends)) given in
      ap (λ q. q otherwise combined (operation code) (many fill (columns f)))
      (first-same (listed 0 9 code) (paired_flat f ∷ offsets_flat f ∷ ends_flat f ∷ few ∷ ask ∷ room ∷ []) (few ∷ ask ∷ [])
      (rw (p, o, e) (first-same few (ask ∷ room ∷ []) (ask ∷ []) (first-same ask (room ∷ []) [] (rw r))))
      ∙ first_several (listed 0 9 code ∷ few ∷ []) (ask ∷ []))

  module _ (lends : Call → List ℕ → List ℕ) (enough : (call : Call) (needed : List ℕ) → room needed (lends call needed) ≡ None) where
    in_turn_lem : (i : ℕ) (z : Span) (c : ℕ) (ss : List Sequence) → All Fine ss
        → in_turn (numbered (λ c. cut (lends (cuts i c)) z) c ss) ≡ answers (map (λ s. piece z (runs s)) ss)
    in_turn_lem i z c [] h = refl
    in_turn_lem i z c (s ∷ ss) h = rw (cut-answers (lends (cuts i c)) (enough (cuts i c)) s z h.0.0 h.0.1, in_turn_lem i z (suc c) ss h.1)

    zip_runs : (call : Call) (cs : List Runs) → All Valid cs → zip_many (lends call) fill code (flat_of cs) ≡ settled (length cs) cs
    zip_runs call cs v =
        let needed = both (length (flat_of cs).ends) in
        let z = zip_settles (flat_of cs) (lends call needed) (paired-flat cs) (offsets-flat cs) (ends-flat cs v) (enough call needed) in
        let k : count (flat_of cs) ≡ length cs = rw (length-flat-offsets cs) (omega arith) in
        rw (columns-flat cs, k) at z

    abbrev piece_of : List Runs → Span → Outcome Runs
    piece_of cs z =
        first_no (before (length cs) ∷ all_filled (least_length (map (piece z) cs)) (greatest_length (map (sliced z) (many fill cs)))
        (map (sliced z) (many fill cs)) ∷ [])
        otherwise combined (operation code) (map (sliced z) (many fill cs))

    piece_settles : (f : Flat) → All Fine (sequences f) → All Valid (columns f) → (i : ℕ) (z : Span)
        → zip_many_pieces lends fill code f i z ≡ piece_of (columns f) z
    unfolding columns
    piece_settles f h v i z =
        let cs = map runs (sequences f) in
        let e : map (λ s. piece z (runs s)) (sequences f) ≡ map (piece z) cs = sym (map-map (piece z) runs (sequences f)) in
        let k : length (map (piece z) cs) ≡ length cs = length-map cs (piece z) in
        let g : zip_many (lends (combines i)) fill code (flat_of (map (piece z) cs)) ≡ piece_of cs z =
        rw (k, many-cut fill z cs) at (zip_runs (combines i) (map (piece z) cs) (valid-cut z cs v)) in
        rw (in_turn_lem i z 0 (sequences f) h, e) g

    pub many_way : (points : List ℤ) (f : Flat) → ValidFlat f → cut_points (longest (columns f)) points ≡ true
        → NeverShows (JoinsUp (lends (joins 0))) (zip_many (lends combines_whole) fill code f) (numbered (zip_many_pieces lends fill code f) 0 (spans points))
    many_way points f v t =
        let (p, (o, (e, _))) = all_yes (flat_asked f) v in
        let w = columns-valid f.offsets f.ends f.values (sequences-told f.offsets f.ends e) in
        let cs = columns f in
        let needed = both (length f.ends) in
        rw (
          zip_settles f (lends combines_whole needed) p o e (enough combines_whole needed),
          ← columns-count f p e,
          numbered-same (zip_many_pieces lends fill code f) (piece_of cs) 0 (spans points)
              (piece_settles f (fine_at f.offsets f.ends f.values p e) w),
        )
        (cut-columns (lends (joins 0)) (enough (joins 0)) (before (length cs)) (operation code) (many fill cs) (least_length cs) (greatest_length (many fill cs))
        (λ z. least_length (map (piece z) cs)) (λ z. greatest_length (map (sliced z) (many fill cs))) (valid-many fill cs w)
        points (rw (greatest-many fill cs) t))
