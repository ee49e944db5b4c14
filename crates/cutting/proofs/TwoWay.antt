-- Cutting never shows: two columns combined.
-- Assumes nothing.
use Prim.Native.Nat.{ℕ, ◌+◌}
use mathlib.Core.Bool.{true}
use Rattle.std.specs.Prelude.{None, Option}
use mathlib.Core.List.{List, [], ◌∷◌}
use mathlib.Core.Path.{◌≡◌, refl, ap}
use lib.IntN.{ℤ}
use lib.ListN.{length}
use Rattle.num.specs.Numbers.{operation}
use Rattle.column.specs.Asking.{first_no, ◌otherwise◌}
use Rattle.column.specs.Combine.{two, greatest_length, all_filled, combined}
use Rattle.column.specs.Paper.{Outcome}
use Rattle.column.specs.Questions.{listed, paired, ends_valid, room, both}
use Rattle.column.specs.Runs.{Sequence, Runs, runs, length_of}
use Rattle.column.proofs.Ends.{valid-ends, rising, runs-rise}
use Rattle.column.proofs.FirstNo.{all_yes}
use Rattle.column.proofs.Rising.{Valid}
use Rattle.column.proofs.Sequences.{runs-flat}
use Rattle.slice.proofs.Sliced.{valid-slice}
use Rattle.ops.specs.Calls.{zip_asked}
use Rattle.ops.specs.Calls as ops
use Rattle.cutting.specs.Cut.{longest, cut_points, spans, numbered, sequence_of}
use Rattle.cutting.specs.Claim.{ValidSequence, NeverShows, zip_with, JoinsUp, Call, combines_whole, cuts, combines, joins, zip_pieces}
use Rattle.cutting.proofs.Combined.{piece}
use Rattle.cutting.proofs.Columns.{numbered-same, first-same, cut-columns, cut-answers}
use Rattle.cutting.proofs.Laid.{paired-runs}

-- the questions that are left, of columns that are valid
abbrev settled : Option ℤ → Option ℤ → ℕ → Runs → Runs → Outcome Runs
settled fa fb code a b =
    first_no (listed 0 9 code ∷ all_filled (length_of a) (length_of b) (two fa fb a b) ∷ []) otherwise combined (operation code) (two fa fb a b)

zip_settles : (a b : Sequence) (fa fb : Option ℤ) (code : ℕ) (given : List ℕ) → paired a ≡ None → paired b ≡ None → ends_valid a.ends ≡ None
    → ends_valid b.ends ≡ None
    → room (both (length a.ends + length b.ends)) given ≡ None → ops.zip_with a b fa fb code given ≡ settled fa fb code (runs a) (runs b)
unfolding ops.zip_with zip_asked
zip_settles a b fa fb code given pa pb ea eb r =
    let fill = all_filled (length_of (runs a)) (length_of (runs b)) (two fa fb (runs a) (runs b)) in
    let room = room (both (length a.ends + length b.ends)) given in
    ap (λ q. q otherwise combined (operation code) (two fa fb (runs a) (runs b)))
    (first-same (listed 0 9 code) (paired a ∷ paired b ∷ ends_valid a.ends ∷ ends_valid b.ends ∷ fill ∷ room ∷ []) (fill ∷ [])
    (rw (pa, pb, ea, eb) (first-same fill (room ∷ []) [] (rw r))))

greatest-two : (fa fb : Option ℤ) (a b : Runs) → greatest_length (two fa fb a b) ≡ longest (a ∷ b ∷ [])
unfolding greatest_length
greatest-two fa fb a b = refl

zip_runs : (lent : List ℕ → List ℕ) → ((needed : List ℕ) → room needed (lent needed) ≡ None) → (fa fb : Option ℤ) (code : ℕ) (a b : Runs) → Valid a → Valid b
    → zip_with lent fa fb code (sequence_of a) (sequence_of b) ≡ settled fa fb code a b
zip_runs lent enough fa fb code a b va vb =
    let needed = both (length (sequence_of a).ends + length (sequence_of b).ends) in
    let valid_a = valid-ends a va in
    let valid_b = valid-ends b vb in
    let z = zip_settles (sequence_of a) (sequence_of b) fa fb code (lent needed) (paired-runs a) (paired-runs b) valid_a valid_b (enough needed) in
    rw (runs-flat a, runs-flat b) at z

module _ (lends : Call → List ℕ → List ℕ) (enough : (call : Call) (needed : List ℕ) → room needed (lends call needed) ≡ None) where
  pub two_way : (points : List ℤ) (fa fb : Option ℤ) (code : ℕ) (a b : Sequence) → ValidSequence a → ValidSequence b
      → cut_points (longest (runs a ∷ runs b ∷ [])) points ≡ true
      → NeverShows (JoinsUp (lends (joins 0))) (zip_with (lends combines_whole) fa fb code a b) (numbered (zip_pieces lends fa fb code a b) 0 (spans points))
  two_way points fa fb code a b va vb t =
      let (pa, (ea, ta)) = all_yes (paired a ∷ ends_valid a.ends ∷ []) va in
      let (pb, (eb, tb)) = all_yes (paired b ∷ ends_valid b.ends ∷ []) vb in
      let wa = runs-rise 0 a.ends a.values (rising a.ends ea) in
      let wb = runs-rise 0 b.ends b.values (rising b.ends eb) in
      let needed = both (length a.ends + length b.ends) in
      rw (
        zip_settles a b fa fb code (lends combines_whole needed) pa pb ea eb (enough combines_whole needed),
        numbered-same (zip_pieces lends fa fb code a b) (λ z. settled fa fb code (piece z (runs a)) (piece z (runs b))) 0 (spans points)
            (λ i z. rw (cut-answers (lends (cuts i 0)) (enough (cuts i 0)) a z pa ea, cut-answers (lends (cuts i 1)) (enough (cuts i 1)) b z pb eb)
            (zip_runs (lends (combines i)) (enough (combines i)) fa fb code (piece z (runs a)) (piece z (runs b))
            (valid-slice z.start z.end (runs a) wa) (valid-slice z.start z.end (runs b) wb))),
      )
      (cut-columns (lends (joins 0)) (enough (joins 0)) (listed 0 9 code) (operation code) (two fa fb (runs a) (runs b)) (length_of (runs a)) (length_of (runs b))
      (λ z. length_of (piece z (runs a))) (λ z. length_of (piece z (runs b))) (wa, (wb, tt)) points (rw (greatest-two fa fb (runs a) (runs b)) t))
