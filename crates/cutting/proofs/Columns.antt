-- Columns combined, whichever two lengths a refusal shows, after questions that are the same for the whole and for every piece.
-- Assumes nothing.
use Prim.Native.Nat.{ℕ, suc}
use mathlib.Core.Bool.{true, ◌&&◌}
use Rattle.std.specs.Prelude.{Some, None}
use mathlib.Core.List.{List, [], ◌∷◌, map}
use mathlib.Core.Path.{◌≡◌, refl}
use lib.IntN.{ℤ, pos}
use lib.Signed.{lt_z}
use lib.ListN.{length}
use lib.Dec.{eqb}
use Rattle.num.proofs.Tests.{by-test}
use Rattle.column.specs.Asking.{Question, first_no, ◌otherwise◌}
use Rattle.column.specs.Combine.{Column, greatest_length, side_of, all_filled, row_at, table, combined}
use Rattle.column.specs.Paper.{answers}
use Rattle.column.specs.Questions.{Side, is_missing, longest, lacking, filled, paired, ends_valid, room, both, sequence_asked}
use Rattle.column.specs.Runs.{Sequence, runs}
use Rattle.column.proofs.All.{All}
use Rattle.column.proofs.Encoded.{valid-encode}
use Rattle.column.proofs.Positions.{each_position-length}
use Rattle.column.proofs.Rising.{Valid}
use Rattle.slice.specs.Calls.{slice}
use Rattle.plan.proofs.Fills.{longest-sides}
use Rattle.cutting.specs.Cut.{cut_points, Span, spans_from, spans, numbered}
use Rattle.cutting.specs.Claim.{NeverShows, cut, JoinsUp}
use Rattle.cutting.proofs.Tests.{any-map}
use Rattle.cutting.proofs.Outcomes.{no_with, never-shows}
use Rattle.cutting.proofs.Joined.{joins_up}
use Rattle.cutting.proofs.Combined.{points-i64, after-zero, piece, sliced, ValidColumn, shown-all, lacks, lacking-some}

-- numbers that do not matter
pub numbered-same : {A B : Type 0} (f : ℕ → A → B) (g : A → B) (i : ℕ) (xs : List A) → ((j : ℕ) (x : A) → f j x ≡ g x) → numbered f i xs ≡ map g xs
numbered-same f g i [] h = refl
numbered-same f g i (x ∷ xs) h = rw (h i x, numbered-same f g (suc i) xs h)

-- a question of which the rest may be put in another way
pub first-same : (q : Question) (qs qs' : List Question) → first_no qs ≡ first_no qs' → first_no (q ∷ qs) ≡ first_no (q ∷ qs')
first-same None qs qs' e = e
first-same (Some r) qs qs' e = refl

-- ---- 10, exactly where a column lacks its fill

lacks-sides : (cs : List Column) → lacking (longest (map side_of cs)) (map side_of cs) ≡ lacks cs
lacks-sides cs = rw (longest-sides cs) (any-map (λ (s : Side). lt_z s.length (pos (greatest_length cs)) && is_missing s.fill) side_of cs)

pub ten_filled : (left right : ℕ) (cs : List Column) (n : ℕ) → no_with n (all_filled left right cs) ≡ lacks cs && eqb 10 n
unfolding all_filled filled
ten_filled left right cs n = rw (lacks-sides cs) (by-test (lacks cs) (λ t. rw t) (λ t. rw t))

-- ---- the pieces join up

all_valid : (op : ℤ → ℤ → ℤ) (cs : List Column) (zs : List Span) → All Valid (map (λ z. combined op (map (sliced z) cs)) zs)
unfolding combined
all_valid op cs [] = tt
all_valid op cs (z ∷ zs) = (valid-encode (table op (map (sliced z) cs)), all_valid op cs zs)

module _ (lent : List ℕ → List ℕ) (enough : (needed : List ℕ) → room needed (lent needed) ≡ None) where
  pub joins-columns : (op : ℤ → ℤ → ℤ) (cs : List Column) → All ValidColumn cs → (points : List ℤ) → cut_points (greatest_length cs) points ≡ true
      → JoinsUp lent (combined op cs) (map (λ z. combined op (map (sliced z) cs)) (spans points))
  unfolding combined table
  joins-columns op cs v points t =
      joins_up lent enough (table op cs) (map (λ z. combined op (map (sliced z) cs)) (spans points)) (all_valid op cs (spans points))
      (shown-all op cs v points t)
      (rw (each_position-length (row_at op cs) 0 (greatest_length cs)) (points-i64 (greatest_length cs) points t))

  pub cut-columns : (q : Question) (op : ℤ → ℤ → ℤ) (cs : List Column) (left right : ℕ) (lefts rights : Span → ℕ) → All ValidColumn cs
      → (points : List ℤ) → cut_points (greatest_length cs) points ≡ true
      → NeverShows (JoinsUp lent) (first_no (q ∷ all_filled left right cs ∷ []) otherwise combined op cs)
      (map (λ z. first_no (q ∷ all_filled (lefts z) (rights z) (map (sliced z) cs) ∷ []) otherwise combined op (map (sliced z) cs)) (spans points))
  cut-columns q op cs left right lefts rights v points t =
      let (q₀, ps, e, r) = after-zero (greatest_length cs) points t in
      rw e
      (never-shows (JoinsUp lent) (all_filled left right cs) (combined op cs) (λ z. all_filled (lefts z) (rights z) (map (sliced z) cs))
      (λ z. combined op (map (sliced z) cs))
      (lacks cs) (λ z. lacks (map (sliced z) cs)) (record { start = pos 0; end = q₀ }) (spans_from q₀ ps)
      (ten_filled left right cs) (λ z. ten_filled (lefts z) (rights z) (map (sliced z) cs))
      (rw e at (lacking-some cs v points t))
      (rw e at (joins-columns op cs v points t)) q)

  -- a cut of a valid column answers
  pub cut-answers : (s : Sequence) (z : Span) → paired s ≡ None → ends_valid s.ends ≡ None → cut lent z s ≡ answers (piece z (runs s))
  unfolding slice sequence_asked
  cut-answers s z p e = rw (p, e, enough (both (length (piece z (runs s)))))
