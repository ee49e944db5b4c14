-- Several sequences laid flat: "offsets and flat ends and values, as a batch without keys".
use Rattle.std.specs.Prelude.{ℕ, ◌+◌, ◌-◌, List, [], ◌∷◌, ◌++◌, map, ◌≡◌, ℤ, length, Result}
use Rattle.column.specs.Asking.{Question}
use Rattle.column.specs.Lists.{total, parts}
use Rattle.column.specs.Paper.{Outcome, outcome_of, counts, written}
use Rattle.column.specs.Questions.{paired, offsets_valid, sequences_valid}
use Rattle.column.specs.Runs.{Sequence, sequence, Runs, runs, ends_of, values_of}
use Rattle.column.specs.declared.answer.RleBatch.{RleBatch}
use Rattle.column.specs.declared.error.Refusal.{Refusal}
use Rattle.column.specs.Lent.{Lent, given, after}

pub record Flat : Type 0 where
  pub offsets : List ℕ
  pub ends : List ℤ
  pub values : List ℤ

abbrev pub flat : List ℕ → List ℤ → List ℤ → Flat
flat os es vs = record { offsets = os; ends = es; values = vs }

-- as many as there are offsets but the first
abbrev pub count : Flat → ℕ
count f = length f.offsets - 1

-- a sequence for each list of ends, with the list of values that stands at its place
unfoldable pub sequences_of : List (List ℤ) → List (List ℤ) → List Sequence
sequences_of [] vss = []
sequences_of (es ∷ ess) [] = []
sequences_of (es ∷ ess) (vs ∷ vss) = sequence es vs ∷ sequences_of ess vss

-- "key k owns entries offsets[k] up to offsets[k+1]"
abbrev pub sequences : Flat → List Sequence
sequences f = sequences_of (parts f.offsets f.ends) (parts f.offsets f.values)

-- their runs
unfoldable pub columns : Flat → List Runs
columns f = map runs (sequences f)

-- what 3, of all entries at once; 3; 4
abbrev pub paired_flat : Flat → Question
paired_flat f = paired (sequence f.ends f.values)

abbrev pub offsets_flat : Flat → Question
offsets_flat f = offsets_valid f.offsets (length f.ends)

abbrev pub ends_flat : Flat → Question
ends_flat f = sequences_valid f.offsets f.ends

-- those three, in their order
abbrev pub flat_asked : Flat → List Question
flat_asked f = paired_flat f ∷ offsets_flat f ∷ ends_flat f ∷ []

-- ---- and back: runs laid flat, sequence after sequence

-- one past the last run of each, from a on
unfoldable pub offsets_from : ℕ → List Runs → List ℕ
offsets_from a [] = []
offsets_from a (c ∷ cs) = (a + length c) ∷ offsets_from (a + length c) cs

abbrev pub flat_offsets : List Runs → List ℕ
flat_offsets cs = 0 ∷ offsets_from 0 cs

unfoldable pub flat_ends : List Runs → List ℤ
flat_ends [] = []
flat_ends (c ∷ cs) = ends_of c ++ flat_ends cs

unfoldable pub flat_values : List Runs → List ℤ
flat_values [] = []
flat_values (c ∷ cs) = values_of c ++ flat_values cs

-- how many sequences, and how many runs in all
abbrev pub flat_counts : List Runs → RleBatch
flat_counts cs = record { keys = length cs; runs = total (map length cs) }

-- the promise of a call that writes sequences laid flat, each buffer before and after
pub record WrittenFlat (o : Outcome (List Runs)) (r : Result RleBatch Refusal) (x x' : List ℕ) (e e' v v' : List ℤ) : Type 0 where
  pub answer : outcome_of r ≡ counts flat_counts o
  pub offsets : x' ≡ written flat_offsets o x
  pub ends : e' ≡ written flat_ends o e
  pub values : v' ≡ written flat_values o v

-- of the buffers that a call is lent: question 12 is about their lengths
abbrev pub WritesFlat : (List ℕ → Outcome (List Runs)) → Lent ℕ → Lent ℤ → Lent ℤ → Result RleBatch Refusal → Type 0
WritesFlat call x e v r =
    WrittenFlat (call (length (given x) ∷ length (given e) ∷ length (given v) ∷ [])) r (given x) (after x) (given e) (after e) (given v) (after v)
