-- transform.rs with concat: sequences joined and turned round.
use Rattle.std.specs.Prelude.{ℕ, ◌-◌, List, [], ◌∷◌, ◌++◌, map, ℤ, length}
use Rattle.column.specs.Asking.{Question, first_no, ◌otherwise◌}
use Rattle.column.specs.Flat.{Flat, columns, paired_flat, offsets_flat, ends_flat}
use Rattle.column.specs.Lists.{total}
use Rattle.column.specs.Paper.{Outcome}
use Rattle.column.specs.Questions.{fits, room, both, sequence_asked}
use Rattle.column.specs.Runs.{Sequence, Runs, runs, length_of, dense, encode}

-- ---- concat

-- the values that the columns show, one column after the other
unfoldable pub shown : List Runs → List ℤ
shown [] = []
shown (c ∷ cs) = dense c ++ shown cs

-- "it needs the sum of run counts"
unfoldable pub concat_asked : Flat → List ℕ → Question
concat_asked f buffers =
    first_no (paired_flat f ∷ offsets_flat f ∷ ends_flat f ∷ fits (total (map length_of (columns f))) ∷ room (both (length f.ends)) buffers ∷ [])

-- "`concat` merges across joints"
unfoldable pub concat : Flat → List ℕ → Outcome Runs
concat f buffers = let result = encode (shown (columns f)) in concat_asked f buffers otherwise result

-- ---- reversed

-- the runs from the last to the first, in a sequence of length n, the first of them from p on
unfoldable pub reverse_from : ℕ → ℕ → Runs → Runs
reverse_from n p [] = []
reverse_from n p (r ∷ rs) = reverse_from n r.end rs ++ record { end = n - p; value = r.value } ∷ []

unfoldable pub reverse_runs : Runs → Runs
reverse_runs rs = reverse_from (length_of rs) 0 rs

-- "`reversed` does not merge, n entries"
unfoldable pub reversed : Sequence → List ℕ → Outcome Runs
reversed s buffers = sequence_asked s (length s.ends) buffers otherwise reverse_runs (runs s)
