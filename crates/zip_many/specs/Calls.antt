-- many.rs: many columns combined.
use Rattle.std.specs.Prelude.{ℕ, min, List, [], ◌∷◌, ℤ, length, Option}
use Rattle.num.specs.Numbers.{operation}
use Rattle.column.specs.Asking.{Question, first_no, ◌otherwise◌}
use Rattle.column.specs.Combine.{many, greatest_length, all_filled, combined}
use Rattle.column.specs.Flat.{Flat, count, columns, paired_flat, offsets_flat, ends_flat}
use Rattle.column.specs.Paper.{Outcome}
use Rattle.column.specs.Questions.{listed, at_most, room, both}
use Rattle.column.specs.Runs.{Runs, length_of}
use Rattle.many.specs.Calls.{most_columns}

-- "least and greatest length"
abbrev pub least_length : List Runs → ℕ
least_length [] = 0
least_length (c ∷ []) = length_of c
least_length (c ∷ d ∷ cs) = min (length_of c) (least_length (d ∷ cs))

-- "N (all runs) entries"
unfoldable pub zip_many_asked : Flat → Option ℤ → ℕ → List ℕ → Question
zip_many_asked f fill code buffers =
    let cs = many fill (columns f) in
    first_no
    (listed 0 9 code
    ∷ paired_flat f
    ∷ offsets_flat f
    ∷ ends_flat f
    ∷ at_most most_columns (count f)
    ∷ all_filled (least_length (columns f)) (greatest_length cs) cs
    ∷ room (both (length f.ends)) buffers
    ∷ [])

-- "covers positions 0 up to the greatest length, the single fill standing where a column has ended; its result is merged"
unfoldable pub zip_many : Flat → Option ℤ → ℕ → List ℕ → Outcome Runs
zip_many f fill code buffers = zip_many_asked f fill code buffers otherwise combined (operation code) (many fill (columns f))
