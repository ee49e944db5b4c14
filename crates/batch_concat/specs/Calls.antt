-- batch.rs: concat of two batches.
use Rattle.std.specs.Prelude.{ℕ, ◌+◌, List, [], ◌∷◌, ◌++◌, map, length}
use Rattle.column.specs.Asking.{Question, first_no, ◌otherwise◌, each}
use Rattle.column.specs.Paper.{Outcome}
use Rattle.column.specs.Questions.{fits, room}
use Rattle.column.specs.Runs.{encode, length_of}
use Rattle.batch_keys.specs.Calls.{once}
use Rattle.transform.specs.Calls.{shown}
use Rattle.batch.specs.Batch.{Batch, Entry, entries, find, batch_needs, both_valid}

-- the sequences of a key joined, the first batch's first; an absent key contributes nothing
abbrev pub concat_key : List Entry → List Entry → ℕ → Entry
concat_key l r k = record { key = k; runs = encode (shown (find k l ∷ find k r ∷ [])) }

-- 7, of each key's joined length
unfoldable pub fit_keys : List Entry → List Entry → List ℕ → Question
fit_keys l r ks = each (λ n k. fits (length_of (find k l) + length_of (find k r))) ks

-- "`concat` of two batches": "runs of all inputs, keys of all inputs, that many keys + 1 offsets"
unfoldable pub concat : Batch → Batch → List ℕ → Outcome (List Entry)
concat a b buffers =
    let ks = once (a.keys ++ b.keys) in
    first_no
    (both_valid a b
    ∷ fit_keys (entries a) (entries b) ks
    ∷ room (batch_needs (length a.keys + length b.keys) (length a.flat.ends + length b.flat.ends)) buffers
    ∷ [])
    otherwise map (concat_key (entries a) (entries b)) ks
