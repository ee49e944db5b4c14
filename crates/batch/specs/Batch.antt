-- batch.rs: a batch, what it is asked, and what a call that writes one promises.
use Rattle.std.specs.Prelude.{ℕ, ◌+◌, Bool, cond, List, [], ◌∷◌, map, ◌≡◌, ℤ, length, eqb, Result}
use Rattle.column.specs.Asking.{Question, first_no}
use Rattle.column.specs.Flat.{Flat, flat, columns, paired_flat, offsets_flat, ends_flat, flat_offsets, flat_ends, flat_values, flat_counts}
use Rattle.column.specs.Lists.{any}
use Rattle.column.specs.Paper.{Outcome, counts, written, outcome_of}
use Rattle.column.specs.Questions.{agree}
use Rattle.column.specs.Runs.{Runs}
use Rattle.column.specs.Lent.{Lent, given, after}
use Rattle.column.specs.declared.answer.RleBatch.{RleBatch}
use Rattle.column.specs.declared.error.Refusal.{Refusal}

-- "A batch is u32 keys, offsets, and flat ends and values", as a call is handed it
pub record Batch : Type 0 where
  pub keys : List ℕ
  pub flat : Flat

abbrev pub batch : List ℕ → List ℕ → List ℤ → List ℤ → Batch
batch ks os es vs = record { keys = ks; flat = flat os es vs }

-- a key with its sequence
pub record Entry : Type 0 where
  pub key : ℕ
  pub runs : Runs

-- keys with their sequences, position by position
unfoldable pub entries_from : List ℕ → List Runs → List Entry
entries_from [] cs = []
entries_from (k ∷ ks) [] = []
entries_from (k ∷ ks) (c ∷ cs) = record { key = k; runs = c } ∷ entries_from ks cs

-- "key k owns entries offsets[k] up to offsets[k+1]"
unfoldable pub entries : Batch → List Entry
entries b = entries_from b.keys (columns b.flat)

-- and back: the keys and the sequences of entries
abbrev pub keys_of : List Entry → List ℕ
keys_of es = map (λ (e : Entry). e.key) es

abbrev pub columns_of : List Entry → List Runs
columns_of es = map (λ (e : Entry). e.runs) es

-- the promise of a call that writes a batch into four buffers, each before and after
pub record WrittenBatch (o : Outcome (List Entry)) (r : Result RleBatch Refusal) (k k' x x' : List ℕ) (e e' v v' : List ℤ) : Type 0 where
  pub answer : outcome_of r ≡ counts (λ es. flat_counts (columns_of es)) o
  pub keys : k' ≡ written keys_of o k
  pub offsets : x' ≡ written (λ es. flat_offsets (columns_of es)) o x
  pub ends : e' ≡ written (λ es. flat_ends (columns_of es)) o e
  pub values : v' ≡ written (λ es. flat_values (columns_of es)) o v

-- of the buffers that a call is lent: question 12 is about their lengths
abbrev pub WritesBatch : (List ℕ → Outcome (List Entry)) → Lent ℕ → Lent ℕ → Lent ℤ → Lent ℤ → Result RleBatch Refusal → Type 0
WritesBatch call k x e v r =
    WrittenBatch (call (length (given k) ∷ length (given x) ∷ length (given e) ∷ length (given v) ∷ [])) r
    (given k) (after k) (given x) (after x) (given e) (after e) (given v) (after v)

-- ---- what a batch is asked: 2 (what 2 and what 3), then 3 and 4

-- what 2: offsets, keys + 1
unfoldable pub keyed : Batch → Question
keyed b = agree 2 (length b.flat.offsets) (length b.keys + 1)

abbrev pub lengths_asked : Batch → List Question
lengths_asked b = keyed b ∷ paired_flat b.flat ∷ []

abbrev pub content_asked : Batch → List Question
content_asked b = offsets_flat b.flat ∷ ends_flat b.flat ∷ []

unfoldable pub batch_valid : Batch → Question
batch_valid b = first_no (first_no (lengths_asked b) ∷ first_no (content_asked b) ∷ [])

-- ---- look-ups

-- is there such a key
unfoldable pub has : ℕ → List Entry → Bool
has k es = any (λ (e : Entry). eqb k e.key) es

-- the sequence of a key, at its lowest position; the empty one for an absent key
unfoldable pub find : ℕ → List Entry → Runs
find k [] = []
find k (e ∷ es) = cond (eqb k e.key) e.runs (find k es)

-- ---- room

-- "Needed: runs of all inputs, keys of all inputs, that many keys + 1 offsets": so many keys, and so many runs
abbrev pub batch_needs : ℕ → ℕ → List ℕ
batch_needs keys runs = keys ∷ (keys + 1) ∷ runs ∷ runs ∷ []

-- ---- what two batches are asked

-- "the first is asked first, within each question and each what": what 2 and what 3
abbrev pub both_lengths : Batch → Batch → List Question
both_lengths a b = keyed a ∷ keyed b ∷ paired_flat a.flat ∷ paired_flat b.flat ∷ []

-- 3 and 4
abbrev pub both_content : Batch → Batch → List Question
both_content a b = offsets_flat a.flat ∷ offsets_flat b.flat ∷ ends_flat a.flat ∷ ends_flat b.flat ∷ []

unfoldable pub both_valid : Batch → Batch → Question
both_valid a b = first_no (first_no (both_lengths a b) ∷ first_no (both_content a b) ∷ [])
