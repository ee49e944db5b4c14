-- batch.rs: collapse, the keys of one batch gathered under new keys.
use Rattle.std.specs.Prelude.{ℕ, ◌*◌, cond, List, [], ◌∷◌, ◌++◌, map, ◌≡◌, ℤ, length, drop, eqb, None, Option, Result}
use Rattle.num.specs.Numbers.{operation}
use Rattle.column.specs.Asking.{Question, first_no, ◌otherwise◌, each, refused_in_key}
use Rattle.column.specs.Combine.{two, all_filled, combined}
use Rattle.column.specs.Flat.{columns}
use Rattle.column.specs.Paper.{Outcome, answers, refuses}
use Rattle.column.specs.Questions.{listed, agree, room, both}
use Rattle.column.specs.Runs.{Runs, length_of, dense, encode}
use Rattle.batch.specs.Batch.{Batch, Entry, entries_from, lengths_asked, content_asked, batch_needs, WrittenBatch}
use Rattle.batch_keys.specs.Calls.{once}
use Rattle.column.specs.Lent.{Lent, given, after}
use Rattle.column.specs.declared.answer.RleBatch.{RleBatch}
use Rattle.column.specs.declared.error.Refusal.{Refusal}

-- ---- a group of sequences

-- "takes each further one in order by `zip_with`; one fill serves both sides"
unfoldable pub collapse_from : (ℤ → ℤ → ℤ) → Option ℤ → Runs → List Runs → Runs
collapse_from op fill sofar [] = sofar
collapse_from op fill sofar (m ∷ ms) = collapse_from op fill (combined op (two fill fill sofar m)) ms

-- "a group starts from its first member, merged"
unfoldable pub collapse_runs : (ℤ → ℤ → ℤ) → Option ℤ → List Runs → Runs
collapse_runs op fill [] = []
collapse_runs op fill (m ∷ ms) = collapse_from op fill (encode (dense m)) ms

-- 10, as each of these `zip_with` asks it
unfoldable pub filled_from : (ℤ → ℤ → ℤ) → Option ℤ → Runs → List Runs → Question
filled_from op fill sofar [] = None
filled_from op fill sofar (m ∷ ms) = first_no
    (all_filled (length_of sofar) (length_of m) (two fill fill sofar m) ∷ filled_from op fill (combined op (two fill fill sofar m)) ms ∷ [])

unfoldable pub filled_group : (ℤ → ℤ → ℤ) → Option ℤ → List Runs → Question
filled_group op fill [] = None
filled_group op fill (m ∷ ms) = filled_from op fill (encode (dense m)) ms

-- ---- collapse

-- the sequences of a new key, in order
unfoldable pub members : List Entry → ℕ → List Runs
members [] k = []
members (e ∷ es) k = cond (eqb k e.key) (e.runs ∷ members es k) (members es k)

-- each sequence under its new key: "`collapse` takes a slice of new keys"
abbrev pub renamed : Batch → List ℕ → List Entry
renamed b new_keys = entries_from new_keys (columns b.flat)

-- the questions but 10 and 12; what 4: new keys, keys
unfoldable pub collapse_asked : Batch → List ℕ → ℕ → Question
collapse_asked b new_keys code =
    first_no (listed 0 9 code ∷ first_no (lengths_asked b) ∷ agree 4 (length new_keys) (length b.keys) ∷ first_no (content_asked b) ∷ [])

-- 10 "inside a batch", "counted among the result's keys"
unfoldable pub filled_groups : (ℤ → ℤ → ℤ) → Option ℤ → List Entry → List ℕ → Question
filled_groups op fill es groups = each (λ n k. refused_in_key n (filled_group op fill (members es k))) groups

abbrev pub collapse_key : (ℤ → ℤ → ℤ) → Option ℤ → List Entry → ℕ → Entry
collapse_key op fill es k = record { key = k; runs = collapse_runs op fill (members es k) }

-- "`collapse` needs also a scratch pair, each of twice the batch's runs"
abbrev pub collapse_needs : Batch → List ℕ
collapse_needs b = batch_needs (length b.keys) (length b.flat.ends) ++ both (2 * length b.flat.ends)

-- "groups stand by first appearance"
unfoldable pub collapse : Batch → List ℕ → Option ℤ → ℕ → List ℕ → Outcome (List Entry)
collapse b new_keys fill code buffers =
    let groups = once new_keys in
    let es = renamed b new_keys in
    first_no (collapse_asked b new_keys code ∷ filled_groups (operation code) fill es groups ∷ room (collapse_needs b) buffers ∷ [])
    otherwise map (collapse_key (operation code) fill es) groups

-- "after success those entries may hold anything, later ones what they held": of a scratch buffer that needs n entries
abbrev pub Scratch : Outcome (List Entry) → ℕ → List ℤ → List ℤ → Type 0
Scratch (answers es) n s s' = (length s' ≡ length s) × (drop n s' ≡ drop n s)
Scratch (refuses r) n s s' = s' ≡ s

-- the promise: six buffers, each before and after
pub record WrittenCollapse (o : Outcome (List Entry)) (needed : ℕ) (r : Result RleBatch Refusal) (k k' x x' : List ℕ) (e e' v v' s s' t t' : List ℤ) : Type 0 where
  pub batch : WrittenBatch o r k k' x x' e e' v v'
  pub scratch_ends : Scratch o needed s s'
  pub scratch_values : Scratch o needed t t'

-- of the buffers that a call is lent: question 12 is about their lengths
abbrev pub WritesCollapse : (List ℕ → Outcome (List Entry)) → ℕ → Lent ℕ → Lent ℕ → Lent ℤ → Lent ℤ → Lent ℤ → Lent ℤ → Result RleBatch Refusal → Type 0
WritesCollapse call n k x e v s t r =
    WrittenCollapse (call (length (given k) ∷ length (given x) ∷ length (given e) ∷ length (given v) ∷ length (given s) ∷ length (given t) ∷ [])) n r
    (given k) (after k) (given x) (after x) (given e) (after e) (given v) (after v) (given s) (after s) (given t) (after t)
