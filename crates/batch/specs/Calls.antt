-- batch.rs: from_parts and get.
use Rattle.std.specs.Prelude.{ℕ, cond, List, [], ◌∷◌, ◌≡◌, ℤ, length, Option, Some, None, Result}
use Rattle.column.specs.Asking.{first_no, ◌otherwise◌}
use Rattle.column.specs.Paper.{Outcome, counts, written, outcome_of}
use Rattle.column.specs.Questions.{distinct_keys, room, both}
use Rattle.column.specs.Runs.{Runs, ends_of, values_of}
use Rattle.batch.specs.Batch.{Batch, entries, batch_valid, has, find}
use Rattle.column.specs.Lent.{Lent, given, after}
use Rattle.column.specs.declared.error.Refusal.{Refusal}

-- ---- from_parts

-- "only checks, writes nothing"
unfoldable pub from_parts : Batch → Outcome (Unit {0})
from_parts b = first_no (batch_valid b ∷ distinct_keys b.keys ∷ []) otherwise tt

-- ---- get

-- "copies the key's sequence, needing exactly its runs; none for an absent key"
unfoldable pub get : Batch → ℕ → List ℕ → Outcome (Option Runs)
get b key buffers =
    let found = find key (entries b) in
    first_no (batch_valid b ∷ room (both (length found)) buffers ∷ [])
    otherwise cond (has key (entries b)) (Some found) None

abbrev pub count_of : Option Runs → Option ℕ
count_of None = None
count_of (Some rs) = Some (length rs)

-- an absent key brings nothing
abbrev pub runs_in : Option Runs → Runs
runs_in None = []
runs_in (Some rs) = rs

-- the promise: two buffers, each before and after
pub record WrittenGot (o : Outcome (Option Runs)) (r : Result (Option ℕ) Refusal) (e e' v v' : List ℤ) : Type 0 where
  pub answer : outcome_of r ≡ counts count_of o
  pub ends : e' ≡ written (λ g. ends_of (runs_in g)) o e
  pub values : v' ≡ written (λ g. values_of (runs_in g)) o v

-- of the buffers that a call is lent: question 12 is about their lengths
abbrev pub WritesGot : (List ℕ → Outcome (Option Runs)) → Lent ℤ → Lent ℤ → Result (Option ℕ) Refusal → Type 0
WritesGot call e v r =
    WrittenGot (call (length (given e) ∷ length (given v) ∷ [])) r (given e) (after e) (given v) (after v)
