-- batch.rs: zip_with of two batches.
use Rattle.std.specs.Prelude.{ℕ, ◌+◌, Bool, cond, not, ◌&&◌, ◌||◌, List, [], ◌∷◌, ◌++◌, map, ℤ, length, eqb, Option}
use Rattle.num.specs.Numbers.{operation}
use Rattle.column.specs.Asking.{Question, first_no, ◌otherwise◌, each, refused_in_key}
use Rattle.column.specs.Combine.{two, all_filled, combined}
use Rattle.column.specs.Lists.{total}
use Rattle.column.specs.Paper.{Outcome}
use Rattle.column.specs.Questions.{listed, room}
use Rattle.column.specs.Runs.{Runs, length_of}
use Rattle.batch.specs.Batch.{Batch, Entry, entries, has, find, batch_needs, both_valid}

-- those that pass, in order
abbrev pub keep : {A : Type 0} → (A → Bool) → List A → List A
keep f [] = []
keep f (x ∷ xs) = cond (f x) (x ∷ keep f xs) (keep f xs)

-- "by How (0 outer, 1 inner, 2 left, 3 right)": does it keep the left's, the right's keys that are not joined
abbrev pub keeps_left : ℕ → Bool
keeps_left how = eqb how 0 || eqb how 2

abbrev pub keeps_right : ℕ → Bool
keeps_right how = eqb how 0 || eqb how 3

-- a key of the result, with the sequences of both sides: "An unjoined side is the empty sequence"
pub record Pair : Type 0 where
  pub key : ℕ
  pub first : Runs
  pub second : Runs

-- a key of the left, with the right's sequence
abbrev pub with_right : List Entry → Entry → Pair
with_right r e = record { key = e.key; first = e.runs; second = find e.key r }

-- a key of the right's own
abbrev pub right_only : Entry → Pair
right_only e = record { key = e.key; first = []; second = e.runs }

-- "Join order: the left's keys, then for outer and right the right's own"
unfoldable pub pairs : ℕ → List Entry → List Entry → List Pair
pairs how l r =
    map (with_right r) (keep (λ (e : Entry). keeps_left how || has e.key r) l)
    ++ map right_only (keep (λ (e : Entry). keeps_right how && not (has e.key l)) r)

-- 10 of a pair
abbrev pub filled_pair : Option ℤ → Option ℤ → Pair → Question
filled_pair fa fb p = all_filled (length_of p.first) (length_of p.second) (two fa fb p.first p.second)

-- "inside a batch", "counted among the result's keys"
unfoldable pub filled_pairs : Option ℤ → Option ℤ → List Pair → Question
filled_pairs fa fb ps = each (λ n p. refused_in_key n (filled_pair fa fb p)) ps

-- "`zip_with` needs the runs of both sides, summed over the joined pairs"
abbrev pub pair_runs : Pair → ℕ
pair_runs p = length p.first + length p.second

abbrev pub zip_needs : Batch → Batch → List Pair → List ℕ
zip_needs a b ps = batch_needs (length a.keys + length b.keys) (total (map pair_runs ps))

-- for each pair of the join what `zip_with` gives
abbrev pub zip_pair : (ℤ → ℤ → ℤ) → Option ℤ → Option ℤ → Pair → Entry
zip_pair op fa fb p = record { key = p.key; runs = combined op (two fa fb p.first p.second) }

-- the questions but 10 and 12
unfoldable pub zip_asked : Batch → Batch → ℕ → ℕ → Question
zip_asked a b how code = first_no (listed 0 3 how ∷ listed 0 9 code ∷ both_valid a b ∷ [])

unfoldable pub zip_with : Batch → Batch → ℕ → Option ℤ → Option ℤ → ℕ → List ℕ → Outcome (List Entry)
zip_with a b how fa fb code buffers =
    let ps = pairs how (entries a) (entries b) in
    first_no (zip_asked a b how code ∷ filled_pairs fa fb ps ∷ room (zip_needs a b ps) buffers ∷ [])
    otherwise map (zip_pair (operation code) fa fb) ps
