-- The keys of a batch with their sequences: where each stands in the flat lists, and what a look-up finds.
-- Assumes nothing.
use Prim.Native.Nat.{ℕ, zero, suc, ◌+◌, ◌-◌, ◌≤◌, ◌<◌}
use mathlib.Core.Bool.{Bool, true, false, cond, ◌||◌}
use Rattle.std.specs.Prelude.{None}
use mathlib.Core.List.{List, [], ◌∷◌, map}
use mathlib.Core.Path.{◌≡◌, refl, ap, sym, ◌∙◌}
use native.Mathlib.Numerals.{add-one}
use native.Mathlib.Omega.{arith}
use lib.Dec.{eqb, ltb}
use lib.IntN.{ℤ, pos}
use lib.ListN.{length, get_or, length-map, get_or-eq_default}
use Rattle.column.specs.Flat.{flat, sequences_of, columns}
use Rattle.column.specs.Lists.{any, total, part, parts_from, parts}
use Rattle.column.specs.Questions.{ends_valid, ends_from}
use Rattle.column.specs.Runs.{Runs, runs, runs_of, length_of, length_of_ends}
use Rattle.column.proofs.All.{All}
use Rattle.column.proofs.Ends.{rising, runs-rise, length_runs, length_of-ends}
use Rattle.column.proofs.Flattened.{AllValid, length-parts, total-parts, sequences-told, columns_by_ends, columns-valid}
use Rattle.column.proofs.Parts.{part-paired}
use Rattle.column.proofs.Rising.{Valid}
use Rattle.batch_index.specs.Calls.{lowest}
use Rattle.batch_index.proofs.Lowest.{lowest-any}
use Rattle.batch.specs.Batch.{Batch, batch, Entry, entries_from, entries, keys_of, columns_of, has, find}
use Rattle.batch.specs.Workers.{ValidBatch}

-- ---- the part of the key at a position

at_from : {A : Type 0} (a : ℕ) (os : List ℕ) (xs : List A) (k : ℕ) → k < length os → get_or (parts_from a os xs) k [] ≡ part (get_or (a ∷ os) k 0) (get_or os k 0) xs
unfolding parts_from
at_from a [] xs k h = let z : ⊥ = omega arith in absurd z
at_from a (b ∷ os) xs zero h = refl
at_from a (b ∷ os) xs (suc k) h = at_from b os xs k (omega arith)

pub part_is : {A : Type 0} (os : List ℕ) (xs : List A) (k : ℕ) → k + 1 < length os → get_or (parts os xs) k [] ≡ part (get_or os k 0) (get_or os (k + 1) 0) xs
part_is [] xs k h = let z : ⊥ = omega arith in absurd z
part_is (a ∷ os) xs k h = rw add-one (at_from a os xs k (omega arith))

pub part_none : {A : Type 0} (os : List ℕ) (xs : List A) (k : ℕ) → length os ≤ k + 1 → get_or (parts os xs) k [] ≡ []
part_none os xs k h = get_or-eq_default (parts os xs) [] (omega (arith, length-parts os xs))

-- ---- keys with their sequences

keys_from : (ks : List ℕ) (cs : List Runs) → length ks ≡ length cs → keys_of (entries_from ks cs) ≡ ks
unfolding entries_from
keys_from [] cs e = refl
keys_from (k ∷ ks) [] e = let z : ⊥ = omega arith in absurd z
keys_from (k ∷ ks) (c ∷ cs) e = ap {B = List ℕ} (λ l. k ∷ l) (keys_from ks cs (omega arith))

columns-from : (ks : List ℕ) (cs : List Runs) → length ks ≡ length cs → columns_of (entries_from ks cs) ≡ cs
unfolding entries_from
columns-from [] [] e = refl
columns-from [] (c ∷ cs) e = let z : ⊥ = omega arith in absurd z
columns-from (k ∷ ks) [] e = let z : ⊥ = omega arith in absurd z
columns-from (k ∷ ks) (c ∷ cs) e = ap {B = List Runs} (λ l. c ∷ l) (columns-from ks cs (omega arith))

find-step : (t : Bool) (c : Runs) (cs : List Runs) (n : ℕ) (r : Runs) → r ≡ get_or cs n [] → cond t c r ≡ get_or (c ∷ cs) (cond t 0 (suc n)) []
find-step true c cs n r e = refl
find-step false c cs n r e = e

find-from : (key : ℕ) (ks : List ℕ) (cs : List Runs) → length ks ≡ length cs → find key (entries_from ks cs) ≡ get_or cs (lowest key ks) []
unfolding entries_from find lowest
find-from key [] [] e = refl
find-from key [] (c ∷ cs) e = let z : ⊥ = omega arith in absurd z
find-from key (k ∷ ks) [] e = let z : ⊥ = omega arith in absurd z
find-from key (k ∷ ks) (c ∷ cs) e = find-step (eqb key k) c cs (lowest key ks) _ (find-from key ks cs (omega arith))

has-any : (key : ℕ) (ks : List ℕ) (cs : List Runs) → length ks ≡ length cs → has key (entries_from ks cs) ≡ any (eqb key) ks
unfolding entries_from has
has-any key [] cs e = refl
has-any key (k ∷ ks) [] e = let z : ⊥ = omega arith in absurd z
has-any key (k ∷ ks) (c ∷ cs) e = ap (λ (t : Bool). eqb key k || t) (has-any key ks cs (omega arith))

-- ---- the columns

at_columns_from : (a : ℕ) (os : List ℕ) (es vs : List ℤ) (k : ℕ)
    → get_or (map runs (sequences_of (parts_from a os es) (parts_from a os vs))) k [] ≡ runs_of (get_or (parts_from a os es) k []) (get_or (parts_from a os vs) k [])
unfolding sequences_of parts_from runs_of
at_columns_from a [] es vs k = refl
at_columns_from a (b ∷ os) es vs zero = refl
at_columns_from a (b ∷ os) es vs (suc k) = at_columns_from b os es vs k

at_columns : (os : List ℕ) (es vs : List ℤ) (k : ℕ) → get_or (columns (flat os es vs)) k [] ≡ runs_of (get_or (parts os es) k []) (get_or (parts os vs) k [])
unfolding columns sequences_of runs_of
at_columns [] es vs k = refl
at_columns (a ∷ os) es vs k = at_columns_from a os es vs k

valid_at : (ess : List (List ℤ)) (k : ℕ) → AllValid ess → ends_valid (get_or ess k []) ≡ None
unfolding ends_valid ends_from
valid_at [] k v = refl
valid_at (es ∷ ess) zero v = v.0
valid_at (es ∷ ess) (suc k) v = valid_at ess k v.1

paired-from : (a : ℕ) (os : List ℕ) (es vs : List ℤ) (k : ℕ) → length es ≡ length vs
    → length (get_or (parts_from a os es) k []) ≡ length (get_or (parts_from a os vs) k [])
unfolding parts_from
paired-from a [] es vs k e = refl
paired-from a (b ∷ os) es vs zero e = part-paired a b es vs e
paired-from a (b ∷ os) es vs (suc k) e = paired-from b os es vs k e

paired_at : (os : List ℕ) (es vs : List ℤ) (k : ℕ) → length es ≡ length vs → length (get_or (parts os es) k []) ≡ length (get_or (parts os vs) k [])
paired_at [] es vs k e = refl
paired_at (a ∷ os) es vs k e = paired-from a os es vs k e

pub length-columns : (os : List ℕ) (es vs : List ℤ) → length es ≡ length vs → AllValid (parts os es) → length (columns (flat os es vs)) ≡ length os - 1
length-columns os es vs l v =
    sym (length-map (columns (flat os es vs)) length)
    ∙ ap length (columns_by_ends length length (λ e w y p. length_runs e w p) os es vs l v)
    ∙ length-map (parts os es) length
    ∙ length-parts os es

-- the sequence at a position, the empty one where there is no such position
abbrev pub column_at : Batch → ℕ → Runs
column_at b k = get_or (columns b.flat) k []

module _ (ks os : List ℕ) (es vs : List ℤ) (v : ValidBatch (batch ks os es vs)) where
  pub parts-valid : AllValid (parts os es)
  parts-valid = sequences-told os es v.valid

  pub columns_are : All Valid (columns (flat os es vs))
  columns_are = columns-valid os es vs parts-valid

  pub columns-many : length (columns (flat os es vs)) ≡ length ks
  columns-many = omega (arith, length-columns os es vs v.paired parts-valid, v.keyed)

  pub entries-keys : keys_of (entries (batch ks os es vs)) ≡ ks
  unfolding entries
  entries-keys = keys_from ks (columns (flat os es vs)) (sym columns-many)

  pub entries-columns : columns_of (entries (batch ks os es vs)) ≡ columns (flat os es vs)
  unfolding entries
  entries-columns = columns-from ks (columns (flat os es vs)) (sym columns-many)

  pub entries-many : length (entries (batch ks os es vs)) ≡ length ks
  entries-many = sym (length-map (entries (batch ks os es vs)) (λ (e : Entry). e.key)) ∙ ap length entries-keys

  -- all runs
  pub columns-total : total (map length (columns (flat os es vs))) ≡ length es
  columns-total = ap total (columns_by_ends length length (λ e w y p. length_runs e w p) os es vs v.paired parts-valid) ∙ total-parts os es v.offsets

  -- ---- a look-up finds the sequence at the lowest position of the key

  pub find_is : (key : ℕ) → find key (entries (batch ks os es vs)) ≡ column_at (batch ks os es vs) (lowest key ks)
  unfolding entries
  find_is key = find-from key ks (columns (flat os es vs)) (sym columns-many)

  pub has_is : (key : ℕ) → has key (entries (batch ks os es vs)) ≡ ltb (lowest key ks) (length ks)
  unfolding entries
  has_is key = has-any key ks (columns (flat os es vs)) (sym columns-many) ∙ sym (lowest-any key ks)

  -- ---- the sequence at a position, by what the code reads

  module _ (k : ℕ) where
    pub column_is : column_at (batch ks os es vs) k ≡ runs_of (get_or (parts os es) k []) (get_or (parts os vs) k [])
    column_is = at_columns os es vs k

    pub part-valid : ends_valid (get_or (parts os es) k []) ≡ None
    part-valid = valid_at (parts os es) k parts-valid

    pub column-valid : Valid (column_at (batch ks os es vs) k)
    column-valid = rw column_is (runs-rise 0 _ _ (rising _ part-valid))

    pub parts-paired : length (get_or (parts os es) k []) ≡ length (get_or (parts os vs) k [])
    parts-paired = paired_at os es vs k v.paired

    pub column-count : length (column_at (batch ks os es vs) k) ≡ length (get_or (parts os es) k [])
    column-count = ap length column_is ∙ length_runs (get_or (parts os es) k []) (get_or (parts os vs) k []) parts-paired

    pub column-length : length_of_ends (get_or (parts os es) k []) ≡ pos (length_of (column_at (batch ks os es vs) k))
    column-length = length_of-ends (get_or (parts os es) k []) (get_or (parts os vs) k []) part-valid parts-paired
        ∙ ap (λ (rs : Runs). pos (length_of rs)) (sym column_is)
