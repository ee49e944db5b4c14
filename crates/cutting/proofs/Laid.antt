-- What calls returned, laid flat: it is read back, and asked nothing more.
-- Assumes nothing.
use Prim.Native.Nat.{ℕ, suc, ◌+◌, ◌-◌}
use mathlib.Core.Bool.{true}
use Rattle.std.specs.Prelude.{None}
use mathlib.Core.List.{List, [], ◌∷◌, ◌++◌, map, map-map, append_assoc}
use mathlib.Core.Path.{◌≡◌, refl, ap, sym, ◌∙◌}
use native.Mathlib.Nat.{zero-add}
use native.Mathlib.Numerals.{add-one}
use native.Mathlib.Omega.{arith}
use lib.IntN.{ℤ}
use lib.ListN.{length, take, drop, length-append, length-map}
use lib.Seq.{drop-append_seam, take-append_seam}
use borrow.Author.Tests.{eq-eqb, le-leb}
use Rattle.column.specs.Asking.{each_from}
use Rattle.column.specs.Flat.{sequences_of, sequences, columns, paired_flat, offsets_flat, ends_flat, offsets_from, flat_ends, flat_values}
use Rattle.column.specs.Lists.{total, parts_from}
use Rattle.column.specs.Questions.{agree, paired, rise, last_offset, sequence_at, sequences_valid}
use Rattle.column.specs.Runs.{Sequence, Runs, runs, ends_of, values_of}
use Rattle.column.proofs.All.{All}
use Rattle.column.proofs.Ends.{valid-ends}
use Rattle.column.proofs.Rising.{Valid}
use Rattle.column.proofs.Sequences.{length-ends, length-values, runs-flat}
use Rattle.column.proofs.YesNo.{offsets-yes}
use Rattle.column.proofs.Laying.{every_runs, length-all, flat-ends, flat-values, length-offsets}
use Rattle.batch.specs.Batch.{Entry, entries_from, entries, keys_of, columns_of, keyed}
use Rattle.cutting.specs.Cut.{sequence_of, flat_of, batch_of}

-- ---- it is read back

-- the next part of a flat list
next-part : (n a : ℕ) (p xs q : List ℤ) → length p ≡ a → length xs ≡ n → take (a + n - a) (drop a (p ++ (xs ++ q))) ≡ xs
next-part n a p xs q h k =
    let e : a + n - a ≡ length xs = omega arith in
    rw (e, ← h, drop-append_seam, take-append_seam)

flat-from : (a : ℕ) (pe pv : List ℤ) (cs : List Runs) → length pe ≡ a → length pv ≡ a
    → sequences_of (parts_from a (offsets_from a cs) (pe ++ flat_ends cs)) (parts_from a (offsets_from a cs) (pv ++ flat_values cs)) ≡ map sequence_of cs
unfolding sequences_of parts_from offsets_from flat_ends flat_values
flat-from a pe pv [] h k = refl
flat-from a pe pv (c ∷ cs) h k =
    rw (next-part (length c) a pe (ends_of c) (flat_ends cs) h (length-ends c), next-part (length c) a pv (values_of c) (flat_values cs) k (length-values c))
    (ap {B = List Sequence} (λ l. sequence_of c ∷ l)
    (simp append_assoc at (flat-from (a + length c) (pe ++ ends_of c) (pv ++ values_of c) cs
    (rw (length-append, length-ends c, h)) (rw (length-append, length-values c, k)))))

sequences-flat : (cs : List Runs) → sequences (flat_of cs) ≡ map sequence_of cs
sequences-flat cs = flat-from 0 [] [] cs refl refl

all-runs-flat : (cs : List Runs) → map (λ c. runs (sequence_of c)) cs ≡ cs
all-runs-flat [] = refl
all-runs-flat (c ∷ cs) = rw (runs-flat c, all-runs-flat cs)

pub columns-flat : (cs : List Runs) → columns (flat_of cs) ≡ cs
unfolding columns
columns-flat cs = rw (sequences-flat cs) (map-map runs sequence_of cs ∙ all-runs-flat cs)

entries_from_lem : (es : List Entry) → entries_from (keys_of es) (columns_of es) ≡ es
unfolding entries_from
entries_from_lem [] = refl
entries_from_lem (e ∷ es) = ap {B = List Entry} (λ l. e ∷ l) (entries_from_lem es)

pub entries_laid : (es : List Entry) → entries (batch_of es) ≡ es
unfolding entries
entries_laid es = rw (columns-flat (columns_of es)) (entries_from_lem es)

-- ---- 2: as many values as ends, and an offset more than keys

pub agree-yes : (what left right : ℕ) → left ≡ right → agree what left right ≡ None
unfolding agree
agree-yes what left right e = rw (eq-eqb left right e)

pub paired-runs : (rs : Runs) → paired (sequence_of rs) ≡ None
unfolding paired
paired-runs rs = agree-yes 3 (length (ends_of rs)) (length (values_of rs)) (length-ends rs ∙ sym (length-values rs))

pub length-flat-ends : (cs : List Runs) → length (flat_ends cs) ≡ total (map length cs)
length-flat-ends cs = ap length (flat-ends cs) ∙ length-ends (every_runs cs) ∙ length-all cs

pub length-flat-values : (cs : List Runs) → length (flat_values cs) ≡ total (map length cs)
length-flat-values cs = ap length (flat-values cs) ∙ length-values (every_runs cs) ∙ length-all cs

pub paired-flat : (cs : List Runs) → paired_flat (flat_of cs) ≡ None
unfolding paired
paired-flat cs = agree-yes 3 (length (flat_ends cs)) (length (flat_values cs)) (length-flat-ends cs ∙ sym (length-flat-values cs))

pub length-flat-offsets : (cs : List Runs) → length (flat_of cs).offsets ≡ suc (length cs)
length-flat-offsets cs = ap suc (length-offsets 0 cs)

pub keyed_laid : (es : List Entry) → keyed (batch_of es) ≡ None
unfolding keyed
keyed_laid es =
    agree-yes 2 (length (flat_of (columns_of es)).offsets) (length (keys_of es) + 1)
    (length-flat-offsets (columns_of es) ∙ ap suc (length-map es (λ (e : Entry). e.runs) ∙ sym (length-map es (λ (e : Entry). e.key)))
    ∙ sym (add-one (length (keys_of es))))

-- ---- 3: offsets

rise-offsets : (a : ℕ) (cs : List Runs) → rise a (offsets_from a cs) ≡ true
unfolding offsets_from
rise-offsets a [] = refl
rise-offsets a (c ∷ cs) = rw (le-leb a (a + length c) (omega arith)) (rise-offsets (a + length c) cs)

last-offset : (a : ℕ) (cs : List Runs) → last_offset a (offsets_from a cs) ≡ a + total (map length cs)
unfolding offsets_from
last-offset a [] = omega arith
last-offset a (c ∷ cs) = let i = last-offset (a + length c) cs in omega arith

pub offsets-flat : (cs : List Runs) → offsets_flat (flat_of cs) ≡ None
offsets-flat cs =
    offsets-yes (flat_of cs).offsets (length (flat_ends cs)) (rise-offsets 0 cs)
    (last-offset 0 cs ∙ zero-add (total (map length cs)) ∙ sym (length-flat-ends cs))

-- ---- 4: ends

parts-flat : (a : ℕ) (pe : List ℤ) (cs : List Runs) → length pe ≡ a → parts_from a (offsets_from a cs) (pe ++ flat_ends cs) ≡ map ends_of cs
unfolding parts_from offsets_from flat_ends
parts-flat a pe [] h = refl
parts-flat a pe (c ∷ cs) h =
    rw (next-part (length c) a pe (ends_of c) (flat_ends cs) h (length-ends c))
    (ap {B = List (List ℤ)} (λ l. ends_of c ∷ l) (simp append_assoc at (parts-flat (a + length c) (pe ++ ends_of c) cs (rw (length-append, length-ends c, h)))))

each-valid : (p : ℕ) (cs : List Runs) → All Valid cs → each_from sequence_at p (map ends_of cs) ≡ None
unfolding each_from
each-valid p [] v = refl
each-valid p (c ∷ cs) v = rw (valid-ends c v.0, each-valid (suc p) cs v.1)

pub ends-flat : (cs : List Runs) → All Valid cs → ends_flat (flat_of cs) ≡ None
unfolding sequences_valid
ends-flat cs v = rw (parts-flat 0 [] cs refl) (each-valid 0 cs v)
