-- slice.rs and the views: parts of a sequence.
use Rattle.std.specs.Prelude.{◌≡◌, ℕ, suc, ◌+◌, ◌-◌, ◌*◌, ◌≤◌, min, Bool, cond, ◌&&◌, List, [], ◌∷◌, length, ℤ, pos, int_le, int_lt, nat_le, nat_lt, Option, Some, None}
use Rattle.std.specs.Borrow.{Bor}
use Rattle.column.specs.Asking.{first_no, ◌otherwise◌}
use Rattle.column.specs.Lists.{part}
use Rattle.column.specs.Paper.{Outcome, answers, refuses}
use Rattle.column.specs.Questions.{paired, ends_valid, sequence_asked}
use Rattle.column.specs.Runs.{Sequence, Runs, to_nat, runs, length_of}
use Rattle.slice.specs.declared.Part.{Part}
use Rattle.slice.specs.declared.View.{View}

-- ---- run_index

-- "Run r covers positions from the end before it (0 for the first) up to its own end": the run that covers p, from run i on
abbrev pub covering_from : ℕ → ℤ → List ℤ → ℤ → Option ℕ
covering_from i before [] p = None
covering_from i before (e ∷ es) p = cond (int_le before p && int_lt p e) (Some i) (covering_from (suc i) e es p)

unfoldable pub covering : List ℤ → ℤ → Option ℕ
covering es p = covering_from 0 (pos 0) es p

-- "none exactly when no run covers the position"; it takes ends alone
unfoldable pub run_index : List ℤ → ℤ → Outcome (Option ℕ)
run_index es p = ends_valid es otherwise covering es p

-- ---- slice

-- "the touched runs, ends less start, the last at end less start"
unfoldable pub cut : ℕ → ℕ → Runs → Runs
cut s e [] = []
cut s e (r ∷ rs) =
    cond (nat_le r.end s) (cut s e rs)
    (cond (nat_le e r.end) (record { end = e - s; value = r.value } ∷ []) (record { end = r.end - s; value = r.value } ∷ cut s e rs))

-- "clamps start up to 0 and end down to the length; empty if start ≥ end .. not merged"
unfoldable pub slice_runs : ℤ → ℤ → Runs → Runs
slice_runs start end rs =
    let s = to_nat start in
    let e = min (to_nat end) (length_of rs) in
    cond (nat_lt s e) (cut s e rs) []

-- a part of a sequence, from start up to end: "It needs exactly its runs"
unfoldable pub slice : Sequence → ℤ → ℤ → List ℕ → Outcome Runs
slice s start end buffers = sequence_asked s (length (slice_runs start end (runs s))) buffers otherwise slice_runs start end (runs s)

-- ---- a view of a slice, in two calls

-- the lowest index of an end that passes a test, or how many ends there are
unfoldable pub first_where : (ℤ → Bool) → List ℤ → ℕ
first_where test [] = 0
first_where test (e ∷ es) = cond (test e) 0 (suc (first_where test es))

-- of an end above a position
unfoldable pub first_end_above : ℤ → List ℤ → ℕ
first_end_above p es = first_where (λ e. int_lt p e) es

-- "first run, start and length (all 0 for none)"
unfoldable pub view_of : Sequence → ℤ → ℤ → View
view_of s start end =
    let x = to_nat start in
    let y = min (to_nat end) (length_of (runs s)) in
    cond (nat_lt x y) (record { first = first_end_above (pos x) s.ends; start = pos x; length = pos (y - x) })
    (record { first = 0; start = pos 0; length = pos 0 })

-- "One answers first run, start and length .. or the refusal"
unfoldable pub slice_view : Sequence → ℤ → ℤ → Outcome View
slice_view s start end = first_no (paired s ∷ ends_valid s.ends ∷ []) otherwise view_of s start end

-- as many entries from the view's first run on
abbrev pub viewed_part : Outcome View → ℕ → Part
viewed_part (answers v) n = record { first = v.first; count = n }
viewed_part (refuses r) n = record { first = 0; count = 0 }

-- "The other hands back the part of values, never of ends; it is empty for none and where the first call refuses": where it stands
unfoldable pub slice_part : Sequence → ℤ → ℤ → Part
slice_part s start end = viewed_part (slice_view s start end) (length (slice_runs start end (runs s)))

-- and its entries
abbrev pub entries_of : Part → List ℤ → List ℤ
entries_of p vs = part p.first (p.first + p.count) vs

-- the promise of a call that answers a part of a list
pub record PartOf (p q : Part) (vs : List ℤ) : Type 0 where
  pub same : p ≡ q
  pub inside : p.first + p.count ≤ length vs

-- the promise of a call that hands back a part of a list: it stands in the list itself, whose entries have 8 bytes each
pub record HandsBack (r : Bor (List ℤ)) (p : Part) (vs : Bor (List ℤ)) : Type 0 where
  pub block : r.ref_ptr.0 ≡ vs.ref_ptr.0
  pub place : r.ref_ptr.1 ≡ p.first * 8 + vs.ref_ptr.1
  pub entries : r.now ≡ entries_of p vs.now
