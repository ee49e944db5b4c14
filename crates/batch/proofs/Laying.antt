-- Entries laid flat one after another, and what a call promises of them.
-- Assumes nothing.
use Prim.Native.Nat.{ℕ, ◌+◌, ◌-◌, ◌≤◌, ◌<◌}
use Rattle.std.specs.Prelude.{Some, None, Result, Ok, IsErrAnd}
use mathlib.Core.List.{List, [], ◌∷◌, ◌++◌, map}
use mathlib.Core.Path.{◌≡◌, refl, ap, ap₂, sym, ◌∙◌}
use native.Mathlib.Numerals.{add-one}
use native.Mathlib.Omega.{arith}
use borrow.Rule.Slice.PartMut.{put_mid}
use lib.IntN.{ℤ}
use lib.ListN.{length, get_or, take, drop, set, length-map, get_or-map}
use lib.Seq.{take-suc, take_all}
use Rattle.column.specs.declared.answer.RleBatch.{RleBatch}
use Rattle.column.specs.declared.error.Refusal.{Refusal}
use Rattle.column.specs.Asking.{Question, ◌otherwise◌}
use Rattle.column.specs.Flat.{flat_counts}
use Rattle.column.specs.Lists.{total}
use Rattle.column.specs.Paper.{answers, paper}
use Rattle.column.specs.Runs.{Filled}
use Rattle.column.proofs.Buffer.{Written, write_start, write_next}
use Rattle.column.proofs.Promised.{passed_on}
use Rattle.column.proofs.Laying.{Laying, laying_start, laying-room, laying-next, laying_end}
use Rattle.batch.specs.Batch.{Entry, columns_of, WrittenBatch}
use Rattle.batch.specs.Workers.{FilledBatch}

-- no entry
abbrev pub no_entry : Entry
no_entry = record { key = 0; runs = [] }

abbrev key_of : Entry → ℕ
key_of e = e.key

-- the first n of the entries are written
pub record LayingBatch (es : List Entry) (k₀ k x₀ x : List ℕ) (e₀ e v₀ v : List ℤ) (used n : ℕ) : Type 0 where
  pub keys : Written key_of (take n es) k₀ k n
  pub laying : Laying (columns_of es) x₀ x e₀ e v₀ v used n

pub batch-start : (es : List Entry) (k x : List ℕ) (e v : List ℤ) → 0 < length x → LayingBatch es k k (set x 0 0) (set x 0 0) e e v v 0 0
batch-start es k x e v h = record { keys = write_start key_of k; laying = laying_start x h (columns_of es) e v }

module _ {es : List Entry} {k₀ k x₀ x : List ℕ} {e₀ e v₀ v : List ℤ} {used n : ℕ} (s : LayingBatch es k₀ k x₀ x e₀ e v₀ v used n) (h : n < length es) where
  in_columns : n < length (columns_of es)
  in_columns = rw length-map h

  -- the runs of the entry at n
  pub runs_at_lem : get_or (columns_of es) n [] ≡ (get_or es n no_entry).runs
  runs_at_lem = get_or-map (λ (e : Entry). e.runs) es n no_entry

  -- there is room for them
  pub batch-next-room : (m : ℕ) → total (map length (columns_of es)) ≤ m → used + length (get_or es n no_entry).runs ≤ m
  batch-next-room m l = rw runs_at_lem at (laying-room s.laying in_columns m l)

  pub batch-next : {key m : ℕ} {e₂ v₂ : List ℤ} → key ≡ (get_or es n no_entry).key
      → Filled (get_or es n no_entry).runs (take (length e - used) (drop used e)) e₂ (take (length v - used) (drop used v)) v₂ m
      → total (map length (columns_of es)) ≤ length e₀ → total (map length (columns_of es)) ≤ length v₀ → length es < length x₀ → length es ≤ length k₀
      → LayingBatch es k₀ (set k n key) x₀ (set x (n + 1) (used + m)) e₀ (put_mid used (length e - used) e e₂) v₀ (put_mid used (length v - used) v v₂) (used + m)
      (n + 1)
  batch-next {m = m} {e₂} {v₂} ek f he hv hx hk =
      let next : take (n + 1) es ≡ take n es ++ get_or es n no_entry ∷ [] = ap (λ (i : ℕ). take i es) (add-one n) ∙ take-suc es n no_entry h in
      let g : Filled (get_or (columns_of es) n []) (take (length e - used) (drop used e)) e₂ (take (length v - used) (drop used v)) v₂ m = rw runs_at_lem f in
      record {
        keys = rw next (write_next key_of s.keys (omega arith) (get_or es n no_entry) ek);
        laying = laying-next s.laying in_columns g he hv (rw length-map hx);
      }

pub batch-end : {es : List Entry} {k₀ k x y : List ℕ} {e₀ e v₀ v : List ℤ} {used n : ℕ} → 0 < length x → LayingBatch es k₀ k (set x 0 0) y e₀ e v₀ v used n
    → length es ≤ n
    → FilledBatch es k₀ k x y e₀ e v₀ v used
batch-end {es} {x = x} {n = n} hx s h =
    let all : take n es ≡ es = take_all n es h in
    let f = laying_end x hx s.laying (rw length-map h) in
    record { count = f.count; keys = rw all at s.keys.entries; offsets = f.offsets; ends = f.ends; values = f.values }

-- ---- what a worker laid flat, after a "yes" to every question, is what a call promises; and so is what was there, after a "no"

module _ {q : Question} (es : List Entry) where
  pub batch-written : {k k' x x' : List ℕ} {e e' v v' : List ℤ} {r : RleBatch} → q ≡ None → r.keys ≡ length es → FilledBatch es k k' x x' e e' v v' r.runs
      → WrittenBatch (q otherwise es) (Ok r) k k' x x' e e' v v'
  batch-written {r = r} h ek f =
      let a : r ≡ flat_counts (columns_of es) = ap₂ (λ (a b : ℕ). record { keys = a; runs = b }) (ek ∙ sym (length-map es (λ (e : Entry). e.runs))) f.count in
      rw h (record { answer = ap answers a; keys = f.keys; offsets = f.offsets; ends = f.ends; values = f.values })

  pub batch-refused : (r : Result RleBatch Refusal) (y : Refusal) {k x : List ℕ} {e v : List ℤ} → IsErrAnd r (λ (z : Refusal). z ≡ y) → Some (paper y) ≡ q
      → WrittenBatch (q otherwise es) r k k x x e e v v
  batch-refused r y h f = rw (sym f, passed_on r y h) (record { answer = refl; keys = refl; offsets = refl; ends = refl; values = refl })
