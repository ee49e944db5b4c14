-- The groups laid flat one after another, and what collapse promises of them.
-- Assumes nothing.
use Prim.Native.Nat.{ℕ, zero, suc, ◌+◌, ◌*◌, ◌-◌, ◌≤◌, ◌<◌}
use mathlib.Core.Bool.{Bool}
use Rattle.std.specs.Prelude.{Some, None, Option, Result, Ok, IsErrAnd}
use mathlib.Core.List.{List, [], ◌∷◌, map}
use mathlib.Core.Path.{◌≡◌, refl, ap, ap₂, sym, ◌∙◌}
use native.Mathlib.Numerals.{add-one}
use native.Mathlib.Omega.{arith}
use borrow.Rule.Slice.PartMut.{put_mid}
use lib.IntN.{ℤ}
use lib.ListN.{length, get_or, take, drop, set, length-map, length-set}
use lib.Seq.{drop-cons}
use Rattle.num.specs.Numbers.{operation}
use Rattle.column.specs.declared.answer.RleBatch.{RleBatch}
use Rattle.column.specs.declared.error.Refusal.{Refusal}
use Rattle.column.specs.Asking.{Question}
use Rattle.column.specs.Combine.{two, value_of, value_at, row_at, greatest_length, table, combined}
use Rattle.column.specs.Flat.{flat, columns}
use Rattle.column.specs.Lists.{total}
use Rattle.column.specs.Paper.{Outcome, paper}
use Rattle.column.specs.Runs.{Runs, Filled, dense, encode}
use Rattle.column.proofs.Rest.{rest-length}
use Rattle.column.proofs.Rising.{Valid}
use Rattle.batch_keys.specs.Calls.{once}
use Rattle.batch_keys.proofs.Once.{once-few, once_no_doubles}
use Rattle.batch.specs.Batch.{batch, Entry, columns_of}
use Rattle.batch.proofs.Laying.{no_entry, LayingBatch, batch-start, batch-next, batch-end, batch-written, batch-refused}
use Rattle.batch_collapse.specs.Calls.{collapse_from, collapse_runs, members, renamed, collapse_key, collapse, WrittenCollapse}
use Rattle.batch_collapse.specs.Workers.{NextGroup, Grouped, member_runs, FoldRoom, Free, FilledGroup, CollapseRoom, FilledGroups}
use Rattle.batch_collapse.proofs.Asks.{every_asked}
use Rattle.batch_collapse.proofs.Columns.{all_valid, all_runs}
use Rattle.batch_collapse.proofs.Few.{collapse-few}
use Rattle.batch_collapse.proofs.Groups.{Grouping, grouping_start, group-within, group-key, grouping-next, group_all}
use Rattle.batch_collapse.proofs.Members.{group_runs, members-all, groups-few}

-- ---- scratch buffers

free_start : (n : ℕ) (s : List ℤ) → Free n s s
free_start n s = record { long = refl; later = refl }

free_next : {n : ℕ} {s t u : List ℤ} → Free n s t → Free n t u → Free n s u
free_next f g = record { long = g.long ∙ f.long; later = g.later ∙ f.later }

-- ---- the loop

at_map : {A B : Type 0} (f : A → B) (xs : List A) (n : ℕ) (d : A) (e : B) → n < length xs → get_or (map f xs) n e ≡ f (get_or xs n d)
at_map f [] n d e h = let z : ⊥ = omega arith in absurd z
at_map f (x ∷ xs) zero d e h = refl
at_map f (x ∷ xs) (suc n) d e h = at_map f xs n d e (omega arith)

module _ (op : ℤ → ℤ → ℤ) (fill : Option ℤ) (ks os : List ℕ) (es vs : List ℤ) (new_keys : List ℕ) where
  abbrev entries : List Entry
  entries = renamed (batch ks os es vs) new_keys

  abbrev results : List Entry
  results = map (collapse_key op fill entries) (once new_keys)

  pub record Collapsing (k₀ k x₀ x : List ℕ) (e₀ e v₀ v s₀ s t₀ t : List ℤ) (used n first : ℕ) : Type 0 where
    pub groups : Grouping new_keys n first
    pub laying : LayingBatch results k₀ k x₀ x e₀ e v₀ v used n
    pub left : used + group_runs entries (drop n (once new_keys)) ≤ length es
    pub scratch_ends : Free (2 * length es) s₀ s
    pub scratch_values : Free (2 * length es) t₀ t

  module _ {together : Bool} (g : Grouped (batch ks os es vs) new_keys together) where
    all_few : group_runs entries (once new_keys) ≤ length es
    unfolding once
    all_few = omega (arith, groups-few new_keys (columns (flat os es vs)) (once new_keys) (once_no_doubles [] new_keys), all_runs ks os es vs new_keys g)

    group_runs_lem : (key : ℕ) → length (collapse_runs op fill (members entries key)) ≤ member_runs entries key
    group_runs_lem key = collapse-few op fill (members entries key) (members-all Valid key new_keys (columns (flat os es vs))
        (all_valid ks os es vs new_keys g))

    results_few : (groups : List ℕ) → total (map length (columns_of (map (collapse_key op fill entries) groups))) ≤ group_runs entries groups
    results_few [] = omega arith
    results_few (k ∷ groups) = omega (arith, group_runs_lem k, results_few groups)

    results_many : length results ≤ length ks
    unfolding once
    results_many = omega (arith, length-map (once new_keys) (collapse_key op fill entries), once-few [] new_keys, g.renamed)

    module _ (k₀ x₀ : List ℕ) (e₀ v₀ s₀ t₀ : List ℤ) (room : CollapseRoom (batch ks os es vs) k₀ x₀ e₀ v₀ s₀ t₀) where
      pub collapsing-start : {r : ℕ} → NextGroup new_keys 0 r → Collapsing k₀ k₀ (set x₀ 0 0) (set x₀ 0 0) e₀ e₀ v₀ v₀ s₀ s₀ t₀ t₀ 0 0 r
      collapsing-start t = record {
        groups = grouping_start new_keys t;
        laying = batch-start results k₀ x₀ e₀ v₀ (omega (arith, room.room_offsets));
        left = omega (arith, all_few);
        scratch_ends = free_start (2 * length es) s₀;
        scratch_values = free_start (2 * length es) t₀;
      }

      module _ {k x : List ℕ} {e v s t : List ℤ} {used n first : ℕ} (c : Collapsing k₀ k (set x₀ 0 0) x e₀ e v₀ v s₀ s t₀ t used n first) where
        module _ (h : first < length new_keys) where
          group-left : group_runs entries (drop n (once new_keys)) ≡ member_runs entries (get_or new_keys first 0) + group_runs entries (drop (n + 1)
              (once new_keys))
          group-left =
              ap (group_runs entries) (drop-cons (once new_keys) n 0 (group-within new_keys c.groups h))
              ∙ rw (add-one n, group-key new_keys c.groups h)

          -- the room that is left
          pub collapsing-room : (used + member_runs entries (get_or new_keys first 0) ≤ length e) × (used + member_runs entries
              (get_or new_keys first 0) ≤ length v)
          collapsing-room = (
            omega (arith, group-left, c.left, room.room_ends, c.laying.laying.long_ends),
            omega (arith, group-left, c.left, room.room_values, c.laying.laying.long_values),
          )

          pub collapsing-fold : FoldRoom (batch ks os es vs) new_keys first (take (length e - used) (drop used e)) (take (length v - used)
              (drop used v)) s t
          collapsing-fold = record {
            within = h;
            alone = c.groups.single h;
            room_ends = rw rest-length (omega (arith, collapsing-room.0));
            room_values = rw rest-length (omega (arith, collapsing-room.1));
            scratch_ends = omega (arith, room.scratch_ends, c.scratch_ends.long);
            scratch_values = omega (arith, room.scratch_values, c.scratch_values.long);
          }

          at-group : get_or results n no_entry ≡ collapse_key op fill entries (get_or new_keys first 0)
          at-group = at_map (collapse_key op fill entries) (once new_keys) n 0 no_entry (group-within new_keys c.groups h)
              ∙ ap (collapse_key op fill entries) (group-key new_keys c.groups h)

          module _ {m : ℕ} {e₂ v₂ s₂ t₂ : List ℤ}
              (f : FilledGroup (collapse_runs op fill (members entries (get_or new_keys first 0))) (2 * length es)
              (take (length e - used) (drop used e)) e₂ (take (length v - used) (drop used v)) v₂ s s₂ t t₂ m) where
            pub collapsing-used : used + m ≤ length es
            collapsing-used = omega (arith, f.filled.count, group_runs_lem (get_or new_keys first 0), group-left, c.left)

            pub collapsing-next : {key r : ℕ} → key ≡ get_or new_keys first 0 → NextGroup new_keys (first + 1) r
                → Collapsing k₀ (set k n key) (set x₀ 0 0) (set x (n + 1) (used + m)) e₀ (put_mid used (length e - used) e e₂)
                v₀ (put_mid used (length v - used) v v₂) s₀ s₂ t₀ t₂ (used + m) (n + 1) r
            collapsing-next ek t =
                let w : n < length results = omega (
                  arith,
                  length-map (once new_keys) (collapse_key op fill entries),
                  group-within new_keys
                      c.groups h,
                ) in
                let g : Filled (get_or results n no_entry).runs (take (length e - used) (drop used e)) e₂ (take (length v - used) (drop used v)) v₂ m =
                rw at-group f.filled in
                record {
                  groups = grouping-next new_keys c.groups h t;
                  laying = batch-next c.laying w (ek ∙ sym (ap (λ (y : Entry). y.key) at-group)) g
                      (omega (arith, results_few (once new_keys), all_few, room.room_ends))
                      (omega (arith, results_few (once new_keys), all_few, room.room_values))
                      (rw length-set (omega (arith, results_many, room.room_offsets))) (omega (arith, results_many, room.room_keys));
                  left = omega (arith, f.filled.count, group_runs_lem (get_or new_keys first 0), group-left, c.left);
                  scratch_ends = free_next c.scratch_ends f.scratch_ends;
                  scratch_values = free_next c.scratch_values f.scratch_values;
                }

        pub collapsing-end : length new_keys ≤ first → FilledGroups results (2 * length es) k₀ k x₀ x e₀ e v₀ v s₀ s t₀ t
            (record { keys = n; runs = used })
        collapsing-end h =
            let a : length results ≤ n = omega (arith, length-map (once new_keys) (collapse_key op fill entries), group_all new_keys c.groups h) in
            record {
              filled = record {
                filled = batch-end (omega (arith, room.room_offsets)) c.laying a;
                many = omega (arith, c.laying.laying.within, length-map results (λ (y : Entry). y.runs));
              };
              scratch_ends = c.scratch_ends;
              scratch_values = c.scratch_values;
            }

-- ---- a fill that is missing shows nowhere: the result is that of its value

from-filled : (op : ℤ → ℤ → ℤ) (fill : Option ℤ) (sofar : Runs) (ms : List Runs) → collapse_from op (Some (value_of fill)) sofar ms
    ≡ collapse_from op fill sofar ms
unfolding collapse_from combined table greatest_length row_at value_at
from-filled op fill sofar [] = refl
from-filled op fill sofar (m ∷ ms) = from-filled op fill (combined op (two fill fill sofar m)) ms

runs-filled : (op : ℤ → ℤ → ℤ) (fill : Option ℤ) (ms : List Runs) → collapse_runs op (Some (value_of fill)) ms ≡ collapse_runs op fill ms
unfolding collapse_runs
runs-filled op fill [] = refl
runs-filled op fill (m ∷ ms) = from-filled op fill (encode (dense m)) ms

keys_filled : (op : ℤ → ℤ → ℤ) (fill : Option ℤ) (es : List Entry) (groups : List ℕ)
    → map (collapse_key op (Some (value_of fill)) es) groups ≡ map (collapse_key op fill es) groups
keys_filled op fill es [] = refl
keys_filled op fill es (k ∷ groups) =
    ap₂ (λ (r : Runs) (l : List Entry). record { key = k; runs = r } ∷ l) (runs-filled op fill (members es k)) (keys_filled op fill es groups)

-- ---- what the worker left, after a "yes" to every question, is what the call promises; and so is what was there, after a "no"

module _ (ks os : List ℕ) (es vs : List ℤ) (new_keys : List ℕ) (fill : Option ℤ) (code : ℕ) (k x : List ℕ) (e v s t : List ℤ) where
  abbrev asked : Question
  asked = every_asked ks os es vs new_keys fill code k x e v s t

  abbrev outcome : Outcome (List Entry)
  outcome = collapse (batch ks os es vs) new_keys fill code (length k ∷ length x ∷ length e ∷ length v ∷ length s ∷ length t ∷ [])

  pub collapse-written : {k' x' : List ℕ} {e' v' s' t' : List ℤ} {r : RleBatch} {w : ℤ} → asked ≡ None → w ≡ value_of fill
      → FilledGroups (map (collapse_key (operation code) (Some w) (renamed (batch ks os es vs) new_keys)) (once new_keys)) (2 * length es)
      k k' x x' e e' v v' s s' t t' r
      → WrittenCollapse outcome (2 * length es) (Ok r) k k' x x' e e' v v' s s' t t'
  unfolding collapse
  collapse-written {k'} {x'} {e'} {v'} {s'} {t'} {r} h ew f =
      let rs = map (collapse_key (operation code) fill (renamed (batch ks os es vs) new_keys)) (once new_keys) in
      let p : FilledGroups rs (2 * length es) k k' x x' e e' v v' s s' t t' r =
      rw (ew, keys_filled (operation code) fill (renamed (batch ks os es vs) new_keys) (once new_keys)) at f in
      record {
        batch = batch-written rs h p.filled.many p.filled.filled;
        scratch_ends = rw h (p.scratch_ends.long, p.scratch_ends.later);
        scratch_values = rw h (p.scratch_values.long, p.scratch_values.later);
      }

  pub collapse-refused : (r : Result RleBatch Refusal) (y : Refusal) → IsErrAnd r (λ (z : Refusal). z ≡ y) → Some (paper y) ≡ asked
      → WrittenCollapse outcome (2 * length es) r k k x x e e v v s s t t
  unfolding collapse
  collapse-refused r y h f =
      record {
        batch = batch-refused (map (collapse_key (operation code) fill (renamed (batch ks os es vs) new_keys)) (once new_keys)) r y h f;
        scratch_ends = rw (sym f) refl;
        scratch_values = rw (sym f) refl;
      }
