-- A loop that writes a run for each group: the first r runs are in the groups so far.
-- Assumes nothing.
use Prim.Native.Nat.{ℕ, zero, suc, ◌+◌, ◌-◌, ◌≤◌, ◌<◌}
use mathlib.Core.Bool.{Bool, true, false, not, cond}
use mathlib.Core.List.{List, [], ◌∷◌, map}
use mathlib.Core.Path.{◌≡◌, refl, sym, ap, ◌∙◌}
use native.Mathlib.Omega.{arith}
use lib.Dec.{eqb}
use lib.IntN.{ℤ, pos, negsuc}
use lib.ListN.{length, get_or, take, length-set, length-map, get_or-map}
use lib.Seq.{take_all}
use Rattle.num.specs.Numbers.{eq_z, operation, comparison}
use Rattle.num.proofs.Operation.{comparison-operation}
use Rattle.num.proofs.Tests.{by-test}
use Rattle.column.specs.Runs.{Run, Runs, to_nat, runs_of, ends_of, values_of, over, Filled}
use Rattle.column.proofs.Ends.{rising, ends-runs, values-runs, length_runs}
use Rattle.column.proofs.Sequences.{length-ends, length-values}
use Rattle.merge_mask.specs.declared.inner.GroupWriter.{GroupWriter}
use Rattle.merge_mask.specs.Calls.{Group, alone, groups, mask_runs, neighbours}
use Rattle.column.specs.Workers.{place_after}
use Rattle.merge_mask.specs.Workers.{joins_at, kept_after, WroteRun, Mergeable}
use Rattle.merge_mask.proofs.First.{over-again, over_first}
use Rattle.merge_mask.proofs.Groups.{place_up, last_group, push_group, new_group, new_group_lem, new_last, last_push, group_place, place_is}
use Rattle.merge_mask.proofs.Groups.{length_push, groups-take, groups-some, push_store}

-- the end and the value of the run that stands for a group
abbrev group_end : Group Run → ℤ
group_end g = pos g.last.end

abbrev pub group_value : ℕ → Group Run → ℤ
group_value keep g = cond (eqb keep 0) g.first.value g.last.value

-- where there is no run
abbrev no_run : Run
no_run = record { end = 0; value = pos 0 }

value-alone : (keep : ℕ) (y : Run) → group_value keep (alone y) ≡ y.value
value-alone keep y = by-test (eqb keep 0) (λ t. rw t) (λ t. rw t)

mask_ends : (keep : ℕ) (gs : List (Group Run))
    → ends_of (map (λ (g : Group Run). record { end = g.last.end; value = group_value keep g }) gs) ≡ map group_end gs
unfolding ends_of
mask_ends keep [] = refl
mask_ends keep (g ∷ gs) = ap {B = List ℤ} (λ l. group_end g ∷ l) (mask_ends keep gs)

mask_values : (keep : ℕ) (gs : List (Group Run))
    → values_of (map (λ (g : Group Run). record { end = g.last.end; value = group_value keep g }) gs) ≡ map (group_value keep) gs
unfolding values_of
mask_values keep [] = refl
mask_values keep (g ∷ gs) = ap {B = List ℤ} (λ l. group_value keep g ∷ l) (mask_values keep gs)

pub kept_le : (joins last : Bool) {kept run : ℕ} → kept ≤ run → kept_after joins last kept run ≤ run
kept_le true true h = omega arith
kept_le true false h = h
kept_le false last h = omega arith

-- the value of the group that a run is in, by the run that is kept
new_value : (keep : ℕ) (joins last : Bool) (gs : List (Group Run)) (y : Run) (vs : List ℤ) (kept r : ℕ) → last ≡ not (eqb keep 0) → 0 < length gs
    → group_value keep (last_group (alone no_run) gs) ≡ get_or vs kept (pos 0) → y.value ≡ get_or vs r (pos 0)
    → get_or vs (kept_after joins last kept r) (pos 0) ≡ group_value keep (new_group joins gs y)
new_value keep false last gs y vs kept r el h ev ey = sym (ap (group_value keep) (new_group_lem false (alone no_run) gs y h) ∙ value-alone keep y ∙ ey)
new_value keep true last gs y vs kept r el h ev ey =
    sym (ap (group_value keep) (new_group_lem true (alone no_run) gs y h)
    ∙ by-test (eqb keep 0) (λ t. rw (el, t) (rw t at ev)) (λ t. rw (el, t) ey))

pub wrote_long : {w next : GroupWriter} {joins last : Bool} {es vs : List ℤ} {r : ℕ} {e e' v v' : List ℤ} → WroteRun w joins last es vs r e e' v v' next
    → (length e' ≡ length e) × (length v' ≡ length v)
wrote_long d = (ap length d.ends ∙ simp length-set refl, ap length d.values ∙ simp length-set refl)

-- the groups of the first r runs are written; vs are the values of all
pub record Merging (keep : ℕ) (gs : List (Group Run)) (vs e₀ v₀ e v : List ℤ) (w : GroupWriter) (r : ℕ) : Type 0 where
  pub ends : e ≡ over (map group_end gs) e₀
  pub values : v ≡ over (map (group_value keep) gs) v₀
  pub long_ends : length e ≡ length e₀
  pub long_values : length v ≡ length v₀
  pub place : w.at + 1 ≡ length gs
  pub few : w.at < r
  pub kept : w.kept < r
  pub value : group_value keep (last_group (alone no_run) gs) ≡ get_or vs w.kept (pos 0)

-- those of the first r runs of a sequence
pub record Merged (keep : ℕ) (mask : List ℕ) (es vs e₀ v₀ e v : List ℤ) (w : GroupWriter) (r : ℕ) : Type 0 where
  pub merging : Merging keep (groups (take r (runs_of es vs)) mask) vs e₀ v₀ e v w r

-- which neighbours are joined
neighbours_at : (code : ℕ) (vs : List ℤ) (r : ℕ) → 0 < r → r < length vs
    → joins_at (neighbours code vs) (r - 1) ≡ eqb (to_nat (operation code (get_or vs (r - 1) (pos 0)) (get_or vs r (pos 0)))) 1
unfolding neighbours
neighbours_at code vs zero p h = let z : ⊥ = omega arith in absurd z
neighbours_at code [] (suc r) p h = let z : ⊥ = omega arith in absurd z
neighbours_at code (v ∷ []) (suc r) p h = let z : ⊥ = omega arith in absurd z
neighbours_at code (v ∷ w ∷ vs) (suc zero) p h = refl
neighbours_at code (v ∷ w ∷ vs) (suc (suc r)) p h =
    let n : suc (suc r) - 1 ≡ suc (suc r - 1) = omega arith in
    rw n (neighbours_at code (w ∷ vs) (suc r) (omega arith) (omega arith))

pub one_to_nat : (z : ℤ) → eq_z z (pos 1) ≡ eqb (to_nat z) 1
one_to_nat (pos n) = refl
one_to_nat (negsuc n) = refl

pub neighbours-told : (code : ℕ) → 7 ≤ code → code ≤ 8 → (vs : List ℤ) (r : ℕ) {b : Bool} → 0 < r → r < length vs
    → b ≡ comparison code (get_or vs (r - 1) (pos 0)) (get_or vs r (pos 0)) → b ≡ joins_at (neighbours code vs) (r - 1)
neighbours-told code low high vs r p h e =
    let x = get_or vs (r - 1) (pos 0) in
    let y = get_or vs r (pos 0) in
    e ∙ comparison-operation code x y low high ∙ one_to_nat (operation code x y) ∙ sym (neighbours_at code vs r p h)

-- no runs
pub merging-none : (keep : ℕ) (mask : List ℕ) (es vs e₀ v₀ : List ℤ) → length es ≡ 0 → Filled (mask_runs keep mask (runs_of es vs)) e₀ e₀ v₀ v₀ 0
unfolding mask_runs groups runs_of ends_of values_of over
merging-none keep mask [] vs e₀ v₀ h = record { count = refl; ends = refl; values = refl }
merging-none keep mask (x ∷ es) vs e₀ v₀ h = let z : ⊥ = omega arith in absurd z

module _ {es vs e₀ v₀ : List ℤ} (m : Mergeable es vs e₀ v₀) where
  -- a loop goes on from what was written
  pub started : {w next : GroupWriter} {joins last : Bool} {r : ℕ} {e v : List ℤ} → WroteRun w joins last es vs r e₀ e v₀ v next → Mergeable es vs e v
  started d = record {
    valid = m.valid;
    paired = m.paired;
    room_ends = omega (arith, (wrote_long d).0, m.room_ends);
    room_values = omega (arith, (wrote_long d).1, m.room_values);
  }

module _ {es vs e₀ v₀ : List ℤ} (m : Mergeable es vs e₀ v₀) (keep : ℕ) (mask : List ℕ) where
  rs : Runs
  rs = runs_of es vs

  module _ (r : ℕ) where
    run : Run
    run = get_or rs r no_run

    run_end : pos run.end ≡ get_or es r (pos 0)
    unfolding rs run ends_of
    run_end =
        sym (get_or-map (λ (x : Run). pos x.end) rs r no_run)
        ∙ ap (λ (l : List ℤ). get_or l r (pos 0)) (ends-runs 0 es vs (rising es m.valid) m.paired)

    run_value : run.value ≡ get_or vs r (pos 0)
    unfolding rs run values_of
    run_value = sym (get_or-map (λ (x : Run). x.value) rs r no_run) ∙ ap (λ (l : List ℤ). get_or l r (pos 0)) (values-runs es vs m.paired)

    -- one more run
    more : r < length es → groups (take (r + 1) rs) mask ≡ push_group (joins_at mask (r - 1)) (groups (take r rs) mask) run
    unfolding rs run
    more h = groups-take rs r no_run mask (omega (arith, length_runs es vs m.paired))

  -- ---- the first run

  module _ {last : Bool} {e v : List ℤ} {w : GroupWriter} (d : WroteRun (record { at = 0; kept = 0 }) true last es vs 0 e₀ e v₀ v w) (h : 0 < length es) where
    first : groups (take 1 (runs_of es vs)) mask ≡ push_group true [] (run 0)
    unfolding rs run groups push_group
    first = more 0 h

    first-kept : kept_after true last 0 0 ≡ 0
    first-kept = by-test last (λ t. rw t) (λ t. rw t)

    merging-first : Merging keep (push_group true [] (run 0)) vs e₀ v₀ e v w 1
    unfolding push_group new_group run over
    merging-first =
        let at = d.place in
        let k : w.kept ≡ 0 = d.kept ∙ first-kept in
        let value : group_value keep (alone (run 0)) ≡ get_or vs 0 (pos 0) = value-alone keep (run 0) ∙ run_value 0 in
        record {
          ends = push_store group_end true [] (run 0) e₀ refl d.ends refl (sym (run_end 0)) (omega (arith, m.room_ends));
          values = push_store (group_value keep) true [] (run 0) v₀ refl d.values refl (rw first-kept (sym value)) (omega (arith, m.room_values));
          long_ends = (wrote_long d).0;
          long_values = (wrote_long d).1;
          place = omega arith;
          few = omega arith;
          kept = omega arith;
          value = rw k value;
        }

    pub merged-start : Merged keep mask es vs e v e v w 1
    merged-start =
        let g = merging-first in
        record {
          merging = rw first (record {
            ends = over-again _ e₀ g.ends;
            values = over-again _ v₀ g.values;
            long_ends = refl;
            long_values = refl;
            place = g.place;
            few = g.few;
            kept = g.kept;
            value = g.value;
          });
        }

    -- and all that it writes stands over the buffers as they were lent
    pub merged-whole : {e' v' : List ℤ} {n : ℕ} → Filled (mask_runs keep mask (runs_of es vs)) e e' v v' n
        → Filled (mask_runs keep mask (runs_of es vs)) e₀ e' v₀ v' n
    unfolding mask_runs
    merged-whole f =
        let runs : 0 < length (runs_of es vs) = omega (arith, length_runs es vs m.paired) in
        let some : 0 < length (mask_runs keep mask (runs_of es vs)) = simp length-map (groups-some (runs_of es vs) mask runs) in
        record {
          count = f.count;
          ends = f.ends ∙ over_first _ e₀ _ d.ends (rw length-ends some) (omega (arith, m.room_ends));
          values = f.values ∙ over_first _ v₀ _ d.values (rw length-values some) (omega (arith, m.room_values));
        }

  -- ---- one more run

  module _ {e v : List ℤ} {w : GroupWriter} {r : ℕ} (n : Merged keep mask es vs e₀ v₀ e v w r) (h : r < length es) where
    module _ {joins last : Bool} {e' v' : List ℤ} {next : GroupWriter} (d : WroteRun w joins last es vs r e e' v v' next) where
      merging-more : last ≡ not (eqb keep 0) → Merging keep (push_group joins (groups (take r (runs_of es vs)) mask) (run r)) vs e₀ v₀ e' v' next (r + 1)
      merging-more el =
          let g = n.merging in
          let gs = groups (take r (runs_of es vs)) mask in
          let p = place_up joins w.at in
          let place : place_after joins w.at ≡ group_place joins gs = place_is joins gs w.at g.place in
          let end = sym (run_end r) ∙ ap (λ (x : Run). pos x.end) (sym (new_last joins gs (run r))) in
          let value = new_value keep joins last gs (run r) vs w.kept r el (omega (arith, g.place)) g.value (run_value r) in
          let at = d.place in
          record {
            ends = push_store group_end joins gs (run r) e₀ g.ends d.ends place end (omega (arith, g.few, m.room_ends));
            values = push_store (group_value keep) joins gs (run r) v₀ g.values d.values place value (omega (arith, g.few, m.room_values));
            long_ends = (wrote_long d).0 ∙ g.long_ends;
            long_values = (wrote_long d).1 ∙ g.long_values;
            place = rw length_push (ap (λ (k : ℕ). k + 1) (d.place ∙ place));
            few = omega (arith, g.few);
            kept = omega (arith, d.kept, kept_le joins last {kept = w.kept} {run = r} (omega (arith, g.kept)));
            value = rw last_push (sym value ∙ ap (λ (k : ℕ). get_or vs k (pos 0)) (sym d.kept));
          }

      pub merged-more : joins ≡ joins_at mask (r - 1) → last ≡ not (eqb keep 0) → Merged keep mask es vs e₀ v₀ e' v' next (r + 1)
      unfolding rs
      merged-more ej el = record { merging = rw (more r h, ← ej) (merging-more el) }

  -- ---- all runs

  pub merged-end : {e v : List ℤ} {w : GroupWriter} {r : ℕ} → Merged keep mask es vs e₀ v₀ e v w r → length es ≤ r
      → Filled (mask_runs keep mask (runs_of es vs)) e₀ e v₀ v (w.at + 1)
  unfolding mask_runs
  merged-end {r = r} n h =
      let all : take r (runs_of es vs) ≡ runs_of es vs = take_all r (runs_of es vs) (omega (arith, length_runs es vs m.paired)) in
      let g = rw all at n.merging in
      record {
        count = simp length-map g.place;
        ends = rw (mask_ends keep (groups (runs_of es vs) mask)) g.ends;
        values = rw (mask_values keep (groups (runs_of es vs) mask)) g.values;
      }
