-- A walk that writes the merged runs of what the columns show together, a run for each segment.
-- Assumes nothing.
use Prim.Native.Nat.{ℕ, zero, suc, ◌+◌, ◌≤◌, ◌<◌}
use Rattle.std.specs.Prelude.{None}
use mathlib.Core.List.{List, [], ◌∷◌, ◌++◌, map, map-append}
use mathlib.Core.Path.{◌≡◌, refl, ap, sym, ◌∙◌}
use native.Mathlib.Omega.{arith}
use lib.IntN.{ℤ}
use lib.ListN.{length, length-map}
use Rattle.column.specs.declared.inner.Writer.{Writer}
use Rattle.column.specs.Combine.{Column, folded, combined}
use Rattle.column.specs.Runs.{Run, Runs, to_nat, push_merged, Filled}
use Rattle.column.specs.Workers.{next_place, PushedMerged, push_all, Merging}
use Rattle.column.proofs.Appending.{push_few}
use Rattle.column.proofs.All.{All}
use Rattle.column.proofs.Encode.{length_push, le_place}
use Rattle.column.proofs.Merging.{merge_at, merge_more, merge_end, fill_none}
use Rattle.column.proofs.Rising.{Valid}
use Rattle.plan.specs.Calls.{Place, Segment, least_end, rests, indexes, first_places, segments_from, ends_in, values_for, segment_run, segment_runs}
use Rattle.plan.specs.Workers.{Steps}
use Rattle.plan.proofs.Listing.{Listing, segment_at, step_less, list_end, segments-first}
use Rattle.plan.proofs.Raw.{raw_merges}
use Rattle.plan.proofs.Segments.{left, none_left, some_left, segments-end, segments-few}

-- ---- runs pushed one after another

push_snoc : (done rs : Runs) (r : Run) → push_all done (rs ++ r ∷ []) ≡ push_merged (push_all done rs) r.end r.value
unfolding push_all
push_snoc done [] r = refl
push_snoc done (s ∷ rs) r = push_snoc (push_merged done s.end s.value) rs r

push_some : (done rs : Runs) → length done ≤ length (push_all done rs)
unfolding push_all
push_some done [] = omega arith
push_some done (r ∷ rs) = omega (arith, push_some (push_merged done r.end r.value) rs, length_push done r.end r.value, le_place done r.value)

push_none : (rs : Runs) → length (push_all [] rs) ≡ 0 → length rs ≡ 0
unfolding push_all
push_none [] h = refl
push_none (r ∷ rs) h =
    let z : ⊥ = omega (arith, push_some (push_merged [] r.end r.value) rs, length_push [] r.end r.value) in absurd z

module _ (op : ℤ → ℤ → ℤ) (cs : List Column) where
  -- what the columns show together at places
  abbrev pub shown_at : List ℕ → ℤ
  shown_at is = folded op (values_for cs is)

  -- the runs of the segments so far, merged
  unfoldable pub merged_runs : List Segment → Runs
  merged_runs done = push_all [] (map (segment_run op cs) done)

  merged-next : (done : List Segment) (s : Segment) → merged_runs (done ++ s ∷ []) ≡ push_merged (merged_runs done) s.end (shown_at s.indexes)
  unfolding merged_runs
  merged-next done s = ap (push_all []) (map-append (segment_run op cs) done (s ∷ [])) ∙ push_snoc [] (map (segment_run op cs) done) (segment_run op cs s)

  merged-few : (done : List Segment) → length (merged_runs done) ≤ length done
  unfolding merged_runs
  merged-few done = omega (arith, push_few [] (map (segment_run op cs) done), length-map done (segment_run op cs))

  merged-none : (done : List Segment) → length (merged_runs done) ≡ 0 → length done ≡ 0
  unfolding merged_runs
  merged-none done h = sym (length-map done (segment_run op cs)) ∙ push_none (map (segment_run op cs) done) h

  pub zip-last : (done : List Segment) {first : ℤ} {e₀ v₀ e v : List ℤ} {w : Writer} → Merging (merged_runs done) first e₀ v₀ e v w → w.at ≤ length done
  zip-last done m = omega (arith, m.at_last, merged-few done)

  -- ---- the columns' own places to start from

  abbrev pub starts : List Place
  starts = first_places (map (λ (c : Column). ends_in c.runs) cs)

  raw_listed : segment_runs op cs ≡ map (segment_run op cs) (segments_from (left starts) starts)
  unfolding segment_runs
  raw_listed = ap (map (segment_run op cs)) (segments-first (map (λ (c : Column). ends_in c.runs) cs))

  module _ (valid : All (λ (c : Column). Valid c.runs) cs) where
    merged-all : {done : List Segment} → segments_from (left starts) starts ≡ done → merged_runs done ≡ combined op cs
    unfolding merged_runs
    merged-all e = rw (← e, ← raw_listed) (raw_merges op cs valid)

    -- no more runs than the columns have
    pub combined-few : length (combined op cs) ≤ left starts
    combined-few = rw (← merged-all refl) (omega (arith, merged-few (segments_from (left starts) starts), segments-few (left starts) starts))

    -- no column has a run
    pub zip-none : left starts ≡ 0 → (e₀ v₀ : List ℤ) → Filled (combined op cs) e₀ e₀ v₀ v₀ 0
    unfolding merged_runs push_all
    zip-none h e₀ v₀ = rw (← merged-all (segments-end (left starts) starts (none_left starts h))) (fill_none e₀ v₀)

    module _ {done : List Segment} {ps : List Place} {first : ℤ} {e₀ v₀ e v : List ℤ} {w : Writer}
        (l : Listing starts done ps) (m : Merging (merged_runs done) first e₀ v₀ e v w) where
      -- every column is spent
      pub zip_end : least_end (rests ps) ≡ None → 0 < left starts → Filled (combined op cs) e₀ e v₀ v (w.at + 1)
      zip_end h k =
          let some : 0 < length (merged_runs done) = pos_of (length (merged_runs done)) (λ z. begun (l.begun (merged-none done z))) in
          rw (← merged-all (list_end l h)) (merge_end m some)
        where
          pos_of : (n : ℕ) → (n ≡ 0 → ⊥) → 0 < n
          pos_of zero f = absurd (f refl)
          pos_of (suc n) f = omega arith

          begun : ps ≡ starts → ⊥
          begun q =
              let u = some_left starts k in
              let r : least_end (rests starts) ≡ None = rw q at h in
              let z : ◌≡◌ {A = ℕ} 0 1 = cc in
              omega arith

  module _ {start : List Place} {done : List Segment} {ps : List Place} {e₀ v₀ e v : List ℤ} {w : Writer} (l : Listing start done ps)
      (m : Merging (merged_runs done) (shown_at (indexes start)) e₀ v₀ e v w) {x : ℤ} (ex : x ≡ shown_at (indexes ps)) where
    same_first : length (merged_runs done) ≡ 0 → shown_at (indexes start) ≡ x
    same_first z = sym (ex ∙ ap (λ (qs : List Place). shown_at (indexes qs)) (l.begun (merged-none done z)))

    pub zip_at : next_place w x ≤ length done
    zip_at = omega (arith, merge_at m x same_first, merged-few done)

    pub zip_more : {z : ℤ} {ps' : List Place} {e' v' : List ℤ} {next : Writer} → Steps ps z ps' → PushedMerged w z x e e' v v' next
        → left start ≤ length e₀ → left start ≤ length v₀ → Merging (merged_runs (done ++ segment_at ps z ∷ [])) (shown_at (indexes start)) e₀ v₀ e' v' next
    zip_more {z} s d re rv =
        merge_more m x same_first _ d s.natural (merged-next done (segment_at ps z) ∙ ap (push_merged (merged_runs done) (to_nat z)) (sym ex))
        (omega (arith, merged-few done, l.few, step_less s)) (omega (arith, merged-few done, l.few, step_less s))
