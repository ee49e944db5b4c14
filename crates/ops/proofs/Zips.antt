-- The loops of both zips: the walk of two columns, with a run written for each segment, merged or not.
-- Assumes nothing.
use Rattle.std.specs.Prelude.{Some}
use Prim.Native.Nat.{ℕ, ◌+◌, ◌≤◌, ◌<◌, ◌^◌}
use mathlib.Core.List.{List, [], ◌∷◌, map-map}
use mathlib.Core.Path.{◌≡◌, ap, sym, ◌∙◌}
use native.Mathlib.Omega.{arith}
use lib.IntN.{ℤ, pos}
use lib.ListN.{length, get_or, set, length-map}
use Rattle.column.specs.declared.inner.Writer.{Writer}
use Rattle.column.specs.Combine.{Column, two, combined}
use Rattle.column.specs.Runs.{Run, sequence, runs_of, ends_of, values_of, over, Filled}
use Rattle.column.specs.Workers.{next_place, PushedMerged, push_all, Merging}
use Rattle.column.proofs.Buffer.{Written, write_start, write_next}
use Rattle.column.proofs.Merging.{merge_start}
use Rattle.plan.specs.Calls.{Segment, segment_run, segment_runs}
use Rattle.plan.specs.declared.inner.Segments.{Segments}
use Rattle.plan.specs.Workers.{places_at, Starts, Walks}
use Rattle.plan.proofs.Columns.{ends_in_lem, both-valid, both-start, both-shown}
use Rattle.plan.proofs.Listing.{Listing, segment_at}
use Rattle.plan.proofs.Segments.{left, none_left}
use Rattle.plan.proofs.Walking.{firsts, Walk, left-firsts, walk_start, walk-few, walk_none, walk-next, walk_end}
use Rattle.plan.proofs.Zipping.{starts, shown_at, merged_runs, zip-none, zip_at, zip-last, zip_more, zip_end}
use Rattle.ops.specs.Workers.{Zippable}

module _ (op : ℤ → ℤ → ℤ) (fa fb : ℤ) (ae av be bv e₀ v₀ : List ℤ) where
  abbrev pub cs : List Column
  cs = two (Some fa) (Some fb) (runs_of ae av) (runs_of be bv)

  -- what a run of each shows, as the code reads it
  abbrev pub value : ℕ → ℕ → ℤ
  value i j = op (get_or av i fa) (get_or bv j fb)

  -- ---- zip_with

  pub record Zipped (e v : List ℤ) (w : Writer) (c : Segments) : Type 0 where
    pub done : List Segment
    pub walk : Walk ae be done c
    pub merging : Merging (merged_runs op cs done) (shown_at op cs (0 ∷ 0 ∷ [])) e₀ v₀ e v w

  pub zipped-last : {e v : List ℤ} {w : Writer} {c : Segments} → Zipped e v w c → w.at ≤ length ae + length be
  zipped-last z = omega (
    arith,
    zip-last op cs z.done z.merging,
    walk-few ae be z.walk,
    z.walk.standing.left.within,
    z.walk.standing.right.within,
  )

  -- ---- zip_with_raw

  abbrev end_of_run : Segment → ℤ
  end_of_run s = pos s.end

  abbrev run_value : Segment → ℤ
  run_value s = shown_at op cs s.indexes

  pub record Listed (e v : List ℤ) (n : ℕ) (c : Segments) : Type 0 where
    pub done : List Segment
    pub walk : Walk ae be done c
    pub ends : Written end_of_run done e₀ e n
    pub values : Written run_value done v₀ v n

  pub listed_start : {c : Segments} → Starts ae be c → Listed e₀ v₀ 0 c
  listed_start s = record { done = []; walk = walk_start ae be s; ends = write_start end_of_run e₀; values = write_start run_value v₀ }

  module _ (q : Zippable (sequence ae av) (sequence be bv) e₀ v₀) where
    started : starts op cs ≡ firsts ae be
    started = both-start op (Some fa) (Some fb) ae av be bv q.paired_a q.paired_b

    shown : (i j : ℕ) → shown_at op cs (i ∷ j ∷ []) ≡ value i j
    shown = both-shown op (Some fa) (Some fb) ae av be bv q.paired_a q.paired_b

    total : left (starts op cs) ≡ length ae + length be
    total = ap left started ∙ left-firsts ae be

    pub zipped-none : length ae + length be ≡ 0 → Filled (combined op cs) e₀ e₀ v₀ v₀ 0
    zipped-none h = zip-none op cs (both-valid op (Some fa) (Some fb) ae av be bv q.valid_a q.valid_b) (total ∙ h) e₀ v₀

    pub zipped-start : {first : ℤ} {c : Segments} → Starts ae be c → first ≡ value c.a.index c.b.index → Zipped e₀ v₀ (record { at = 0; last = first }) c
    unfolding merged_runs push_all
    zipped-start {first} s h =
        let same : first ≡ shown_at op cs (0 ∷ 0 ∷ []) = h ∙ rw (s.first_a, s.first_b) (sym (shown 0 0)) in
        rw same (record { done = []; walk = walk_start ae be s; merging = merge_start _ e₀ v₀ })

    module _ {e v : List ℤ} {w : Writer} {c : Segments} (z : Zipped e v w c) where
      pub zipped-end : length ae + length be ≤ c.a.index + c.b.index → 0 < length ae + length be → Filled (combined op cs) e₀ e v₀ v (w.at + 1)
      zipped-end h k =
          let l : Listing (starts op cs) z.done (places_at ae be c) = rw started z.walk.listing in
          zip_end op cs (both-valid op (Some fa) (Some fb) ae av be bv q.valid_a q.valid_b) l z.merging
          (none_left (places_at ae be c) (walk_none ae be z.walk h))
          (omega (arith, total))

      module _ {x : ℤ} (ex : x ≡ value c.a.index c.b.index) (h : c.a.index + c.b.index < length ae + length be) where
        pub zipped-room : length ae + length be < 2 ^ 64 → (w.at + 1 < 2 ^ 64) × (next_place w x < length e) × (next_place w x < length v)
        zipped-room k =
            let p = zip_at op cs z.walk.listing z.merging (ex ∙ sym (shown c.a.index c.b.index)) in
            let f = walk-few ae be z.walk in (
              omega (arith, zip-last op cs z.done z.merging),
              omega (arith, q.room_ends, z.merging.long_ends),
              omega (arith, q.room_values, z.merging.long_values),
            )

        pub zipped-more : {t t' : ℤ} {c' : Segments} {e' v' : List ℤ} {next : Writer} → Walks ae be c t c' → t' ≡ t
            → PushedMerged w t' x e e' v v' next → Zipped e' v' next c'
        zipped-more {e' = e'} {v' = v'} {next = next} s et d =
            record {
              done = _;
              walk = walk-next ae be z.walk s;
              merging = zip_more op cs z.walk.listing z.merging (ex ∙ sym (shown c.a.index c.b.index)) s.steps (rw et at d)
                  (omega (arith, q.room_ends, left-firsts ae be)) (omega (arith, q.room_values, left-firsts ae be));
            }

    -- ---- zip_with_raw

    module _ {e v : List ℤ} {n : ℕ} {c : Segments} (z : Listed e v n c) where
      pub listed-few : n ≤ c.a.index + c.b.index
      listed-few = omega (arith, walk-few ae be z.walk, z.ends.count)

      pub listed_next : {t t' x : ℤ} {c' : Segments} → Walks ae be c t c' → t' ≡ t → x ≡ value c.a.index c.b.index
          → c.a.index + c.b.index < length ae + length be → Listed (set e n t') (set v n x) (n + 1) c'
      listed_next {t} s et ex h =
          record {
            done = _;
            walk = walk-next ae be z.walk s;
            ends = write_next end_of_run z.ends (omega (arith, listed-few, q.room_ends)) (segment_at (places_at ae be c) t) (et ∙ s.steps.natural);
            values = write_next run_value z.values (omega (arith, listed-few, q.room_values)) (segment_at (places_at ae be c) t)
                (ex ∙ sym (shown c.a.index c.b.index));
          }

      pub listed-end : length ae + length be ≤ c.a.index + c.b.index → Filled (segment_runs op cs) e₀ e v₀ v n
      unfolding segment_runs ends_of values_of
      listed-end h =
          let all = walk_end ae be z.walk h in
          rw (ends_in_lem ae av q.paired_a, ends_in_lem be bv q.paired_b, all)
          (record {
            count = z.ends.count ∙ sym (length-map z.done (segment_run op cs));
            ends = z.ends.entries ∙ ap (λ (l : List ℤ). over l e₀) (sym (map-map (λ (r : Run). pos r.end) (segment_run op cs) z.done));
            values = z.values.entries ∙ ap (λ (l : List ℤ). over l v₀) (sym (map-map (λ (r : Run). r.value) (segment_run op cs) z.done));
          })
