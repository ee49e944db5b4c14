-- The loop of `zip_many`: the merged runs of the segments so far are written.
-- Assumes nothing.
use Rattle.std.specs.Prelude.{Some}
use Prim.Native.Nat.{ℕ, ◌+◌, ◌≤◌, ◌<◌, ◌^◌}
use mathlib.Core.List.{List, []}
use mathlib.Core.Path.{◌≡◌, refl, ap, sym, ◌∙◌}
use native.Mathlib.Omega.{arith}
use lib.IntN.{ℤ, pos}
use lib.ListN.{length}
use Rattle.column.specs.declared.inner.Writer.{Writer}
use Rattle.column.specs.Combine.{Column, many, folded, combined}
use Rattle.column.specs.Flat.{flat, columns}
use Rattle.column.specs.Lists.{parts}
use Rattle.column.specs.Runs.{Filled}
use Rattle.column.specs.Workers.{next_place, PushedMerged, push_all, Merging}
use Rattle.column.proofs.All.{All}
use Rattle.column.proofs.Merging.{merge_start}
use Rattle.column.proofs.Rising.{Valid}
use Rattle.plan.specs.Calls.{Place, Segment, indexes, first_places}
use Rattle.plan.specs.Workers.{spent}
use Rattle.plan.proofs.Listing.{Listing}
use Rattle.plan.proofs.Segments.{left}
use Rattle.plan.proofs.Zipping.{starts, shown_at, merged_runs, zip-none, zip_at, zip-last, zip_more, zip_end}
use Rattle.many.specs.Workers.{places_of, Stepped}
use Rattle.many.proofs.Flats.{many-valid}
use Rattle.many.proofs.Places.{values_at}
use Rattle.many.proofs.Walking.{ends_of_parts, first-total, Walk, walk_start, walk_none, walk-indexes, walk-few, walk_steps, walk-next}
use Rattle.zip_many.specs.Workers.{Combinable}
use Rattle.zip_many.proofs.Flats.{ends-many, values-columns}

module _ (op : ℤ → ℤ → ℤ) (fill : ℤ) (os : List ℕ) (es vs e₀ v₀ : List ℤ) where
  abbrev cs : List Column
  cs = many (Some fill) (columns (flat os es vs))

  -- what the columns show together at places, as the code reads it
  abbrev pub value : List ℕ → ℤ
  value is = folded op (values_at is (parts os vs) fill)

  abbrev first : List Place
  first = first_places (ends_of_parts os es)

  pub record Zipped (is : List ℕ) (e v : List ℤ) (w : Writer) (end : ℕ) : Type 0 where
    pub done : List Segment
    pub walk : Walk os es done is end
    pub merging : Merging (merged_runs op cs done) (shown_at op cs (indexes first)) e₀ v₀ e v w

  pub zipped-last : {is : List ℕ} {e v : List ℤ} {w : Writer} {end : ℕ} → Zipped is e v w end → w.at ≤ length es
  zipped-last z = omega (arith, zip-last op cs z.done z.merging, z.walk.listing.few, first-total os es z.walk.placed.offsets)

  module _ {is₀ : List ℕ} (q : Combinable os es vs is₀ e₀ v₀) where
    started : starts op cs ≡ first
    started = ap first_places (ends-many os es vs q.paired q.walkable.valid (Some fill))

    shown : {done : List Segment} {is : List ℕ} {end : ℕ} → Walk os es done is end → shown_at op cs (indexes (places_of os es is)) ≡ value is
    shown {is = is} w = ap (shown_at op cs) (walk-indexes w) ∙ ap (folded op) (values-columns (Some fill) os es vs is q.paired)

    pub zipped-start : {is : List ℕ} {end : ℕ} {x : ℤ} → Stepped os es 0 is₀ is end → x ≡ value is → Zipped is e₀ v₀ (record { at = 0; last = x }) end
    unfolding merged_runs push_all
    zipped-start {is} s ex =
        let w = walk_start os es q.walkable s in
        let same : shown_at op cs (indexes first) ≡ value is = ap (λ (ps : List Place). shown_at op cs (indexes ps)) (sym (w.listing.begun refl)) ∙ shown w in
        rw (ex, ← same) (record { done = []; walk = w; merging = merge_start (shown_at op cs (indexes first)) e₀ v₀ })

    total : left (starts op cs) ≡ length es
    total = ap left started ∙ first-total os es q.walkable.offsets

    valid : All (λ (c : Column). Valid c.runs) cs
    valid = many-valid os es vs q.paired q.walkable.valid (Some fill)

    -- no column has a run
    pub zipped-none : length es ≡ 0 → Filled (combined op cs) e₀ e₀ v₀ v₀ 0
    zipped-none h = zip-none op cs valid (total ∙ h) e₀ v₀

    module _ {is : List ℕ} {e v : List ℤ} {w : Writer} {end : ℕ} (z : Zipped is e v w end) where
      pub zipped-end : spent ≤ end → 0 < length es → Filled (combined op cs) e₀ e v₀ v (w.at + 1)
      zipped-end h k =
          let l : Listing (starts op cs) z.done (places_of os es is) = rw started z.walk.listing in
          zip_end op cs valid l z.merging (walk_none z.walk h) (omega (arith, total))

      module _ (h : end < spent) {x : ℤ} (ex : x ≡ value is) where
        is-shown : x ≡ shown_at op cs (indexes (places_of os es is))
        is-shown = ex ∙ sym (shown z.walk)

        pub zipped-room : length es < 2 ^ 63 → (w.at + 1 < 2 ^ 64) × (next_place w x < length e) × (next_place w x < length v)
        zipped-room k =
            let p = zip_at op cs z.walk.listing z.merging is-shown in
            let f = walk-few z.walk h in
            (omega (arith, zipped-last z), omega (arith, q.room_ends, z.merging.long_ends), omega (arith, q.room_values, z.merging.long_values))

        pub zipped-more : {t : ℤ} {is' : List ℕ} {e' v' : List ℤ} {next : Writer} {end' : ℕ} → t ≡ pos end → PushedMerged w t x e e' v v' next
            → Stepped os es end is is' end' → Zipped is' e' v' next end'
        zipped-more et d s =
            let f = first-total os es q.walkable.offsets in
            record {
              done = _;
              walk = walk-next z.walk h s;
              merging = zip_more op cs z.walk.listing z.merging is-shown (walk_steps z.walk h s) (rw et at d) (omega (arith, q.room_ends))
                  (omega (arith, q.room_values));
            }
