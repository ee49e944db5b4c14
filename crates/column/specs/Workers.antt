-- What workers of several crates leave and require.
use Rattle.std.specs.Prelude.{ℕ, ◌+◌, ◌-◌, ◌*◌, ◌≤◌, ◌<◌, ◌^◌, ◌/◌, ◌%◌, suc, Bool, cond, List, [], ◌∷◌, map, ◌≡◌, ℤ, pos, length, set, get_or, eqb, leb}
use Rattle.num.specs.Numbers.{eq_z}
use Rattle.column.specs.Runs.{Run, Runs, to_nat, runs_of, last_from, ends_of, values_of, push_merged, over}
use Rattle.column.specs.declared.inner.Writer.{Writer}
use Rattle.column.specs.Lent.{Lent, given, after}
use Rattle.column.specs.Flat.{flat_offsets, flat_ends, flat_values}
use Rattle.column.specs.Lists.{total}

-- ---- mask bytes, "0 or 1"

-- the lowest index of another byte, or the length
unfoldable pub first_unlisted : List ℕ → ℕ
first_unlisted [] = 0
first_unlisted (m ∷ mask) = cond (leb m 1) (suc (first_unlisted mask)) 0

-- how many are 1
unfoldable pub mask_ones : List ℕ → ℕ
mask_ones [] = 0
mask_ones (m ∷ mask) = cond (eqb m 1) (suc (mask_ones mask)) (mask_ones mask)

-- ---- the merging writer: one run after another, each merged with the last where it has its value.

-- where a run goes: over the last run, at that place, if it joins it, else after it
abbrev pub place_after : Bool → ℕ → ℕ
place_after joins at = cond joins at (at + 1)

-- it joins a last run of its own value
abbrev pub next_place : Writer → ℤ → ℕ
next_place w v = place_after (eq_z w.last v) w.at

-- a run was written there, into two buffers, each before and after
pub record PushedMerged (w : Writer) (end value : ℤ) (e e' v v' : List ℤ) (next : Writer) : Type 0 where
  pub place : next.at ≡ next_place w value
  pub last : next.last ≡ value
  pub ends : e' ≡ set e (next_place w value) end
  pub values : v' ≡ set v (next_place w value) value

-- ---- runs after runs

-- the value of the last run, or v where there is none
unfoldable pub last_of : ℤ → Runs → ℤ
last_of v [] = v
last_of v (r ∷ rs) = last_of r.value rs

-- the runs rs are written into the front of two buffers, which held e₀ and v₀, and w is the writer after them; `first` is the first value of all
pub record Merging (rs : Runs) (first : ℤ) (e₀ v₀ e v : List ℤ) (w : Writer) : Type 0 where
  pub ends : e ≡ over (ends_of rs) e₀
  pub values : v ≡ over (values_of rs) v₀
  pub long_ends : length e ≡ length e₀
  pub long_values : length v ≡ length v₀
  pub at_last : w.at ≡ length rs - 1
  pub last_value : w.last ≡ last_of first rs

-- the runs, each pushed onto those before it
unfoldable pub push_all : Runs → Runs → Runs
push_all done [] = done
push_all done (r ∷ rs) = push_all (push_merged done r.end r.value) rs

-- the runs with their positions from `start` on at `offset`
unfoldable pub moved : ℕ → ℕ → Runs → Runs
moved start offset rs = map (λ (r : Run). record { end = r.end - start + offset; value = r.value }) rs

-- the ends are natural numbers and rise, from above p on
abbrev pub RisingEnds : ℕ → List ℤ → Type 0
RisingEnds p [] = Unit {0}
RisingEnds p (e ∷ es) = (e ≡ pos (to_nat e)) × (p < to_nat e) × RisingEnds (to_nat e) es

-- runs are written, and there is room after them for those of the ends and values
pub record Behind (done : Runs) (first : ℤ) (e₀ v₀ e v : List ℤ) (w : Writer) (es vs : List ℤ) : Type 0 where
  pub merging : Merging done first e₀ v₀ e v w
  pub started : length done ≡ 0 → 0 < length es → first ≡ get_or vs 0 (pos 0)
  pub room_ends : length done + length es ≤ length e
  pub room_values : length done + length es ≤ length v

-- ends from `start` on that stay i64 at `offset`, with a value each
pub record Movable (start offset : ℕ) (es vs : List ℤ) : Type 0 where
  pub rising : RisingEnds start es
  pub fitting : to_nat (last_from (pos start) es) - start + offset < 2 ^ 63
  pub paired : length es ≡ length vs

pub record Appendable (start offset : ℕ) (es vs e v : List ℤ) (w : Writer) : Type 0 where
  pub movable : Movable start offset es vs
  pub done : Runs
  pub first : ℤ
  pub e₀ : List ℤ
  pub v₀ : List ℤ
  pub behind : Behind done first e₀ v₀ e v w es vs

-- whatever runs were written before, those of the ends and values, moved, are pushed onto them
abbrev pub Appended : ℕ → ℕ → List ℤ → List ℤ → List ℤ → List ℤ → List ℤ → List ℤ → Writer → Writer → Type 0
Appended start offset es vs e e' v v' w next =
    (done : Runs) (first : ℤ) (e₀ v₀ : List ℤ) → Behind done first e₀ v₀ e v w es vs
    → Merging (push_all done (moved start offset (runs_of es vs))) first e₀ v₀ e' v' next

-- ---- sequences laid flat

-- sequences, written into the front of three buffers, each before and after, and how many runs they have
pub record FilledFlat (cs : List Runs) (x x' : List ℕ) (e e' v v' : List ℤ) (n : ℕ) : Type 0 where
  pub count : n ≡ total (map length cs)
  pub offsets : x' ≡ over (flat_offsets cs) x
  pub ends : e' ≡ over (flat_ends cs) e
  pub values : v' ≡ over (flat_values cs) v

-- of the buffers that a call is lent
abbrev pub FillsFlat : List Runs → Lent ℕ → Lent ℤ → Lent ℤ → ℕ → Type 0
FillsFlat cs x e v n = FilledFlat cs (given x) (after x) (given e) (after e) (given v) (after v) n

-- ---- answers that are found a block at a time, and kept for the rest of the block

-- before the one at i is asked for: those of its block are found, unless it is the first of the block
pub record KeptBlock (size : ℕ) (Found : ℕ → List ℕ → Type 0) (bs : List ℕ) (i : ℕ) : Type 0 where
  pub room : length bs ≡ size
  pub kept : (i % size ≡ 0 → ⊥) → Found (i / size * size) bs
