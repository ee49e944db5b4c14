-- What the workers leave and require.
use Rattle.std.specs.Prelude.{◌≡◌, ℕ, ◌+◌, ◌-◌, ◌<◌, ◌≤◌, min, cond, List, map, length, take, drop, ℤ, pos, int_le, nat_lt, slice_index_or, None}
use Rattle.column.specs.Questions.{ends_valid}
use Rattle.column.specs.Runs.{Run, Runs, to_nat, length_of_ends}
use Rattle.slice.specs.Calls.{first_where, first_end_above}
use Rattle.slice.specs.declared.inner.search.TouchedRuns.{TouchedRuns}
use Rattle.num.specs.Numbers.{smaller_of, larger_of}
use Rattle.slice.specs.declared.inner.search.Interval.{Interval}

-- the lowest index of an end at or above a position, or how many ends there are
unfoldable pub first_end_at_least : ℤ → List ℤ → ℕ
first_end_at_least p es = first_where (λ e. int_le p e) es

-- an interval, its start clamped up to 0 and its end down to the length
abbrev pub clamped_to : List ℤ → ℤ → ℤ → Interval
clamped_to es start end = record { start = larger_of start (pos 0); end = smaller_of end (length_of_ends es) }

-- the first touched run and how many there are, of valid ends, and where the slice begins and ends; all 0 where it is empty
unfoldable pub touched_by : ℤ → ℤ → List ℤ → TouchedRuns
touched_by start end es =
    let x = to_nat start in
    let y = min (to_nat end) (to_nat (length_of_ends es)) in
    let first = first_end_above (pos x) es in
    cond (nat_lt x y)
    (record { first = first; count = first_end_at_least (pos y) (drop first es) + 1; start = pos x; end = pos y })
    (record { first = 0; count = 0; start = pos 0; end = pos 0 })

-- a search of the first end above a position: it is from `low` up to `low + size`
pub record Halving (p : ℕ) (es : List ℤ) (low size : ℕ) : Type 0 where
  pub inside : low + size ≤ length es
  pub from_low : ends_valid es ≡ None → low ≤ first_end_above (pos p) es
  pub to_high : ends_valid es ≡ None → first_end_above (pos p) es ≤ low + size

-- a run as it stands in a slice from x up to y
abbrev pub clipped : ℕ → ℕ → Run → Run
clipped x y r = record { end = min r.end y - x; value = r.value }

-- the touched runs, as they stand in the slice
unfoldable pub cut_runs : TouchedRuns → Runs → Runs
cut_runs t rs = map (clipped (to_nat t.start) (to_nat t.end)) (take t.count (drop t.first rs))

-- they are inside the sequence and end above the slice's start, and there is room for them
pub record Touches (t : TouchedRuns) (es vs e v : List ℤ) : Type 0 where
  pub paired : length es ≡ length vs
  pub inside : t.first + t.count ≤ length es
  pub start_natural : t.start ≡ pos (to_nat t.start)
  pub end_natural : t.end ≡ pos (to_nat t.end)
  pub ordered : to_nat t.start ≤ to_nat t.end
  pub naturals : (i : ℕ) → i < length es → slice_index_or es i (pos 0) ≡ pos (to_nat (slice_index_or es i (pos 0)))
  pub above : (i : ℕ) → i < t.count → to_nat t.start ≤ to_nat (slice_index_or es (t.first + i) (pos 0))
  pub room_ends : t.count ≤ length e
  pub room_values : t.count ≤ length v
