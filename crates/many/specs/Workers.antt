-- What the workers of the walk and of plan_many require and leave.
use Rattle.std.specs.Prelude.{ℕ, ◌+◌, ◌*◌, ◌-◌, ◌≤◌, ◌<◌, ◌^◌, cond, List, [], ◌∷◌, map, ◌≡◌, eqb, ltb, ℤ, pos, Option, Some, None}
use Rattle.std.specs.Prelude.{length, get_or, drop, set, replicate}
use Rattle.column.specs.Lists.{part, parts}
use Rattle.column.specs.Questions.{ends_valid, offsets_valid, sequences_valid}
use Rattle.column.specs.Runs.{to_nat, over}
use Rattle.plan.specs.Calls.{Place, Segment, least_end, rests, indexes, stepped, segment_ends}
use Rattle.plan.specs.Workers.{place_at, spent, EndAt}
use Rattle.many.specs.declared.Planned.{Planned}
use Rattle.many.specs.Calls.{most_columns, all_indexes}

-- where columns stand, by the index of each one's current run
abbrev pub places_for : List ℕ → List (List ℤ) → List Place
places_for [] columns = []
places_for (i ∷ is) [] = []
places_for (i ∷ is) (es ∷ columns) = place_at es i ∷ places_for is columns

abbrev pub places_of : List ℕ → List ℤ → List ℕ → List Place
places_of os es is = places_for is (parts os es)

-- each column stands at one of its runs or after the last
abbrev pub Within : List ℕ → List (List ℤ) → Type 0
Within [] columns = Unit {0}
Within (i ∷ is) [] = Unit {0}
Within (i ∷ is) (es ∷ columns) = (i ≤ length es) × Within is columns

-- the end that a number stands for, or none
abbrev pub end_found : ℕ → Option ℕ
end_found e = cond (ltb e spent) (Some e) None

-- valid columns, each at its place
pub record Placed (os : List ℕ) (es : List ℤ) (is : List ℕ) : Type 0 where
  pub offsets : offsets_valid os (length es) ≡ None
  pub valid : sequences_valid os es ≡ None
  pub count : length os ≡ length is + 1
  pub within : Within is (parts os es)

-- column c
abbrev pub column_at : List ℕ → List ℤ → ℕ → List ℤ
column_at os xs c = part (get_or os c 0) (get_or os (c + 1) 0) xs

-- as many values as ends, and two buffers for what is kept of each column
pub record Paired (es vs : List ℤ) (is xs : List ℕ) (ys : List ℤ) : Type 0 where
  pub paired : length es ≡ length vs
  pub room_ends : length xs ≡ length is
  pub room_values : length ys ≡ length is

-- what is kept of the first n columns where they stand: the end of each one's run, and its value or the fill
pub record Kept (os : List ℕ) (es vs : List ℤ) (fill : ℤ) (is xs : List ℕ) (ys : List ℤ) (n : ℕ) : Type 0 where
  pub long_ends : length xs ≡ length is
  pub long_values : length ys ≡ length is
  pub ends : (c : ℕ) → c < n → EndAt (map to_nat (drop (get_or is c 0) (column_at os es c))) (get_or xs c 0)
  pub values : (c : ℕ) → c < n → get_or ys c (pos 0) ≡ get_or (column_at os vs c) (get_or is c 0) fill

-- a valid column at its place
pub record ColumnPlaced (os : List ℕ) (es : List ℤ) (is : List ℕ) (c : ℕ) : Type 0 where
  pub offset : c + 1 < length os
  pub inside : get_or os (c + 1) 0 ≤ length es
  pub place : get_or os c 0 + get_or is c 0 ≤ get_or os (c + 1) 0
  pub valid : ends_valid (column_at os es c) ≡ None

-- a valid column, as many values as ends, and an entry for it in two buffers
pub record Readable (os : List ℕ) (es vs : List ℤ) (c : ℕ) (xs : List ℕ) (ys : List ℤ) : Type 0 where
  pub offset : c + 1 < length os
  pub rises : get_or os c 0 ≤ get_or os (c + 1) 0
  pub inside : get_or os (c + 1) 0 ≤ length es
  pub valid : ends_valid (column_at os es c) ≡ None
  pub paired : length es ≡ length vs
  pub room_ends : c < length xs
  pub room_values : c < length ys

-- the end and the value of a column's run at a place, in two buffers, each before and after
pub record ColumnRead (os : List ℕ) (es vs : List ℤ) (fill : ℤ) (c place : ℕ) (xs xs' : List ℕ) (ys ys' : List ℤ) (end : ℕ) : Type 0 where
  pub found : EndAt (map to_nat (drop place (column_at os es c))) end
  pub ends : xs' ≡ set xs c end
  pub values : ys' ≡ set ys c (get_or (column_at os vs c) place fill)

-- the place of column c, and what is kept, before and after its step from a run that ends at `start`, and its end then
pub record ColumnStepped (os : List ℕ) (es vs : List ℤ) (fill : ℤ) (c start : ℕ) (is is' xs xs' : List ℕ) (ys' : List ℤ) (end : ℕ) : Type 0 where
  pub places : is' ≡ set is c (get_or is c 0 + cond (eqb (get_or xs c 0) start) 1 0)
  pub kept : Kept os es vs fill is' xs' ys' (length is')
  pub found : end ≡ get_or xs' c 0

-- the places, before and after a step from the runs that end at `start`, and the next end
pub record Stepped (os : List ℕ) (es : List ℤ) (start : ℕ) (is is' : List ℕ) (end : ℕ) : Type 0 where
  pub next : is' ≡ indexes (stepped start (places_of os es is))
  pub found : least_end (rests (places_of os es is')) ≡ end_found end
  pub small : end < spent → end < 2 ^ 63

-- valid columns, each at its first run
pub record Walkable (os : List ℕ) (es : List ℤ) (is : List ℕ) : Type 0 where
  pub offsets : offsets_valid os (length es) ≡ None
  pub valid : sequences_valid os es ≡ None
  pub first : is ≡ replicate (length os - 1) 0

-- every question of plan_many answered "yes"
pub record Plannable (os : List ℕ) (es vs e : List ℤ) (x : List ℕ) : Type 0 where
  pub paired : length es ≡ length vs
  pub offsets : offsets_valid os (length es) ≡ None
  pub valid : sequences_valid os es ≡ None
  pub columns : length os - 1 ≤ most_columns
  pub room_ends : length es ≤ length e
  pub room_indexes : length es * (length os - 1) ≤ length x

-- the segments in two buffers, each before and after, and how many entries each got
pub record PlanManyFilled (ss : List Segment) (e e' : List ℤ) (x x' : List ℕ) (r : Planned) : Type 0 where
  pub segments : r.segments ≡ length ss
  pub indexes : r.indexes ≡ length (all_indexes ss)
  pub ends_written : e' ≡ over (segment_ends ss) e
  pub indexes_written : x' ≡ over (all_indexes ss) x
