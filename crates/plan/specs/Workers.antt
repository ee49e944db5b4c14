-- What the walk over segments promises its callers.
use Rattle.std.specs.Prelude.{ℕ, ◌+◌, ◌-◌, ◌≤◌, ◌<◌, ◌^◌, min, cond, List, [], ◌∷◌, map, ◌≡◌, ltb, ℤ, pos, length, drop, Some, None}
use Rattle.column.specs.Questions.{ends_valid}
use Rattle.column.specs.Runs.{to_nat, over}
use Rattle.plan.specs.declared.inner.Cursor.{Cursor}
use Rattle.plan.specs.declared.inner.Segments.{Segments}
use Rattle.plan.specs.Calls.{Place, Segment, least_end, rests, stepped, segment_ends, indexes_of}

-- a column at its run i
abbrev pub place_at : List ℤ → ℕ → Place
place_at es i = record { index = i; rest = map to_nat (drop i es) }

-- two columns at a cursor each
abbrev pub places_at : List ℤ → List ℤ → Segments → List Place
places_at a b c = place_at a c.a.index ∷ place_at b c.b.index ∷ []

-- the next segment: its end, and where the columns stand after it
pub record Steps (ps : List Place) (end : ℤ) (ps' : List Place) : Type 0 where
  pub natural : end ≡ pos (to_nat end)
  pub ends : least_end (rests ps) ≡ Some (to_nat end)
  pub next : ps' ≡ stepped (to_nat end) ps

-- ---- a current end

-- the first of the ends that a column has left; where it has none, the greatest number, which is no end
abbrev pub spent : ℕ
spent = 2 ^ 64 - 1

abbrev pub current_end : List ℕ → ℕ
current_end [] = spent
current_end (e ∷ es) = e

-- and what tells the two apart
pub record EndAt (rest : List ℕ) (r : ℕ) : Type 0 where
  pub current : r ≡ current_end rest
  pub small : r < spent → r < 2 ^ 63
  pub some : 0 < length rest → r < spent

-- ---- two columns by cursors

-- a cursor of a column
pub record Stands (es : List ℤ) (c : Cursor) : Type 0 where
  pub within : c.index ≤ length es
  pub ends : EndAt (map to_nat (drop c.index es)) c.end

pub record Standing (a b : List ℤ) (c : Segments) : Type 0 where
  pub left : Stands a c.a
  pub right : Stands b c.b

-- at the first runs
pub record Starts (a b : List ℤ) (c : Segments) : Type 0 where
  pub standing : Standing a b c
  pub first_a : c.a.index ≡ 0
  pub first_b : c.b.index ≡ 0

-- a cursor after a segment, where the other column's run ends at `other` and the run after the current one at `next`
abbrev pub stepped_cursor : Cursor → ℕ → ℕ → Cursor
stepped_cursor c other next = cond (ltb other c.end) c (record { index = c.index + 1; end = next })

-- columns that are not both spent
pub record Walkable (a b : List ℤ) (c : Segments) : Type 0 where
  pub valid_a : ends_valid a ≡ None
  pub valid_b : ends_valid b ≡ None
  pub standing : Standing a b c
  pub unspent : min c.a.end c.b.end < spent

-- a segment walked
pub record Walks (a b : List ℤ) (c : Segments) (end : ℤ) (c' : Segments) : Type 0 where
  pub steps : Steps (places_at a b c) end (places_at a b c')
  pub standing : Standing a b c'

-- the segments in three buffers, each before and after, and how many they are
pub record PlanFilled (ss : List Segment) (e e' : List ℤ) (a a' b b' : List ℕ) (n : ℕ) : Type 0 where
  pub count : n ≡ length ss
  pub ends : e' ≡ over (segment_ends ss) e
  pub left : a' ≡ over (indexes_of 0 ss) a
  pub right : b' ≡ over (indexes_of 1 ss) b
