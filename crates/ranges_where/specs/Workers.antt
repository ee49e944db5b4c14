-- What the workers require and leave.
use Rattle.std.specs.Prelude.{ℕ, ◌+◌, ◌≤◌, ◌<◌, Bool, true, false, not, ◌&&◌, cond, List, ◌≡◌, ℤ, pos, length, get_or, take}
use Rattle.num.specs.Numbers.{eq_z, operation}
use Rattle.column.specs.Lists.{any}
use Rattle.column.specs.Runs.{over}
use Rattle.ranges_where.specs.Calls.{Range, range_starts, range_ends}
use Rattle.ranges_where.specs.declared.inner.Open.{Open}

-- does a value pass
abbrev pub passing : ℕ → ℤ → ℤ → Bool
passing code number v = eq_z (operation code v number) (pos 1)

-- the lowest index of a value that passes, or how many there are
pub record FirstPassing (passes : ℤ → Bool) (vs : List ℤ) (r : ℕ) : Type 0 where
  pub within : r ≤ length vs
  pub before : any passes (take r vs) ≡ false
  pub here : r < length vs → passes (get_or vs r (pos 0)) ≡ true

-- the last range, after one more run
abbrev pub open_after : Open → Bool → ℤ → ℤ → Open
open_after last passes start end =
    let new = not last.inside && passes in
    record { at = cond new (last.at + 1) last.at; start = cond new start last.start; end = cond passes end last.end; inside = passes }

-- ranges written into the front of two buffers, each before and after, and how many they are
pub record FilledRanges (rs : List Range) (s s' e e' : List ℤ) (n : ℕ) : Type 0 where
  pub count : n ≡ length rs
  pub starts : s' ≡ over (range_starts rs) s
  pub ends : e' ≡ over (range_ends rs) e
