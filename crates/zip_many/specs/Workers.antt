-- What the workers of zip_many require and leave.
use Rattle.std.specs.Prelude.{ℕ, ◌-◌, ◌≤◌, List, [], ◌∷◌, ◌≡◌, ℤ, pos, length, None}
use Rattle.num.specs.Numbers.{smaller_of, larger_of}
use Rattle.column.specs.Questions.{offsets_valid, sequences_valid}
use Rattle.many.specs.Calls.{most_columns}
use Rattle.many.specs.Workers.{Walkable}
use Rattle.zip_many.specs.declared.Lengths.{Lengths}

-- valid columns, each at its first run, as many values as ends, and two buffers with room for a run of each of their segments
pub record Combinable (os : List ℕ) (es vs : List ℤ) (is : List ℕ) (e v : List ℤ) : Type 0 where
  pub walkable : Walkable os es is
  pub paired : length es ≡ length vs
  pub room_ends : length es ≤ length e
  pub room_values : length es ≤ length v

-- every question of zip_many answered "yes"
pub record Zippable (os : List ℕ) (es vs e v : List ℤ) : Type 0 where
  pub offsets : offsets_valid os (length es) ≡ None
  pub valid : sequences_valid os es ≡ None
  pub columns : length os - 1 ≤ most_columns
  pub paired : length es ≡ length vs
  pub room_ends : length es ≤ length e
  pub room_values : length es ≤ length v

-- ---- the least and the greatest of lengths

abbrev pub least_from : ℤ → List ℤ → ℤ
least_from n [] = n
least_from n (m ∷ ms) = least_from (smaller_of n m) ms

abbrev pub greatest_from : ℤ → List ℤ → ℤ
greatest_from n [] = n
greatest_from n (m ∷ ms) = greatest_from (larger_of n m) ms

-- from the first of them on, or 0 where there is none
abbrev pub from_first : (ℤ → List ℤ → ℤ) → List ℤ → ℤ
from_first f [] = pos 0
from_first f (n ∷ ns) = f n ns

pub record LengthsOf (ns : List ℤ) (r : Lengths) : Type 0 where
  pub least : r.least ≡ from_first least_from ns
  pub greatest : r.greatest ≡ from_first greatest_from ns
