-- merge.rs: neighbouring runs made one.
use Rattle.std.specs.Prelude.{ℕ, suc, cond, List, [], ◌∷◌, map, ℤ, length, eqb}
use Rattle.num.specs.Numbers.{operation}
use Rattle.column.specs.Asking.{Question, first_no, ◌otherwise◌}
use Rattle.column.specs.Paper.{Outcome}
use Rattle.column.specs.Questions.{listed, mask_listed, paired, ends_valid, room, both, sequence_asked, mask_agrees}
use Rattle.column.specs.Runs.{Sequence, Run, Runs, to_nat, runs}

-- ---- groups of runs

-- a group: its first and its last run, and how many runs it has
pub record Group (A : Type 0) : Type 0 where
  pub first : A
  pub last : A
  pub count : ℕ

abbrev pub alone : {A : Type 0} → A → Group A
alone x = record { first = x; last = x; count = 1 }

-- a run before the first of the groups, in the same group
abbrev pub in_front : {A : Type 0} → A → List (Group A) → List (Group A)
in_front x [] = alone x ∷ []
in_front x (g ∷ gs) = record { first = x; last = g.last; count = suc g.count } ∷ gs

-- a run belongs to the group of the run before it where the mask has a 1
unfoldable pub groups_from : {A : Type 0} → A → List A → List ℕ → List (Group A)
groups_from x [] mask = alone x ∷ []
groups_from x (y ∷ ys) [] = alone x ∷ groups_from y ys []
groups_from x (y ∷ ys) (m ∷ mask) = cond (eqb m 1) (in_front x (groups_from y ys mask)) (alone x ∷ groups_from y ys mask)

-- the groups that a mask makes
unfoldable pub groups : {A : Type 0} → List A → List ℕ → List (Group A)
groups [] mask = []
groups (x ∷ xs) mask = groups_from x xs mask

-- ---- merge_mask, merge_by

-- a run for each group, with its last end; "Keep 0 First, 1 Last"
unfoldable pub mask_runs : ℕ → List ℕ → Runs → Runs
mask_runs keep mask rs = map (λ (g : Group Run). record { end = g.last.end; value = cond (eqb keep 0) g.first.value g.last.value }) (groups rs mask)

-- "every code, and then every mask byte"
unfoldable pub merge_mask_asked : Sequence → List ℕ → ℕ → List ℕ → Question
merge_mask_asked s mask keep buffers =
    first_no
    (listed 0 1 keep
    ∷ mask_listed mask
    ∷ paired s
    ∷ mask_agrees mask s.ends
    ∷ ends_valid s.ends
    ∷ room (both (length s.ends)) buffers
    ∷ [])

unfoldable pub merge_mask : Sequence → List ℕ → ℕ → List ℕ → Outcome Runs
merge_mask s mask keep buffers = merge_mask_asked s mask keep buffers otherwise mask_runs keep mask (runs s)

-- which neighbours are joined: the operation on the values as they were handed in
unfoldable pub neighbours : ℕ → List ℤ → List ℕ
neighbours code [] = []
neighbours code (v ∷ []) = []
neighbours code (v ∷ w ∷ ws) = to_nat (operation code v w) ∷ neighbours code (w ∷ ws)

-- "`merge_by` (codes 7, 8)"
unfoldable pub merge_by_asked : Sequence → ℕ → List ℕ → Question
merge_by_asked s code buffers = first_no (listed 7 8 code ∷ sequence_asked s (length s.ends) buffers ∷ [])

unfoldable pub merge_by : Sequence → ℕ → List ℕ → Outcome Runs
merge_by s code buffers = merge_by_asked s code buffers otherwise mask_runs 0 (neighbours code s.values) (runs s)
