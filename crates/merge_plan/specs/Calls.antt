-- merge.rs: the groups that a mask makes, and the group of each run.
use Rattle.std.specs.Prelude.{ℕ, suc, ◌+◌, ◌-◌, List, [], ◌∷◌, ◌++◌, map, ◌≡◌, ℤ, length, replicate, Result}
use Rattle.column.specs.Asking.{Question, first_no, ◌otherwise◌}
use Rattle.column.specs.Paper.{Outcome, counts, written, outcome_of}
use Rattle.column.specs.Questions.{mask_listed, offsets_rise, last_offset, ends_valid, room, mask_agrees}
use Rattle.merge_mask.specs.Calls.{Group, groups}
use Rattle.column.specs.Lent.{Lent, given, after}
use Rattle.column.specs.declared.error.Refusal.{Refusal}

-- "n entries; offsets n + 1"; it takes ends alone
unfoldable pub merge_plan_asked : List ℤ → List ℕ → List ℕ → Question
merge_plan_asked ends mask buffers = first_no (mask_listed mask ∷ mask_agrees mask ends ∷ ends_valid ends ∷ room (length ends ∷ (length ends + 1) ∷ []) buffers ∷ [])

unfoldable pub merge_plan : List ℤ → List ℕ → List ℕ → Outcome (List (Group ℤ))
merge_plan ends mask buffers = merge_plan_asked ends mask buffers otherwise groups ends mask

-- the last end of each group, and the offsets: 0, and one past the last run of each
unfoldable pub group_ends : List (Group ℤ) → List ℤ
group_ends gs = map (λ (g : Group ℤ). g.last) gs

unfoldable pub past_each : ℕ → List (Group ℤ) → List ℕ
past_each n [] = []
past_each n (g ∷ gs) = (n + g.count) ∷ past_each (n + g.count) gs

abbrev pub group_offsets : List (Group ℤ) → List ℕ
group_offsets gs = 0 ∷ past_each 0 gs

-- the promise: how many groups, their ends and their offsets, each buffer before and after
pub record WrittenGroups (o : Outcome (List (Group ℤ))) (r : Result ℕ Refusal) (e e' : List ℤ) (x x' : List ℕ) : Type 0 where
  pub answer : outcome_of r ≡ counts length o
  pub ends : e' ≡ written group_ends o e
  pub offsets : x' ≡ written group_offsets o x

-- of the buffers that a call is lent: question 12 is about their lengths
abbrev pub WritesGroups : (List ℕ → Outcome (List (Group ℤ))) → Lent ℤ → Lent ℕ → Result ℕ Refusal → Type 0
WritesGroups call e x r =
    WrittenGroups (call (length (given e) ∷ length (given x) ∷ [])) r (given e) (after e) (given x) (after x)

-- the number of its group for each run, the groups from g on
unfoldable pub ids_from : ℕ → ℕ → List ℕ → List ℕ
ids_from g a [] = []
ids_from g a (b ∷ os) = replicate (b - a) g ++ ids_from (suc g) b os

abbrev pub ids_at : List ℕ → List ℕ
ids_at [] = []
ids_at (a ∷ os) = ids_from 0 a os

-- "offsets that do not start at 0 or that fall: 3", "ids the last offset"
unfoldable pub group_ids_asked : List ℕ → List ℕ → Question
group_ids_asked offsets buffers = first_no (offsets_rise offsets ∷ room (last_offset 0 offsets ∷ []) buffers ∷ [])

unfoldable pub group_ids : List ℕ → List ℕ → Outcome (List ℕ)
group_ids offsets buffers = group_ids_asked offsets buffers otherwise ids_at offsets
