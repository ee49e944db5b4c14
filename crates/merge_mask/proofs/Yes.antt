-- What a call's questions tell where all are answered "yes": what its worker requires.
-- Assumes nothing.
use Prim.Native.Nat.{ℕ, ◌-◌, ◌≤◌}
use Rattle.std.specs.Prelude.{None}
use mathlib.Core.List.{List, [], ◌∷◌}
use mathlib.Core.Path.{◌≡◌}
use lib.IntN.{ℤ}
use lib.ListN.{length}
use Rattle.column.specs.Questions.{listed, mask_listed, paired, ends_valid, room, both, sequence_asked, mask_agrees}
use Rattle.column.specs.Runs.{sequence}
use Rattle.column.proofs.FirstNo.{all_yes}
use Rattle.column.proofs.Told.{listed-told, agree-told, both_told, sequence-told}
use Rattle.merge_mask.specs.Calls.{merge_mask_asked, merge_by_asked}
use Rattle.merge_mask.specs.Workers.{Mergeable}

module _ (es vs e v : List ℤ) where
  pub merge_mask-yes : (mask : List ℕ) (keep : ℕ) → merge_mask_asked (sequence es vs) mask keep (length e ∷ length v ∷ []) ≡ None
      → Mergeable es vs e v × (length mask ≡ length es - 1)
  unfolding merge_mask_asked paired mask_agrees
  merge_mask-yes mask keep h =
      let space = room (both (length es)) (length e ∷ length v ∷ []) in
      let y = all_yes (listed 0 1 keep ∷ mask_listed mask ∷ paired (sequence es vs) ∷ mask_agrees mask es ∷ ends_valid es ∷ space ∷ []) h in
      let r = both_told (length es) (length e) (length v) y.1.1.1.1.1.0 in (
        record { valid = y.1.1.1.1.0; paired = agree-told 3 (length es) (length vs) y.1.1.0; room_ends = r.0; room_values = r.1 },
        agree-told 6 (length mask) (length es - 1) y.1.1.1.0,
      )

  pub merge_by-yes : (code : ℕ) → merge_by_asked (sequence es vs) code (length e ∷ length v ∷ []) ≡ None → Mergeable es vs e v × (7 ≤ code) × (code ≤ 8)
  unfolding merge_by_asked
  merge_by-yes code h =
      let y = all_yes (listed 7 8 code ∷ sequence_asked (sequence es vs) (length es) (length e ∷ length v ∷ []) ∷ []) h in
      let t = sequence-told es vs (length es) (length e) (length v) y.1.0 in
      let c = listed-told 7 8 code y.0 in
      (record { valid = t.0; paired = t.1; room_ends = t.2; room_values = t.3 }, c.0, c.1)
