-- The questions of each call as the code puts them, and what a "yes" to all of them tells.
-- Assumes nothing.
use Prim.Native.Nat.{ℕ, ◌+◌, ◌-◌, ◌≤◌}
use mathlib.Core.Bool.{true}
use Rattle.std.specs.Prelude.{None}
use mathlib.Core.List.{List, [], ◌∷◌}
use mathlib.Core.Path.{◌≡◌, sym, ap, ◌∙◌}
use native.Mathlib.Omega.{arith}
use lib.IntN.{ℤ}
use lib.ListN.{length}
use Rattle.num.proofs.Tests.{by-test}
use Rattle.column.specs.Asking.{Question, first_no}
use Rattle.column.specs.Questions.{mask_listed, start_and_rise, last_offset, offsets_rise, ends_valid, room_at, room, mask_agrees}
use Rattle.column.proofs.FirstNo.{all_yes, last_several}
use Rattle.column.proofs.Told.{agree-told, room-told}
use Rattle.column.proofs.YesNo.{rise-refused, room-each, room-one}
use Rattle.merge_plan.specs.Calls.{merge_plan_asked, group_ids_asked}

module _ (es : List ℤ) (mask : List ℕ) (e x : ℕ) where
  abbrev plan_asked : List Question
  plan_asked = mask_listed mask ∷ mask_agrees mask es ∷ ends_valid es ∷ room_at 0 (length es) e ∷ room_at 1 (length es + 1) x ∷ []

  pub merge_plan-asked : merge_plan_asked es mask (e ∷ x ∷ []) ≡ first_no plan_asked
  unfolding merge_plan_asked
  merge_plan-asked =
      ap (λ (q : Question). first_no (mask_listed mask ∷ mask_agrees mask es ∷ ends_valid es ∷ q ∷ [])) (room-each (length es ∷ (length es + 1) ∷ []) (e ∷ x ∷ []))
      ∙ sym (last_several (mask_listed mask ∷ mask_agrees mask es ∷ ends_valid es ∷ []) (room_at 0 (length es) e ∷ room_at 1 (length es + 1) x ∷ []))

  pub merge_plan-yes : merge_plan_asked es mask (e ∷ x ∷ []) ≡ None → (length mask ≡ length es - 1) × (length es ≤ e) × (length es + 1 ≤ x)
  unfolding mask_agrees
  merge_plan-yes h =
      let y = all_yes plan_asked (sym merge_plan-asked ∙ h) in
      let r = y.1.1.1 in
      (agree-told 6 (length mask) (length es - 1) y.1.0, room-told 0 (length es) e r.0, room-told 1 (length es + 1) x r.1.0)

rise-told : (os : List ℕ) → offsets_rise os ≡ None → start_and_rise os ≡ true
rise-told os h = by-test (start_and_rise os) (λ t. t) (λ t. let r = rise-refused os t in let z : ◌≡◌ {A = ℕ} 0 1 = cc in absurd (omega arith))

module _ (os : List ℕ) (b : ℕ) where
  pub group_ids-room : {q : Question} {n : ℕ} → q ≡ room_at 0 n b → n ≡ last_offset 0 os → q ≡ room (last_offset 0 os ∷ []) (b ∷ [])
  group_ids-room h e = h ∙ ap (λ (k : ℕ). room_at 0 k b) e ∙ sym (room-one (last_offset 0 os) b)

  pub group_ids-yes : group_ids_asked os (b ∷ []) ≡ None → (start_and_rise os ≡ true) × (last_offset 0 os ≤ b)
  unfolding group_ids_asked
  group_ids-yes h =
      let y = all_yes (offsets_rise os ∷ room (last_offset 0 os ∷ []) (b ∷ []) ∷ []) h in
      (rise-told os y.0, room-told 0 (last_offset 0 os) b (sym (room-one (last_offset 0 os) b) ∙ y.1.0))
