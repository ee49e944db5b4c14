-- A buffer whose first entry is written before the loop that writes the others.
-- Assumes nothing.
use Prim.Native.Nat.{◌<◌}
use mathlib.Core.List.{List, [], ◌∷◌}
use mathlib.Core.Path.{◌≡◌, refl, sym, ap, ◌∙◌}
use native.Mathlib.Omega.{arith}
use lib.ListN.{length, set}
use Rattle.column.specs.Runs.{over}
use Rattle.column.proofs.Buffer.{over-over, over-next}

module _ {A : Type 0} (xs b₀ : List A) {b : List A} where
  -- entries over what they were written into
  pub over-again : b ≡ over xs b₀ → b ≡ over xs b
  over-again e = e ∙ sym (over-over xs xs b₀ (omega arith)) ∙ ap (over xs) (sym e)

  -- what is written over the first entry stands over what was there before
  pub over_first : (x : A) → b ≡ set b₀ 0 x → 0 < length xs → 0 < length b₀ → over xs b ≡ over xs b₀
  unfolding over
  over_first x e some h = ap (over xs) (e ∙ over-next [] b₀ 0 x refl h) ∙ over-over xs (x ∷ []) b₀ (omega arith)
