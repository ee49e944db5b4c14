-- Two columns show the same values where no segment of both has values that differ.
-- Assumes nothing.
use Rattle.std.specs.Prelude.{Option}
use mathlib.Core.Bool.{false, not}
use mathlib.Core.List.{List, [], ◌∷◌}
use mathlib.Core.Path.{◌≡◌, refl, ap, sym, ◌∙◌}
use native.Mathlib.Omega.{arith}
use lib.IntN.{ℤ, pos}
use lib.ListN.{length}
use Rattle.num.specs.Numbers.{eq_z, operation}
use Rattle.num.proofs.Tests.{by-test}
use Rattle.column.specs.Combine.{two, value_of}
use Rattle.column.specs.Lists.{any}
use Rattle.column.specs.Runs.{Run, Runs, length_of, dense}
use Rattle.column.proofs.Cover.{any-dense}
use Rattle.column.proofs.Dense.{length-dense}
use Rattle.column.proofs.Positions.{zip_dense, table-two}
use Rattle.column.proofs.Rising.{Valid}
use Rattle.plan.specs.Calls.{segment_runs}
use Rattle.plan.proofs.Raw.{raw_dense, raw_rises}
use Rattle.equals.specs.Calls.{same}

same-zip : (x y : ℤ) (xs ys : List ℤ) → length xs ≡ length ys → same xs ys ≡ not (any (λ z. eq_z z (pos 0)) (zip_dense (operation 7) x y xs ys))
unfolding zip_dense operation
same-zip x y [] [] h = refl
same-zip x y [] (b ∷ ys) h = let z : ⊥ = omega arith in absurd z
same-zip x y (a ∷ xs) [] h = let z : ⊥ = omega arith in absurd z
same-zip x y (a ∷ xs) (b ∷ ys) h = by-test (eq_z a b) (λ t. rw t (same-zip x y xs ys (omega arith))) (λ t. rw t)

same-short : (xs ys : List ℤ) → (length xs ≡ length ys → ⊥) → same xs ys ≡ false
same-short [] [] h = absurd (h refl)
same-short [] (y ∷ ys) h = refl
same-short (x ∷ xs) [] h = refl
same-short (x ∷ xs) (y ∷ ys) h = by-test (eq_z x y) (λ t. rw t (same-short xs ys (λ e. h (omega arith)))) (λ t. rw t)

-- columns of equal lengths, by their segments
pub same-segments : (fa fb : Option ℤ) (a b : Runs) → Valid a → Valid b → length_of a ≡ length_of b
    → same (dense a) (dense b) ≡ not (any (λ (r : Run). eq_z r.value (pos 0)) (segment_runs (operation 7) (two fa fb a b)))
same-segments fa fb a b va vb h =
    let op = operation 7 in
    let cs = two fa fb a b in
    same-zip (value_of fa) (value_of fb) (dense a) (dense b) (length-dense a va ∙ h ∙ sym (length-dense b vb))
    ∙ ap (λ (l : List ℤ). not (any (λ z. eq_z z (pos 0)) l)) (sym (raw_dense op cs (va, (vb, tt)) ∙ table-two op fa fb a b va vb))
    ∙ ap not (any-dense (λ z. eq_z z (pos 0)) (segment_runs op cs) (raw_rises op cs (va, (vb, tt))))

-- columns of other lengths
pub same-lengths : (a b : Runs) → Valid a → Valid b → (length_of a ≡ length_of b → ⊥) → same (dense a) (dense b) ≡ false
same-lengths a b va vb h = same-short (dense a) (dense b) (λ e. h (sym (length-dense a va) ∙ e ∙ length-dense b vb))
