-- Entries copied one after another to the front of a buffer.
-- Assumes nothing.
use Prim.Native.Nat.{ℕ, ◌+◌, ◌≤◌, ◌<◌}
use mathlib.Core.List.{List, [], ◌∷◌, ◌++◌}
use mathlib.Core.Path.{◌≡◌, refl, ap, sym, ◌∙◌}
use native.Mathlib.Numerals.{add-one}
use native.Mathlib.Omega.{arith}
use lib.IntN.{ℤ, pos}
use lib.ListN.{length, get_or, take, set, length-set}
use lib.Seq.{take-suc, length-take-le}
use Rattle.column.specs.Runs.{over}
use Rattle.column.proofs.Buffer.{over-next}

-- the first i are copied
pub record Copying (es before now : List ℤ) (i : ℕ) : Type 0 where
  pub within : i ≤ length es
  pub copied : now ≡ over (take i es) before
  pub long : length now ≡ length before

pub copy_start : (es before : List ℤ) → Copying es before before 0
unfolding over
copy_start es before = record { within = omega arith; copied = refl; long = refl }

pub copy_next : {es before now : List ℤ} {i : ℕ} → Copying es before now i → i < length es → length es ≤ length before → {x : ℤ} → x ≡ get_or es i (pos 0)
    → Copying es before (set now i x) (i + 1)
copy_next {es} {before} {now} {i} c h l {x} e =
    let next : take (i + 1) es ≡ take i es ++ x ∷ [] = ap (λ (n : ℕ). take n es) (add-one i) ∙ take-suc es i (pos 0) h
    ∙ ap (λ (y : ℤ). take i es ++ y ∷ []) (sym e) in
    record {
      within = omega arith;
      copied = rw c.copied (over-next (take i es) before i x (sym (length-take-le i es c.within)) (omega arith)
          ∙ ap (λ (ys : List ℤ). over ys before) (sym next));
      long = rw length-set c.long;
    }
