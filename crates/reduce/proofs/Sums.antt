-- The sum of a sequence is the wrapped sum of what it shows, and wrapping on the way makes no difference.
-- Assumes nothing.
use Prim.Native.Nat.{ℕ, zero, suc, ◌-◌}
use mathlib.Core.List.{List, [], ◌∷◌, ◌++◌}
use mathlib.Core.Path.{◌≡◌, refl, ap, sym, ◌∙◌}
use native.Mathlib.Omega.{arith}
use lib.IntN.{ℤ, pos, ◌+ℤ◌, ◌*ℤ◌, suc_ℤ-*ℤ, zero-*ℤ, +ℤ_comm, +ℤ_assoc, +ℤ_idl, +ℤ_idr}
use lib.ListN.{replicate}
use Rattle.num.specs.Numbers.{wrap}
use Rattle.num.proofs.Wrap.{wrap-same, wrap-add-left}
use Rattle.column.specs.Runs.{Runs, dense, dense_from}
use Rattle.reduce.specs.Calls.{fold_runs, add_weight, sum_runs}
use Rattle.reduce.specs.Workers.{add_wrapped}

-- the values added, exactly
abbrev pub adds : List ℤ → ℤ
adds [] = pos 0
adds (x ∷ xs) = x +ℤ adds xs

pub adds-append : (xs ys : List ℤ) → adds (xs ++ ys) ≡ adds xs +ℤ adds ys
adds-append [] ys = sym (+ℤ_idl (adds ys))
adds-append (x ∷ xs) ys = rw (adds-append xs ys) (sym (+ℤ_assoc x (adds xs) (adds ys)))

adds-replicate : (n : ℕ) (v : ℤ) → adds (replicate n v) ≡ pos n *ℤ v
adds-replicate zero v = sym (zero-*ℤ v)
adds-replicate (suc n) v = rw (adds-replicate n v) (+ℤ_comm v (pos n *ℤ v) ∙ sym (suc_ℤ-*ℤ (pos n) v))

-- ---- the sum of what the positions show

pub fold_adds : (a : ℤ) (p : ℕ) (rs : Runs) → fold_runs add_weight a p rs ≡ a +ℤ adds (dense_from p rs)
unfolding fold_runs dense_from
fold_adds a p [] = sym (+ℤ_idr a)
fold_adds a p (r ∷ rs) =
    let w = pos (r.end - p) *ℤ r.value in
    let d = adds (dense_from r.end rs) in
    fold_adds (a +ℤ w) r.end rs ∙ +ℤ_assoc a w d
    ∙ ap (λ (z : ℤ). a +ℤ z) (ap (λ (z : ℤ). z +ℤ d) (sym (adds-replicate (r.end - p) r.value))
    ∙ sym (adds-append (replicate (r.end - p) r.value) (dense_from r.end rs)))

pub sum-dense : (rs : Runs) → sum_runs rs ≡ wrap (adds (dense rs))
unfolding sum_runs dense
sum-dense rs = ap wrap (fold_adds (pos 0) 0 rs ∙ +ℤ_idl (adds (dense_from 0 rs)))

-- ---- wrapped at each step

pub wrapped-folds : (a : ℤ) (p : ℕ) (rs : Runs) → fold_runs add_wrapped (wrap a) p rs ≡ wrap (fold_runs add_weight a p rs)
unfolding fold_runs
wrapped-folds a p [] = refl
wrapped-folds a p (r ∷ rs) =
    let w = pos (r.end - p) *ℤ r.value in
    ap (λ (z : ℤ). fold_runs add_wrapped z r.end rs) (wrap-add-left a w) ∙ wrapped-folds (a +ℤ w) r.end rs

wrap-zero : wrap (pos 0) ≡ pos 0
wrap-zero = wrap-same (pos 0) (record { sfits = omega arith })

pub wrapped_fold : (p : ℕ) (rs : Runs) → fold_runs add_wrapped (pos 0) p rs ≡ wrap (fold_runs add_weight (pos 0) p rs)
wrapped_fold p rs = ap (λ (z : ℤ). fold_runs add_wrapped z p rs) (sym wrap-zero) ∙ wrapped-folds (pos 0) p rs
