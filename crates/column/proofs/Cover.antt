-- What runs show: at a position, by the first run that ends above it, and a test of all their values.
-- Assumes nothing.
use Prim.Native.Nat.{ℕ, zero, suc, ◌+◌, ◌-◌, ◌≤◌, ◌<◌}
use mathlib.Core.Bool.{Bool, cond, ◌||◌}
use mathlib.Core.List.{List, [], ◌∷◌, ◌++◌}
use mathlib.Core.Path.{◌≡◌, refl, ap, ◌∙◌}
use native.Mathlib.Omega.{arith}
use lib.IntN.{ℤ}
use lib.ListN.{length, get_or, replicate, length-replicate, get_or-replicate, get_or-append}
use lib.Seq.{get_or-append-add}
use lib.Dec.{ltb}
use borrow.Author.Tests.{ltb-true, ltb-false}
use Rattle.num.proofs.Tests.{by-test}
use Rattle.column.specs.Lists.{any}
use Rattle.column.specs.Runs.{Run, Runs, last_end, dense_from, dense}
use Rattle.column.proofs.Rising.{Rising}

-- the value of the first run that ends above position i, or d
abbrev pub cover : Runs → ℕ → ℤ → ℤ
cover [] i d = d
cover (r ∷ rs) i d = cond (ltb i r.end) r.value (cover rs i d)

pub cover-dense : (p : ℕ) (rs : Runs) (i : ℕ) (d : ℤ) → Rising p rs → get_or (dense_from p rs) i d ≡ cover rs (p + i) d
unfolding dense_from
cover-dense p [] i d h = refl
cover-dense p (r ∷ rs) i d h =
    let front = replicate (r.end - p) r.value in
    by-test (ltb (p + i) r.end)
    (λ t. let k : i < r.end - p = omega (arith, ltb-true (p + i) r.end t) in
    let l : i < length front = rw length-replicate k in
    rw (t, get_or-append front (dense_from r.end rs) d i l, get_or-replicate (r.end - p) i r.value d k))
    (λ t. let e : i ≡ length front + (i - (r.end - p)) = rw length-replicate (omega (arith, ltb-false (p + i) r.end t)) in
    let f : r.end + (i - (r.end - p)) ≡ p + i = omega (arith, ltb-false (p + i) r.end t) in
    ap (λ j. get_or (front ++ dense_from r.end rs) j d) e
    ∙ get_or-append-add front (dense_from r.end rs) (i - (r.end - p)) d
    ∙ cover-dense r.end rs (i - (r.end - p)) d h.1
    ∙ rw (f, t))

-- one run more after runs
pub last-end : (p : ℕ) (rs : Runs) (r : Run) → last_end p (rs ++ r ∷ []) ≡ r.end
last-end p [] r = refl
last-end p (s ∷ rs) r = last-end s.end rs r

-- the last end is no smaller than where the runs begin
pub last-above : (p : ℕ) (rs : Runs) → Rising p rs → p ≤ last_end p rs
last-above p [] h = omega arith
last-above p (r ∷ rs) h = omega (arith, last-above r.end rs h.1)

-- ---- is there a position that passes? As soon as there is a run that does

any-stretch : (f : ℤ → Bool) (n : ℕ) (v : ℤ) (xs : List ℤ) → 0 < n → any f (replicate n v ++ xs) ≡ f v || any f xs
any-stretch f zero v xs h = let z : ⊥ = omega arith in absurd z
any-stretch f (suc zero) v xs h = refl
any-stretch f (suc (suc n)) v xs h = by-test (f v) (λ t. rw t) (λ t. rw t (rw t at (any-stretch f (suc n) v xs (omega arith))))

any-from : (f : ℤ → Bool) (p : ℕ) (rs : Runs) → Rising p rs → any f (dense_from p rs) ≡ any (λ (r : Run). f r.value) rs
unfolding dense_from
any-from f p [] h = refl
any-from f p (r ∷ rs) h =
    any-stretch f (r.end - p) r.value (dense_from r.end rs) (omega (arith, h.0)) ∙ ap (f r.value ||◌) (any-from f r.end rs h.1)

pub any-dense : (f : ℤ → Bool) (rs : Runs) → Rising 0 rs → any f (dense rs) ≡ any (λ (r : Run). f r.value) rs
unfolding dense
any-dense f rs h = any-from f 0 rs h
