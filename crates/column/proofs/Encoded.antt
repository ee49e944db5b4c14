-- The merged runs of a list show the list.
-- Assumes nothing.
use Prim.Native.Nat.{ℕ, suc, ◌-◌, ◌<◌}
use mathlib.Core.List.{List, [], ◌∷◌}
use mathlib.Core.Path.{◌≡◌, refl, ap, ◌∙◌}
use native.Mathlib.Omega.{arith}
use lib.IntN.{ℤ}
use lib.ListN.{replicate}
use Rattle.num.specs.Numbers.{eq_z}
use Rattle.column.specs.Runs.{Runs, dense, dense_from, joined, encode, encode_from}
use Rattle.column.proofs.Rising.{Rising, Valid}
use Rattle.num.proofs.Tests.{by-test, eq_z-true}

rising-joined : (p : ℕ) (x : ℤ) (rs : Runs) → Rising (suc p) rs → Rising p (joined p x rs)
unfolding joined
rising-joined p x [] h = (omega arith, tt)
rising-joined p x (r ∷ rs) h = by-test (eq_z x r.value) (λ t. rw t (omega arith, h.1)) (λ t. rw t (omega arith, h))

rising-encode : (p : ℕ) (xs : List ℤ) → Rising p (encode_from p xs)
unfolding encode_from
rising-encode p [] = tt
rising-encode p (x ∷ xs) = rising-joined p x (encode_from (suc p) xs) (rising-encode (suc p) xs)

-- one more of a value
replicate-one-more : (n p : ℕ) (v : ℤ) → p < n → replicate (n - p) v ≡ v ∷ replicate (n - suc p) v
replicate-one-more n p v h = let e : n - p ≡ suc (n - suc p) = omega arith in rw e

dense-joined : (p : ℕ) (x : ℤ) (rs : Runs) → Rising (suc p) rs → dense_from p (joined p x rs) ≡ x ∷ dense_from (suc p) rs
unfolding joined dense_from
dense-joined p x [] h = let e : suc p - p ≡ 1 = omega arith in rw e
dense-joined p x (r ∷ rs) h =
    by-test (eq_z x r.value)
    (λ t. let e = eq_z-true x r.value t in rw (t, replicate-one-more r.end p r.value (omega arith), e))
    (λ t. let e : suc p - p ≡ 1 = omega arith in rw (t, e))

dense-encode-from : (p : ℕ) (xs : List ℤ) → dense_from p (encode_from p xs) ≡ xs
unfolding dense_from encode_from
dense-encode-from p [] = refl
dense-encode-from p (x ∷ xs) =
    dense-joined p x (encode_from (suc p) xs) (rising-encode (suc p) xs) ∙ ap {B = List ℤ} (λ r. x ∷ r) (dense-encode-from (suc p) xs)

pub dense-encode : (xs : List ℤ) → dense (encode xs) ≡ xs
unfolding dense encode
dense-encode xs = dense-encode-from 0 xs

pub valid-encode : (xs : List ℤ) → Valid (encode xs)
unfolding encode
valid-encode xs = rising-encode 0 xs
