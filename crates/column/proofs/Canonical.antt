-- The merged runs of a list are the only valid merged runs that show it, and what runs show at a position.
-- Assumes nothing.
use Prim.Native.Nat.{ℕ, zero, suc, ◌+◌, ◌-◌, ◌≤◌, ◌<◌}
use mathlib.Core.List.{List, [], ◌∷◌, ◌++◌}
use mathlib.Core.Path.{◌≡◌, refl, ap, sym, ◌∙◌}
use native.Mathlib.Nat.{sub-zero}
use native.Mathlib.Numerals.{add-one}
use native.Mathlib.Omega.{arith}
use lib.IntN.{ℤ}
use lib.ListN.{length, get_or, replicate, length-replicate, get_or-replicate, get_or-append}
use lib.Seq.{get_or-append-add}
use Rattle.num.specs.Numbers.{eq_z}
use Rattle.column.specs.Runs.{Run, Runs, dense_from, dense, joined, encode_from, encode}
use Rattle.column.proofs.Rising.{Rising, Valid}
use Rattle.column.proofs.Pushed.{Differs, Merged, start_at}
use Rattle.num.proofs.Tests.{by-test, eq_z-refl}

-- ---- the merged runs of a list are merged

merged-joined : (p : ℕ) (x : ℤ) (rs : Runs) → Merged rs → Merged (joined p x rs)
unfolding joined
merged-joined p x [] h = (tt, tt)
merged-joined p x (r ∷ rs) h = by-test (eq_z x r.value) (λ t. rw t h) (λ t. rw t (t, h))

merged-from : (p : ℕ) (xs : List ℤ) → Merged (encode_from p xs)
unfolding encode_from joined
merged-from p [] = tt
merged-from p (x ∷ xs) = merged-joined p x (encode_from (suc p) xs) (merged-from (suc p) xs)

pub merged-encode : (xs : List ℤ) → Merged (encode xs)
unfolding encode
merged-encode xs = merged-from 0 xs

-- ---- merged runs are the merged runs of what they show

front : (p k : ℕ) (v : ℤ) (ys : List ℤ) (rs : Runs) → encode_from (p + suc k) ys ≡ rs → Differs v rs
    → encode_from p (replicate (suc k) v ++ ys) ≡ record { end = p + suc k; value = v } ∷ rs
unfolding encode_from joined
front p zero v ys [] e d = let e' = rw add-one at e in rw (e', add-one)
front p zero v ys (r ∷ rs) e d = let e' = rw add-one at e in rw (e', d, add-one)
front p (suc k) v ys rs e d =
    let n : suc p + suc k ≡ p + suc (suc k) = omega arith in
    ap (joined p v) (front (suc p) k v ys rs (rw n e) d) ∙ rw (eq_z-refl v, n)

encode-from : (p : ℕ) (rs : Runs) → Rising p rs → Merged rs → encode_from p (dense_from p rs) ≡ rs
unfolding encode_from joined dense_from
encode-from p [] h m = refl
encode-from p (r ∷ rs) h m = go (r.end - p) (omega (arith, h.0)) h.0 (encode-from r.end rs h.1 m.1)
  where
    ending : ℕ → Run
    ending x = record { end = x; value = r.value }

    go : (n : ℕ) → p + n ≡ r.end → p < r.end → encode_from r.end (dense_from r.end rs) ≡ rs
        → encode_from p (replicate n r.value ++ dense_from r.end rs) ≡ r ∷ rs
    go zero e k ih = let z : ⊥ = omega arith in absurd z
    go (suc n) e k ih =
        front p n r.value (dense_from r.end rs) rs (rw e ih) m.0
        ∙ ap (λ (x : ℕ). ending x ∷ rs) e

pub encode-dense : (rs : Runs) → Rising 0 rs → Merged rs → encode (dense rs) ≡ rs
unfolding dense encode
encode-dense rs h m = encode-from 0 rs h m

-- ---- what it shows where

start_le : (p : ℕ) (rs : Runs) (i : ℕ) → Rising p rs → p ≤ start_at p rs i
unfolding start_at
start_le p rs zero h = omega arith
start_le p [] (suc i) h = omega arith
start_le p (r ∷ rs) (suc i) h = let k = start_le r.end rs i h.1 in omega (arith, h.0)

-- a position that run i covers shows its value
dense_at_from : (p : ℕ) (rs : Runs) (i q : ℕ) (d : ℤ) (z : Run) → Rising p rs → i < length rs → start_at p rs i ≤ q → q < (get_or rs i z).end
    → get_or (dense_from p rs) (q - p) d ≡ (get_or rs i z).value
unfolding dense_from start_at
dense_at_from p [] i q d z h k a b = let n : ⊥ = omega arith in absurd n
dense_at_from p (r ∷ rs) zero q d z h k a b =
    let n : q - p < r.end - p = omega arith in
    get_or-append (replicate (r.end - p) r.value) (dense_from r.end rs) d (q - p) (rw length-replicate n)
    ∙ get_or-replicate (r.end - p) (q - p) r.value d n
dense_at_from p (r ∷ rs) (suc i) q d z h k a b =
    let l = start_le r.end rs i h.1 in
    let n : q - p ≡ length (replicate (r.end - p) r.value) + (q - r.end) = rw length-replicate (omega (arith, h.0)) in
    ap (λ (m : ℕ). get_or (replicate (r.end - p) r.value ++ dense_from r.end rs) m d) n
    ∙ get_or-append-add (replicate (r.end - p) r.value) (dense_from r.end rs) (q - r.end) d
    ∙ dense_at_from r.end rs i q d z h.1 (omega arith) a b

pub dense_at : (rs : Runs) (i q : ℕ) (d : ℤ) (z : Run) → Rising 0 rs → i < length rs → start_at 0 rs i ≤ q → q < (get_or rs i z).end
    → get_or (dense rs) q d ≡ (get_or rs i z).value
unfolding dense
dense_at rs i q d z h k a b = ap (λ (n : ℕ). get_or (dense_from 0 rs) n d) (sym (sub-zero q)) ∙ dense_at_from 0 rs i q d z h k a b

-- two valid merged sequences that show the same are the same, run by run
pub canonical : (rs ss : Runs) → Valid rs → Valid ss → Merged rs → Merged ss → dense rs ≡ dense ss → rs ≡ ss
canonical rs ss v w m n e = sym (encode-dense rs v m) ∙ ap encode e ∙ encode-dense ss w n
