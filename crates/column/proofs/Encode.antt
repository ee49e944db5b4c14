-- The merged runs of a list: one more stretch of equal values, and what the runs show.
-- Assumes nothing.
use Prim.Native.Nat.{ℕ, zero, suc, ◌+◌, ◌-◌, ◌≤◌, ◌<◌}
use mathlib.Core.Bool.{cond}
use mathlib.Core.List.{List, [], ◌∷◌, ◌++◌, map, map-append, append-nil, append_assoc}
use mathlib.Core.Path.{◌≡◌, refl, ap, sym, ◌∙◌}
use native.Mathlib.Nat.{suc-add, add-suc, zero-add, add-zero}
use native.Mathlib.Numerals.{add-one}
use native.Mathlib.Omega.{arith}
use lib.IntN.{ℤ, pos}
use lib.ListN.{length, take, get_or, replicate, length-append, length-replicate}
use lib.Seq.{length-take-le, take-suc}
use Rattle.num.specs.Numbers.{eq_z}
use Rattle.column.specs.Runs.{Run, Runs, joined, encode_from, encode, ends_of, values_of, dense_from, dense, push_merged}
use Rattle.column.proofs.Rising.{Rising}
use Rattle.column.proofs.Pushed.{place}
use Rattle.num.proofs.Tests.{eq_z-true, eq_z-refl, by-test}
use Rattle.column.specs.Workers.{last_of, push_all}

-- a stretch of equal values is one run
stretch : (p k : ℕ) (v : ℤ) → encode_from p (replicate (suc k) v) ≡ record { end = p + suc k; value = v } ∷ []
unfolding encode_from joined
stretch p zero v = rw add-one
stretch p (suc k) v = rw (stretch (suc p) k v, eq_z-refl v, suc-add, add-suc p (suc k))

-- a value before the runs, and a run after them: the order makes no difference
joined_push : (p : ℕ) (x : ℤ) (rs : Runs) (e : ℕ) (v : ℤ) → joined p x (push_merged rs e v) ≡ push_merged (joined p x rs) e v
unfolding joined push_merged
joined_push p x [] e v = by-test (eq_z x v) (λ t. rw t) (λ t. rw t)
joined_push p x (r ∷ []) e v =
    by-test (eq_z r.value v)
    (λ t. let q : r.value ≡ v = eq_z-true r.value v t in
    by-test (eq_z x r.value) (λ u. simp (t, u, rw q at u)) (λ u. simp (t, u, rw q at u)))
    (λ t. by-test (eq_z x r.value) (λ u. simp (t, u)) (λ u. simp (t, u)))
joined_push p x (r ∷ s ∷ rs) e v = by-test (eq_z x r.value) (λ t. rw t) (λ t. rw t)

push_from : (p : ℕ) (xs : List ℤ) (k : ℕ) (v : ℤ) → encode_from p (xs ++ replicate (suc k) v) ≡ push_merged (encode_from p xs) (p + length xs + suc k) v
unfolding encode_from joined push_merged
push_from p [] k v = stretch p k v ∙ rw add-zero
push_from p (x ∷ xs) k v =
    ap (joined p x) (push_from (suc p) xs k v)
    ∙ joined_push p x (encode_from (suc p) xs) (suc p + length xs + suc k) v
    ∙ ap (λ (e : ℕ). push_merged (joined p x (encode_from (suc p) xs)) e v) (omega arith)

-- one more stretch of equal values is one more run, merged
pub encode_push : (xs : List ℤ) (k : ℕ) (v : ℤ) → encode (xs ++ replicate (suc k) v) ≡ push_merged (encode xs) (length xs + suc k) v
unfolding encode
encode_push xs k v = push_from 0 xs k v ∙ rw zero-add

-- ---- where the run goes

pub push_place : (rs : Runs) (e : ℕ) (v : ℤ) → push_merged rs e v ≡ take (place rs v) rs ++ record { end = e; value = v } ∷ []
unfolding push_merged place
push_place [] e v = refl
push_place (r ∷ []) e v = by-test (eq_z r.value v) (λ t. rw t) (λ t. rw t)
push_place (r ∷ s ∷ rs) e v = ap {B = Runs} (λ l. r ∷ l) (push_place (s ∷ rs) e v)

pub place_le : (rs : Runs) (v : ℤ) → place rs v ≤ length rs
unfolding place
place_le [] v = omega arith
place_le (r ∷ []) v = by-test (eq_z r.value v) (λ t. rw t (omega arith)) (λ t. rw t (omega arith))
place_le (r ∷ s ∷ rs) v = let h = place_le (s ∷ rs) v in omega arith

pub le_place : (rs : Runs) (v : ℤ) → length rs ≤ suc (place rs v)
unfolding place
le_place [] v = omega arith
le_place (r ∷ []) v = by-test (eq_z r.value v) (λ t. rw t (omega arith)) (λ t. rw t (omega arith))
le_place (r ∷ s ∷ rs) v = let h = le_place (s ∷ rs) v in omega arith

-- the place, from the last value and from how many runs there are past the first; before the first run, from its own value
pub place-last : (d : ℤ) (rs : Runs) (v : ℤ) → (length rs ≡ 0 → d ≡ v)
    → place rs v ≡ cond (eq_z (last_of d rs) v) (length rs - 1) (length rs - 1 + 1)
unfolding place last_of
place-last d [] v h = rw (h refl, eq_z-refl v)
place-last d (r ∷ []) v h = by-test (eq_z r.value v) (λ t. rw t) (λ t. rw t)
place-last d (r ∷ s ∷ rs) v h = ap suc (place-last r.value (s ∷ rs) v (λ e. let z : ⊥ = omega arith in absurd z))
    ∙ by-test (eq_z (last_of s.value rs) v) (λ t. rw t (omega arith)) (λ t. rw t (omega arith))

pub length_push : (rs : Runs) (e : ℕ) (v : ℤ) → length (push_merged rs e v) ≡ suc (place rs v)
length_push rs e v = rw (push_place rs e v) (simp (length-append, length-take-le (place rs v) rs (place_le rs v)) (omega arith))

last_snoc : (d : ℤ) (rs : Runs) (r : Run) → last_of d (rs ++ r ∷ []) ≡ r.value
unfolding last_of
last_snoc d [] r = refl
last_snoc d (s ∷ rs) r = last_snoc s.value rs r

pub last_push : (d : ℤ) (rs : Runs) (e : ℕ) (v : ℤ) → last_of d (push_merged rs e v) ≡ v
last_push d rs e v = rw (push_place rs e v) (last_snoc d (take (place rs v) rs) (record { end = e; value = v }))

-- ---- the two flat lists

map-take {ℓ κ} : {A : Type ℓ} {B : Type κ} (f : A → B) (n : ℕ) (l : List A) → map f (take n l) ≡ take n (map f l)
map-take f zero l = refl
map-take f (suc n) [] = refl
map-take f (suc n) (x ∷ l) = ap (λ r. f x ∷ r) (map-take f n l)

pub ends_push : (rs : Runs) (e : ℕ) (v : ℤ) → ends_of (push_merged rs e v) ≡ take (place rs v) (ends_of rs) ++ pos e ∷ []
unfolding ends_of
ends_push rs e v = rw (push_place rs e v) (simp (map-append, map-take))

pub values_push : (rs : Runs) (e : ℕ) (v : ℤ) → values_of (push_merged rs e v) ≡ take (place rs v) (values_of rs) ++ v ∷ []
unfolding values_of
values_push rs e v = rw (push_place rs e v) (simp (map-append, map-take))

joined-pos : (p : ℕ) (x : ℤ) (rs : Runs) → 0 < length (joined p x rs)
unfolding joined
joined-pos p x [] = omega arith
joined-pos p x (r ∷ rs) = by-test (eq_z x r.value) (λ t. rw t (omega arith)) (λ t. rw t (omega arith))

-- values have a run
pub encode-pos : (xs : List ℤ) → 0 < length xs → 0 < length (encode xs)
unfolding encode encode_from joined
encode-pos [] h = let z : ⊥ = omega arith in absurd z
encode-pos (x ∷ xs) h = joined-pos 0 x (encode_from 1 xs)

pub encode-none : (xs : List ℤ) → length (encode xs) ≡ 0 → length xs ≡ 0
encode-none [] e = refl
encode-none (x ∷ xs) e = let h = encode-pos (x ∷ xs) (omega arith) in let z : ⊥ = omega arith in absurd z

joined_le : (p : ℕ) (x : ℤ) (rs : Runs) → length (joined p x rs) ≤ suc (length rs)
unfolding joined
joined_le p x [] = omega arith
joined_le p x (r ∷ rs) = by-test (eq_z x r.value) (λ t. rw t (omega arith)) (λ t. rw t (omega arith))

from_le : (p : ℕ) (xs : List ℤ) → length (encode_from p xs) ≤ length xs
unfolding encode_from joined
from_le p [] = omega arith
from_le p (x ∷ xs) = let h = joined_le p x (encode_from (suc p) xs) in let k = from_le (suc p) xs in omega arith

-- and no more runs than values
pub encode_le : (xs : List ℤ) → length (encode xs) ≤ length xs
unfolding encode
encode_le xs = from_le 0 xs

-- ---- one more value

pub encode-next : (xs : List ℤ) (i : ℕ) → i < length xs → encode (take (i + 1) xs) ≡ push_merged (encode (take i xs)) (i + 1) (get_or xs i (pos 0))
encode-next xs i h =
    ap encode (rw (add-one, take-suc xs i (pos 0)))
    ∙ encode_push (take i xs) 0 (get_or xs i (pos 0))
    ∙ ap (λ (n : ℕ). push_merged (encode (take i xs)) (n + 1) (get_or xs i (pos 0))) (length-take-le i xs (omega arith))

-- the last run has the last value
pub encode-last : (xs : List ℤ) (i : ℕ) → i ≤ length xs → last_of (get_or xs 0 (pos 0)) (encode (take i xs)) ≡ get_or xs (i - 1) (pos 0)
unfolding encode encode_from last_of
encode-last xs zero h = refl
encode-last xs (suc i) h =
    ap (λ (k : ℕ). last_of (get_or xs 0 (pos 0)) (encode (take k xs))) (sym (add-one i))
    ∙ ap (last_of (get_or xs 0 (pos 0))) (encode-next xs i (omega arith))
    ∙ last_push (get_or xs 0 (pos 0)) (encode (take i xs)) (i + 1) (get_or xs i (pos 0))
    ∙ (let n : i ≡ suc i - 1 = omega arith in ap (λ (k : ℕ). get_or xs k (pos 0)) n)

-- more values have no fewer runs
pub encode-more : (xs : List ℤ) (i n : ℕ) → i + n ≤ length xs → length (encode (take i xs)) ≤ length (encode (take (i + n) xs))
encode-more xs i zero h = rw add-zero (omega arith)
encode-more xs i (suc n) h =
    let e : i + suc n ≡ i + n + 1 = omega arith in
    let m = encode-more xs i n (omega arith) in
    let q = ap length (encode-next xs (i + n) (omega arith)) in
    let l = length_push (encode (take (i + n) xs)) (i + n + 1) (get_or xs (i + n) (pos 0)) in
    let p = le_place (encode (take (i + n) xs)) (get_or xs (i + n) (pos 0)) in
    rw e (omega arith)

-- one more stretch, up to e
pub encode_up : (xs : List ℤ) (e : ℕ) (v : ℤ) → length xs < e → encode (xs ++ replicate (e - length xs) v) ≡ push_merged (encode xs) e v
encode_up xs e v h = go (e - length xs) (omega arith)
  where
    go : (n : ℕ) → length xs + n ≡ e → encode (xs ++ replicate n v) ≡ push_merged (encode xs) e v
    go zero m = let z : ⊥ = omega arith in absurd z
    go (suc n) m = encode_push xs n v ∙ ap (λ (k : ℕ). push_merged (encode xs) k v) m

-- one more stretch of a list that is read from the front
pub encode-stretch : (l : List ℤ) (p e : ℕ) (x : ℤ) → p < e → p ≤ length l → take e l ≡ take p l ++ replicate (e - p) x
    → encode (take e l) ≡ push_merged (encode (take p l)) e x
encode-stretch l p e x h k q =
    let n = length-take-le p l k in
    ap encode q ∙ rw n at (encode_up (take p l) e x (rw n h))

-- ---- runs pushed one after another are the merged runs of what they show, after what is shown already

pub push_all-from : (xs : List ℤ) (rs : Runs) → Rising (length xs) rs → push_all (encode xs) rs ≡ encode (xs ++ dense_from (length xs) rs)
unfolding push_all dense_from
push_all-from xs [] h = rw append-nil
push_all-from xs (r ∷ rs) h =
    let stretch' : List ℤ = replicate (r.end - length xs) r.value in
    let n : length (xs ++ stretch') ≡ r.end = simp (length-append, length-replicate) (omega (arith, h.0)) in
    ap (λ (done : Runs). push_all done rs) (sym (encode_up xs r.end r.value h.0))
    ∙ push_all-from (xs ++ stretch') rs (rw n h.1)
    ∙ ap (λ (k : ℕ). encode ((xs ++ stretch') ++ dense_from k rs)) n
    ∙ ap encode (append_assoc xs stretch' (dense_from r.end rs))

-- to merge runs is to encode what they show
pub push_all_lem : (rs : Runs) → Rising 0 rs → push_all [] rs ≡ encode (dense rs)
unfolding encode encode_from dense
push_all_lem rs h = push_all-from [] rs h
