-- Values position by position, and two columns combined as one pass over what both show.
-- Assumes nothing.
use Rattle.std.specs.Prelude.{Option}
use Prim.Native.Nat.{ℕ, zero, suc, ◌+◌, ◌≤◌, ◌<◌, max}
use mathlib.Core.List.{List, [], ◌∷◌, ◌++◌}
use mathlib.Core.Path.{◌≡◌, refl, ap}
use native.Mathlib.Nat.{zero-add, add-zero, suc-add, add-suc, suc-max-suc, zero-max, max-zero}
use native.Mathlib.Omega.{arith}
use lib.IntN.{ℤ}
use lib.ListN.{length, get_or, replicate}
use Rattle.column.specs.Combine.{two, value_of, value_at, greatest_length, row_at, each_position, table}
use Rattle.column.specs.Runs.{Runs, length_of, dense}
use Rattle.column.proofs.Dense.{length-dense}
use Rattle.column.proofs.Rising.{Valid}

pub each_position_cong : (f g : ℕ → ℤ) (p q n : ℕ) → ((i : ℕ) → i < n → f (p + i) ≡ g (q + i)) → each_position f p n ≡ each_position g q n
unfolding each_position
each_position_cong f g p q zero h = refl
each_position_cong f g p q (suc n) h =
    let e : f p ≡ g q = simp add-zero at (h 0 (omega arith)) in
    let es = each_position_cong f g (suc p) (suc q) n (λ i l. simp (suc-add, ← add-suc) (h (suc i) (omega arith))) in
    cc

pub each_position-add : (f : ℕ → ℤ) (p m n : ℕ) → each_position f p (m + n) ≡ each_position f p m ++ each_position f (p + m) n
unfolding each_position
each_position-add f p zero n = rw (zero-add, add-zero)
each_position-add f p (suc m) n = rw (suc-add, each_position-add f (suc p) m n, suc-add, add-suc)

pub each_position-length : (f : ℕ → ℤ) (p n : ℕ) → length (each_position f p n) ≡ n
unfolding each_position
each_position-length f p zero = refl
each_position-length f p (suc n) = ap suc (each_position-length f (suc p) n)

-- equal values at n positions
pub each_position_const : (f : ℕ → ℤ) (p n : ℕ) (v : ℤ) → ((j : ℕ) → p ≤ j → j < p + n → f j ≡ v) → each_position f p n ≡ replicate n v
unfolding each_position
each_position_const f p zero v h = refl
each_position_const f p (suc n) v h =
    rw (h p (omega arith) (omega arith), each_position_const f (suc p) n v (λ j k l. h j (omega arith) (omega arith)))

-- ---- two columns

-- position by position, x and y standing where a side has ended
unfoldable pub zip_dense : (ℤ → ℤ → ℤ) → ℤ → ℤ → List ℤ → List ℤ → List ℤ
zip_dense op x y [] [] = []
zip_dense op x y [] (b ∷ ys) = op x b ∷ zip_dense op x y [] ys
zip_dense op x y (a ∷ xs) [] = op a y ∷ zip_dense op x y xs []
zip_dense op x y (a ∷ xs) (b ∷ ys) = op a b ∷ zip_dense op x y xs ys

zip-step : (f : ℕ → ℤ) (n : ℕ) (z : ℤ) (zs : List ℤ) → f 0 ≡ z → each_position (λ i. f (suc i)) 0 n ≡ zs → each_position f 0 (suc n) ≡ z ∷ zs
unfolding each_position
zip-step f n z zs h k =
    let s : each_position f 1 n ≡ each_position (λ i. f (suc i)) 0 n = each_position_cong f (λ i. f (suc i)) 1 0 n (λ i l. ap f (omega arith)) in
    rw (h, s, k)

zip-positions : (op : ℤ → ℤ → ℤ) (x y : ℤ) (xs ys : List ℤ)
    → each_position (λ i. op (get_or xs i x) (get_or ys i y)) 0 (max (length xs) (length ys)) ≡ zip_dense op x y xs ys
unfolding each_position zip_dense
zip-positions op x y [] [] = refl
zip-positions op x y [] (b ∷ ys) =
    rw (zero-max (suc (length ys))) (zip-step (λ i. op (get_or [] i x) (get_or (b ∷ ys) i y)) (length ys) (op x b) (zip_dense op x y [] ys) refl
    (rw (zero-max (length ys)) at (zip-positions op x y [] ys)))
zip-positions op x y (a ∷ xs) [] =
    rw (max-zero (suc (length xs))) (zip-step (λ i. op (get_or (a ∷ xs) i x) (get_or [] i y)) (length xs) (op a y) (zip_dense op x y xs []) refl
    (rw (max-zero (length xs)) at (zip-positions op x y xs [])))
zip-positions op x y (a ∷ xs) (b ∷ ys) =
    rw (suc-max-suc (length xs) (length ys))
    (zip-step (λ i. op (get_or (a ∷ xs) i x) (get_or (b ∷ ys) i y)) (max (length xs) (length ys)) (op a b) (zip_dense op x y xs ys)
    refl (zip-positions op x y xs ys))

pub table-two : (op : ℤ → ℤ → ℤ) (fa fb : Option ℤ) (a b : Runs) → Valid a → Valid b
    → table op (two fa fb a b) ≡ zip_dense op (value_of fa) (value_of fb) (dense a) (dense b)
unfolding table greatest_length row_at value_at
table-two op fa fb a b va vb =
    let e : max (length_of a) (max (length_of b) 0) ≡ max (length (dense a)) (length (dense b)) =
    rw (length-dense a va, length-dense b vb, max-zero (length_of b)) in
    rw e (zip-positions op (value_of fa) (value_of fb) (dense a) (dense b))
