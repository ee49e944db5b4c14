-- Answers that are found a block at a time: what is kept before each of them.
-- Assumes nothing.
use Prim.Native.Nat.{ℕ, ◌+◌, ◌*◌, ◌≤◌, ◌<◌, ◌/◌, ◌%◌}
use mathlib.Core.List.{List}
use mathlib.Core.Path.{◌≡◌, ap, ◌∙◌}
use native.Mathlib.Nat.{add-mul, div-add-mod', div-eq_of_lt-le, mod-lt, mul-mod_left, zero-mod}
use native.Mathlib.Omega.{arith}
use lib.ListN.{length}
use Rattle.column.specs.Workers.{KeptBlock}

module _ (size i : ℕ) where
  begins_block : i % size ≡ 0 → i / size * size ≡ i
  begins_block z = let e = div-add-mod' i size in omega (arith, e)

  same_block : 0 < size → ((i + 1) % size ≡ 0 → ⊥) → (i + 1) / size ≡ i / size
  same_block s n =
      let q = i / size in
      let e : q * size + i % size ≡ i = div-add-mod' i size in
      let a : (q + 1) * size ≡ q * size + 1 * size = add-mul q 1 size in
      let l : i % size < size = mod-lt i s in
      let m : i % size + 1 ≡ size → ⊥ = λ t.
      n (ap (λ (x : ℕ). x % size) (let z : i + 1 ≡ (q + 1) * size = omega arith in z) ∙ mul-mod_left (q + 1) size) in
      div-eq_of_lt-le size (let z : q * size ≤ i + 1 = omega arith in z) (let z : i + 1 < (q + 1) * size = omega (arith, m) in z)

module _ {size : ℕ} {Found : ℕ → List ℕ → Type 0} {bs : List ℕ} where
  pub block_start : length bs ≡ size → KeptBlock size Found bs 0
  block_start r = record { room = r; kept = λ n. absurd (n (zero-mod size)) }

  pub block-next : 0 < size → {i : ℕ} → KeptBlock size Found bs i → (i % size ≡ 0 → ⊥) → KeptBlock size Found bs (i + 1)
  block-next s {i} k n = record { room = k.room; kept = λ m. rw (same_block size i s m) (k.kept n) }

  pub block-found : 0 < size → (i : ℕ) → length bs ≡ size → i % size ≡ 0 → Found i bs → KeptBlock size Found bs (i + 1)
  block-found s i l z f = record { room = l; kept = λ m. rw (same_block size i s m, begins_block size i z) f }
