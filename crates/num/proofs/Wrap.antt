-- Numbers modulo 2^64, read as signed: they fit an i64, an i64 stays as it is, and wrapping on the way makes no difference.
-- Assumes nothing.
use Rattle.std.proofs.Common.{◌≡◌, ℕ, ◌+◌, ◌*◌, ◌%◌, ◌^◌, ◌<◌, ltb, ℤ, pos, negsuc, ◌+ℤ◌, ◌-ℤ◌, ◌*ℤ◌, ap, ◌∙◌, arith, to_z-of_z, w64, SFits, to_z, of_z}
use mir.Facts.{of_z-to_z, sfits_to_z}
use Rattle.num.specs.Numbers.{residue, signed, wrap}
use Rattle.num.proofs.Residue.{residue_lt, residue-add, residue-sub, residue-mul}
use Rattle.num.proofs.Tests.{by-test}

-- the i64 that has these bits
pub signed-bits : (u : ℕ) → signed u ≡ to_z w64 u
signed-bits u = by-test (ltb u (2 ^ 63)) (λ t. rw t) (λ t. rw t)

-- the bits of an i64
pub residue-bits : (z : ℤ) → SFits w64 z → residue z ≡ of_z w64 z
residue-bits (pos n) f = omega arith
residue-bits (negsuc n) f = omega arith

pub wrap-bits : (z : ℤ) → wrap z ≡ to_z w64 (residue z)
unfolding wrap
wrap-bits z = signed-bits (residue z)

pub wrap-fits : (z : ℤ) → SFits w64 (wrap z)
wrap-fits z = rw (wrap-bits z) (sfits_to_z (record { fits = residue_lt z }))

pub wrap-same : (z : ℤ) → SFits w64 z → wrap z ≡ z
wrap-same z f = wrap-bits z ∙ ap (to_z w64) (residue-bits z f) ∙ to_z-of_z f

pub residue-wrap : (z : ℤ) → residue (wrap z) ≡ residue z
residue-wrap z = residue-bits (wrap z) (wrap-fits z) ∙ ap (of_z w64) (wrap-bits z) ∙ of_z-to_z {w = w64} {n = residue z} (record { fits = residue_lt z })

-- `wrap` asks only for the residue
wrap-residue : (a b : ℤ) → residue a ≡ residue b → wrap a ≡ wrap b
unfolding wrap
wrap-residue a b e = ap signed e

-- of an operation whose result's residue the arguments' residues give
module _ (op : ℤ → ℤ → ℤ) (of : ℕ → ℕ → ℕ) (law : (a b : ℤ) → residue (op a b) ≡ of (residue a) (residue b) % 2 ^ 64) (a b : ℤ) where
  wrap-both : wrap (op (wrap a) (wrap b)) ≡ wrap (op a b)
  wrap-both = wrap-residue (op (wrap a) (wrap b)) (op a b) (rw (law (wrap a) (wrap b), law a b, residue-wrap a, residue-wrap b))

  wrap_left : wrap (op (wrap a) b) ≡ wrap (op a b)
  wrap_left = wrap-residue (op (wrap a) b) (op a b) (rw (law (wrap a) b, law a b, residue-wrap a))

  wrap-right : wrap (op a (wrap b)) ≡ wrap (op a b)
  wrap-right = wrap-residue (op a (wrap b)) (op a b) (rw (law a (wrap b), law a b, residue-wrap b))

pub wrap-add : (a b : ℤ) → wrap (wrap a +ℤ wrap b) ≡ wrap (a +ℤ b)
wrap-add = wrap-both ◌+ℤ◌ ◌+◌ residue-add

pub wrap-add-left : (a b : ℤ) → wrap (wrap a +ℤ b) ≡ wrap (a +ℤ b)
wrap-add-left = wrap_left ◌+ℤ◌ ◌+◌ residue-add

pub wrap-add-right : (a b : ℤ) → wrap (a +ℤ wrap b) ≡ wrap (a +ℤ b)
wrap-add-right = wrap-right ◌+ℤ◌ ◌+◌ residue-add

from-residue : (z : ℤ) {r : ℤ} {s : ℕ} → r ≡ signed s → s ≡ residue z → to_z w64 (of_z w64 r) ≡ wrap z
unfolding wrap
from-residue z er es = let e : _ ≡ wrap z = er ∙ ap signed es in rw e (to_z-of_z (wrap-fits z))

told-bits : {z : ℤ} {u : ℕ} → SFits w64 z → u ≡ residue (to_z w64 (of_z w64 z)) → u ≡ residue z
told-bits f e = e ∙ ap residue (to_z-of_z f)

-- what the calls of a wrapping operation say: u and v are the bits of x and y, and r has the bits s
module _ {x y r : ℤ} {u v s : ℕ} (f : SFits w64 x) (g : SFits w64 y)
    (eu : u ≡ residue (to_z w64 (of_z w64 x))) (ev : v ≡ residue (to_z w64 (of_z w64 y))) (er : r ≡ signed s) where
  pub told_add : s ≡ (u + v) % 2 ^ 64 → to_z w64 (of_z w64 r) ≡ wrap (x +ℤ y)
  told_add e = from-residue (x +ℤ y) {s = s} er (rw (residue-add x y, ← told-bits f eu, ← told-bits g ev) e)

  pub told-sub : s < 2 ^ 64 → (s + v) % 2 ^ 64 ≡ u → to_z w64 (of_z w64 r) ≡ wrap (x -ℤ y)
  told-sub h e = from-residue (x -ℤ y) er (residue-sub x y h (rw (← told-bits f eu, ← told-bits g ev) e))

  pub told-mul : (h : ℕ) → s < 2 ^ 64 → h * 2 ^ 64 + s ≡ u * v → to_z w64 (of_z w64 r) ≡ wrap (x *ℤ y)
  told-mul h k e =
      let d : s ≡ (u * v) % 2 ^ 64 = omega arith in
      from-residue (x *ℤ y) {s = s} er (rw (residue-mul x y, ← told-bits f eu, ← told-bits g ev) d)
