use mathlib.Core.Path.{◌≡◌, sym, ap, ◌∙◌}
use Prim.Native.Nat.{ℕ, suc, ◌+◌, ◌-◌, ◌*◌, ◌^◌, ◌<◌}
use native.Mathlib.Nat.{add_comm, le_of_eq}
use native.Mathlib.Omega.{arith}
use lib.Count.{count_leading_zeros, leading_top}
use lib.Pow.{shl_exact}
use lib.IntN.{pos}
use lib.Ieee.{binary64, to_bits, of_int}
use lib.Ieee.Nearest.{closest}
use Rattle.float.specs.Float.{converted}
use Rattle.float.proofs.Patterns.{size-bits}
use Rattle.float.proofs.magnitude_bits.Goals as goal

not-zero : (n : ℕ) → (n ≡ 0 → ⊥) → 0 < n
not-zero n h = omega arith

zeros-lt : (n : ℕ) → (n ≡ 0 → ⊥) → n < 2 ^ 64 → count_leading_zeros 64 n < 64
zeros-lt n h k = let t = leading_top 64 n (not-zero n h) k in let e : count_leading_zeros 64 n + suc t.0 ≡ 64 = t.1 in omega arith

written : (c : goal.After-nearest_of-kept)
    → (1085 - count_leading_zeros 64 c.args.n) * 2 ^ 52 + c.nearest_of-kept.result
    ≡ to_bits binary64 (converted (pos c.args.n))
unfolding converted of_int
written c =
    let n = c.args.n in
    let z = count_leading_zeros 64 n in
    let t = leading_top 64 n (not-zero n c.if-n-eq0.false) c.ranges.n.fits in
    ap (λ (q : ℕ). (1085 - z) * 2 ^ 52 + q)
    (c.nearest_of-kept.ensures ∙ ap (λ (m : ℕ). closest m 2048) (shl_exact (suc t.0) z 64 t.3 (le_of_eq (add_comm (suc t.0) z ∙ t.1))))
    ∙ sym (size-bits n z t.0 t.1 t.2 t.3)

pub returns-then-n-eq0 : goal.returns-then-n-eq0
unfolding converted to_bits of_int
returns-then-n-eq0 c = ap (λ (n : ℕ). to_bits binary64 (converted (pos n))) (sym c.if-n-eq0.true)

pub returns : goal.returns
returns c = written c
