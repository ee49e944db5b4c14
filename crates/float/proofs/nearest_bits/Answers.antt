use mathlib.Core.Path.{◌≡◌, sym, ap, ◌∙◌, subst}
use Prim.Native.Nat.{ℕ, suc, ◌+◌, ◌*◌, ◌/◌, ◌^◌}
use native.Mathlib.Omega.{arith}
use lib.IntN.{ℤ, pos, negsuc, nat_abs}
use lib.Ieee.{binary64, to_bits, of_int}
use mir.Syntax.{w64}
use mir.Val.{Fits, SFits}
use mir.Facts.{to_z-of_z}
use Rattle.num.specs.Numbers.{residue}
use Rattle.float.specs.Float.{converted}
use Rattle.float.proofs.Patterns.{sign_bits, bits_fit}
use Rattle.float.proofs.nearest_bits.Goals as goal

signed : (z : ℤ) → SFits w64 z → to_bits binary64 (converted (pos (nat_abs z))) + residue z / 2 ^ 63 * 2 ^ 63 ≡ to_bits binary64 (converted z)
unfolding converted of_int
signed (pos n) f = omega arith
signed (negsuc n) f =
    let top : residue (negsuc n) / 2 ^ 63 * 2 ^ 63 ≡ 2 ^ 63 = omega arith in
    ap (λ (t : ℕ). to_bits binary64 (converted (pos (suc n))) + t) top ∙ sym (sign_bits (suc n) (omega arith))

told : (c : goal.After-as_unsigned)
    → c.magnitude_bits.result + c.as_unsigned.result / 2 ^ 63 * 2 ^ 63 ≡ to_bits binary64 (converted c.args.x)
told c =
    let f = c.ranges.x in
    rw (c.magnitude_bits.ensures, c.unsigned_abs.ensures, c.as_unsigned.ensures, to_z-of_z f) (signed _ f)

pub overflow_add-result : goal.overflow_add-result
overflow_add-result c = subst (Fits w64) (sym (told c)) (bits_fit c.args.x)

pub returns : goal.returns
returns c = told c
