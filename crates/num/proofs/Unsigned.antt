-- The bits of an i64 as an unsigned number, by its sign.
-- Assumes nothing.
use Rattle.std.proofs.Common.{◌≡◌, ℕ, suc, ◌+◌, ◌-◌, ◌^◌, ◌≤◌, true, false, ℤ, pos, negsuc, nat_abs, ap, ◌∙◌, arith, to_z-of_z, w64, SFits, to_z, of_z, ltb-true}
use lib.Signed.{lt_z}
use mir.Facts.{to_z_pos, sfits_lit}
use Rattle.num.specs.Numbers.{residue}
use Rattle.num.proofs.Bits.{told_lt}
use Rattle.num.proofs.Residue.{residue_lt}

-- all bits of a negative number flipped
flipped : (z : ℤ) → SFits w64 z → lt_z z (pos 0) ≡ true → to_z w64 (2 ^ 64 - 1 - of_z w64 z) ≡ pos (2 ^ 64 - 1 - residue z)
flipped (pos n) f e = absurd (let h = ltb-true n 0 e in omega arith)
flipped (negsuc n) f e =
    let h : 2 ^ 64 - 1 - (2 ^ 64 - suc n) ≡ 2 ^ 64 - 1 - residue (negsuc n) = omega arith in
    rw h (to_z_pos w64 (omega arith))

plain : (z : ℤ) → SFits w64 z → lt_z z (pos 0) ≡ false → z ≡ pos (residue z)
plain (pos n) f e = let h : n ≡ residue (pos n) = omega arith in ap pos h
plain (negsuc n) f e = absurd (let x : ◌≡◌ {A = ℕ} 0 1 = cc in omega arith)

above : (z : ℤ) → SFits w64 z → lt_z z (pos 0) ≡ true → 2 ^ 64 - 1 - residue z + 1 ≡ nat_abs z
above (pos n) f e = absurd (let h = ltb-true n 0 e in omega arith)
above (negsuc n) f e = omega (arith, f.sfits)

below : (z : ℤ) → SFits w64 z → nat_abs z ≤ 2 ^ 63
below (pos n) f = omega (arith, f.sfits)
below (negsuc n) f = omega (arith, f.sfits)

module _ {z : ℤ} (f : SFits w64 z) where
  pub negative_flipped : lt_z (to_z w64 (of_z w64 z)) (pos 0) ≡ true → to_z w64 (2 ^ 64 - 1 - of_z w64 z) ≡ pos (2 ^ 64 - 1 - residue z)
  negative_flipped e = flipped z f (told_lt f (sfits_lit tt) e)

  pub flipped-back : lt_z (to_z w64 (of_z w64 z)) (pos 0) ≡ true → 2 ^ 64 - 1 - nat_abs (to_z w64 (2 ^ 64 - 1 - of_z w64 z)) ≡ residue z
  flipped-back e = rw (negative_flipped e) (omega (arith, residue_lt z))

  pub nonnegative_plain : lt_z (to_z w64 (of_z w64 z)) (pos 0) ≡ false → to_z w64 (of_z w64 z) ≡ pos (residue z)
  nonnegative_plain e = to_z-of_z f ∙ plain z f (told_lt f (sfits_lit tt) e)

  -- how far it is from 0
  pub flipped_above : lt_z (to_z w64 (of_z w64 z)) (pos 0) ≡ true → nat_abs (to_z w64 (2 ^ 64 - 1 - of_z w64 z)) + 1 ≡ nat_abs z
  flipped_above e = rw (negative_flipped e) (above z f (told_lt f (sfits_lit tt) e))

  pub plain_abs : lt_z (to_z w64 (of_z w64 z)) (pos 0) ≡ false → nat_abs (to_z w64 (of_z w64 z)) ≡ nat_abs z
  plain_abs e = ap nat_abs (to_z-of_z f)

  pub abs_below : nat_abs z ≤ 2 ^ 63
  abs_below = below z f
