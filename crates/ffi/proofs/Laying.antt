-- Answers laid flat, and read again.
-- Assumes nothing.
use Rattle.std.specs.Prelude.{Option, Some, None}
use Prim.Native.Nat.{ℕ, ◌<◌, ◌^◌}
use mathlib.Core.Path.{◌≡◌, refl, sym, ap, ap₂, ◌∙◌}
use lib.IntN.{ℤ}
use lib.Signed.{mag}
use mir.Syntax.{w64}
use mir.Val.{to_z, of_z}
use Rattle.num.specs.Numbers.{residue, signed, wrap}
use Rattle.num.proofs.Bits.{back}
use Rattle.num.proofs.Wrap.{wrap-same}
use Rattle.column.specs.declared.error.Error.{Error}
use Rattle.column.specs.declared.error.Refusal.{Refusal}
use Rattle.column.specs.Paper.{number_of}
use Rattle.ffi.specs.declared.RlRefusal.{RlRefusal}
use Rattle.ffi.specs.Reading.{read_error, read_in_key, read_refusal}
use Rattle.ffi.specs.Reading.{bits_at, carried, place_of, fields, laid_refusal}

-- the bits of an i64, as `as_unsigned` tells them, out of which it is read
pub signed-told : (z : ℤ) {u : ℕ} → mag z < 2 ^ 63 → u ≡ residue (to_z w64 (of_z w64 z)) → (u ≡ residue z) × (signed u ≡ z)
unfolding wrap
signed-told z {u} h e = let bits : u ≡ residue z = e ∙ ap residue (back z h) in (bits, ap signed bits ∙ wrap-same z (record { sfits = h }))

in_key-back : (k : Option ℕ) → read_in_key (carried k) (place_of k) ≡ k
in_key-back None = refl
in_key-back (Some p) = refl

abbrev refusal : Error → Option ℕ → Refusal
refusal e k = record { error = e; in_key = k }

-- a refusal whose fields hold the bits of its values, out of which its error is read
module _ {r : Refusal} {x : RlRefusal} {a b c : ℕ} (e : Error) (told : r.error ≡ e)
    (laid : x ≡ fields (number_of e) a b c r.in_key) where
  pub refusal_laid : a ≡ bits_at 0 e → b ≡ bits_at 1 e → c ≡ bits_at 2 e → read_error (number_of e) a b c ≡ e → (read_refusal x ≡ r) × (x ≡ laid_refusal r)
  refusal_laid i j k h = (
    ap read_refusal laid ∙ ap₂ refusal (h ∙ sym told) (in_key-back r.in_key),
    laid ∙ rw (told, i, j, k),
  )
