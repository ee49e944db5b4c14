-- What merge_plan's worker wrote, after a "yes" to every question, is what the call promises; and so is what was there, after a "no".
-- Assumes nothing.
use Prim.Native.Nat.{ℕ}
use Rattle.std.specs.Prelude.{Some, None, Result, Ok, IsErrAnd}
use mathlib.Core.List.{List}
use mathlib.Core.Path.{◌≡◌, refl, sym, ap}
use lib.IntN.{ℤ}
use Rattle.column.specs.declared.error.Refusal.{Refusal}
use Rattle.column.specs.Asking.{Question, ◌otherwise◌}
use Rattle.column.specs.Paper.{answers, paper}
use Rattle.column.proofs.Promised.{passed_on}
use Rattle.merge_mask.specs.Calls.{Group}
use Rattle.merge_plan.specs.Calls.{WrittenGroups}
use Rattle.merge_plan.specs.Workers.{Planned}

module _ {q : Question} (gs : List (Group ℤ)) {e : List ℤ} {x : List ℕ} where
  pub groups-written : {e' : List ℤ} {x' : List ℕ} {n : ℕ} → q ≡ None → Planned gs e e' x x' n → WrittenGroups (q otherwise gs) (Ok n) e e' x x'
  groups-written h p = rw h (record { answer = ap answers p.count; ends = p.ends; offsets = p.offsets })

  pub groups-refused : (r : Result ℕ Refusal) (y : Refusal) → IsErrAnd r (λ (z : Refusal). z ≡ y) → Some (paper y) ≡ q
      → WrittenGroups (q otherwise gs) r e e x x
  groups-refused r y h f = rw (sym f, passed_on r y h) (record { answer = refl; ends = refl; offsets = refl })
