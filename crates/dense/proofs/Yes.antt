-- What the questions of `to_dense` tell where all are answered "yes": what its worker requires.
-- Assumes nothing.
use Prim.Native.Nat.{◌≤◌}
use Rattle.std.specs.Prelude.{None}
use mathlib.Core.List.{List, [], ◌∷◌}
use mathlib.Core.Path.{◌≡◌, sym, ◌∙◌}
use lib.IntN.{ℤ}
use lib.ListN.{length}
use Rattle.column.specs.Questions.{paired, ends_valid, room}
use Rattle.column.specs.Runs.{sequence, runs_of, length_of, dense}
use Rattle.column.proofs.Dense.{length-dense}
use Rattle.column.proofs.Ends.{rising, runs-rise}
use Rattle.column.proofs.FirstNo.{all_yes}
use Rattle.column.proofs.Told.{agree-told, room-told}
use Rattle.column.proofs.YesNo.{room-one}
use Rattle.dense.specs.Calls.{to_dense_asked}

pub to_dense-yes : (es vs out : List ℤ) → to_dense_asked (sequence es vs) (length out ∷ []) ≡ None
    → (ends_valid es ≡ None) × (length es ≡ length vs) × (length (dense (runs_of es vs)) ≤ length out)
unfolding to_dense_asked paired
to_dense-yes es vs out h =
    let n = length_of (runs_of es vs) in
    let y = all_yes (paired (sequence es vs) ∷ ends_valid es ∷ room (n ∷ []) (length out ∷ []) ∷ []) h in
    let r = room-told 0 n (length out) (sym (room-one n (length out)) ∙ y.1.1.0) in
    (y.1.0, agree-told 3 (length es) (length vs) y.0, rw (length-dense (runs_of es vs) (runs-rise 0 es vs (rising es y.1.0))) r)
