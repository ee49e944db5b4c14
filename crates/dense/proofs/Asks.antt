-- The room that `to_dense` asks for, after a "yes" to the sequence.
-- Assumes nothing.
use Prim.Native.Nat.{ℕ}
use Rattle.std.specs.Prelude.{None}
use mathlib.Core.List.{List, [], ◌∷◌}
use mathlib.Core.Path.{◌≡◌, ap, sym, ◌∙◌}
use lib.IntN.{ℤ}
use lib.ListN.{length}
use Rattle.column.specs.Asking.{Question, first_no}
use Rattle.column.specs.Questions.{paired, ends_valid, room_at, room}
use Rattle.column.specs.Runs.{sequence, to_nat, runs_of, length_of, length_of_ends}
use Rattle.column.proofs.Ends.{length_of-ends}
use Rattle.column.proofs.FirstNo.{all_yes}
use Rattle.column.proofs.Told.{agree-told}
use Rattle.column.proofs.YesNo.{room-one}

pub dense-room : (es vs : List ℤ) (g : ℕ) {q : Question} {n : ℕ} {x : ℤ} → first_no (paired (sequence es vs) ∷ ends_valid es ∷ []) ≡ None
    → q ≡ room_at 0 n g → n ≡ to_nat x → x ≡ length_of_ends es → q ≡ room (length_of (runs_of es vs) ∷ []) (g ∷ [])
unfolding paired
dense-room es vs g y h en ex =
    let z = all_yes (paired (sequence es vs) ∷ ends_valid es ∷ []) y in
    let l = length_of-ends es vs z.1.0 (agree-told 3 (length es) (length vs) z.0) in
    h ∙ ap (λ (k : ℕ). room_at 0 k g) (en ∙ ap to_nat (ex ∙ l)) ∙ sym (room-one (length_of (runs_of es vs)) g)
