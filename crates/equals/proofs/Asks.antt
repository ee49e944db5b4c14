-- What the questions of `equals` tell where all are answered "yes": what its worker requires.
-- Assumes nothing.
use Rattle.std.specs.Prelude.{None}
use mathlib.Core.List.{List, [], ◌∷◌}
use mathlib.Core.Path.{◌≡◌}
use lib.IntN.{ℤ}
use lib.ListN.{length}
use Rattle.column.specs.Questions.{paired, ends_valid}
use Rattle.column.specs.Runs.{sequence}
use Rattle.column.proofs.FirstNo.{all_yes}
use Rattle.column.proofs.Told.{agree-told}
use Rattle.equals.specs.Calls.{equals_asked}
use Rattle.equals.specs.Workers.{Comparable}

pub equals-yes : (ae av be bv : List ℤ) → equals_asked (sequence ae av) (sequence be bv) ≡ None → Comparable (sequence ae av) (sequence be bv)
unfolding equals_asked paired
equals-yes ae av be bv h =
    let y = all_yes (paired (sequence ae av) ∷ paired (sequence be bv) ∷ ends_valid ae ∷ ends_valid be ∷ []) h in
    record {
      valid_a = y.1.1.0;
      valid_b = y.1.1.1.0;
      paired_a = agree-told 3 (length ae) (length av) y.0;
      paired_b = agree-told 3 (length be) (length bv) y.1.0;
    }
