use Prim.Native.Nat.{ℕ, ◌+◌}
use mathlib.Core.List.{List, ◌++◌, append_assoc}
use mathlib.Core.Path.{◌≡◌, refl, ap, sym, ◌∙◌}
use native.Mathlib.Numerals.{add-one}
use native.Mathlib.Omega.{arith}
use lib.ListN.{length, take, drop}
use lib.Seq.{paste, paste-suc, take_all, drop-drop}
use Rattle.column.specs.Runs.{over}
use Rattle.many.proofs.inner.put_places.Goals as goal

all-pasted : (d : List ℕ) (at : ℕ) (s : List ℕ) (c : ℕ) → c ≡ length s → paste d at s c ≡ take at d ++ over s (drop at d)
unfolding over
all-pasted d at s c n =
    rw n
    (ap (λ (l : List ℕ). take at d ++ l ++ drop (at + length s) d) (take_all (length s) s (omega arith))
    ∙ append_assoc (take at d) s (drop (at + length s) d)
    ∙ ap (λ (l : List ℕ). take at d ++ (s ++ l)) (sym (drop-drop (length s) at d)))

pub loop-c-preserved : goal.loop-c-preserved
loop-c-preserved c = let d = c.args in rw (c.loop-c.invariant, add-one c.loop-c.c) (paste-suc d.out.now d.at d.places.now c.loop-c.c 0 (omega arith) c.loop-c-test.true)

pub returns : goal.returns
returns c = (refl, c.loop-c.invariant ∙ all-pasted _ _ _ _ (omega arith))
