-- The two flat lists of a sequence, and its runs.
-- Assumes nothing.
use Prim.Native.Nat.{ℕ, zero, suc, ◌-◌}
use mathlib.Core.List.{List, [], ◌∷◌, ◌++◌, map-append}
use mathlib.Core.Path.{◌≡◌, refl, ap, ◌∙◌, sym}
use native.Mathlib.Omega.{arith}
use lib.IntN.{ℤ, pos}
use lib.ListN.{length, get_or, length-map}
use Rattle.std.specs.Prelude.{Option, unwrap_or, slice_get}
use Rattle.std.proofs.lemmas.Option.{unwrap_or-slice_get}
use Rattle.column.specs.Runs.{Run, Runs, runs_of, ends_of, values_of, last_from, length_of_ends, end_before}

pub length-ends : (rs : Runs) → length (ends_of rs) ≡ length rs
unfolding ends_of
length-ends rs = length-map rs (λ (r : Run). pos r.end)

pub length-values : (rs : Runs) → length (values_of rs) ≡ length rs
unfolding values_of
length-values rs = length-map rs (λ (r : Run). r.value)

pub ends-append : (rs ss : Runs) → ends_of (rs ++ ss) ≡ ends_of rs ++ ends_of ss
unfolding ends_of
ends-append rs ss = simp map-append

pub values-append : (rs ss : Runs) → values_of (rs ++ ss) ≡ values_of rs ++ values_of ss
unfolding values_of
values-append rs ss = simp map-append

-- runs laid flat are those runs
pub runs-flat : (rs : Runs) → runs_of (ends_of rs) (values_of rs) ≡ rs
unfolding runs_of ends_of values_of
runs-flat [] = refl
runs-flat (r ∷ rs) = ap {B = Runs} (λ l. r ∷ l) (runs-flat rs)

-- ---- the length of a sequence: its last end, or 0

pub length_none : (es : List ℤ) → length es ≡ 0 → length_of_ends es ≡ pos 0
unfolding length_of_ends
length_none [] h = refl
length_none (e ∷ es) h = let z : ⊥ = omega arith in absurd z

last-from : (p e : ℤ) (es : List ℤ) → last_from p (e ∷ es) ≡ get_or (e ∷ es) (length es) (pos 0)
last-from p e [] = refl
last-from p e (f ∷ es) = last-from e f es

pub length_last : (es : List ℤ) → (length es ≡ 0 → ⊥) → length_of_ends es ≡ get_or es (length es - 1) (pos 0)
unfolding length_of_ends
length_last [] h = absurd (h refl)
length_last (e ∷ es) h =
    let m : length es ≡ suc (length es) - 1 = omega arith in
    last-from (pos 0) e es ∙ ap (λ (n : ℕ). get_or (e ∷ es) n (pos 0)) m

-- as `last` reads it
pub last_read : (es : List ℤ) {o : Option ℤ} → o ≡ slice_get es (length es - 1) → unwrap_or o (pos 0) ≡ length_of_ends es
unfolding length_of_ends
last_read [] h = rw h
last_read (e ∷ es) h =
    rw h (unwrap_or-slice_get (e ∷ es) (length (e ∷ es) - 1) (pos 0)) ∙ sym (length_last (e ∷ es) (λ z. let f : ⊥ = omega arith in f))

-- ---- the end before an index, 0 before the first

pub before-none : (es : List ℤ) (i : ℕ) → i ≡ 0 → pos 0 ≡ end_before es i
before-none es i e = rw e

pub before-some : (es : List ℤ) (i : ℕ) → (i ≡ 0 → ⊥) → get_or es (i - 1) (pos 0) ≡ end_before es i
before-some es zero h = absurd (h refl)
before-some es (suc i) h = let e : suc i - 1 ≡ i = omega arith in rw e
