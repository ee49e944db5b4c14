-- Valid ends: natural numbers that rise, so that `omega` reads their order, and the runs that they make.
-- Assumes nothing.
use Prim.Native.Nat.{ℕ, zero, suc, ◌<◌}
use Rattle.std.specs.Prelude.{None}
use mathlib.Core.List.{List, [], ◌∷◌}
use mathlib.Core.Path.{◌≡◌, refl, sym, ap, ap₂, ◌∙◌}
use native.Mathlib.Omega.{arith}
use lib.IntN.{ℤ, pos, negsuc}
use lib.Dec.{ltb}
use lib.ListN.{length, get_or}
use borrow.Author.Tests.{ltb-true, lt-ltb}
use Rattle.num.proofs.Tests.{by-test}
use Rattle.column.specs.Asking.{Question, refusal, ◌unless◌}
use Rattle.column.specs.Questions.{ends_from, ends_valid}
use Rattle.column.specs.Runs.{Runs, to_nat, runs_of, ends_of, values_of, last_end, length_of, last_from, length_of_ends}
use Rattle.column.specs.Workers.{RisingEnds}
use Rattle.column.proofs.FirstNo.{first-yes, rest-yes}
use Rattle.column.proofs.Rising.{Rising, Valid}

pub from_check : (p i : ℕ) (es : List ℤ) → ends_from i (pos p) es ≡ None → RisingEnds p es
unfolding ends_from
from_check p i [] h = tt
from_check p i (pos e ∷ es) h =
    by-test (ltb p e)
    (λ t. (
      refl,
      ltb-true p e t,
      from_check e (suc i)
          es (first-yes (ends_from (suc i) (pos e) es) [] (rest-yes (refusal 4 (pos i ∷ []) unless ltb p e) (ends_from (suc i) (pos e) es ∷ []) h)),
    ))
    (λ t. absurd (let z : ◌≡◌ {A = Question} (refusal 4 (pos i ∷ [])) None = rw t at h in let w : ◌≡◌ {A = ℕ} 0 1 = cc in omega arith))
from_check p i (negsuc e ∷ es) h = absurd (let w : ◌≡◌ {A = ℕ} 0 1 = cc in omega arith)

-- what the question about ends tells where it is answered "yes"
pub rising : (es : List ℤ) → ends_valid es ≡ None → RisingEnds 0 es
unfolding ends_valid
rising es h = from_check 0 0 es h

-- and back: ends that rise are answered "yes"
pub rising-yes : (i p : ℕ) (es : List ℤ) → RisingEnds p es → ends_from i (pos p) es ≡ None
unfolding ends_from
rising-yes i p [] r = refl
rising-yes i p (e ∷ es) r = rw (r.0, lt-ltb p (to_nat e) r.1, rising-yes (suc i) (to_nat e) es r.2)

natural-from : (p : ℕ) (es : List ℤ) (i : ℕ) → RisingEnds p es → i < length es → get_or es i (pos 0) ≡ pos (to_nat (get_or es i (pos 0)))
natural-from p [] i r h = let z : ⊥ = omega arith in absurd z
natural-from p (e ∷ es) zero r h = r.0
natural-from p (e ∷ es) (suc i) r h = natural-from (to_nat e) es i r.2 (omega arith)

-- each of them is a natural number
pub natural_end : (es : List ℤ) (i : ℕ) → ends_valid es ≡ None → i < length es → get_or es i (pos 0) ≡ pos (to_nat (get_or es i (pos 0)))
natural_end es i h l = natural-from 0 es i (rising es h) l

-- the ends of runs that rise are valid
ends-yes : (i p : ℕ) (rs : Runs) → Rising p rs → ends_from i (pos p) (ends_of rs) ≡ None
unfolding ends_from ends_of
ends-yes i p [] v = refl
ends-yes i p (r ∷ rs) v = rw (lt-ltb p r.end v.0, ends-yes (suc i) r.end rs v.1)

pub valid-ends : (rs : Runs) → Valid rs → ends_valid (ends_of rs) ≡ None
unfolding ends_valid
valid-ends rs v = ends-yes 0 0 rs v

-- ---- the two flat lists, and the runs that they make

pub ends-runs : (p : ℕ) (es vs : List ℤ) → RisingEnds p es → length es ≡ length vs → ends_of (runs_of es vs) ≡ es
unfolding runs_of ends_of
ends-runs p [] vs r l = refl
ends-runs p (e ∷ es) [] r l = let z : ⊥ = omega arith in absurd z
ends-runs p (e ∷ es) (v ∷ vs) r l = ap₂ (λ (x : ℤ) (xs : List ℤ). x ∷ xs) (sym r.0) (ends-runs (to_nat e) es vs r.2 (omega arith))

pub values-runs : (es vs : List ℤ) → length es ≡ length vs → values_of (runs_of es vs) ≡ vs
unfolding runs_of values_of
values-runs [] [] l = refl
values-runs [] (v ∷ vs) l = let z : ⊥ = omega arith in absurd z
values-runs (e ∷ es) [] l = let z : ⊥ = omega arith in absurd z
values-runs (e ∷ es) (v ∷ vs) l = ap {B = List ℤ} (λ xs. v ∷ xs) (values-runs es vs (omega arith))

pub length_runs : (es vs : List ℤ) → length es ≡ length vs → length (runs_of es vs) ≡ length es
unfolding runs_of
length_runs [] vs l = refl
length_runs (e ∷ es) [] l = let z : ⊥ = omega arith in absurd z
length_runs (e ∷ es) (v ∷ vs) l = ap suc (length_runs es vs (omega arith))

pub runs-rise : (p : ℕ) (es vs : List ℤ) → RisingEnds p es → Rising p (runs_of es vs)
unfolding runs_of
runs-rise p [] vs r = tt
runs-rise p (e ∷ es) [] r = tt
runs-rise p (e ∷ es) (v ∷ vs) r = (r.1, runs-rise (to_nat e) es vs r.2)

-- ---- the length, by the ends and by the runs

length_from : (p : ℕ) (es vs : List ℤ) → RisingEnds p es → length es ≡ length vs → last_from (pos p) es ≡ pos (last_end p (runs_of es vs))
unfolding runs_of
length_from p [] vs r l = refl
length_from p (e ∷ es) [] r l = let z : ⊥ = omega arith in absurd z
length_from p (e ∷ es) (v ∷ vs) r l = ap (λ (q : ℤ). last_from q es) r.0 ∙ length_from (to_nat e) es vs r.2 (omega arith)

pub length_of-ends : (es vs : List ℤ) → ends_valid es ≡ None → length es ≡ length vs → length_of_ends es ≡ pos (length_of (runs_of es vs))
unfolding length_of length_of_ends
length_of-ends es vs h l = length_from 0 es vs (rising es h) l
