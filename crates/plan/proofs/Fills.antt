-- A fill that is missing shows nowhere: where question 10 is answered "yes", columns combined come to the same whatever stands in its place.
-- Assumes nothing.
use Prim.Native.Nat.{ℕ, zero, suc, ◌+◌, ◌<◌}
use mathlib.Core.Bool.{false, ◌&&◌}
use Rattle.std.specs.Prelude.{None, Option, Some, unwrap_or}
use mathlib.Core.List.{List, [], ◌∷◌, map}
use mathlib.Core.Path.{◌≡◌, refl, ap}
use native.Mathlib.Omega.{arith}
use lib.IntN.{ℤ, pos}
use lib.ListN.{length, get_or}
use lib.Dec.{ltb}
use borrow.Author.Tests.{ltb-true, ltb-false, lt-ltb}
use Rattle.num.proofs.Tests.{by-test, both_false}
use Rattle.column.specs.Combine.{Column, value_of, value_at, greatest_length, side_of, all_filled, folded, row_at, table, combined}
use Rattle.column.specs.Questions.{is_missing, longest, lacking, filled}
use Rattle.column.specs.Runs.{length_of, dense, encode}
use Rattle.column.proofs.All.{All}
use Rattle.column.proofs.Dense.{length-dense}
use Rattle.column.proofs.Naturals.{larger_naturals}
use Rattle.column.proofs.Positions.{each_position_cong}
use Rattle.column.proofs.Rising.{Valid}

-- the value of a fill, as the code reads it
pub unwrapped : (f : Option ℤ) → unwrap_or f (pos 0) ≡ value_of f
unwrapped None = refl
unwrapped (Some v) = refl

pub longest-sides : (cs : List Column) → longest (map side_of cs) ≡ pos (greatest_length cs)
unfolding greatest_length
longest-sides [] = refl
longest-sides (c ∷ cs) = rw (longest-sides cs) (larger_naturals (length_of c.runs) (greatest_length cs))

-- the same columns, but for the fills that are missing: any fill may stand there
abbrev pub Refilled : List Column → List Column → Type 0
Refilled [] [] = Unit {0}
Refilled [] (d ∷ ds) = ⊥
Refilled (c ∷ cs) [] = ⊥
Refilled (c ∷ cs) (d ∷ ds) = (d.runs ≡ c.runs) × (is_missing c.fill ≡ false → d.fill ≡ c.fill) × Refilled cs ds

-- in particular any value
abbrev pub or_else : ℤ → Option ℤ → Option ℤ
or_else x None = Some x
or_else x (Some v) = Some v

pub or_else-given : (x : ℤ) (f : Option ℤ) → is_missing f ≡ false → or_else x f ≡ f
or_else-given x None m = absurd (let z : ◌≡◌ {A = ℕ} 0 1 = cc in omega arith)
or_else-given x (Some v) m = refl

abbrev ValidColumn : Column → Type 0
ValidColumn c = Valid c.runs

same-greatest : (cs ds : List Column) → Refilled cs ds → greatest_length ds ≡ greatest_length cs
unfolding greatest_length
same-greatest [] [] r = refl
same-greatest [] (d ∷ ds) r = absurd r
same-greatest (c ∷ cs) [] r = absurd r
same-greatest (c ∷ cs) (d ∷ ds) r = rw (r.0, same-greatest cs ds r.2)

get_or-within : (xs : List ℤ) (i : ℕ) (x y : ℤ) → i < length xs → get_or xs i x ≡ get_or xs i y
get_or-within [] i x y h = absurd (let z : ⊥ = omega arith in z)
get_or-within (v ∷ xs) zero x y h = refl
get_or-within (v ∷ xs) (suc i) x y h = get_or-within xs i x y (omega arith)

-- no column shows a missing fill below n: it is as long, or its fill is there
same-values : (n : ℕ) (cs ds : List Column) → All ValidColumn cs → lacking (pos n) (map side_of cs) ≡ false → Refilled cs ds → (i : ℕ) → i < n
    → map (value_at i) ds ≡ map (value_at i) cs
unfolding value_at
same-values n [] [] v l r i h = refl
same-values n [] (d ∷ ds) v l r i h = absurd r
same-values n (c ∷ cs) [] v l r i h = absurd r
same-values n (c ∷ cs) (d ∷ ds) v l r i h =
    let m = length_of c.runs in
    let (here, rest) = both_false (ltb m n && is_missing c.fill) (lacking (pos n) (map side_of cs)) l in
    let value : get_or (dense d.runs) i (value_of d.fill) ≡ get_or (dense c.runs) i (value_of c.fill) =
    by-test (ltb i m)
    (λ t. rw r.0 (get_or-within (dense c.runs) i (value_of d.fill) (value_of c.fill) (rw (length-dense c.runs v.0) (ltb-true i m t))))
    (λ t. let k = ltb-false i m t in rw (r.0, r.1 (rw (lt-ltb m n (omega arith)) at here))) in
    rw (value, same-values n cs ds v.1 rest r.2 i h)

filled-told : (left right : ℕ) (cs : List Column) → all_filled left right cs ≡ None → lacking (pos (greatest_length cs)) (map side_of cs) ≡ false
unfolding all_filled filled
filled-told left right cs e = by-test (lacking (pos (greatest_length cs)) (map side_of cs))
    (λ t. absurd (let z : ◌≡◌ {A = ℕ} 0 1 = cc (rw (longest-sides cs, t) at e) in omega arith)) (λ t. t)

-- where question 10 is answered "yes", columns combined come to the same whichever fills stand in place of those that are missing
pub missing_shows_nowhere : (op : ℤ → ℤ → ℤ) (left right : ℕ) (cs ds : List Column) → All ValidColumn cs → all_filled left right cs ≡ None → Refilled cs ds
    → combined op ds ≡ combined op cs
unfolding combined table row_at
missing_shows_nowhere op left right cs ds v e r =
    let n = greatest_length cs in
    rw (same-greatest cs ds r)
    (ap encode (each_position_cong (row_at op ds) (row_at op cs) 0 0 n
    (λ i h. ap (folded op) (same-values n cs ds v (filled-told left right cs e) r (0 + i) (omega arith)))))
