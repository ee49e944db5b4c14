-- Columns combined position by position, and the pieces of a cut.
-- Assumes nothing.
use Prim.Native.Nat.{ℕ, ◌+◌, ◌-◌, ◌≤◌, ◌<◌, ◌^◌, min, max}
use mathlib.Core.Bool.{Bool, true, false, ◌&&◌, ◌||◌}
use mathlib.Core.List.{List, [], ◌∷◌, ◌++◌, map}
use mathlib.Core.Path.{◌≡◌, refl, ap, sym, ◌∙◌}
use native.Mathlib.Nat.{zero-add, sub-zero}
use native.Mathlib.Omega.{arith}
use lib.IntN.{ℤ, pos, negsuc}
use lib.Signed.{le_z, lt_z}
use lib.Dec.{leb, ltb}
use borrow.Author.Tests.{leb-true, le-leb, ltb-true, ltb-false, lt-ltb, le-ltb}
use Rattle.num.specs.Numbers.{eq_z}
use Rattle.num.proofs.Tests.{by-test, eq_z-true, both_true}
use Rattle.column.specs.Combine.{Column, value_of, value_at, greatest_length, each_position, row_at, table, combined}
use Rattle.column.specs.Lists.{any}
use Rattle.column.specs.Questions.{is_missing}
use Rattle.column.specs.Runs.{Runs, to_nat, length_of}
use Rattle.column.proofs.All.{All}
use Rattle.column.proofs.Encoded.{dense-encode}
use Rattle.column.proofs.Positions.{each_position_cong, each_position-add}
use Rattle.column.proofs.Rising.{Valid}
use Rattle.slice.specs.Calls.{slice_runs}
use Rattle.slice.proofs.Sliced.{length-slice, value-slice}
use Rattle.transform.specs.Calls.{shown}
use Rattle.cutting.specs.Cut.{reaches, cut_points, Span, spans_from, spans}
use Rattle.cutting.proofs.Tests.{any_and, any-map, any-any, any_same, any-all, all_map}

-- ---- cut points as numbers

never : true ≡ false → ⊥
never e = let z : ◌≡◌ {A = ℕ} 0 1 = cc in omega arith

rises : (p q : ℤ) → le_z p q ≡ true → to_nat p ≤ to_nat q
rises (pos p) (pos q) t = leb-true p q t
rises (pos p) (negsuc q) t = absurd (never (sym t))
rises (negsuc p) q t = omega arith

i64 : (p : ℤ) → lt_z p (pos (2 ^ 63)) ≡ true → to_nat p < 2 ^ 63
i64 (pos p) t = ltb-true p (2 ^ 63) t
i64 (negsuc p) t = omega arith

-- the last cut point reaches n, and n fits
reached : (n : ℕ) (p : ℤ) → reaches n p [] ≡ true → (n ≤ to_nat p) × (n < 2 ^ 63)
reached n p t =
    let (a, b) = both_true (le_z (pos n) p) (lt_z p (pos (2 ^ 63))) t in
    (rises (pos n) p a, omega (arith, rises (pos n) p a, i64 p b))

reaches-i64 : (n : ℕ) (p : ℤ) (ps : List ℤ) → reaches n p ps ≡ true → n < 2 ^ 63
reaches-i64 n p [] t = (reached n p t).1
reaches-i64 n p (q ∷ ps) t = reaches-i64 n q ps (both_true (le_z p q) (reaches n q ps) t).1

-- the cut points after the first, which is 0: there is one, and so at least one piece
pub after-zero : (n : ℕ) (points : List ℤ) → cut_points n points ≡ true → (q : ℤ) × (ps : List ℤ) × (points ≡ pos 0 ∷ q ∷ ps)
    × (reaches n (pos 0) (q ∷ ps) ≡ true)
after-zero n [] t = absurd (never (sym t))
after-zero n (p ∷ []) t = absurd (never (sym t))
after-zero n (p ∷ q ∷ ps) t =
    let (z, r) = both_true (eq_z p (pos 0)) (reaches n p (q ∷ ps)) t in
    let e = eq_z-true p (pos 0) z in
    (q, ps, rw e, rw e at r)

pub points-i64 : (n : ℕ) (points : List ℤ) → cut_points n points ≡ true → n < 2 ^ 63
points-i64 n points t = let (q, ps, e, r) = after-zero n points t in reaches-i64 n (pos 0) (q ∷ ps) r

-- those that reach n reach what is less
reaches_less : (m n : ℕ) → m ≤ n → (p : ℤ) (ps : List ℤ) → reaches n p ps ≡ true → reaches m p ps ≡ true
reaches_less m n h (pos p) [] t =
    let (a, b) = both_true (leb n p) (ltb p (2 ^ 63)) t in
    rw (le-leb m p (omega (arith, leb-true n p a)), b)
reaches_less m n h (negsuc p) [] t = absurd (never (sym t))
reaches_less m n h p (q ∷ ps) t = let (a, b) = both_true (le_z p q) (reaches n q ps) t in rw (a, reaches_less m n h q ps b)

pub points_less : (m n : ℕ) → m ≤ n → (points : List ℤ) → cut_points n points ≡ true → cut_points m points ≡ true
points_less m n h points t = let (q, ps, e, r) = after-zero n points t in rw (e, reaches_less m n h (pos 0) (q ∷ ps) r)

-- ---- a piece of a column

abbrev pub piece : Span → Runs → Runs
piece z c = slice_runs z.start z.end c

abbrev pub sliced : Span → Column → Column
sliced z c = record { fill = c.fill; runs = piece z c.runs }

-- the span's start, and its length
abbrev from : Span → ℕ
from z = to_nat z.start

abbrev wide : Span → ℕ
wide z = to_nat z.end - to_nat z.start

abbrev pub ValidColumn : Column → Type 0
ValidColumn c = Valid c.runs

-- ---- a piece shows its part of the whole

max-sub : (x y s : ℕ) → max x y - s ≡ max (x - s) (y - s)
max-sub x y s = omega arith

max-min : (w a b : ℕ) → max (min w a) (min w b) ≡ min w (max a b)
max-min w a b = omega arith

greatest-sliced : (z : Span) (cs : List Column) → All ValidColumn cs → greatest_length (map (sliced z) cs) ≡ min (wide z) (greatest_length cs - from z)
unfolding greatest_length
greatest-sliced z [] v = omega arith
greatest-sliced z (c ∷ cs) v =
    rw (length-slice z.start z.end c.runs v.0, greatest-sliced z cs v.1, max-sub)
    (max-min (wide z) (length_of c.runs - from z) (greatest_length cs - from z))

values-sliced : (z : Span) (cs : List Column) → All ValidColumn cs → (i : ℕ) → i < wide z → map (value_at i) (map (sliced z) cs) ≡ map (value_at (from z + i)) cs
unfolding value_at
values-sliced z [] v i h = refl
values-sliced z (c ∷ cs) v i h =
    rw (value-slice z.start z.end c.runs v.0 i (value_of c.fill) h, values-sliced z cs v.1 i h)

-- from p up to n, cut at q
positions-cut : (f : ℕ → ℤ) (n p q : ℕ) → p ≤ q → each_position f p (min (q - p) (n - p)) ++ each_position f q (n - q) ≡ each_position f p (n - p)
positions-cut f n p q h =
    let e : min (q - p) (n - p) + (n - q) ≡ n - p = omega arith in
    sym (ap (each_position f p) (sym e)
    ∙ each_position-add f p (min (q - p) (n - p)) (n - q)
    ∙ ap (each_position f p (min (q - p) (n - p)) ++◌) (each_position_cong f f (p + min (q - p) (n - p)) q (n - q) (λ i k. ap f (omega arith))))

module _ (op : ℤ → ℤ → ℤ) (cs : List Column) (v : All ValidColumn cs) where
  table-sliced : (z : Span) → table op (map (sliced z) cs) ≡ each_position (row_at op cs) (from z) (min (wide z) (greatest_length cs - from z))
  unfolding table row_at
  table-sliced z =
      rw (greatest-sliced z cs v)
      (each_position_cong (row_at op (map (sliced z) cs)) (row_at op cs) 0 (from z) (min (wide z) (greatest_length cs - from z))
      (λ i h. rw (zero-add, values-sliced z cs v i (omega arith))))

  -- the pieces from a cut point on
  shown-pieces : (p : ℤ) (ps : List ℤ) → reaches (greatest_length cs) p ps ≡ true
      → shown (map (λ z. combined op (map (sliced z) cs)) (spans_from p ps)) ≡ each_position (row_at op cs) (to_nat p) (greatest_length cs - to_nat p)
  unfolding shown each_position combined
  shown-pieces p [] t = let e : greatest_length cs - to_nat p ≡ 0 = omega (arith, (reached (greatest_length cs) p t).0) in rw e
  shown-pieces p (q ∷ ps) t =
      let (h, r) = both_true (le_z p q) (reaches (greatest_length cs) q ps) t in
      rw (dense-encode, table-sliced (record { start = p; end = q }), shown-pieces q ps r)
      (positions-cut (row_at op cs) (greatest_length cs) (to_nat p) (to_nat q) (rises p q h))

  -- all pieces, one after the other
  pub shown-all : (points : List ℤ) → cut_points (greatest_length cs) points ≡ true
      → shown (map (λ z. combined op (map (sliced z) cs)) (spans points)) ≡ table op cs
  unfolding table combined
  shown-all points t =
      let (q, ps, e, r) = after-zero (greatest_length cs) points t in
      rw (e, shown-pieces (pos 0) (q ∷ ps) r, sub-zero)

-- ---- some piece lacks a fill exactly when the whole does

-- is a column shorter than n that lacks its fill
abbrev pub lacking_at : ℕ → Column → Bool
lacking_at n c = ltb (length_of c.runs) n && is_missing c.fill

abbrev pub lacks : List Column → Bool
lacks cs = any (lacking_at (greatest_length cs)) cs

not-before : (w a b : ℕ) → a < b → min w b ≤ min w a → w ≤ a
not-before w a b h k = omega arith

then_after : (m n p q : ℕ) → p ≤ q → m - p < n - p → q - p ≤ m - p → m - q < n - q
then_after m n p q h l k = omega arith

-- from p on, for a column of length m: cut at q
short-step : (m n p q : ℕ) → p ≤ q → ltb (min (q - p) (m - p)) (min (q - p) (n - p)) || ltb (m - q) (n - q) ≡ ltb (m - p) (n - p)
short-step m n p q h =
    by-test (ltb (m - p) (n - p))
    (λ t. let l = ltb-true (m - p) (n - p) t in
    by-test (ltb (min (q - p) (m - p)) (min (q - p) (n - p)))
    (λ u. rw (t, u))
    (λ u. let k = ltb-false (min (q - p) (m - p)) (min (q - p) (n - p))
    u in rw (t, u, lt-ltb (m - q) (n - q) (then_after m n p q h l (not-before (q - p) (m - p) (n - p) l k)))))
    (λ t. let l = ltb-false (m - p) (n - p) t in
    rw (t, le-ltb (min (q - p) (m - p)) (min (q - p) (n - p)) (omega arith), le-ltb (m - q) (n - q) (omega arith)))

short-pieces : (n : ℕ) (c : Runs) → Valid c → (p : ℤ) (ps : List ℤ) → reaches n p ps ≡ true
    → any (λ z. ltb (length_of (piece z c)) (min (wide z) (n - from z))) (spans_from p ps) ≡ ltb (length_of c - to_nat p) (n - to_nat p)
short-pieces n c v p [] t = sym (le-ltb (length_of c - to_nat p) (n - to_nat p) (omega (arith, (reached n p t).0)))
short-pieces n c v p (q ∷ ps) t =
    let (h, r) = both_true (le_z p q) (reaches n q ps) t in
    rw (length-slice p q c v, short-pieces n c v q ps r) (short-step (length_of c) n (to_nat p) (to_nat q) (rises p q h))

short-whole : (n : ℕ) (c : Runs) → Valid c → (points : List ℤ) → cut_points n points ≡ true
    → any (λ z. ltb (length_of (piece z c)) (min (wide z) (n - from z))) (spans points) ≡ ltb (length_of c) n
short-whole n c v points t = let (q, ps, e, r) = after-zero n points t in rw (e, short-pieces n c v (pos 0) (q ∷ ps) r, sub-zero (length_of c), sub-zero n)

module _ (n : ℕ) (points : List ℤ) (t : cut_points n points ≡ true) where
  lacking-column : (c : Column) → ValidColumn c → any (λ z. lacking_at (min (wide z) (n - from z)) (sliced z c)) (spans points) ≡ lacking_at n c
  lacking-column c w =
      any_and (λ z. ltb (length_of (piece z c.runs)) (min (wide z) (n - from z))) (is_missing c.fill) (spans points)
      ∙ ap (◌&& is_missing c.fill) (short-whole n c.runs w points t)

  lacking-pieces : (cs : List Column) → All ValidColumn cs → any (λ z. any (lacking_at (min (wide z) (n - from z))) (map (sliced z) cs))
      (spans points) ≡ any (lacking_at n) cs
  lacking-pieces cs v =
      any_same (λ z. any (lacking_at (min (wide z) (n - from z))) (map (sliced z) cs)) (λ z. any (λ c. lacking_at (min (wide z) (n - from z)) (sliced z c)) cs)
      (spans points)
      (λ z. any-map (lacking_at (min (wide z) (n - from z))) (sliced z) cs)
      ∙ any-any (λ z c. lacking_at (min (wide z) (n - from z)) (sliced z c)) (spans points) cs
      ∙ any-all (λ c. any (λ z. lacking_at (min (wide z) (n - from z)) (sliced z c)) (spans points)) (lacking_at n) cs (all_map lacking-column cs v)

pub lacking-some : (cs : List Column) → All ValidColumn cs → (points : List ℤ) → cut_points (greatest_length cs) points ≡ true
    → any (λ z. lacks (map (sliced z) cs)) (spans points) ≡ lacks cs
lacking-some cs v points t =
    any_same (λ z. lacks (map (sliced z) cs)) (λ z. any (lacking_at (min (wide z) (greatest_length cs - from z))) (map (sliced z) cs)) (spans points)
    (λ z. rw (greatest-sliced z cs v))
    ∙ lacking-pieces (greatest_length cs) points t cs v
