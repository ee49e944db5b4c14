-- What is kept of columns where they stand: the ends and the values of their runs, in buffers.
-- Assumes nothing.
use Prim.Native.Nat.{ℕ, zero, suc, ◌+◌, ◌<◌}
use mathlib.Core.Bool.{cond}
use mathlib.Core.List.{List, ◌∷◌}
use mathlib.Core.Path.{◌≡◌, refl, ap, sym, ◌∙◌}
use native.Mathlib.Nat.{add-zero}
use native.Mathlib.Numerals.{add-one}
use native.Mathlib.Omega.{arith}
use lib.Dec.{eqb}
use lib.IntN.{ℤ, pos}
use lib.ListN.{length, get_or, drop, set, length-set, drop_of_length-le}
use lib.Seq.{drop-cons, get_or-set_same, get_or-set_other, set-get_or}
use borrow.Author.Tests.{eqb-true, eqb-false, eq-eqb, ne_eqb}
use Rattle.num.proofs.Tests.{by-test}
use Rattle.column.specs.Lists.{parts}
use Rattle.column.proofs.Parts.{parts_at, parts-start, parts-cons}
use Rattle.plan.specs.Workers.{EndAt}
use Rattle.plan.proofs.Step.{ahead}
use Rattle.many.specs.Workers.{column_at, ColumnRead, Kept, ColumnStepped}
use Rattle.many.proofs.Places.{values_at}

module _ {os : List ℕ} {es vs : List ℤ} {fill : ℤ} {is xs : List ℕ} {ys : List ℤ} where
  module _ {n : ℕ} (k : Kept os es vs fill is xs ys n) where
    -- column c stands at p now
    kept_put : (c p m : ℕ) {x : ℕ} {y : ℤ} → c < length is → ((d : ℕ) → d < m → (d ≡ c → ⊥) → d < n) → EndAt (ahead (column_at os es c) p) x
        → y ≡ get_or (column_at os vs c) p fill
        → Kept os es vs fill (set is c p) (set xs c x) (set ys c y) m
    kept_put c p m {x} {y} h below ex ey =
        record {
          long_ends = length-set xs c x ∙ k.long_ends ∙ sym (length-set is c p);
          long_values = length-set ys c y ∙ k.long_values ∙ sym (length-set is c p);
          ends = λ d l.
              by-test (eqb d c)
              (λ t. rw (eqb-true d c t, get_or-set_same is c p 0 h, get_or-set_same xs c x 0 (omega (arith, k.long_ends))) ex)
              (λ t. let o = eqb-false d c t in rw (get_or-set_other is c d p 0 o, get_or-set_other xs c d x 0 o) (k.ends d (below d l o)));
          values = λ d l.
              by-test (eqb d c)
              (λ t. rw (eqb-true d c t, get_or-set_same is c p 0 h, get_or-set_same ys c y (pos 0) (omega (arith, k.long_values))) ey)
              (λ t. let o = eqb-false d c t in rw (get_or-set_other is c d p 0 o, get_or-set_other ys c d y (pos 0) o) (k.values d (below d l o)));
        }

    -- one column more is read
    pub kept_more : {xs' : List ℕ} {ys' : List ℤ} {end : ℕ} → n < length is → ColumnRead os es vs fill n (get_or is n 0) xs xs' ys ys' end
        → Kept os es vs fill is xs' ys' (n + 1)
    kept_more h d =
        rw (d.ends, d.values) (rw (set-get_or is n 0) at (kept_put n (get_or is n 0) (n + 1) h (λ d l o. omega (arith, o)) d.found refl))

  -- all values that are kept are what the columns show
  module _ (k : Kept os es vs fill is xs ys (length is)) (offsets : length os ≡ length is + 1) where
    kept_from : (n c : ℕ) → c + n ≡ length is → drop c ys ≡ values_at (drop c is) (parts_at c os vs) fill
    kept_from zero c e = rw (drop_of_length-le ys {i = c} (omega (arith, k.long_values)), drop_of_length-le is {i = c} (omega arith))
    kept_from (suc n) c e =
        rw (drop-cons ys c (pos 0) (omega (arith, k.long_values)), drop-cons is c 0 (omega arith), parts-cons c os vs (omega arith), k.values c (omega arith))
        (ap {B = List ℤ} (λ r. get_or (column_at os vs c) (get_or is c 0) fill ∷ r) (rw (add-one c) (rw (add-one c) at (kept_from n (c + 1) (omega arith)))))

    pub kept-shown : ys ≡ values_at is (parts os vs) fill
    kept-shown = kept_from (length is) 0 (omega arith) ∙ rw (parts-start os vs)

-- ---- a column's step

module _ {os : List ℕ} {es vs : List ℤ} {fill : ℤ} {is xs : List ℕ} {ys : List ℤ} {c start : ℕ}
    (k : Kept os es vs fill is xs ys (length is)) (h : c < length is) where
  pub column-stays : (get_or xs c 0 ≡ start → ⊥) → ColumnStepped os es vs fill c start is is xs xs ys (get_or xs c 0)
  column-stays n = record {
    places = rw (ne_eqb (get_or xs c 0) start n, add-zero (get_or is c 0)) (sym (set-get_or is c 0));
    kept = k;
    found = refl;
  }

  pub column-goes : {xs' : List ℕ} {ys' : List ℤ} {end : ℕ} → get_or xs c 0 ≡ start → ColumnRead os es vs fill c (get_or is c 0 + 1) xs xs' ys ys' end
      → ColumnStepped os es vs fill c start is (set is c (get_or is c 0 + 1)) xs xs' ys' end
  column-goes {end = end} e d = record {
    places = rw (eq-eqb (get_or xs c 0) start e);
    kept = rw (length-set is c (get_or is c 0 + 1), d.ends, d.values) (kept_put k c (get_or is c 0 + 1) (length is) h (λ d l o. l) d.found refl);
    found = rw d.ends (sym (get_or-set_same xs c end 0 (omega (arith, k.long_ends))));
  }

pub stepped-end : {os : List ℕ} {es vs : List ℤ} {fill : ℤ} {c start : ℕ} {is is' xs xs' : List ℕ} {ys' : List ℤ} {end : ℕ}
    → ColumnStepped os es vs fill c start is is' xs xs' ys' end → c < length is
    → EndAt (ahead (column_at os es c) (get_or is c 0 + cond (eqb (get_or xs c 0) start) 1 0)) end
stepped-end {os} {es} {c = c} {start = start} {is = is} {is' = is'} {xs = xs} f h =
    let n = get_or is c 0 + cond (eqb (get_or xs c 0) start) 1 0 in
    let l : c < length is' = rw (f.places, length-set is c n) h in
    let e : get_or is' c 0 ≡ n = rw f.places (get_or-set_same is c n 0 h) in
    rw f.found (rw e at (f.kept.ends c l))
