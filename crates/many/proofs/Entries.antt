-- A column's run by its place: what `ends` and `values` hold there, and where the column stands after a step.
-- Assumes nothing.
use Prim.Native.Nat.{ℕ, suc, ◌+◌, ◌≤◌, ◌<◌, ◌^◌, min}
use mathlib.Core.Bool.{false, cond}
use Rattle.std.specs.Prelude.{Option, Some, None}
use mathlib.Core.List.{List, [], ◌∷◌}
use mathlib.Core.Path.{◌≡◌, refl, ap, sym, ◌∙◌}
use native.Mathlib.Nat.{add-zero}
use native.Mathlib.Numerals.{add-one}
use native.Mathlib.Omega.{arith}
use lib.Dec.{eqb, ltb}
use lib.IntN.{ℤ, pos}
use lib.ListN.{length, get_or}
use borrow.Author.Tests.{ltb-true, ltb-false, lt-ltb, ne_eqb}
use Rattle.num.proofs.Tests.{by-test}
use Rattle.column.specs.Runs.{to_nat}
use Rattle.plan.specs.Calls.{Place, stepped_on, least}
use Rattle.plan.specs.Workers.{place_at, spent, EndAt}
use Rattle.plan.proofs.Segments.{with_others}
use Rattle.plan.proofs.Step.{ahead, ahead-some, ahead_none, place-stays}

-- ---- a step of a column

module _ (m : ℕ) (es : List ℤ) (i : ℕ) where
  -- it goes on where its current end e is m
  pub place_moves : {e n : ℕ} → EndAt (ahead es i) e → m < spent → n ≡ i + cond (eqb e m) 1 0 → place_at es n ≡ stepped_on m i (ahead es i)
  place_moves {e} q h en =
      by-test (ltb i (length es))
      (λ t. let a = ahead-some es i (ltb-true i (length es) t) in
      let c : e ≡ to_nat (get_or es i (pos 0)) = rw a at q.current in
      by-test (eqb (to_nat (get_or es i (pos 0))) m) (λ y. rw (en, c, y, a, y, add-one i)) (λ y. rw (en, c, y, add-zero i, a, y)))
      (λ t. let a = ahead_none es i (ltb-false i (length es) t) in
      let c : e ≡ spent = rw a at q.current in
      let n : eqb e m ≡ false = ne_eqb e m (λ z. let y : ⊥ = omega arith in y) in
      rw (en, n, a, add-zero i, a))

  pub place-within : i ≤ length es → (stepped_on m i (ahead es i)).index ≤ length es
  place-within h =
      by-test (ltb i (length es))
      (λ t. let l = ltb-true i (length es) t in
      by-test (eqb (to_nat (get_or es i (pos 0))) m) (λ y. rw (ahead-some es i l, y) (omega arith)) (λ y. rw (ahead-some es i l, y) h))
      (λ t. rw (ahead_none es i (ltb-false i (length es) t)) h)

  -- where its index goes, there it goes
  pub place-again : place_at es (stepped_on m i (ahead es i)).index ≡ stepped_on m i (ahead es i)
  place-again =
      by-test (ltb i (length es))
      (λ t. let a = ahead-some es i (ltb-true i (length es) t) in
      by-test (eqb (to_nat (get_or es i (pos 0))) m)
      (λ y. let s : stepped_on m i (ahead es i) ≡ place_at es (suc i) = rw (a, y) in ap (λ (p : Place). place_at es p.index) s ∙ sym s)
      (λ y. let s : stepped_on m i (ahead es i) ≡ place_at es i = rw (a, y) in ap (λ (p : Place). place_at es p.index) s ∙ sym s))
      (λ t. let s = place-stays es i m (ltb-false i (length es) t) in ap (λ (p : Place). place_at es p.index) (sym s) ∙ s)

-- ---- the least of the ends, one column after another: an end as it is found, or none, and what the columns after have

abbrev pub earlier : ℕ → Option ℕ → Option ℕ
earlier l o = cond (ltb l (spent)) (Some (least l o)) o

pub earlier-next : (l : ℕ) {e : ℕ} (rest : List ℕ) (o : Option ℕ) → EndAt rest e → l < 2 ^ 64 → earlier l (with_others rest o) ≡ earlier (min l e) o
earlier-next l {e} [] o q h = let n : min l e ≡ l = omega (arith, q.current) in rw n
earlier-next l {e} (d ∷ ds) o q h =
    let c : e ≡ d = q.current in
    let s : d < spent = omega (arith, q.some (omega arith)) in
    rw c
    (by-test (ltb l (spent))
    (λ t. rw (t, lt-ltb (min l d) (spent) (omega (arith, ltb-true l (spent) t))) (both o))
    (λ t. let k : min l d ≡ d = omega (arith, ltb-false l (spent) t) in rw (t, k, lt-ltb d (spent) s)))
  where
    both : (x : Option ℕ) → Some (least l (Some (least d x))) ≡ Some (least (min l d) x)
    both None = refl
    both (Some y) = let n : min l (min d y) ≡ min (min l d) y = omega arith in ap Some n

pub earlier-small : (l : ℕ) {e : ℕ} (rest : List ℕ) → EndAt rest e → (l < spent → l < 2 ^ 63) → min l e < spent → min l e < 2 ^ 63
earlier-small l {e} rest q f h =
    by-test (ltb l e)
    (λ t. omega (arith, f (omega (arith, ltb-true l e t))))
    (λ t. omega (arith, q.small (omega (arith, ltb-false l e t))))
