use Prim.Native.Nat.{ℕ, ◌+◌, ◌-◌, ◌≤◌, ◌<◌}
use mathlib.Core.List.{List, []}
use mathlib.Core.Path.{◌≡◌, refl, sym, ap, ◌∙◌}
use native.Mathlib.Numerals.{add-one}
use native.Mathlib.Omega.{arith}
use lib.IntN.{ℤ, pos}
use lib.ListN.{length, get_or, take, drop, length-drop, drop_of_length-le}
use lib.Seq.{drop-cons, take_all, length-take-le}
use Rattle.column.specs.Runs.{to_nat, runs_of, dense_from, dense, over}
use Rattle.column.proofs.Buffer.{stretched, over-stretch}
use Rattle.column.proofs.Dense.{Stretch, stretch}
use Rattle.column.specs.Workers.{RisingEnds}
use Rattle.dense.proofs.inner.to_dense.Given as goal

-- the first p values are written, p being the end of the last run
module _ (es vs out₀ : List ℤ) where
  pub whole : List ℤ
  whole = dense (runs_of es vs)

  pub record Inv (out : List ℤ) (p r : ℕ) : Type 0 where
    pub rises : RisingEnds p (drop r es)
    pub inside : p ≤ length whole
    pub left : drop p whole ≡ dense_from p (runs_of (drop r es) (drop r vs))
    pub written : out ≡ over (take p whole) out₀

  pub inv-start : RisingEnds 0 es → Inv out₀ 0 0
  unfolding whole dense over
  inv-start r = record { rises = r; inside = omega arith; left = refl; written = refl }

module _ {es vs out₀ out : List ℤ} {p r : ℕ} (n : Inv es vs out₀ out p r) where
  pub inv-end : length es ≤ r → (p ≡ length (dense (runs_of es vs))) × (out ≡ over (dense (runs_of es vs)) out₀)
  unfolding whole runs_of dense_from
  inv-end h =
      let none : drop r es ≡ [] = drop_of_length-le es {i = r} h in
      let empty : drop p (whole es vs out₀) ≡ [] = rw none at n.left in
      let full : length (whole es vs out₀) ≤ p = omega (arith, simp length-drop at (ap length empty)) in
      (omega (arith, n.inside), n.written ∙ ap (λ (l : List ℤ). over l out₀) (take_all p (whole es vs out₀) full))

  module _ (h : r < length es) (same : length es ≡ length vs) where
    -- the run at r, and the stretch that it shows
    pub at-run : (get_or es r (pos 0) ≡ pos (to_nat (get_or es r (pos 0)))) × (p < to_nat (get_or es r (pos 0))) × RisingEnds (to_nat (get_or es r (pos 0))) (drop (r + 1) es)
    at-run = rw add-one (rw (drop-cons es r (pos 0)) at n.rises)

    pub run-stretch : Stretch (whole es vs out₀) p (to_nat (get_or es r (pos 0)) - p) (get_or vs r (pos 0))
        (dense_from (to_nat (get_or es r (pos 0))) (runs_of (drop (r + 1) es) (drop (r + 1) vs)))
    unfolding runs_of dense_from
    run-stretch =
        stretch (whole es vs out₀) p _ _ _ n.inside
        (n.left ∙ rw (add-one, drop-cons es r (pos 0) h, drop-cons vs r (pos 0) (omega arith)))

    -- the run's end is inside the whole
    pub inv-inside : to_nat (get_or es r (pos 0)) ≤ length (dense (runs_of es vs))
    unfolding whole
    inv-inside = omega (arith, run-stretch.inside, at-run.1)

    pub inv-more : {x : ℤ} {e : ℕ} {out' : List ℤ} → e ≡ to_nat (get_or es r (pos 0)) → x ≡ get_or vs r (pos 0) → out' ≡ stretched out p e x
        → Inv es vs out₀ out' e (r + 1)
    inv-more {e} ee ex eo =
        let st = run-stretch in
        let q : p + (to_nat (get_or es r (pos 0)) - p) ≡ to_nat (get_or es r (pos 0)) = omega (arith, at-run.1) in
        rw ee (record {
          rises = at-run.2;
          inside = omega (arith, st.inside);
          left = ap (λ (k : ℕ). drop k (whole es vs out₀)) (sym q) ∙ st.back;
          written = eo ∙ rw (ee, ex, n.written)
              (over-stretch (take p (whole es vs out₀)) out₀ p (to_nat (get_or es r (pos 0))) (get_or vs r (pos 0))
              (sym (length-take-le p (whole es vs out₀) n.inside)) (omega (arith, at-run.1))
              ∙ ap (λ (l : List ℤ). over l out₀) (sym st.front ∙ ap (λ (k : ℕ). take k (whole es vs out₀)) q));
        })

abbrev pub invariant-loop-r : goal.invariant-loop-r
invariant-loop-r l = Inv l.ends l.values l.initial.out l.out l.p l.r
