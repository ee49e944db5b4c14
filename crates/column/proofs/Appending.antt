-- A column's runs after the runs that are written, merged: the loop, and what the runs show then.
-- Assumes nothing.
use Prim.Native.Nat.{ℕ, zero, suc, ◌+◌, ◌-◌, ◌≤◌, ◌<◌, ◌^◌}
use mathlib.Core.List.{List, [], ◌∷◌, ◌++◌}
use mathlib.Core.Path.{◌≡◌, refl, ap, sym, ◌∙◌}
use native.Mathlib.Numerals.{add-one}
use native.Mathlib.Omega.{arith}
use lib.IntN.{ℤ, pos}
use lib.ListN.{length, get_or, take, length-map, length-take}
use lib.Seq.{take_all, length-take-le}
use Rattle.column.specs.declared.inner.Writer.{Writer}
use Rattle.column.specs.Runs.{Run, Runs, to_nat, runs_of, last_from, dense_from, encode, push_merged}
use Rattle.column.specs.Workers.{next_place, PushedMerged, Merging, push_all, moved, RisingEnds, Behind, Movable, Appended}
use Rattle.column.proofs.Encode.{place_le, length_push, push_all-from}
use Rattle.column.proofs.Ends.{length_runs}
use Rattle.column.proofs.Merging.{merge_at, merge_more}
use Rattle.column.proofs.Rising.{Rising}

-- ---- one more of the runs that are pushed

-- no runs only where there were none to push, onto none
push_empty : (done rs : Runs) → length (push_all done rs) ≡ 0 → (length done ≡ 0) × (length rs ≡ 0)
unfolding push_all
push_empty done [] h = (h, refl)
push_empty done (r ∷ rs) h =
    let k = push_empty (push_merged done r.end r.value) rs h in
    let z : ⊥ = omega (arith, k.0, length_push done r.end r.value) in
    absurd z

-- no more than those before and those pushed
pub push_few : (done rs : Runs) → length (push_all done rs) ≤ length done + length rs
unfolding push_all
push_few done [] = omega arith
push_few done (r ∷ rs) =
    omega (arith, push_few (push_merged done r.end r.value) rs, length_push done r.end r.value, place_le done r.value)

push_suc : (s o : ℕ) (done : Runs) (es vs : List ℤ) (r : ℕ) → r < length es → length es ≡ length vs
    → push_all done (moved s o (runs_of (take (suc r) es) (take (suc r) vs)))
    ≡ push_merged (push_all done (moved s o (runs_of (take r es) (take r vs)))) (to_nat (get_or es r (pos 0)) - s + o) (get_or vs r (pos 0))
unfolding push_all moved runs_of
push_suc s o done [] vs r h l = let z : ⊥ = omega arith in absurd z
push_suc s o done (e ∷ es) [] r h l = let z : ⊥ = omega arith in absurd z
push_suc s o done (e ∷ es) (v ∷ vs) zero h l = refl
push_suc s o done (e ∷ es) (v ∷ vs) (suc r) h l = push_suc s o (push_merged done (to_nat e - s + o) v) es vs r (omega arith) (omega arith)

-- the runs of flat lists, up to one more entry
push_next : (s o : ℕ) (done : Runs) (es vs : List ℤ) (r : ℕ) → r < length es → length es ≡ length vs
    → push_all done (moved s o (runs_of (take (r + 1) es) (take (r + 1) vs)))
    ≡ push_merged (push_all done (moved s o (runs_of (take r es) (take r vs)))) (to_nat (get_or es r (pos 0)) - s + o) (get_or vs r (pos 0))
push_next s o done es vs r h l = rw (add-one r) (push_suc s o done es vs r h l)

-- ---- an end among rising ones

last_le : (p : ℕ) (es : List ℤ) → RisingEnds p es → p ≤ to_nat (last_from (pos p) es)
last_le p [] h = omega arith
last_le p (e ∷ es) h = omega (arith, h.1, last_le (to_nat e) es h.2, ap (λ (z : ℤ). to_nat (last_from z es)) h.0)

-- it is a natural number above p, and no larger than the last
pub rising_at : (p : ℕ) (es : List ℤ) (r : ℕ) → RisingEnds p es → r < length es
    → (get_or es r (pos 0) ≡ pos (to_nat (get_or es r (pos 0)))) × (p < to_nat (get_or es r (pos 0))) × (to_nat (get_or es r (pos 0)) ≤ to_nat (last_from (pos p) es))
rising_at p [] r h l = let z : ⊥ = omega arith in absurd z
rising_at p (e ∷ es) zero h l = (h.0, h.1, omega (arith, last_le (to_nat e) es h.2, ap (λ (z : ℤ). to_nat (last_from z es)) h.0))
rising_at p (e ∷ es) (suc r) h l =
    let k = rising_at (to_nat e) es r h.2 (omega arith) in
    (k.0, omega (arith, h.1, k.1), omega (arith, k.2, ap (λ (z : ℤ). to_nat (last_from z es)) h.0))

-- ---- the loop: the first r runs are pushed, whatever was written before

module _ (s o : ℕ) (es vs e₁ v₁ : List ℤ) (w₁ : Writer) where
  pub record Appending (e v : List ℤ) (w : Writer) (r : ℕ) : Type 0 where
    pub within : r ≤ length es
    pub pushed : (done : Runs) (first : ℤ) (e₀ v₀ : List ℤ) → Behind done first e₀ v₀ e₁ v₁ w₁ es vs
        → Merging (push_all done (moved s o (runs_of (take r es) (take r vs)))) first e₀ v₀ e v w

  pub append-start : Appending e₁ v₁ w₁ 0
  unfolding push_all moved runs_of
  append-start = record { within = omega arith; pushed = λ done first e₀ v₀ b. b.merging }

  module _ (m : Movable s o es vs) {e v : List ℤ} {w : Writer} {r : ℕ} (a : Appending e v w r) where
    -- the end of the run that comes next, and where it is moved to
    pub append_at : r < length es
        → (get_or es r (pos 0) ≡ pos (to_nat (get_or es r (pos 0)))) × (s ≤ to_nat (get_or es r (pos 0))) × (to_nat (get_or es r (pos 0)) - s + o < 2 ^ 63)
    append_at h = let k = rising_at s es r m.rising h in (k.0, omega (arith, k.1), omega (arith, k.2, m.fitting))

    -- the first r of them
    few : length (moved s o (runs_of (take r es) (take r vs))) ≡ r
    unfolding moved
    few = rw length-map (length_runs (take r es) (take r vs) (simp (length-take, m.paired)) ∙ length-take-le r es a.within)

    abbrev firsts : Runs → Runs
    firsts done = push_all done (moved s o (runs_of (take r es) (take r vs)))

    count-firsts : (done : Runs) → length (firsts done) ≤ length done + r
    count-firsts done = omega (arith, push_few done (moved s o (runs_of (take r es) (take r vs))), few)

    module _ (h : r < length es) {x : ℤ} (ex : x ≡ get_or vs r (pos 0)) where
      module _ {done : Runs} {first : ℤ} {e₀ v₀ : List ℤ} (b : Behind done first e₀ v₀ e₁ v₁ w₁ es vs) where
        next_start : length (firsts done) ≡ 0 → first ≡ x
        next_start n =
            let k = push_empty done (moved s o (runs_of (take r es) (take r vs))) n in
            let z : r ≡ 0 = omega (arith, k.1, few) in
            b.started k.0 (omega arith) ∙ sym (ex ∙ ap (λ (i : ℕ). get_or vs i (pos 0)) z)

        pub append-room : length e₁ < 2 ^ 63 → (w.at + 1 < 2 ^ 64) × (next_place w x < length e) × (next_place w x < length v)
        append-room l =
            let g = a.pushed done first e₀ v₀ b in
            let at = merge_at g x next_start in
            let n = count-firsts done in (
              omega (arith, g.at_last, b.room_ends),
              omega (arith, g.long_ends, b.merging.long_ends, b.room_ends),
              omega (arith, g.long_values, b.merging.long_values, b.room_values),
            )

      pub append-next : {z : ℤ} {e' v' : List ℤ} {next : Writer} → PushedMerged w z x e e' v v' next → z ≡ pos (to_nat (get_or es r (pos 0)) - s + o)
          → Appending e' v' next (r + 1)
      append-next d ez = record {
        within = omega arith;
        pushed = λ done first e₀ v₀ b. let n = count-firsts done in
            merge_more (a.pushed done first e₀ v₀ b) x (next_start b) (to_nat (get_or es r (pos 0)) - s + o) d ez
            (push_next s o done es vs r h m.paired ∙ rw ex) (omega (arith, b.merging.long_ends, b.room_ends))
            (omega (arith, b.merging.long_values, b.room_values));
      }

    pub append-end : length es ≤ r → Appended s o es vs e₁ e v₁ v w₁ w
    append-end h done first e₀ v₀ b =
        rw (take_all r es h, take_all r vs (omega (arith, m.paired))) at (a.pushed done first e₀ v₀ b)

-- ---- what is shown then

pub length_moved : (s o : ℕ) (rs : Runs) → length (moved s o rs) ≡ length rs
unfolding moved
length_moved s o rs = length-map {B = Run} rs (λ r. record { end = r.end - s + o; value = r.value })

module _ (s o : ℕ) where
  dense-from : (p : ℕ) (rs : Runs) → s ≤ p → Rising p rs → dense_from (p - s + o) (moved s o rs) ≡ dense_from p rs
  unfolding dense_from moved
  dense-from p [] l h = refl
  dense-from p (r ∷ rs) l h =
      let n : r.end - s + o - (p - s + o) ≡ r.end - p = omega (arith, h.0) in
      rw (n, dense-from r.end rs (omega (arith, h.0)) h.1)

  rising-from : (p : ℕ) (rs : Runs) → s ≤ p → Rising p rs → Rising (p - s + o) (moved s o rs)
  unfolding moved
  rising-from p [] l h = tt
  rising-from p (r ∷ rs) l h = (omega (arith, h.0), rising-from r.end rs (omega (arith, h.0)) h.1)

  at_offset : s - s + o ≡ o
  at_offset = omega arith

-- what the column shows from `start` on, after what was shown before
pub push_shown : (s : ℕ) (xs : List ℤ) (rs : Runs) → Rising s rs → push_all (encode xs) (moved s (length xs) rs) ≡ encode (xs ++ dense_from s rs)
push_shown s xs rs h =
    let n = length xs in
    push_all-from xs (moved s n rs) (rw (at_offset s n) at (rising-from s n s rs (omega arith) h))
    ∙ ap (λ (l : List ℤ). encode (xs ++ l)) (rw (at_offset s n) at (dense-from s n s rs (omega arith) h))
