-- One step of a walk by cursors: a column by itself, and two columns together.
-- Assumes nothing.
use Prim.Native.Nat.{ℕ, suc, ◌+◌, ◌≤◌, ◌<◌, ◌^◌, min}
use mathlib.Core.Bool.{Bool, true, false}
use Rattle.std.specs.Prelude.{Some}
use mathlib.Core.List.{List, [], ◌∷◌, map}
use mathlib.Core.Path.{◌≡◌, refl, ap, sym, ◌∙◌}
use native.Mathlib.Numerals.{add-one}
use native.Mathlib.Omega.{arith}
use lib.Dec.{ltb}
use lib.IntN.{ℤ, pos}
use lib.ListN.{length, get_or, drop, drop_of_length-le}
use lib.Seq.{drop-cons}
use borrow.Author.Tests.{ltb-true, ltb-false, eq-eqb, ne_eqb}
use Rattle.num.proofs.Tests.{by-test}
use Rattle.column.specs.Runs.{to_nat}
use Rattle.plan.specs.declared.inner.Cursor.{Cursor}
use Rattle.plan.specs.declared.inner.Segments.{Segments}
use Rattle.plan.specs.Calls.{least_end, rests, stepped_on}
use Rattle.plan.specs.Workers.{place_at, places_at, spent, current_end, EndAt, Stands, Standing, stepped_cursor, Walks}

-- ---- a column

module _ (es : List ℤ) (i : ℕ) where
  abbrev pub ahead : List ℕ
  ahead = map to_nat (drop i es)

  -- its current end, and the ends after it
  pub ahead-some : i < length es → ahead ≡ to_nat (get_or es i (pos 0)) ∷ map to_nat (drop (suc i) es)
  ahead-some h = ap (map to_nat) (drop-cons es i (pos 0) h)

  pub ahead_none : length es ≤ i → ahead ≡ []
  ahead_none h = rw (drop_of_length-le es {i = i} h)

  pub place-stays : (m : ℕ) → length es ≤ i → place_at es i ≡ stepped_on m i ahead
  place-stays m h = rw (ahead_none h)

-- as the code reads it
pub end-some : {r : ℕ} {rest : List ℕ} (e : ℕ) {es : List ℕ} → rest ≡ e ∷ es → r ≡ e → e < 2 ^ 63 → EndAt rest r
end-some e h er f = rw (er, h) (record { current = refl; small = λ z. f; some = λ z. omega arith })

module _ {es : List ℤ} {c : Cursor} (s : Stands es c) where
  ahead-run : c.index < length es → ahead es c.index ≡ c.end ∷ ahead es (suc c.index)
  ahead-run h = let a = ahead-some es c.index h in
      let e : c.end ≡ to_nat (get_or es c.index (pos 0)) = s.ends.current ∙ ap current_end a in
      a ∙ rw e

  -- it is spent where its end says so
  unspent-run : c.end < spent → c.index < length es
  unspent-run h =
      by-test (ltb c.index (length es))
      (λ t. ltb-true _ _ t)
      (λ t. let e : c.end ≡ spent = s.ends.current ∙ ap current_end (ahead_none es c.index (ltb-false _ _ t)) in let z : ⊥ = omega arith in absurd z)

  spent-run : spent ≤ c.end → length es ≤ c.index
  spent-run h =
      by-test (ltb c.index (length es))
      (λ t. let z : ⊥ = omega (arith, s.ends.some (rw (ahead-run (ltb-true _ _ t)) (omega arith))) in absurd z)
      (λ t. ltb-false _ _ t)

  module _ (other next : ℕ) (h : min c.end other < spent) (n : EndAt (ahead es (c.index + 1)) next) where
    stays : other < c.end → place_at es c.index ≡ stepped_on (min c.end other) c.index (ahead es c.index)
    stays l =
        by-test (ltb c.index (length es))
        (λ t. rw (ahead-run (ltb-true _ _ t), ne_eqb c.end (min c.end other) (λ e. omega arith)))
        (λ t. place-stays es c.index (min c.end other) (ltb-false _ _ t))

    goes : c.end ≤ other → place_at es (c.index + 1) ≡ stepped_on (min c.end other) c.index (ahead es c.index)
    goes l = rw (ahead-run (unspent-run (omega arith)), eq-eqb c.end (min c.end other) (omega arith), add-one c.index)

    place-steps : Stands es (stepped_cursor c other next)
        × (place_at es (stepped_cursor c other next).index ≡ stepped_on (min c.end other) c.index (ahead es c.index))
    place-steps =
        by-test (ltb other c.end)
        (λ t. rw t (s, stays (ltb-true _ _ t)))
        (λ t. let l = ltb-false other c.end t in rw t (record { within = omega (arith, unspent-run (omega arith)); ends = n }, goes l))

-- ---- two columns

module _ {a b : List ℤ} {c : Segments} (s : Standing a b c) where
  abbrev least : ℕ
  least = min c.a.end c.b.end

  -- the smaller end is where the segment ends
  pub least_fits : least < spent → least < 2 ^ 63
  least_fits h =
      by-test (ltb c.a.end spent)
      (λ t. omega (arith, s.left.ends.small (ltb-true _ _ t)))
      (λ t. let l = ltb-false c.a.end spent t in omega (arith, s.right.ends.small (omega arith)))

  least-ends : least < spent → least_end (rests (places_at a b c)) ≡ Some least
  least-ends h =
      by-test (ltb c.a.end spent)
      (λ t. let ra = ahead-run s.left (unspent-run s.left (ltb-true _ _ t)) in
      by-test (ltb c.b.end spent)
      (λ u. rw (ra, ahead-run s.right (unspent-run s.right (ltb-true _ _ u))))
      (λ u. let l = ltb-false c.b.end spent u in
      let m : c.a.end ≡ least = omega arith in
      rw (ra, ahead_none b c.b.index (spent-run s.right l), ← m)))
      (λ t. let l = ltb-false c.a.end spent t in
      let m : c.b.end ≡ least = omega arith in
      rw (ahead_none a c.a.index (spent-run s.left l), ahead-run s.right (unspent-run s.right (omega arith)), ← m))

  -- what the test for more tells
  module _ {t : Bool} (e : t ≡ ltb least spent) where
    pub more_left : t ≡ true → (least < spent) × (c.a.index + c.b.index < length a + length b)
    more_left h =
        let l = ltb-true least spent (sym e ∙ h) in (
          l,
          by-test (ltb c.a.end spent)
              (λ u. omega (arith, unspent-run s.left (ltb-true _ _ u), s.right.within))
              (λ u. let k = ltb-false c.a.end spent u in omega (arith, unspent-run s.right (omega arith), s.left.within)),
        )

    pub none_more : t ≡ false → length a + length b ≤ c.a.index + c.b.index
    none_more h = let l = ltb-false least spent (sym e ∙ h) in omega (arith, spent-run s.left (omega arith), spent-run s.right (omega arith))

  pub walks : least < spent → {e : ℤ} {c' : Segments} (next-a next-b : ℕ) → EndAt (ahead a (c.a.index + 1)) next-a → EndAt (ahead b (c.b.index + 1)) next-b
      → e ≡ pos least → c' ≡ record { a = stepped_cursor c.a c.b.end next-a; b = stepped_cursor c.b c.a.end next-b } → Walks a b c e c'
  walks h {e} {c'} next-a next-b na nb ee ec =
      let m : min c.b.end c.a.end ≡ least = omega arith in
      let p = place-steps s.left c.b.end next-a h na in
      let q = rw m at (place-steps s.right c.a.end next-b (omega arith) nb) in
      rw (ee, ec) (record {
        steps = record { natural = refl; ends = least-ends h; next = rw (p.1, q.1) };
        standing = record { left = p.0; right = q.0 };
      })
