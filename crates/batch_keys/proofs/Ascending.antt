-- Keys each of which is above the one before it, and the search by halving in them.
-- Assumes nothing.
use Prim.Native.Nat.{ℕ, zero, suc, ◌+◌, ◌-◌, ◌≤◌, ◌<◌, ◌/◌}
use mathlib.Core.Bool.{Bool, true, false, ◌&&◌, cond}
use mathlib.Core.List.{List, [], ◌∷◌}
use mathlib.Core.Path.{◌≡◌, refl, sym, ◌∙◌}
use native.Mathlib.Omega.{arith}
use lib.Dec.{eqb, ltb}
use lib.ListN.{length, get_or, drop, length-drop}
use lib.Seq.{drop-cons}
use borrow.Author.Tests.{ltb-true, ltb-false, lt-ltb}
use Rattle.num.proofs.Tests.{by-test, both_true}
use Rattle.batch_index.specs.Calls.{lowest}
use Rattle.batch_index.proofs.Lowest.{lowest_is}
use Rattle.batch_keys.specs.Workers.{ascends, ascends_from}
use Rattle.batch_keys.proofs.Standing.{stands, stands-not, Apart}

above-first : (k : ℕ) (ks : List ℕ) (j : ℕ) → ascends_from k ks ≡ true → j < length ks → k < get_or ks j 0
above-first k [] j t h = let z : ⊥ = omega arith in absurd z
above-first k (l ∷ ks) zero t h = ltb-true k l (both_true (ltb k l) (ascends_from l ks) t).0
above-first k (l ∷ ks) (suc j) t h = let b = both_true (ltb k l) (ascends_from l ks) t in
    omega (arith, ltb-true k l b.0, above-first l ks j b.1 (omega arith))

rest-ascends : (k : ℕ) (ks : List ℕ) → ascends_from k ks ≡ true → ascends ks ≡ true
rest-ascends k [] t = refl
rest-ascends k (l ∷ ks) t = (both_true (ltb k l) (ascends_from l ks) t).1

ascends_at : (ks : List ℕ) (i j : ℕ) → ascends ks ≡ true → i < j → j < length ks → get_or ks i 0 < get_or ks j 0
ascends_at [] i j t h k = let z : ⊥ = omega arith in absurd z
ascends_at (k ∷ ks) i zero t h l = let z : ⊥ = omega arith in absurd z
ascends_at (k ∷ ks) zero (suc j) t h l = above-first k ks j t (omega arith)
ascends_at (k ∷ ks) (suc i) (suc j) t h l = ascends_at ks i j (rest-ascends k ks t) (omega arith) (omega arith)

pub ascends_apart : (ks : List ℕ) → ascends ks ≡ true → Apart ks
ascends_apart ks t i j h k e = omega (arith, ascends_at ks i j t h k)

-- ---- the keys one after another: i is the next

short-ascends : (ks : List ℕ) → length ks ≤ 1 → ascends ks ≡ true
short-ascends [] h = refl
short-ascends (k ∷ []) h = refl
short-ascends (k ∷ l ∷ ks) h = let z : ⊥ = omega arith in absurd z

two : (ks : List ℕ) (i : ℕ) → suc i < length ks → ascends (drop i ks) ≡ ascends_from (get_or ks i 0) (get_or ks (suc i) 0 ∷ drop (suc (suc i)) ks)
two ks i h = rw (drop-cons ks i 0 (omega arith), drop-cons ks (suc i) 0 h)

pub record Risen (ks : List ℕ) (i : ℕ) : Type 0 where
  pub past : 0 < i
  pub rest : ascends ks ≡ ascends (drop (i - 1) ks)

module _ (ks : List ℕ) where
  pub risen_next : (i : ℕ) → Risen ks i → i < length ks → get_or ks (i - 1) 0 < get_or ks i 0 → Risen ks (i + 1)
  risen_next zero s h k = let z : ⊥ = omega (arith, s.past) in absurd z
  risen_next (suc i) s h k =
      let d : suc i - 1 ≡ i = omega arith in
      let e : suc i + 1 - 1 ≡ suc i = omega arith in
      record {
        past = omega arith;
        rest = s.rest ∙ rw (d, e) (two ks i h ∙ rw (lt-ltb (get_or ks i 0) (get_or ks (suc i) 0) (rw d at k), drop-cons ks (suc i) 0 h));
      }

  pub risen_end : (i : ℕ) → Risen ks i → length ks ≤ i → true ≡ ascends ks
  risen_end i s h = sym (s.rest ∙ short-ascends (drop (i - 1) ks) (omega (arith, length-drop (i - 1) ks)))

-- ---- the search by halving: the keys before `low` are below the key, and those from `low + size` on are not

pub record Halved (key : ℕ) (ks : List ℕ) (low size : ℕ) : Type 0 where
  pub inside : low + size ≤ length ks
  pub below : (j : ℕ) → j < low → get_or ks j 0 < key
  pub above : (j : ℕ) → low + size ≤ j → j < length ks → key ≤ get_or ks j 0

module _ (key : ℕ) (ks : List ℕ) (t : ascends ks ≡ true) where
  ascends_le : (i j : ℕ) → i ≤ j → j < length ks → get_or ks i 0 ≤ get_or ks j 0
  ascends_le i j h k = by-test (ltb i j) (λ s. omega (arith, ascends_at ks i j t (ltb-true i j s) k))
      (λ s. let e : i ≡ j = omega (arith, ltb-false i j s) in rw e (omega arith))

  module _ {low size : ℕ} (s : Halved key ks low size) where
    pub halved-inside : 0 < size → low + (size - size / 2) - 1 < length ks
    halved-inside h = omega (arith, s.inside)

    pub halved-next : {next : ℕ} → 0 < size → next ≡ cond (ltb (get_or ks (low + (size - size / 2) - 1) 0) key) (low + (size - size / 2)) low
        → Halved key ks next (size / 2)
    halved-next h e =
        let i = halved-inside h in
        let m = low + (size - size / 2) - 1 in
        rw e (by-test (ltb (get_or ks m 0) key)
        (λ b. rw b (record {
          inside = omega (arith, s.inside);
          below = λ j k. omega (arith, ltb-true (get_or ks m 0) key b, ascends_le j m (omega arith) i);
          above = λ j k l. s.above j (omega arith) l;
        }))
        (λ b. rw b (record {
          inside = omega (arith, s.inside);
          below = s.below;
          above = λ j k l. omega (arith, ltb-false (get_or ks m 0) key b, ascends_le m j (omega arith) l);
        })))

    module _ {r : Bool} (z : size ≤ 0) (e : r ≡ ltb low (length ks) && eqb (get_or ks low 0) key) where
      pub halved-found : r ≡ true → low ≡ lowest key ks
      halved-found f = lowest_is key ks low (omega (arith, s.inside)) (λ j h k. omega (arith, s.below j h)) (λ h. (stands ks low key e f).1)

      pub halved_none : r ≡ false → length ks ≡ lowest key ks
      halved_none f =
          lowest_is key ks (length ks) (omega arith)
          (λ j h k. by-test (ltb j low)
          (λ l. omega (arith, s.below j (ltb-true j low l)))
          (λ l. by-test (ltb low j)
          (λ m. omega (arith, s.above low (omega arith) (omega (arith, ltb-true low j m)), ascends_at ks low j t (ltb-true low j m) h))
          (λ m. let d : low ≡ j = omega (arith, ltb-false j low l, ltb-false low j m) in stands-not ks low key e f (rw d h) (rw d k))))
          (λ h. let y : ⊥ = omega arith in absurd y)
