-- Ends that are compared in four quarters side by side.
-- Assumes nothing.
use Prim.Native.Nat.{ℕ, zero, suc, ◌+◌, ◌*◌, ◌-◌, ◌≤◌, ◌<◌}
use mathlib.Core.Bool.{false}
use mathlib.Core.List.{List}
use mathlib.Core.Path.{◌≡◌, refl, ◌∙◌}
use native.Mathlib.Nat.{add-zero}
use native.Mathlib.Numerals.{add-one}
use native.Mathlib.Omega.{arith}
use lib.Dec.{ltb}
use lib.IntN.{ℤ, pos}
use lib.ListN.{length, get_or, drop}
use lib.Signed.{le_z}
use borrow.Author.Tests.{ltb-true, ltb-false}
use Rattle.num.proofs.Tests.{by-test}
use Rattle.column.specs.Runs.{end_before}
use Rattle.column.specs.Questions.{ends_from, ends_valid}
use Rattle.column.proofs.YesNo.{ends_next}

-- the end at k is above the one before
abbrev pub RisesAt : List ℤ → ℕ → Type 0
RisesAt es k = le_z (get_or es k (pos 0)) (end_before es k) ≡ false

rise_to : (es : List ℤ) (m : ℕ) → m ≤ length es → ((k : ℕ) → k < m → RisesAt es k) → ends_from 0 (pos 0) es ≡ ends_from m (end_before es m) (drop m es)
rise_to es zero h r = refl
rise_to es (suc m) h r =
    rise_to es m (omega arith) (λ k l. r k (omega arith)) ∙ rw add-one at (ends_next (end_before es m) m es (omega arith) (r m (omega arith)))

module _ (es : List ℤ) (q : ℕ) where
  -- the first i ends of each quarter rise; a, b, c, d are the last of them
  pub record Quarters (i : ℕ) (a b c d : ℤ) : Type 0 where
    pub inside : i ≤ q
    pub first : a ≡ end_before es i
    pub second : b ≡ end_before es (q + i)
    pub third : c ≡ end_before es (q * 2 + i)
    pub fourth : d ≡ end_before es (q * 3 + i)
    pub rises : (k : ℕ) → k < i → RisesAt es k × RisesAt es (q + k) × RisesAt es (q * 2 + k) × RisesAt es (q * 3 + k)

  pub quarters_start : {b c d : ℤ} → b ≡ end_before es q → c ≡ end_before es (q * 2) → d ≡ end_before es (q * 3) → Quarters 0 (pos 0) b c d
  quarters_start eb ec ed = record {
    inside = omega arith;
    first = refl;
    second = rw add-zero eb;
    third = rw add-zero ec;
    fourth = rw add-zero ed;
    rises = λ k h. let z : ⊥ = omega arith in absurd z;
  }

  module _ {i : ℕ} {a b c d : ℤ} (w : Quarters i a b c d) where
    pub quarters_next : {a' b' c' d' : ℤ} → i < q
        → a' ≡ get_or es i (pos 0) → b' ≡ get_or es (q + i) (pos 0) → c' ≡ get_or es (q * 2 + i) (pos 0) → d' ≡ get_or es (q * 3 + i) (pos 0)
        → le_z a' a ≡ false → le_z b' b ≡ false → le_z c' c ≡ false → le_z d' d ≡ false → Quarters (i + 1) a' b' c' d'
    quarters_next h ea eb ec ed ta tb tc td =
        let one : i + 1 ≡ suc i = omega arith in
        let two : q + (i + 1) ≡ suc (q + i) = omega arith in
        let three : q * 2 + (i + 1) ≡ suc (q * 2 + i) = omega arith in
        let four : q * 3 + (i + 1) ≡ suc (q * 3 + i) = omega arith in
        record {
          inside = omega arith;
          first = rw one ea;
          second = rw two eb;
          third = rw three ec;
          fourth = rw four ed;
          rises = λ k l. by-test (ltb k i)
              (λ t. w.rises k (ltb-true k i t))
              (λ t. let n = ltb-false k i t in
              let e : k ≡ i = omega arith in
              rw e (rw (ea, w.first) at ta, rw (eb, w.second) at tb, rw (ec, w.third) at tc, rw (ed, w.fourth) at td));
        }

    -- all of them
    all-rise : q ≤ i → (k : ℕ) → k < q * 4 → RisesAt es k
    all-rise h k l =
        by-test (ltb k q)
        (λ t. let n = ltb-true k q t in (w.rises k (omega arith)).0)
        (λ t. let n = ltb-false k q t in by-test (ltb k (q * 2))
        (λ u. let m = ltb-true k (q * 2) u in
        let e : k ≡ q + (k - q) = omega arith in
        rw e (w.rises (k - q) (omega arith)).1)
        (λ u. let m = ltb-false k (q * 2) u in by-test (ltb k (q * 3))
        (λ v. let o = ltb-true k (q * 3) v in
        let e : k ≡ q * 2 + (k - q * 2) = omega arith in
        rw e (w.rises (k - q * 2) (omega arith)).2)
        (λ v. let o = ltb-false k (q * 3) v in
        let e : k ≡ q * 3 + (k - q * 3) = omega arith in
        rw e (w.rises (k - q * 3) (omega arith)).3)))

    pub quarters_end : q ≤ i → q * 4 ≤ length es → ends_valid es ≡ ends_from (q * 4) (end_before es (q * 4)) (drop (q * 4) es)
    unfolding ends_valid
    quarters_end h l = rise_to es (q * 4) l (all-rise h)
