-- Keys that are given twice: the first of them, and what is known where there is none.
-- Assumes nothing.
use Prim.Native.Nat.{ℕ, zero, suc, ◌≤◌, ◌<◌}
use mathlib.Core.Bool.{true, false}
use Rattle.std.specs.Prelude.{None}
use mathlib.Core.List.{List, [], ◌∷◌}
use mathlib.Core.Path.{◌≡◌, refl, sym, ◌∙◌}
use native.Mathlib.Numerals.{add-one}
use native.Mathlib.Omega.{arith}
use lib.IntN.{pos}
use lib.ListN.{length, get_or, drop}
use lib.Seq.{drop-cons}
use Rattle.num.proofs.Tests.{by-test}
use Rattle.column.specs.Asking.{refusal, each_from}
use Rattle.column.specs.Questions.{distinct_at, distinct_keys}
use Rattle.column.proofs.FirstNo.{all_yes, each_next, each-refused, each-end}
use Rattle.column.proofs.YesNo.{distinct_yes, distinct_refused}
use Rattle.batch_index.specs.Workers.{doubled, FirstDouble}
use Rattle.batch_index.proofs.Doubles.{among_not, among_none}
use Rattle.batch_keys.specs.declared.Order.{Order}
use Rattle.batch_keys.specs.declared.Order.TheVariants.{Ascending, Distinct}
use Rattle.batch_keys.specs.Workers.{ascends, Known}
use Rattle.batch_keys.proofs.Standing.{Apart}
use Rattle.batch_keys.proofs.Ascending.{ascends_apart}

-- ---- where no key is given twice

apart_single : (ks : List ℕ) → Apart ks → (i : ℕ) → i < length ks → doubled ks i ≡ false
apart_single ks a i h = among_none (get_or ks i 0) ks i (omega arith) (λ j l e. a j i l h (sym e))

pub ascends-first : (ks : List ℕ) → ascends ks ≡ true → FirstDouble ks (length ks)
ascends-first ks t =
    record { within = omega arith; before = apart_single ks (ascends_apart ks t); here = λ h. let z : ⊥ = omega arith in absurd z }

-- ---- the question

module _ (ks : List ℕ) where
  -- no key before i
  asked-from : (i : ℕ) → i ≤ length ks → ((j : ℕ) → j < i → doubled ks j ≡ false) → distinct_keys ks ≡ each_from (distinct_at ks) i (drop i ks)
  unfolding distinct_keys
  asked-from zero h s = refl
  asked-from (suc i) h s =
      asked-from i (omega arith) (λ j l. s j (omega arith))
      ∙ rw add-one at (each_next (distinct_at ks) i ks 0 (omega arith) (distinct_yes ks i (get_or ks i 0) (s i (omega arith))))

  -- what "yes" tells, from i on
  asked-next : (i : ℕ) → i < length ks → each_from (distinct_at ks) i (drop i ks) ≡ None → (doubled ks i ≡ false)
      × (each_from (distinct_at ks) (suc i) (drop (suc i) ks) ≡ None)
  unfolding each_from
  asked-next i h e =
      let y = all_yes (distinct_at ks i (get_or ks i 0) ∷ each_from (distinct_at ks) (suc i) (drop (suc i) ks) ∷ []) (rw (drop-cons ks i 0 h) at e) in
      (by-test (doubled ks i) (λ t. let z : refusal 8 (pos i ∷ []) ≡ None = sym (distinct_refused ks i (get_or ks i 0) t) ∙ y.0 in cc) (λ t. t), y.1.0)

  asked-rest : (i : ℕ) → i ≤ length ks → distinct_keys ks ≡ None → each_from (distinct_at ks) i (drop i ks) ≡ None
  unfolding distinct_keys
  asked-rest zero h e = e
  asked-rest (suc i) h e = (asked-next i (omega arith) (asked-rest i (omega arith) e)).1

  pub distinct_apart : distinct_keys ks ≡ None → Apart ks
  distinct_apart y i j h k e = among_not (get_or ks j 0) ks j i (asked-next j k (asked-rest j (omega arith) y)).0 h (omega arith) (sym e)

  module _ {r : ℕ} (f : FirstDouble ks r) where
    pub first-refused : r < length ks → refusal 8 (pos r ∷ []) ≡ distinct_keys ks
    first-refused h =
        sym (asked-from r f.within f.before
        ∙ each-refused (distinct_at ks) r ks 0 h (distinct_refused ks r (get_or ks r 0) (f.here h)))

    pub first-none : length ks ≤ r → None ≡ distinct_keys ks
    first-none h = sym (asked-from r f.within f.before ∙ each-end (distinct_at ks) r ks 0 h)

-- ---- what is known of keys

pub known-ascends : (o : Order) (ks : List ℕ) → o ≡ Ascending → Known o ks → ascends ks ≡ true
known-ascends o ks e k = rw e at k

pub known_distinct : (o : Order) (ks : List ℕ) → o ≡ Distinct → Known o ks → distinct_keys ks ≡ None
known_distinct o ks e k = rw e at k
