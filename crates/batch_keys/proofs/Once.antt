-- Each key once, where it first appears: those from a position on.
-- Assumes nothing.
use Prim.Native.Nat.{ℕ, suc, ◌+◌, ◌≤◌, ◌<◌}
use mathlib.Core.Bool.{Bool, true, false, ◌||◌}
use mathlib.Core.List.{List, [], ◌∷◌, ◌++◌}
use mathlib.Core.Path.{◌≡◌, refl, ap, sym, ◌∙◌}
use native.Mathlib.Numerals.{add-one}
use native.Mathlib.Omega.{arith}
use lib.Dec.{eqb}
use lib.ListN.{length, get_or, take, drop, drop_of_length-le}
use lib.Seq.{drop-cons, take-suc}
use borrow.Author.Tests.{eqb-true, eq-eqb}
use Rattle.num.proofs.Tests.{by-test}
use Rattle.column.specs.Lists.{any}
use Rattle.batch_index.specs.Workers.{doubled}
use Rattle.batch_index.proofs.Lowest.{no_test}
use Rattle.batch_keys.specs.Calls.{once_from, once}

-- what stands before counts by which keys it has
once-same : (b c ks : List ℕ) → ((k : ℕ) → any (eqb k) b ≡ any (eqb k) c) → once_from b ks ≡ once_from c ks
unfolding once_from
once-same b c [] e = refl
once-same b c (k ∷ ks) e =
    by-test (any (eqb k) c)
    (λ t. rw (e k, t) (once-same b c ks e))
    (λ t. rw (e k, t) (ap {B = List ℕ} (λ l. k ∷ l) (once-same (k ∷ b) (k ∷ c) ks (λ l. ap (λ (s : Bool). eqb l k || s) (e l)))))

any-behind : (l k : ℕ) (ks : List ℕ) → any (eqb l) (ks ++ k ∷ []) ≡ eqb l k || any (eqb l) ks
any-behind l k [] = refl
any-behind l k (x ∷ ks) = rw (any-behind l k ks) (by-test (eqb l x) (λ t. by-test (eqb l k) (λ u. rw (t, u)) (λ u. rw (t, u))) (λ t. rw t))

-- those of the keys from position n on that do not stand before
abbrev pub once_at : List ℕ → ℕ → List ℕ
once_at ks n = once_from (take n ks) (drop n ks)

pub once-start : (ks : List ℕ) → once ks ≡ once_at ks 0
unfolding once
once-start ks = refl

module _ (ks : List ℕ) (n : ℕ) where
  pub once-end : length ks ≤ n → once_at ks n ≡ []
  unfolding once_from
  once-end h = rw drop_of_length-le

  module _ (h : n < length ks) where
    key-behind : (k : ℕ) → any (eqb k) (take (suc n) ks) ≡ eqb k (get_or ks n 0) || any (eqb k) (take n ks)
    key-behind k = rw (take-suc ks n 0 h) (any-behind k (get_or ks n 0) (take n ks))

    pub once-doubled : doubled ks n ≡ true → once_at ks n ≡ once_at ks (n + 1)
    unfolding once_from
    once-doubled t =
        rw (add-one n, drop-cons ks n 0 h, t)
        (once-same (take n ks) (take (suc n) ks) (drop (suc n) ks)
        (λ k. sym (key-behind k ∙ by-test (eqb k (get_or ks n 0))
        (λ u. let e = eqb-true k (get_or ks n 0) u in rw (u, e, t))
        (λ u. rw u))))

    pub once-single : doubled ks n ≡ false → once_at ks n ≡ get_or ks n 0 ∷ once_at ks (n + 1)
    unfolding once_from
    once-single t =
        rw (add-one n, drop-cons ks n 0 h, t)
        (ap {B = List ℕ} (λ l. get_or ks n 0 ∷ l) (once-same (get_or ks n 0 ∷ take n ks) (take (suc n) ks) (drop (suc n) ks) (λ k. sym (key-behind k))))

-- ---- no more than the keys, and none twice

pub once-few : (before ks : List ℕ) → length (once_from before ks) ≤ length ks
unfolding once_from
once-few before [] = omega arith
once-few before (k ∷ ks) = by-test (any (eqb k) before) (λ t. rw t (omega (arith, once-few before ks))) (λ t. rw t (omega (arith, once-few (k ∷ before) ks)))

-- no key stands among those after it
abbrev pub NoDoubles : List ℕ → Type 0
NoDoubles [] = Unit {0}
NoDoubles (k ∷ ks) = (any (eqb k) ks ≡ false) × NoDoubles ks

once_gone : (before ks : List ℕ) (k : ℕ) → any (eqb k) before ≡ true → any (eqb k) (once_from before ks) ≡ false
unfolding once_from
once_gone before [] k t = refl
once_gone before (l ∷ ks) k t =
    by-test (any (eqb l) before)
    (λ u. rw u (once_gone before ks k t))
    (λ u. by-test (eqb k l)
    (λ v. let e = eqb-true k l v in no_test (rw e at t) u)
    (λ v. rw (u, v) (once_gone (l ∷ before) ks k (rw v t))))

pub once_no_doubles : (before ks : List ℕ) → NoDoubles (once_from before ks)
unfolding once_from
once_no_doubles before [] = tt
once_no_doubles before (k ∷ ks) =
    by-test (any (eqb k) before)
    (λ t. rw t (once_no_doubles before ks))
    (λ t. rw t (once_gone (k ∷ before) ks k (rw (eq-eqb k k refl)), once_no_doubles (k ∷ before) ks))
