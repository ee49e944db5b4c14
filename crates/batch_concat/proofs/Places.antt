-- Where the key at a place stands: in the keys of both batches one after the other, and in each.
-- Assumes nothing.
use Rattle.std.specs.Prelude.{Some, None}
use Prim.Native.Nat.{ℕ, suc, ◌+◌, ◌-◌, ◌≤◌, ◌<◌}
use mathlib.Core.Bool.{Bool, true, false, cond, ◌&&◌}
use mathlib.Core.List.{List, [], ◌∷◌, ◌++◌}
use mathlib.Core.Path.{◌≡◌, refl, ap, sym, ◌∙◌}
use native.Mathlib.Omega.{arith}
use lib.Dec.{eqb}
use lib.ListN.{length, get_or, get_or-append}
use lib.Seq.{get_or-append-add}
use borrow.Author.Tests.{eqb-true, eqb-false, eq-eqb, ne_eqb, lt-ltb, le-ltb}
use Rattle.num.proofs.Tests.{by-test}
use Rattle.batch_index.specs.Calls.{lowest}
use Rattle.batch_index.proofs.Lowest.{lowest-within}
use Rattle.batch.specs.declared.two.Joined.{Joined}
use Rattle.batch.specs.Workers.{other_entry_at}
use Rattle.batch_concat.specs.Workers.{key_at, key_kept}
use Rattle.batch_concat.proofs.Once.{lowest_at}

-- ---- the lowest position in two lists one after the other

lowest-first : (k : ℕ) (xs ys : List ℕ) → lowest k xs < length xs → lowest k (xs ++ ys) ≡ lowest k xs
unfolding lowest
lowest-first k [] ys h = let z : ⊥ = omega arith in absurd z
lowest-first k (x ∷ xs) ys h =
    by-test (eqb k x) (λ t. rw t)
    (λ t. let l : suc (lowest k xs) < suc (length xs) = rw t at h in rw t (ap suc (lowest-first k xs ys (omega arith))))

lowest-second : (k : ℕ) (xs ys : List ℕ) → lowest k xs ≡ length xs → lowest k (xs ++ ys) ≡ length xs + lowest k ys
unfolding lowest
lowest-second k [] ys h = omega arith
lowest-second k (x ∷ xs) ys h =
    by-test (eqb k x)
    (λ t. let e : 0 ≡ suc (length xs) = rw t at h in let z : ⊥ = omega arith in absurd z)
    (λ t. let e : suc (lowest k xs) ≡ suc (length xs) = rw t at h in let l = lowest-second k xs ys (omega arith) in rw t (omega arith))

-- ---- what is at a place

-- what is given of it, as a test of it tells
pub is_kept : {j k : Joined} {t u : Bool} → (j ≡ k) × (t ≡ u) → t ≡ true → Some j ≡ cond u (Some k) None
is_kept e h = rw (e.0, sym e.1 ∙ h) refl

pub is_not_kept : {j k : Joined} {t u : Bool} → (j ≡ k) × (t ≡ u) → t ≡ false → None ≡ cond u (Some k) None
is_not_kept e h = rw (sym e.1 ∙ h) refl

module _ (ka kb : List ℕ) (n : ℕ) where
  pub at_first : n < length ka → {a b : ℕ} → a ≡ lowest (get_or ka n 0) ka → b ≡ other_entry_at ka kb n
      → (record { at = n; key = get_or ka n 0; a = a; b = b } ≡ key_at ka kb n) × (eqb a n ≡ key_kept ka kb n)
  at_first h ea eb =
      let k : get_or (ka ++ kb) n 0 ≡ get_or ka n 0 = get_or-append ka kb 0 n h in
      rw (k, ea, eb, lt-ltb n (length ka) h, lowest-first (get_or ka n 0) ka kb (omega (arith, lowest_at ka n h))) (refl, refl)

  kept_second : (k : ℕ) → length ka ≤ n → eqb (lowest k ka) (length ka) && eqb (lowest k kb) (n - length ka) ≡ eqb (lowest k (ka ++ kb)) n
  kept_second k h =
      by-test (eqb (lowest k ka) (length ka))
      (λ t. let s = lowest-second k ka kb (eqb-true (lowest k ka) (length ka) t) in
      by-test (eqb (lowest k kb) (n - length ka))
      (λ u. let e = eqb-true (lowest k kb) (n - length ka) u in rw (t, u) (sym (eq-eqb (lowest k (ka ++ kb)) n (omega arith))))
      (λ u. let e = eqb-false (lowest k kb) (n - length ka) u in rw (t, u) (sym (ne_eqb (lowest k (ka ++ kb)) n (λ z. e (omega arith))))))
      (λ t. let e = eqb-false (lowest k ka) (length ka) t in
      let l : lowest k ka < length ka = omega (arith, lowest-within k ka, e) in
      let s = lowest-first k ka kb l in
      rw t (sym (ne_eqb (lowest k (ka ++ kb)) n (λ z. let y : ⊥ = omega arith in y))))

  pub at_second : length ka ≤ n → {a b : ℕ} {t : Bool} → a ≡ other_entry_at ka kb n → b ≡ lowest (get_or kb (n - length ka) 0) kb
      → t ≡ eqb a (length ka) && eqb b (n - length ka)
      → (record { at = n; key = get_or kb (n - length ka) 0; a = a; b = b } ≡ key_at ka kb n) × (t ≡ key_kept ka kb n)
  at_second h ea eb et =
      let m : length ka + (n - length ka) ≡ n = omega arith in
      let k : get_or (ka ++ kb) n 0 ≡ get_or kb (n - length ka) 0 = ap (λ (i : ℕ). get_or (ka ++ kb) i 0) (sym m) ∙ get_or-append-add ka kb (n - length ka) 0 in
      rw (et, k, ea, eb, le-ltb n (length ka) h) (refl, kept_second (get_or kb (n - length ka) 0) h)
