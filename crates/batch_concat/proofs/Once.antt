-- Each key of two batches once, by places.
-- Assumes nothing.
use Rattle.std.specs.Prelude.{Option, Some, None, IfSome}
use Prim.Native.Nat.{ℕ, zero, suc, ◌+◌, ◌-◌, ◌≤◌, ◌<◌}
use mathlib.Core.Bool.{true, false}
use mathlib.Core.List.{List, [], ◌∷◌, ◌++◌}
use mathlib.Core.Path.{◌≡◌, refl, ap, sym, ◌∙◌}
use native.Mathlib.Nat.{add-zero}
use native.Mathlib.Numerals.{add-one}
use native.Mathlib.Omega.{arith}
use lib.Dec.{eqb, ltb}
use lib.ListN.{length, get_or, take, drop, length-append, length-drop}
use lib.Seq.{drop-cons, get_or-drop}
use borrow.Author.Tests.{eqb-true, eqb-false, lt-ltb, le-ltb, ltb-true}
use Rattle.column.specs.Lists.{any}
use Rattle.batch_index.specs.Calls.{lowest}
use Rattle.batch_index.specs.Workers.{doubled}
use Rattle.batch_index.proofs.Doubles.{among_at}
use Rattle.batch_index.proofs.Lowest.{found-step, lowest-within}
use Rattle.batch_keys.specs.Calls.{once}
use Rattle.batch_keys.proofs.Once.{once_at, once-end, once-doubled, once-single, once-few}
use Rattle.batch.specs.declared.two.Joined.{Joined}
use Rattle.batch.specs.Workers.{place_of, NextKept}
use Rattle.batch_concat.specs.Workers.{key_at, key_kept}

-- ---- a key stands before a place if its lowest position does

among_lowest : (k : ℕ) (ks : List ℕ) (i : ℕ) → i ≤ length ks → any (eqb k) (take i ks) ≡ ltb (lowest k ks) i
unfolding lowest
among_lowest k ks zero h = sym (le-ltb (lowest k ks) 0 (omega arith))
among_lowest k [] (suc i) h = let z : ⊥ = omega arith in absurd z
among_lowest k (x ∷ ks) (suc i) h = sym (found-step (eqb k x) (lowest k ks) i _ (sym (among_lowest k ks i (omega arith))))

module _ (ks : List ℕ) (n : ℕ) (h : n < length ks) where
  pub lowest_at : lowest (get_or ks n 0) ks ≤ n
  lowest_at =
      let k = get_or ks n 0 in
      let l : lowest k ks < suc n = ltb-true (lowest k ks) (suc n)
      (sym (among_lowest k ks (suc n) (omega arith)) ∙ among_at k ks (suc n) n (omega arith) h refl) in
      omega arith

  single : eqb (lowest (get_or ks n 0) ks) n ≡ true → doubled ks n ≡ false
  single t =
      let e = eqb-true (lowest (get_or ks n 0) ks) n t in
      among_lowest (get_or ks n 0) ks n (omega arith) ∙ le-ltb (lowest (get_or ks n 0) ks) n (omega arith)

  double : eqb (lowest (get_or ks n 0) ks) n ≡ false → doubled ks n ≡ true
  double t =
      let e = eqb-false (lowest (get_or ks n 0) ks) n t in
      among_lowest (get_or ks n 0) ks n (omega arith) ∙ lt-ltb (lowest (get_or ks n 0) ks) n (omega (arith, lowest_at, e))

module _ (ka kb : List ℕ) where
  pub once-short : length (once (ka ++ kb)) ≤ length ka + length kb
  unfolding once
  once-short = omega (arith, once-few [] (ka ++ kb), length-append ka kb)

  -- no place from n on up to the next is kept
  passed : (d n : ℕ) → n + d ≤ length ka + length kb → ((i : ℕ) → n ≤ i → i < n + d → key_kept ka kb i ≡ false)
      → once_at (ka ++ kb) n ≡ once_at (ka ++ kb) (n + d)
  passed zero n h t = rw add-zero
  passed (suc d) n h t =
      let l : n + d < length (ka ++ kb) = omega (arith, length-append ka kb) in
      let e : n + d + 1 ≡ n + suc d = omega arith in
      passed d n (omega arith) (λ i k m. t i k (omega arith))
      ∙ once-doubled (ka ++ kb) (n + d) l (double (ka ++ kb) (n + d) l (t (n + d) (omega arith) (omega arith)))
      ∙ ap (once_at (ka ++ kb)) e

  -- ---- key after key: o is where the key at n of the keys of the result stands, or there is none left

  -- from a place on, the next that is kept
  abbrev pub NextKey : ℕ → Option Joined → Type 0
  NextKey = NextKept (key_at ka kb) (key_kept ka kb) (length ka + length kb)

  pub record Following (o : Option Joined) (n : ℕ) : Type 0 where
    pub left : drop n (once (ka ++ kb)) ≡ once_at (ka ++ kb) (place_of (length ka + length kb) o)
    pub here : IfSome o (λ (j : Joined). (j.at < length ka + length kb) × (j ≡ key_at ka kb j.at) × (key_kept ka kb j.at ≡ true))

  follow : {m n : ℕ} {o : Option Joined} → drop n (once (ka ++ kb)) ≡ once_at (ka ++ kb) m → NextKey m o → Following o n
  follow {m} {n} {o} e k =
      let d : ℕ = place_of (length ka + length kb) o - m in
      let s : m + d ≡ place_of (length ka + length kb) o = omega (arith, k.after) in
      record {
        left = e ∙ passed d m (omega (arith, k.within)) (λ i l j. k.before i l (omega arith)) ∙ ap (once_at (ka ++ kb)) s;
        here = k.here;
      }

  pub follow-start : {o : Option Joined} → NextKey 0 o → Following o 0
  unfolding once
  follow-start k = follow refl k

  module _ {o : Option Joined} {n : ℕ} (f : Following o n) where
    module _ {r : Joined} (h : o ≡ Some r) where
      there : (r.at < length ka + length kb) × (r ≡ key_at ka kb r.at) × (key_kept ka kb r.at ≡ true)
      there = rw h at f.here

      in_both : r.at < length (ka ++ kb)
      in_both = omega (arith, there.0, length-append ka kb)

      follow_one : drop n (once (ka ++ kb)) ≡ get_or (ka ++ kb) r.at 0 ∷ once_at (ka ++ kb) (r.at + 1)
      follow_one =
          f.left
          ∙ ap (λ (p : Option Joined). once_at (ka ++ kb) (place_of (length ka + length kb) p)) h
          ∙ once-single (ka ++ kb) r.at in_both (single (ka ++ kb) r.at in_both there.2)

      pub follow-within : n < length (once (ka ++ kb))
      follow-within = omega (arith, length-drop n (once (ka ++ kb)), ap length follow_one)

      -- the key, and where it stands
      the-key : get_or (ka ++ kb) r.at 0 ≡ get_or (once (ka ++ kb)) n 0
      the-key =
          sym (ap (λ (l : List ℕ). get_or l 0 0) follow_one) ∙ get_or-drop n (once (ka ++ kb)) 0 0 ∙ ap (λ (i : ℕ). get_or (once (ka ++ kb)) i 0) (add-zero n)

      pub follow-key : r.key ≡ get_or (once (ka ++ kb)) n 0
      follow-key = ap (λ (j : Joined). j.key) there.1 ∙ the-key

      pub follow-a : r.a ≡ lowest (get_or (once (ka ++ kb)) n 0) ka
      follow-a = ap (λ (j : Joined). j.a) there.1 ∙ ap (λ (k : ℕ). lowest k ka) the-key

      pub follow-b : r.b ≡ lowest (get_or (once (ka ++ kb)) n 0) kb
      follow-b = ap (λ (j : Joined). j.b) there.1 ∙ ap (λ (k : ℕ). lowest k kb) the-key

      pub follow-b-within : r.b ≤ length kb
      follow-b-within = omega (arith, follow-b, lowest-within (get_or (once (ka ++ kb)) n 0) kb)

      pub follow-next : {q : Option Joined} → NextKey (r.at + 1) q → Following q (n + 1)
      follow-next k =
          let d : drop n (once (ka ++ kb)) ≡ get_or (once (ka ++ kb)) n 0 ∷ drop (suc n) (once (ka ++ kb)) = drop-cons (once (ka ++ kb)) n 0 follow-within in
          let e : drop (suc n) (once (ka ++ kb)) ≡ once_at (ka ++ kb) (r.at + 1) = cc (d, follow_one) in
          follow (rw (add-one n) e) k

    pub follow-end : o ≡ None → length (once (ka ++ kb)) ≤ n
    follow-end h =
        let z : drop n (once (ka ++ kb)) ≡ [] = rw h at f.left ∙ once-end (ka ++ kb) (length ka + length kb) (omega (arith, length-append ka kb)) in
        omega (arith, length-drop n (once (ka ++ kb)), ap length z)
