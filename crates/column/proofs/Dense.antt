-- How many values runs show, and a stretch of equal values in a list that is read from the front.
-- Assumes nothing.
use Prim.Native.Nat.{ℕ, ◌+◌, ◌-◌, ◌≤◌}
use mathlib.Core.List.{List, [], ◌∷◌, ◌++◌, append-nil, append_assoc}
use mathlib.Core.Path.{◌≡◌, refl, sym, ap, ◌∙◌}
use native.Mathlib.Omega.{arith}
use lib.IntN.{ℤ}
use lib.ListN.{length, take, drop, replicate, length-append, length-replicate, length-drop, replicate-append-replicate}
use lib.Seq.{take-add, take_at, drop_at, drop-drop}
use Rattle.num.specs.Numbers.{eq_z}
use Rattle.num.proofs.Tests.{by-test, eq_z-true}
use Rattle.column.specs.Runs.{Runs, last_end, length_of, dense_from, dense, encode, push_merged}
use Rattle.column.proofs.Encoded.{dense-encode, valid-encode}
use Rattle.column.proofs.Rising.{Rising, Valid}

length_from : (p : ℕ) (rs : Runs) → Rising p rs → p + length (dense_from p rs) ≡ last_end p rs
unfolding dense_from
length_from p [] v = omega arith
length_from p (r ∷ rs) v = rw (length-append, length-replicate) (let e = length_from r.end rs v.1 in omega arith)

-- a valid column shows as many values as it is long
pub length-dense : (rs : Runs) → Valid rs → length (dense rs) ≡ length_of rs
unfolding dense length_of
length-dense rs v = let e = length_from 0 rs v in omega arith

-- the merged runs of a list are as long as the list
pub length-encode : (xs : List ℤ) → length_of (encode xs) ≡ length xs
length-encode xs = sym (length-dense (encode xs) (valid-encode xs)) ∙ ap length (dense-encode xs)

-- ---- runs after runs, and a run pushed onto them

dense-append-from : (p : ℕ) (rs ss : Runs) → dense_from p (rs ++ ss) ≡ dense_from p rs ++ dense_from (last_end p rs) ss
unfolding dense_from
dense-append-from p [] ss = refl
dense-append-from p (r ∷ rs) ss = rw (dense-append-from r.end rs ss, append_assoc)

pub dense-append : (rs ss : Runs) → dense (rs ++ ss) ≡ dense rs ++ dense_from (length_of rs) ss
unfolding dense length_of
dense-append rs ss = dense-append-from 0 rs ss

dense_push_from : (p : ℕ) (rs : Runs) (e : ℕ) (v : ℤ) → Rising p rs → last_end p rs ≤ e
    → dense_from p (push_merged rs e v) ≡ dense_from p rs ++ replicate (e - last_end p rs) v
unfolding dense_from push_merged
dense_push_from p [] e v h l = append-nil (replicate (e - p) v)
dense_push_from p (r ∷ []) e v h l =
    by-test (eq_z r.value v)
    (λ t. let q : r.value ≡ v = eq_z-true r.value v t in
    let n : e - p ≡ r.end - p + (e - r.end) = omega (arith, h.0) in
    rw (t, append-nil, append-nil, q, n) (sym (replicate-append-replicate (r.end - p) (e - r.end) v)))
    (λ t. rw (t, append-nil, append-nil))
dense_push_from p (r ∷ q ∷ rs) e v h l =
    let front = replicate (r.end - p) r.value in
    ap (λ (xs : List ℤ). front ++ xs) (dense_push_from r.end (q ∷ rs) e v h.1 l)
    ∙ sym (append_assoc front (dense_from r.end (q ∷ rs)) (replicate (e - last_end r.end (q ∷ rs)) v))

-- the positions from the length up to e show the value of a run that is pushed there
pub dense_push : (rs : Runs) (e : ℕ) (v : ℤ) → Valid rs → length_of rs ≤ e → dense (push_merged rs e v) ≡ dense rs ++ replicate (e - length_of rs) v
unfolding dense length_of
dense_push rs e v h l = dense_push_from 0 rs e v h l

-- ---- a stretch

-- a list from whose position p on k equal values come first
pub record Stretch (l : List ℤ) (p k : ℕ) (x : ℤ) (rest : List ℤ) : Type 0 where
  pub front : take (p + k) l ≡ take p l ++ replicate k x
  pub back : drop (p + k) l ≡ rest
  pub inside : p + k ≤ length l

pub stretch : (l : List ℤ) (p k : ℕ) (x : ℤ) (rest : List ℤ) → p ≤ length l → drop p l ≡ replicate k x ++ rest → Stretch l p k x rest
stretch l p k x rest h e =
    let n = length-replicate k x in
    record {
      front = take-add p k l ∙ ap (λ (m : List ℤ). take p l ++ m) (ap (take k) e ∙ take_at (replicate k x) rest k n);
      back = sym (drop-drop k p l) ∙ ap (drop k) e ∙ drop_at (replicate k x) rest k n;
      inside = omega (arith, simp (length-drop, length-append) at (ap length e));
    }
