-- What a slice of a sequence shows: the values from its start up to its end. And it is valid, and as long as that.
-- Assumes nothing.
use Rattle.std.proofs.Common.{ap, ◌≡◌, ℕ, ◌+◌, ◌-◌, ◌<◌, ◌≤◌, min, cond, ltb, leb, [], ◌∷◌, length, get_or, take, drop, ℤ, pos, sym, refl, ◌∙◌}
use Rattle.std.proofs.Common.{zero-add, arith, length-drop, length-take, get_or-drop, get_or-take, ext_get_or, ltb-false, ltb-true, le-ltb, lt-ltb}
use Rattle.std.proofs.Common.{le-leb, leb-false, leb-true}
use borrow.Author.Tests.{lt-leb}
use Rattle.num.proofs.Tests.{by-test}
use Rattle.column.specs.Runs.{Runs, to_nat, last_end, length_of, dense}
use Rattle.column.proofs.Cover.{cover, cover-dense, last-above}
use Rattle.column.proofs.Dense.{length-dense}
use Rattle.column.proofs.Rising.{Rising, Valid}
use Rattle.slice.specs.Calls.{cut, slice_runs}

cover-cut : (s e : ℕ) (rs : Runs) (i : ℕ) (d : ℤ) → i < e - s → cover (cut s e rs) i d ≡ cover rs (s + i) d
unfolding cut
cover-cut s e [] i d h = refl
cover-cut s e (r ∷ rs) i d h =
    by-test (leb r.end s)
    (λ t. rw (t, le-ltb (s + i) r.end (omega (arith, leb-true r.end s t))) (cover-cut s e rs i d h))
    (λ t. by-test (leb e r.end)
    (λ u. rw (t, u, lt-ltb i (e - s) h, lt-ltb (s + i) r.end (omega (arith, leb-true e r.end u))))
    (λ u. by-test (ltb i (r.end - s))
    (λ v. rw (t, u, v, lt-ltb (s + i) r.end (omega (arith, ltb-true i (r.end - s) v))))
    (λ v. rw (t, u, v, le-ltb (s + i) r.end (omega (arith, ltb-false i (r.end - s) v))) (cover-cut s e rs i d h))))

rising-cut : (p s e : ℕ) (rs : Runs) → Rising p rs → p - s < e - s → Rising (p - s) (cut s e rs)
unfolding cut
rising-cut p s e [] h k = tt
rising-cut p s e (r ∷ rs) h k =
    by-test (leb r.end s)
    (λ t. let l = leb-true r.end s t in
    let q : p - s ≡ r.end - s = omega arith in
    rw (t, q) (rising-cut r.end s e rs h.1 (omega arith)))
    (λ t. let l = leb-false r.end s t in by-test (leb e r.end)
    (λ u. rw (t, u) (k, tt))
    (λ u. let m = leb-false e r.end u in rw (t, u) (omega arith, rising-cut r.end s e rs h.1 (omega arith))))

last-cut : (p s e : ℕ) (rs : Runs) → Rising p rs → p - s < e - s → last_end (p - s) (cut s e rs) ≡ min (e - s) (last_end p rs - s)
unfolding cut
last-cut p s e [] h k = omega arith
last-cut p s e (r ∷ rs) h k =
    by-test (leb r.end s)
    (λ t. let l = leb-true r.end s t in
    let q : p - s ≡ r.end - s = omega arith in
    rw (t, q) (last-cut r.end s e rs h.1 (omega arith)))
    (λ t. let l = leb-false r.end s t in by-test (leb e r.end)
    (λ u. let m = leb-true e r.end u in rw (t, u) (omega (arith, last-above r.end rs h.1)))
    (λ u. let m = leb-false e r.end u in rw (t, u) (last-cut r.end s e rs h.1 (omega arith))))

cover-after : (p : ℕ) (rs : Runs) (i : ℕ) (d : ℤ) → Rising p rs → last_end p rs ≤ i → cover rs i d ≡ d
cover-after p [] i d h k = refl
cover-after p (r ∷ rs) i d h k = rw (le-ltb i r.end (omega (arith, last-above r.end rs h.1))) (cover-after r.end rs i d h.1 k)

-- an end past the length is as good as the length
clamped : (p s e : ℕ) (rs : Runs) → Rising p rs → cut s (min e (last_end p rs)) rs ≡ cut s e rs
unfolding cut
clamped p s e [] h = refl
clamped p s e (r ∷ []) h =
    by-test (leb e r.end)
    (λ t. let q : min e r.end ≡ e = omega (arith, leb-true e r.end t) in rw q)
    (λ t. let q : min e r.end ≡ r.end = omega (arith, leb-false e r.end t) in rw (q, t, le-leb r.end r.end (omega arith)))
clamped p s e (r ∷ r' ∷ rs) h =
    let i = clamped r.end s e (r' ∷ rs) h.1 in
    let a = last-above r'.end rs h.1.1 in
    by-test (leb e r.end)
    (λ t. let q : min e (last_end p (r ∷ r' ∷ rs)) ≡ e = omega (arith, leb-true e r.end t) in ap (λ (x : ℕ). cut s x (r ∷ r' ∷ rs)) q)
    (λ t. rw (t, lt-leb (min e (last_end r'.end rs)) r.end (omega (arith, leb-false e r.end t)), i))

-- ---- the slice itself: its span, as numbers, is from to_nat s up to to_nat e

module _ (s e : ℤ) (rs : Runs) (h : Valid rs) where
  -- the slice, without the clamp down to the length
  slice_cut : slice_runs s e rs ≡ cond (ltb (to_nat s) (min (to_nat e) (length_of rs))) (cut (to_nat s) (to_nat e) rs) []
  unfolding slice_runs length_of
  slice_cut = rw (clamped 0 (to_nat s) (to_nat e) rs h)

  pub valid-slice : Valid (slice_runs s e rs)
  valid-slice =
      rw slice_cut
      (by-test (ltb (to_nat s) (min (to_nat e) (length_of rs)))
      (λ t. let k = ltb-true (to_nat s) (min (to_nat e) (length_of rs)) t in
      let z : 0 - to_nat s ≡ 0 = omega arith in
      rw t (rw z at (rising-cut 0 (to_nat s) (to_nat e) rs h (omega arith))))
      (λ t. rw t tt))

  pub length-slice : length_of (slice_runs s e rs) ≡ min (to_nat e - to_nat s) (length_of rs - to_nat s)
  unfolding length_of
  length-slice =
      rw slice_cut
      (by-test (ltb (to_nat s) (min (to_nat e) (length_of rs)))
      (λ t. let k = ltb-true (to_nat s) (min (to_nat e) (length_of rs)) t in
      let z : 0 - to_nat s ≡ 0 = omega arith in
      rw t (rw z at (last-cut 0 (to_nat s) (to_nat e) rs h (omega arith))))
      (λ t. rw t (omega (arith, ltb-false (to_nat s) (min (to_nat e) (length_of rs)) t))))

  -- position by position: what the slice shows is what the sequence shows from its start on
  pub value-slice : (i : ℕ) (d : ℤ) → i < to_nat e - to_nat s → get_or (dense (slice_runs s e rs)) i d ≡ get_or (dense rs) (to_nat s + i) d
  unfolding dense length_of
  value-slice i d k =
      let v : Rising 0 (slice_runs s e rs) = valid-slice in
      rw (cover-dense 0 (slice_runs s e rs) i d v, cover-dense 0 rs (to_nat s + i) d h, zero-add i, zero-add (to_nat s + i), slice_cut)
      (by-test (ltb (to_nat s) (min (to_nat e) (length_of rs)))
      (λ t. rw t (cover-cut (to_nat s) (to_nat e) rs i d k))
      (λ t. rw t (sym (cover-after 0 rs (to_nat s + i) d h (past (ltb-false (to_nat s) (min (to_nat e) (length_of rs)) t))))))
    where
      past : min (to_nat e) (length_of rs) ≤ to_nat s → length_of rs ≤ to_nat s + i
      past l = omega arith

-- what a slice shows: the positions from its start up to its end
pub dense-slice : (s e : ℤ) (rs : Runs) → Valid rs → dense (slice_runs s e rs) ≡ take (to_nat e - to_nat s) (drop (to_nat s) (dense rs))
dense-slice s e rs v =
    let l : length (dense (slice_runs s e rs)) ≡ min (to_nat e - to_nat s) (length_of rs - to_nat s) = length-dense (slice_runs s e rs) (valid-slice s e rs v)
    ∙ length-slice s e rs v in
    ext_get_or (pos 0) (dense (slice_runs s e rs)) (take (to_nat e - to_nat s) (drop (to_nat s) (dense rs)))
    (rw (l, length-take, length-drop, length-dense rs v))
    (λ i h. let k : i < to_nat e - to_nat s = omega arith in
    value-slice s e rs v i (pos 0) k ∙ sym (get_or-take (to_nat e - to_nat s) (drop (to_nat s) (dense rs)) i (pos 0) k ∙ get_or-drop (to_nat s) (dense rs) i (pos 0)))
