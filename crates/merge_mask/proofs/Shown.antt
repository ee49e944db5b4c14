-- What the positions of a result of `merge_mask` or `merge_by` show, and that it is a valid sequence as long as the one handed in: every
-- position shows the value of the first run (Keep 0) or of the last run (Keep 1) of the group in which its run is, for `merge_by` of the first.
-- Assumes nothing.
use Prim.Native.Nat.{ℕ, ◌+◌, ◌-◌, ◌≤◌, ◌<◌}
use mathlib.Core.Bool.{true, false, cond}
use Rattle.std.specs.Prelude.{None}
use mathlib.Core.List.{List, [], ◌∷◌, ◌++◌, map, append_assoc}
use mathlib.Core.Path.{◌≡◌, refl, sym, ap, ◌∙◌}
use native.Mathlib.Omega.{arith}
use lib.Dec.{eqb}
use lib.IntN.{ℤ, pos}
use lib.ListN.{length, replicate, replicate-append-replicate}
use Rattle.num.specs.Numbers.{eq_z, operation}
use Rattle.num.proofs.Tests.{by-test}
use Rattle.column.specs.Questions.{ends_valid}
use Rattle.column.specs.Runs.{Run, Runs, to_nat, runs_of, ends_of, values_of, last_end, length_of, dense_from, dense}
use Rattle.column.proofs.Ends.{rising, runs-rise, valid-ends, values-runs}
use Rattle.column.proofs.Rising.{Rising, Valid}
use Rattle.merge_mask.specs.Calls.{Group, in_front, groups_from, groups, mask_runs, neighbours}
use Rattle.merge_mask.proofs.Groups.{from_some}
use Rattle.merge_mask.proofs.Writing.{group_value, one_to_nat}

-- the value of the first of some runs
abbrev pub first_value : Runs → ℤ
first_value [] = pos 0
first_value (r ∷ rs) = r.value

-- the runs, each with the value of the first run of its group, which is v for the run x: a run that joins the one before it shows what that shows
unfoldable pub with_first : ℤ → Run → Runs → List ℕ → Runs
with_first v x [] mask = record { end = x.end; value = v } ∷ []
with_first v x (y ∷ ys) [] = record { end = x.end; value = v } ∷ with_first y.value y ys []
with_first v x (y ∷ ys) (m ∷ mask) = record { end = x.end; value = v } ∷ with_first (cond (eqb m 1) v y.value) y ys mask

-- the runs, each with the value of the last run of its group: a run that the next one joins shows what that shows
unfoldable pub with_last : Run → Runs → List ℕ → Runs
with_last x [] mask = x ∷ []
with_last x (y ∷ ys) [] = x ∷ with_last y ys []
with_last x (y ∷ ys) (m ∷ mask) =
    let rest = with_last y ys mask in
    record { end = x.end; value = cond (eqb m 1) (first_value rest) x.value } ∷ rest

-- the runs of a sequence, each with the value that its group keeps
unfoldable pub with_kept : ℕ → List ℕ → Runs → Runs
with_kept keep mask [] = []
with_kept keep mask (x ∷ xs) = cond (eqb keep 0) (with_first x.value x xs mask) (with_last x xs mask)

-- the same of `merge_by`: a run joins the one before it where the operation on their two values, as they were handed in, gives 1
unfoldable pub with_first_by : ℕ → ℤ → Run → Runs → Runs
with_first_by code v x [] = record { end = x.end; value = v } ∷ []
with_first_by code v x (y ∷ ys) =
    let joins = eq_z (operation code x.value y.value) (pos 1) in
    record { end = x.end; value = v } ∷ with_first_by code (cond joins v y.value) y ys

unfoldable pub with_kept_by : ℕ → Runs → Runs
with_kept_by code [] = []
with_kept_by code (x ∷ xs) = with_first_by code x.value x xs

-- ---- a valid sequence, as long as the one handed in

abbrev group_run : ℕ → Group Run → Run
group_run keep g = record { end = g.last.end; value = group_value keep g }

module _ (keep : ℕ) where
  rising-front : (p : ℕ) (x : Run) (gs : List (Group Run)) → p < x.end → Rising x.end (map (group_run keep) gs)
      → Rising p (map (group_run keep) (in_front x gs))
  rising-front p x [] h v = (h, tt)
  rising-front p x (g ∷ gs) h v = (omega (arith, v.0), v.1)

  rising-from : (p : ℕ) (x : Run) (ys : Runs) (mask : List ℕ) → p < x.end → Rising x.end ys → Rising p (map (group_run keep) (groups_from x ys mask))
  unfolding groups_from
  rising-from p x [] mask h v = (h, tt)
  rising-from p x (y ∷ ys) [] h v = (h, rising-from x.end y ys [] v.0 v.1)
  rising-from p x (y ∷ ys) (m ∷ mask) h v =
      let more = rising-from x.end y ys mask v.0 v.1 in
      by-test (eqb m 1) (λ t. rw t (rising-front p x (groups_from y ys mask) h more)) (λ t. rw t (h, more))

  pub merge_mask-valid : (mask : List ℕ) (rs : Runs) → Valid rs → Valid (mask_runs keep mask rs)
  unfolding mask_runs groups
  merge_mask-valid mask [] v = tt
  merge_mask-valid mask (x ∷ xs) v = rising-from 0 x xs mask v.0 v.1

  end-front : (p q : ℕ) (x : Run) (gs : List (Group Run)) → 0 < length gs
      → last_end p (map (group_run keep) (in_front x gs)) ≡ last_end q (map (group_run keep) gs)
  end-front p q x [] h = let z : ⊥ = omega arith in absurd z
  end-front p q x (g ∷ gs) h = refl

  end-from : (p : ℕ) (x : Run) (ys : Runs) (mask : List ℕ) → last_end p (map (group_run keep) (groups_from x ys mask)) ≡ last_end x.end ys
  unfolding groups_from
  end-from p x [] mask = refl
  end-from p x (y ∷ ys) [] = end-from x.end y ys []
  end-from p x (y ∷ ys) (m ∷ mask) =
      let more = end-from x.end y ys mask in
      by-test (eqb m 1) (λ t. rw t (end-front p x.end x (groups_from y ys mask) (from_some y ys mask) ∙ more)) (λ t. rw t more)

  pub merge_mask-length : (mask : List ℕ) (rs : Runs) → length_of (mask_runs keep mask rs) ≡ length_of rs
  unfolding mask_runs groups length_of
  merge_mask-length mask [] = refl
  merge_mask-length mask (x ∷ xs) = end-from 0 x xs mask

-- ---- what the positions show

-- the first run ends at q or later
abbrev From : ℕ → Runs → Type 0
From q [] = ⊥
From q (r ∷ rs) = q ≤ r.end

-- the positions up to q, and those from q on
from-both : (p q : ℕ) (rs : Runs) → p ≤ q → From q rs → dense_from p rs ≡ replicate (q - p) (first_value rs) ++ dense_from q rs
unfolding dense_from
from-both p q [] h k = absurd k
from-both p q (r ∷ rs) h k =
    let n : r.end - p ≡ q - p + (r.end - q) = omega arith in
    let rest = dense_from r.end rs in
    ap (λ (l : List ℤ). l ++ rest)
    (ap (λ (m : ℕ). replicate m r.value) n ∙ sym (replicate-append-replicate (q - p) (r.end - q) r.value))
    ∙ append_assoc (replicate (q - p) r.value) (replicate (r.end - q) r.value) rest

-- a group's last end is no lower than the first run's of the group
abbrev GroupFrom : ℕ → List (Group Run) → Type 0
GroupFrom q [] = ⊥
GroupFrom q (g ∷ gs) = q ≤ g.last.end

from_front : (q : ℕ) (x : Run) (gs : List (Group Run)) → GroupFrom q gs → GroupFrom q (in_front x gs)
from_front q x [] h = absurd h
from_front q x (g ∷ gs) h = h

group_from : (q : ℕ) (x : Run) (ys : Runs) (mask : List ℕ) → q ≤ x.end → Rising x.end ys → GroupFrom q (groups_from x ys mask)
unfolding groups_from
group_from q x [] mask h v = h
group_from q x (y ∷ ys) [] h v = h
group_from q x (y ∷ ys) (m ∷ mask) h v =
    by-test (eqb m 1)
    (λ t. rw t (from_front q x (groups_from y ys mask) (group_from q y ys mask (omega (arith, v.0)) v.1)))
    (λ t. rw t h)

-- ---- Keep 0

abbrev first_runs : List (Group Run) → Runs
first_runs gs = map (λ (g : Group Run). record { end = g.last.end; value = g.first.value }) gs

-- with another value for the first of the runs
abbrev revalued : ℤ → Runs → Runs
revalued v [] = []
revalued v (r ∷ rs) = record { end = r.end; value = v } ∷ rs

revalued-front : (v : ℤ) (x : Run) (gs : List (Group Run)) → 0 < length gs → revalued v (first_runs (in_front x gs)) ≡ revalued v (first_runs gs)
revalued-front v x [] h = let z : ⊥ = omega arith in absurd z
revalued-front v x (g ∷ gs) h = refl

-- the first group's value is that of its first run
revalued-own : (x : Run) (ys : Runs) (mask : List ℕ) → revalued x.value (first_runs (groups_from x ys mask)) ≡ first_runs (groups_from x ys mask)
unfolding groups_from
revalued-own x [] mask = refl
revalued-own x (y ∷ ys) [] = refl
revalued-own x (y ∷ ys) (m ∷ mask) = by-test (eqb m 1) (λ t. rw t (front (groups_from y ys mask))) (λ t. rw t)
  where
    front : (gs : List (Group Run)) → revalued x.value (first_runs (in_front x gs)) ≡ first_runs (in_front x gs)
    front [] = refl
    front (g ∷ gs) = refl

revalued-both : (p q : ℕ) (v : ℤ) (gs : List (Group Run)) → p ≤ q → GroupFrom q gs
    → dense_from p (revalued v (first_runs gs)) ≡ replicate (q - p) v ++ dense_from q (revalued v (first_runs gs))
revalued-both p q v [] h k = absurd k
revalued-both p q v (g ∷ gs) h k = from-both p q (revalued v (first_runs (g ∷ gs))) h k

first-from : (p : ℕ) (v : ℤ) (x : Run) (ys : Runs) (mask : List ℕ) → p ≤ x.end → Rising x.end ys
    → dense_from p (revalued v (first_runs (groups_from x ys mask))) ≡ dense_from p (with_first v x ys mask)
unfolding dense_from with_first groups_from
first-from p v x [] mask h r = refl
first-from p v x (y ∷ ys) [] h r =
    ap (λ (l : List ℤ). replicate (x.end - p) v ++ l)
    (ap (dense_from x.end) (sym (revalued-own y ys [])) ∙ first-from x.end y.value y ys [] (omega (arith, r.0)) r.1)
first-from p v x (y ∷ ys) (m ∷ mask) h r =
    let gs = groups_from y ys mask in
    let next : x.end ≤ y.end = omega (arith, r.0) in
    by-test (eqb m 1)
    (λ t. rw t
    (ap (dense_from p) (revalued-front v x gs (from_some y ys mask))
    ∙ revalued-both p x.end v gs h (group_from x.end y ys mask next r.1)
    ∙ ap (λ (l : List ℤ). replicate (x.end - p) v ++ l) (first-from x.end v y ys mask next r.1)))
    (λ t. rw t
    (ap (λ (l : List ℤ). replicate (x.end - p) v ++ l)
    (ap (dense_from x.end) (sym (revalued-own y ys mask)) ∙ first-from x.end y.value y ys mask next r.1)))

-- ---- Keep 1

abbrev runs_of_last : List (Group Run) → Runs
runs_of_last gs = map (λ (g : Group Run). record { end = g.last.end; value = g.last.value }) gs

last-front : (x : Run) (gs : List (Group Run)) → 0 < length gs → runs_of_last (in_front x gs) ≡ runs_of_last gs
last-front x [] h = let z : ⊥ = omega arith in absurd z
last-front x (g ∷ gs) h = refl

last-both : (p q : ℕ) (gs : List (Group Run)) → p ≤ q → GroupFrom q gs
    → dense_from p (runs_of_last gs) ≡ replicate (q - p) (first_value (runs_of_last gs)) ++ dense_from q (runs_of_last gs)
last-both p q [] h k = absurd k
last-both p q (g ∷ gs) h k = from-both p q (runs_of_last (g ∷ gs)) h k

last_value : (x : Run) (ys : Runs) (mask : List ℕ) → first_value (runs_of_last (groups_from x ys mask)) ≡ first_value (with_last x ys mask)
unfolding with_last groups_from
last_value x [] mask = refl
last_value x (y ∷ ys) [] = refl
last_value x (y ∷ ys) (m ∷ mask) =
    by-test (eqb m 1)
    (λ t. rw t (ap first_value (last-front x (groups_from y ys mask) (from_some y ys mask)) ∙ last_value y ys mask))
    (λ t. rw t)

last-from : (p : ℕ) (x : Run) (ys : Runs) (mask : List ℕ) → p ≤ x.end → Rising x.end ys
    → dense_from p (runs_of_last (groups_from x ys mask)) ≡ dense_from p (with_last x ys mask)
unfolding dense_from with_last groups_from
last-from p x [] mask h r = refl
last-from p x (y ∷ ys) [] h r =
    ap (λ (l : List ℤ). replicate (x.end - p) x.value ++ l) (last-from x.end y ys [] (omega (arith, r.0)) r.1)
last-from p x (y ∷ ys) (m ∷ mask) h r =
    let gs = groups_from y ys mask in
    let next : x.end ≤ y.end = omega (arith, r.0) in
    let more = last-from x.end y ys mask next r.1 in
    by-test (eqb m 1)
    (λ t. rw t
    (ap (dense_from p) (last-front x gs (from_some y ys mask))
    ∙ last-both p x.end gs h (group_from x.end y ys mask next r.1)
    ∙ ap (λ (z : ℤ). replicate (x.end - p) z ++ dense_from x.end (runs_of_last gs)) (last_value y ys mask)
    ∙ ap (λ (l : List ℤ). replicate (x.end - p) (first_value (with_last y ys mask)) ++ l) more))
    (λ t. rw t (ap (λ (l : List ℤ). replicate (x.end - p) x.value ++ l) more))

-- ---- both

kept-first : (keep : ℕ) (gs : List (Group Run)) → eqb keep 0 ≡ true → map (group_run keep) gs ≡ first_runs gs
kept-first keep [] t = refl
kept-first keep (g ∷ gs) t = rw (t, kept-first keep gs t)

kept-last : (keep : ℕ) (gs : List (Group Run)) → eqb keep 0 ≡ false → map (group_run keep) gs ≡ runs_of_last gs
kept-last keep [] t = refl
kept-last keep (g ∷ gs) t = rw (t, kept-last keep gs t)

-- every position shows the value that the group of its run keeps
pub merge_mask-shows : (keep : ℕ) (mask : List ℕ) (rs : Runs) → Valid rs → dense (mask_runs keep mask rs) ≡ dense (with_kept keep mask rs)
unfolding mask_runs groups with_kept dense
merge_mask-shows keep mask [] v = refl
merge_mask-shows keep mask (x ∷ xs) v =
    let gs = groups_from x xs mask in
    by-test (eqb keep 0)
    (λ t. ap (dense_from 0) (kept-first keep gs t ∙ sym (revalued-own x xs mask))
    ∙ first-from 0 x.value x xs mask (omega arith) v.1 ∙ rw t)
    (λ t. ap (dense_from 0) (kept-last keep gs t) ∙ last-from 0 x xs mask (omega arith) v.1 ∙ rw t)

-- ---- merge_by

first_by : (code : ℕ) (v : ℤ) (x : Run) (ys : Runs) → with_first v x ys (neighbours code (x.value ∷ values_of ys)) ≡ with_first_by code v x ys
unfolding with_first with_first_by neighbours values_of
first_by code v x [] = refl
first_by code v x (y ∷ ys) =
    let z = operation code x.value y.value in
    rw (one_to_nat z) (ap {B = Runs} (λ l. record { end = x.end; value = v } ∷ l) (first_by code (cond (eqb (to_nat z) 1) v y.value) y ys))

kept_by : (code : ℕ) (rs : Runs) → with_kept 0 (neighbours code (values_of rs)) rs ≡ with_kept_by code rs
unfolding with_kept with_kept_by values_of
kept_by code [] = refl
kept_by code (x ∷ xs) = first_by code x.value x xs

-- ---- of the sequences that the calls are handed

module _ (es vs : List ℤ) (valid : ends_valid es ≡ None) where
  runs-valid : Valid (runs_of es vs)
  runs-valid = runs-rise 0 es vs (rising es valid)

  pub merge_mask-ends : (keep : ℕ) (mask : List ℕ) → ends_valid (ends_of (mask_runs keep mask (runs_of es vs))) ≡ None
  merge_mask-ends keep mask = valid-ends (mask_runs keep mask (runs_of es vs)) (merge_mask-valid keep mask (runs_of es vs) runs-valid)

  pub merge_by-ends : (code : ℕ) → ends_valid (ends_of (mask_runs 0 (neighbours code vs) (runs_of es vs))) ≡ None
  merge_by-ends code = merge_mask-ends 0 (neighbours code vs)

  pub merge_by-shows : (code : ℕ) → length es ≡ length vs
      → dense (mask_runs 0 (neighbours code vs) (runs_of es vs)) ≡ dense (with_kept_by code (runs_of es vs))
  merge_by-shows code paired =
      merge_mask-shows 0 (neighbours code vs) (runs_of es vs) runs-valid
      ∙ ap (λ (ws : List ℤ). dense (with_kept 0 (neighbours code ws) (runs_of es vs))) (sym (values-runs es vs paired))
      ∙ ap dense (kept_by code (runs_of es vs))
