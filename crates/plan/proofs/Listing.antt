-- A walk over the segments of columns that started at the places `start`: `done` are the segments so far, and the columns stand at `ps` after them.
-- Assumes nothing.
use Prim.Native.Nat.{ℕ, zero, suc, ◌+◌, ◌≤◌, ◌<◌}
use Rattle.std.specs.Prelude.{None}
use mathlib.Core.List.{List, [], ◌∷◌, ◌++◌, append-nil, map}
use mathlib.Core.Path.{◌≡◌, refl, sym, ap, ◌∙◌}
use native.Mathlib.Omega.{arith}
use lib.IntN.{ℤ}
use lib.ListN.{length, length-append}
use lib.Seq.{append_snoc}
use Rattle.column.specs.Lists.{total}
use Rattle.column.specs.Runs.{to_nat}
use Rattle.plan.specs.Calls.{Place, Segment, least_end, rests, indexes, first_places, segments_from, segments}
use Rattle.plan.specs.Workers.{Steps}
use Rattle.plan.proofs.Segments.{left, left_less, segments-step, segments-end}

pub record Listing (start : List Place) (done : List Segment) (ps : List Place) : Type 0 where
  pub bound : ℕ
  pub enough : left ps ≤ bound
  pub few : length done + left ps ≤ left start
  pub all : segments_from (left start) start ≡ done ++ segments_from bound ps
  pub begun : length done ≡ 0 → ps ≡ start

pub list_start : (start : List Place) → Listing start [] start
list_start start = record { bound = left start; enough = omega arith; few = omega arith; all = refl; begun = λ h. refl }

-- each step leaves fewer runs
pub step_less : {ps ps' : List Place} {e : ℤ} → Steps ps e ps' → left ps' < left ps
step_less {ps} {e = e} s = rw s.next (left_less (to_nat e) ps s.ends)

-- the segment of a step
abbrev pub segment_at : List Place → ℤ → Segment
segment_at ps e = record { end = to_nat e; indexes = indexes ps }

module _ {start : List Place} {done : List Segment} {ps : List Place} (l : Listing start done ps) where
  pub list_next : {e : ℤ} {ps' : List Place} → Steps ps e ps' → Listing start (done ++ segment_at ps e ∷ []) ps'
  list_next {e} {ps'} s = go l.bound l.enough l.all
    where
      go : (n : ℕ) → left ps ≤ n → segments_from (left start) start ≡ done ++ segments_from n ps → Listing start (done ++ segment_at ps e ∷ []) ps'
      go zero h a = let z : ⊥ = omega (arith, step_less s) in absurd z
      go (suc n) h a =
          record {
            bound = n;
            enough = omega (arith, step_less s);
            few = simp length-append (omega (arith, l.few, step_less s));
            all = a ∙ ap (λ (r : List Segment). done ++ r) (segments-step n ps (to_nat e) s.ends) ∙ sym (append_snoc done (segment_at ps e) _)
                ∙ rw s.next;
            begun = λ z. absurd (let y : ⊥ = omega (arith, simp length-append at z) in y);
          }

  pub list_end : least_end (rests ps) ≡ None → segments_from (left start) start ≡ done
  list_end h = l.all ∙ ap (λ (r : List Segment). done ++ r) (segments-end l.bound ps h) ∙ append-nil done

-- ---- a walk that started at the first runs lists all segments

pub left-first : (ends : List (List ℕ)) → left (first_places ends) ≡ total (map length ends)
left-first [] = refl
left-first (es ∷ ends) = rw (left-first ends)

pub segments-first : (ends : List (List ℕ)) → segments ends ≡ segments_from (left (first_places ends)) (first_places ends)
unfolding segments
segments-first ends = rw (left-first ends)
