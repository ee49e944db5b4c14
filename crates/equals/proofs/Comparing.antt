-- The loop of `equals`: the walk of two columns, as long as their values agree.
-- Assumes nothing.
use Rattle.std.specs.Prelude.{None}
use Prim.Native.Nat.{◌+◌, ◌≤◌, ◌<◌, ◌^◌}
use mathlib.Core.Bool.{Bool, true, false, not, ◌||◌}
use mathlib.Core.List.{List, [], ◌∷◌, ◌++◌, map, map-append}
use mathlib.Core.Path.{◌≡◌, refl, ap, sym, ◌∙◌}
use lib.IntN.{ℤ, pos}
use lib.ListN.{length, get_or}
use lib.Signed.{mag}
use mir.Syntax.{w64}
use mir.Val.{to_z, of_z}
use Rattle.num.proofs.Bits.{back}
use Rattle.num.specs.Numbers.{eq_z, flag, operation}
use Rattle.column.specs.Combine.{Column, two}
use Rattle.column.specs.Lists.{any}
use Rattle.column.specs.Runs.{Run, to_nat, sequence, runs_of, length_of, length_of_ends, dense}
use Rattle.column.proofs.Ends.{rising, runs-rise, length_of-ends}
use Rattle.column.proofs.Lists.{any_append}
use Rattle.column.proofs.Rising.{Valid}
use Rattle.plan.specs.Calls.{Segment, segments, segments_from, segment_run, segment_runs}
use Rattle.plan.specs.declared.inner.Segments.{Segments}
use Rattle.plan.specs.Workers.{places_at, Starts, Walks}
use Rattle.plan.proofs.Columns.{ends_in_lem, both-shown}
use Rattle.plan.proofs.Listing.{segment_at, segments-first}
use Rattle.plan.proofs.Walking.{Walk, walk_start, walk-next, walk_end}
use Rattle.equals.specs.Calls.{same}
use Rattle.equals.specs.Workers.{Comparable}
use Rattle.equals.proofs.Same.{same-segments, same-lengths}

-- a run of code 7 that says that the values differ
abbrev differs : Run → Bool
differs r = eq_z r.value (pos 0)

flag-differs : (b : Bool) → eq_z (flag b) (pos 0) || false ≡ not b
flag-differs true = refl
flag-differs false = refl

-- two numbers that the code finds equal
pub same_numbers : {x y m n : ℤ} → x ≡ m → y ≡ n → mag x < 2 ^ 63 → mag y < 2 ^ 63 → of_z w64 x ≡ of_z w64 y → m ≡ n
same_numbers {x} {y} ex ey hx hy e = sym (back x hx ∙ ex) ∙ ap (to_z w64) e ∙ back y hy ∙ ey

module _ (ae av be bv : List ℤ) where
  abbrev cs : List Column
  cs = two None None (runs_of ae av) (runs_of be bv)

  abbrev pub same_shown : Bool
  same_shown = same (dense (runs_of ae av)) (dense (runs_of be bv))

  -- does a segment tell them apart
  unfoldable pub differing : List Segment → Bool
  differing ss = any differs (map (segment_run (operation 7) cs) ss)

  pub record Compared (c : Segments) : Type 0 where
    pub done : List Segment
    pub walk : Walk ae be done c
    pub alike : differing done ≡ false

  pub compared_start : {c : Segments} → Starts ae be c → Compared c
  unfolding differing
  compared_start s = record { done = []; walk = walk_start ae be s; alike = refl }

  module _ (q : Comparable (sequence ae av) (sequence be bv)) where
    valid_a : Valid (runs_of ae av)
    valid_a = runs-rise 0 ae av (rising ae q.valid_a)

    valid_b : Valid (runs_of be bv)
    valid_b = runs-rise 0 be bv (rising be q.valid_b)

    -- the lengths, as the code finds them
    length_a : length_of_ends ae ≡ pos (length_of (runs_of ae av))
    length_a = length_of-ends ae av q.valid_a q.paired_a

    length_b : length_of_ends be ≡ pos (length_of (runs_of be bv))
    length_b = length_of-ends be bv q.valid_b q.paired_b

    pub other-lengths : (length_of_ends ae ≡ length_of_ends be → ⊥) → false ≡ same_shown
    other-lengths n = sym (same-lengths (runs_of ae av) (runs_of be bv) valid_a valid_b (λ e. n (length_a ∙ ap pos e ∙ sym length_b)))

    module _ (h : length_of_ends ae ≡ length_of_ends be) where
      by-segments : same_shown ≡ not (differing (segments (map to_nat ae ∷ map to_nat be ∷ [])))
      unfolding differing segment_runs
      by-segments =
          let e : length_of (runs_of ae av) ≡ length_of (runs_of be bv) = ap to_nat (sym length_a ∙ h ∙ length_b) in
          same-segments None None (runs_of ae av) (runs_of be bv) valid_a valid_b e
          ∙ rw (ends_in_lem ae av q.paired_a, ends_in_lem be bv q.paired_b)

      pub compared-end : {c : Segments} (d : Compared c) → length ae + length be ≤ c.a.index + c.b.index → true ≡ same_shown
      compared-end d k = sym (by-segments ∙ ap (λ (ss : List Segment). not (differing ss)) (walk_end ae be d.walk k) ∙ ap not d.alike)

      module _ {c c' : Segments} {e : ℤ} (d : Compared c) (s : Walks ae be c e c') {x y : ℤ} {b : Bool}
          (ex : x ≡ get_or av c.a.index (pos 0)) (ey : y ≡ get_or bv c.b.index (pos 0)) (t : eq_z x y ≡ b) where
        one_more : differing (d.done ++ segment_at (places_at ae be c) e ∷ []) ≡ not b
        unfolding differing operation
        one_more =
            let here = segment_at (places_at ae be c) e in
            let run = segment_run (operation 7) cs in
            ap (any differs) (map-append run d.done (here ∷ []))
            ∙ any_append differs (map run d.done) (run here ∷ [])
            ∙ rw (d.alike, both-shown (operation 7) None None ae av be bv q.paired_a q.paired_b c.a.index c.b.index, ← ex, ← ey, t)
            (flag-differs b)

        pub compared-next : b ≡ true → Compared c'
        compared-next h' = record { done = _; walk = walk-next ae be d.walk s; alike = one_more ∙ ap not h' }

        pub compared-differ : b ≡ false → false ≡ same_shown
        unfolding differing
        compared-differ h' =
            let ends = map to_nat ae ∷ map to_nat be ∷ [] in
            let l = (walk-next ae be d.walk s).listing in
            let run = segment_run (operation 7) cs in
            let more = segments_from l.bound (places_at ae be c') in
            let found = d.done ++ segment_at (places_at ae be c) e ∷ [] in
            let told : differing (found ++ more) ≡ true =
            ap (any differs) (map-append run found more) ∙ any_append differs (map run found) (map run more) ∙ rw (one_more, h') in
            sym (by-segments ∙ ap (λ (ss : List Segment). not (differing ss)) (segments-first ends ∙ l.all) ∙ ap not told)
