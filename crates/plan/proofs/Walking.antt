-- The walk of two columns by cursors, from its start to where both are spent.
-- Assumes nothing.
use Prim.Native.Nat.{ℕ, ◌+◌, ◌-◌, ◌≤◌, ◌<◌}
use mathlib.Core.List.{List, [], ◌∷◌, ◌++◌, map}
use mathlib.Core.Path.{◌≡◌, ◌∙◌}
use native.Mathlib.Omega.{arith}
use lib.IntN.{ℤ}
use lib.ListN.{length, drop, length-map, length-drop}
use Rattle.column.specs.Runs.{to_nat}
use Rattle.plan.specs.declared.inner.Segments.{Segments}
use Rattle.plan.specs.Calls.{Place, Segment, segments}
use Rattle.plan.specs.Workers.{place_at, places_at, Standing, Starts, Walks}
use Rattle.plan.proofs.Listing.{Listing, segment_at, list_start, list_next, list_end, step_less, segments-first}
use Rattle.plan.proofs.Segments.{left, none_left}

length-ahead : (es : List ℤ) (i : ℕ) → length (map to_nat (drop i es)) ≡ length es - i
length-ahead es i = length-map (drop i es) to_nat ∙ length-drop i es

module _ (a b : List ℤ) where
  abbrev pub firsts : List Place
  firsts = place_at a 0 ∷ place_at b 0 ∷ []

  pub record Walk (done : List Segment) (c : Segments) : Type 0 where
    pub standing : Standing a b c
    pub listing : Listing firsts done (places_at a b c)

  pub left-firsts : left firsts ≡ length a + length b
  left-firsts = omega (arith, length-ahead a 0, length-ahead b 0)

  left_at : (c : Segments) → left (places_at a b c) ≡ length a - c.a.index + (length b - c.b.index)
  left_at c = omega (arith, length-ahead a c.a.index, length-ahead b c.b.index)

  pub walk_start : {c : Segments} → Starts a b c → Walk [] c
  walk_start s = record { standing = s.standing; listing = rw (s.first_a, s.first_b) (list_start firsts) }

  module _ {done : List Segment} {c : Segments} (w : Walk done c) where
    -- no more segments than the runs that are passed
    pub walk-few : length done ≤ c.a.index + c.b.index
    walk-few = omega (arith, w.listing.few, left-firsts, left_at c, w.standing.left.within, w.standing.right.within)

    pub walk_none : length a + length b ≤ c.a.index + c.b.index → left (places_at a b c) ≡ 0
    walk_none h = omega (arith, left_at c, w.standing.left.within, w.standing.right.within)

    pub walk_end : length a + length b ≤ c.a.index + c.b.index → segments (map to_nat a ∷ map to_nat b ∷ []) ≡ done
    walk_end h = segments-first (map to_nat a ∷ map to_nat b ∷ []) ∙ list_end w.listing (none_left (places_at a b c) (walk_none h))

    module _ {e : ℤ} {c' : Segments} (s : Walks a b c e c') where
      pub walk-next : Walk (done ++ segment_at (places_at a b c) e ∷ []) c'
      walk-next = record { standing = s.standing; listing = list_next w.listing s.steps }

      pub walk-moves : c.a.index + c.b.index < c'.a.index + c'.b.index
      walk-moves =
          omega (
            arith,
            step_less s.steps,
            left_at c,
            left_at c',
            w.standing.left.within,
            w.standing.right.within,
            s.standing.left.within,
            s.standing.right.within,
          )
