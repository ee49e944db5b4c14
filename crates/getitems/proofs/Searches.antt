-- A block of searches beside each other: they begin, take a step each, and end; what they found is kept for the intervals of the block.
-- Assumes nothing.
use Prim.Native.Nat.{ℕ, ◌+◌, ◌-◌, ◌≤◌, ◌<◌, ◌^◌, ◌/◌, min}
use mathlib.Core.List.{List}
use mathlib.Core.Path.{◌≡◌, ap, ◌∙◌}
use native.Mathlib.Omega.{arith}
use lib.IntN.{ℤ, pos}
use lib.ListN.{length, get_or}
use mir.Syntax.{w64}
use mir.Val.{SFits, to_z, of_z}
use mir.Facts.{to_z-of_z}
use lib.Signed.{mag}
use Rattle.column.specs.Runs.{to_nat, length_of_ends}
use Rattle.column.proofs.Naturals.{to_nat-below}
use Rattle.slice.specs.Workers.{Halving}
use Rattle.slice.proofs.Searching.{halving_start}
use Rattle.getitems.specs.Workers.{block_size, sought, Begun}

-- ---- what is looked for

-- by what the locals hold
pub place_is : (es : List ℤ) (back : ℕ) {p : ℤ} → SFits w64 p → {m : ℕ} → m ≡ to_nat (to_z w64 (of_z w64 p)) → {y : ℤ} → mag y < 2 ^ 63
    → y ≡ length_of_ends es → {l : ℕ} → l ≡ to_nat (to_z w64 (of_z w64 y)) → {c : ℕ} → c ≡ min m l → {r : ℕ} → r ≡ c - back
    → (r ≡ sought es back p) × (r < 2 ^ 63)
unfolding sought
place_is es back {p} fp em {y} fy ey el ec er =
    let a = em ∙ ap to_nat (to_z-of_z fp) in
    let b = el ∙ ap to_nat (to_z-of_z {w = w64} (record { sfits = fy }) ∙ ey) in
    (omega arith, omega (arith, to_nat-below p fp))

-- ---- the searches begin: the first k have

pub record Beginning (es ps : List ℤ) (from back : ℕ) (qs ls : List ℕ) (k : ℕ) : Type 0 where
  pub places_many : length qs ≡ block_size
  pub lows_many : length ls ≡ block_size
  pub places : (d : ℕ) → d < k → (get_or qs d 0 ≡ sought es back (get_or ps (from + d) (pos 0))) × (get_or qs d 0 < 2 ^ 63)
  pub lows : (d : ℕ) → d < k → get_or ls d 0 ≡ 0

module _ {es ps : List ℤ} {from back : ℕ} {qs ls : List ℕ} {k : ℕ} (s : Beginning es ps from back qs ls k) where
  pub beginning_end : block_size ≤ k → Begun es ps from back qs ls
  beginning_end h = record {
    halvings = record {
      places_many = s.places_many;
      lows_many = s.lows_many;
      small = λ d l. (s.places d (omega arith)).1;
      halves = λ d l. rw (s.lows d (omega arith)) (halving_start (get_or qs d 0) es);
    };
    places = λ d l. (s.places d (omega arith)).0;
  }

-- ---- a step of each: the first k have taken it

pub record Halved (es : List ℤ) (qs ls : List ℕ) (size k : ℕ) : Type 0 where
  pub places_many : length qs ≡ block_size
  pub lows_many : length ls ≡ block_size
  pub small : (d : ℕ) → d < block_size → get_or qs d 0 < 2 ^ 63
  pub taken : (d : ℕ) → d < k → Halving (get_or qs d 0) es (get_or ls d 0) (size / 2)
  pub left : (d : ℕ) → k ≤ d → d < block_size → Halving (get_or qs d 0) es (get_or ls d 0) size
