-- Demand 3: cutting a job never shows.
-- Assumes nothing.
use Prim.Native.Nat.{ℕ, suc}
use Rattle.std.specs.Prelude.{None}
use mathlib.Core.List.{List, [], ◌∷◌}
use mathlib.Core.Path.{◌≡◌, refl}
use native.Mathlib.Omega.{arith}
use lib.IntN.{ℤ}
use borrow.Author.Tests.{le-leb}
use Rattle.column.specs.Questions.{room_at, room_from, room}
use Rattle.cutting.specs.Claim.{CuttingNeverShows, Demand3}
use Rattle.cutting.proofs.TwoWay.{two_way}
use Rattle.cutting.proofs.ManyWay.{many_way}
use Rattle.cutting.proofs.Batches.{batch}

pub demand_3 : Demand3
demand_3 lends enough points = record {
  two_way = two_way lends enough points;
  many_way = λ fill code. many_way fill code lends enough points;
  batch = λ how fa fb code. batch how fa fb code lends enough points;
}

-- ---- in particular with every buffer exactly as long as document 01 asks

room-from : (i : ℕ) (ns : List ℕ) → room_from i ns ns ≡ None
unfolding room_from room_at
room-from i [] = refl
room-from i (n ∷ ns) = rw (le-leb n n (omega arith), room-from (suc i) ns)

room-exact : (ns : List ℕ) → room ns ns ≡ None
unfolding room
room-exact ns = room-from 0 ns

pub exactly : (points : List ℤ) → CuttingNeverShows (λ call needed. needed) points
exactly points = demand_3 (λ call needed. needed) (λ call. room-exact) points
