use mathlib.Core.Path.{refl, ◌∙◌, sym}
use native.Mathlib.Omega.{arith}
use lib.IntN.{pos}
use Rattle.column.proofs.Flattened.{offsets-some}
use Rattle.many.proofs.Walking.{take-zeros, length_front}
use Rattle.zip_many.proofs.inner.zip_many.Goals as goal

pub overflow_sub-k : goal.overflow_sub-k
overflow_sub-k c = omega (arith, offsets-some _ _ c.requires.offsets)

pub zip_walk-requires : goal.zip_walk-requires
zip_walk-requires c =
    let q = c.requires in (
      record {
        walkable = record { offsets = q.offsets; valid = q.valid; first = take-zeros _ 128 q.columns };
        paired = q.paired;
        room_ends = q.room_ends;
        room_values = q.room_values;
      },
      record { paired = q.paired; room_ends = refl; room_values = length_front (pos 0) _ 128 q.columns ∙ sym (length_front 0 _ 128 q.columns) },
    )
