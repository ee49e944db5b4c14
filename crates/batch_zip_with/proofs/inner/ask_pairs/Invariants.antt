use Prim.Native.Nat.{◌+◌, ◌-◌}
use mathlib.Core.Path.{◌≡◌}
use lib.ListN.{length}
use Rattle.batch.specs.Batch.{batch}
use Rattle.std.specs.Prelude.{IfSome}
use Rattle.batch.specs.declared.two.Joined.{Joined}
use Rattle.batch.specs.Workers.{place_of, KeptOther}
use Rattle.batch_zip_with.specs.Workers.{places_of}
use Rattle.batch_zip_with.proofs.Asking.{Asking}
use Rattle.batch_zip_with.proofs.inner.ask_pairs.Given as goal

abbrev pub invariant-loop-next : goal.invariant-loop-next
invariant-loop-next l =
    Asking l.how (batch l.a_keys l.a_offsets l.a_ends l.a_values) (batch l.b_keys l.b_offsets l.b_ends l.b_values) l.fill_a l.fill_b l.asked l.runs l.n l.next
    × IfSome l.next (λ (j : Joined). KeptOther l.a_keys l.b_keys l.lookup.indexed l.block (j.at + 1))
    × (length l.block ≡ length l.initial.block)

abbrev pub decreases-loop-next : goal.decreases-loop-next
decreases-loop-next l =
    let places = places_of l.how (length l.a_keys) (length l.b_keys) in
    places - place_of places l.next
