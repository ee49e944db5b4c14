use Prim.Native.Nat.{◌+◌, ◌-◌}
use mathlib.Core.Path.{◌≡◌}
use lib.ListN.{length}
use Rattle.num.specs.Numbers.{operation}
use Rattle.batch.specs.Batch.{batch}
use Rattle.std.specs.Prelude.{IfSome}
use Rattle.batch.specs.declared.two.Joined.{Joined}
use Rattle.batch.specs.Workers.{place_of, KeptOther}
use Rattle.batch_zip_with.specs.Workers.{places_of}
use Rattle.batch_zip_with.proofs.Zipping.{Zipping}
use Rattle.batch_zip_with.proofs.inner.zip_pairs.Given as goal

abbrev pub invariant-loop-next : goal.invariant-loop-next
invariant-loop-next l =
    let i = l.initial in
    Zipping l.how (batch l.a_keys l.a_offsets l.a_ends l.a_values) (batch l.b_keys l.b_offsets l.b_ends l.b_values) (operation l.code) l.fill_a l.fill_b
    i.out_keys l.out_keys i.out_offsets l.out_offsets i.out_ends l.out_ends i.out_values l.out_values l.used l.n l.next
    × IfSome l.next (λ (j : Joined). KeptOther l.a_keys l.b_keys l.lookup.indexed l.block (j.at + 1))
    × (length l.block ≡ length l.initial.block)

abbrev pub decreases-loop-next : goal.decreases-loop-next
decreases-loop-next l =
    let places = places_of l.how (length l.a_keys) (length l.b_keys) in
    places - place_of places l.next
