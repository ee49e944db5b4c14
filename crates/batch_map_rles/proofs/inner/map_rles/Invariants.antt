use Rattle.batch.specs.Batch.{batch}
use Rattle.batch_map_rles.proofs.Mapping.{Mapped}
use Rattle.batch_map_rles.proofs.inner.map_rles.Given as goal

abbrev pub invariant-loop-k : goal.invariant-loop-k
invariant-loop-k l =
    Mapped l.mapping (batch l.keys l.offsets l.ends l.values) l.initial.out_keys l.out_keys l.initial.out_offsets l.out_offsets
    l.initial.out_ends l.out_ends l.initial.out_values l.out_values l.used l.k
