-- What the positions show, by the segments that `plan_many` gives; `zip_many` is defined by what it shows.
-- Assumes nothing.
use Prim.Native.Nat.{ℕ}
use Rattle.std.specs.Prelude.{None, Option}
use mathlib.Core.List.{List, map, map-map}
use mathlib.Core.Path.{◌≡◌, sym}
use lib.IntN.{ℤ}
use lib.ListN.{length}
use Rattle.column.specs.Combine.{Column, many, table}
use Rattle.column.specs.Flat.{flat, columns}
use Rattle.column.specs.Questions.{sequences_valid}
use Rattle.column.specs.Runs.{Runs, dense}
use Rattle.plan.specs.Calls.{ends_in, segments, segment_run, segment_runs}
use Rattle.plan.proofs.Raw.{raw_dense}
use Rattle.many.proofs.Flats.{many-valid}

module _ (op : ℤ → ℤ → ℤ) (fill : Option ℤ) (os : List ℕ) (es vs : List ℤ) (l : length es ≡ length vs) (v : sequences_valid os es ≡ None) where
  abbrev cs : List Column
  cs = many fill (columns (flat os es vs))

  -- what the runs at the indexes show together, each as far as its segment goes, is what the columns show at every position
  pub plan-many-shows : dense (map (segment_run op cs) (segments (map ends_in (columns (flat os es vs))))) ≡ table op cs
  unfolding segment_runs
  plan-many-shows =
      rw (sym (map-map (λ (c : Column). ends_in c.runs) (λ (c : Runs). record { fill = fill; runs = c }) (columns (flat os es vs))))
      (raw_dense op cs (many-valid os es vs l v fill))
