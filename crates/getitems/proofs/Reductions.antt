-- The reductions of the slices of intervals, and what the questions of that call tell.
-- Assumes nothing.
use Prim.Native.Nat.{ℕ, ◌+◌, ◌<◌}
use native.Mathlib.Omega.{arith}
use Rattle.std.specs.Prelude.{None}
use mathlib.Core.List.{List, [], ◌∷◌, map}
use mathlib.Core.Path.{◌≡◌, ap, ap₂, sym, ◌∙◌}
use lib.IntN.{ℤ, pos}
use lib.ListN.{length, get_or, set, length-map, get_or-map}
use mir.Syntax.{w64}
use mir.Val.{SFits, to_z, of_z}
use mir.Facts.{to_z-of_z}
use Rattle.column.specs.Questions.{listed, agree, paired, ends_valid, intervals, room, both}
use Rattle.column.specs.Runs.{sequence, Runs, runs_of}
use Rattle.column.proofs.FirstNo.{all_yes}
use Rattle.column.proofs.Told.{agree-told, both_told}
use Rattle.slice.specs.Calls.{slice_runs}
use Rattle.getitems.specs.Calls.{interval_runs, slice_reduce_asked}
use Rattle.getitems.proofs.Items.{item_at, length-items}
use Rattle.reduce.specs.declared.Reduction.{Reduction}
use Rattle.reduce.specs.Calls.{reduction, kind_of, bits_of}
use Rattle.reduce.specs.Workers.{FilledReductions}
use Rattle.reduce.proofs.Intervals.{Filling, filling_next, filling_end}
use Rattle.getitems.specs.Workers.{Reducible}

abbrev pub reductions : ℕ → ℤ → List ℤ → List ℤ → Runs → List Reduction
reductions code ddof starts stops rs = map (reduction code ddof) (interval_runs starts stops rs)

-- ---- written one after another: the first i are

-- as the locals hold it
abbrev held : ℤ → ℤ
held z = to_z w64 (of_z w64 z)

module _ {es vs starts stops : List ℤ} {k₀ b₀ : List ℕ} (p : Reducible (sequence es vs) starts stops k₀ b₀) (code : ℕ) (ddof : ℤ) {k b : List ℕ} {i : ℕ}
    (s : Filling (reductions code (held ddof) starts stops (runs_of es vs)) k₀ k b₀ b i) where
  abbrev all : List Reduction
  all = reductions code (held ddof) starts stops (runs_of es vs)

  many : length all ≡ length starts
  many = rw length-map (length-items starts stops (runs_of es vs) p.intervals)

  pub reducing_next : i < length starts → SFits w64 (get_or starts i (pos 0)) → SFits w64 (get_or stops i (pos 0)) → {r : Reduction}
      → r ≡ reduction code (held ddof) (slice_runs (held (get_or starts i (pos 0))) (held (get_or stops i (pos 0))) (runs_of es vs)) → {x y : ℕ}
      → x ≡ kind_of r → y ≡ bits_of r → Filling all k₀ (set k i x) b₀ (set b i y) (i + 1)
  reducing_next h fs fe er ex ey =
      let slices = interval_runs starts stops (runs_of es vs) in
      let at = er
      ∙ ap₂ (λ (a b : ℤ). reduction code (held ddof) (slice_runs a b (runs_of es vs))) (to_z-of_z fs) (to_z-of_z fe)
      ∙ ap (reduction code (held ddof)) (sym (item_at starts stops (runs_of es vs) i p.intervals h))
      ∙ sym (get_or-map (reduction code (held ddof)) slices i []) in
      filling_next s (rw many h) (rw many p.room_kinds) (rw many p.room_bits) (reduction code (held ddof) []) at ex ey

  pub reducing_end : SFits w64 ddof → i ≡ length starts
      → FilledReductions (reductions code ddof starts stops (runs_of es vs)) k₀ k b₀ b (length starts)
  reducing_end fd e = rw (to_z-of_z fd, e) at (filling_end s (omega (arith, many)))

-- ---- the call

pub reduce-yes : (es vs starts stops : List ℤ) (code : ℕ) (k b : List ℕ)
    → slice_reduce_asked (sequence es vs) starts stops code (length k ∷ length b ∷ []) ≡ None → Reducible (sequence es vs) starts stops k b
unfolding slice_reduce_asked paired
reduce-yes es vs starts stops code k b h =
    let y = all_yes (listed 0 2 code ∷ paired (sequence es vs) ∷ agree 8 (length starts) (length stops) ∷ ends_valid es ∷ intervals starts stops
    ∷ room (both (length starts)) (length k ∷ length b ∷ []) ∷ []) h in
    let r = both_told (length starts) (length k) (length b) y.1.1.1.1.1.0 in
    record {
      valid = y.1.1.1.0;
      paired = agree-told 3 (length es) (length vs) y.1.0;
      intervals = agree-told 8 (length starts) (length stops) y.1.1.0;
      room_kinds = r.0;
      room_bits = r.1;
    }
