-- A run after the used entries of two lent buffers: put there, or merged with the last.
-- Assumes nothing.
use Prim.Native.Nat.{ℕ, zero, suc, ◌+◌, ◌-◌, ◌<◌}
use mathlib.Core.Bool.{true}
use Rattle.std.specs.Prelude.{None}
use mathlib.Core.List.{List}
use mathlib.Core.Path.{◌≡◌, refl, ap, sym, ◌∙◌}
use native.Mathlib.Nat.{le_of_lt, sub-zero}
use native.Mathlib.Omega.{arith}
use lib.IntN.{ℤ, pos, negsuc, ◌+ℤ◌}
use lib.ListN.{length, get_or, take}
use lib.Signed.{le_z}
use borrow.Author.Tests.{eq-eqb, ne_eqb}
use mir.Syntax.{w64}
use mir.Val.{SFits}
use Rattle.column.specs.declared.inner.Writer.{Writer}
use Rattle.column.specs.Lists.{part}
use Rattle.column.specs.Questions.{ends_valid}
use Rattle.column.specs.Runs.{sequence, to_nat, runs_of, length_of_ends, Filled}
use Rattle.column.specs.Workers.{PushedMerged, last_of, Merging}
use Rattle.column.proofs.Encode.{length_push}
use Rattle.column.proofs.Ends.{length_of-ends}
use Rattle.column.proofs.Merging.{merge_more, merge_end}
use Rattle.column.proofs.Naturals.{natural}
use Rattle.column.proofs.Told.{negative_told, fits_told, long-told}
use Rattle.column.proofs.Used.{used_runs, used-paired, used-count, used-filled, used-merging, used-last}
use Rattle.from_runs.specs.Workers.{PutRun}
use Rattle.from_runs.proofs.Runwise.{put_filled}
use Rattle.rle.specs.Calls.{present_length, pushed, extended}
use Rattle.rle.specs.Workers.{Pushable, Extendable}

-- the first entries, as the code takes them
pub first_part : {A : Type 0} (n : ℕ) (xs : List A) → part 0 n xs ≡ take n xs
first_part n xs = ap (λ (k : ℕ). take k xs) (sub-zero n)

module _ (e v : List ℤ) (n : ℕ) where
  abbrev present : ℕ
  present = present_length n (sequence e v)

  -- their length, as the code reads it
  pub present-length : {x : ℤ} {es : List ℤ} → ends_valid (take n e) ≡ None → n < length e → n < length v
      → x ≡ length_of_ends es → es ≡ part 0 n e → x ≡ pos present
  present-length valid le lv ex ep =
      ex ∙ ap length_of_ends (ep ∙ first_part n e) ∙ length_of-ends (take n e) (take n v) valid (used-paired n e v (le_of_lt le) (le_of_lt lv))

  -- ---- push_run

  module _ (run : ℤ) (q : Pushable e v n run) where
    push_natural : run ≡ pos (to_nat run)
    push_natural = natural run (negative_told n run q.natural)

    pub push_sum : {x run' : ℤ} → x ≡ pos present → run' ≡ run → x +ℤ run' ≡ pos (present + to_nat run)
    push_sum ex er = rw (ex, er, push_natural)

    pub push_fits : {x run' : ℤ} → x ≡ pos present → run' ≡ run → SFits w64 (x +ℤ run')
    push_fits ex er = rw (push_sum ex er) (record { sfits = fits_told (present + to_nat run) q.fitting })

    pub push_filled : {e' v' : List ℤ} {run' end value value' : ℤ} {m : ℕ} → run' ≡ run → end ≡ pos (present + to_nat run) → value' ≡ value
        → PutRun e e' v v' n run' end value' m → Filled (pushed (sequence e v) n run value) e e' v v' m
    unfolding pushed
    push_filled er ee ev d =
        let entries = used-filled n e v (le_of_lt q.room_ends) (le_of_lt q.room_values) q.valid in
        let f = put_filled entries present (to_nat run) _ (er ∙ push_natural) ee d q.room_ends q.room_values in
        rw (← push_natural, ev) at f

  -- ---- extend_to

  module _ (requested : ℤ) (q : Extendable e v n requested) where
    reached : (z : ℤ) → le_z (pos present) z ≡ true → z ≡ pos (to_nat z)
    reached (pos k) t = refl
    reached (negsuc k) t = absurd (let w : ◌≡◌ {A = ℕ} 0 1 = cc in omega arith)

    extend_natural : requested ≡ pos (to_nat requested)
    extend_natural = reached requested (long-told requested (pos present) q.long)

    pub extend_same : (value : ℤ) → requested ≡ pos present → Filled (extended (sequence e v) n requested value) e e v v n
    unfolding extended
    extend_same value eq =
        rw (eq, eq-eqb present present refl) (used-filled n e v (le_of_lt q.room_ends) (le_of_lt q.room_values) q.valid)

    module _ {w : Writer} {value : ℤ} (at_last : w.at ≡ n - 1) (alone : n ≡ 0 → w.last ≡ value) (last : 0 < n → w.last ≡ get_or v (n - 1) (pos 0)) where
      last_value : (k : ℕ) → n ≡ k → w.last ≡ last_of value (used_runs n e v (le_of_lt q.room_ends) (le_of_lt q.room_values))
      unfolding last_of runs_of
      last_value zero h = alone h ∙ rw h
      last_value (suc k) h = last (omega arith) ∙ sym (used-last n e v (le_of_lt q.room_ends) (le_of_lt q.room_values) value (omega arith))

      merging : Merging (used_runs n e v (le_of_lt q.room_ends) (le_of_lt q.room_values)) value e v e v w
      merging = used-merging n e v (le_of_lt q.room_ends) (le_of_lt q.room_values) q.valid value at_last (last_value n refl)

      pub extend-filled : {z : ℤ} {e' v' : List ℤ} {next : Writer} → (requested ≡ pos present → ⊥) → z ≡ requested → PushedMerged w z value e e' v v' next
          → Filled (extended (sequence e v) n requested value) e e' v v' (next.at + 1)
      unfolding extended
      extend-filled ne ez d =
          let c = used-count n e v (le_of_lt q.room_ends) (le_of_lt q.room_values) in
          let p = to_nat requested in
          let t : p ≡ present → ⊥ = λ h. ne (extend_natural ∙ ap pos h) in
          let m = merge_more merging value (λ z. refl) p d (ez ∙ extend_natural) refl (rw c q.room_ends) (rw c q.room_values) in
          rw (ne_eqb p present t) (merge_end m (rw (length_push _ p value) (omega arith)))
