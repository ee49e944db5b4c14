-- A loop that writes merged runs: `rs` are the runs so far and w the writer after them; `first` is the first value of all.
-- Assumes nothing.
use Prim.Native.Nat.{ℕ, ◌+◌, ◌≤◌, ◌<◌}
use mathlib.Core.List.{List, []}
use mathlib.Core.Path.{◌≡◌, refl, ap, sym, ◌∙◌}
use native.Mathlib.Omega.{arith}
use lib.IntN.{ℤ, pos}
use lib.ListN.{length, length-set}
use Rattle.column.specs.declared.inner.Writer.{Writer}
use Rattle.column.specs.Runs.{Runs, ends_of, values_of, over, Filled, push_merged}
use Rattle.column.specs.Workers.{next_place, PushedMerged, last_of, Merging}
use Rattle.column.proofs.Buffer.{over_store}
use Rattle.column.proofs.Encode.{place_le, le_place, place-last, length_push, last_push, ends_push, values_push}
use Rattle.column.proofs.Pushed.{place}
use Rattle.column.proofs.Sequences.{length-ends, length-values}

pub merge_start : (first : ℤ) (e₀ v₀ : List ℤ) → Merging [] first e₀ v₀ e₀ v₀ (record { at = 0; last = first })
unfolding ends_of values_of over last_of
merge_start first e₀ v₀ = record { ends = refl; values = refl; long_ends = refl; long_values = refl; at_last = refl; last_value = refl }

-- no runs: nothing is written
pub fill_none : (e₀ v₀ : List ℤ) → Filled [] e₀ e₀ v₀ v₀ 0
unfolding ends_of values_of over
fill_none e₀ v₀ = record { count = refl; ends = refl; values = refl }

module _ {rs : Runs} {first : ℤ} {e₀ v₀ e v : List ℤ} {w : Writer} (m : Merging rs first e₀ v₀ e v w) where
  pub merge_end : 0 < length rs → Filled rs e₀ e v₀ v (w.at + 1)
  merge_end h = record { count = omega (arith, m.at_last); ends = m.ends; values = m.values }

  -- x is the next value
  module _ (x : ℤ) (start : length rs ≡ 0 → first ≡ x) where
    merge_place : next_place w x ≡ place rs x
    merge_place = rw (m.last_value, m.at_last) (sym (place-last first rs x start))

    -- its run goes at most as far as there are runs
    pub merge_at : next_place w x ≤ length rs
    merge_at = rw merge_place (place_le rs x)

    -- one more run, up to p
    pub merge_more : {z : ℤ} {e' v' : List ℤ} {next : Writer} {rs' : Runs} (p : ℕ) → PushedMerged w z x e e' v v' next → z ≡ pos p → rs' ≡ push_merged rs p x
        → length rs < length e₀ → length rs < length v₀ → Merging rs' first e₀ v₀ e' v' next
    merge_more p d ez er room_e room_v =
        let low = place_le rs x in
        let high = le_place rs x in
        rw er
        (record {
          ends = d.ends ∙ rw (m.ends, merge_place, ez)
              (over_store (ends_of rs) e₀ (place rs x) (pos p) (rw (length-ends rs) low) (rw (length-ends rs) high) (omega arith)
              ∙ ap (λ (l : List ℤ). over l e₀) (sym (ends_push rs p x)));
          values = d.values ∙ rw (m.values, merge_place)
              (over_store (values_of rs) v₀ (place rs x) x (rw (length-values rs) low) (rw (length-values rs) high) (omega arith)
              ∙ ap (λ (l : List ℤ). over l v₀) (sym (values_push rs p x)));
          long_ends = ap length d.ends ∙ rw length-set m.long_ends;
          long_values = ap length d.values ∙ rw length-set m.long_values;
          at_last = d.place ∙ rw merge_place (omega (arith, length_push rs p x));
          last_value = d.last ∙ sym (last_push first rs p x);
        })
