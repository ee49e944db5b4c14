-- The touched runs written one after another, each cut to the slice.
-- Assumes nothing.
use Rattle.std.proofs.Common.{◌≡◌, ℕ, zero, suc, ◌+◌, ◌^◌, ◌<◌, ◌≤◌, min, List, [], ◌∷◌, ◌++◌, length, get_or, take, drop, set, ℤ, pos, ◌-ℤ◌, sym}
use Rattle.std.proofs.Common.{refl, ap, ◌∙◌, ap₂, add-one, arith, length-drop, length-take-le, get_or-drop, take_all, get_or-take, take-suc, w64}
use Rattle.std.proofs.Common.{SFits, to_z, of_z, to_z-of_z}
use lib.ListN.{length-map, get_or-map}
use lib.Signed.{mag}
use Rattle.num.specs.Numbers.{smaller_of}
use Rattle.column.specs.Runs.{Run, to_nat, runs_of, ends_of, values_of, Filled}
use Rattle.column.proofs.Buffer.{Written, write_start, write_next}
use Rattle.column.proofs.Ends.{length_runs}
use Rattle.column.proofs.Naturals.{smaller_naturals}
use Rattle.slice.specs.declared.inner.search.TouchedRuns.{TouchedRuns}
use Rattle.slice.specs.Workers.{clipped, cut_runs, Touches}
use Rattle.num.proofs.Bits.{back}
use Rattle.num.proofs.Difference.{difference_of, difference-fits}

-- the run at an index
abbrev pub run_at : List ℤ → List ℤ → ℕ → Run
run_at es vs i = record { end = to_nat (get_or es i (pos 0)); value = get_or vs i (pos 0) }

pub run_at_lem : (es vs : List ℤ) (i : ℕ) (d : Run) → length es ≡ length vs → i < length es → get_or (runs_of es vs) i d ≡ run_at es vs i
unfolding runs_of
run_at_lem [] vs i d l h = let z : ⊥ = omega arith in absurd z
run_at_lem (e ∷ es) [] i d l h = let z : ⊥ = omega arith in absurd z
run_at_lem (e ∷ es) (v ∷ vs) zero d l h = refl
run_at_lem (e ∷ es) (v ∷ vs) (suc i) d l h = run_at_lem es vs i d (omega arith) (omega arith)

abbrev pub end_of : Run → ℤ
end_of r = pos r.end

abbrev pub value_of : Run → ℤ
value_of r = r.value

-- n of them are written
pub record Slicing (t : TouchedRuns) (es vs e₀ e v₀ v : List ℤ) (n : ℕ) : Type 0 where
  pub within : n ≤ t.count
  pub ends : Written end_of (take n (cut_runs t (runs_of es vs))) e₀ e n
  pub values : Written value_of (take n (cut_runs t (runs_of es vs))) v₀ v n

module _ {t : TouchedRuns} {es vs e₀ v₀ : List ℤ} (h : Touches t es vs e₀ v₀) where
  pub length_cut : length (cut_runs t (runs_of es vs)) ≡ t.count
  unfolding cut_runs
  length_cut =
      let l = length_runs es vs h.paired in
      rw length-map (length-take-le t.count (drop t.first (runs_of es vs)) (rw length-drop (omega (arith, h.inside))))

  cut_at : (n : ℕ) (d : Run) → n < t.count → get_or (cut_runs t (runs_of es vs)) n (clipped (to_nat t.start) (to_nat t.end) d)
      ≡ clipped (to_nat t.start) (to_nat t.end) (run_at es vs (t.first + n))
  unfolding cut_runs
  cut_at n d k =
      get_or-map (clipped (to_nat t.start) (to_nat t.end)) (take t.count (drop t.first (runs_of es vs))) n d
      ∙ ap (clipped (to_nat t.start) (to_nat t.end))
      (get_or-take t.count (drop t.first (runs_of es vs)) n d k
      ∙ get_or-drop t.first (runs_of es vs) n d
      ∙ run_at_lem es vs (t.first + n) d h.paired (omega (arith, h.inside)))

  pub slicing_start : Slicing t es vs e₀ e₀ v₀ v₀ 0
  slicing_start = record { within = omega arith; ends = write_start end_of e₀; values = write_start value_of v₀ }

  -- the next: its end less the start
  module _ (n : ℕ) (k : n < t.count) where
    abbrev next : Run
    next = clipped (to_nat t.start) (to_nat t.end) (run_at es vs (t.first + n))

    next-end-natural : get_or es (t.first + n) (pos 0) ≡ pos (to_nat (get_or es (t.first + n) (pos 0)))
    next-end-natural = h.naturals (t.first + n) (omega (arith, h.inside))

    take_next : take (n + 1) (cut_runs t (runs_of es vs)) ≡ take n (cut_runs t (runs_of es vs)) ++ next ∷ []
    take_next =
        let d = run_at es vs 0 in
        ap (λ (m : ℕ). take m (cut_runs t (runs_of es vs))) (add-one n)
        ∙ take-suc (cut_runs t (runs_of es vs)) n (clipped (to_nat t.start) (to_nat t.end) d) (rw length_cut k)
        ∙ ap (λ (r : Run). take n (cut_runs t (runs_of es vs)) ++ r ∷ []) (cut_at n d k)

    -- what the locals hold
    abbrev end_at : ℤ
    end_at = get_or es (t.first + n) (pos 0)

    abbrev held : ℤ → ℤ
    held z = to_z w64 (of_z w64 z)

    module _ {a b y : ℤ} (ey : y ≡ smaller_of (held end_at) b) (fy : mag y < 2 ^ 63) (fx : SFits w64 end_at) (ea : a ≡ t.start) (eb : b ≡ t.end) where
      smaller_natural : held y ≡ pos (min (to_nat end_at) (to_nat t.end))
      smaller_natural =
          back y fy ∙ ey ∙ ap₂ smaller_of (to_z-of_z fx ∙ next-end-natural) (eb ∙ h.end_natural) ∙ smaller_naturals (to_nat end_at) (to_nat t.end)

      start_natural : a ≡ pos (to_nat t.start)
      start_natural = ea ∙ h.start_natural

      start-below : to_nat t.start ≤ min (to_nat end_at) (to_nat t.end)
      start-below = omega (arith, h.above n k, h.ordered)

      pub next_fits : SFits w64 (held y -ℤ a)
      next_fits = difference-fits smaller_natural start_natural start-below (rw (sym (back y fy) ∙ smaller_natural) at fy)

      pub slicing-next : {e v : List ℤ} → Slicing t es vs e₀ e v₀ v n → {w : ℤ} → w ≡ get_or vs (t.first + n) (pos 0)
          → Slicing t es vs e₀ (set e n (to_z w64 (of_z w64 (held y -ℤ a)))) v₀ (set v n w) (n + 1)
      slicing-next s ew =
          let ez = to_z-of_z next_fits ∙ difference_of smaller_natural start_natural start-below in
          record {
            within = omega arith;
            ends = rw take_next (write_next end_of s.ends (omega (arith, h.room_ends)) next ez);
            values = rw take_next (write_next value_of s.values (omega (arith, h.room_values)) next ew);
          }

  module _ {e v : List ℤ} {n : ℕ} (s : Slicing t es vs e₀ e v₀ v n) where
    pub slicing-end : t.count ≤ n → Filled (cut_runs t (runs_of es vs)) e₀ e v₀ v t.count
    unfolding ends_of values_of
    slicing-end k =
        let w = s.within in
        let e : n ≡ t.count = omega arith in
        let all : take n (cut_runs t (runs_of es vs)) ≡ cut_runs t (runs_of es vs) = take_all n (cut_runs t (runs_of es vs)) (rw length_cut k) in
        record { count = sym length_cut; ends = rw all at s.ends.entries; values = rw all at s.values.entries }
