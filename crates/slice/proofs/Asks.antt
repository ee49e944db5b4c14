-- The questions of each call, as the code joins them: what is needed is counted before they are put, and counts only where the ends are valid.
-- Assumes nothing.
use Rattle.std.proofs.Common.{◌≡◌, ℕ, List, [], ◌∷◌, length, ℤ, sym, refl, ap, ◌∙◌, w64, SFits, to_z, of_z, to_z-of_z}
use Rattle.std.specs.Prelude.{Some, None, Result, Ok, IsErrAnd}
use Rattle.column.specs.declared.error.Refusal.{Refusal}
use Rattle.column.specs.Paper.{paper, WrittenRuns}
use Rattle.column.specs.Questions.{paired, ends_valid, room, both, sequence_asked}
use Rattle.column.specs.Runs.{sequence, runs_of, Filled}
use Rattle.column.proofs.Promised.{runs-written, runs-refused}
use Rattle.column.proofs.FirstNo.{first_several}
use Rattle.column.proofs.Told.{sequence-asked, sequence-told}
use Rattle.slice.specs.declared.inner.search.TouchedRuns.{TouchedRuns}
use Rattle.slice.specs.Workers.{touched_by, cut_runs, Touches}
use Rattle.slice.specs.Calls.{slice_runs, slice}
use Rattle.slice.proofs.Touching.{cut_touched, touches, touched_count}

sequence_need : (es vs : List ℤ) (m n : ℕ) → (length es ≡ length vs → ends_valid es ≡ None → m ≡ n) → (e v : ℕ)
    → sequence_asked (sequence es vs) m (e ∷ v ∷ []) ≡ sequence_asked (sequence es vs) n (e ∷ v ∷ [])
unfolding sequence_asked
sequence_need es vs m n h e v =
    sequence-asked es vs n e v (first_several (paired (sequence es vs) ∷ ends_valid es ∷ []) (room (both m) (e ∷ v ∷ []) ∷ [])) refl
    (λ p y. ap (λ (k : ℕ). room (both k) (e ∷ v ∷ [])) (h p y))

-- ---- a slice: t is what the code found

module _ (start end : ℤ) (es vs : List ℤ) {t : TouchedRuns} (et : ends_valid es ≡ None → t ≡ touched_by start end es) where
  slice-asked : (e v : ℕ) → sequence_asked (sequence es vs) t.count (e ∷ v ∷ [])
      ≡ sequence_asked (sequence es vs) (length (slice_runs start end (runs_of es vs))) (e ∷ v ∷ [])
  slice-asked = sequence_need es vs t.count (length (slice_runs start end (runs_of es vs)))
      (λ p y. ap (λ (r : TouchedRuns). r.count) (et y) ∙ touched_count start end es vs y p)

  slice-yes : (e v : List ℤ) → sequence_asked (sequence es vs) t.count (length e ∷ length v ∷ []) ≡ None → Touches t es vs e v
  slice-yes e v h =
      let y = sequence-told es vs t.count (length e) (length v) h in
      let r = et y.0 in
      rw r (touches start end es vs e v y.0 y.1 (rw r at y.2) (rw r at y.3))

  pub slice-filled : {e e' v v' : List ℤ} {n : ℕ} → ends_valid es ≡ None → length es ≡ length vs
      → Filled (cut_runs t (runs_of es vs)) e e' v v' n → Filled (slice_runs start end (runs_of es vs)) e e' v v' n
  slice-filled y p f = rw (et y, cut_touched start end es vs y p) at f

-- as the code found it, by its locals
module _ {start end : ℤ} (es vs : List ℤ) {t : TouchedRuns} (fs : SFits w64 start) (fe : SFits w64 end)
    (et : ends_valid es ≡ None → t ≡ touched_by (to_z w64 (of_z w64 start)) (to_z w64 (of_z w64 end)) es) where
  found : ends_valid es ≡ None → t ≡ touched_by start end es
  found = rw (to_z-of_z fs, to_z-of_z fe) at et

  module _ {e v : List ℤ} (y : None ≡ sequence_asked (sequence es vs) t.count (length e ∷ length v ∷ [])) where
    pub slice-touches : Touches t es vs e v
    slice-touches = slice-yes start end es vs found e v (sym y)

    pub slice-written : {e' v' : List ℤ} {n : ℕ} → Filled (cut_runs t (runs_of es vs)) e e' v v' n
        → WrittenRuns (slice (sequence es vs) start end (length e ∷ length v ∷ [])) (Ok n) e e' v v'
    unfolding slice
    slice-written f =
        let k = sequence-told es vs t.count (length e) (length v) (sym y) in
        runs-written (slice_runs start end (runs_of es vs)) (sym (slice-asked start end es vs found (length e) (length v)) ∙ sym y)
        (slice-filled start end es vs found k.0 k.1 f)

  pub slice-refused : {e v : List ℤ} (r : Result ℕ Refusal) (x : Refusal) → IsErrAnd r (λ (z : Refusal). z ≡ x)
      → Some (paper x) ≡ sequence_asked (sequence es vs) t.count (length e ∷ length v ∷ [])
      → WrittenRuns (slice (sequence es vs) start end (length e ∷ length v ∷ [])) r e e v v
  unfolding slice
  slice-refused {e} {v} r x h q =
      runs-refused (slice_runs start end (runs_of es vs)) r x h (q ∙ slice-asked start end es vs found (length e) (length v))
