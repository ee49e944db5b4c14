-- The questions of plan_many, what a "yes" to all of them tells, and what is promised then.
-- Assumes nothing.
use Prim.Native.Nat.{ℕ, ◌*◌, ◌-◌, ◌≤◌, ◌<◌, ◌^◌}
use Rattle.std.specs.Prelude.{Some, None, Result, Ok, IsErrAnd}
use mathlib.Core.List.{List, [], ◌∷◌, ◌++◌, map}
use mathlib.Core.Path.{◌≡◌, refl, ap, ap₂, sym, ◌∙◌}
use lib.IntN.{ℤ}
use lib.ListN.{length}
use Rattle.num.specs.Numbers.{saturated}
use Rattle.column.specs.declared.error.Refusal.{Refusal}
use Rattle.column.specs.Asking.{Question, first_no, ◌otherwise◌}
use Rattle.column.specs.Flat.{Flat, flat, count, columns, flat_asked}
use Rattle.column.specs.Paper.{answers, paper}
use Rattle.column.specs.Questions.{paired, offsets_valid, sequences_valid, at_most, room_at, room}
use Rattle.column.proofs.FirstNo.{AllYes, all_yes}
use Rattle.column.proofs.Promised.{passed_on}
use Rattle.column.proofs.Told.{agree-told, most-told, room-told}
use Rattle.column.proofs.YesNo.{room-each, room-saturated}
use Rattle.plan.specs.Calls.{Segment, ends_in, segments}
use Rattle.many.specs.declared.Planned.{Planned}
use Rattle.many.specs.Calls.{most_columns, plan_many_asked, WrittenPlanMany}
use Rattle.many.specs.Workers.{Plannable, PlanManyFilled}
use Rattle.many.proofs.Flats.{ends-columns}
use Rattle.many.proofs.Walking.{ends_of_parts}

-- 12 for n indexes of each of k columns: the code's product saturates
pub indexes-asked : (n k x : ℕ) {q : Question} {j m : ℕ} → j ≡ k → m ≡ saturated (n * j) → q ≡ room_at 1 m x → x < 2 ^ 64 - 1 → q ≡ room_at 1 (n * k) x
indexes-asked n k x ej em e small = e ∙ rw (em, ej) (room-saturated 1 (n * k) x small)

module _ (os : List ℕ) (es vs : List ℤ) where
  abbrev f : Flat
  f = flat os es vs

  abbrev most : Question
  most = at_most most_columns (count f)

  abbrev needs : List ℕ
  needs = length es ∷ length es * count f ∷ []

  -- what a "yes" to the questions of a many_way call tells
  pub flat-yes : (qs : List Question) → first_no (flat_asked f ++ most ∷ qs) ≡ None
      → (length es ≡ length vs) × (offsets_valid os (length es) ≡ None) × (sequences_valid os es ≡ None) × (length os - 1 ≤ most_columns) × AllYes qs
  unfolding paired
  flat-yes qs h =
      let y = all_yes (flat_asked f ++ most ∷ qs) h in
      (agree-told 3 (length es) (length vs) y.0, y.1.0, y.1.1.0, most-told most_columns (count f) y.1.1.1.0, y.1.1.1.1)

  pub plan-many-yes : (e : List ℤ) (x : List ℕ) → plan_many_asked f (length e ∷ length x ∷ []) ≡ None → Plannable os es vs e x
  unfolding plan_many_asked
  plan-many-yes e x h =
      let y = flat-yes (room needs (length e ∷ length x ∷ []) ∷ []) h in
      let r = all_yes (room_at 0 (length es) (length e) ∷ room_at 1 (length es * count f) (length x) ∷ [])
      (sym (room-each needs (length e ∷ length x ∷ [])) ∙ y.4.0) in
      record {
        paired = y.0;
        offsets = y.1;
        valid = y.2;
        columns = y.3;
        room_ends = room-told 0 (length es) (length e) r.0;
        room_indexes = room-told 1 (length es * count f) (length x) r.1.0;
      }

  -- the segments, by the ends as they are handed in
  pub plan-many-segments : (buffers : List ℕ) → plan_many_asked f buffers ≡ None → segments (map ends_in (columns f)) ≡ segments (ends_of_parts os es)
  unfolding plan_many_asked
  plan-many-segments buffers h = let y = flat-yes (room needs buffers ∷ []) h in ap segments (ends-columns os es vs y.0 y.2)

-- ---- what is promised

pub plan-many-written : {q : Question} {ss ss' : List Segment} {r : Planned} {e e' : List ℤ} {x x' : List ℕ} → q ≡ None → ss ≡ ss'
    → PlanManyFilled ss' e e' x x' r
    → WrittenPlanMany (q otherwise ss) (Ok r) e e' x x'
plan-many-written h s p = rw (h, s) (record {
  answer = ap₂ (λ (n m : ℕ). answers (record { segments = n; indexes = m })) p.segments p.indexes;
  ends = p.ends_written;
  indexes = p.indexes_written;
})

pub plan-many-refused : {q : Question} (ss : List Segment) (r : Result Planned Refusal) (e : Refusal) {b : List ℤ} {x : List ℕ}
    → IsErrAnd r (λ (y : Refusal). y ≡ e) → Some (paper e) ≡ q → WrittenPlanMany (q otherwise ss) r b b x x
plan-many-refused ss r e h f = rw (sym f, passed_on r e h) (record { answer = refl; ends = refl; indexes = refl })
