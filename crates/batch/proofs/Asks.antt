-- What the questions of a batch tell.
-- Assumes nothing.
use Prim.Native.Nat.{ℕ, ◌+◌, ◌≤◌, ◌<◌, ◌^◌}
use Rattle.std.specs.Prelude.{Some, None, Result, Ok, Err, ⊤}
use mathlib.Core.List.{List, [], ◌∷◌}
use mathlib.Core.Path.{◌≡◌, refl, sym, ◌∙◌}
use native.Mathlib.Omega.{arith}
use lib.IntN.{ℤ}
use lib.ListN.{length}
use Rattle.num.specs.Numbers.{saturated}
use Rattle.column.specs.declared.error.Refusal.{Refusal}
use Rattle.column.specs.Asking.{Question, shown_asked, first_no, ◌otherwise◌}
use Rattle.column.specs.Paper.{PaperRefusal, outcome_of}
use Rattle.column.specs.Questions.{paired, room_at, room}
use Rattle.column.proofs.FirstNo.{all_yes}
use Rattle.column.proofs.Told.{agree-told, room-told}
use Rattle.column.proofs.YesNo.{room-each, room-saturated}
use Rattle.batch.specs.Batch.{Batch, batch, keyed, lengths_asked, content_asked, batch_valid, batch_needs, both_lengths, both_content, both_valid}
use Rattle.batch.specs.Workers.{ValidBatch}

-- what a call that only checks answers
pub checked : (r : Result ⊤ Refusal) {q : Question} → shown_asked r ≡ q → outcome_of r ≡ q otherwise tt
checked (Ok x) h = rw (sym h) refl
checked (Err e) h = rw (sym h) refl

-- a "no" to the first of several questions
pub first-refused : {r : PaperRefusal} {q : Question} (qs : List Question) → Some r ≡ q → Some r ≡ first_no (q ∷ qs)
first-refused qs h = rw (sym h) refl

-- what 2 and what 3
lengths-told : (ks os : List ℕ) (es vs : List ℤ) → first_no (lengths_asked (batch ks os es vs)) ≡ None → (length os ≡ length ks + 1) × (length es ≡ length vs)
unfolding keyed paired
lengths-told ks os es vs h =
    let y = all_yes (lengths_asked (batch ks os es vs)) h in
    (agree-told 2 (length os) (length ks + 1) y.0, agree-told 3 (length es) (length vs) y.1.0)

-- 2, 3 and 4
pub batch-told : (ks os : List ℕ) (es vs : List ℤ) → first_no (lengths_asked (batch ks os es vs)) ≡ None → first_no (content_asked (batch ks os es vs)) ≡ None
    → ValidBatch (batch ks os es vs)
batch-told ks os es vs h k =
    let l = lengths-told ks os es vs h in
    let y = all_yes (content_asked (batch ks os es vs)) k in
    record { keyed = l.0; paired = l.1; offsets = y.0; valid = y.1.0 }

pub valid-told : (ks os : List ℕ) (es vs : List ℤ) → batch_valid (batch ks os es vs) ≡ None → ValidBatch (batch ks os es vs)
unfolding batch_valid
valid-told ks os es vs h =
    let y = all_yes (first_no (lengths_asked (batch ks os es vs)) ∷ first_no (content_asked (batch ks os es vs)) ∷ []) h in
    batch-told ks os es vs y.0 y.1.0

-- ---- of two batches

module _ (ka oa : List ℕ) (ea va : List ℤ) (kb ob : List ℕ) (eb vb : List ℤ) where
  abbrev first : Batch
  first = batch ka oa ea va

  abbrev second : Batch
  second = batch kb ob eb vb

  pub both_told : both_valid first second ≡ None → ValidBatch first × ValidBatch second
  unfolding both_valid keyed paired
  both_told h =
      let y = all_yes (first_no (both_lengths first second) ∷ first_no (both_content first second) ∷ []) h in
      let l = all_yes (both_lengths first second) y.0 in
      let c = all_yes (both_content first second) y.1.0 in (
        record {
          keyed = agree-told 2 (length oa) (length ka + 1) l.0;
          paired = agree-told 3 (length ea) (length va) l.1.1.0;
          offsets = c.0;
          valid = c.1.1.0;
        },
        record {
          keyed = agree-told 2 (length ob) (length kb + 1) l.1.0;
          paired = agree-told 3 (length eb) (length vb) l.1.1.1.0;
          offsets = c.1.0;
          valid = c.1.1.1.0;
        },
      )

-- ---- 12, of the four buffers of a batch

module _ (keys runs k x e v : ℕ) where
  -- what the four tell
  pub record Room : Type 0 where
    pub for_keys : keys ≤ k
    pub for_offsets : keys + 1 ≤ x
    pub for_ends : runs ≤ e
    pub for_values : runs ≤ v

  pub batch-room : room (batch_needs keys runs) (k ∷ x ∷ e ∷ v ∷ []) ≡ None → Room
  batch-room h =
      let y = all_yes (room_at 0 keys k ∷ room_at 1 (keys + 1) x ∷ room_at 2 runs e ∷ room_at 3 runs v ∷ [])
      (sym (room-each (batch_needs keys runs) (k ∷ x ∷ e ∷ v ∷ [])) ∙ h) in
      record {
        for_keys = room-told 0 keys k y.0;
        for_offsets = room-told 1 (keys + 1) x y.1.0;
        for_ends = room-told 2 runs e y.1.1.0;
        for_values = room-told 3 runs v y.1.1.1.0;
      }

  -- a number of runs that saturates at 2^64 − 1 asks the same
  pub saturated-room : e < 2 ^ 63 → v < 2 ^ 63 → room (batch_needs keys (saturated runs)) (k ∷ x ∷ e ∷ v ∷ []) ≡ room (batch_needs keys runs) (k ∷ x ∷ e ∷ v ∷ [])
  saturated-room he hv =
      room-each (batch_needs keys (saturated runs)) (k ∷ x ∷ e ∷ v ∷ [])
      ∙ rw (room-saturated 2 runs e (omega arith), room-saturated 3 runs v (omega arith)) (sym (room-each (batch_needs keys runs) (k ∷ x ∷ e ∷ v ∷ [])))
