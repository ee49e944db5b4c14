-- The sequence of a key: its questions, as the code joins them, and what is promised of it. `at` is the lowest position of the key.
-- Assumes nothing.
use Prim.Native.Nat.{ℕ, ◌≤◌, ◌<◌}
use Rattle.std.specs.Prelude.{Option, Some, None, Result, Ok, IsErrAnd}
use mathlib.Core.List.{List, [], ◌∷◌}
use mathlib.Core.Path.{◌≡◌, refl, ap, sym, ◌∙◌}
use native.Mathlib.Omega.{arith}
use lib.IntN.{ℤ}
use lib.ListN.{length, get_or}
use borrow.Author.Tests.{lt-ltb, le-ltb}
use Rattle.column.specs.declared.error.Refusal.{Refusal}
use Rattle.column.specs.Asking.{Question, first_no}
use Rattle.column.specs.Lists.{parts}
use Rattle.column.specs.Paper.{paper}
use Rattle.column.specs.Questions.{room, both}
use Rattle.column.specs.Runs.{runs_of, ends_of, values_of, over}
use Rattle.column.proofs.Ends.{rising, ends-runs, values-runs}
use Rattle.column.proofs.FirstNo.{goes_on, alone}
use Rattle.column.proofs.Promised.{passed_on}
use Rattle.column.proofs.Told.{both_told}
use Rattle.batch_index.specs.Calls.{lowest}
use Rattle.batch_index.proofs.Lowest.{lowest-within}
use Rattle.batch.specs.Batch.{batch, entries, batch_valid, find}
use Rattle.batch.specs.Calls.{get, WrittenGot}
use Rattle.batch.specs.Workers.{ValidBatch}
use Rattle.batch.proofs.Asks.{valid-told}
use Rattle.batch.proofs.Entries.{find_is, has_is, column_is, column-count, part-valid, parts-paired}

-- the questions
abbrev pub get_asked : List ℕ → List ℕ → List ℤ → List ℤ → ℕ → ℕ → ℕ → Question
get_asked ks os es vs key e v = first_no (batch_valid (batch ks os es vs) ∷ room (both (length (find key (entries (batch ks os es vs))))) (e ∷ v ∷ []) ∷ [])

module _ (ks os : List ℕ) (es vs : List ℤ) (key : ℕ) {at : ℕ} (ea : at ≡ lowest key ks) where
  module _ (w : ValidBatch (batch ks os es vs)) where
    pub found : find key (entries (batch ks os es vs)) ≡ runs_of (get_or (parts os es) at []) (get_or (parts os vs) at [])
    found = rw ea (find_is ks os es vs w key ∙ column_is ks os es vs w (lowest key ks))

    pub found-count : length (get_or (parts os es) at []) ≡ length (find key (entries (batch ks os es vs)))
    found-count = rw ea (sym (column-count ks os es vs w (lowest key ks)) ∙ ap length (sym (find_is ks os es vs w key)))

    found-ends : ends_of (find key (entries (batch ks os es vs))) ≡ get_or (parts os es) at []
    found-ends = ap ends_of found ∙ ends-runs 0 _ _ (rising _ (part-valid ks os es vs w at)) (parts-paired ks os es vs w at)

    found-values : values_of (find key (entries (batch ks os es vs))) ≡ get_or (parts os vs) at []
    found-values = ap values_of found ∙ values-runs _ _ (parts-paired ks os es vs w at)

  -- a "no" to either question
  pub get-refused : (r : Result (Option ℕ) Refusal) (x : Refusal) (e v : List ℤ) → IsErrAnd r (λ (y : Refusal). y ≡ x)
      → Some (paper x) ≡ get_asked ks os es vs key (length e) (length v) → WrittenGot (get (batch ks os es vs) key (length e ∷ length v ∷ [])) r e e v v
  unfolding get
  get-refused r x e v h f = rw (sym f, passed_on r x h) (record { answer = refl; ends = refl; values = refl })

  -- what is read at that position
  module _ {fe fv : List ℤ} (ee : fe ≡ get_or (parts os es) at []) (ev : fv ≡ get_or (parts os vs) at []) where
    module _ (e v : List ℤ) (valid : None ≡ batch_valid (batch ks os es vs)) where
      abbrev told : ValidBatch (batch ks os es vs)
      told = valid-told ks os es vs (sym valid)

      -- the room is asked for as many as were found
      pub room-asked : {q : Question} → q ≡ room (both (length fe)) (length e ∷ length v ∷ []) → q ≡ get_asked ks os es vs key (length e) (length v)
      room-asked k =
          goes_on _ valid (k ∙ ap (λ (n : ℕ). room (both n) (length e ∷ length v ∷ [])) (ap length ee ∙ found-count told) ∙ sym (alone _))

      module _ (fits : None ≡ room (both (length fe)) (length e ∷ length v ∷ [])) where
        pub get-room : (length fe ≤ length e) × (length fv ≤ length v)
        get-room =
            let r = both_told (length fe) (length e) (length v) (sym fits) in
            let n : length fe ≡ length fv = ap length ee ∙ parts-paired ks os es vs told at ∙ ap length (sym ev) in
            (r.0, omega (arith, r.1))

        pub got-nothing : at ≡ length ks → WrittenGot (get (batch ks os es vs) key (length e ∷ length v ∷ [])) (Ok None) e e v v
        unfolding get over ends_of values_of
        got-nothing h = rw (sym (room-asked fits), has_is ks os es vs told key, le-ltb (lowest key ks) (length ks) (omega (arith, h, ea)))
            (record { answer = refl; ends = refl; values = refl })

        pub got-runs : {e' v' : List ℤ} → (at ≡ length ks → ⊥) → e' ≡ over fe e → v' ≡ over fv v
            → WrittenGot (get (batch ks os es vs) key (length e ∷ length v ∷ [])) (Ok (Some (length fe))) e e' v v'
        unfolding get
        got-runs h be bv =
            let ne : lowest key ks ≡ length ks → ⊥ = λ z. h (ea ∙ z) in
            let l : lowest key ks < length ks = omega (arith, lowest-within key ks, ne) in
            let m : length fe ≡ length (find key (entries (batch ks os es vs))) = ap length ee ∙ found-count told in
            rw (sym (room-asked fits), has_is ks os es vs told key, lt-ltb (lowest key ks) (length ks) l)
            (record {
              answer = rw m;
              ends = be ∙ ap (λ (l : List ℤ). over l e) (ee ∙ sym (found-ends told));
              values = bv ∙ ap (λ (l : List ℤ). over l v) (ev ∙ sym (found-values told));
            })
