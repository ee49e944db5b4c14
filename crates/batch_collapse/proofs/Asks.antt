-- What the questions of collapse tell.
-- Assumes nothing.
use Prim.Native.Nat.{ℕ, ◌+◌, ◌*◌, ◌≤◌}
use mathlib.Core.Bool.{Bool, true}
use Rattle.std.specs.Prelude.{Some, None, Option}
use mathlib.Core.List.{List, [], ◌∷◌, ◌++◌}
use mathlib.Core.Path.{◌≡◌, ap, sym, ◌∙◌}
use lib.IntN.{ℤ}
use lib.ListN.{length}
use Rattle.num.specs.Numbers.{operation}
use Rattle.column.specs.Asking.{Question, first_no}
use Rattle.column.specs.Paper.{PaperRefusal}
use Rattle.column.specs.Questions.{listed, agree, room_at, room, both}
use Rattle.column.proofs.FirstNo.{all_yes, goes_on, alone, first_several}
use Rattle.column.proofs.Told.{agree-told, room-told}
use Rattle.column.proofs.YesNo.{room-each}
use Rattle.batch.specs.Batch.{batch, lengths_asked, content_asked, batch_needs}
use Rattle.batch.specs.Workers.{ValidBatch}
use Rattle.batch.proofs.Asks.{batch-told, first-refused}
use Rattle.batch_keys.specs.Calls.{once}
use Rattle.batch_collapse.specs.Calls.{collapse_asked, filled_groups, renamed, collapse_needs}
use Rattle.batch_collapse.specs.Workers.{Together, Grouped, CollapseRoom}

module _ (ks os : List ℕ) (es vs : List ℤ) (new_keys : List ℕ) (code : ℕ) where
  pub collapse-told : collapse_asked (batch ks os es vs) new_keys code ≡ None → ValidBatch (batch ks os es vs) × (length new_keys ≡ length ks)
  unfolding collapse_asked
  collapse-told h =
      let y = all_yes (listed 0 9 code ∷ first_no (lengths_asked (batch ks os es vs)) ∷ agree 4 (length new_keys) (length ks)
      ∷ first_no (content_asked (batch ks os es vs)) ∷ []) h in
      (batch-told ks os es vs y.1.0 y.1.1.1.0, agree-told 4 (length new_keys) (length ks) y.1.1.0)

  pub grouped : {together : Bool} → collapse_asked (batch ks os es vs) new_keys code ≡ None → (together ≡ true → Together new_keys)
      → Grouped (batch ks os es vs) new_keys together
  grouped h f = let y = collapse-told h in record { valid = y.0; renamed = y.1; known = f }

-- ---- 12, of the four buffers of a batch and of a scratch pair

-- those of the batch put as one
pub rooms-together : (keys offsets runs scratch k x e v s t : ℕ)
    → first_no (room (keys ∷ offsets ∷ both runs) (k ∷ x ∷ e ∷ v ∷ []) ∷ room_at 4 scratch s ∷ room_at 5 scratch t ∷ [])
    ≡ room ((keys ∷ offsets ∷ both runs) ++ both scratch) (k ∷ x ∷ e ∷ v ∷ s ∷ t ∷ [])
rooms-together keys offsets runs scratch k x e v s t =
    let four = room_at 0 keys k ∷ room_at 1 offsets x ∷ room_at 2 runs e ∷ room_at 3 runs v ∷ [] in
    let pair = room_at 4 scratch s ∷ room_at 5 scratch t ∷ [] in
    ap (λ (q : Question). first_no (q ∷ pair)) (room-each (keys ∷ offsets ∷ both runs) (k ∷ x ∷ e ∷ v ∷ []))
    ∙ sym (first_several four pair)
    ∙ sym (room-each ((keys ∷ offsets ∷ both runs) ++ both scratch) (k ∷ x ∷ e ∷ v ∷ s ∷ t ∷ []))

module _ (keys runs k x e v s t : ℕ) where
  abbrev six : List Question
  six = room_at 0 keys k ∷ room_at 1 (keys + 1) x ∷ room_at 2 runs e ∷ room_at 3 runs v ∷ room_at 4 (2 * runs) s ∷ room_at 5 (2 * runs) t ∷ []

  -- what the six tell
  pub record Rooms : Type 0 where
    pub for_keys : keys ≤ k
    pub for_offsets : keys + 1 ≤ x
    pub for_ends : runs ≤ e
    pub for_values : runs ≤ v
    pub for_scratch_ends : 2 * runs ≤ s
    pub for_scratch_values : 2 * runs ≤ t

  pub rooms-told : room (batch_needs keys runs ++ both (2 * runs)) (k ∷ x ∷ e ∷ v ∷ s ∷ t ∷ []) ≡ None → Rooms
  rooms-told h =
      let y = all_yes six (sym (room-each (batch_needs keys runs ++ both (2 * runs)) (k ∷ x ∷ e ∷ v ∷ s ∷ t ∷ [])) ∙ h) in
      record {
        for_keys = room-told 0 keys k y.0;
        for_offsets = room-told 1 (keys + 1) x y.1.0;
        for_ends = room-told 2 runs e y.1.1.0;
        for_values = room-told 3 runs v y.1.1.1.0;
        for_scratch_ends = room-told 4 (2 * runs) s y.1.1.1.1.0;
        for_scratch_values = room-told 5 (2 * runs) t y.1.1.1.1.1.0;
      }

module _ (ks os : List ℕ) (es vs : List ℤ) (k x : List ℕ) (e v s t : List ℤ) where
  abbrev space : Question
  space = room (collapse_needs (batch ks os es vs)) (length k ∷ length x ∷ length e ∷ length v ∷ length s ∷ length t ∷ [])

  pub all_room : None ≡ space → CollapseRoom (batch ks os es vs) k x e v s t
  all_room h =
      let r = rooms-told (length ks) (length es) (length k) (length x) (length e) (length v) (length s) (length t) (sym h) in
      record {
        room_keys = r.for_keys;
        room_offsets = r.for_offsets;
        room_ends = r.for_ends;
        room_values = r.for_values;
        scratch_ends = r.for_scratch_ends;
        scratch_values = r.for_scratch_values;
      }

-- ---- all of them

module _ (ks os : List ℕ) (es vs : List ℤ) (new_keys : List ℕ) (fill : Option ℤ) (code : ℕ) (k x : List ℕ) (e v s t : List ℤ) where
  abbrev groups : Question
  groups = filled_groups (operation code) fill (renamed (batch ks os es vs) new_keys) (once new_keys)

  abbrev last : Question
  last = space ks os es vs k x e v s t

  abbrev pub every_asked : Question
  every_asked = first_no (collapse_asked (batch ks os es vs) new_keys code ∷ groups ∷ last ∷ [])

  module _ (yes : collapse_asked (batch ks os es vs) new_keys code ≡ None) where
    pub groups-refused : {r : PaperRefusal} → Some r ≡ groups → Some r ≡ every_asked
    groups-refused h = goes_on (groups ∷ last ∷ []) (sym yes) (first-refused (last ∷ []) h)

    pub all_asked : {r : Question} → None ≡ groups → r ≡ last → r ≡ every_asked
    all_asked g h = goes_on (groups ∷ last ∷ []) (sym yes) (goes_on (last ∷ []) g (h ∙ sym (alone last)))
