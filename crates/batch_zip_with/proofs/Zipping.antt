-- The loop that writes each pair of a join combined: n of them are written, and o is the place of the next, if there is one.
-- Assumes nothing.
use Rattle.std.specs.Prelude.{Option, Some, None}
use Prim.Native.Nat.{ℕ, zero, suc, ◌+◌, ◌-◌, ◌≤◌, ◌<◌}
use mathlib.Core.List.{List, [], ◌∷◌, map, map-map}
use mathlib.Core.Path.{◌≡◌, refl, ap, sym, ◌∙◌}
use native.Mathlib.Omega.{arith}
use borrow.Rule.Slice.PartMut.{put_mid}
use lib.IntN.{ℤ}
use lib.ListN.{length, get_or, take, drop, set, length-set, length-map, length-drop}
use lib.Seq.{get_or-drop}
use Rattle.column.specs.Combine.{combined}
use Rattle.column.specs.Lists.{total, parts}
use Rattle.column.specs.Runs.{sequence, Filled}
use Rattle.column.proofs.Rest.{rest-length}
use Rattle.plan.proofs.Columns.{two-few}
use Rattle.ops.specs.Calls.{sides}
use Rattle.ops.specs.Workers.{Zippable}
use Rattle.batch.specs.declared.two.Joined.{Joined}
use Rattle.batch.specs.Batch.{Batch, Entry, columns_of}
use Rattle.batch.specs.Workers.{FilledCounts}
use Rattle.batch.proofs.Entries.{column_at, column_is, column-count, part-valid, parts-paired, column-valid}
use Rattle.batch.proofs.Laying.{no_entry, LayingBatch, batch-start, batch-next, batch-end}
use Rattle.batch_zip_with.specs.Calls.{Pair, pair_runs, zip_pair}
use Rattle.batch_zip_with.specs.Workers.{ZipRoom}
use Rattle.batch_zip_with.proofs.Pairs.{pair_of, all_pairs, places_in, place_in, kept_in, NextPair, Stands, pairs-rest, pairs-few, from-total, standing-start, standing-pair}
use Rattle.batch_zip_with.proofs.Pairs.{standing-few, standing-next, standing-end}

drop-map : {A B : Type 0} (f : A → B) (n : ℕ) (xs : List A) → drop n (map f xs) ≡ map f (drop n xs)
drop-map f zero xs = refl
drop-map f (suc n) [] = refl
drop-map f (suc n) (x ∷ xs) = drop-map f n xs

module _ (how : ℕ) (a b : Batch) (op : ℤ → ℤ → ℤ) (fa fb : ℤ) where
  abbrev zip : Pair → Entry
  zip p = zip_pair op (Some fa) (Some fb) p

  abbrev pub zipped : List Entry
  zipped = map zip (all_pairs how a b)

  pub record Zipping (k₀ k x₀ x : List ℕ) (e₀ e v₀ v : List ℤ) (used n : ℕ) (o : Option Joined) : Type 0 where
    pub stands : Stands how a b n o
    pub laying : LayingBatch zipped k₀ k x₀ x e₀ e v₀ v used n
    pub left : used + total (map pair_runs (drop n (all_pairs how a b))) ≤ total (map pair_runs (all_pairs how a b))

  module _ {k₀ y : List ℕ} {e₀ v₀ : List ℤ} (z : ZipRoom a b (all_pairs how a b) k₀ y e₀ v₀) where
    few : (j : Joined) → length (zip (pair_of a b j)).runs ≤ pair_runs (pair_of a b j)
    few j = two-few op (Some fa) (Some fb) (column_at a j.a) (column_at b j.b)
        (column-valid a.keys a.flat.offsets a.flat.ends a.flat.values z.first j.a)
        (column-valid b.keys b.flat.offsets b.flat.ends b.flat.values z.second j.b)

    -- the results have no more runs than the pairs
    all_few : total (map length (columns_of zipped)) ≤ total (map pair_runs (all_pairs how a b))
    all_few =
        let e : map length (columns_of zipped) ≡ map (λ (p : Pair). length (zip p).runs) (all_pairs how a b) = simp map-map in
        rw (e, pairs-rest how a b z.first z.second)
        (from-total (place_in how a b) (kept_in how a b) (pair_of a b) (λ (p : Pair). length (zip p).runs) pair_runs few (places_in how a b - 0) 0)

    pub zipping_start : {o : Option Joined} → NextPair how a b 0 o → Zipping k₀ k₀ (set y 0 0) (set y 0 0) e₀ e₀ v₀ v₀ 0 0 o
    zipping_start s = record {
      stands = standing-start (place_in how a b) (kept_in how a b) (pair_of a b) (places_in how a b) (all_pairs how a b) (pairs-rest how a b z.first z.second) s;
      laying = batch-start zipped k₀ y e₀ v₀ (omega (arith, z.room_offsets));
      left = omega arith;
    }

    module _ {k x : List ℕ} {e v : List ℤ} {used n : ℕ} {o : Option Joined} (s : Zipping k₀ k (set y 0 0) x e₀ e v₀ v used n o) where
      pub zipping-end : o ≡ None → FilledCounts zipped k₀ k y x e₀ e v₀ v (record { keys = n; runs = used })
      zipping-end h =
          let d = ap length (standing-end (place_in how a b) (kept_in how a b) (pair_of a b) (places_in how a b) (all_pairs how a b) s.stands h) in
          let l : length zipped ≤ n = omega (arith, d, length-drop n (all_pairs how a b), length-map (all_pairs how a b) zip) in
          record {
            filled = batch-end (omega (arith, z.room_offsets)) s.laying l;
            many = omega (arith, s.laying.laying.within, length-map zipped (λ (e : Entry). e.runs));
          }

      module _ {j : Joined} (h : o ≡ Some j) where
        next : drop n (all_pairs how a b) ≡ pair_of a b j ∷ drop (n + 1) (all_pairs how a b)
        next = standing-pair (place_in how a b) (kept_in how a b) (pair_of a b) (places_in how a b) (all_pairs how a b) s.stands h

        in-zipped : n < length zipped
        in-zipped = rw length-map (standing-few (place_in how a b) (kept_in how a b) (pair_of a b) (places_in how a b) (all_pairs how a b) s.stands h)

        all_in : length zipped ≤ length a.keys + length b.keys
        all_in = rw length-map (pairs-few how a b z.first z.second)

        -- the entry at n
        entry : get_or zipped n no_entry ≡ zip (pair_of a b j)
        entry =
            let i : n + 0 ≡ n = omega arith in
            ap (λ (m : ℕ). get_or zipped m no_entry) (sym i)
            ∙ sym (get_or-drop n zipped 0 no_entry)
            ∙ ap (λ (es : List Entry). get_or es 0 no_entry) (drop-map zip n (all_pairs how a b) ∙ ap (map zip) next)

        left-next : used + pair_runs (pair_of a b j) + total (map pair_runs (drop (n + 1) (all_pairs how a b))) ≤ total (map pair_runs (all_pairs how a b))
        left-next = omega (arith, s.left, ap (λ (ps : List Pair). total (map pair_runs ps)) next)

        pub zipping-room : (used + pair_runs (pair_of a b j) ≤ length e) × (used + pair_runs (pair_of a b j) ≤ length v)
        zipping-room = (
          omega (arith, left-next, z.room_ends, s.laying.laying.long_ends),
          omega (arith, left-next, z.room_values, s.laying.laying.long_values),
        )

        pub zipping-places : (n < length k) × (n + 1 < length x) × (n < length k₀) × (n + 1 < length y)
        zipping-places = (
          omega (arith, in-zipped, all_in, z.room_keys, s.laying.keys.long),
          omega (arith, in-zipped, all_in, z.room_offsets, s.laying.laying.long_offsets, length-set y 0 0),
          omega (arith, in-zipped, all_in, z.room_keys),
          omega (arith, in-zipped, all_in, z.room_offsets),
        )

        -- the sequences of the next pair, as the code reads them
        module _ {ae av be bv : List ℤ} (ea : ae ≡ get_or (parts a.flat.offsets a.flat.ends) j.a [])
            (ew : av ≡ get_or (parts a.flat.offsets a.flat.values) j.a [])
            (eb : be ≡ get_or (parts b.flat.offsets b.flat.ends) j.b []) (eu : bv ≡ get_or (parts b.flat.offsets b.flat.values) j.b []) where
          long : length ae + length be ≡ pair_runs (pair_of a b j)
          long =
              let ca = column-count a.keys a.flat.offsets a.flat.ends a.flat.values z.first j.a in
              let cb = column-count b.keys b.flat.offsets b.flat.ends b.flat.values z.second j.b in
              omega (arith, ap length ea, ap length eb, ca, cb)

          pub zipping-fits : Zippable (sequence ae av) (sequence be bv) (take (length e - used) (drop used e)) (take (length v - used) (drop used v))
          zipping-fits = record {
            valid_a = rw ea (part-valid a.keys a.flat.offsets a.flat.ends a.flat.values z.first j.a);
            valid_b = rw eb (part-valid b.keys b.flat.offsets b.flat.ends b.flat.values z.second j.b);
            paired_a = rw (ea, ew) (parts-paired a.keys a.flat.offsets a.flat.ends a.flat.values z.first j.a);
            paired_b = rw (eb, eu) (parts-paired b.keys b.flat.offsets b.flat.ends b.flat.values z.second j.b);
            room_ends = rw rest-length (omega (arith, long, zipping-room.0));
            room_values = rw rest-length (omega (arith, long, zipping-room.1));
          }

          module _ {m : ℕ} {e₂ v₂ : List ℤ}
              (f : Filled (combined op (sides (sequence ae av) (sequence be bv) (Some fa) (Some fb))) (take (length e - used) (drop used e))
              e₂ (take (length v - used) (drop used v)) v₂ m) where
            filled : Filled (get_or zipped n no_entry).runs (take (length e - used) (drop used e)) e₂ (take (length v - used) (drop used v)) v₂ m
            filled =
                let ca = column_is a.keys a.flat.offsets a.flat.ends a.flat.values z.first j.a in
                let cb = column_is b.keys b.flat.offsets b.flat.ends b.flat.values z.second j.b in
                rw (entry, ca, cb) (rw (ea, ew, eb, eu) at f)

            pub zipping-used : used + m ≤ length e₀
            zipping-used = omega (arith, zipping-room.0, s.laying.laying.long_ends, few j, filled.count, ap (λ (i : Entry). length i.runs) entry)

            pub zipping-next : {key i : ℕ} {o' : Option Joined} → key ≡ j.key → i ≡ j.at + 1 → NextPair how a b i o'
                → Zipping k₀ (set k n key) (set y 0 0) (set x (n + 1) (used + m)) e₀ (put_mid used (length e - used) e e₂)
                v₀ (put_mid used (length v - used) v v₂) (used + m) (n + 1) o'
            zipping-next ek ei t = record {
              stands = standing-next (place_in how a b) (kept_in how a b) (pair_of a b) (places_in how a b) (all_pairs how a b) s.stands h ei t;
              laying = batch-next s.laying in-zipped (ek ∙ ap (λ (i : Entry). i.key) (sym entry)) filled (omega (arith, all_few, z.room_ends))
                  (omega (arith, all_few, z.room_values))
                  (omega (arith, all_in, z.room_offsets, length-set y 0 0)) (omega (arith, all_in, z.room_keys));
              left = omega (arith, left-next, few j, filled.count, ap (λ (i : Entry). length i.runs) entry);
            }
