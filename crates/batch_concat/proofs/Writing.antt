-- The loop that writes the sequences of the keys, joined, one after another.
-- Assumes nothing.
use Prim.Native.Nat.{ℕ, zero, suc, ◌+◌, ◌-◌, ◌≤◌, ◌<◌}
use Rattle.std.specs.Prelude.{Option, Some, None}
use mathlib.Core.List.{List, [], ◌∷◌, ◌++◌, map}
use mathlib.Core.Path.{◌≡◌, refl, ap, ap₂, sym, ◌∙◌}
use native.Mathlib.Numerals.{add-one}
use native.Mathlib.Omega.{arith}
use borrow.Rule.Slice.PartMut.{put_mid}
use lib.IntN.{ℤ}
use lib.ListN.{length, get_or, take, drop, set, length-map, length-set}
use lib.Seq.{drop-cons}
use Rattle.column.specs.Asking.{each_from}
use Rattle.column.specs.Lists.{total, parts}
use Rattle.column.specs.Runs.{Runs, runs_of, length_of, encode, Filled}
use Rattle.column.proofs.FirstNo.{all_yes}
use Rattle.column.proofs.Rest.{rest-length}
use Rattle.column.proofs.Told.{fits_told}
use Rattle.transform.specs.Calls.{shown}
use Rattle.batch.specs.declared.two.Joined.{Joined}
use Rattle.batch.specs.Batch.{Entry, batch, entries, columns_of, find}
use Rattle.batch.specs.Workers.{ValidBatch, FilledCounts}
use Rattle.batch.proofs.Entries.{entries-columns, columns-total, part-valid, parts-paired}
use Rattle.batch.proofs.Getting.{found, found-count}
use Rattle.batch.proofs.Laying.{no_entry, LayingBatch, batch-start, batch-next, batch-end}
use Rattle.batch_keys.specs.Calls.{once}
use Rattle.batch_concat.specs.Calls.{concat_key, fit_keys}
use Rattle.batch_concat.specs.Workers.{ConcatRoom}
use Rattle.transform.specs.Workers.{JoinableTwo}
use Rattle.batch_concat.proofs.Asking.{found-valid, fit_key}
use Rattle.transform.proofs.JoiningTwo.{joined-few}
use Rattle.batch_concat.proofs.Keys.{runs_for, once_runs}
use Rattle.batch_concat.proofs.Once.{once-short, NextKey, Following, follow-start, follow-within, follow-key, follow-a, follow-b, follow-b-within, follow-next}
use Rattle.batch_concat.proofs.Once.{follow-end}

map_at : {A B : Type 0} (f : A → B) (xs : List A) (i : ℕ) (d : A) (c : B) → i < length xs → get_or (map f xs) i c ≡ f (get_or xs i d)
map_at f [] i d c h = let z : ⊥ = omega arith in absurd z
map_at f (x ∷ xs) zero d c h = refl
map_at f (x ∷ xs) (suc i) d c h = map_at f xs i d c (omega arith)

batch-runs : (ks os : List ℕ) (es vs : List ℤ) → ValidBatch (batch ks os es vs) → (all : List ℕ) → runs_for (entries (batch ks os es vs)) (once all) ≤ length es
batch-runs ks os es vs v all =
    let e : total (map length (columns_of (entries (batch ks os es vs)))) ≡ length es = ap (λ (cs : List Runs). total (map length cs))
    (entries-columns ks os es vs v) ∙ columns-total ks os es vs v in
    omega (arith, once_runs (entries (batch ks os es vs)) all)

module _ (ka oa : List ℕ) (ea va : List ℤ) (kb ob : List ℕ) (eb vb : List ℤ) where
  abbrev l : List Entry
  l = entries (batch ka oa ea va)

  abbrev r : List Entry
  r = entries (batch kb ob eb vb)

  abbrev ks : List ℕ
  ks = once (ka ++ kb)

  abbrev pub result : List Entry
  result = map (concat_key l r) ks

  -- the first n keys' sequences are written, and o is where the next key stands, if there is one
  pub record Writing (k₀ k x₀ x : List ℕ) (e₀ e v₀ v : List ℤ) (used n : ℕ) (o : Option Joined) : Type 0 where
    pub laying : LayingBatch result k₀ k x₀ x e₀ e v₀ v used n
    pub follows : Following ka kb o n
    pub room : used + (runs_for l (drop n ks) + runs_for r (drop n ks)) ≤ length ea + length eb
    pub fitting : each_from (fit_key l r) n (drop n ks) ≡ None

  module _ {k₀ x₀ : List ℕ} {e₀ v₀ : List ℤ} (p : ConcatRoom (batch ka oa ea va) (batch kb ob eb vb) k₀ x₀ e₀ v₀) where
    -- the joined sequences have no more runs than both batches
    few : (cs : List ℕ) → total (map length (columns_of (map (concat_key l r) cs))) ≤ runs_for l cs + runs_for r cs
    few [] = omega arith
    few (c ∷ cs) = omega (arith, joined-few (find c l) (find c r) (found-valid ka oa ea va p.first c) (found-valid kb ob eb vb p.second c), few cs)

    all_runs : runs_for l ks + runs_for r ks ≤ length ea + length eb
    all_runs = omega (arith, batch-runs ka oa ea va p.first (ka ++ kb), batch-runs kb ob eb vb p.second (ka ++ kb))

    all_results : total (map length (columns_of result)) ≤ length ea + length eb
    all_results = omega (arith, few ks, all_runs)

    many : length result ≤ length ka + length kb
    many = rw length-map (once-short ka kb)

    pub write_start : {o : Option Joined} → NextKey ka kb 0 o → Writing k₀ k₀ (set x₀ 0 0) (set x₀ 0 0) e₀ e₀ v₀ v₀ 0 0 o
    unfolding fit_keys
    write_start k = record {
      laying = batch-start result k₀ x₀ e₀ v₀ (omega (arith, p.room_offsets));
      follows = follow-start ka kb k;
      room = omega (arith, all_runs);
      fitting = p.fitting;
    }

    module _ {k x : List ℕ} {e v : List ℤ} {used n : ℕ} {o : Option Joined} (s : Writing k₀ k (set x₀ 0 0) x e₀ e v₀ v used n o) where
      module _ {j : Joined} (h : o ≡ Some j) where
        abbrev key : ℕ
        key = get_or ks n 0

        within : n < length ks
        within = follow-within ka kb s.follows h

        -- there is room for the key and the offset after it
        pub write-within : (n < length k) × (n + 1 < length x) × (n < length k₀) × (n + 1 < length x₀)
        write-within = (
          omega (arith, within, once-short ka kb, p.room_keys, s.laying.keys.long),
          omega (arith, within, once-short ka kb, p.room_offsets, s.laying.laying.long_offsets, length-set x₀ 0 0),
          omega (arith, within, once-short ka kb, p.room_keys),
          omega (arith, within, once-short ka kb, p.room_offsets),
        )

        -- the key's position in the second, or that of its end
        pub write-b : j.b ≤ length kb
        write-b = follow-b-within ka kb s.follows h

        entry : get_or result n no_entry ≡ concat_key l r key
        entry = map_at (concat_key l r) ks n 0 no_entry within

        next-room : used + (length (find key l) + length (find key r)) + (runs_for l (drop (n + 1) ks) + runs_for r (drop (n + 1) ks)) ≤ length ea + length eb
        next-room =
            let d : drop n ks ≡ key ∷ drop (n + 1) ks = rw (add-one n) (drop-cons ks n 0 within) in
            omega (arith, rw d at s.room)

        next-fitting : (fit_key l r n key ≡ None) × (each_from (fit_key l r) (n + 1) (drop (n + 1) ks) ≡ None)
        unfolding each_from
        next-fitting =
            let y = all_yes (fit_key l r n key ∷ each_from (fit_key l r) (suc n) (drop (suc n) ks) ∷ []) (rw (drop-cons ks n 0 within) at s.fitting) in
            (y.0, rw (add-one n) y.1.0)

        module _ {pa qa pb qb : List ℤ} (epa : pa ≡ get_or (parts oa ea) j.a []) (eqa : qa ≡ get_or (parts oa va) j.a [])
            (epb : pb ≡ get_or (parts ob eb) j.b []) (eqb : qb ≡ get_or (parts ob vb) j.b []) where
          found-a : find key l ≡ runs_of pa qa
          found-a = rw (epa, eqa) (found ka oa ea va key (follow-a ka kb s.follows h) p.first)

          found-b : find key r ≡ runs_of pb qb
          found-b = rw (epb, eqb) (found kb ob eb vb key (follow-b ka kb s.follows h) p.second)

          count-a : length pa ≡ length (find key l)
          count-a = rw epa (found-count ka oa ea va key (follow-a ka kb s.follows h) p.first)

          count-b : length pb ≡ length (find key r)
          count-b = rw epb (found-count kb ob eb vb key (follow-b ka kb s.follows h) p.second)

          -- and for the runs
          pub write-room : (used + (length pa + length pb) ≤ length e) × (used + (length pa + length pb) ≤ length v)
          write-room = (
            omega (arith, next-room, count-a, count-b, p.room_ends, s.laying.laying.long_ends),
            omega (arith, next-room, count-a, count-b, p.room_values, s.laying.laying.long_values),
          )

          pub write-joinable : JoinableTwo pa qa pb qb (take (length e - used) (drop used e)) (take (length v - used) (drop used v))
          write-joinable = record {
            valid_a = rw epa (part-valid ka oa ea va p.first j.a);
            valid_b = rw epb (part-valid kb ob eb vb p.second j.b);
            paired_a = rw (epa, eqa) (parts-paired ka oa ea va p.first j.a);
            paired_b = rw (epb, eqb) (parts-paired kb ob eb vb p.second j.b);
            fitting = rw (found-a, found-b) at (fits_told (length_of (find key l) + length_of (find key r)) next-fitting.0);
            room_ends = rw rest-length (omega (arith, write-room.0));
            room_values = rw rest-length (omega (arith, write-room.1));
          }

          module _ {e₂ v₂ : List ℤ} {m : ℕ}
              (f : Filled (encode (shown (runs_of pa qa ∷ runs_of pb qb ∷ []))) (take (length e - used) (drop used e)) e₂ (take (length v - used) (drop used v))
              v₂ m) where
            runs_at_lem : encode (shown (runs_of pa qa ∷ runs_of pb qb ∷ [])) ≡ (get_or result n no_entry).runs
            runs_at_lem = ap₂ (λ (x y : Runs). encode (shown (x ∷ y ∷ []))) (sym found-a) (sym found-b) ∙ ap (λ (t : Entry). t.runs) (sym entry)

            fewer : m ≤ length pa + length pb
            fewer =
                let same = ap₂ (λ (x y : Runs). encode (shown (x ∷ y ∷ []))) (sym found-a) (sym found-b) in
                let few = joined-few (find key l) (find key r) (found-valid ka oa ea va p.first key) (found-valid kb ob eb vb p.second key) in
                omega (arith, f.count, ap length same, few, count-a, count-b)

            pub write-used : used + m ≤ length e₀
            write-used = omega (arith, fewer, write-room.0, s.laying.laying.long_ends)

            pub write_next : {o' : Option Joined} → NextKey ka kb (j.at + 1) o'
                → Writing k₀ (set k n j.key) (set x₀ 0 0) (set x (n + 1) (used + m)) e₀ (put_mid used (length e - used) e e₂)
                v₀ (put_mid used (length v - used) v v₂) (used + m) (n + 1) o'
            write_next k = record {
              laying = batch-next s.laying (rw length-map within) (follow-key ka kb s.follows h ∙ ap (λ (t : Entry). t.key) (sym entry))
                  (rw runs_at_lem at f)
                  (omega (arith, all_results, p.room_ends)) (omega (arith, all_results, p.room_values))
                  (rw (length-set x₀ 0 0) (omega (arith, many, p.room_offsets)))
                  (omega (arith, many, p.room_keys));
              follows = follow-next ka kb s.follows h k;
              room = omega (arith, next-room, fewer, count-a, count-b);
              fitting = next-fitting.1;
            }

      pub write-end : o ≡ None → FilledCounts result k₀ k x₀ x e₀ e v₀ v (record { keys = n; runs = used })
      write-end h =
          let z = follow-end ka kb s.follows h in
          let m : length result ≡ length ks = length-map ks (concat_key l r) in
          record {
            filled = batch-end (omega (arith, p.room_offsets)) s.laying (omega arith);
            many = omega (arith, s.laying.laying.within, length-map result (λ (t : Entry). t.runs));
          }
