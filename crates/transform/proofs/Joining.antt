-- Sequences joined end to end: the columns from a sequence on, the loop that appends them, the sum of their lengths, and the questions.
-- Assumes nothing.
use Prim.Native.Nat.{ℕ, suc, ◌+◌, ◌-◌, ◌≤◌, ◌<◌, ◌^◌}
use mathlib.Core.Bool.{true}
use Rattle.std.specs.Prelude.{None}
use mathlib.Core.List.{List, [], ◌∷◌, ◌++◌, map, append_assoc, append-nil}
use mathlib.Core.Path.{◌≡◌, refl, ap, sym, ◌∙◌}
use native.Mathlib.Omega.{arith}
use lib.Dec.{eqb, ltb}
use lib.IntN.{ℤ, pos}
use lib.ListN.{length, get_or, drop, length-append, drop_of_length-le}
use lib.Seq.{drop-cons}
use borrow.Author.Tests.{eqb-true, ltb-true, ltb-false}
use Rattle.num.specs.Numbers.{saturated}
use Rattle.num.proofs.Saturated.{saturated-add}
use Rattle.num.proofs.Tests.{by-test, both_true}
use Rattle.column.specs.declared.inner.Writer.{Writer}
use Rattle.column.specs.Asking.{first_no}
use Rattle.column.specs.Flat.{flat, sequences_of, columns, flat_asked}
use Rattle.column.specs.Lists.{total, part, parts, parts_from}
use Rattle.column.specs.Questions.{paired, ends_valid, rise, start_and_rise, fits, room, both}
use Rattle.column.specs.Runs.{Runs, to_nat, runs_of, runs, length_of_ends, last_end, length_of, dense_from, dense, encode, encode_from, Filled}
use Rattle.column.specs.Workers.{Merging, push_all, moved, Behind, Movable, Appendable, Appended}
use Rattle.column.proofs.Appending.{push_few, push_shown, length_moved}
use Rattle.column.proofs.Dense.{length-dense}
use Rattle.column.proofs.Encode.{encode-pos, encode-none}
use Rattle.column.proofs.Ends.{rising, length_runs, runs-rise, length_of-ends}
use Rattle.column.proofs.FirstNo.{all_yes}
use Rattle.column.proofs.Flattened.{AllValid, offsets-some, offset-within, sequences-told, columns_by_ends}
use Rattle.column.proofs.Lists.{last_is}
use Rattle.column.proofs.Merging.{merge_start, merge_end, fill_none}
use Rattle.column.proofs.Parts.{part-past, part_at, part-paired, length_part, parts_at, parts-start, parts-cons, parts-end}
use Rattle.column.proofs.Rising.{Rising, Valid}
use Rattle.column.proofs.Told.{agree-told, offsets-told, fits_told, both_told}
use Rattle.column.proofs.YesNo.{fits-yes, fits_refused}
use Rattle.transform.specs.Calls.{shown, concat_asked}
use Rattle.transform.specs.Workers.{Joinable}

-- ---- the columns from the k-th on

unfoldable pub columns_at : ℕ → List ℕ → List ℤ → List ℤ → List Runs
columns_at k os es vs = map runs (sequences_of (parts_from (get_or os k 0) (drop (k + 1) os) es) (parts_from (get_or os k 0) (drop (k + 1) os) vs))

columns-start : (os : List ℕ) (es vs : List ℤ) → columns (flat os es vs) ≡ columns_at 0 os es vs
unfolding columns columns_at sequences_of parts_from
columns-start [] es vs = refl
columns-start (o ∷ os) es vs = refl

module _ (k : ℕ) (os : List ℕ) (es vs : List ℤ) where
  columns-cons : k + 1 < length os
      → columns_at k os es vs ≡ runs_of (part (get_or os k 0) (get_or os (k + 1) 0) es) (part (get_or os k 0) (get_or os (k + 1) 0) vs) ∷ columns_at (k + 1) os es vs
  unfolding columns_at sequences_of parts_from
  columns-cons h =
      let m : k + 1 + 1 ≡ suc (k + 1) = omega arith in
      ap (λ (l : List ℕ). map runs (sequences_of (parts_from (get_or os k 0) l es) (parts_from (get_or os k 0) l vs))) (drop-cons os (k + 1) 0 h) ∙ rw m

  columns-end : length os ≤ k + 1 → columns_at k os es vs ≡ []
  unfolding columns_at sequences_of parts_from
  columns-end h = rw (drop_of_length-le os {i = k + 1} h)

-- no more runs than positions
runs-above : (p : ℕ) (rs : Runs) → Rising p rs → p + length rs ≤ last_end p rs
runs-above p [] h = omega arith
runs-above p (r ∷ rs) h = omega (arith, h.0, runs-above r.end rs h.1)

pub runs-short : (rs : Runs) → Valid rs → length rs ≤ length_of rs
unfolding length_of
runs-short rs v = omega (arith, runs-above 0 rs v)

offset-first : (os : List ℕ) → start_and_rise os ≡ true → get_or os 0 0 ≡ 0
offset-first [] e = refl
offset-first (a ∷ os) e = eqb-true a 0 (both_true (eqb a 0) (rise a os) e).0

-- ---- the loop: the columns before the k-th are written, and show xs

module _ (os : List ℕ) (es vs e₀ v₀ : List ℤ) where
  pub record Joining (e v : List ℤ) (w : Writer) (offset k : ℕ) : Type 0 where
    pub xs : List ℤ
    pub whole : shown (columns (flat os es vs)) ≡ xs ++ shown (columns_at k os es vs)
    pub valid : AllValid (parts_at k os es)
    pub so_far : offset ≡ length xs
    pub fitting : length xs + total (map length_of (columns_at k os es vs)) < 2 ^ 63
    pub merging : Merging (encode xs) (get_or vs 0 (pos 0)) e₀ v₀ e v w
    -- the entries before them are no more than the values, and the runs no more than the entries
    pub entries : get_or os k 0 ≤ length xs
    pub few : length (encode xs) ≤ get_or os k 0

  -- no ends: nothing is written
  none-shown : (a : ℕ) (ps : List ℕ) → length es ≡ 0 → shown (map runs (sequences_of (parts_from a ps es) (parts_from a ps vs))) ≡ []
  unfolding shown sequences_of parts_from dense dense_from runs_of
  none-shown a [] z = refl
  none-shown a (b ∷ ps) z = rw (part-past a b es (omega arith)) (none-shown b ps z)

  pub join-none : length es ≡ 0 → Filled (encode (shown (columns (flat os es vs)))) e₀ e₀ v₀ v₀ 0
  unfolding encode encode_from columns_at
  join-none z = rw (columns-start os es vs, none-shown (get_or os 0 0) (drop (0 + 1) os) z) (fill_none e₀ v₀)

  module _ (j : Joinable (flat os es vs) e₀ v₀) where
    pub join-start : {first : ℤ} → first ≡ get_or vs 0 (pos 0) → Joining e₀ v₀ (record { at = 0; last = first }) 0 0
    unfolding encode encode_from
    join-start ef =
        let s = columns-start os es vs in
        let z = offset-first os (offsets-told os (length es) j.offsets).0 in
        let m = merge_start (get_or vs 0 (pos 0)) e₀ v₀ in
        record {
          xs = [];
          whole = ap shown s;
          valid = rw (parts-start os es) at (sequences-told os es j.valid);
          so_far = refl;
          fitting = omega (arith, rw s at j.fitting);
          merging = rw ef m;
          entries = omega arith;
          few = omega arith;
        }

    module _ {e v : List ℤ} {w : Writer} {offset k : ℕ} (i : Joining e v w offset k) where
      -- the next column
      module _ (h : k + 1 < length os) {pe pv : List ℤ}
          (ee : pe ≡ part (get_or os k 0) (get_or os (k + 1) 0) es) (ev : pv ≡ part (get_or os k 0) (get_or os (k + 1) 0) vs) where
        next-valid : ends_valid pe ≡ None
        next-valid = rw ee (rw (parts-cons k os es h) at i.valid).0

        next-paired : length pe ≡ length pv
        next-paired = rw (ee, ev) (part-paired (get_or os k 0) (get_or os (k + 1) 0) es vs j.paired)

        next-length : length pe ≡ get_or os (k + 1) 0 - get_or os k 0
        next-length = ap length ee ∙ length_part (get_or os k 0) (get_or os (k + 1) 0) es (offset-within os (length es) k j.offsets h).1

        next-rises : Valid (runs_of pe pv)
        next-rises = runs-rise 0 pe pv (rising pe next-valid)

        next-column : columns_at k os es vs ≡ runs_of pe pv ∷ columns_at (k + 1) os es vs
        next-column = rw (ee, ev) (columns-cons k os es vs h)

        next_fits : length i.xs + length_of (runs_of pe pv) + total (map length_of (columns_at (k + 1) os es vs)) < 2 ^ 63
        next_fits = omega (arith, rw next-column at i.fitting)

        next-size : {x : ℤ} → x ≡ length_of_ends pe → to_nat x ≡ length_of (runs_of pe pv)
        next-size ex = ap to_nat (ex ∙ length_of-ends pe pv next-valid next-paired)

        join-movable : Movable 0 offset pe pv
        unfolding length_of_ends
        join-movable = record {
          rising = rising pe next-valid;
          fitting = omega (arith, next-size refl, next_fits, i.so_far);
          paired = next-paired;
        }

        join-behind : Behind (encode i.xs) (get_or vs 0 (pos 0)) e₀ v₀ e v w pe pv
        join-behind =
            let o = offset-within os (length es) k j.offsets h in
            record {
              merging = i.merging;
              started = λ n some.
                  let z : get_or os k 0 ≡ 0 = omega (arith, encode-none i.xs n, i.entries) in
                  rw (ev, part_at (get_or os k 0) (get_or os (k + 1) 0) vs 0 (pos 0) (omega (arith, next-length)), z) refl;
              room_ends = omega (arith, next-length, o, i.few, j.room_ends, i.merging.long_ends);
              room_values = omega (arith, next-length, o, i.few, j.room_values, i.merging.long_values);
            }

        pub join-appendable : Appendable 0 offset pe pv e v w
        join-appendable = record { movable = join-movable; done = encode i.xs; first = get_or vs 0 (pos 0); e₀ = e₀; v₀ = v₀; behind = join-behind }

        pub join-next : {e' v' : List ℤ} {next : Writer} {x : ℤ} {n : ℕ} → Appended 0 offset pe pv e e' v v' w next
            → n ≡ to_nat x → x ≡ length_of_ends pe → Joining e' v' next (offset + n) (k + 1)
        unfolding shown dense
        join-next {e'} {v'} {next} a en ex =
            let rs : Runs = runs_of pe pv in
            let ys : List ℤ = dense rs in
            let o = offset-within os (length es) k j.offsets h in
            let many = length_runs pe pv next-paired in
            let l : length (i.xs ++ ys) ≡ length i.xs + length_of rs = rw length-append (omega (arith, length-dense rs next-rises)) in
            let pushed : Runs = push_all (encode i.xs) (moved 0 offset rs) in
            let p : pushed ≡ encode (i.xs ++ ys) = rw i.so_far (push_shown 0 i.xs rs next-rises) in
            let few = push_few (encode i.xs) (moved 0 offset rs) in
            let m : Merging pushed (get_or vs 0 (pos 0)) e₀ v₀ e' v' next = a (encode i.xs) (get_or vs 0 (pos 0)) e₀ v₀ join-behind in
            record {
              xs = i.xs ++ ys;
              whole = i.whole ∙ rw next-column (sym (append_assoc i.xs ys (shown (columns_at (k + 1) os es vs))));
              valid = (rw (parts-cons k os es h) at i.valid).1;
              so_far = omega (arith, l, en, next-size ex, i.so_far);
              fitting = omega (arith, l, next_fits);
              merging = rw p at m;
              entries = omega (arith, l, i.entries, o, next-length, many, runs-short rs next-rises);
              few = omega (arith, ap length p, few, length_moved 0 offset rs, many, next-length, o, i.few);
            }

      pub join-end : k ≡ length os - 1 → (length es ≡ 0 → ⊥) → Filled (encode (shown (columns (flat os es vs)))) e₀ e v₀ v (w.at + 1)
      unfolding shown
      join-end h some =
          let l = offsets-some os (length es) j.offsets in
          let last = last_is os (λ z. let y : ⊥ = omega (arith, l) in y) in
          let all : get_or os k 0 ≡ length es = ap (λ (n : ℕ). get_or os n 0) h ∙ sym last ∙ (offsets-told os (length es) j.offsets).1 in
          let s : shown (columns (flat os es vs)) ≡ i.xs = i.whole ∙ rw (columns-end k os es vs (omega (arith, l))) (append-nil i.xs) in
          rw s (merge_end i.merging (encode-pos i.xs (omega (arith, all, i.entries, some))))

-- ---- the sum of the lengths, by the ends

abbrev lengths : List (List ℤ) → List ℕ
lengths ess = map (λ (es : List ℤ). to_nat (length_of_ends es)) ess

module _ (os : List ℕ) (es : List ℤ) where
  -- n so far
  pub record Totalling (n k : ℕ) : Type 0 where
    pub whole : saturated (n + total (lengths (parts_at k os es))) ≡ saturated (total (lengths (parts os es)))
    pub small : n < 2 ^ 64

  pub total-start : Totalling 0 0
  total-start = record { whole = rw (parts-start os es) (omega arith); small = omega arith }

  module _ {n k : ℕ} (t : Totalling n k) where
    pub total-next : {pe : List ℤ} {x : ℤ} {m n' : ℕ} → k + 1 < length os → n' ≡ saturated (n + m) → m ≡ to_nat x → x ≡ length_of_ends pe
        → pe ≡ part (get_or os k 0) (get_or os (k + 1) 0) es → Totalling n' (k + 1)
    total-next {m = m} h en em ex ep =
        let rest = total (lengths (parts_at (k + 1) os es)) in
        let one : total (lengths (parts_at k os es)) ≡ m + rest = rw (parts-cons k os es h, em, ex, ep) in
        record {
          whole = ap (λ (y : ℕ). saturated (y + rest)) en ∙ saturated-add (n + m) rest ∙ ap saturated (omega (arith, one)) ∙ t.whole;
          small = omega (arith, en);
        }

    pub total-end : length os ≤ k + 1 → n ≡ saturated (total (lengths (parts os es)))
    total-end h = let z : saturated (n + 0) ≡ saturated (total (lengths (parts os es))) = rw (parts-end k os es h) at t.whole in omega (arith, t.small)

-- ---- the questions

fits-saturated : (n : ℕ) → fits (saturated n) ≡ fits n
fits-saturated n =
    by-test (ltb n (2 ^ 63))
    (λ t. let h = ltb-true n (2 ^ 63) t in fits-yes (saturated n) (omega arith) ∙ sym (fits-yes n h))
    (λ t. let h = ltb-false n (2 ^ 63) t in fits_refused (saturated n) (omega arith) ∙ sym (fits_refused n h))

module _ (os : List ℕ) (es vs : List ℤ) where
  total-columns : length es ≡ length vs → AllValid (parts os es) → total (lengths (parts os es)) ≡ total (map length_of (columns (flat os es vs)))
  total-columns l v =
      let by-ends : (x y : List ℤ) → ends_valid x ≡ None → length x ≡ length y → length_of (runs_of x y) ≡ to_nat (length_of_ends x) =
      λ x y u p. sym (ap to_nat (length_of-ends x y u p)) in
      ap total (sym (columns_by_ends length_of (λ (x : List ℤ). to_nat (length_of_ends x)) by-ends os es vs l v))

  pub fits-total : first_no (flat_asked (flat os es vs)) ≡ None
      → fits (saturated (total (lengths (parts os es)))) ≡ fits (total (map length_of (columns (flat os es vs))))
  unfolding paired
  fits-total y =
      let z = all_yes (flat_asked (flat os es vs)) y in
      let t = total-columns (agree-told 3 (length es) (length vs) z.0) (sequences-told os es z.1.1.0) in
      fits-saturated (total (lengths (parts os es))) ∙ ap fits t

  pub concat-yes : (e v : List ℤ) → concat_asked (flat os es vs) (length e ∷ length v ∷ []) ≡ None → Joinable (flat os es vs) e v
  unfolding concat_asked paired
  concat-yes e v h =
      let f = flat os es vs in
      let n = total (map length_of (columns f)) in
      let rest = fits n ∷ room (both (length es)) (length e ∷ length v ∷ []) ∷ [] in
      let y = all_yes (flat_asked f ++ rest) h in
      let r = both_told (length es) (length e) (length v) y.1.1.1.1.0 in
      record {
        paired = agree-told 3 (length es) (length vs) y.0;
        offsets = y.1.0;
        valid = y.1.1.0;
        fitting = fits_told n y.1.1.1.0;
        room_ends = r.0;
        room_values = r.1;
      }
