-- The members of a group combined one after another, at the front of scratch buffers.
-- Assumes nothing.
use Prim.Native.Nat.{ℕ, ◌+◌, ◌*◌, ◌≤◌, ◌<◌}
use mathlib.Core.Bool.{Bool}
use Rattle.std.specs.Prelude.{None, Option, Some}
use mathlib.Core.List.{List, [], ◌∷◌, map}
use mathlib.Core.Path.{◌≡◌, refl, ap, sym, ◌∙◌}
use native.Mathlib.Omega.{arith}
use lib.IntN.{ℤ}
use lib.ListN.{length, get_or, take, drop}
use lib.Seq.{take_at, length-take-le}
use Rattle.column.specs.Combine.{two, combined}
use Rattle.column.specs.Flat.{flat, columns}
use Rattle.column.specs.Lists.{total, parts}
use Rattle.column.specs.Questions.{ends_valid}
use Rattle.column.specs.Runs.{Runs, sequence, runs_of, ends_of, values_of, dense, encode, over, Filled}
use Rattle.column.proofs.Buffer.{length_over, drop-over}
use Rattle.column.proofs.Encoded.{valid-encode}
use Rattle.column.proofs.Ends.{rising, runs-rise, length_runs, valid-ends}
use Rattle.column.proofs.Rising.{Valid}
use Rattle.column.proofs.Sequences.{length-ends, length-values, runs-flat}
use Rattle.ops.specs.Calls.{sides}
use Rattle.plan.proofs.Columns.{two-few}
use Rattle.batch.specs.Batch.{batch}
use Rattle.batch.proofs.Entries.{column_at, column_is, column-valid, part-valid, parts-paired}
use Rattle.batch_index.specs.Workers.{NextPosition}
use Rattle.batch_collapse.specs.Calls.{collapse_from, collapse_runs, members, renamed}
use Rattle.batch_collapse.specs.Workers.{Grouped, member_runs, Foldable, FoldedMember, FoldRoom, Folded, FilledGroup}
use Rattle.batch_collapse.proofs.Columns.{new_many, all_valid, all_runs, part-runs}
use Rattle.batch_collapse.proofs.Few.{merged-few, combined-valid, collapse-few}
use Rattle.batch_collapse.proofs.Members.{
  members_at,
  AtMember,
  at_next,
  member_at,
  members-next,
  members_end,
  members_first,
  members-all,
  members-few,
}

-- ---- entries written into the front of a buffer

module _ (xs before now : List ℤ) (e : now ≡ over xs before) where
  front : (n : ℕ) → n ≡ length xs → take n now ≡ xs
  unfolding over
  front n h = ap (take n) e ∙ take_at xs (drop (length xs) before) n (sym h)

  back : (n : ℕ) → length xs ≤ n → drop n now ≡ drop n before
  back n h = ap (drop n) e ∙ drop-over xs before n h

  long : length xs ≤ length before → length now ≡ length before
  long h = ap length e ∙ length_over xs before h

-- ---- one more member, through the other two buffers

module _ (op : ℤ → ℤ → ℤ) (f : ℤ) {pe pv : List ℤ} {count : ℕ} {e v s t : List ℤ} (z : Foldable (sequence pe pv) count e v s t) where
  abbrev both : Runs
  both = combined op (sides (sequence (take count s) (take count t)) (sequence pe pv) (Some f) (Some f))

  both-few : length both ≤ count + length pe
  both-few =
      let q = z.zippable in
      let c : length (take count s) ≡ count = length-take-le count s (omega (arith, z.scratch_ends)) in
      let valid_a = runs-rise 0 (take count s) (take count t) (rising (take count s) q.valid_a) in
      let valid_b = runs-rise 0 pe pv (rising pe q.valid_b) in
      omega (
        arith,
        c,
        two-few op (Some f) (Some f) (runs_of (take count s) (take count t)) (runs_of pe pv) valid_a valid_b,
        length_runs (take count s) (take count t) q.paired_a,
        length_runs pe pv q.paired_b,
      )

  module _ {e' v' : List ℤ} {r : ℕ} (d : Filled both e e' v v' r) where
    front_ends : take r e' ≡ ends_of both
    front_ends = front _ e e' d.ends r (d.count ∙ sym (length-ends both))

    front_values : take r v' ≡ values_of both
    front_values = front _ v v' d.values r (d.count ∙ sym (length-values both))

    pub member-room : (r ≡ length (take r e')) × (r ≡ length (take r v')) × (r ≤ length e') × (r ≤ length v') × (length (take r e') ≤ length s)
        × (length (take r v') ≤ length t)
    member-room =
        let q = z.zippable in
        let c : length (take count s) ≡ count = length-take-le count s (omega (arith, z.scratch_ends)) in
        let a : length (take r e') ≡ length both = ap length front_ends ∙ length-ends both in
        let b : length (take r v') ≡ length both = ap length front_values ∙ length-values both in (
          d.count ∙ sym a,
          d.count ∙ sym b,
          rw (long _ e e' d.ends (rw length-ends (omega (arith, both-few, c, q.room_ends)))) (omega (arith, both-few, c, q.room_ends, d.count)),
          rw (long _ v v' d.values (rw length-values (omega (arith, both-few, c, q.room_values)))) (omega (
            arith,
            both-few,
            c,
            q.room_values,
            d.count,
          )),
          omega (arith, a, both-few, z.scratch_ends),
          omega (arith, b, both-few, z.scratch_values),
        )

    pub member-folded : {s' t' : List ℤ} → s' ≡ over (take r e') s → t' ≡ over (take r v') t → FoldedMember both e e' v v' s s' t t' r
    member-folded a b = record {
      through = d;
      filled = record {
        count = d.count;
        ends = a ∙ ap (λ (l : List ℤ). over l s) front_ends;
        values = b ∙ ap (λ
            (l : List ℤ). over l t) front_values;
      };
    }

-- ---- a member

module _ (ks os : List ℕ) (es vs : List ℤ) where
  -- its ends and values, as the code reads them
  pub record Part (i : ℕ) (pe pv : List ℤ) : Type 0 where
    pub runs : runs_of pe pv ≡ column_at (batch ks os es vs) i
    pub valid : ends_valid pe ≡ None
    pub paired : length pe ≡ length pv
    pub count : length pe ≡ length (column_at (batch ks os es vs) i)

  module _ (nk : List ℕ) {t : Bool} (g : Grouped (batch ks os es vs) nk t) where
    pub part_read : (i : ℕ) {pe pv : List ℤ} → pe ≡ get_or (parts os es) i [] → pv ≡ get_or (parts os vs) i [] → Part i pe pv
    part_read i e v = rw (e, v) (record {
      runs = sym (column_is ks os es vs g.valid i);
      valid = part-valid ks os es vs g.valid i;
      paired = parts-paired ks os es vs g.valid i;
      count = part-runs ks os es vs nk g i refl;
    })

    -- the members of a key have no more runs than the batch
    pub most_few : (key : ℕ) → member_runs (renamed (batch ks os es vs) nk) key ≤ length es
    most_few key = omega (arith, members-few nk (columns (flat os es vs)) key, all_runs ks os es vs nk g)

    pub group_few : (op : ℤ → ℤ → ℤ) (fill : Option ℤ) (key : ℕ) → length (collapse_runs op fill (members (renamed (batch ks os es vs) nk) key))
        ≤ member_runs (renamed (batch ks os es vs) nk) key
    group_few op fill key = collapse-few op fill (members (renamed (batch ks os es vs) nk) key)
        (members-all Valid key nk (columns (flat os es vs)) (all_valid ks os es vs nk g))

-- ---- the members of the key at `first`

module _ (ks os : List ℕ) (es vs : List ℤ) (nk : List ℕ) (first : ℕ) where
  abbrev key : ℕ
  key = get_or nk first 0

  abbrev left : ℕ → List Runs
  left n = members_at key nk (columns (flat os es vs)) n

  abbrev all : List Runs
  all = members (renamed (batch ks os es vs) nk) key

  abbrev most : ℕ
  most = member_runs (renamed (batch ks os es vs) nk) key

  -- buffers that stay as long have room still
  pub room-kept : {e e' v v' s s' t t' : List ℤ} → FoldRoom (batch ks os es vs) nk first e v s t → length e' ≡ length e → length v' ≡ length v
      → length s' ≡ length s → length t' ≡ length t
      → FoldRoom (batch ks os es vs) nk first e' v' s' t'
  room-kept q le lv ls lt = record {
    within = q.within;
    alone = q.alone;
    room_ends = rw le q.room_ends;
    room_values = rw lv q.room_values;
    scratch_ends = rw ls q.scratch_ends;
    scratch_values = rw lt q.scratch_values;
  }

  -- ---- the first of them

  module _ {together : Bool} (g : Grouped (batch ks os es vs) nk together) where
    low : most ≤ length es
    low = most_few ks os es vs nk g key

    module _ {e v s t : List ℤ} (q : FoldRoom (batch ks os es vs) nk first e v s t) {next : ℕ} (m : NextPosition key nk (first + 1) next) where
      from_first_lem : all ≡ column_at (batch ks os es vs) first ∷ left next
      from_first_lem = members_first key nk (columns (flat os es vs)) (new_many ks os es vs nk g) first q.within q.alone refl m

      first-few : length (column_at (batch ks os es vs) first) + total (map length (left next)) ≡ most
      first-few = sym (ap (λ (ms : List Runs). total (map length ms)) from_first_lem)

      module _ {pe pv : List ℤ} (p : Part ks os es vs first pe pv) where
        -- it is merged into the scratch buffers, or into the other two
        pub first-scratch : (ends_valid pe ≡ None) × (length pe ≡ length pv) × (length pe ≤ length s) × (length pe ≤ length t)
        first-scratch = (
          p.valid,
          p.paired,
          omega (arith, first-few, low, p.count, q.scratch_ends),
          omega (arith, first-few, low, p.count, q.scratch_values),
        )

        pub first_out : (ends_valid pe ≡ None) × (length pe ≡ length pv) × (length pe ≤ length e) × (length pe ≤ length v)
        first_out = (p.valid, p.paired, omega (arith, first-few, p.count, q.room_ends), omega (arith, first-few, p.count, q.room_values))

        first_runs : length (encode (dense (runs_of pe pv))) + total (map length (left next)) ≤ most
        first_runs = rw p.runs (omega (
          arith,
          first-few,
          merged-few (column_at (batch ks os es vs) first) (column-valid ks os es vs
              g.valid first),
        ))

        pub first-long : {s₁ t₁ : List ℤ} {n : ℕ} → Filled (encode (dense (runs_of pe pv))) s s₁ t t₁ n → (length s₁ ≡ length s) ×
            (length t₁ ≡ length t)
        first-long {s₁} {t₁} d = (
          long _ s s₁ d.ends (rw length-ends (omega (arith, first_runs, low, q.scratch_ends))),
          long _ t t₁ d.values (rw length-values (omega (arith, first_runs, low, q.scratch_values))),
        )

  -- ---- the others, one after another

  module _ (op : ℤ → ℤ → ℤ) (f : ℤ) where
    -- those before `at` are combined
    pub record Folding (e₀ e v₀ v s₀ s t₀ t : List ℤ) (count at : ℕ) : Type 0 where
      pub room : FoldRoom (batch ks os es vs) nk first e v s t
      pub place : AtMember key nk at
      pub sofar : Runs
      pub valid : Valid sofar
      pub rest : collapse_runs op (Some f) all ≡ collapse_from op (Some f) sofar (left at)
      pub few : length sofar + total (map length (left at)) ≤ most
      pub folded : Folded sofar (length es) most e₀ e v₀ v s₀ s t₀ t count

    module _ {together : Bool} (g : Grouped (batch ks os es vs) nk together) where
      module _ {e v s t : List ℤ} (q : FoldRoom (batch ks os es vs) nk first e v s t) {at : ℕ} (m : NextPosition key nk (first + 1) at)
          {pe pv : List ℤ} (p : Part ks os es vs first pe pv) where
        -- no other member
        pub alone-filled : {r : ℕ} {e' v' : List ℤ} → length nk ≤ at → Filled (encode (dense (runs_of pe pv))) e e' v v' r
            → FilledGroup (collapse_runs op (Some f) all) (2 * length es) e e' v v' s s t t r
        unfolding collapse_runs collapse_from
        alone-filled h d =
            rw (from_first_lem g q m, members_end key nk (columns (flat os es vs)) (new_many ks os es vs nk g) at h, ← p.runs)
            (record { filled = d; scratch_ends = record { long = refl; later = refl }; scratch_values = record { long = refl; later = refl } })

        module _ {s₁ t₁ : List ℤ} {n : ℕ} (d : Filled (encode (dense (runs_of pe pv))) s s₁ t t₁ n) where
          pub fold_start : Folding e e v v s₁ s₁ t₁ t₁ n at
          unfolding collapse_runs
          fold_start =
              record {
                room = room-kept q refl refl (first-long g q m p d).0 (first-long g q m p d).1;
                place = record { within = m.within; here = m.here };
                sofar = encode (dense (runs_of pe pv));
                valid = valid-encode (dense (runs_of pe pv));
                rest = ap (collapse_runs op (Some f)) (from_first_lem g q m) ∙ ap (λ (c : Runs). collapse_from op (Some f) (encode (dense c)) (left at))
                    (sym p.runs);
                few = first_runs g q m p;
                folded = record {
                  count = d.count;
                  front_ends = front _ s s₁ d.ends n (d.count ∙ sym (length-ends _));
                  front_values = front _ t t₁ d.values n (d.count ∙ sym (length-values _));
                  back_ends = refl;
                  back_values = refl;
                  rest_ends = refl;
                  rest_values = refl;
                  long_ends = refl;
                  long_values = refl;
                  long_scratch_ends = refl;
                  long_scratch_values = refl;
                };
              }

          pub fold_end : {e' v' s' t' : List ℤ} {r to : ℕ} → Folding e e' v v' s₁ s' t₁ t' r to → length nk ≤ to
              → Folded (collapse_runs op (Some f) all) (length es) most e e' v v' s s' t t' r
          unfolding collapse_from
          fold_end {to = to} i h =
              let o = i.folded in
              let end = members_end key nk (columns (flat os es vs)) (new_many ks os es vs nk g) to h in
              let whole : collapse_runs op (Some f) all ≡ i.sofar = i.rest ∙ ap (collapse_from op (Some f) i.sofar) end in
              rw whole (record {
                count = o.count;
                front_ends = o.front_ends;
                front_values = o.front_values;
                back_ends = o.back_ends ∙ back _ s s₁ d.ends (length es) (rw length-ends (omega (arith, first_runs g q m p, low g)));
                back_values = o.back_values ∙ back _ t t₁ d.values (length es) (rw length-values (omega (arith, first_runs g q m p, low g)));
                rest_ends = o.rest_ends;
                rest_values = o.rest_values;
                long_ends = o.long_ends;
                long_values = o.long_values;
                long_scratch_ends = o.long_scratch_ends ∙ (first-long g q m p d).0;
                long_scratch_values = o.long_scratch_values ∙ (first-long g q m p d).1;
              })

      module _ {e₀ e v₀ v s₀ s t₀ t : List ℤ} {count at : ℕ} (i : Folding e₀ e v₀ v s₀ s t₀ t count at) (h : at < length nk)
          {pe pv : List ℤ} (p : Part ks os es vs at pe pv) where
        here-few : length i.sofar + (length (column_at (batch ks os es vs) at) + total (map length (left (at + 1)))) ≤ most
        here-few = rw (member_at key nk (columns (flat os es vs)) (new_many ks os es vs nk g) at h (i.place.here h)) at i.few

        pub fold-able : Foldable (sequence pe pv) count e v s t
        fold-able =
            let c : length (take count s) ≡ length i.sofar = ap length i.folded.front_ends ∙ length-ends i.sofar in
            record {
              zippable = record {
                valid_a = rw i.folded.front_ends (valid-ends i.sofar i.valid);
                valid_b = p.valid;
                paired_a = c ∙ sym (ap length i.folded.front_values ∙ length-values i.sofar);
                paired_b = p.paired;
                room_ends = omega (arith, here-few, p.count, i.room.room_ends);
                room_values = omega (arith, here-few, p.count, i.room.room_values);
              };
              scratch_ends = omega (arith, here-few, p.count, low g, i.room.scratch_ends, i.folded.count);
              scratch_values = omega (arith, here-few, p.count, low g, i.room.scratch_values, i.folded.count);
            }

        next : Runs
        next = combined op (two (Some f) (Some f) i.sofar (column_at (batch ks os es vs) at))

        pub fold_more : {e' v' s' t' : List ℤ} {r at' : ℕ}
            → FoldedMember (combined op (sides (sequence (take count s) (take count t)) (sequence pe pv) (Some f) (Some f))) e e' v v' s s' t t' r
            → NextPosition (get_or nk at 0) nk (at + 1) at' → Folding e₀ e' v₀ v' s₀ s' t₀ t' r at'
        unfolding next collapse_from
        fold_more {e'} {v'} {s'} {t'} {r} {at'} d₀ m =
            let cs = columns (flat os es vs) in
            let o = i.folded in
            let d : FoldedMember next e e' v v' s s' t t' r = rw (o.front_ends, o.front_values, runs-flat i.sofar, p.runs) at d₀ in
            let here = i.place.here h in
            let on : left at ≡ column_at (batch ks os es vs) at ∷ left at' = members-next key nk cs (new_many ks os es vs nk g) at m h here in
            let k : length i.sofar + (length (column_at (batch ks os es vs) at) + total (map length (left at'))) ≤ most = rw on at i.few in
            let n : length next + total (map length (left at')) ≤ most =
            omega (
              arith,
              k,
              two-few op (Some f) (Some f) i.sofar (column_at (batch ks os es vs) at) i.valid (column-valid ks os es vs
                  g.valid at),
            ) in
            let le : length e' ≡ length e = long _ e e' d.through.ends (rw length-ends (omega (arith, i.room.room_ends))) in
            let lv : length v' ≡ length v = long _ v v' d.through.values (rw length-values (omega (arith, i.room.room_values))) in
            let ls : length s' ≡ length s = long _ s s' d.filled.ends (rw length-ends (omega (arith, low g, i.room.scratch_ends))) in
            let lt : length t' ≡ length t = long _ t t' d.filled.values (rw length-values (omega (arith, low g, i.room.scratch_values))) in
            record {
              room = room-kept i.room le lv ls lt;
              place = at_next key nk cs (new_many ks os es vs nk g) at m here;
              sofar = next;
              valid = combined-valid op (Some f) (Some f) i.sofar (column_at (batch ks os es vs) at);
              rest = i.rest ∙ ap (collapse_from op (Some f) i.sofar) on;
              few = n;
              folded = record {
                count = d.filled.count;
                front_ends = front _ s s' d.filled.ends r (d.filled.count ∙ sym (length-ends next));
                front_values = front _ t t' d.filled.values r (d.filled.count ∙ sym (length-values next));
                back_ends = back _ s s' d.filled.ends (length es) (rw length-ends (omega (arith, low g))) ∙ o.back_ends;
                back_values = back _ t t' d.filled.values (length es) (rw length-values (omega (arith, low g))) ∙ o.back_values;
                rest_ends = back _ e e' d.through.ends most (rw length-ends (omega arith)) ∙ o.rest_ends;
                rest_values = back _ v v' d.through.values most (rw length-values (omega arith)) ∙ o.rest_values;
                long_ends = le ∙ o.long_ends;
                long_values = lv ∙ o.long_values;
                long_scratch_ends = ls ∙ o.long_scratch_ends;
                long_scratch_values = lt ∙ o.long_scratch_values;
              };
            }
