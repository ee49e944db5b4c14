-- The pairs of a join, by places: those that the places from n on give; and a loop that takes one after the other.
-- Assumes nothing.
use Rattle.std.specs.Prelude.{Option, Some, None, IfSome}
use Prim.Native.Nat.{ℕ, zero, suc, ◌+◌, ◌-◌, ◌≤◌, ◌<◌}
use mathlib.Core.Bool.{Bool, true, false, cond, not, ◌&&◌, ◌||◌}
use mathlib.Core.List.{List, [], ◌∷◌, ◌++◌, map}
use mathlib.Core.Path.{◌≡◌, refl, ap, ap₂, sym, ◌∙◌}
use native.Mathlib.Omega.{arith}
use lib.Dec.{ltb}
use lib.ListN.{length, get_or, drop, length-drop, get_or-map, get_or-eq_default}
use lib.Seq.{drop-drop}
use borrow.Author.Tests.{ltb-false, not-true, lt-ltb, le-ltb}
use Rattle.num.proofs.Tests.{by-test}
use Rattle.column.specs.Flat.{columns}
use Rattle.column.specs.Lists.{total}
use Rattle.column.specs.Runs.{Runs}
use Rattle.batch_index.specs.Calls.{lowest}
use Rattle.batch.specs.declared.two.Joined.{Joined}
use Rattle.batch.specs.Batch.{Batch, Entry, entries, has, find}
use Rattle.batch.specs.Workers.{place_of, ValidBatch, NextKept}
use Rattle.batch.proofs.Entries.{column_at, columns-many, entries-keys, entries-columns, entries-many, find_is, has_is}
use Rattle.batch.proofs.Laying.{no_entry}
use Rattle.batch_zip_with.specs.Calls.{keep, keeps_left, keeps_right, Pair, with_right, right_only, pairs}
use Rattle.batch_zip_with.specs.Workers.{places_of, pair_at, pair_kept}
use Rattle.batch_zip_with.proofs.Places.{places-few}

-- ---- f tells what is at each place, k whether it is kept, g what pair that is

module _ (f : ℕ → Joined) (k : ℕ → Bool) (g : Joined → Pair) where
  -- the pairs that c places from n on give
  unfoldable pub pairs_from : ℕ → ℕ → List Pair
  pairs_from zero n = []
  pairs_from (suc c) n = cond (k n) (g (f n) ∷ pairs_from c (suc n)) (pairs_from c (suc n))

  from-none : (n : ℕ) → pairs_from 0 n ≡ []
  unfolding pairs_from
  from-none n = refl

  from-kept : (c n : ℕ) → k n ≡ true → pairs_from (suc c) n ≡ g (f n) ∷ pairs_from c (suc n)
  unfolding pairs_from
  from-kept c n t = rw t

  from-passed : (c n : ℕ) → k n ≡ false → pairs_from (suc c) n ≡ pairs_from c (suc n)
  unfolding pairs_from
  from-passed c n t = rw t

  from-few : (c n : ℕ) → length (pairs_from c n) ≤ c
  unfolding pairs_from
  from-few zero n = omega arith
  from-few (suc c) n = by-test (k n) (λ t. rw t (omega (arith, from-few c (suc n)))) (λ t. rw t (omega (arith, from-few c (suc n))))

  -- where of each pair one number is at most another, so are the totals
  pub from-total : (w v : Pair → ℕ) → ((j : Joined) → w (g j) ≤ v (g j)) → (c n : ℕ) → total (map w (pairs_from c n)) ≤ total (map v (pairs_from c n))
  from-total w v h zero n = rw (from-none n) (omega arith)
  from-total w v h (suc c) n =
      let r = from-total w v h c (suc n) in
      by-test (k n) (λ t. rw (from-kept c n t) (omega (arith, h (f n)))) (λ t. rw (from-passed c n t) r)

  from-both : (c d n : ℕ) → pairs_from (c + d) n ≡ pairs_from c n ++ pairs_from d (n + c)
  unfolding pairs_from
  from-both zero d n = let p : zero + d ≡ d = omega arith in let q : n ≡ n + zero = omega arith in ap₂ (λ (c m : ℕ). pairs_from c m) p q
  from-both (suc c) d n =
      let s : suc c + d ≡ suc (c + d) = omega arith in
      let m : suc n + c ≡ n + suc c = omega arith in
      let r : pairs_from (c + d) (suc n) ≡ pairs_from c (suc n) ++ pairs_from d (n + suc c) = from-both c d (suc n)
      ∙ ap (λ (i : ℕ). pairs_from c (suc n) ++ pairs_from d i) m in
      ap (λ (i : ℕ). pairs_from i n) s
      ∙ by-test (k n)
      (λ t. from-kept (c + d) n t ∙ ap {B = List Pair} (λ l. g (f n) ∷ l) r ∙ ap (λ (l : List Pair). l ++ pairs_from d (n + suc c)) (sym (from-kept c n t)))
      (λ t. from-passed (c + d) n t ∙ r ∙ ap (λ (l : List Pair). l ++ pairs_from d (n + suc c)) (sym (from-passed c n t)))

  -- the entries of a list, at the places from n on
  from_entries : (t : Entry → Bool) (h : Entry → Pair) (es : List Entry) (n : ℕ)
      → ((i : ℕ) → i < length es → (k (n + i) ≡ t (get_or es i no_entry)) × (k (n + i) ≡ true → g (f (n + i)) ≡ h (get_or es i no_entry)))
      → pairs_from (length es) n ≡ map h (keep t es)
  unfolding pairs_from
  from_entries t h [] n w = refl
  from_entries t h (e ∷ es) n w =
      let z : n + 0 ≡ n = omega arith in
      let first : (k (n + 0) ≡ t e) × (k (n + 0) ≡ true → g (f (n + 0)) ≡ h e) = w 0 (omega arith) in
      let here : (k n ≡ t e) × (k n ≡ true → g (f n) ≡ h e) = rw z at first in
      let r = from_entries t h es (suc n) (λ i l. let m : n + suc i ≡ suc n + i = omega arith in rw (← m) (w (suc i) (omega arith))) in
      by-test (t e)
      (λ u. from-kept (length es) n (here.0 ∙ u) ∙ ap₂ (λ (p : Pair) (l : List Pair). p ∷ l) (here.1 (here.0 ∙ u)) r ∙ rw u)
      (λ u. from-passed (length es) n (here.0 ∙ u) ∙ r ∙ rw u)

  module _ (places : ℕ) where
    -- the pairs from place n on
    abbrev pub rest : ℕ → List Pair
    rest n = pairs_from (places - n) n

    rest-kept : (n : ℕ) → n < places → k n ≡ true → rest n ≡ g (f n) ∷ rest (suc n)
    rest-kept n h t = let e : places - n ≡ suc (places - suc n) = omega arith in rw e (from-kept (places - suc n) n t)

    rest-passed : (n : ℕ) → n < places → k n ≡ false → rest n ≡ rest (suc n)
    rest-passed n h t = let e : places - n ≡ suc (places - suc n) = omega arith in rw e (from-passed (places - suc n) n t)

    rest_end : (n : ℕ) → places ≤ n → rest n ≡ []
    rest_end n h = let e : places - n ≡ 0 = omega arith in rw e (from-none n)

    rest-next : (d n m : ℕ) → n + d ≡ m → m ≤ places → ((i : ℕ) → n ≤ i → i < m → k i ≡ false) → rest n ≡ rest m
    rest-next zero n m e h b = ap rest (let z : n ≡ m = omega arith in z)
    rest-next (suc d) n m e h b = rest-passed n (omega arith) (b n (omega arith) (omega arith))
        ∙ rest-next d (suc n) m (omega arith) h (λ i k l. b i (omega arith) l)

    -- ---- a loop: n pairs are taken, and o is the place of the next, if there is one

    module _ (ps : List Pair) where
      pub record Standing (n : ℕ) (o : Option Joined) : Type 0 where
        pub here : IfSome o (λ (j : Joined). (j.at < places) × (j ≡ f j.at) × (k j.at ≡ true))
        pub left : drop n ps ≡ rest (place_of places o)

      stands : {n i : ℕ} {o : Option Joined} → drop n ps ≡ rest i → NextKept f k places i o → Standing n o
      stands {i = i} {o} e s = record {
        here = s.here;
        left = e ∙ rest-next (place_of places o - i) i (place_of places o) (omega (arith, s.after)) s.within s.before;
      }

      pub standing-start : {o : Option Joined} → ps ≡ rest 0 → NextKept f k places 0 o → Standing 0 o
      standing-start e s = stands e s

      module _ {n : ℕ} {o : Option Joined} (s : Standing n o) where
        pub standing-end : o ≡ None → drop n ps ≡ []
        standing-end h = rw h at s.left ∙ rest_end places (omega arith)

        module _ {j : Joined} (h : o ≡ Some j) where
          there : (j.at < places) × (j ≡ f j.at) × (k j.at ≡ true)
          there = rw h at s.here

          ahead : drop n ps ≡ g j ∷ rest (suc j.at)
          ahead =
              s.left
              ∙ ap (λ (p : Option Joined). rest (place_of places p)) h
              ∙ rest-kept j.at there.0 there.2
              ∙ ap (λ (i : Joined). g i ∷ rest (suc j.at)) (sym there.1)

          behind : drop (n + 1) ps ≡ rest (suc j.at)
          behind = sym (drop-drop 1 n ps) ∙ ap (drop 1) ahead

          -- the next pair
          pub standing-pair : drop n ps ≡ g j ∷ drop (n + 1) ps
          standing-pair = ahead ∙ ap {B = List Pair} (λ l. g j ∷ l) (sym behind)

          pub standing-few : n < length ps
          standing-few = omega (arith, length-drop n ps, ap length standing-pair)

          pub standing-next : {i : ℕ} {o' : Option Joined} → i ≡ j.at + 1 → NextKept f k places i o' → Standing (n + 1) o'
          standing-next e t = stands (behind ∙ ap rest (let z : suc j.at ≡ j.at + 1 = omega arith in z ∙ sym e)) t

-- ---- the pairs of two batches

same_pair : {k l : ℕ} {r r' s s' : Runs} → k ≡ l → r ≡ r' → s ≡ s'
    → ◌≡◌ {A = Pair} (record { key = k; first = r; second = s }) (record { key = l; first = r'; second = s' })
same_pair ek er es = rw (ek, er, es)

keep-none : (t : Entry → Bool) → ((e : Entry) → t e ≡ false) → (es : List Entry) → keep t es ≡ []
keep-none t h [] = refl
keep-none t h (e ∷ es) = rw (h e) (keep-none t h es)

module _ (b : Batch) (v : ValidBatch b) where
  entry_at : (i : ℕ) → ((get_or (entries b) i no_entry).key ≡ get_or b.keys i 0) × ((get_or (entries b) i no_entry).runs ≡ column_at b i)
  entry_at i = (
    sym (get_or-map (λ (e : Entry). e.key) (entries b) i no_entry) ∙ ap (λ (l : List ℕ). get_or l i 0)
        (entries-keys b.keys b.flat.offsets b.flat.ends b.flat.values v),
    sym (get_or-map (λ (e : Entry). e.runs) (entries b) i no_entry) ∙ ap (λ (l : List Runs). get_or l i [])
        (entries-columns b.keys b.flat.offsets b.flat.ends b.flat.values v),
  )

  many_in : length (entries b) ≡ length b.keys
  many_in = entries-many b.keys b.flat.offsets b.flat.ends b.flat.values v

  has_in : (key : ℕ) → has key (entries b) ≡ ltb (lowest key b.keys) (length b.keys)
  has_in = has_is b.keys b.flat.offsets b.flat.ends b.flat.values v

  find_in : (key : ℕ) → find key (entries b) ≡ column_at b (lowest key b.keys)
  find_in = find_is b.keys b.flat.offsets b.flat.ends b.flat.values v

  -- past the last
  column-past : (i : ℕ) → length b.keys ≤ i → column_at b i ≡ []
  column-past i h = get_or-eq_default (columns b.flat) [] (omega (arith, columns-many b.keys b.flat.offsets b.flat.ends b.flat.values v))

module _ (a b : Batch) where
  -- the pair at a place
  abbrev pub pair_of : Joined → Pair
  pair_of j = record { key = j.key; first = column_at a j.a; second = column_at b j.b }

module _ (how : ℕ) (a b : Batch) where
  abbrev pub all_pairs : List Pair
  all_pairs = pairs how (entries a) (entries b)

  abbrev pub places_in : ℕ
  places_in = places_of how (length a.keys) (length b.keys)

  abbrev pub place_in : ℕ → Joined
  place_in = pair_at a.keys b.keys

  abbrev pub kept_in : ℕ → Bool
  kept_in = pair_kept how a.keys b.keys

  -- the next pair from a place on
  abbrev pub NextPair : ℕ → Option Joined → Type 0
  NextPair = NextKept place_in kept_in places_in

  -- a loop over them
  abbrev pub Stands : ℕ → Option Joined → Type 0
  Stands = Standing place_in kept_in (pair_of a b) places_in all_pairs

  module _ (va : ValidBatch a) (vb : ValidBatch b) where
    left-place : (i : ℕ) → i < length a.keys
        → (kept_in i ≡ keeps_left how || has (get_or (entries a) i no_entry).key (entries b))
        × (kept_in i ≡ true → pair_of a b (place_in i) ≡ with_right (entries b) (get_or (entries a) i no_entry))
    left-place i h =
        let e = entry_at a va i in
        rw (lt-ltb i (length a.keys) h, ← e.0) (
          ap (λ (t : Bool). keeps_left how || t) (sym (has_in b vb (get_or (entries a) i no_entry).key)),
          λ k. same_pair refl (sym e.1) (sym (find_in b vb (get_or (entries a) i no_entry).key)),
        )

    right-place : keeps_right how ≡ true → (i : ℕ) → i < length b.keys
        → (kept_in (length a.keys + i) ≡ keeps_right how && not (has (get_or (entries b) i no_entry).key (entries a)))
        × (kept_in (length a.keys + i) ≡ true → pair_of a b (place_in (length a.keys + i)) ≡ right_only (get_or (entries b) i no_entry))
    right-place u i h =
        let e = entry_at b vb i in
        let m : length a.keys + i - length a.keys ≡ i = omega arith in
        rw (le-ltb (length a.keys + i) (length a.keys) (omega arith), m, u, ← e.0) (
          ap not (sym (has_in a va (get_or (entries b) i no_entry).key)),
          λ k. same_pair refl (column-past a va (lowest (get_or (entries b) i no_entry).key a.keys)
              (ltb-false (lowest (get_or (entries b) i no_entry).key a.keys) (length a.keys) (not-true _ k))) (sym e.1),
        )

    right-pairs : pairs_from place_in kept_in (pair_of a b) (cond (keeps_right how) (length b.keys) 0) (length a.keys)
        ≡ map right_only (keep (λ (e : Entry). keeps_right how && not (has e.key (entries a))) (entries b))
    right-pairs =
        by-test (keeps_right how)
        (λ u. rw u (ap (λ (c : ℕ). pairs_from place_in kept_in (pair_of a b) c (length a.keys)) (sym (many_in b vb))
        ∙ from_entries place_in kept_in (pair_of a b) (λ (e : Entry). keeps_right how && not (has e.key (entries a))) right_only (entries b) (length a.keys)
        (λ i l. right-place u i (omega (arith, many_in b vb)))
        ∙ rw u))
        (λ u. rw u
        (from-none place_in kept_in (pair_of a b) (length a.keys)
        ∙ sym (ap (map right_only) (keep-none (λ (e : Entry). false && not (has e.key (entries a))) (λ e. refl) (entries b)))))

    pub pairs-rest : all_pairs ≡ rest place_in kept_in (pair_of a b) places_in 0
    unfolding pairs
    pairs-rest =
        let z : places_in - 0 ≡ places_in = omega arith in
        let y : 0 + length a.keys ≡ length a.keys = omega arith in
        let l : pairs_from place_in kept_in (pair_of a b) (length a.keys) 0 ≡ map (with_right (entries b))
        (keep (λ (e : Entry). keeps_left how || has e.key (entries b)) (entries a)) =
        ap (λ (c : ℕ). pairs_from place_in kept_in (pair_of a b) c 0) (sym (many_in a va))
        ∙ from_entries place_in kept_in (pair_of a b) (λ (e : Entry). keeps_left how || has e.key (entries b)) (with_right (entries b)) (entries a) 0
        (λ i h. let x : 0 + i ≡ i = omega arith in rw x (left-place i (omega (arith, many_in a va)))) in
        sym (rw z (from-both place_in kept_in (pair_of a b) (length a.keys) (cond (keeps_right how) (length b.keys) 0) 0 ∙ rw (y, l, right-pairs)))

    pub pairs-few : length all_pairs ≤ length a.keys + length b.keys
    pairs-few = rw pairs-rest (omega (arith, from-few place_in kept_in (pair_of a b) (places_in - 0) 0, places-few how (length a.keys) (length b.keys)))

    -- a loop over them goes on
    pub stands-few : {n : ℕ} {o : Option Joined} {j : Joined} → Stands n o → o ≡ Some j → n < length a.keys + length b.keys
    stands-few s h = omega (arith, standing-few place_in kept_in (pair_of a b) places_in all_pairs s h, pairs-few)
