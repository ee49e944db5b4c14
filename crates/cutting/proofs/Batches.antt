-- Cutting never shows: two batches combined key by key.
-- Assumes nothing.
use Prim.Native.Nat.{ℕ, zero, suc, ◌≤◌, ◌<◌, min, max}
use mathlib.Core.Bool.{Bool, true, false, not, ◌&&◌, ◌||◌}
use Rattle.std.specs.Prelude.{Some, None, Option}
use mathlib.Core.List.{List, [], ◌∷◌, ◌++◌, map, map-map, map-append}
use mathlib.Core.Path.{◌≡◌, refl, ap, ap₂, sym, ◌∙◌}
use native.Mathlib.Omega.{arith}
use lib.IntN.{ℤ, pos}
use lib.ListN.{length}
use lib.Dec.{eqb, ltb}
use borrow.Author.Tests.{eq-eqb}
use Rattle.num.specs.Numbers.{operation}
use Rattle.num.proofs.Tests.{by-test}
use Rattle.column.specs.Asking.{Question, first_no, ◌otherwise◌, each_from, refused_in_key}
use Rattle.column.specs.Combine.{greatest_length, two}
use Rattle.column.specs.Flat.{columns, paired_flat, offsets_flat, ends_flat}
use Rattle.column.specs.Lists.{any}
use Rattle.column.specs.Paper.{Outcome, answers}
use Rattle.column.specs.Questions.{listed, room}
use Rattle.column.specs.Runs.{Runs, to_nat, length_of}
use Rattle.column.proofs.All.{All}
use Rattle.column.proofs.FirstNo.{alone, all_yes}
use Rattle.column.proofs.Flattened.{sequences-told, columns-valid}
use Rattle.column.proofs.Rising.{Valid}
use Rattle.slice.specs.Calls.{cut, slice_runs}
use Rattle.slice.proofs.Sliced.{valid-slice}
use Rattle.batch.specs.Batch.{Batch, Entry, entries_from, entries, keys_of, columns_of, keyed, lengths_asked, content_asked, batch_valid, has, find, batch_needs}
use Rattle.batch.specs.Batch.{both_valid}
use Rattle.batch_map_rles.specs.Calls.{on_each, each_asked, map_rles_slice}
use Rattle.batch_zip_with.specs.Calls.{keep, keeps_left, keeps_right, Pair, with_right, right_only, pairs, filled_pair, filled_pairs, zip_needs, zip_pair, zip_asked}
use Rattle.batch_zip_with.specs.Calls.{zip_with}
use Rattle.cutting.specs.Cut.{longest, cut_points, Span, spans_from, spans, numbered, batch_of}
use Rattle.cutting.specs.Claim.{ValidBatch, NeverShows, runs_at, zip_batches, JoinsUp, Call, combines_whole, cuts, combines, joins, zip_batch_pieces}
use Rattle.cutting.specs.Claim.{JoinsUpByKey}
use Rattle.cutting.proofs.Tests.{any-map, any-any, any_same, any-all, all_map}
use Rattle.cutting.proofs.Laid.{entries_laid, keyed_laid, paired-flat, offsets-flat, ends-flat}
use Rattle.cutting.proofs.Outcomes.{no_with, never-shows}
use Rattle.cutting.proofs.Combined.{after-zero, points_less, piece, lacks, lacking-some}
use Rattle.cutting.proofs.Columns.{numbered-same, first-same, ten_filled, joins-columns}

-- ---- the pairs of the pieces are the pieces of the pairs

abbrev cut_entry : Span → Entry → Entry
cut_entry z e = record { key = e.key; runs = piece z e.runs }

abbrev cut_pair : Span → Pair → Pair
cut_pair z x = record { key = x.key; first = piece z x.first; second = piece z x.second }

cut-nothing : (z : Span) → piece z [] ≡ []
unfolding slice_runs cut length_of
cut-nothing z = by-test (ltb (to_nat z.start) (min (to_nat z.end) 0)) (λ t. rw t) (λ t. rw t)

has-cut : (z : Span) (k : ℕ) (b : List Entry) → has k (map (cut_entry z) b) ≡ has k b
unfolding has
has-cut z k b = any-map (λ e. eqb k e.key) (cut_entry z) b

find-cut : (z : Span) (k : ℕ) (b : List Entry) → find k (map (cut_entry z) b) ≡ piece z (find k b)
unfolding find
find-cut z k [] = sym (cut-nothing z)
find-cut z k (e ∷ b) = by-test (eqb k e.key) (λ t. rw t) (λ t. rw t (find-cut z k b))

-- what is kept of a mapped list, where the tests agree
keep-map : {A B C D : Type 0} (f : A → B) (g : C → D) (p : A → Bool) (q : B → Bool) (m : A → C) (n : B → D) (xs : List A)
    → ((x : A) → q (f x) ≡ p x) → ((x : A) → n (f x) ≡ g (m x)) → map n (keep q (map f xs)) ≡ map g (map m (keep p xs))
keep-map f g p q m n [] h k = refl
keep-map f g p q m n (x ∷ xs) h k = by-test (p x) (λ t. rw (h x, t, k x, keep-map f g p q m n xs h k)) (λ t. rw (h x, t) (keep-map f g p q m n xs h k))

pairs-cut : (z : Span) (how : ℕ) (l r : List Entry) → pairs how (map (cut_entry z) l) (map (cut_entry z) r) ≡ map (cut_pair z) (pairs how l r)
unfolding pairs
pairs-cut z how l r =
    ap₂ ◌++◌
    (keep-map (cut_entry z) (cut_pair z) (λ e. keeps_left how || has e.key r) (λ e. keeps_left how || has e.key (map (cut_entry z) r))
    (with_right r) (with_right (map (cut_entry z) r)) l (λ e. rw has-cut) (λ e. rw find-cut))
    (keep-map (cut_entry z) (cut_pair z) (λ e. keeps_right how && not (has e.key l)) (λ e. keeps_right how && not (has e.key (map (cut_entry z) l)))
    right_only right_only r (λ e. rw has-cut) (λ e. rw (cut-nothing z)))
    ∙ sym (map-append (cut_pair z) (map (with_right r) (keep (λ e. keeps_left how || has e.key r) l))
    (map right_only (keep (λ e. keeps_right how && not (has e.key l)) r)))

-- ---- the columns of the pairs are valid, and no longer than the longest handed in

abbrev Within : ℕ → Runs → Type 0
Within n c = Valid c × (length_of c ≤ n)

abbrev EntryWithin : ℕ → Entry → Type 0
EntryWithin n e = Within n e.runs

abbrev PairWithin : ℕ → Pair → Type 0
PairWithin n x = Within n x.first × Within n x.second

within-nothing : (n : ℕ) → Within n []
unfolding length_of
within-nothing n = (tt, omega arith)

within-columns : (n : ℕ) (ks : List ℕ) (cs : List Runs) → All Valid cs → longest cs ≤ n → All (EntryWithin n) (entries_from ks cs)
unfolding entries_from greatest_length
within-columns n [] cs v h = tt
within-columns n (k ∷ ks) [] v h = tt
within-columns n (k ∷ ks) (c ∷ cs) v h = ((v.0, omega arith), within-columns n ks cs v.1 (omega arith))

longest-append : (cs ds : List Runs) → longest (cs ++ ds) ≡ max (longest cs) (longest ds)
unfolding greatest_length
longest-append [] ds = omega arith
longest-append (c ∷ cs) ds = omega (arith, longest-append cs ds)

within-find : (n k : ℕ) (b : List Entry) → All (EntryWithin n) b → Within n (find k b)
unfolding find
within-find n k [] v = within-nothing n
within-find n k (e ∷ b) v = by-test (eqb k e.key) (λ t. rw t v.0) (λ t. rw t (within-find n k b v.1))

all-kept : {A B : Type 0} (P : A → Type 0) (Q : B → Type 0) (p : A → Bool) (f : A → B) → ((x : A) → P x → Q (f x)) → (xs : List A) → All P xs
    → All Q (map f (keep p xs))
all-kept P Q p f h [] v = tt
all-kept P Q p f h (x ∷ xs) v = by-test (p x) (λ t. rw t (h x v.0, all-kept P Q p f h xs v.1)) (λ t. rw t (all-kept P Q p f h xs v.1))

all_append : {A : Type 0} (P : A → Type 0) (xs ys : List A) → All P xs → All P ys → All P (xs ++ ys)
all_append P [] ys v w = w
all_append P (x ∷ xs) ys v w = (v.0, all_append P xs ys v.1 w)

within-pairs : (n how : ℕ) (l r : List Entry) → All (EntryWithin n) l → All (EntryWithin n) r → All (PairWithin n) (pairs how l r)
unfolding pairs
within-pairs n how l r v w =
    all_append (PairWithin n) (map (with_right r) (keep (λ e. keeps_left how || has e.key r) l))
    (map right_only (keep (λ e. keeps_right how && not (has e.key l)) r))
    (all-kept (EntryWithin n) (PairWithin n) (λ e. keeps_left how || has e.key r) (with_right r) (λ e u. (u, within-find n e.key r w)) l v)
    (all-kept (EntryWithin n) (PairWithin n) (λ e. keeps_right how && not (has e.key l)) right_only (λ e u. (within-nothing n, u)) r w)

-- the columns of a piece are valid
valid-cut : (n : ℕ) (z : Span) (b : List Entry) → All (EntryWithin n) b → All Valid (columns_of (map (cut_entry z) b))
valid-cut n z [] v = tt
valid-cut n z (e ∷ b) v = (valid-slice z.start z.end e.runs v.0.0, valid-cut n z b v.1)

-- ---- 10, exactly where some pair lacks a fill

no_in_key : (n p : ℕ) (q : Question) → no_with n (refused_in_key p q) ≡ no_with n q
no_in_key n p None = refl
no_in_key n p (Some r) = refl

-- the first of two questions that are answered "no" by 10 alone
no_first : (q r : Question) (s t : Bool) → ((n : ℕ) → no_with n q ≡ s && eqb 10 n) → ((n : ℕ) → no_with n r ≡ t && eqb 10 n)
    → (n : ℕ) → no_with n (first_no (q ∷ r ∷ [])) ≡ (s || t) && eqb 10 n
no_first None r true t h k n = absurd (let z : ◌≡◌ {A = ℕ} 0 1 = cc (h 10) in omega arith)
no_first None r false t h k n = rw (alone r) (k n)
no_first (Some x) r true t h k n = h n
no_first (Some x) r false t h k n = absurd (let z : ◌≡◌ {A = ℕ} 0 1 = cc (h x.number, eq-eqb x.number x.number refl) in omega arith)

module _ (fa fb : Option ℤ) where
  abbrev lacks_pair : Pair → Bool
  lacks_pair x = lacks (two fa fb x.first x.second)

  ten_pair : (p : ℕ) (x : Pair) (n : ℕ) → no_with n (refused_in_key p (filled_pair fa fb x)) ≡ lacks_pair x && eqb 10 n
  ten_pair p x n = no_in_key n p (filled_pair fa fb x) ∙ ten_filled (length_of x.first) (length_of x.second) (two fa fb x.first x.second) n

  ten_from : (p : ℕ) (xs : List Pair) (n : ℕ) → no_with n (each_from (λ m x. refused_in_key m (filled_pair fa fb x)) p xs) ≡ any lacks_pair xs && eqb 10 n
  unfolding each_from
  ten_from p [] n = refl
  ten_from p (x ∷ xs) n =
      no_first (refused_in_key p (filled_pair fa fb x)) (each_from (λ m x. refused_in_key m (filled_pair fa fb x)) (suc p) xs) (lacks_pair x) (any lacks_pair xs)
      (ten_pair p x) (ten_from (suc p) xs) n

  ten_pairs : (xs : List Pair) (n : ℕ) → no_with n (filled_pairs fa fb xs) ≡ any lacks_pair xs && eqb 10 n
  unfolding filled_pairs
  ten_pairs xs n = ten_from 0 xs n

  module _ (n : ℕ) (points : List ℤ) (t : cut_points n points ≡ true) where
    reaches_pair : (x : Pair) → PairWithin n x → cut_points (greatest_length (two fa fb x.first x.second)) points ≡ true
    unfolding greatest_length
    reaches_pair x v = points_less (greatest_length (two fa fb x.first x.second)) n (omega arith) points t

    lacks-cut : (x : Pair) → PairWithin n x → any (λ z. lacks_pair (cut_pair z x)) (spans points) ≡ lacks_pair x
    lacks-cut x v = lacking-some (two fa fb x.first x.second) (v.0.0, (v.1.0, tt)) points (reaches_pair x v)

    -- some piece has a pair that lacks a fill exactly when the whole has
    lacks-parts : (xs : List Pair) → All (PairWithin n) xs → any (λ z. any lacks_pair (map (cut_pair z) xs)) (spans points) ≡ any lacks_pair xs
    lacks-parts xs v =
        any_same (λ z. any lacks_pair (map (cut_pair z) xs)) (λ z. any (λ x. lacks_pair (cut_pair z x)) xs) (spans points) (λ z. any-map lacks_pair (cut_pair z) xs)
        ∙ any-any (λ z x. lacks_pair (cut_pair z x)) (spans points) xs
        ∙ any-all (λ x. any (λ z. lacks_pair (cut_pair z x)) (spans points)) lacks_pair xs (all_map lacks-cut xs v)

    module _ (op : ℤ → ℤ → ℤ) where
      -- ---- the parts join up, key by key

      abbrev part : List Pair → Span → List Entry
      part xs z = map (zip_pair op fa fb) (map (cut_pair z) xs)

      module _ (lent : List ℕ → List ℕ) (enough : (needed : List ℕ) → room needed (lent needed) ≡ None) where
        joins_pair : (x : Pair) → PairWithin n x → JoinsUp lent (zip_pair op fa fb x).runs (map (λ z. (zip_pair op fa fb (cut_pair z x)).runs) (spans points))
        joins_pair x v = joins-columns lent enough op (two fa fb x.first x.second) (v.0.0, (v.1.0, tt)) points (reaches_pair x v)

        each-pair : (xs : List Pair) → All (PairWithin n) xs → (k : ℕ) → k < length (map (zip_pair op fa fb) xs)
            → JoinsUp lent (runs_at k (map (zip_pair op fa fb) xs)) (map (λ z. runs_at k (part xs z)) (spans points))
        each-pair [] v k h = absurd (let z : ⊥ = omega arith in z)
        each-pair (x ∷ xs) v zero h = joins_pair x v.0
        each-pair (x ∷ xs) v (suc k) h = each-pair xs v.1 k (omega arith)

      keys-of : (xs : List Pair) → keys_of (map (zip_pair op fa fb) xs) ≡ map (λ x. x.key) xs
      keys-of xs = map-map (λ e. e.key) (zip_pair op fa fb) xs

      keys-cut : (xs : List Pair) (z : Span) → keys_of (part xs z) ≡ keys_of (map (zip_pair op fa fb) xs)
      keys-cut xs z = keys-of (map (cut_pair z) xs) ∙ map-map (λ x. x.key) (cut_pair z) xs ∙ sym (keys-of xs)

      same_keys : (xs : List Pair) (zs : List Span) → map keys_of (map (part xs) zs) ≡ map (λ (es : List Entry). keys_of (map (zip_pair op fa fb) xs))
          (map (part xs) zs)
      same_keys xs [] = refl
      same_keys xs (z ∷ zs) = ap₂ (λ (ks : List ℕ) (kss : List (List ℕ)). ks ∷ kss) (keys-cut xs z) (same_keys xs zs)

      module _ (lends : Call → List ℕ → List ℕ) (enough : (call : Call) (needed : List ℕ) → room needed (lends call needed) ≡ None) where
        joins-pairs : (xs : List Pair) → All (PairWithin n) xs → JoinsUpByKey lends (map (zip_pair op fa fb) xs) (map (part xs) (spans points))
        joins-pairs xs v = record {
          keys = same_keys xs (spans points);
          each_key = λ k h. rw (map-map (runs_at k) (part xs) (spans points)) (each-pair (lends (joins k)) (enough (joins k)) xs v k h);
        }

        cut-pairs : (q : Question) (xs : List Pair) → All (PairWithin n) xs
            → NeverShows (JoinsUpByKey lends) (first_no (q ∷ filled_pairs fa fb xs ∷ []) otherwise map (zip_pair op fa fb) xs)
            (map (λ z. first_no (q ∷ filled_pairs fa fb (map (cut_pair z) xs) ∷ []) otherwise part xs z) (spans points))
        cut-pairs q xs v =
            let (q₀, ps, e, r) = after-zero n points t in
            rw e
            (never-shows (JoinsUpByKey lends) (filled_pairs fa fb xs) (map (zip_pair op fa fb) xs) (λ z. filled_pairs fa fb (map (cut_pair z) xs)) (part xs)
            (any lacks_pair xs) (λ z. any lacks_pair (map (cut_pair z) xs)) (record { start = pos 0; end = q₀ }) (spans_from q₀ ps)
            (ten_pairs xs) (λ z. ten_pairs (map (cut_pair z) xs))
            (rw e at (lacks-parts xs v)) (rw e at (joins-pairs xs v)) q)

-- ---- what the calls come to, of valid batches and with buffers long enough

-- a batch that is asked nothing more
abbrev Fine : Batch → Type 0
Fine b = (keyed b ≡ None) × (paired_flat b.flat ≡ None) × (offsets_flat b.flat ≡ None) × (ends_flat b.flat ≡ None)

fine_valid : (b : Batch) → ValidBatch b → Fine b
unfolding batch_valid
fine_valid b v =
    let (l, (c, _)) = all_yes (first_no (lengths_asked b) ∷ first_no (content_asked b) ∷ []) v in
    let (k, (p, _)) = all_yes (lengths_asked b) l in
    let (o, (e, _)) = all_yes (content_asked b) c in
    (k, p, o, e)

fine_laid : (es : List Entry) → All Valid (columns_of es) → Fine (batch_of es)
fine_laid es v = (keyed_laid es, paired-flat (columns_of es), offsets-flat (columns_of es), ends-flat (columns_of es) v)

slice-answers : (b : Batch) (start end : ℤ) (given : List ℕ) → Fine b → room (batch_needs (length b.keys) (length b.flat.ends)) given ≡ None
    → map_rles_slice b start end given ≡ answers (on_each (slice_runs start end) (entries b))
unfolding map_rles_slice each_asked batch_valid
slice-answers b start end given h r = rw (h.0, h.1, h.2, h.3, r)

both_fine : (a b : Batch) → Fine a → Fine b → both_valid a b ≡ None
unfolding both_valid
both_fine a b h k = rw (h.0, k.0, h.1, k.1, h.2, k.2, h.3, k.3)

module _ (how : ℕ) (fa fb : Option ℤ) (code : ℕ) where
  -- the questions before the fills
  abbrev before : Question
  before = first_no (listed 0 3 how ∷ listed 0 9 code ∷ [])

  -- the questions that are left
  abbrev settled : List Pair → Outcome (List Entry)
  settled ps = first_no (before ∷ filled_pairs fa fb ps ∷ []) otherwise map (zip_pair (operation code) fa fb) ps

  asked_settles : (a b : Batch) → Fine a → Fine b → zip_asked a b how code ≡ before
  unfolding zip_asked
  asked_settles a b h k =
      first-same (listed 0 3 how) (listed 0 9 code ∷ both_valid a b ∷ []) (listed 0 9 code ∷ [])
      (first-same (listed 0 9 code) (both_valid a b ∷ []) [] (rw (both_fine a b h k)))

  zip_settles : (a b : Batch) (given : List ℕ) → Fine a → Fine b → room (zip_needs a b (pairs how (entries a) (entries b))) given ≡ None
      → zip_with a b how fa fb code given ≡ settled (pairs how (entries a) (entries b))
  unfolding zip_with
  zip_settles a b given h k r =
      let ps = pairs how (entries a) (entries b) in
      let fills = filled_pairs fa fb ps in
      rw (asked_settles a b h k)
      (ap (λ q. q otherwise map (zip_pair (operation code) fa fb) ps)
      (first-same before (fills ∷ room (zip_needs a b ps) given ∷ []) (fills ∷ []) (first-same fills (room (zip_needs a b ps) given ∷ []) [] (rw r))))

  module _ (lends : Call → List ℕ → List ℕ) (enough : (call : Call) (needed : List ℕ) → room needed (lends call needed) ≡ None) where
    zip_laid : (call : Call) (l r : List Entry) → All Valid (columns_of l) → All Valid (columns_of r)
        → zip_batches (lends call) how fa fb code (batch_of l) (batch_of r) ≡ settled (pairs how l r)
    zip_laid call l r v w =
        let needed = zip_needs (batch_of l) (batch_of r) (pairs how (entries (batch_of l)) (entries (batch_of r))) in
        zip_settles (batch_of l) (batch_of r) (lends call needed) (fine_laid l v) (fine_laid r w) (enough call needed)
        ∙ ap₂ (λ l r. settled (pairs how l r)) (entries_laid l) (entries_laid r)

    piece_settles : (n : ℕ) (a b : Batch) → Fine a → Fine b → All (EntryWithin n) (entries a) → All (EntryWithin n) (entries b) → (i : ℕ) (z : Span)
        → zip_batch_pieces lends how fa fb code a b i z ≡ settled (map (cut_pair z) (pairs how (entries a) (entries b)))
    piece_settles n a b h k v w i z =
        let na = batch_needs (length a.keys) (length a.flat.ends) in
        let nb = batch_needs (length b.keys) (length b.flat.ends) in
        rw (
          slice-answers a z.start z.end (lends (cuts i 0) na) h (enough (cuts i 0) na),
          slice-answers b z.start z.end (lends (cuts i 1) nb) k (enough (cuts i 1) nb),
        )
        (zip_laid (combines i) (map (cut_entry z) (entries a)) (map (cut_entry z) (entries b)) (valid-cut n z (entries a) v) (valid-cut n z (entries b) w)
        ∙ ap settled (pairs-cut z how (entries a) (entries b)))

    within : (n : ℕ) (b : Batch) → Fine b → longest (columns b.flat) ≤ n → All (EntryWithin n) (entries b)
    unfolding entries
    within n b h l =
        let f = b.flat in
        within-columns n b.keys (columns f) (columns-valid f.offsets f.ends f.values (sequences-told f.offsets f.ends h.3)) l

    pub batch : (points : List ℤ) (a b : Batch) → ValidBatch a → ValidBatch b
        → cut_points (longest (columns a.flat ++ columns b.flat)) points ≡ true
        → NeverShows (JoinsUpByKey lends) (zip_batches (lends combines_whole) how fa fb code a b)
        (numbered (zip_batch_pieces lends how fa fb code a b) 0 (spans points))
    batch points a b va vb t =
        let h = fine_valid a va in
        let k = fine_valid b vb in
        let n = longest (columns a.flat ++ columns b.flat) in
        let ps = pairs how (entries a) (entries b) in
        let m = longest-append (columns a.flat) (columns b.flat) in
        let v = within n a h (omega (arith, m)) in
        let w = within n b k (omega (arith, m)) in
        let needed = zip_needs a b ps in
        rw (
          zip_settles a b (lends combines_whole needed) h k (enough combines_whole needed),
          numbered-same (zip_batch_pieces lends how fa fb code a b) (λ z. settled (map (cut_pair z) ps)) 0 (spans points)
              (piece_settles n a b h k v w),
        )
        (cut-pairs fa fb n points t (operation code) lends enough before ps (within-pairs n how (entries a) (entries b) v w))
