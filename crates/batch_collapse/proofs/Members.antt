-- The members of a new key from a position on: the columns of those of the keys that are it.
-- Assumes nothing.
use Prim.Native.Nat.{ℕ, zero, suc, ◌+◌, ◌-◌, ◌≤◌, ◌<◌}
use mathlib.Core.Bool.{false}
use mathlib.Core.List.{List, [], ◌∷◌, map}
use mathlib.Core.Path.{◌≡◌, refl, ap, sym, ◌∙◌}
use native.Mathlib.Numerals.{add-one}
use native.Mathlib.Omega.{arith}
use lib.Dec.{eqb}
use lib.ListN.{length, get_or, drop, drop_of_length-le}
use lib.Seq.{drop-cons}
use borrow.Author.Tests.{eqb-true, eqb-false, eq-eqb, ne_eqb}
use Rattle.num.proofs.Tests.{by-test}
use Rattle.column.specs.Lists.{any, total}
use Rattle.column.specs.Runs.{Runs}
use Rattle.column.proofs.All.{All}
use Rattle.batch_index.specs.Workers.{doubled, NextPosition}
use Rattle.batch_index.proofs.Lowest.{no_test}
use Rattle.batch_index.proofs.Doubles.{among_not}
use Rattle.batch_keys.proofs.Once.{NoDoubles}
use Rattle.batch.specs.Batch.{Entry, entries_from}
use Rattle.batch_collapse.specs.Calls.{members}
use Rattle.batch_collapse.specs.Workers.{member_runs}

abbrev pub members_at : ℕ → List ℕ → List Runs → ℕ → List Runs
members_at key ks cs n = members (entries_from (drop n ks) (drop n cs)) key

-- a position of the key, or the number of keys
pub record AtMember (key : ℕ) (ks : List ℕ) (n : ℕ) : Type 0 where
  pub within : n ≤ length ks
  pub here : n < length ks → get_or ks n 0 ≡ key

module _ (key : ℕ) (ks : List ℕ) (cs : List Runs) (l : length ks ≡ length cs) where
  other_at : (n : ℕ) → n < length ks → eqb key (get_or ks n 0) ≡ false → members_at key ks cs n ≡ members_at key ks cs (n + 1)
  unfolding entries_from members
  other_at n h t = rw (add-one n, drop-cons ks n 0 h, drop-cons cs n [] (omega arith), t)

  pub member_at : (n : ℕ) → n < length ks → get_or ks n 0 ≡ key → members_at key ks cs n ≡ get_or cs n [] ∷ members_at key ks cs (n + 1)
  unfolding entries_from members
  member_at n h e = rw (add-one n, drop-cons ks n 0 h, drop-cons cs n [] (omega arith), eq-eqb key (get_or ks n 0) (sym e))

  others : (n d : ℕ) → n + d ≤ length ks → ((i : ℕ) → n ≤ i → i < n + d → eqb key
      (get_or ks i 0) ≡ false) → members_at key ks cs n ≡ members_at key ks cs (n + d)
  others n zero h f = let e : n + 0 ≡ n = omega arith in rw e
  others n (suc d) h f =
      let e : n + 1 + d ≡ n + suc d = omega arith in
      other_at n (omega arith) (f n (omega arith) (omega arith))
      ∙ others (n + 1) d (omega arith) (λ i a b. f i (omega arith) (omega arith))
      ∙ ap (members_at key ks cs) e

  next_at : {n r : ℕ} → NextPosition key ks n r → members_at key ks cs n ≡ members_at key ks cs r
  next_at {n} {r} s =
      let e : n + (r - n) ≡ r = omega (arith, s.after) in
      others n (r - n) (omega (arith, s.within)) (λ i a b. s.before i a (omega arith)) ∙ ap (members_at key ks cs) e

  -- ---- one member after another

  module _ (at : ℕ) {r : ℕ} (s : NextPosition (get_or ks at 0) ks (at + 1) r) where
    pub at_next : get_or ks at 0 ≡ key → AtMember key ks r
    at_next e = record { within = s.within; here = λ h. s.here h ∙ e }

    pub members-next : at < length ks → get_or ks at 0 ≡ key → members_at key ks cs at ≡ get_or cs at [] ∷ members_at key ks cs r
    members-next h e = member_at at h e ∙ ap {B = List Runs} (λ ms. get_or cs at [] ∷ ms) (next_at (rw e at s))

  pub members_end : (at : ℕ) → length ks ≤ at → members_at key ks cs at ≡ []
  unfolding entries_from members
  members_end at h = rw (drop_of_length-le ks h)

  -- the first member
  pub members_first : (first : ℕ) {r : ℕ} → first < length ks → doubled ks first ≡ false → get_or ks first 0 ≡ key
      → NextPosition (get_or ks first 0) ks (first + 1) r
      → members (entries_from ks cs) key ≡ get_or cs first [] ∷ members_at key ks cs r
  members_first first h t e s =
      let z : 0 + first ≡ first = omega arith in
      others 0 first (omega arith) (λ i a b. ne_eqb key (get_or ks i 0) (λ q. among_not (get_or ks first 0) ks first i t (omega arith)
      (omega arith) (e ∙ q)))
      ∙ ap (members_at key ks cs) z
      ∙ members-next first s h e

-- ---- of all of them what each has

pub members-all : (P : Runs → Type 0) (key : ℕ) (ks : List ℕ) (cs : List Runs) → All P cs → All P (members (entries_from ks cs) key)
unfolding entries_from members
members-all P key [] cs a = tt
members-all P key (k ∷ ks) [] a = tt
members-all P key (k ∷ ks) (c ∷ cs) a = by-test (eqb key k) (λ t. rw t (a.0, members-all P key ks cs a.1)) (λ t. rw t
    (members-all P key ks cs a.1))

-- ---- the runs of the members of keys none of which is given twice: no more than all runs

abbrev pub group_runs : List Entry → List ℕ → ℕ
group_runs es groups = total (map (member_runs es) groups)

groups_none : (groups : List ℕ) → group_runs [] groups ≡ 0
unfolding members
groups_none [] = refl
groups_none (g ∷ groups) = omega (arith, groups_none groups)

-- an entry counts for no key but its own
groups-other : (e : Entry) (es : List Entry) (groups : List ℕ) → any (eqb e.key) groups ≡ false → group_runs (e ∷ es) groups ≡ group_runs es groups
unfolding members
groups-other e es [] t = refl
groups-other e es (g ∷ groups) t =
    by-test (eqb e.key g)
    (λ w. no_test (rw w) t)
    (λ w. rw (ne_eqb g e.key (λ q. eqb-false e.key g w (sym q))) (omega (arith, groups-other e es groups (rw w at t))))

groups-more : (e : Entry) (es : List Entry) (groups : List ℕ) → NoDoubles groups → group_runs (e ∷ es) groups ≤ length e.runs + group_runs es groups
unfolding members
groups-more e es [] n = omega arith
groups-more e es (g ∷ groups) n =
    by-test (eqb g e.key)
    (λ u. let q = eqb-true g e.key u in rw u (omega (arith, groups-other e es groups (rw q at n.0))))
    (λ u. rw u (omega (arith, groups-more e es groups n.1)))

pub groups-few : (ks : List ℕ) (cs : List Runs) (groups : List ℕ) → NoDoubles groups → group_runs (entries_from ks cs) groups ≤ total (map length cs)
unfolding entries_from
groups-few [] cs groups n = omega (arith, groups_none groups)
groups-few (k ∷ ks) [] groups n = omega (arith, groups_none groups)
groups-few (k ∷ ks) (c ∷ cs) groups n = omega (
  arith,
  groups-more (record { key = k; runs = c }) (entries_from ks cs) groups n,
  groups-few ks cs groups n,
)

pub members-few : (ks : List ℕ) (cs : List Runs) (key : ℕ) → member_runs (entries_from ks cs) key ≤ total (map length cs)
members-few ks cs key = omega (arith, groups-few ks cs (key ∷ []) (refl, tt))

-- ---- the runs of the members counted: those before `at`

pub record Summing (key : ℕ) (ks : List ℕ) (cs : List Runs) (runs at : ℕ) : Type 0 where
  pub member : AtMember key ks at
  pub sum : runs + total (map length (members_at key ks cs at)) ≡ member_runs (entries_from ks cs) key

module _ (ks : List ℕ) (cs : List Runs) (l : length ks ≡ length cs) where
  pub summing_start : (first : ℕ) {runs r : ℕ} → first < length ks → doubled ks first ≡ false → NextPosition (get_or ks first 0) ks (first + 1) r
      → runs ≡ length (get_or cs first [])
      → Summing (get_or ks first 0) ks cs runs r
  summing_start first h t s e = record {
    member = at_next (get_or ks first 0) ks cs l first s refl;
    sum = rw (members_first (get_or ks first 0) ks cs l first h t refl s) (omega arith);
  }

  module _ (key at : ℕ) {runs : ℕ} (s : Summing key ks cs runs at) where
    module _ {n : ℕ} (h : at < length ks) (e : n ≡ length (get_or cs at [])) where
      pub summing-room : runs + n ≤ total (map length cs)
      summing-room = omega (
        arith,
        s.sum,
        members-few ks cs key,
        ap (λ (ms : List Runs). total (map length ms))
            (member_at key ks cs l at h (s.member.here h)),
      )

      pub summing-next : {r : ℕ} → NextPosition (get_or ks at 0) ks (at + 1) r → Summing key ks cs (runs + n) r
      summing-next nx = record {
        member = at_next key ks cs l at nx (s.member.here h);
        sum = omega (arith, s.sum, ap (λ (ms : List Runs). total (map length ms)) (members-next key ks cs l at nx h (s.member.here h)));
      }

    pub summing_end : length ks ≤ at → runs ≡ member_runs (entries_from ks cs) key
    summing_end h = omega (arith, s.sum, ap (λ (ms : List Runs). total (map length ms)) (members_end key ks cs l at h))
