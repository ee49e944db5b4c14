-- 10 of a group: without a fill its members are equally long; with one it is answered "yes".
-- Assumes nothing.
use Prim.Native.Nat.{ℕ, suc, ◌+◌, ◌≤◌, ◌<◌}
use mathlib.Core.Bool.{Bool, true, false, ◌&&◌, ◌||◌}
use Rattle.std.specs.Prelude.{Some, None, Option, Result, ⊤, IsErrAnd}
use mathlib.Core.List.{List, [], ◌∷◌}
use mathlib.Core.Path.{◌≡◌, refl, ap, sym, ◌∙◌}
use native.Mathlib.Omega.{arith}
use lib.Dec.{ltb, leb}
use lib.IntN.{ℤ, pos}
use lib.ListN.{length, get_or}
use lib.Signed.{lt_z, le_z}
use borrow.Author.Tests.{ltb-true, ltb-false, le-ltb, le-leb, lt-leb}
use Rattle.num.proofs.Tests.{by-test}
use Rattle.num.specs.Numbers.{larger_of}
use Rattle.column.specs.declared.error.Refusal.{Refusal}
use Rattle.column.specs.Asking.{Question, shown_asked, refusal, each_from, refused_in_key}
use Rattle.column.specs.Combine.{two, all_filled, combined}
use Rattle.column.specs.Paper.{PaperRefusal, paper}
use Rattle.column.specs.Questions.{side, filled}
use Rattle.column.specs.Runs.{Runs, length_of, dense, encode}
use Rattle.column.proofs.FirstNo.{alone}
use Rattle.column.proofs.Promised.{passed_on}
use Rattle.column.proofs.YesNo.{fills_first, fills-second}
use Rattle.column.proofs.Rising.{Valid}
use Rattle.batch_index.specs.Workers.{doubled, NextPosition}
use Rattle.batch.specs.Batch.{Entry, entries_from}
use Rattle.batch_collapse.specs.Calls.{filled_from, filled_group, filled_groups, members}
use Rattle.batch_collapse.proofs.Few.{merged-long, combined-long}
use Rattle.batch_collapse.proofs.Members.{members_at, AtMember, at_next, member_at, members_first, members-next, members_end}

-- ---- with a fill

-- no side lacks it
never-lacking : (s t : Bool) → (s && false || (t && false || false)) ≡ false
never-lacking true true = refl
never-lacking true false = refl
never-lacking false true = refl
never-lacking false false = refl

value-filled : (v : ℤ) (a b : Runs) → all_filled (length_of a) (length_of b) (two (Some v) (Some v) a b) ≡ None
unfolding all_filled filled
value-filled v a b =
    let n = larger_of (pos (length_of a)) (larger_of (pos (length_of b)) (pos 0)) in
    rw (never-lacking (lt_z (pos (length_of a)) n) (lt_z (pos (length_of b)) n))

value-from : (op : ℤ → ℤ → ℤ) (v : ℤ) (sofar : Runs) (ms : List Runs) → filled_from op (Some v) sofar ms ≡ None
unfolding filled_from
value-from op v sofar [] = refl
value-from op v sofar (m ∷ ms) = rw (value-filled v sofar m, value-from op v (combined op (two (Some v) (Some v) sofar m)) ms)

value_group : (op : ℤ → ℤ → ℤ) (v : ℤ) (ms : List Runs) → filled_group op (Some v) ms ≡ None
unfolding filled_group
value_group op v [] = refl
value_group op v (m ∷ ms) = value-from op v (encode (dense m)) ms

value-each : (op : ℤ → ℤ → ℤ) (v : ℤ) (es : List Entry) (n : ℕ) (groups : List ℕ)
    → each_from (λ n k. refused_in_key n (filled_group op (Some v) (members es k))) n groups ≡ None
unfolding each_from
value-each op v es n [] = refl
value-each op v es n (k ∷ groups) = rw (value_group op v (members es k), value-each op v es (suc n) groups)

-- ---- of all groups, by the fill

module _ (op : ℤ → ℤ → ℤ) {fill : Option ℤ} (es : List Entry) (groups : List ℕ) where
  pub value-groups : {v : ℤ} → fill ≡ Some v → None ≡ filled_groups op fill es groups
  unfolding filled_groups
  value-groups {v} e = rw e (sym (value-each op v es 0 groups))

-- ---- without

-- two sides are equally long
missing_equal : (a b : ℕ) → filled (pos a) (pos b) (side (pos a) None ∷ side (pos b) None ∷ []) ≡ None → a ≡ b
missing_equal a b e =
    by-test (ltb a b)
    (λ t. let h = ltb-true a b t in
    let n : larger_of (pos b) (pos 0) ≡ pos b = rw (lt-leb b 0 (omega arith)) in
    let m : pos b ≡ larger_of (pos a) (larger_of (pos b) (pos 0)) = rw (n, le-leb a b (omega arith)) in
    let z : refusal 10 (pos a ∷ pos b ∷ []) ≡ None = sym (fills_first (pos a) (pos b) None None m (rw t)) ∙ e in
    cc)
    (λ t. by-test (ltb b a)
    (λ u. let h = ltb-true b a u in
    let n : le_z (pos a) (larger_of (pos b) (pos 0)) ≡ false = by-test (leb b 0) (λ w. rw (w, lt-leb a 0 (omega arith)))
    (λ w. rw (w, lt-leb a b (omega arith))) in
    let m : pos a ≡ larger_of (pos a) (larger_of (pos b) (pos 0)) = rw n in
    let z : refusal 10 (pos a ∷ pos b ∷ []) ≡ None = sym (fills-second (pos a) (pos b) None None m (rw (le-ltb a a (omega arith)))
    (rw u)) ∙ e in
    cc)
    (λ u. omega (arith, ltb-false a b t, ltb-false b a u)))

module _ (op : ℤ → ℤ → ℤ) (sofar m : Runs) (ms : List Runs) where
  abbrev ask : Question
  ask = all_filled (length_of sofar) (length_of m) (two None None sofar m)

  from-yes : ask ≡ None → (filled_from op None sofar (m ∷ ms) ≡ filled_from op None (combined op (two None None sofar m)) ms)
      × (length_of (combined op (two None None sofar m)) ≡ length_of sofar)
  unfolding filled_from all_filled
  from-yes y =
      let e = missing_equal (length_of sofar) (length_of m) y in
      (rw y (alone (filled_from op None (combined op (two None None sofar m)) ms)), combined-long op None None sofar m ∙ omega arith)

  from_no : {r : PaperRefusal} → ask ≡ Some r → filled_from op None sofar (m ∷ ms) ≡ Some r
  unfolding filled_from
  from_no n = rw n

-- the members before `at` are as long as the first
pub record Asking (op : ℤ → ℤ → ℤ) (key : ℕ) (ks : List ℕ) (cs : List Runs) (first : Runs) (at : ℕ) : Type 0 where
  pub member : AtMember key ks at
  pub sofar : Runs
  pub long : length_of sofar ≡ length_of first
  pub left : filled_group op None (members (entries_from ks cs) key) ≡ filled_from op None sofar (members_at key ks cs at)

module _ (op : ℤ → ℤ → ℤ) (ks : List ℕ) (cs : List Runs) (l : length ks ≡ length cs) where
  pub asking_start : (first : ℕ) {r : ℕ} → Valid (get_or cs first []) → first < length ks → doubled ks first ≡ false
      → NextPosition (get_or ks first 0) ks (first + 1) r
      → Asking op (get_or ks first 0) ks cs (get_or cs first []) r
  unfolding filled_group
  asking_start first v h t s = record {
    member = at_next (get_or ks first 0) ks cs l first s refl;
    sofar = encode (dense (get_or cs first []));
    long = merged-long (get_or cs first []) v;
    left = rw (members_first (get_or ks first 0) ks cs l first h t refl s);
  }

  module _ (key : ℕ) (first : Runs) (at : ℕ) (s : Asking op key ks cs first at) where
    module _ (h : at < length ks) {x y : ℤ} (ex : x ≡ pos (length_of first)) (ey : y ≡ pos (length_of (get_or cs at []))) where
      asked : all_filled (length_of s.sofar) (length_of (get_or cs at [])) (two None None s.sofar (get_or cs at []))
          ≡ filled x y (side x None ∷ side y None ∷ [])
      unfolding all_filled
      asked = sym (rw (ex ∙ ap pos (sym s.long), ey))

      pub asking-no : (r : Result ⊤ Refusal) (e : Refusal) → IsErrAnd r (λ (z : Refusal). z ≡ e) → Some (paper e) ≡ filled x y (side x None ∷ side y None ∷ [])
          → shown_asked r ≡ filled_group op None (members (entries_from ks cs) key)
      asking-no r e i q =
          ap shown_asked (passed_on r e i)
          ∙ sym (s.left ∙ ap (filled_from op None s.sofar) (member_at key ks cs l at h (s.member.here h))
          ∙ from_no op s.sofar (get_or cs at []) (members_at key ks cs (at + 1)) (asked ∙ sym q))

      pub asking-next : None ≡ filled x y (side x None ∷ side y None ∷ []) → {n : ℕ} → NextPosition (get_or ks at 0) ks (at + 1) n
          → Asking op key ks cs first n
      asking-next q {n} nx =
          let f = from-yes op s.sofar (get_or cs at []) (members_at key ks cs n) (asked ∙ sym q) in
          record {
            member = at_next key ks cs l at nx (s.member.here h);
            sofar = combined op (two None None s.sofar (get_or cs at []));
            long = f.1 ∙ s.long;
            left = s.left ∙ ap (filled_from op None s.sofar) (members-next key ks cs l at nx h (s.member.here h)) ∙ f.0;
          }

    pub asking_end : length ks ≤ at → None ≡ filled_group op None (members (entries_from ks cs) key)
    unfolding filled_from
    asking_end h = sym (s.left ∙ ap (filled_from op None s.sofar) (members_end key ks cs l at h))
