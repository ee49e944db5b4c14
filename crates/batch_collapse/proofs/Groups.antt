-- The groups one after another: n of them are done, and `first` is where the next stands.
-- Assumes nothing.
use Prim.Native.Nat.{ℕ, zero, suc, ◌+◌, ◌-◌, ◌≤◌, ◌<◌}
use mathlib.Core.Bool.{true, false}
use Rattle.std.specs.Prelude.{Some, None, Result, ⊤, IsErrAnd}
use mathlib.Core.List.{List, [], ◌∷◌}
use mathlib.Core.Path.{◌≡◌, refl, ap, sym, ◌∙◌}
use native.Mathlib.Numerals.{add-one}
use native.Mathlib.Omega.{arith}
use lib.IntN.{ℤ}
use lib.ListN.{length, get_or, drop, length-drop}
use lib.Seq.{drop-cons}
use Rattle.column.specs.declared.error.Refusal.{Refusal}
use Rattle.column.specs.Asking.{Question, shown_asked, each_from, refused_in_key}
use Rattle.column.specs.Paper.{paper}
use Rattle.column.proofs.FirstNo.{each_next, each-refused, each-end}
use Rattle.column.proofs.Promised.{passed_on}
use Rattle.batch_index.specs.Workers.{doubled}
use Rattle.batch_keys.specs.Calls.{once}
use Rattle.batch_keys.proofs.Once.{once_at, once-start, once-doubled, once-single, once-end, once-few}
use Rattle.batch.specs.Batch.{Entry}
use Rattle.batch_collapse.specs.Calls.{members, filled_group, filled_groups}
use Rattle.batch_collapse.specs.Workers.{NextGroup}

pub record Grouping (ks : List ℕ) (n first : ℕ) : Type 0 where
  pub within : first ≤ length ks
  pub single : first < length ks → doubled ks first ≡ false
  pub rest : drop n (once ks) ≡ once_at ks first

module _ (ks : List ℕ) where
  skip : (n d : ℕ) → n + d ≤ length ks → ((i : ℕ) → n ≤ i → i < n + d → doubled ks i ≡ true) → once_at ks n ≡ once_at ks (n + d)
  skip n zero h f = let e : n + 0 ≡ n = omega arith in rw e
  skip n (suc d) h f =
      let e : n + 1 + d ≡ n + suc d = omega arith in
      once-doubled ks n (omega arith) (f n (omega arith) (omega arith))
      ∙ skip (n + 1) d (omega arith) (λ i a b. f i (omega arith) (omega arith))
      ∙ ap (once_at ks) e

  next_once : {n r : ℕ} → NextGroup ks n r → once_at ks n ≡ once_at ks r
  next_once {n} {r} s =
      let e : n + (r - n) ≡ r = omega (arith, s.after) in
      skip n (r - n) (omega (arith, s.within)) (λ i a b. s.before i a (omega arith)) ∙ ap (once_at ks) e

  pub grouping_start : {r : ℕ} → NextGroup ks 0 r → Grouping ks 0 r
  grouping_start s = record { within = s.within; single = s.here; rest = once-start ks ∙ next_once s }

  module _ {n first : ℕ} (s : Grouping ks n first) where
    module _ (h : first < length ks) where
      here : drop n (once ks) ≡ get_or ks first 0 ∷ once_at ks (first + 1)
      here = s.rest ∙ once-single ks first h (s.single h)

      pub group-within : n < length (once ks)
      group-within = omega (arith, ap length here, length-drop n (once ks))

      pub group_few : n < length ks
      unfolding once
      group_few = omega (arith, group-within, once-few [] ks)

      both : get_or (once ks) n 0 ∷ drop (suc n) (once ks) ≡ get_or ks first 0 ∷ once_at ks (first + 1)
      both = sym (drop-cons (once ks) n 0 group-within) ∙ here

      -- the n-th group is the one at `first`
      pub group-key : get_or (once ks) n 0 ≡ get_or ks first 0
      group-key = let b = both in cc

      pub grouping-next : {r : ℕ} → NextGroup ks (first + 1) r → Grouping ks (n + 1) r
      grouping-next t =
          let b = both in
          let e : drop (suc n) (once ks) ≡ once_at ks (first + 1) = cc in
          record { within = t.within; single = t.here; rest = ap (λ (m : ℕ). drop m (once ks)) (add-one n) ∙ e ∙ next_once t }

    pub group_all : length ks ≤ first → length (once ks) ≤ n
    group_all h = omega (arith, ap length (s.rest ∙ once-end ks first h), length-drop n (once ks))

-- ---- 10 of each, without a fill

module _ (op : ℤ → ℤ → ℤ) (es : List Entry) (ks : List ℕ) where
  abbrev ask : ℕ → ℕ → Question
  ask n k = refused_in_key n (filled_group op None (members es k))

  pub record AskingAll (n first : ℕ) : Type 0 where
    pub groups : Grouping ks n first
    pub left : filled_groups op None es (once ks) ≡ each_from ask n (drop n (once ks))

  pub all_start : {r : ℕ} → NextGroup ks 0 r → AskingAll 0 r
  unfolding filled_groups
  all_start s = record { groups = grouping_start ks s; left = refl }

  module _ {n first : ℕ} (s : AskingAll n first) where
    module _ (h : first < length ks) {q : Question} (eq : q ≡ filled_group op None (members es (get_or ks first 0))) where
      asked : ask n (get_or (once ks) n 0) ≡ refused_in_key n q
      asked = ap (ask n) (group-key ks s.groups h) ∙ sym (ap (refused_in_key n) eq)

      pub all-no : (r : Result ⊤ Refusal) (e : Refusal) → IsErrAnd r (λ (z : Refusal). z ≡ e) → Some (paper e) ≡ refused_in_key n q
          → shown_asked r ≡ filled_groups op None es (once ks)
      all-no r e i f =
          ap shown_asked (passed_on r e i)
          ∙ sym (s.left ∙ each-refused ask n (once ks) 0 (group-within ks s.groups h) (asked ∙ sym f))

      pub all-next : {r : ℕ} → None ≡ refused_in_key n q → NextGroup ks (first + 1) r → AskingAll (n + 1) r
      all-next e t = record {
        groups = grouping-next ks s.groups h t;
        left = s.left
            ∙ each_next ask n (once ks) 0 (group-within ks s.groups h) (asked ∙ sym e);
      }

    pub all_end : length ks ≤ first → None ≡ filled_groups op None es (once ks)
    all_end h = sym (s.left ∙ each-end ask n (once ks) 0 (group_all ks s.groups h))
