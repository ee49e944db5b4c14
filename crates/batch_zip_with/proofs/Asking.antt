-- The loop that asks about all pairs of a join, and counts their runs: n of them are asked, and o is the place of the next, if there is one.
-- Assumes nothing.
use Rattle.std.specs.Prelude.{Option, Some, None, Result, Ok, Err, ⊤}
use Rattle.std.specs.Result.{result_and}
use Prim.Native.Nat.{ℕ, ◌+◌, ◌<◌, ◌^◌}
use mathlib.Core.List.{List, [], ◌∷◌, map}
use mathlib.Core.Path.{◌≡◌, refl, ap, ap₂, sym, ◌∙◌}
use native.Mathlib.Numerals.{add-one}
use native.Mathlib.Omega.{arith}
use lib.IntN.{ℤ}
use lib.ListN.{length, get_or, drop}
use Rattle.num.specs.Numbers.{saturated}
use Rattle.column.specs.declared.error.Refusal.{Refusal}
use Rattle.column.specs.Asking.{Question, shown_asked, first_no, each_from, refused_in_key}
use Rattle.column.specs.Combine.{all_filled}
use Rattle.column.specs.Lists.{total, parts}
use Rattle.column.specs.Questions.{side, filled}
use Rattle.column.specs.Runs.{length_of_ends}
use Rattle.column.proofs.FirstNo.{alone, first_rest, first_several}
use Rattle.batch.specs.declared.two.Joined.{Joined}
use Rattle.batch.specs.Batch.{Batch}
use Rattle.batch.specs.Workers.{ValidBatch}
use Rattle.batch.proofs.Entries.{column-count, column-length}
use Rattle.batch_zip_with.specs.Calls.{Pair, filled_pair, filled_pairs, pair_runs}
use Rattle.batch_zip_with.specs.Workers.{AsksPairs}
use Rattle.batch_zip_with.proofs.Pairs.{pair_of, all_pairs, places_in, place_in, kept_in, NextPair, Stands, pairs-rest, standing-start, standing-pair, standing-next}
use Rattle.batch_zip_with.proofs.Pairs.{standing-end}

-- two questions, joined
pub both-asked : (x y : Result ⊤ Refusal) → shown_asked (result_and x y) ≡ first_no (shown_asked x ∷ shown_asked y ∷ [])
both-asked (Ok x) y = sym (alone (shown_asked y))
both-asked (Err e) y = refl

-- one more question, before those that are left
asked-more : {r b : Question} (a p c : Question) → r ≡ first_no (a ∷ b ∷ []) → b ≡ p
    → first_no (r ∷ c ∷ []) ≡ first_no (a ∷ first_no (p ∷ c ∷ []) ∷ [])
asked-more a p c e h =
    ap (λ (q : Question). first_no (q ∷ c ∷ [])) (e ∙ ap (λ (q : Question). first_no (a ∷ q ∷ [])) h) ∙ sym (first_several (a ∷ p ∷ []) (c ∷ []))
    ∙ sym (first_rest a (p ∷ c ∷ []))

module _ (how : ℕ) (a b : Batch) (fa fb : Option ℤ) where
  abbrev question : ℕ → Pair → Question
  question n p = refused_in_key n (filled_pair fa fb p)

  -- what n of them come to, and how many runs they have
  pub record Asking (asked : Result ⊤ Refusal) (runs n : ℕ) (o : Option Joined) : Type 0 where
    pub shown : runs < 2 ^ 64
    pub stands : Stands how a b n o
    pub left : first_no (shown_asked asked ∷ each_from question n (drop n (all_pairs how a b)) ∷ []) ≡ filled_pairs fa fb (all_pairs how a b)
    pub count : saturated (runs + total (map pair_runs (drop n (all_pairs how a b)))) ≡ saturated (total (map pair_runs (all_pairs how a b)))

  module _ (va : ValidBatch a) (vb : ValidBatch b) where
    pub asking_start : {o : Option Joined} → NextPair how a b 0 o → Asking (Ok tt) 0 0 o
    unfolding filled_pairs
    asking_start s = record {
      shown = omega arith;
      stands = standing-start (place_in how a b) (kept_in how a b) (pair_of a b) (places_in how a b) (all_pairs how a b) (pairs-rest how a b va vb) s;
      left = alone (each_from question 0 (all_pairs how a b));
      count = omega arith;
    }

    module _ {asked : Result ⊤ Refusal} {runs n : ℕ} {o : Option Joined} (s : Asking asked runs n o) where
      pub asking_end : o ≡ None → AsksPairs fa fb (all_pairs how a b) (record { asked = asked; runs = runs })
      unfolding each_from
      asking_end test =
          let z = standing-end (place_in how a b) (kept_in how a b) (pair_of a b) (places_in how a b) (all_pairs how a b) s.stands test in
          let q : first_no (shown_asked asked ∷ each_from question n [] ∷ []) ≡ filled_pairs fa fb (all_pairs how a b) = rw z at s.left in
          let c : saturated (runs + total (map pair_runs [])) ≡ saturated (total (map pair_runs (all_pairs how a b))) = rw z at s.count in
          record { filled = sym (first_rest (shown_asked asked) [] ∙ alone (shown_asked asked)) ∙ q; runs = omega (arith, c, s.shown) }

      -- the sequences of the next pair, as the code reads them
      module _ {j : Joined} (h : o ≡ Some j) {left right : List ℤ} (el : left ≡ get_or (parts a.flat.offsets a.flat.ends) j.a [])
          (er : right ≡ get_or (parts b.flat.offsets b.flat.ends) j.b []) where
        next : drop n (all_pairs how a b) ≡ pair_of a b j ∷ drop (n + 1) (all_pairs how a b)
        next = standing-pair (place_in how a b) (kept_in how a b) (pair_of a b) (places_in how a b) (all_pairs how a b) s.stands h

        abbrev later : ℕ → Question
        later i = each_from question i (drop (n + 1) (all_pairs how a b))

        -- its question, after those before it and before those of the pairs after it
        ahead : first_no (shown_asked asked ∷ first_no (question n (pair_of a b j) ∷ later (n + 1) ∷ []) ∷ []) ≡ filled_pairs fa fb (all_pairs how a b)
        unfolding each_from
        ahead =
            ap (λ (i : ℕ). first_no (shown_asked asked ∷ first_no (question n (pair_of a b j) ∷ later i ∷ []) ∷ [])) (add-one n)
            ∙ rw next at s.left

        filled-asked : {x y : ℤ} {q : Question} → q ≡ filled x y (side x fa ∷ side y fb ∷ []) → x ≡ length_of_ends left → y ≡ length_of_ends right
            → q ≡ filled_pair fa fb (pair_of a b j)
        unfolding all_filled
        filled-asked e ex ey =
            e
            ∙ ap₂ (λ (l r : ℤ). filled l r (side l fa ∷ side r fb ∷ []))
            (ex ∙ ap length_of_ends el ∙ column-length a.keys a.flat.offsets a.flat.ends a.flat.values va j.a)
            (ey ∙ ap length_of_ends er ∙ column-length b.keys b.flat.offsets b.flat.ends b.flat.values vb j.b)

        pub asking-next : {x y : ℤ} {q p : Question} {asked' : Result ⊤ Refusal} {runs' k : ℕ} {o' : Option Joined}
            → q ≡ filled x y (side x fa ∷ side y fb ∷ []) → x ≡ length_of_ends left → y ≡ length_of_ends right
            → p ≡ refused_in_key n q → shown_asked asked' ≡ first_no (shown_asked asked ∷ p ∷ [])
            → runs' ≡ saturated (runs + (length left + length right)) → k ≡ j.at + 1 → NextPair how a b k o' → Asking asked' runs' (n + 1) o'
        asking-next eq ex ey ep ea en ek t = record {
          shown = omega arith;
          stands = standing-next (place_in how a b) (kept_in how a b) (pair_of a b) (places_in how a b) (all_pairs how a b) s.stands h ek t;
          left =
              asked-more (shown_asked asked) (question n (pair_of a b j)) (later (n + 1)) ea (ep ∙ ap (refused_in_key n) (filled-asked eq ex ey))
              ∙ ahead;
          count =
              let ca = column-count a.keys a.flat.offsets a.flat.ends a.flat.values va j.a in
              let cb = column-count b.keys b.flat.offsets b.flat.ends b.flat.values vb j.b in
              omega (arith, s.count, ap (λ (ps : List Pair). total (map pair_runs ps)) next, ap length el, ap length er, ca, cb);
        }
