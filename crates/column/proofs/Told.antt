-- What a question tells where it is answered "yes".
-- Assumes nothing.
use Prim.Native.Nat.{ℕ, suc, ◌+◌, ◌≤◌, ◌<◌, ◌^◌, min}
use mathlib.Core.Bool.{Bool, true, false, ◌&&◌}
use Rattle.std.specs.Prelude.{None}
use mathlib.Core.List.{List, [], ◌∷◌}
use mathlib.Core.Path.{◌≡◌, refl, ◌∙◌, sym}
use native.Mathlib.Numerals.{add-one}
use lib.Dec.{eqb, leb, ltb}
use lib.IntN.{ℤ, pos}
use lib.ListN.{length, get_or, drop}
use lib.Seq.{drop-cons}
use lib.Signed.{le_z, lt_z}
use borrow.Author.Tests.{eqb-true, leb-true, ltb-true}
use Rattle.num.proofs.Tests.{le_lt, both_true}
use Rattle.column.specs.Asking.{Question, refusal, ◌unless◌, first_no}
use Rattle.column.specs.Questions.{listed, agree, paired, used_within, start_and_rise, last_offset, offsets_valid, ends_valid, at_most, not_negative, fits}
use Rattle.column.specs.Questions.{run_by_run, long_enough, room_at, room, both, sequence_asked}
use Rattle.column.specs.Runs.{sequence, to_nat}
use Rattle.column.proofs.FirstNo.{AllYes, all_yes, first_several, asked-last}
use Rattle.column.proofs.YesNo.{room-both}

-- the test of a question that is one test
told : (number : ℕ) (values : List ℤ) (t : Bool) → refusal number values unless t ≡ None → t ≡ true
told number values true e = refl
told number values false e = cc

pub listed-told : (low high code : ℕ) → listed low high code ≡ None → (low ≤ code) × (code ≤ high)
unfolding listed
listed-told low high code e =
    let t = both_true (leb low code) (leb code high) (told 1 _ (leb low code && leb code high) e) in
    (leb-true low code t.0, leb-true code high t.1)

pub agree-told : (what left right : ℕ) → agree what left right ≡ None → left ≡ right
unfolding agree
agree-told what left right e = eqb-true left right (told 2 _ (eqb left right) e)

pub used-told : (used ends values : ℕ) → used_within used ends values ≡ None → used ≤ min ends values
unfolding used_within
used-told used ends values e = leb-true used (min ends values) (told 2 _ (leb used (min ends values)) e)

pub offsets-told : (os : List ℕ) (n : ℕ) → offsets_valid os n ≡ None → (start_and_rise os ≡ true) × (last_offset 0 os ≡ n)
unfolding offsets_valid
offsets-told os n e =
    let t = both_true (start_and_rise os) (eqb (last_offset 0 os) n) (told 3 [] (start_and_rise os && eqb (last_offset 0 os) n) e) in
    (t.0, eqb-true (last_offset 0 os) n t.1)

pub negative_told : (i : ℕ) (run : ℤ) → not_negative i run ≡ None → lt_z run (pos 0) ≡ false
unfolding not_negative
negative_told i run e = le_lt (pos 0) run (told 6 _ (le_z (pos 0) run) e)

pub fits_told : (n : ℕ) → fits n ≡ None → n < 2 ^ 63
unfolding fits
fits_told n e = ltb-true n (2 ^ 63) (told 7 _ (ltb n (2 ^ 63)) e)

pub most-told : (limit k : ℕ) → at_most limit k ≡ None → k ≤ limit
unfolding at_most
most-told limit k e = leb-true k limit (told 5 _ (leb k limit) e)

pub long-told : (requested present : ℤ) → long_enough requested present ≡ None → le_z present requested ≡ true
unfolding long_enough
long-told requested present e = told 11 _ (le_z present requested) e

pub room-told : (which needed given : ℕ) → room_at which needed given ≡ None → needed ≤ given
unfolding room_at
room-told which needed given e = leb-true needed given (told 12 _ (leb needed given) e)

pub both_told : (n e v : ℕ) → room (both n) (e ∷ v ∷ []) ≡ None → (n ≤ e) × (n ≤ v)
both_told n e v h =
    let k = all_yes (room_at 0 n e ∷ room_at 1 n v ∷ []) (sym (room-both n e v) ∙ h) in
    (room-told 0 n e k.0, room-told 1 n v k.1.0)

-- what 3, 4 and 12 of a call that makes a sequence out of one, as the code joins them: the room is asked for as many as are needed where the sequence is valid
module _ (es vs : List ℤ) (n e v : ℕ) where
  pub sequence-asked : {r a b : Question} → r ≡ first_no (a ∷ b ∷ []) → a ≡ first_no (paired (sequence es vs) ∷ ends_valid es ∷ [])
      → (length es ≡ length vs → ends_valid es ≡ None → b ≡ room (both n) (e ∷ v ∷ [])) → r ≡ sequence_asked (sequence es vs) n (e ∷ v ∷ [])
  unfolding sequence_asked paired
  sequence-asked h p q =
      let s = paired (sequence es vs) ∷ ends_valid es ∷ [] in
      asked-last (first_no s) h p (λ y. let z = all_yes s y in q (agree-told 3 (length es) (length vs) z.0) z.1.0)
      ∙ sym (first_several s (room (both n) (e ∷ v ∷ []) ∷ []))

  -- and what they tell
  pub sequence-told : sequence_asked (sequence es vs) n (e ∷ v ∷ []) ≡ None → (ends_valid es ≡ None) × (length es ≡ length vs) × (n ≤ e) × (n ≤ v)
  unfolding sequence_asked paired
  sequence-told h =
      let y = all_yes (paired (sequence es vs) ∷ ends_valid es ∷ room (both n) (e ∷ v ∷ []) ∷ []) h in
      let k = both_told n e v y.1.1.0 in
      (y.1.0, agree-told 3 (length es) (length vs) y.0, k.0, k.1)

-- 6 and 7, at the run that comes next: p is the length so far
module _ (p i : ℕ) (rs : List ℤ) (h : i < length rs) (yes : run_by_run i p (drop i rs) ≡ None) where
  abbrev run : ℤ
  run = get_or rs i (pos 0)

  rest : Question
  rest = run_by_run (suc i) (p + to_nat run) (drop (suc i) rs)

  next : AllYes (not_negative i run ∷ fits (p + to_nat run) ∷ rest ∷ [])
  unfolding run_by_run rest
  next = all_yes (not_negative i run ∷ fits (p + to_nat run) ∷ rest ∷ []) (rw (drop-cons rs i (pos 0)) at yes)

  pub run-natural : lt_z run (pos 0) ≡ false
  run-natural = negative_told i run next.0

  pub run_fits : p + to_nat run < 2 ^ 63
  run_fits = fits_told (p + to_nat run) next.1.0

  pub runs-yes : run_by_run (i + 1) (p + to_nat run) (drop (i + 1) rs) ≡ None
  unfolding rest
  runs-yes = rw (add-one i) next.1.1.0
