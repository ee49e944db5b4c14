-- Each question by what the code finds: a "yes", or the refusal.
-- Assumes nothing.
use Prim.Native.Nat.{ℕ, suc, ◌+◌, ◌-◌, ◌≤◌, ◌<◌, ◌^◌}
use mathlib.Core.Bool.{Bool, true, false, not, ◌&&◌}
use Rattle.std.specs.Prelude.{None, Some, Option, is_some}
use mathlib.Core.List.{List, [], ◌∷◌}
use mathlib.Core.Path.{◌≡◌, refl, ◌∙◌, sym}
use native.Mathlib.Numerals.{add-one}
use native.Mathlib.Omega.{arith}
use lib.IntN.{ℤ, pos}
use lib.ListN.{length, get_or, take, drop, drop_of_length-le}
use lib.Seq.{drop-cons}
use lib.Signed.{le_z, lt_z}
use lib.Dec.{leb, eqb}
use borrow.Author.Tests.{le-leb, lt-leb, leb-true, leb-false, le-ltb, lt-ltb, eq-eqb, ne_eqb}
use Rattle.num.specs.Numbers.{saturated, larger_of}
use Rattle.num.proofs.Tests.{by-test, lt_le, le_lt}
use Rattle.column.specs.Lists.{any}
use Rattle.column.specs.Paper.{PaperRefusal}
use Rattle.column.specs.Asking.{Question, refusal, first_no}
use Rattle.column.specs.Questions.{listed, start_and_rise, last_offset, offsets_rise, offsets_valid, distinct_at, interval_at, side, is_missing, filled}
use Rattle.column.specs.Questions.{ends_from, not_negative, fits, run_by_run, long_enough, room_at, room_from, room, both}
use Rattle.column.specs.Runs.{to_nat}
use Rattle.column.proofs.FirstNo.{alone, first_rest}

-- ---- 1

pub listed-yes : (low high code : ℕ) → low ≤ code → code ≤ high → listed low high code ≡ None
unfolding listed
listed-yes low high code h k = rw (le-leb low code h, le-leb code high k)

pub listed-refused : (low high code : ℕ) → (low ≤ code → code ≤ high → ⊥) → listed low high code ≡ refusal 1 (pos code ∷ [])
unfolding listed
listed-refused low high code n =
    by-test (leb low code)
    (λ t. by-test (leb code high) (λ u. absurd (n (leb-true low code t) (leb-true code high u))) (λ u. rw (t, u)))
    (λ t. rw t)

-- ---- 3

pub rise-yes : (os : List ℕ) → start_and_rise os ≡ true → offsets_rise os ≡ None
unfolding offsets_rise
rise-yes os t = rw t

pub rise-refused : (os : List ℕ) → start_and_rise os ≡ false → offsets_rise os ≡ refusal 3 []
unfolding offsets_rise
rise-refused os t = rw t

pub offsets-yes : (os : List ℕ) (n : ℕ) → start_and_rise os ≡ true → last_offset 0 os ≡ n → offsets_valid os n ≡ None
unfolding offsets_valid
offsets-yes os n t e = rw (t, eq-eqb (last_offset 0 os) n e)

pub offsets_fall : (os : List ℕ) (n : ℕ) → start_and_rise os ≡ false → offsets_valid os n ≡ refusal 3 []
unfolding offsets_valid
offsets_fall os n t = rw t

pub offsets-refused : (os : List ℕ) (n : ℕ) → start_and_rise os ≡ true → (last_offset 0 os ≡ n → ⊥) → offsets_valid os n ≡ refusal 3 []
unfolding offsets_valid
offsets-refused os n t e = rw (t, ne_eqb (last_offset 0 os) n e)

-- ---- 4, at the end that comes next: `before` is the one before it

module _ (before : ℤ) (i : ℕ) (es : List ℤ) where
  pub ends_next : i < length es → le_z (get_or es i (pos 0)) before ≡ false
      → ends_from i before (drop i es) ≡ ends_from (i + 1) (get_or es i (pos 0)) (drop (i + 1) es)
  unfolding ends_from
  ends_next h t = rw (add-one, drop-cons es i (pos 0), le_lt (get_or es i (pos 0)) before t) (alone (ends_from (suc i) (get_or es i (pos 0)) (drop (suc i) es)))

  pub ends-refused : i < length es → le_z (get_or es i (pos 0)) before ≡ true → ends_from i before (drop i es) ≡ refusal 4 (pos i ∷ [])
  unfolding ends_from
  ends-refused h t = rw (drop-cons es i (pos 0), le_lt (get_or es i (pos 0)) before t)

  pub ends-end : length es ≤ i → ends_from i before (drop i es) ≡ None
  unfolding ends_from
  ends-end h = rw drop_of_length-le

-- ---- 6, 7

pub negative_yes : (i : ℕ) (run : ℤ) → lt_z run (pos 0) ≡ false → not_negative i run ≡ None
unfolding not_negative
negative_yes i run t = rw (lt_le run (pos 0) t)

pub negative_refused : (i : ℕ) (run : ℤ) → lt_z run (pos 0) ≡ true → not_negative i run ≡ refusal 6 (pos i ∷ run ∷ [])
unfolding not_negative
negative_refused i run t = rw (lt_le run (pos 0) t)

pub fits-yes : (n : ℕ) → n < 2 ^ 63 → fits n ≡ None
unfolding fits
fits-yes n h = rw (lt-ltb n (2 ^ 63) h)

pub fits_refused : (n : ℕ) → 2 ^ 63 ≤ n → fits n ≡ refusal 7 []
unfolding fits
fits_refused n h = rw (le-ltb n (2 ^ 63) h)

-- at the run that comes next: p is the length so far
module _ (p i : ℕ) (rs : List ℤ) (h : i < length rs) where
  abbrev run : ℤ
  run = get_or rs i (pos 0)

  pub runs-negative : {r : PaperRefusal} → Some r ≡ not_negative i run → run_by_run i p (drop i rs) ≡ Some r
  unfolding run_by_run
  runs-negative e = rw (drop-cons rs i (pos 0), sym e)

  pub runs-overflow : {r : PaperRefusal} → None ≡ not_negative i run → Some r ≡ fits (p + to_nat run) → run_by_run i p (drop i rs) ≡ Some r
  unfolding run_by_run
  runs-overflow e f = rw (drop-cons rs i (pos 0), sym e, sym f)

  pub runs-next : None ≡ not_negative i run → None ≡ fits (p + to_nat run) → run_by_run i p (drop i rs) ≡ run_by_run (i + 1) (p + to_nat run) (drop (i + 1) rs)
  unfolding run_by_run
  runs-next e f = rw (add-one, drop-cons rs i (pos 0), sym e, sym f) (alone (run_by_run (suc i) (p + to_nat run) (drop (suc i) rs)))

pub runs-end : (p i : ℕ) (rs : List ℤ) → length rs ≤ i → run_by_run i p (drop i rs) ≡ None
unfolding run_by_run
runs-end p i rs h = rw drop_of_length-le

-- ---- 8

pub distinct_yes : (ks : List ℕ) (i k : ℕ) → any (eqb k) (take i ks) ≡ false → distinct_at ks i k ≡ None
unfolding distinct_at
distinct_yes ks i k t = rw t

pub distinct_refused : (ks : List ℕ) (i k : ℕ) → any (eqb k) (take i ks) ≡ true → distinct_at ks i k ≡ refusal 8 (pos i ∷ [])
unfolding distinct_at
distinct_refused ks i k t = rw t

-- ---- 9

module _ (ends : List ℤ) (i : ℕ) (start : ℤ) {end : ℤ} (e : end ≡ get_or ends i (pos 0)) where
  pub interval_negative : lt_z start (pos 0) ≡ true → interval_at ends i start ≡ refusal 9 (pos i ∷ start ∷ end ∷ [])
  unfolding interval_at
  interval_negative t = rw (lt_le start (pos 0) t, e)

  pub interval_reversed : lt_z start (pos 0) ≡ false → lt_z end start ≡ true → interval_at ends i start ≡ refusal 9 (pos i ∷ start ∷ end ∷ [])
  unfolding interval_at
  interval_reversed t u = rw (lt_le start (pos 0) t, ← e, lt_le end start u)

  pub interval_yes : lt_z start (pos 0) ≡ false → lt_z end start ≡ false → interval_at ends i start ≡ None
  unfolding interval_at
  interval_yes t u = rw (lt_le start (pos 0) t, ← e, lt_le end start u)

-- ---- 10, of two sides

-- as `is_none` answers
pub missing_is : (f : Option ℤ) (b : Bool) → is_some f ≡ not b → b ≡ is_missing f
missing_is None true h = refl
missing_is None false h = h
missing_is (Some v) true h = h
missing_is (Some v) false h = refl

-- the code takes the larger of the first and of what the second and 0 give
pub longer_of_two : {a b m n a' b' m' : ℤ} → m ≡ larger_of b' (pos 0) → b' ≡ b → n ≡ larger_of a' m' → a' ≡ a → m' ≡ m → n ≡ larger_of a (larger_of b (pos 0))
longer_of_two e p f q r = f ∙ rw (q, r, e, p)

module _ (a b : ℤ) (fa fb : Option ℤ) {n : ℤ} (e : n ≡ larger_of a (larger_of b (pos 0))) where
  pub fills_first : lt_z a n && is_missing fa ≡ true → filled a b (side a fa ∷ side b fb ∷ []) ≡ refusal 10 (a ∷ b ∷ [])
  unfolding filled
  fills_first t = rw (← e, t)

  pub fills-second : lt_z a n && is_missing fa ≡ false → lt_z b n && is_missing fb ≡ true → filled a b (side a fa ∷ side b fb ∷ []) ≡ refusal 10 (a ∷ b ∷ [])
  unfolding filled
  fills-second t u = rw (← e, t, u)

  pub fills-yes : lt_z a n && is_missing fa ≡ false → lt_z b n && is_missing fb ≡ false → filled a b (side a fa ∷ side b fb ∷ []) ≡ None
  unfolding filled
  fills-yes t u = rw (← e, t, u)

-- ---- 11

pub long-yes : (requested present : ℤ) → lt_z requested present ≡ false → long_enough requested present ≡ None
unfolding long_enough
long-yes requested present t = rw (lt_le requested present t)

pub long-refused : (requested present : ℤ) → lt_z requested present ≡ true → long_enough requested present ≡ refusal 11 (requested ∷ present ∷ [])
unfolding long_enough
long-refused requested present t = rw (lt_le requested present t)

-- ---- 12

-- one question for each buffer
abbrev pub rooms_from : ℕ → List ℕ → List ℕ → List Question
rooms_from i [] given = []
rooms_from i (n ∷ ns) given = room_at i n (get_or given 0 0) ∷ rooms_from (suc i) ns (drop 1 given)

rooms-from : (i : ℕ) (ns given : List ℕ) → room_from i ns given ≡ first_no (rooms_from i ns given)
unfolding room_from
rooms-from i [] given = refl
rooms-from i (n ∷ ns) given = rw (rooms-from (suc i) ns (drop 1 given)) (first_rest (room_at i n (get_or given 0 0)) (rooms_from (suc i) ns (drop 1 given)))

pub room-each : (ns given : List ℕ) → room ns given ≡ first_no (rooms_from 0 ns given)
unfolding room
room-each ns given = rooms-from 0 ns given

pub room-one : (n g : ℕ) → room (n ∷ []) (g ∷ []) ≡ room_at 0 n g
room-one n g = room-each (n ∷ []) (g ∷ []) ∙ alone (room_at 0 n g)

pub room-both : (n e v : ℕ) → room (both n) (e ∷ v ∷ []) ≡ first_no (room_at 0 n e ∷ room_at 1 n v ∷ [])
room-both n e v = room-each (both n) (e ∷ v ∷ [])

-- a need that stops at the greatest number that is shown
pub room-saturated : (which needed given : ℕ) → given < 2 ^ 64 - 1 → room_at which (saturated needed) given ≡ room_at which needed given
unfolding room_at
room-saturated which needed given h =
    let s : saturated (saturated needed) ≡ saturated needed = omega arith in
    by-test (leb needed given)
    (λ t. let k = leb-true needed given t in rw (t, le-leb (saturated needed) given (omega arith)))
    (λ t. let k = leb-false needed given t in rw (t, lt-leb (saturated needed) given (omega arith), s))

pub flat-room-saturated : (o n x e v : ℕ) → e < 2 ^ 63 → v < 2 ^ 63 → room (o ∷ both (saturated n)) (x ∷ e ∷ v ∷ []) ≡ room (o ∷ both n) (x ∷ e ∷ v ∷ [])
flat-room-saturated o n x e v h k =
    room-each (o ∷ both (saturated n)) (x ∷ e ∷ v ∷ [])
    ∙ rw (room-saturated 1 n e (omega arith), room-saturated 2 n v (omega arith)) (sym (room-each (o ∷ both n) (x ∷ e ∷ v ∷ [])))
