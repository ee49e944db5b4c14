-- A sequence moved up or down: what is left of it, by the run at which it is cut, and the fill before or after it.
-- Assumes nothing.
use Prim.Native.Nat.{ℕ, zero, suc, ◌+◌, ◌-◌, ◌≤◌, ◌<◌, ◌^◌, min}
use mathlib.Core.Bool.{true, false}
use mathlib.Core.List.{List, [], ◌∷◌, ◌++◌, append_assoc, append-nil}
use Rattle.std.specs.Prelude.{None}
use mathlib.Core.Path.{◌≡◌, refl, ap, sym, ◌∙◌}
use native.Mathlib.Omega.{arith}
use lib.Dec.{leb, ltb}
use lib.IntN.{ℤ, pos, negsuc, nat_abs}
use lib.ListN.{length, get_or, take, drop, replicate, length-append, length-replicate, length-drop, drop_of_length-le}
use lib.Seq.{take_all, length-take-le, get_or-drop}
use lib.Signed.{mag, lt_z}
use borrow.Author.Tests.{leb-true, leb-false, ltb-true, ltb-false}
use mir.Syntax.{w64}
use mir.Val.{SFits, to_z, of_z}
use mir.Facts.{to_z-of_z, to_z_pos}
use Rattle.num.proofs.Bits.{back}
use Rattle.num.proofs.Tests.{by-test}
use Rattle.column.specs.declared.inner.Writer.{Writer}
use Rattle.column.specs.Lists.{part}
use Rattle.column.specs.Questions.{ends_valid}
use Rattle.column.specs.Runs.{Runs, to_nat, runs_of, last_end, length_of, last_from, length_of_ends, dense_from, dense, encode, encode_from, Filled}
use Rattle.column.specs.Workers.{next_place, PushedMerged, Merging, RisingEnds, push_all, moved, Behind, Appendable, Appended}
use Rattle.column.proofs.Appending.{push_few, push_shown, length_moved}
use Rattle.column.proofs.Dense.{length-dense}
use Rattle.column.proofs.Encode.{encode_up, encode-pos, encode-more, length_push}
use Rattle.column.proofs.Encoded.{dense-encode, valid-encode}
use Rattle.column.proofs.Ends.{rising, runs-rise, length_runs, length_of-ends}
use Rattle.column.proofs.Naturals.{to_nat-below}
use Rattle.column.proofs.Pushed.{place}
use Rattle.column.proofs.Rising.{Rising}
use Rattle.column.proofs.Merging.{merge_start, merge_more, merge_at, merge_end, fill_none}
use Rattle.slice.specs.Calls.{first_where, first_end_above}
use Rattle.shift.specs.Calls.{shift_values}
use Rattle.shift.specs.Workers.{shifted_up, shifted_down, Shiftable}

-- ---- equal values in front

take-front : (k n : ℕ) (v : ℤ) (xs : List ℤ) → k ≤ n → take k (replicate n v ++ xs) ≡ replicate k v
take-front zero n v xs h = refl
take-front (suc k) zero v xs h = let z : ⊥ = omega arith in absurd z
take-front (suc k) (suc n) v xs h = ap {B = List ℤ} (λ l. v ∷ l) (take-front k n v xs (omega arith))

drop-front : (k n : ℕ) (v : ℤ) (xs : List ℤ) → k ≤ n → drop k (replicate n v ++ xs) ≡ replicate (n - k) v ++ xs
drop-front zero n v xs h = let e : n - 0 ≡ n = omega arith in rw e
drop-front (suc k) zero v xs h = let z : ⊥ = omega arith in absurd z
drop-front (suc k) (suc n) v xs h = let e : suc n - suc k ≡ n - k = omega arith in drop-front k n v xs (omega arith) ∙ rw e

take_after : (k n : ℕ) (v : ℤ) (xs : List ℤ) → take (n + k) (replicate n v ++ xs) ≡ replicate n v ++ take k xs
take_after k zero v xs = let e : 0 + k ≡ k = omega arith in rw e
take_after k (suc n) v xs = let e : suc n + k ≡ suc (n + k) = omega arith in rw e (ap {B = List ℤ} (λ l. v ∷ l) (take_after k n v xs))

drop-after : (k n : ℕ) (v : ℤ) (xs : List ℤ) → drop (n + k) (replicate n v ++ xs) ≡ drop k xs
drop-after k zero v xs = let e : 0 + k ≡ k = omega arith in rw e
drop-after k (suc n) v xs = let e : suc n + k ≡ suc (n + k) = omega arith in rw e (drop-after k n v xs)

-- one run shows them
encode_constant : (k : ℕ) (v : ℤ) → 0 < k → length (encode (replicate k v)) ≡ 1
unfolding encode encode_from place
encode_constant k v h =
    let m : k - 0 ≡ k = omega arith in
    ap (λ (j : ℕ). length (encode (replicate j v))) (sym m) ∙ ap length (encode_up [] k v h) ∙ length_push (encode []) k v

-- ---- what is shown up to and from a position, by the first end above it

test_end : {e : ℤ} (q : ℕ) → e ≡ pos (to_nat e) → lt_z (pos q) e ≡ ltb q (to_nat e)
test_end q h = ap (lt_z (pos q)) h

-- from q on: the runs from the one found on
record Left (p q f : ℕ) (es vs : List ℤ) : Type 0 where
  rises : RisingEnds q (drop f es)
  shown : dense_from q (runs_of (drop f es) (drop f vs)) ≡ drop (q - p) (dense_from p (runs_of es vs))

left-above : (p q : ℕ) (es vs : List ℤ) → RisingEnds p es → length es ≡ length vs → p ≤ q → Left p q (first_end_above (pos q) es) es vs
unfolding first_end_above first_where runs_of dense_from
left-above p q [] vs r l h = record { rises = tt; shown = sym (drop_of_length-le [] {i = q - p} (omega arith)) }
left-above p q (e ∷ es) [] r l h = let z : ⊥ = omega arith in absurd z
left-above p q (e ∷ es) (v ∷ vs) r l h =
    let m = to_nat e in
    by-test (lt_z (pos q) e)
    (λ t. let k : q < m = ltb-true q m (sym (test_end q r.0) ∙ t) in
    let n : m - p - (q - p) ≡ m - q = omega arith in
    rw t (record { rises = (r.0, k, r.2); shown = sym (drop-front (q - p) (m - p) v (dense_from m (runs_of es vs)) (omega arith) ∙ rw n) }))
    (λ t. let k : m ≤ q = ltb-false q m (sym (test_end q r.0) ∙ t) in
    let n : q - p ≡ m - p + (q - m) = omega (arith, r.1) in
    let i = left-above m q es vs r.2 (omega arith) k in
    rw t (record { rises = i.rises; shown = i.shown ∙ sym (rw n (drop-after (q - m) (m - p) v (dense_from m (runs_of es vs)))) }))

-- up to q: the runs before the one found, and a part of that
record Front (p q f : ℕ) (es vs : List ℤ) : Type 0 where
  rises : RisingEnds p (take f es)
  low : last_end p (runs_of (take f es) (take f vs)) ≤ q
  last : to_nat (last_from (pos p) (take f es)) ≡ last_end p (runs_of (take f es) (take f vs))
  shown : dense_from p (runs_of (take f es) (take f vs)) ++ replicate (suc q - last_end p (runs_of (take f es) (take f vs))) (get_or vs f (pos 0))
      ≡ take (suc q - p) (dense_from p (runs_of es vs))

front_above : (p q : ℕ) (es vs : List ℤ) → RisingEnds p es → length es ≡ length vs → p ≤ q → first_end_above (pos q) es < length es
    → Front p q (first_end_above (pos q) es) es vs
unfolding first_end_above first_where runs_of dense_from
front_above p q [] vs r l h w = let z : ⊥ = omega arith in absurd z
front_above p q (e ∷ es) [] r l h w = let z : ⊥ = omega arith in absurd z
front_above p q (e ∷ es) (v ∷ vs) r l h w =
    let m = to_nat e in
    by-test (lt_z (pos q) e)
    (λ t. let k : q < m = ltb-true q m (sym (test_end q r.0) ∙ t) in
    rw t (record { rises = tt; low = h; last = refl; shown = sym (take-front (suc q - p) (m - p) v (dense_from m (runs_of es vs)) (omega arith)) }))
    (λ t. let k : m ≤ q = ltb-false q m (sym (test_end q r.0) ∙ t) in
    let n : suc q - p ≡ m - p + (suc q - m) = omega (arith, r.1) in
    let i = front_above m q es vs r.2 (omega arith) k (let x : suc (first_end_above (pos q) es) < suc (length es) = rw t at w in omega arith) in
    let f = first_end_above (pos q) es in
    let whole = runs_of (take f es) (take f vs) in
    rw t (record {
      rises = (r.0, r.1, i.rises);
      low = i.low;
      last = ap (λ (z : ℤ). to_nat (last_from z (take f es))) r.0 ∙ i.last;
      shown = append_assoc (replicate (m - p) v) (dense_from m whole) (replicate (suc q - last_end m whole) (get_or vs f (pos 0)))
          ∙ ap (λ (l : List ℤ). replicate (m - p) v ++ l) i.shown
          ∙ sym (rw n (take_after (suc q - m) (m - p) v (dense_from m (runs_of es vs))));
    }))

-- the first end above a position that is not past the last is inside
above-inside : (p q : ℕ) (es : List ℤ) → RisingEnds p es → q < to_nat (last_from (pos p) es) → p ≤ q → first_end_above (pos q) es < length es
unfolding first_end_above first_where
above-inside p q [] r h k = let z : ⊥ = omega arith in absurd z
above-inside p q (e ∷ es) r h k =
    let m = to_nat e in
    by-test (lt_z (pos q) e)
    (λ t. rw t (omega arith))
    (λ t. let j : m ≤ q = ltb-false q m (sym (test_end q r.0) ∙ t) in
    let i = above-inside m q es r.2 (omega (arith, ap (λ (z : ℤ). to_nat (last_from z es)) r.0)) j in
    rw t (omega arith))

-- the last of the ends from the l-th on is the last of all
last-drop : (p q : ℕ) (es : List ℤ) (l : ℕ) {n : ℕ} → RisingEnds p es → q < n → to_nat (last_from (pos p) es) ≡ n → to_nat (last_from (pos q) (drop l es)) ≤ n
last-drop p q [] l r h e = rw (drop_of_length-le {A = ℤ} [] {i = l} (omega arith)) (omega arith)
last-drop p q (x ∷ es) zero r h e = omega (arith, e)
last-drop p q (x ∷ es) (suc l) r h e = last-drop (to_nat x) q es l r.2 h (ap (λ (z : ℤ). to_nat (last_from z es)) (sym r.0) ∙ e)

-- ---- the parts of the flat lists that the code takes

part-front : {A : Type 0} (n : ℕ) (xs : List A) → part 0 n xs ≡ take n xs
part-front n xs = let e : n - 0 ≡ n = omega arith in ap (λ (k : ℕ). take k xs) e

part-back : {A : Type 0} (n m : ℕ) (xs : List A) → length xs ≤ m → part n m xs ≡ drop n xs
part-back n m xs h = take_all (m - n) (drop n xs) (rw length-drop (omega arith))

-- down: l is the first run that is left, and pe and pv are the ends and values from it on
record DownCut (es vs : List ℤ) (by l : ℕ) (value : ℤ) (pe pv : List ℤ) : Type 0 where
  first : l ≡ first_end_above (pos by) es
  shown : value ≡ get_or vs l (pos 0)
  ends : pe ≡ part l (length es) es
  values : pv ≡ part l (length es) vs

-- up: l is the run at which it is cut, and pe and pv are the ends and values before it
record UpCut (es vs : List ℤ) (last l : ℕ) (pe pv : List ℤ) : Type 0 where
  first : l ≡ first_end_above (pos last) es
  ends : pe ≡ part 0 l es
  values : pv ≡ part 0 l vs

-- as a local holds it
abbrev held : ℤ → ℤ
held z = to_z w64 (of_z w64 z)

module _ {es vs : List ℤ} {by n : ℕ} {e₀ v₀ : List ℤ} (q : Shiftable es vs by n e₀ v₀) where
  rises : RisingEnds 0 es
  rises = rising es q.valid

  -- what is shown
  xs : List ℤ
  xs = dense (runs_of es vs)

  long : length xs ≡ n
  unfolding xs
  long = length-dense (runs_of es vs) (runs-rise 0 es vs rises) ∙ sym q.whole

  last_is : to_nat (last_from (pos 0) es) ≡ n
  unfolding length_of_ends
  last_is = ap to_nat (length_of-ends es vs q.valid q.paired) ∙ sym q.whole

  found : {l : ℕ} (k : ℕ) → k < n → (ends_valid es ≡ None → l ≡ first_end_above (to_z w64 k) es) → l ≡ first_end_above (pos k) es
  found k h e = let f : k < 2 ^ 63 = omega (arith, q.fitting) in e q.valid ∙ ap (λ (z : ℤ). first_end_above z es) (to_z_pos w64 f)

  -- an end above a position before the length is inside
  inside : (k : ℕ) → k < n → first_end_above (pos k) es < length es
  inside k h = above-inside 0 k es rises (omega (arith, last_is)) (omega arith)

  fill_place : (fill : ℤ) → let next = next_place (record { at = 0; last = fill }) fill in (0 + 1 < 2 ^ 64) × (next < length e₀) × (next < length v₀)
  fill_place fill =
      let a = merge_at (merge_start fill e₀ v₀) fill (λ z. refl) in
      (omega arith, omega (arith, q.room_ends), omega (arith, q.room_values))

  -- a run of the fill up to k
  fill_run : (fill : ℤ) {z : ℤ} {e v : List ℤ} {w : Writer} (k : ℕ) → 0 < k
      → PushedMerged (record { at = 0; last = fill }) z fill e₀ e v₀ v w → z ≡ pos k → Merging (encode (replicate k fill)) fill e₀ v₀ e v w
  unfolding encode encode_from
  fill_run fill k h d ez =
      let m : k - 0 ≡ k = omega arith in
      merge_more (merge_start fill e₀ v₀) fill (λ z. refl) k d ez (rw m at (encode_up [] k fill h)) (omega (arith, q.room_ends))
      (omega (arith, q.room_values))

  -- one run more, up to n, after values that end before it
  last_place : (ys : List ℤ) {first : ℤ} {e v : List ℤ} {w : Writer} (x : ℤ) → Merging (encode ys) first e₀ v₀ e v w
      → 0 < length ys → length (encode ys) ≤ length es → length e₀ < 2 ^ 63 → (w.at + 1 < 2 ^ 64) × (next_place w x < length e) × (next_place w x < length v)
  last_place ys x m h few short =
      let c = encode-pos ys h in
      let a = merge_at m x (λ z. let f : ⊥ = omega arith in absurd f) in
      (omega (arith, m.at_last, q.room_ends), omega (arith, m.long_ends, q.room_ends), omega (arith, m.long_values, q.room_values))

  last_run : (ys : List ℤ) {first x z : ℤ} {e v e' v' : List ℤ} {w next : Writer} → Merging (encode ys) first e₀ v₀ e v w
      → 0 < length ys → length (encode ys) ≤ length es → length ys < n → PushedMerged w z x e e' v v' next → z ≡ pos n
      → Merging (encode (ys ++ replicate (n - length ys) x)) first e₀ v₀ e' v' next
  last_run ys {x = x} m h few short d ez =
      let c = encode-pos ys h in
      merge_more m x (λ z. let f : ⊥ = omega arith in absurd f) n d ez (encode_up ys n x short) (omega (arith, q.room_ends)) (omega (arith, q.room_values))

  -- the place is one of the buffers'
  kept : {first x z : ℤ} {rs : Runs} {e v e' v' : List ℤ} {w next : Writer} → Merging rs first e₀ v₀ e v w
      → (w.at + 1 < 2 ^ 64) × (next_place w x < length e) × (next_place w x < length v) → PushedMerged w z x e e' v v' next → length e₀ < 2 ^ 63
      → next.at + 1 < 2 ^ 64
  kept m r d short = omega (arith, d.place, r.1, m.long_ends)

  filled : (ys : List ℤ) {first : ℤ} {e v : List ℤ} {w : Writer} → Merging (encode ys) first e₀ v₀ e v w → 0 < length ys
      → Filled (encode ys) e₀ e v₀ v (w.at + 1)
  filled ys m h = merge_end m (encode-pos ys h)

  -- ---- down

  pub first_inside : {l : ℕ} → (ends_valid es ≡ None → l ≡ first_end_above (to_z w64 by) es) → l < length es
  first_inside el = rw (found by q.short el) (inside by q.short)

  module _ {l : ℕ} {pe pv : List ℤ} (el : ends_valid es ≡ None → l ≡ first_end_above (to_z w64 by) es) (fv : SFits w64 (get_or vs l (pos 0)))
      (ee : pe ≡ part l (length es) es) (ev' : pv ≡ part l (length es) vs) where
    abbrev value : ℤ
    value = held (get_or vs l (pos 0))

    down_cut : DownCut es vs by l value pe pv
    down_cut = record { first = found by q.short el; shown = to_z-of_z fv; ends = ee; values = ev' }

    ep : pe ≡ drop l es
    ep = down_cut.ends ∙ part-back l (length es) es (omega arith)

    ev : pv ≡ drop l vs
    ev = down_cut.values ∙ part-back l (length es) vs (omega (arith, q.paired))

    left : Left 0 by l es vs
    left = rw down_cut.first (left-above 0 by es vs rises q.paired (omega arith))

    below : l < length es
    below = first_inside el

    count_left : length pe ≡ length es - l
    count_left = ap length ep ∙ length-drop l es

    paired-left : length pe ≡ length pv
    paired-left = count_left ∙ rw q.paired (sym (ap length ev ∙ length-drop l vs))

    -- what they show
    ys : List ℤ
    ys = drop by xs

    shown-left : [] ++ dense_from by (runs_of pe pv) ≡ ys
    unfolding xs ys dense
    shown-left = let m : by - 0 ≡ by = omega arith in rw (ep, ev) (left.shown ∙ rw m)

    length_ys : length ys ≡ n - by
    unfolding ys
    length_ys = length-drop by xs ∙ rw long

    first-shown : value ≡ get_or pv 0 (pos 0)
    first-shown =
        let z : l + 0 ≡ l = omega arith in
        down_cut.shown ∙ sym (ap (λ (l' : List ℤ). get_or l' 0 (pos 0)) ev ∙ get_or-drop l vs 0 (pos 0) ∙ rw z)

    down-behind : Behind [] value e₀ v₀ e₀ v₀ (record { at = 0; last = value }) pe pv
    down-behind = record {
      merging = merge_start value e₀ v₀;
      started = λ _ _. first-shown;
      room_ends = omega (arith, count_left, q.room_ends);
      room_values = omega (arith, count_left, q.room_values);
    }

    pub down_appendable : Appendable by 0 pe pv e₀ v₀ (record { at = 0; last = value })
    down_appendable = record {
      movable = record { rising = rw ep left.rises; fitting = omega (arith, last-left, q.fitting); paired = paired-left };
      done = [];
      first = value;
      e₀ = e₀;
      v₀ = v₀;
      behind = down-behind;
    }
      where
        last-left : to_nat (last_from (pos by) pe) ≤ n
        last-left = rw ep (last-drop 0 by es l rises q.short last_is)

    -- all that is left is written
    down-merging : {e v : List ℤ} {w : Writer} → Appended by 0 pe pv e₀ e v₀ v (record { at = 0; last = value }) w → Merging (encode ys) value e₀ v₀ e v w
    unfolding encode encode_from
    down-merging a =
        let m = a [] value e₀ v₀ down-behind in
        let r : Rising by (runs_of pe pv) = runs-rise by pe pv (rw ep left.rises) in
        rw (push_shown by [] (runs_of pe pv) r ∙ ap encode shown-left) at m

    few-left : length (encode ys) ≤ length es
    unfolding encode encode_from
    few-left =
        let r : Rising by (runs_of pe pv) = runs-rise by pe pv (rw ep left.rises) in
        rw (sym (push_shown by [] (runs_of pe pv) r ∙ ap encode shown-left))
        (omega (arith, push_few [] (moved by 0 (runs_of pe pv)), length_moved by 0 (runs_of pe pv), length_runs pe pv paired-left, count_left))

    module _ {e v : List ℤ} {w : Writer} (a : Appended by 0 pe pv e₀ e v₀ v (record { at = 0; last = value }) w) where
      pub down-at : w.at ≤ length es
      down-at = omega (arith, (down-merging a).at_last, few-left)

      pub down-whole : (fill : ℤ) → by ≡ 0 → Filled (encode (shifted_down by fill (dense (runs_of es vs)))) e₀ e v₀ v (w.at + 1)
      unfolding xs ys
      down-whole fill z =
          let m : drop by (dense (runs_of es vs)) ++ replicate by fill ≡ drop by (dense (runs_of es vs)) = rw z (append-nil (dense (runs_of es vs))) in
          rw m (filled (drop by (dense (runs_of es vs))) (down-merging a) (omega (arith, length_ys, q.short)))

      pub down-room : (fill : ℤ) → length e₀ < 2 ^ 63 → (w.at + 1 < 2 ^ 64) × (next_place w fill < length e) × (next_place w fill < length v)
      down-room fill short = last_place ys fill (down-merging a) (omega (arith, length_ys, q.short)) few-left short

      pub down-kept : {fill z : ℤ} {e' v' : List ℤ} {next : Writer} → PushedMerged w z fill e e' v v' next → length e₀ < 2 ^ 63
          → next.at + 1 < 2 ^ 64
      down-kept {fill} d short = kept (down-merging a) (down-room fill short) d short

      pub down-end : {fill : ℤ} {e' v' : List ℤ} {next : Writer} → 0 < by → PushedMerged w (to_z w64 n) fill e e' v v' next
          → Filled (encode (shifted_down by fill (dense (runs_of es vs)))) e₀ e' v₀ v' (next.at + 1)
      unfolding xs ys
      down-end {fill} some d =
          let m : n - length (drop by (dense (runs_of es vs))) ≡ by = omega (arith, length_ys, q.short) in
          let k = last_run ys (down-merging a) (omega (arith, length_ys, q.short)) few-left (omega (arith, length_ys, q.short)) d (to_z_pos w64 q.fitting) in
          rw m at (filled (ys ++ replicate (n - length ys) fill) k (rw length-append (omega (arith, length_ys, q.short))))

  -- ---- up

  pub last_inside : {l : ℕ} → (ends_valid es ≡ None → l ≡ first_end_above (to_z w64 (n - by - 1)) es) → l < length es
  last_inside el =
      let h : n - by - 1 < n = omega (arith, q.short) in
      rw (found (n - by - 1) h el) (inside (n - by - 1) h)

  module _ (some : 0 < by) {l : ℕ} {pe pv : List ℤ} (el : ends_valid es ≡ None → l ≡ first_end_above (to_z w64 (n - by - 1)) es)
      (ee : pe ≡ part 0 l es) (ev : pv ≡ part 0 l vs) (fill : ℤ) where
    up_cut : UpCut es vs (n - by - 1) l pe pv
    up_cut = record { first = found (n - by - 1) (omega (arith, q.short)) el; ends = ee; values = ev }

    pe_is : pe ≡ take l es
    pe_is = up_cut.ends ∙ part-front l es

    pv_is : pv ≡ take l vs
    pv_is = up_cut.values ∙ part-front l vs

    up_below : l < length es
    up_below = last_inside el

    front : Front 0 (n - by - 1) l es vs
    front = rw up_cut.first (front_above 0 (n - by - 1) es vs rises q.paired (omega arith) (rw up_cut.first at up_below))

    count-front : length pe ≡ l
    count-front = ap length pe_is ∙ length-take-le l es (omega (arith, up_below))

    paired-front : length pe ≡ length pv
    paired-front = count-front ∙ sym (ap length pv_is ∙ length-take-le l vs (omega (arith, up_below, q.paired)))

    -- what is shown before the last run
    zs : List ℤ
    zs = replicate by fill ++ dense_from 0 (runs_of pe pv)

    end-front : ℕ
    end-front = last_end 0 (runs_of (take l es) (take l vs))

    length_zs : length zs ≡ by + end-front
    unfolding zs end-front dense length_of
    length_zs =
        let r = runs-rise 0 (take l es) (take l vs) front.rises in
        rw (length-append, length-replicate, pe_is, pv_is) (ap (λ (k : ℕ). by + k) (length-dense (runs_of (take l es) (take l vs)) r))

    module _ {e v : List ℤ} {w : Writer} (d : PushedMerged (record { at = 0; last = fill }) (to_z w64 by) fill e₀ e v₀ v w) where
      m : Merging (encode (replicate by fill)) fill e₀ v₀ e v w
      m = fill_run fill by some d (to_z_pos w64 (omega (arith, q.short, q.fitting)))

      one : length (encode (replicate by fill)) ≡ 1
      one = encode_constant by fill some

      up-behind : Behind (encode (replicate by fill)) fill e₀ v₀ e v w pe pv
      up-behind = record {
        merging = m;
        started = λ z. let f : ⊥ = omega (arith, one) in absurd f;
        room_ends = omega (arith, one, count-front, up_below, q.room_ends, m.long_ends);
        room_values = omega (arith, one, count-front, up_below, q.room_values, m.long_values);
      }

      pub up-appendable : Appendable 0 by pe pv e v w
      unfolding end-front
      up-appendable = record {
        movable = record {
          rising = rw pe_is front.rises;
          fitting = rw pe_is (omega (arith, front.last, front.low, q.fitting, q.short));
          paired = paired-front;
        };
        done = encode (replicate by fill);
        first = fill;
        e₀ = e₀;
        v₀ = v₀;
        behind = up-behind;
      }

      module _ {e' v' : List ℤ} {w' : Writer} (a : Appended 0 by pe pv e e' v v' w w') where
        up-merging : Merging (encode zs) fill e₀ v₀ e' v' w'
        unfolding zs
        up-merging =
            let k = a (encode (replicate by fill)) fill e₀ v₀ up-behind in
            let r : Rising 0 (runs_of pe pv) = runs-rise 0 pe pv (rw pe_is front.rises) in
            let b : length (replicate by fill) ≡ by = length-replicate by fill in
            rw (ap (λ (o : ℕ). push_all (encode (replicate by fill)) (moved 0 o (runs_of pe pv))) (sym b) ∙ push_shown 0 (replicate by fill) (runs_of pe pv) r)
            at k

        few-front : length (encode zs) ≤ length es
        unfolding zs
        few-front =
            let r : Rising 0 (runs_of pe pv) = runs-rise 0 pe pv (rw pe_is front.rises) in
            let b : length (replicate by fill) ≡ by = length-replicate by fill in
            let few = push_few (encode (replicate by fill)) (moved 0 (length (replicate by fill)) (runs_of pe pv)) in
            let as_many = length_moved 0 (length (replicate by fill)) (runs_of pe pv) in
            rw (sym (push_shown 0 (replicate by fill) (runs_of pe pv) r))
            (omega (arith, few, one, as_many, length_runs pe pv paired-front, count-front, up_below))

        pub up_room : (x : ℤ) → length e₀ < 2 ^ 63 → (w'.at + 1 < 2 ^ 64) × (next_place w' x < length e') × (next_place w' x < length v')
        up_room x short = last_place zs x up-merging (omega (arith, length_zs, some)) few-front short

        front_low : end-front ≤ n - by - 1
        unfolding end-front
        front_low = front.low

        up-whole : {x : ℤ} → x ≡ get_or vs l (pos 0) → zs ++ replicate (n - length zs) x ≡ shifted_up by fill (dense (runs_of es vs))
        unfolding zs end-front xs dense
        up-whole ex =
            let j : n - length zs ≡ suc (n - by - 1) - end-front = omega (arith, length_zs, q.short) in
            let i : suc (n - by - 1) - 0 ≡ length (dense (runs_of es vs)) - by = omega (arith, long, q.short) in
            rw (j, pe_is, pv_is, ex)
            (append_assoc (replicate by fill) (dense_from 0 (runs_of (take l es) (take l vs))) (replicate (suc (n - by - 1) - end-front) (get_or vs l (pos 0)))
            ∙ ap (λ (r : List ℤ). replicate by fill ++ r) (front.shown ∙ ap (λ (c : ℕ). take c (dense_from 0 (runs_of es vs))) i))

        pub up-end : {e'' v'' : List ℤ} {next : Writer} → SFits w64 (get_or vs l (pos 0))
            → PushedMerged w' (to_z w64 n) (held (get_or vs l (pos 0))) e' e'' v' v'' next
            → Filled (encode (shifted_up by fill (dense (runs_of es vs)))) e₀ e'' v₀ v'' (next.at + 1)
        up-end fx d =
            let x = held (get_or vs l (pos 0)) in
            let k = last_run zs up-merging (omega (arith, length_zs, some)) few-front (omega (arith, length_zs, front_low, q.short)) d (to_z_pos w64 q.fitting) in
            rw (up-whole (to_z-of_z fx)) at (filled (zs ++ replicate (n - length zs) x) k (rw length-append (omega (arith, length_zs, some))))

        pub up_kept : {x z : ℤ} {e'' v'' : List ℤ} {next : Writer} → PushedMerged w' z x e' e'' v' v'' next → length e₀ < 2 ^ 63
            → next.at + 1 < 2 ^ 64
        up_kept {x} d short = kept up-merging (up_room x short) d short

-- ---- by any distance

module _ (fill : ℤ) (ys : List ℤ) where
  values-none : (d : ℤ) → length ys ≡ 0 → shift_values d fill ys ≡ []
  unfolding shift_values
  values-none (pos k) e =
      let a : min k (length ys) ≡ 0 = omega arith in
      let b : length ys - k ≡ 0 = omega arith in
      rw (a, b)
  values-none (negsuc k) e =
      let a : min (suc k) (length ys) ≡ 0 = omega arith in
      rw (a, drop_of_length-le ys {i = suc k} (omega arith))

  values-all : (d : ℤ) → length ys ≤ nat_abs d → replicate (length ys) fill ≡ shift_values d fill ys
  unfolding shift_values
  values-all (pos k) h =
      let a : min k (length ys) ≡ length ys = omega arith in
      let b : length ys - k ≡ 0 = omega arith in
      rw (a, b) (sym (append-nil (replicate (length ys) fill)))
  values-all (negsuc k) h =
      let a : min (suc k) (length ys) ≡ length ys = omega arith in
      rw (a, drop_of_length-le ys {i = suc k} h)

  values_up : (d : ℤ) → lt_z (pos 0) d ≡ true → nat_abs d < length ys → shifted_up (nat_abs d) fill ys ≡ shift_values d fill ys
  unfolding shift_values
  values_up (pos k) t h = let a : min k (length ys) ≡ k = omega arith in rw a
  values_up (negsuc k) t h = absurd (let z : ◌≡◌ {A = ℕ} 0 1 = cc in omega arith)

  values-down : (d : ℤ) → lt_z (pos 0) d ≡ false → nat_abs d < length ys → shifted_down (nat_abs d) fill ys ≡ shift_values d fill ys
  unfolding shift_values
  values-down (pos k) t h =
      let z : k ≡ 0 = omega (arith, ltb-false 0 k t) in
      let a : min k (length ys) ≡ 0 = omega arith in
      let b : length ys - k ≡ length ys = omega arith in
      rw (a, b, z) (append-nil ys ∙ sym (take_all (length ys) ys (omega arith)))
  values-down (negsuc k) t h = let a : min (suc k) (length ys) ≡ suc k = omega arith in rw a

module _ (es vs : List ℤ) (valid : ends_valid es ≡ None) (distance fill : ℤ) where
  shown-length : length (dense (runs_of es vs)) ≡ length_of (runs_of es vs)
  shown-length = length-dense (runs_of es vs) (runs-rise 0 es vs (rising es valid))

  -- no positions
  shift_none : (e₀ v₀ : List ℤ) → length_of (runs_of es vs) ≡ 0 → Filled (encode (shift_values distance fill (dense (runs_of es vs)))) e₀ e₀ v₀ v₀ 0
  unfolding encode encode_from
  shift_none e₀ v₀ h = rw (values-none fill (dense (runs_of es vs)) distance (shown-length ∙ h)) (fill_none e₀ v₀)

  -- none that stays
  shift-all : length_of (runs_of es vs) ≤ nat_abs distance → replicate (length_of (runs_of es vs)) fill ≡ shift_values distance fill (dense (runs_of es vs))
  shift-all h = rw shown-length at (values-all fill (dense (runs_of es vs)) distance (rw shown-length h))

  shift_up : lt_z (pos 0) distance ≡ true → nat_abs distance < length_of (runs_of es vs)
      → shifted_up (nat_abs distance) fill (dense (runs_of es vs)) ≡ shift_values distance fill (dense (runs_of es vs))
  shift_up t h = values_up fill (dense (runs_of es vs)) distance t (rw shown-length h)

  shift-down : lt_z (pos 0) distance ≡ false → nat_abs distance < length_of (runs_of es vs)
      → shifted_down (nat_abs distance) fill (dense (runs_of es vs)) ≡ shift_values distance fill (dense (runs_of es vs))
  shift-down t h = values-down fill (dense (runs_of es vs)) distance t (rw shown-length h)

-- ---- one run more at most is left

-- what runs show after values takes no more than those runs
after-few : (s : ℕ) (xs : List ℤ) (rs : Runs) → Rising s rs → length (encode (xs ++ dense_from s rs)) ≤ length (encode xs) + length rs
after-few s xs rs h = rw (sym (push_shown s xs rs h)) (omega (arith, push_few (encode xs) (moved s (length xs) rs), length_moved s (length xs) rs))

append-few : (xs ys : List ℤ) → length (encode (xs ++ ys)) ≤ length (encode xs) + length (encode ys)
unfolding dense
append-few xs ys = rw (dense-encode ys) at (after-few 0 xs (encode ys) (valid-encode ys))

constant_few : (k : ℕ) (v : ℤ) → length (encode (replicate k v)) ≤ 1
unfolding encode encode_from
constant_few zero v = omega arith
constant_few (suc k) v = omega (arith, encode_constant (suc k) v (omega arith))

take-few : (k : ℕ) (xs : List ℤ) → k ≤ length xs → length (encode (take k xs)) ≤ length (encode xs)
take-few k xs h =
    let e : k + (length xs - k) ≡ length xs = omega arith in
    rw (e, take_all (length xs) xs (omega arith)) at (encode-more xs k (length xs - k) (omega arith))

drop-few : (k p : ℕ) (rs : Runs) → Rising p rs → length (encode (drop k (dense_from p rs))) ≤ length rs
unfolding dense_from encode encode_from
drop-few k p [] h = rw (drop_of_length-le {A = ℤ} [] {i = k} (omega arith)) (omega arith)
drop-few k p (r ∷ rs) h =
    let n = r.end - p in
    by-test (leb k n)
    (λ t. rw (drop-front k n r.value (dense_from r.end rs) (leb-true k n t))
    (omega (arith, after-few r.end (replicate (n - k) r.value) rs h.1, constant_few (n - k) r.value)))
    (λ t. let e : k ≡ n + (k - n) = omega (arith, leb-false k n t) in
    let q : drop k (replicate n r.value ++ dense_from r.end rs) ≡ drop (k - n) (dense_from r.end rs) =
    ap (λ (i : ℕ). drop i (replicate n r.value ++ dense_from r.end rs)) e ∙ drop-after (k - n) n r.value (dense_from r.end rs) in
    rw q (omega (arith, drop-few (k - n) r.end rs h.1)))

pub shift-few : (distance fill : ℤ) (rs : Runs) → Rising 0 rs → length (encode (shift_values distance fill (dense rs))) ≤ length rs + 1
unfolding shift_values dense
shift-few (pos n) fill rs h =
    let ys = take (length (dense_from 0 rs) - n) (dense_from 0 rs) in
    let m = min n (length (dense_from 0 rs)) in
    let front = take-few (length (dense_from 0 rs) - n) (dense_from 0 rs) (omega arith) in
    omega (arith, append-few (replicate m fill) ys, constant_few m fill, front, drop-few 0 0 rs h)
shift-few (negsuc n) fill rs h =
    let ys = drop (suc n) (dense_from 0 rs) in
    let m = min (suc n) (length (dense_from 0 rs)) in
    omega (arith, append-few ys (replicate m fill), constant_few m fill, drop-few (suc n) 0 rs h)

-- ---- the call, by what the locals hold

distance-is : {distance : ℤ} {by : ℕ} → SFits w64 distance → by ≡ nat_abs (held distance) → by ≡ nat_abs distance
distance-is fd eb = eb ∙ ap nat_abs (to_z-of_z fd)

-- a distance above 0 moves by some
some-moved : (d : ℤ) → lt_z (pos 0) d ≡ true → 0 < nat_abs d
some-moved (pos k) u = ltb-true 0 k u
some-moved (negsuc k) u = omega arith

pub shift-some : (distance : ℤ) {by : ℕ} → by ≡ nat_abs (held distance) → lt_z (pos 0) (held distance) ≡ true → 0 < by
shift-some distance eb t = rw eb (some-moved (held distance) t)

pub record ShiftKnown (es vs e₀ v₀ : List ℤ) (n : ℕ) : Type 0 where
  pub valid : ends_valid es ≡ None
  pub whole : n ≡ length_of (runs_of es vs)
  pub moved : (by : ℕ) → by < n → Shiftable es vs by n e₀ v₀

pub shift_known : (es vs e₀ v₀ : List ℤ)
    → (ends_valid es ≡ None) × (length es ≡ length vs) × (length es + 1 ≤ length e₀) × (length es + 1 ≤ length v₀)
    → {y : ℤ} → mag y < 2 ^ 63 → y ≡ length_of_ends es → {n : ℕ} → n ≡ to_nat (held y) → ShiftKnown es vs e₀ v₀ n
shift_known es vs e₀ v₀ p {y} fy ey en =
    let w = en ∙ ap to_nat (back y fy ∙ ey ∙ length_of-ends es vs p.0 p.1) in
    record {
      valid = p.0;
      whole = w;
      moved = λ by h. record {
        valid = p.0;
        paired = p.1;
        whole = w;
        short = h;
        fitting = rw (en, back y fy) (to_nat-below y (record { sfits = fy }));
        room_ends = p.2;
        room_values = p.3;
      };
    }

module _ {es vs e₀ v₀ : List ℤ} {n : ℕ} (k : ShiftKnown es vs e₀ v₀ n) where
  -- no positions
  pub shift-nothing : (distance fill : ℤ) → n ≡ 0 → Filled (encode (shift_values distance fill (dense (runs_of es vs)))) e₀ e₀ v₀ v₀ 0
  shift-nothing distance fill h = shift_none es vs k.valid distance fill e₀ v₀ (sym k.whole ∙ h)

  module _ {distance fill : ℤ} (fd : SFits w64 distance) (ff : SFits w64 fill) {by : ℕ} (eb : by ≡ nat_abs (held distance)) where
    -- the fill alone
    pub shift-filled : (n ≡ 0 → ⊥) → n ≤ by → {e v : List ℤ} {w : Writer}
        → PushedMerged (record { at = 0; last = held fill }) (to_z w64 n) (held fill) e₀ e v₀ v w
        → Filled (encode (shift_values distance fill (dense (runs_of es vs)))) e₀ e v₀ v (w.at + 1)
    shift-filled some h d =
        let q = k.moved 0 (omega arith) in
        let run = fill_run q (held fill) n q.short d (to_z_pos w64 q.fitting) in
        let all = shift-all es vs k.valid distance fill (omega (arith, distance-is fd eb, k.whole)) in
        rw (k.whole, to_z-of_z ff, all) at (filled q (replicate n (held fill)) run (rw length-replicate q.short))

    module _ (h : by < n) {e v : List ℤ} {m : ℕ} where
      pub shifted-up : lt_z (pos 0) (held distance) ≡ true → Filled (encode (shifted_up by (held fill) (dense (runs_of es vs)))) e₀ e v₀ v m
          → Filled (encode (shift_values distance fill (dense (runs_of es vs)))) e₀ e v₀ v m
      shifted-up t f =
          let moved = shift_up es vs k.valid distance fill (rw (to_z-of_z fd) at t) (omega (arith, distance-is fd eb, k.whole)) in
          rw (distance-is fd eb, to_z-of_z ff, moved) at f

      pub shifted-down : lt_z (pos 0) (held distance) ≡ false → Filled (encode (shifted_down by (held fill) (dense (runs_of es vs)))) e₀ e v₀ v m
          → Filled (encode (shift_values distance fill (dense (runs_of es vs)))) e₀ e v₀ v m
      shifted-down t f =
          let moved = shift-down es vs k.valid distance fill (rw (to_z-of_z fd) at t) (omega (arith, distance-is fd eb, k.whole)) in
          rw (distance-is fd eb, to_z-of_z ff, moved) at f
