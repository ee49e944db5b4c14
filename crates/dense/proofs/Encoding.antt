-- Values written as merged runs, one stretch of equal values after another.
-- Assumes nothing.
use Prim.Native.Nat.{ℕ, ◌+◌, ◌-◌, ◌≤◌, ◌<◌, ◌^◌}
use mathlib.Core.List.{List, [], ◌∷◌, ◌++◌, append_assoc, append-nil}
use mathlib.Core.Path.{◌≡◌, refl, sym, ap, ap₂, ◌∙◌}
use native.Mathlib.Numerals.{add-one}
use native.Mathlib.Omega.{arith}
use lib.IntN.{ℤ, pos}
use lib.ListN.{length, get_or, take, replicate, get_or-replicate, replicate-append-replicate}
use lib.Seq.{take_all, take-suc, length-take-le, get_or-take, get_or-append-add}
use Rattle.column.specs.declared.inner.Writer.{Writer}
use Rattle.column.specs.Runs.{encode_from, encode, over, Filled}
use Rattle.column.specs.Workers.{next_place, PushedMerged, Merging}
use Rattle.column.proofs.Buffer.{length_over, over-over}
use Rattle.column.proofs.Encode.{encode-pos, encode-none, encode_le, encode-last, encode-more, encode-stretch}
use Rattle.column.proofs.Merging.{merge_start, merge_end, merge_at, merge_more, fill_none}
use Rattle.column.proofs.Sequences.{length-ends, length-values}
use Rattle.dense.specs.Workers.{Constant, Encoded, Encodable}

-- what push_merged requires
abbrev pub Room : Writer → ℤ → List ℤ → List ℤ → Type 0
Room w x e v = (w.at + 1 < 2 ^ 64) × (next_place w x < length e) × (next_place w x < length v)

-- no more runs than values
few : (xs : List ℤ) (i : ℕ) → i ≤ length xs → length (encode (take i xs)) ≤ i
few xs i h = omega (arith, encode_le (take i xs), length-take-le i xs h)

-- the equation of a buffer, the same for ends and values: a further call starts from what was written, and its result stands over the first buffer
module _ {A : Type 0} (xs b₀ : List A) {b : List A} (e : b ≡ over xs b₀) where
  over-again : b ≡ over xs b
  over-again = e ∙ sym (over-over xs xs b₀ (omega arith)) ∙ ap (over xs) (sym e)

  over_on : (ys : List A) {b' : List A} → b' ≡ over ys b → length xs ≤ length ys → b' ≡ over ys b₀
  over_on ys d h = d ∙ ap (over ys) e ∙ over-over ys xs b₀ h

pub stretch-none : (xs : List ℤ) (i : ℕ) (x : ℤ) → Constant xs i i x
stretch-none xs i x = let n : i - i ≡ 0 = omega arith in rw n (sym (append-nil (take i xs)))

pub stretch-more : (xs : List ℤ) (i j : ℕ) (x : ℤ) → i ≤ j → j < length xs → x ≡ get_or xs j (pos 0) → Constant xs i j x → Constant xs i (j + 1) x
stretch-more xs i j x h k ex s =
    let n : j + 1 - i ≡ j - i + 1 = omega arith in
    ap (λ (m : ℕ). take m xs) (add-one j)
    ∙ take-suc xs j (pos 0) k
    ∙ ap₂ (λ (l : List ℤ) (y : ℤ). l ++ y ∷ []) s (sym ex)
    ∙ append_assoc (take i xs) (replicate (j - i) x) (x ∷ [])
    ∙ ap (λ (l : List ℤ). take i xs ++ l) (replicate-append-replicate (j - i) 1 x ∙ ap (λ (m : ℕ). replicate m x) (sym n))

stretch-first : (xs : List ℤ) (i j : ℕ) (x : ℤ) → i < j → j ≤ length xs → Constant xs i j x → get_or xs i (pos 0) ≡ x
stretch-first xs i j x h k s =
    let n : length (take i xs) + 0 ≡ i = omega (arith, length-take-le i xs (omega arith)) in
    sym (get_or-take j xs i (pos 0) h)
    ∙ ap (λ (l : List ℤ). get_or l i (pos 0)) s
    ∙ rw n at (get_or-append-add (take i xs) (replicate (j - i) x) 0 (pos 0))
    ∙ get_or-replicate (j - i) 0 x (pos 0) (omega arith)

-- no values
pub filled_none : (xs e₀ v₀ : List ℤ) → length xs ≡ 0 → Filled (encode xs) e₀ e₀ v₀ v₀ 0
unfolding encode encode_from
filled_none [] e₀ v₀ h = fill_none e₀ v₀
filled_none (x ∷ xs) e₀ v₀ h = let z : ⊥ = omega arith in absurd z

pub encoded_none : (xs e₀ v₀ : List ℤ) {first : ℤ} → first ≡ get_or xs 0 (pos 0) → Encoded xs e₀ e₀ v₀ v₀ (record { at = 0; last = first }) 0
unfolding encode encode_from
encoded_none xs e₀ v₀ e =
    let m = merge_start (get_or xs 0 (pos 0)) e₀ v₀ in
    record { ends = m.ends; values = m.values; at_last = refl; last_value = e }

pub encoded_at : {xs e₀ v₀ e v : List ℤ} {w : Writer} {i : ℕ} → Encoded xs e₀ e v₀ v w i → i ≤ length xs → w.at ≤ i
encoded_at {xs} {i = i} d k = omega (arith, few xs i k, d.at_last)

module _ {xs e₀ v₀ e v : List ℤ} {w : Writer} {i : ℕ} (d : Encoded xs e₀ e v₀ v w i)
    (room_e : length xs ≤ length e₀) (room_v : length xs ≤ length v₀) (k : i ≤ length xs) where
  merging : Merging (encode (take i xs)) (get_or xs 0 (pos 0)) e₀ v₀ e v w
  merging =
      let l = few xs i k in
      record {
        ends = d.ends;
        values = d.values;
        long_ends = ap length d.ends ∙ length_over _ e₀ (omega (arith, length-ends (encode (take i xs))));
        long_values = ap length d.values ∙ length_over _ v₀ (omega (arith, length-values (encode (take i xs))));
        at_last = d.at_last;
        last_value = d.last_value ∙ sym (encode-last xs i k);
      }

  pub encoded_long : (length e ≡ length e₀) × (length v ≡ length v₀)
  encoded_long = (merging.long_ends, merging.long_values)

  pub encoded_end : length xs ≤ i → 0 < length xs → Filled (encode xs) e₀ e v₀ v (w.at + 1)
  encoded_end h some = let all : take i xs ≡ xs = take_all i xs h in merge_end (rw all at merging) (encode-pos xs some)

  -- a further call, up to j
  pub encodable : (j : ℕ) → i ≤ j → j ≤ length xs → Encodable xs e v w i j
  encodable j h n = record {
    ordered = h;
    within = n;
    room_ends = omega (arith, encoded_long.0);
    room_values = omega (arith, encoded_long.1);
    written = record { ends = over-again _ e₀ d.ends; values = over-again _ v₀ d.values; at_last = d.at_last; last_value = d.last_value };
  }

  pub encoded_on : {e' v' : List ℤ} {w' : Writer} {j : ℕ} → Encoded xs e e' v v' w' j → i ≤ j → j ≤ length xs → Encoded xs e₀ e' v₀ v' w' j
  encoded_on {j = j} d' h n =
      let s : i + (j - i) ≡ j = omega arith in
      let m : length (encode (take i xs)) ≤ length (encode (take j xs)) = rw s at (encode-more xs i (j - i) (omega arith)) in
      record {
        ends = over_on _ e₀ d.ends _ d'.ends (simp length-ends m);
        values = over_on _ v₀ d.values _ d'.values (simp length-values m);
        at_last = d'.at_last;
        last_value = d'.last_value;
      }

  -- a stretch of the value x from i up to j
  module _ {j : ℕ} (x : ℤ) (h : i < j) (n : j ≤ length xs) (s : Constant xs i j x) where
    start : length (encode (take i xs)) ≡ 0 → get_or xs 0 (pos 0) ≡ x
    start z =
        let none : i ≡ 0 = sym (length-take-le i xs k) ∙ encode-none (take i xs) z in
        rw none at (stretch-first xs i j x h n s)

    -- there is room for its run
    pub stretch-room : length xs < 2 ^ 63 → Room w x e v
    stretch-room b =
        let p = merge_at merging x start in
        let l = few xs i k in
        (omega (arith, encoded_at d k), omega (arith, encoded_long.0), omega (arith, encoded_long.1))

    pub encoded_stretch : {z : ℤ} {e' v' : List ℤ} {next : Writer} → PushedMerged w z x e e' v v' next → z ≡ pos j → Encoded xs e₀ e' v₀ v' next j
    encoded_stretch p ez =
        let l = few xs i k in
        let m = merge_more merging x start j p ez (encode-stretch xs i j x h k s) (omega arith) (omega arith) in
        record { ends = m.ends; values = m.values; at_last = m.at_last; last_value = m.last_value ∙ encode-last xs j n }

  -- one value
  module _ (h : i < length xs) {x : ℤ} (ex : x ≡ get_or xs i (pos 0)) where
    alone : Constant xs i (i + 1) x
    alone = stretch-more xs i i x (omega arith) h ex (stretch-none xs i x)

    pub value_room : length xs < 2 ^ 63 → Room w x e v
    value_room b = stretch-room x (omega arith) (omega arith) alone b

    pub encoded_value : {z : ℤ} {e' v' : List ℤ} {next : Writer} → PushedMerged w z x e e' v v' next → z ≡ pos (i + 1) → Encoded xs e₀ e' v₀ v' next (i + 1)
    encoded_value p ez = encoded_stretch x (omega arith) (omega arith) alone p ez
