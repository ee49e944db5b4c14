-- A sequence from its last run to its first: the loop, what it shows, and that it is valid.
-- Assumes nothing.
use Prim.Native.Nat.{ℕ, zero, suc, ◌+◌, ◌-◌, ◌≤◌, ◌<◌, ◌^◌}
use mathlib.Core.List.{List, [], ◌∷◌, ◌++◌, map, append_assoc, append-nil, reverse, reverse-cons, reverse-append}
use Rattle.std.specs.Prelude.{None}
use mathlib.Core.Path.{◌≡◌, refl, ap, sym, ◌∙◌}
use native.Mathlib.Omega.{arith}
use lib.IntN.{ℤ, pos, ◌-ℤ◌}
use lib.ListN.{length, get_or, take, drop, set, replicate, length-append, length-take, length-drop, length-map, length-reverse, drop_of_length-le}
use lib.Seq.{drop-cons, get_or-take}
use lib.Signed.{mag}
use mir.Syntax.{w64}
use mir.Val.{SFits, to_z, of_z}
use Rattle.num.proofs.Difference.{difference_of, difference-fits, natural-below, natural-back}
use Rattle.column.specs.Questions.{ends_valid}
use Rattle.column.specs.Runs.{Run, Runs, to_nat, runs_of, length_of_ends, ends_of, values_of, last_end, length_of, dense_from, dense, over, Filled}
use Rattle.column.proofs.Appending.{rising_at}
use Rattle.column.proofs.Buffer.{over-next}
use Rattle.column.proofs.Cover.{last-end, last-above}
use Rattle.column.proofs.Ends.{rising, length_of-ends}
use Rattle.column.proofs.Merging.{fill_none}
use Rattle.column.proofs.Rising.{Rising, Valid}
use Rattle.column.proofs.Sequences.{length-ends, ends-append, values-append, length_last}
use Rattle.transform.specs.Calls.{reverse_from, reverse_runs}
use Rattle.transform.specs.Workers.{turned_from, turned_ends}

-- ---- the two flat lists, apart

ends_turned : (n p : ℕ) (es vs : List ℤ) → length es ≡ length vs → ends_of (reverse_from n p (runs_of es vs)) ≡ turned_from n p es
unfolding reverse_from runs_of turned_from ends_of
ends_turned n p [] vs l = refl
ends_turned n p (e ∷ es) [] l = let z : ⊥ = omega arith in absurd z
ends_turned n p (e ∷ es) (v ∷ vs) l =
    ends-append (reverse_from n (to_nat e) (runs_of es vs)) (record { end = n - p; value = v } ∷ [])
    ∙ ap (λ (xs : List ℤ). xs ++ pos (n - p) ∷ []) (ends_turned n (to_nat e) es vs (omega arith))

values_turned : (n p : ℕ) (es vs : List ℤ) → length es ≡ length vs → values_of (reverse_from n p (runs_of es vs)) ≡ reverse vs
unfolding reverse_from runs_of values_of
values_turned n p [] [] l = refl
values_turned n p [] (v ∷ vs) l = let z : ⊥ = omega arith in absurd z
values_turned n p (e ∷ es) [] l = let z : ⊥ = omega arith in absurd z
values_turned n p (e ∷ es) (v ∷ vs) l =
    values-append (reverse_from n (to_nat e) (runs_of es vs)) (record { end = n - p; value = v } ∷ [])
    ∙ ap (λ (xs : List ℤ). xs ++ v ∷ []) (values_turned n (to_nat e) es vs (omega arith))
    ∙ sym (reverse-cons v vs)

length_turned : (n p : ℕ) (es : List ℤ) → length (turned_from n p es) ≡ length es
unfolding turned_from
length_turned n p [] = refl
length_turned n p (e ∷ es) = simp length-append (omega (arith, length_turned n (to_nat e) es))

-- as many runs
from-count : (n p : ℕ) (rs : Runs) → length (reverse_from n p rs) ≡ length rs
unfolding reverse_from
from-count n p [] = refl
from-count n p (r ∷ rs) = simp length-append (omega (arith, from-count n r.end rs))

pub reverse-count : (rs : Runs) → length (reverse_runs rs) ≡ length rs
unfolding reverse_runs
reverse-count rs = from-count (length_of rs) 0 rs

-- no runs: nothing is written
pub reversed-none : (es vs e₀ v₀ : List ℤ) → length es ≡ 0 → Filled (reverse_runs (runs_of es vs)) e₀ e₀ v₀ v₀ 0
unfolding reverse_runs reverse_from runs_of
reversed-none [] vs e₀ v₀ h = fill_none e₀ v₀
reversed-none (e ∷ es) vs e₀ v₀ h = let z : ⊥ = omega arith in absurd z

pub reversed-filled : (es vs : List ℤ) {e₀ e v₀ v : List ℤ} → ends_valid es ≡ None → length es ≡ length vs
    → e ≡ over (turned_ends es) e₀ → v ≡ over (reverse vs) v₀
    → Filled (reverse_runs (runs_of es vs)) e₀ e v₀ v (length es)
unfolding reverse_runs
reversed-filled es vs {e₀ = e₀} {v₀ = v₀} valid l he hv =
    let n = length_of (runs_of es vs) in
    let m : to_nat (length_of_ends es) ≡ n = ap to_nat (length_of-ends es vs valid l) in
    let t = ends_turned n 0 es vs l in
    record {
      count = sym (sym (length-ends (reverse_from n 0 (runs_of es vs))) ∙ ap length t ∙ length_turned n 0 es);
      ends = he ∙ ap (λ (xs : List ℤ). over xs e₀) (ap (λ (k : ℕ). turned_from k 0 es) m ∙ sym t);
      values = hv ∙ ap (λ (xs : List ℤ). over xs v₀) (sym (values_turned n 0 es vs l));
    }

-- ---- a loop that writes entries from the last to the first: the last t of them are written

module _ (xs before : List ℤ) where
  pub record Turning (now : List ℤ) (t : ℕ) : Type 0 where
    pub written : now ≡ over (reverse (drop (length xs - t) xs)) before

  pub turning-start : Turning before 0
  unfolding over
  turning-start = record { written = rw (drop_of_length-le xs {i = length xs - 0} (omega arith)) }

  module _ {now : List ℤ} {t : ℕ} (r : Turning now t) where
    pub turning-next : {x : ℤ} (d : ℤ) (i : ℕ) → x ≡ get_or xs i d → length xs ≤ length before → i + t + 1 ≡ length xs → Turning (set now t x) (t + 1)
    turning-next d i ex room h =
        let now : length xs - t ≡ suc i = omega arith in
        let later : length xs - (t + 1) ≡ i = omega arith in
        let done : List ℤ = reverse (drop (suc i) xs) in
        let z : length xs - suc i ≡ t = omega arith in
        let c : length done ≡ t = length-reverse (drop (suc i) xs) ∙ length-drop (suc i) xs ∙ z in
        record {
          written = rw (later, drop-cons xs i d (omega arith), reverse-cons (get_or xs i d) (drop (suc i) xs), ex, r.written, now)
              (over-next done before t (get_or xs i d) (sym c) (omega arith));
        }

-- ---- the ends, turned: from the start of each run but the first, which is the end before it, and from 0

abbrev distance : ℕ → ℤ → ℤ
distance n e = pos (n - to_nat e)

turned_is : (n p : ℕ) (e : ℤ) (es : List ℤ) → turned_from n p (e ∷ es) ≡ reverse (map (distance n) (take (length es) (e ∷ es))) ++ pos (n - p) ∷ []
unfolding turned_from
turned_is n p e [] = refl
turned_is n p e (d ∷ es) =
    ap (λ (xs : List ℤ). xs ++ pos (n - p) ∷ [])
    (turned_is n (to_nat e) d es ∙ sym (reverse-cons (distance n e) (map (distance n) (take (length es) (d ∷ es)))))

turned-all : (n : ℕ) (es : List ℤ) → 0 < length es → turned_from n 0 es ≡ reverse (map (distance n) (take (length es - 1) es)) ++ pos n ∷ []
turned-all n [] h = let z : ⊥ = omega arith in absurd z
turned-all n (e ∷ es) h =
    let m : length (e ∷ es) - 1 ≡ length es = omega arith in
    let z : n - 0 ≡ n = omega arith in
    turned_is n 0 e es ∙ rw (m, z)

-- ---- the ends that are read, held in signed locals

abbrev pub held : ℤ → ℤ
held z = to_z w64 (of_z w64 z)

module _ (es : List ℤ) (valid : ends_valid es ≡ None) (some : 0 < length es) where
  abbrev length_is : ℕ
  length_is = to_nat (length_of_ends es)

  abbrev last : ℤ
  last = get_or es (length es - 1) (pos 0)

  -- the last is the length
  length_read : last ≡ pos length_is
  length_read = sym (length_last es (λ z. let f : ⊥ = omega arith in f)) ∙ (let k = length_of-ends es es valid refl in k ∙ ap pos (sym (ap to_nat k)))

  module _ (small : mag last < 2 ^ 63) where
    length-below : length_is < 2 ^ 63
    length-below = natural-below length_read small

    pub length_held : held last ≡ pos length_is
    length_held = natural-back length_read length-below

    -- how far it is from one of those before the last to the length
    module _ (i : ℕ) (h : i < length (take (length es - 1) es)) where
      abbrev end : ℤ
      end = get_or (take (length es - 1) es) i (pos 0)

      end_read : (end ≡ pos (to_nat end)) × (to_nat end ≤ length_is)
      unfolding length_of_ends
      end_read =
          let b : i < length es - 1 = omega (arith, simp length-take at h) in
          rw (get_or-take (length es - 1) es i (pos 0) (omega arith)) (let k = rising_at 0 es i (rising es valid) (omega arith) in (k.0, k.2))

      read_held : held end ≡ pos (to_nat end)
      read_held = natural-back end_read.0 (omega (arith, end_read.1, length-below))

      twice_held : held (held last) ≡ pos length_is
      twice_held = natural-back length_held length-below

      pub distance-fits : SFits w64 (held (held last) -ℤ held end)
      distance-fits = difference-fits twice_held read_held end_read.1 length-below

      pub distance_held : {y : ℤ} → y ≡ held (held (held last) -ℤ held end) → y ≡ distance length_is end
      distance_held ey = ey ∙ natural-back (difference_of twice_held read_held end_read.1) (omega (arith, length-below))

  -- and the length after them
  pub ends-turned : (before : List ℤ) {now : List ℤ} {k : ℕ} {x : ℤ} → length es ≤ length before
      → now ≡ over (reverse (map (distance length_is) (take (length es - 1) es))) before → k ≡ length es - 1 → x ≡ pos length_is
      → set now k x ≡ over (turned_ends es) before
  ends-turned before room e ek ex =
      let xs = reverse (map (distance length_is) (take (length es - 1) es)) in
      let n : length xs ≡ length es - 1 = simp (length-reverse, length-map, length-take) (omega arith) in
      rw (e, ek, ex) (over-next xs before (length es - 1) (pos length_is) (sym n) (omega arith)) ∙ ap (λ (l : List ℤ). over l before) (sym (turned-all length_is es some))

-- ---- what it shows

replicate-end : (n : ℕ) (v : ℤ) → replicate n v ++ v ∷ [] ≡ v ∷ replicate n v
replicate-end zero v = refl
replicate-end (suc n) v = ap {B = List ℤ} (λ l. v ∷ l) (replicate-end n v)

reverse-replicate : (n : ℕ) (v : ℤ) → reverse (replicate n v) ≡ replicate n v
reverse-replicate zero v = refl
reverse-replicate (suc n) v = reverse-cons v (replicate n v) ∙ rw (reverse-replicate n v) (replicate-end n v)

-- one run more after runs
dense-end : (p : ℕ) (rs : Runs) (r : Run) → dense_from p (rs ++ r ∷ []) ≡ dense_from p rs ++ replicate (r.end - last_end p rs) r.value
unfolding dense_from
dense-end p [] r = append-nil (replicate (r.end - p) r.value)
dense-end p (s ∷ rs) r =
    rw (dense-end s.end rs r)
    (sym (append_assoc (replicate (s.end - p) s.value) (dense_from s.end rs) (replicate (r.end - last_end s.end rs) r.value)))

rising-end : (p : ℕ) (rs : Runs) (r : Run) → Rising p rs → last_end p rs < r.end → Rising p (rs ++ r ∷ [])
rising-end p [] r h k = (k, tt)
rising-end p (s ∷ rs) r h k = (h.0, rising-end s.end rs r h.1 k)

module _ (n : ℕ) where
  last_turned : (p : ℕ) (rs : Runs) → last_end p rs ≡ n → last_end 0 (reverse_from n p rs) ≡ n - p
  unfolding reverse_from
  last_turned p [] e = omega arith
  last_turned p (r ∷ rs) e = last-end 0 (reverse_from n r.end rs) (record { end = n - p; value = r.value })

  valid_turned : (p : ℕ) (rs : Runs) → Rising p rs → last_end p rs ≡ n → Valid (reverse_from n p rs)
  unfolding reverse_from
  valid_turned p [] h e = tt
  valid_turned p (r ∷ rs) h e =
      rising-end 0 (reverse_from n r.end rs) (record { end = n - p; value = r.value }) (valid_turned r.end rs h.1 e)
      (omega (arith, last_turned r.end rs e, h.0, last-above r.end rs h.1))

  dense_turned : (p : ℕ) (rs : Runs) → Rising p rs → last_end p rs ≡ n → dense_from 0 (reverse_from n p rs) ≡ reverse (dense_from p rs)
  unfolding reverse_from dense_from
  dense_turned p [] h e = refl
  dense_turned p (r ∷ rs) h e =
      let a = last-above r.end rs h.1 in
      let m : n - p - (n - r.end) ≡ r.end - p = omega (arith, h.0) in
      rw (
        dense-end 0 (reverse_from n r.end rs) (record { end = n - p; value = r.value }),
        last_turned r.end rs e,
        m,
        dense_turned r.end rs h.1 e,
        reverse-append (replicate (r.end - p) r.value) (dense_from r.end rs),
        reverse-replicate,
      )

-- the values from the last position to the first
pub dense-reverse : (rs : Runs) → Valid rs → dense (reverse_runs rs) ≡ reverse (dense rs)
unfolding reverse_runs dense length_of
dense-reverse rs v = dense_turned (last_end 0 rs) 0 rs v refl

pub valid-reverse : (rs : Runs) → Valid rs → Valid (reverse_runs rs)
unfolding reverse_runs length_of
valid-reverse rs v = valid_turned (last_end 0 rs) 0 rs v refl
