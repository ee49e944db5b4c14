-- Sequences laid flat one after another.
-- Assumes nothing.
use Prim.Native.Nat.{ℕ, zero, suc, ◌+◌, ◌-◌, ◌≤◌, ◌<◌}
use Rattle.std.specs.Prelude.{Some, None, Result, Ok, IsErrAnd}
use mathlib.Core.List.{List, [], ◌∷◌, ◌++◌, map, append_assoc, append-nil}
use mathlib.Core.Path.{◌≡◌, refl, ap, sym, ◌∙◌}
use native.Mathlib.Numerals.{add-one}
use native.Mathlib.Omega.{arith}
use borrow.Rule.Slice.PartMut.{put_mid}
use lib.IntN.{ℤ}
use lib.ListN.{length, get_or, take, drop, set, length-append, length-set}
use lib.Seq.{take-suc, take_all, length-take-le}
use Rattle.column.specs.declared.answer.RleBatch.{RleBatch}
use Rattle.column.specs.declared.error.Refusal.{Refusal}
use Rattle.column.specs.Asking.{Question, ◌otherwise◌}
use Rattle.column.specs.Flat.{offsets_from, flat_offsets, flat_ends, flat_values, WrittenFlat}
use Rattle.column.specs.Lists.{total}
use Rattle.column.specs.Paper.{paper}
use Rattle.column.specs.Runs.{Runs, ends_of, values_of, over, Filled}
use Rattle.column.proofs.Buffer.{over-next, over-over, length_over}
use Rattle.column.proofs.Promised.{passed_on}
use Rattle.column.proofs.Rest.{fill-behind}
use Rattle.column.proofs.Sequences.{length-ends, length-values, ends-append, values-append}
use Rattle.column.specs.Workers.{FilledFlat}

-- ---- sequences laid flat, as the runs of all of them

abbrev pub every_runs : List Runs → Runs
every_runs [] = []
every_runs (c ∷ cs) = c ++ every_runs cs

pub length-all : (cs : List Runs) → length (every_runs cs) ≡ total (map length cs)
length-all [] = refl
length-all (c ∷ cs) = rw (length-append, length-all cs)

all-behind : (cs : List Runs) (c : Runs) → every_runs (cs ++ c ∷ []) ≡ every_runs cs ++ c
all-behind [] c = append-nil c
all-behind (b ∷ cs) c = rw (all-behind cs c) (sym (append_assoc b (every_runs cs) c))

pub flat-ends : (cs : List Runs) → flat_ends cs ≡ ends_of (every_runs cs)
unfolding flat_ends ends_of
flat-ends [] = refl
flat-ends (c ∷ cs) = rw (flat-ends cs) (sym (ends-append c (every_runs cs)))

pub flat-values : (cs : List Runs) → flat_values cs ≡ values_of (every_runs cs)
unfolding flat_values values_of
flat-values [] = refl
flat-values (c ∷ cs) = rw (flat-values cs) (sym (values-append c (every_runs cs)))

pub length-offsets : (a : ℕ) (cs : List Runs) → length (offsets_from a cs) ≡ length cs
unfolding offsets_from
length-offsets a [] = refl
length-offsets a (c ∷ cs) = ap suc (length-offsets (a + length c) cs)

offsets-behind : (a : ℕ) (cs : List Runs) (c : Runs) → offsets_from a (cs ++ c ∷ []) ≡ offsets_from a cs ++ (a + length (every_runs cs) + length c) ∷ []
unfolding offsets_from
offsets-behind a [] c = ap {B = List ℕ} (λ n. n ∷ []) (omega arith)
offsets-behind a (b ∷ cs) c =
    let e : a + length b + length (every_runs cs) + length c ≡ a + length (b ++ every_runs cs) + length c = rw length-append (omega arith) in
    ap {B = List ℕ} (λ os. (a + length b) ∷ os) (offsets-behind (a + length b) cs c ∙ ap (λ (n : ℕ). offsets_from (a + length b) cs ++ n ∷ []) e)

total-front : (i : ℕ) (cs : List Runs) → total (map length (take i cs)) ≤ total (map length cs)
total-front zero cs = omega arith
total-front (suc i) [] = omega arith
total-front (suc i) (c ∷ cs) = omega (arith, total-front i cs)

-- the first i of them are written
pub record Laying (cs : List Runs) (x₀ x : List ℕ) (e₀ e v₀ v : List ℤ) (used i : ℕ) : Type 0 where
  pub within : i ≤ length cs
  pub offsets : x ≡ over (flat_offsets (take i cs)) x₀
  pub filled : Filled (every_runs (take i cs)) e₀ e v₀ v used
  pub long_offsets : length x ≡ length x₀
  pub long_ends : length e ≡ length e₀
  pub long_values : length v ≡ length v₀

-- the first offset is written before the others
module _ (x : List ℕ) (h : 0 < length x) where
  first_offset : set x 0 0 ≡ over (0 ∷ []) x
  unfolding over
  first_offset = over-next [] x 0 0 refl h

  pub laying_start : (cs : List Runs) (e₀ v₀ : List ℤ) → Laying cs (set x 0 0) (set x 0 0) e₀ e₀ v₀ v₀ 0 0
  unfolding over ends_of values_of offsets_from
  laying_start cs e₀ v₀ = record {
    within = omega arith;
    offsets = first_offset ∙ sym (over-over (0 ∷ []) (0 ∷ []) x (omega arith)) ∙ ap (over (0 ∷ [])) (sym first_offset);
    filled = record { count = refl; ends = refl; values = refl };
    long_offsets = refl;
    long_ends = refl;
    long_values = refl;
  }

  pub laying_end : {cs : List Runs} {y : List ℕ} {e₀ e v₀ v : List ℤ} {used i : ℕ} → Laying cs (set x 0 0) y e₀ e v₀ v used i → length cs ≤ i
      → FilledFlat cs x y e₀ e v₀ v used
  laying_end {cs} {e₀ = e₀} {e} {v₀} {v} {used} {i} s k =
      let all : take i cs ≡ cs = take_all i cs k in
      let f : Filled (every_runs cs) e₀ e v₀ v used = rw all at s.filled in
      record {
        count = f.count ∙ length-all cs;
        offsets = rw all at s.offsets ∙ ap (over (flat_offsets cs)) first_offset ∙ over-over (flat_offsets cs) (0 ∷ []) x (omega arith);
        ends = rw flat-ends f.ends;
        values = rw flat-values f.values;
      }

module _ {cs : List Runs} {x₀ x : List ℕ} {e₀ e v₀ v : List ℤ} {used i : ℕ} (s : Laying cs x₀ x e₀ e v₀ v used i) where
  module _ (h : i < length cs) where
    one_more : take (i + 1) cs ≡ take i cs ++ get_or cs i [] ∷ []
    one_more = ap (λ (n : ℕ). take n cs) (add-one i) ∙ take-suc cs i [] h

    together : length (every_runs (take (i + 1) cs)) ≡ used + length (get_or cs i [])
    together = ap (λ (l : List Runs). length (every_runs l)) one_more ∙ rw (all-behind, length-append) (omega (arith, s.filled.count))

    -- there is room for the next
    pub laying-room : (m : ℕ) → total (map length cs) ≤ m → used + length (get_or cs i []) ≤ m
    laying-room m k = omega (arith, together, length-all (take (i + 1) cs), total-front (i + 1) cs)

    pub laying-next : {e₂ v₂ : List ℤ} {n : ℕ} → Filled (get_or cs i []) (take (length e - used) (drop used e)) e₂ (take (length v - used) (drop used v)) v₂ n
        → total (map length cs) ≤ length e₀ → total (map length cs) ≤ length v₀ → length cs < length x₀
        → Laying cs x₀ (set x (i + 1) (used + n)) e₀ (put_mid used (length e - used) e e₂) v₀ (put_mid used (length v - used) v v₂) (used + n) (i + 1)
    laying-next {e₂} {v₂} {n} f ke kv kx =
        let c = get_or cs i [] in
        let re = laying-room (length e₀) ke in
        let rv = laying-room (length v₀) kv in
        let m : Filled (every_runs (take (i + 1) cs)) e₀ (put_mid used (length e - used) e e₂) v₀ (put_mid used (length v - used) v v₂) (used + n) =
        rw (one_more, all-behind (take i cs) c)
        (fill-behind (every_runs (take i cs)) c e₀ e e₂ v₀ v v₂ used n s.filled f (omega (arith, s.long_ends)) (omega (arith, s.long_values))) in
        let at : i + 1 ≡ length (flat_offsets (take i cs)) = omega (arith, length-offsets 0 (take i cs), length-take-le i cs (omega arith)) in
        let o : 0 + length (every_runs (take i cs)) + length c ≡ used + n = omega (arith, s.filled.count, f.count) in
        record {
          within = omega arith;
          offsets = rw s.offsets (over-next (flat_offsets (take i cs)) x₀ (i + 1) (used + n) at (omega arith)
              ∙ ap (λ (l : List ℕ). over (0 ∷ l) x₀) (sym (rw (one_more, offsets-behind 0 (take i cs) c, o))));
          filled = m;
          long_offsets = rw length-set s.long_offsets;
          long_ends = ap length m.ends ∙ length_over (ends_of (every_runs (take (i + 1) cs))) e₀ (rw length-ends (omega (arith, together)));
          long_values = ap length m.values ∙ length_over (values_of (every_runs (take (i + 1) cs))) v₀ (rw length-values (omega (arith, together)));
        }

-- ---- what a worker laid flat, after a "yes" to every question, is what a call promises; and so is what was there, after a "no"

module _ {q : Question} (cs : List Runs) where
  pub flat-written : {x x' : List ℕ} {e e' v v' : List ℤ} {k n : ℕ} → q ≡ None → k ≡ length cs → FilledFlat cs x x' e e' v v' n
      → WrittenFlat (q otherwise cs) (Ok (record { keys = k; runs = n })) x x' e e' v v'
  flat-written h ek f = rw h (record { answer = rw (ek, f.count); offsets = f.offsets; ends = f.ends; values = f.values })

  pub flat-refused : (r : Result RleBatch Refusal) (e : Refusal) {x : List ℕ} {b v : List ℤ}
      → IsErrAnd r (λ (y : Refusal). y ≡ e) → Some (paper e) ≡ q → WrittenFlat (q otherwise cs) r x x b b v v
  flat-refused r e h f = rw (sym f, passed_on r e h) (record { answer = refl; offsets = refl; ends = refl; values = refl })
