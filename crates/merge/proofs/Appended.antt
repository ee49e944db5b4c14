-- A sequence's runs appended to none, merged.
-- Assumes nothing.
use Prim.Native.Nat.{◌+◌, ◌≤◌, ◌<◌, ◌^◌}
use mathlib.Core.List.{List, [], ◌∷◌}
use mathlib.Core.Bool.{true, false}
use Rattle.std.specs.Prelude.{None}
use mathlib.Core.Path.{◌≡◌, ap, ◌∙◌}
use native.Mathlib.Omega.{arith}
use lib.IntN.{ℤ, pos}
use lib.ListN.{length, get_or}
use lib.Dec.{eqb}
use lib.Signed.{mag, le_z}
use mir.Syntax.{w64}
use mir.Val.{to_z, of_z}
use borrow.Author.Tests.{eqb-true, eqb-false, leb-true, leb-false}
use Rattle.num.proofs.Bits.{back}
use Rattle.num.proofs.Tests.{by-test}
use Rattle.column.specs.declared.inner.Writer.{Writer}
use Rattle.column.specs.Questions.{ends_valid}
use Rattle.column.specs.Runs.{to_nat, runs_of, length_of, length_of_ends, dense_from, dense, encode, encode_from, Filled}
use Rattle.column.specs.Workers.{Merging, moved, Behind, Appendable, Appended}
use Rattle.column.proofs.Appending.{rising_at, push_few, push_shown, length_moved}
use Rattle.column.proofs.Dense.{length-dense}
use Rattle.column.proofs.Encode.{encode-pos}
use Rattle.column.proofs.Ends.{rising, runs-rise, length_runs, length_of-ends}
use Rattle.column.proofs.Naturals.{to_nat-below}
use Rattle.column.proofs.Rising.{Rising}
use Rattle.column.proofs.Sequences.{length_none}
use Rattle.column.proofs.Merging.{merge_start, merge_end, fill_none}

-- runs have a length
length_some : (es vs : List ℤ) → ends_valid es ≡ None → length es ≡ length vs → (length es ≡ 0 → ⊥) → 0 < length_of (runs_of es vs)
unfolding length_of_ends
length_some es vs valid paired h =
    let k = rising_at 0 es 0 (rising es valid) (let n : 0 < length es = omega (arith, h) in n) in
    omega (arith, k.1, k.2, ap to_nat (length_of-ends es vs valid paired))

filled_none : (es vs e₀ v₀ : List ℤ) → length es ≡ 0 → Filled (encode (dense (runs_of es vs))) e₀ e₀ v₀ v₀ 0
unfolding dense dense_from encode encode_from runs_of
filled_none [] vs e₀ v₀ h = fill_none e₀ v₀
filled_none (e ∷ es) vs e₀ v₀ h = let z : ⊥ = omega arith in absurd z

-- a valid sequence, and room for as many runs
abbrev pub Ready : List ℤ → List ℤ → List ℤ → List ℤ → Type 0
Ready es vs e₀ v₀ = (ends_valid es ≡ None) × (length es ≡ length vs) × (length es ≤ length e₀) × (length es ≤ length v₀)

module _ (es vs e₀ v₀ : List ℤ) (q : Ready es vs e₀ v₀) where
  rises : Rising 0 (runs_of es vs)
  rises = runs-rise 0 es vs (rising es q.0)

  -- the length, as it is read
  module _ {x : ℤ} (ex : x ≡ length_of_ends es) (small : mag x < 2 ^ 63) where
    held : to_z w64 (of_z w64 x) ≡ length_of_ends es
    held = back x small ∙ ex

    -- no runs: nothing is written
    pub merged-none : le_z (to_z w64 (of_z w64 x)) (pos 0) ≡ true → Filled (encode (dense (runs_of es vs))) e₀ e₀ v₀ v₀ 0
    merged-none t =
        let k : length_of (runs_of es vs) ≤ 0 = leb-true (length_of (runs_of es vs)) 0 (rw (held ∙ length_of-ends es vs q.0 q.1) at t) in
        by-test (eqb (length es) 0)
        (λ u. filled_none es vs e₀ v₀ (eqb-true (length es) 0 u))
        (λ u. absurd (let n = length_some es vs q.0 q.1 (eqb-false (length es) 0 u) in let z : ⊥ = omega arith in z))

    pub merged_some : le_z (to_z w64 (of_z w64 x)) (pos 0) ≡ false → length es ≡ 0 → ⊥
    merged_some t h =
        let f : le_z (pos 0) (pos 0) ≡ false = rw (held ∙ length_none es h) at t in
        let z : 0 < 0 = leb-false 0 0 f in omega arith

    fitting : to_nat (length_of_ends es) < 2 ^ 63
    fitting = rw (← ex) (to_nat-below x (record { sfits = small }))

    module _ {first : ℤ} (starts : first ≡ get_or vs 0 (pos 0)) where
      abbrev start : Writer
      start = record { at = 0; last = first }

      behind : Behind [] first e₀ v₀ e₀ v₀ start es vs
      behind = record {
        merging = merge_start first e₀ v₀;
        started = λ _ _. starts;
        room_ends = omega (arith, q.2);
        room_values = omega (arith, q.3);
      }

      pub merged_appendable : Appendable 0 0 es vs e₀ v₀ start
      unfolding length_of_ends
      merged_appendable = record {
        movable = record { rising = rising es q.0; fitting = omega (arith, fitting); paired = q.1 };
        done = [];
        first = first;
        e₀ = e₀;
        v₀ = v₀;
        behind = behind;
      }

      module _ {e v : List ℤ} {w : Writer} (a : Appended 0 0 es vs e₀ e v₀ v start w) where
        whole : Merging (encode (dense (runs_of es vs))) first e₀ v₀ e v w
        unfolding dense encode encode_from
        whole = rw (push_shown 0 [] (runs_of es vs) rises) at (a [] first e₀ v₀ behind)

        pub merged_at : w.at ≤ length es
        unfolding dense encode encode_from
        merged_at =
            omega (
              arith,
              whole.at_last,
              ap length (push_shown 0 [] (runs_of es vs) rises),
              push_few [] (moved 0 0 (runs_of es vs)),
              length_moved 0 0 (runs_of es vs),
              length_runs es vs q.1,
            )

        pub merged-end : (length es ≡ 0 → ⊥) → Filled (encode (dense (runs_of es vs))) e₀ e v₀ v (w.at + 1)
        merged-end h =
            let some = length_some es vs q.0 q.1 h in
            merge_end whole (encode-pos (dense (runs_of es vs)) (rw (length-dense (runs_of es vs) rises) some))
