-- Two sequences joined end to end and merged: the writing of them, and how many runs they have.
-- Assumes nothing.
use Prim.Native.Nat.{ℕ, ◌+◌, ◌≤◌, ◌<◌}
use mathlib.Core.List.{List, [], ◌∷◌, ◌++◌, append-nil}
use mathlib.Core.Path.{◌≡◌, refl, ap, sym, ◌∙◌}
use native.Mathlib.Omega.{arith}
use lib.IntN.{ℤ, pos}
use lib.ListN.{length, get_or, length-append, get_or-append}
use Rattle.column.specs.declared.inner.Writer.{Writer}
use Rattle.column.specs.Runs.{Runs, to_nat, runs_of, length_of_ends, length_of, dense_from, dense, encode, encode_from, Filled}
use Rattle.column.specs.Workers.{Merging, push_all, moved, Behind, Appendable, Appended}
use Rattle.column.proofs.Appending.{push_few, push_shown, length_moved}
use Rattle.column.proofs.Dense.{length-dense}
use Rattle.column.proofs.Encode.{encode-pos, encode-none}
use Rattle.column.proofs.Ends.{rising, length_runs, runs-rise, length_of-ends}
use Rattle.column.proofs.Merging.{merge_start, merge_end, fill_none}
use Rattle.column.proofs.Rising.{Valid}
use Rattle.transform.specs.Calls.{shown}
use Rattle.transform.proofs.Joining.{runs-short}
use Rattle.transform.specs.Workers.{JoinableTwo}

module _ (a b : Runs) where
  shown-both : shown (a ∷ b ∷ []) ≡ dense a ++ dense b
  unfolding shown
  shown-both = ap (λ (l : List ℤ). dense a ++ l) (append-nil (dense b))

  module _ (va : Valid a) (vb : Valid b) where
    push_first : push_all [] (moved 0 0 a) ≡ encode (dense a)
    unfolding encode encode_from dense
    push_first = push_shown 0 [] a va

    push_second : push_all (encode (dense a)) (moved 0 (length_of a) b) ≡ encode (shown (a ∷ b ∷ []))
    unfolding dense
    push_second =
        ap (λ (n : ℕ). push_all (encode (dense a)) (moved 0 n b)) (sym (length-dense a va)) ∙ push_shown 0 (dense a) b vb ∙ ap encode (sym shown-both)

    first-few : length (encode (dense a)) ≤ length a
    first-few = omega (arith, ap length push_first, push_few [] (moved 0 0 a), length_moved 0 0 a)

    -- no more runs than both have
    pub joined-few : length (encode (shown (a ∷ b ∷ []))) ≤ length a + length b
    joined-few = omega (arith, ap length push_second, push_few (encode (dense a)) (moved 0 (length_of a) b), length_moved 0 (length_of a) b, first-few)

    -- and one where one of them has one
    joined-some : 0 < length a + length b → 0 < length (encode (shown (a ∷ b ∷ [])))
    joined-some h =
        encode-pos (shown (a ∷ b ∷ []))
        (omega (arith, ap length shown-both, length-append (dense a) (dense b), length-dense a va, length-dense b vb, runs-short a va, runs-short b vb))

-- ---- the writing

-- the first value of all
abbrev first_of : List ℤ → List ℤ → ℤ
first_of va vb = get_or (va ++ vb) 0 (pos 0)

first-second : (va vb : List ℤ) → length va ≡ 0 → get_or vb 0 (pos 0) ≡ get_or (va ++ vb) 0 (pos 0)
first-second [] vb h = refl
first-second (v ∷ va) vb h = let z : ⊥ = omega arith in absurd z

module _ {ea va eb vb e₀ v₀ : List ℤ} (j : JoinableTwo ea va eb vb e₀ v₀) where
  valid_a : Valid (runs_of ea va)
  valid_a = runs-rise 0 ea va (rising ea j.valid_a)

  valid_b : Valid (runs_of eb vb)
  valid_b = runs-rise 0 eb vb (rising eb j.valid_b)

  many_a : length (runs_of ea va) ≡ length ea
  many_a = length_runs ea va j.paired_a

  many_b : length (runs_of eb vb) ≡ length eb
  many_b = length_runs eb vb j.paired_b

  size_a : to_nat (length_of_ends ea) ≡ length_of (runs_of ea va)
  size_a = ap to_nat (length_of-ends ea va j.valid_a j.paired_a)

  size_b : to_nat (length_of_ends eb) ≡ length_of (runs_of eb vb)
  size_b = ap to_nat (length_of-ends eb vb j.valid_b j.paired_b)

  -- nothing is written
  pub two_none : length ea + length eb ≡ 0 → Filled (encode (shown (runs_of ea va ∷ runs_of eb vb ∷ []))) e₀ e₀ v₀ v₀ 0
  unfolding runs_of shown dense dense_from encode encode_from
  two_none h = none ea eb (omega arith) (omega arith)
    where
      none : (es fs : List ℤ) → length es ≡ 0 → length fs ≡ 0 → Filled (encode (shown (runs_of es va ∷ runs_of fs vb ∷ []))) e₀ e₀ v₀ v₀ 0
      none [] [] p q = fill_none e₀ v₀
      none (e ∷ es) fs p q = let z : ⊥ = omega arith in absurd z
      none [] (f ∷ fs) p q = let z : ⊥ = omega arith in absurd z

  -- the first, and what is written then
  module _ {first : ℤ} (ef : first ≡ first_of va vb) where
    started : Merging [] (first_of va vb) e₀ v₀ e₀ v₀ (record { at = 0; last = first })
    started = rw ef (merge_start (first_of va vb) e₀ v₀)

    behind-first : Behind [] (first_of va vb) e₀ v₀ e₀ v₀ (record { at = 0; last = first }) ea va
    behind-first = record {
      merging = started;
      started = λ n some. get_or-append va vb (pos 0) 0 (omega (arith, j.paired_a));
      room_ends = omega (arith, j.room_ends);
      room_values = omega (arith, j.room_values);
    }

    pub two-first : Appendable 0 0 ea va e₀ v₀ (record { at = 0; last = first })
    unfolding length_of_ends
    two-first = record {
      movable = record { rising = rising ea j.valid_a; fitting = omega (arith, size_a, j.fitting); paired = j.paired_a };
      done = [];
      first = first_of va vb;
      e₀ = e₀;
      v₀ = v₀;
      behind = behind-first;
    }

    pub after_first : {e v : List ℤ} {w : Writer} → Appended 0 0 ea va e₀ e v₀ v (record { at = 0; last = first }) w
        → Merging (encode (dense (runs_of ea va))) (first_of va vb) e₀ v₀ e v w
    after_first p = rw (push_first (runs_of ea va) (runs_of eb vb) valid_a valid_b) at (p [] (first_of va vb) e₀ v₀ behind-first)

  -- the second
  module _ {e v : List ℤ} {w : Writer} (m : Merging (encode (dense (runs_of ea va))) (first_of va vb) e₀ v₀ e v w) {x : ℤ} {n : ℕ} (en : n ≡ to_nat x)
      (ex : x ≡ length_of_ends ea) where
    offset : n ≡ length_of (runs_of ea va)
    offset = en ∙ ap to_nat ex ∙ size_a

    behind-second : Behind (encode (dense (runs_of ea va))) (first_of va vb) e₀ v₀ e v w eb vb
    behind-second =
        let few = first-few (runs_of ea va) (runs_of eb vb) valid_a valid_b in
        record {
          merging = m;
          started = λ z some.
              let l : length va ≡ 0 = omega (
                arith,
                encode-none (dense (runs_of ea va)) z,
                length-dense (runs_of ea va) valid_a,
                runs-short (runs_of ea va) valid_a,
                many_a,
                j.paired_a,
              ) in
              sym (first-second va vb l);
          room_ends = omega (arith, few, many_a, j.room_ends, m.long_ends);
          room_values = omega (arith, few, many_a, j.room_values, m.long_values);
        }

    pub two-second : Appendable 0 n eb vb e v w
    unfolding length_of_ends
    two-second = record {
      movable = record { rising = rising eb j.valid_b; fitting = omega (arith, size_b, offset, j.fitting); paired = j.paired_b };
      done = encode (dense (runs_of ea va));
      first = first_of va vb;
      e₀ = e₀;
      v₀ = v₀;
      behind = behind-second;
    }

    module _ {e' v' : List ℤ} {q : Writer} (p : Appended 0 n eb vb e e' v v' w q) where
      pub after-second : Merging (encode (shown (runs_of ea va ∷ runs_of eb vb ∷ []))) (first_of va vb) e₀ v₀ e' v' q
      after-second =
          let g : Merging (push_all (encode (dense (runs_of ea va))) (moved 0 n (runs_of eb vb))) (first_of va vb) e₀ v₀ e' v' q = p (encode (dense (runs_of ea va)))
          (first_of va vb) e₀ v₀ behind-second in
          rw (offset, push_second (runs_of ea va) (runs_of eb vb) valid_a valid_b) at g

      -- the last run stands within the buffer
      pub two-within : (length ea + length eb ≡ 0 → ⊥) → q.at < length e₀
      two-within h =
          omega (arith, after-second.at_last, joined-few (runs_of ea va) (runs_of eb vb) valid_a valid_b, many_a, many_b, j.room_ends, h)

      pub two-end : (length ea + length eb ≡ 0 → ⊥) → Filled (encode (shown (runs_of ea va ∷ runs_of eb vb ∷ []))) e₀ e' v₀ v' (q.at + 1)
      two-end h = merge_end after-second (joined-some (runs_of ea va) (runs_of eb vb) valid_a valid_b (omega (arith, many_a, many_b, h)))
