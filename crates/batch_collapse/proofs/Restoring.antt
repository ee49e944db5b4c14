-- Entries put aside in a scratch buffer after its first n, and put back into the buffer that they came from.
-- Assumes nothing.
use Rattle.std.specs.Prelude.{Some}
use Prim.Native.Nat.{ℕ, ◌+◌, ◌*◌, ◌≤◌}
use mathlib.Core.Bool.{Bool}
use mathlib.Core.List.{List, ◌++◌}
use mathlib.Core.Path.{◌≡◌, ap, ap₂, sym, ◌∙◌}
use native.Mathlib.Omega.{arith}
use lib.IntN.{ℤ}
use lib.ListN.{length, get_or, take, drop, length-append, length-drop, take-append-drop}
use lib.Seq.{drop-drop, drop_at, take_at, length-take-le}
use Rattle.column.specs.Runs.{over}
use Rattle.column.proofs.Buffer.{length_over, drop-over}
use Rattle.batch.specs.Batch.{batch}
use Rattle.batch_collapse.specs.Calls.{collapse_runs, members, renamed}
use Rattle.batch_collapse.specs.Workers.{Grouped, member_runs, FoldRoom, Folded, FilledGroup}
use Rattle.batch_collapse.proofs.Folding.{most_few, group_few}

-- the first n of a buffer, written over what came after it
over-kept : (n : ℕ) (x₀ x : List ℤ) → n ≤ length x₀ → drop n x ≡ drop n x₀ → over (take n x₀) x ≡ x₀
unfolding over
over-kept n x₀ x h e = rw (length-take-le n x₀ h) (ap (λ (l : List ℤ). take n x₀ ++ l) e ∙ take-append-drop n x₀)

-- x₀ and s₀ at first, s₁ with the entries put aside; x and s then, as far as is known
module _ (n runs : ℕ) (x₀ x s₀ s₁ s : List ℤ) (low : runs ≤ n) (in_Buffer : runs ≤ length x₀) (in-scratch : 2 * n ≤ length s₀)
    (aside : s₁ ≡ take n s₀ ++ over (take runs x₀) (drop n s₀)) where
  count : length (take runs x₀) ≡ runs
  count = length-take-le runs x₀ in_Buffer

  behind : drop n s₁ ≡ over (take runs x₀) (drop n s₀)
  behind = ap (drop n) aside ∙ drop_at (take n s₀) (over (take runs x₀) (drop n s₀)) n (length-take-le n s₀ (omega arith))

  pub aside_long : length s₁ ≡ length s₀
  aside_long =
      let k : length (take runs x₀) ≤ length (drop n s₀) = rw (count, length-drop) (omega arith) in
      ap length aside
      ∙ simp (length-append, length_over (take runs x₀) (drop n s₀) k, length-take-le n s₀ (let h : n ≤ length s₀ = omega arith in h), length-drop)
      (omega arith)

  module _ (back : drop n s ≡ drop n s₁) where
    -- the scratch buffer is as it was from 2 * n on
    pub aside_later : drop (2 * n) s ≡ drop (2 * n) s₀
    aside_later =
        let e : 2 * n ≡ n + n = omega arith in
        rw e
        (sym (drop-drop n n s)
        ∙ ap (drop n) (back ∙ behind)
        ∙ drop-over (take runs x₀) (drop n s₀) n (rw count low)
        ∙ drop-drop n n s₀)

    -- and the buffer as it was before the entries were put aside
    pub aside_back : drop runs x ≡ drop runs x₀ → over (take runs (drop n s)) x ≡ x₀
    unfolding over
    aside_back rest =
        ap (λ (l : List ℤ). over l x) (ap (take runs) (back ∙ behind) ∙ take_at (take runs x₀) (drop (length (take runs x₀)) (drop n s₀)) runs count)
        ∙ over-kept runs x₀ x in_Buffer rest

-- ---- a group: n entries of each scratch buffer are for its runs, and as many after them for what is put aside

module _ (ks os : List ℕ) (es vs : List ℤ) (nk : List ℕ) (first : ℕ) {together : Bool} (g : Grouped (batch ks os es vs) nk together)
    {e v s t : List ℤ} (q : FoldRoom (batch ks os es vs) nk first e v s t)
    {runs : ℕ} (er : runs ≡ member_runs (renamed (batch ks os es vs) nk) (get_or nk first 0)) where
  low : runs ≤ length es
  low = rw er (most_few ks os es vs nk g (get_or nk first 0))

  pub aside_room : ((runs ≤ length e) × (length es + runs ≤ length s)) × ((runs ≤ length v) × (length es + runs ≤ length t))
  aside_room = (
    (omega (arith, er, q.room_ends), omega (arith, low, q.scratch_ends)),
    (omega (arith, er, q.room_values), omega (arith, low, q.scratch_values)),
  )

  module _ {s₁ t₁ : List ℤ} (ae : s₁ ≡ take (length es) s ++ over (take runs e) (drop (length es) s))
      (av : t₁ ≡ take (length es) t ++ over (take runs v) (drop (length es) t)) where
    long_ends : length s₁ ≡ length s
    long_ends = aside_long (length es) runs e e s s₁ s low aside_room.0.0 q.scratch_ends ae

    long_values : length t₁ ≡ length t
    long_values = aside_long (length es) runs v v t t₁ t low aside_room.1.0 q.scratch_values av

    module _ (op : ℤ → ℤ → ℤ) (f : ℤ) {e₂ v₂ s₂ t₂ : List ℤ} {r : ℕ}
        (d : Folded (collapse_runs op (Some f) (members (renamed (batch ks os es vs) nk) (get_or nk first 0))) (length es)
        (member_runs (renamed (batch ks os es vs) nk) (get_or nk first 0)) e e₂ v v₂ s₁ s₂ t₁ t₂ r) where
      pub back-room : ((length es + runs ≤ length s₂) × (runs ≤ length e₂) × (r ≤ runs)) × ((length es + runs ≤ length t₂) ×
          (runs ≤ length v₂) × (r ≤ runs))
      back-room =
          let few : r ≤ runs = omega (arith, d.count, er, group_few ks os es vs nk g op (Some f) (get_or nk first 0)) in (
            (omega (arith, aside_room.0.1, d.long_scratch_ends, long_ends), omega (arith, aside_room.0.0, d.long_ends), few),
            (omega (arith, aside_room.1.1, d.long_scratch_values, long_values), omega (arith, aside_room.1.0, d.long_values), few),
          )

      pub group-filled : {e₃ v₃ : List ℤ} → e₃ ≡ over (take r s₂) (over (take runs (drop (length es) s₂)) e₂)
          → v₃ ≡ over (take r t₂) (over (take runs (drop (length es) t₂)) v₂)
          → FilledGroup (collapse_runs op (Some f) (members (renamed (batch ks os es vs) nk) (get_or nk first 0))) (2 * length es) e e₃ v v₃ s s₂ t t₂ r
      group-filled be bv =
          let re : drop runs e₂ ≡ drop runs e = rw er d.rest_ends in
          let rv : drop runs v₂ ≡ drop runs v = rw er d.rest_values in
          record {
            filled = record {
              count = d.count;
              ends = be ∙ ap₂ over d.front_ends (aside_back (length es) runs e e₂ s s₁ s₂ low aside_room.0.0 q.scratch_ends ae
                  d.back_ends re);
              values = bv ∙ ap₂ over d.front_values
                  (aside_back (length es) runs v v₂ t t₁ t₂ low aside_room.1.0 q.scratch_values av d.back_values rv);
            };
            scratch_ends = record {
              long = d.long_scratch_ends ∙ long_ends;
              later = aside_later (length es) runs e e₂ s s₁ s₂ low aside_room.0.0 q.scratch_ends ae d.back_ends;
            };
            scratch_values = record {
              long = d.long_scratch_values ∙ long_values;
              later = aside_later (length es) runs v v₂ t t₁ t₂ low aside_room.1.0 q.scratch_values av d.back_values;
            };
          }
