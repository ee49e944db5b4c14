-- Runs written into the rest of the same buffers, after those of an earlier call: what `&mut b[used..]` lends and brings home.
-- Assumes nothing.
use Prim.Native.Nat.{ℕ, ◌+◌, ◌-◌, ◌≤◌}
use mathlib.Core.List.{List, ◌++◌, append-nil}
use mathlib.Core.Path.{◌≡◌, ap, ap₂, sym, ◌∙◌}
use native.Mathlib.Omega.{arith}
use borrow.Rule.Slice.PartMut.{put_mid, Post-is}
use lib.IntN.{ℤ}
use lib.ListN.{length, take, drop, length-drop, length-append}
use lib.Seq.{take_all, drop-length}
use Rattle.column.specs.Runs.{Runs, ends_of, values_of, over, Filled}
use Rattle.column.proofs.Buffer.{over-rest}
use Rattle.column.proofs.Sequences.{length-ends, length-values, ends-append, values-append}

module _ {A : Type 0} where
  -- the rest is lent
  pub rest-lent : (n : ℕ) (l : List A) → take (length l - n) (drop n l) ≡ drop n l
  rest-lent n l = take_all (length l - n) (drop n l) (rw length-drop (omega arith))

  pub rest-length : (n : ℕ) (l : List A) → length (take (length l - n) (drop n l)) ≡ length l - n
  rest-length n l = ap length (rest-lent n l) ∙ length-drop n l

  -- and comes home
  pub rest_home : (n : ℕ) (l ys : List A) → n ≤ length l → put_mid n (length l - n) l ys ≡ take n l ++ ys
  rest_home n l ys h =
      ap (λ (r : List A). take n l ++ (ys ++ r)) (Post-is n (length l) l h ∙ drop-length l) ∙ ap (λ (r : List A). take n l ++ r) (append-nil ys)

  written_behind : (xs ys before now back : List A) (n : ℕ) → n ≡ length xs → n ≤ length now → now ≡ over xs before
      → back ≡ over ys (take (length now - n) (drop n now))
      → put_mid n (length now - n) now back ≡ over (xs ++ ys) before
  written_behind xs ys before now back n e h p q =
      rest_home n now back h
      ∙ ap (λ (r : List A). take n now ++ r) (q ∙ ap (over ys) (rest-lent n now))
      ∙ rw (e, p) (over-rest xs ys before)

module _ (rs ss : Runs) (e e₁ e₂ v v₁ v₂ : List ℤ) (n m : ℕ) where
  -- the runs of two calls, one after the other
  pub fill-behind : Filled rs e e₁ v v₁ n → Filled ss (take (length e₁ - n) (drop n e₁)) e₂ (take (length v₁ - n) (drop n v₁)) v₂ m → n ≤ length e₁
      → n ≤ length v₁
      → Filled (rs ++ ss) e (put_mid n (length e₁ - n) e₁ e₂) v (put_mid n (length v₁ - n) v₁ v₂) (n + m)
  fill-behind f g he hv = record {
    count = rw length-append (ap₂ ◌+◌ f.count g.count);
    ends = written_behind (ends_of rs) (ends_of ss) e e₁ e₂ n (f.count ∙ sym (length-ends rs)) he f.ends g.ends
        ∙ ap (λ (l : List ℤ). over l e) (sym (ends-append rs ss));
    values = written_behind (values_of rs) (values_of ss) v v₁ v₂ n (f.count ∙ sym (length-values rs)) hv f.values g.values
        ∙ ap (λ (l : List ℤ). over l v) (sym (values-append rs ss));
  }
