-- The sequences of a key in two batches, and the loop that asks whether they fit together, key by key.
-- Assumes nothing.
use Prim.Native.Nat.{ℕ, ◌+◌, ◌≤◌}
use Rattle.std.specs.Prelude.{Option, Some, None, Result, ⊤, IsErrAnd}
use mathlib.Core.List.{List, [], ◌++◌}
use mathlib.Core.Path.{◌≡◌, refl, ap, ap₂, sym, ◌∙◌}
use lib.IntN.{ℤ}
use lib.ListN.{length, get_or, drop}
use Rattle.column.specs.declared.error.Refusal.{Refusal}
use Rattle.column.specs.Asking.{Question, shown_asked, each_from}
use Rattle.column.specs.Lists.{parts}
use Rattle.column.specs.Paper.{paper}
use Rattle.column.specs.Questions.{fits}
use Rattle.column.specs.Runs.{to_nat, length_of, length_of_ends}
use Rattle.column.proofs.Ends.{rising, runs-rise}
use Rattle.column.proofs.FirstNo.{each_next, each-refused, each-end}
use Rattle.column.proofs.Promised.{passed_on}
use Rattle.column.proofs.Rising.{Valid}
use Rattle.batch_index.specs.Calls.{lowest}
use Rattle.batch_keys.specs.Calls.{once}
use Rattle.batch.specs.declared.two.Joined.{Joined}
use Rattle.batch.specs.Batch.{Entry, batch, entries, find}
use Rattle.batch.specs.Workers.{ValidBatch}
use Rattle.batch.proofs.Entries.{find_is, column-length, part-valid}
use Rattle.batch.proofs.Getting.{found}
use Rattle.batch_concat.specs.Calls.{fit_keys}
use Rattle.batch_concat.proofs.Once.{NextKey, Following, follow-start, follow-within, follow-a, follow-b, follow-b-within, follow-next, follow-end}

-- ---- the sequence of a key

module _ (ks os : List ℕ) (es vs : List ℤ) (v : ValidBatch (batch ks os es vs)) (key : ℕ) where
  pub found-valid : Valid (find key (entries (batch ks os es vs)))
  found-valid = rw (found ks os es vs key refl v) (runs-rise 0 _ _ (rising _ (part-valid ks os es vs v (lowest key ks))))

  pub found-length : {at : ℕ} {p : List ℤ} {x : ℤ} → at ≡ lowest key ks → p ≡ get_or (parts os es) at [] → x ≡ length_of_ends p
      → to_nat x ≡ length_of (find key (entries (batch ks os es vs)))
  found-length ea ep ex =
      ap to_nat (ex ∙ ap length_of_ends (ep ∙ ap (λ (i : ℕ). get_or (parts os es) i []) ea) ∙ column-length ks os es vs v (lowest key ks))
      ∙ ap length_of (sym (find_is ks os es vs v key))

-- ---- key by key

-- 7, of a key
abbrev pub fit_key : List Entry → List Entry → ℕ → ℕ → Question
fit_key l r n k = fits (length_of (find k l) + length_of (find k r))

module _ (ka oa : List ℕ) (ea va : List ℤ) (kb ob : List ℕ) (eb vb : List ℤ) where
  abbrev l : List Entry
  l = entries (batch ka oa ea va)

  abbrev r : List Entry
  r = entries (batch kb ob eb vb)

  -- the keys before x fit
  pub record Asking (o : Option Joined) : Type 0 where
    pub n : ℕ
    pub follows : Following ka kb o n
    pub whole : fit_keys l r (once (ka ++ kb)) ≡ each_from (fit_key l r) n (drop n (once (ka ++ kb)))

  pub ask-start : {o : Option Joined} → NextKey ka kb 0 o → Asking o
  unfolding fit_keys
  ask-start k = record { n = 0; follows = follow-start ka kb k; whole = refl }

  module _ {o : Option Joined} (s : Asking o) where
    module _ {x : Joined} (h : o ≡ Some x) where
      -- its position in the second, or that of its end
      pub ask-b : x.b ≤ length kb
      ask-b = follow-b-within ka kb s.follows h

      module _ (v : ValidBatch (batch ka oa ea va)) (w : ValidBatch (batch kb ob eb vb)) {p q : List ℤ} {y z : ℤ} {a : Question}
          (ep : p ≡ get_or (parts oa ea) x.a []) (eq : q ≡ get_or (parts ob eb) x.b []) (ey : y ≡ length_of_ends p) (ez : z ≡ length_of_ends q)
          (ha : a ≡ fits (to_nat y + to_nat z)) where
        asked : a ≡ fit_key l r s.n (get_or (once (ka ++ kb)) s.n 0)
        asked =
            ha ∙ ap₂ (λ (i j : ℕ). fits (i + j)) (found-length ka oa ea va v (get_or (once (ka ++ kb)) s.n 0) (follow-a ka kb s.follows h) ep ey)
            (found-length kb ob eb vb w (get_or (once (ka ++ kb)) s.n 0) (follow-b ka kb s.follows h) eq ez)

        pub ask-next : {o' : Option Joined} → None ≡ a → NextKey ka kb (x.at + 1) o' → Asking o'
        ask-next y k = record {
          n = s.n + 1;
          follows = follow-next ka kb s.follows h k;
          whole = s.whole ∙ each_next (fit_key l r) s.n (once (ka ++ kb)) 0 (follow-within ka kb s.follows h) (sym (y ∙ asked));
        }

        pub ask-refused : (t : Result ⊤ Refusal) (f : Refusal) → IsErrAnd t (λ (z : Refusal). z ≡ f) → Some (paper f) ≡ a
            → shown_asked t ≡ fit_keys l r (once (ka ++ kb))
        ask-refused t f i n =
            ap shown_asked (passed_on t f i)
            ∙ sym (s.whole ∙ each-refused (fit_key l r) s.n (once (ka ++ kb)) 0 (follow-within ka kb s.follows h) (sym (n ∙ asked)))

    pub ask-end : o ≡ None → None ≡ fit_keys l r (once (ka ++ kb))
    ask-end h = sym (s.whole ∙ each-end (fit_key l r) s.n (once (ka ++ kb)) 0 (follow-end ka kb s.follows h))
