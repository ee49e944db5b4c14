-- Where wanted keys stand, by a search f in them that finds one of a key's positions, and the same for equal keys.
-- Assumes nothing.
use Prim.Native.Nat.{ℕ, ◌-◌, ◌≤◌, ◌<◌}
use mathlib.Core.List.{List}
use mathlib.Core.Path.{◌≡◌, sym, ap, ◌∙◌}
use native.Mathlib.Omega.{arith}
use lib.Dec.{eqb}
use lib.ListN.{length, get_or, set}
use lib.Seq.{get_or-set_same, get_or-set_other}
use borrow.Author.Tests.{eqb-true, eqb-false}
use Rattle.num.proofs.Tests.{by-test}
use Rattle.batch_index.specs.Calls.{lowest}
use Rattle.batch_index.specs.Workers.{NextPosition, FoundOnce}
use Rattle.batch_index.proofs.Lowest.{skip-start, next-found, next-earlier, next-lowest}
use Rattle.batch_index.proofs.Table.{Position}

-- what a list holds at j, after it was changed at i
pub changed : (P : ℕ → ℕ → Type 0) (fs : List ℕ) (i v j : ℕ) → i < length fs → P i v → ((j ≡ i → ⊥) → P j (get_or fs j 0)) → P j (get_or (set fs i v) j 0)
changed P fs i v j h here other =
    by-test (eqb j i)
    (λ t. let e = eqb-true j i t in rw (e, get_or-set_same fs i v 0 h) here)
    (λ t. let d = eqb-false j i t in rw (get_or-set_other fs i j v 0 d) (other d))

-- ---- the positions of keys, from the last to the one at i

module _ (f : ℕ → ℕ) (ks ws : List ℕ) where
  pub record Noted (fs : List ℕ) (i : ℕ) : Type 0 where
    pub within : i ≤ length ks
    pub next : (j : ℕ) → j < length ws → f (get_or ws j 0) ≡ j → NextPosition (get_or ws j 0) ks i (get_or fs j 0)

  pub note_end : {fs : List ℕ} {i : ℕ} → i ≤ 0 → Noted fs i → FoundOnce f ks ws fs
  note_end {i = i} h s =
      record { own = λ j l o. let e : i ≡ 0 = omega arith in let p = s.next j l o in next-lowest (get_or ws j 0) ks (rw e at p) }

  module _ (sound : (key : ℕ) → Position key ws (f key)) where
    stands : {key w : ℕ} → w ≡ f key → w < length ws → get_or ws w 0 ≡ key
    stands {key} {w} e h = ap (λ (x : ℕ). get_or ws x 0) e ∙ (sound key).here (rw (sym e) h)

    -- one more key: w is where it is found
    module _ {fs : List ℕ} {i w : ℕ} (s : Noted fs i) (h : 0 < i) (e : w ≡ f (get_or ks (i - 1) 0)) where
      pub note-found : w < length ws → length ws ≤ length fs → Noted (set fs w (i - 1)) (i - 1)
      note-found a r =
          record {
            within = omega (arith, s.within);
            next = λ j m o. changed (λ x v. f (get_or ws x 0) ≡ x → NextPosition (get_or ws x 0) ks (i - 1) v) fs w (i - 1) j (omega arith)
                (λ p. next-found (get_or ws w 0) ks (skip-start (get_or ws w 0) ks (omega (arith, s.within))) (sym (stands e a)))
                (λ d p. next-earlier (get_or ws j 0) ks (omega arith) (λ q. d (sym (e ∙ ap f q ∙ p))) (s.next j m p))
                o;
          }

    -- the position of a key
    pub found-position : {fs : List ℕ} {key w : ℕ} → FoundOnce f ks ws fs → w ≡ f key → w < length ws → get_or fs w 0 ≡ lowest key ks
    found-position {fs} {key} {w} s e h = let k = stands e h in s.own w h (ap f k ∙ sym e) ∙ ap (λ (x : ℕ). lowest x ks) k

  -- ---- each is given its own, those before i have it

  pub record Shared (fs : List ℕ) (i : ℕ) : Type 0 where
    pub once : FoundOnce f ks ws fs
    pub all : (j : ℕ) → j < i → get_or fs j 0 ≡ lowest (get_or ws j 0) ks
