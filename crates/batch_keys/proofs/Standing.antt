-- Where a key stands: at most at one position where no key is given twice.
-- Assumes nothing.
use Prim.Native.Nat.{ℕ, ◌≤◌, ◌<◌}
use mathlib.Core.Bool.{Bool, true, false, ◌&&◌}
use Rattle.std.specs.Prelude.{Some, None}
use mathlib.Core.List.{List}
use mathlib.Core.Path.{◌≡◌, sym, ◌∙◌}
use native.Mathlib.Omega.{arith}
use lib.Dec.{eqb, ltb}
use lib.ListN.{length, get_or}
use borrow.Author.Tests.{eqb-true, eq-eqb, ltb-true, lt-ltb, le-ltb}
use Rattle.num.proofs.Tests.{both_true}
use Rattle.column.specs.Paper.{answers}
use Rattle.batch_index.specs.Calls.{lowest}
use Rattle.batch_index.proofs.Lowest.{no_test, lowest_is}
use Rattle.batch_keys.specs.Calls.{position}

-- ---- a key looked for at one position

module _ {r : Bool} (ks : List ℕ) (i key : ℕ) (e : r ≡ ltb i (length ks) && eqb (get_or ks i 0) key) where
  pub stands : r ≡ true → (i < length ks) × (get_or ks i 0 ≡ key)
  stands t =
      let b = both_true (ltb i (length ks)) (eqb (get_or ks i 0) key) (sym e ∙ t) in
      (ltb-true i (length ks) b.0, eqb-true (get_or ks i 0) key b.1)

  pub stands-not : r ≡ false → i < length ks → get_or ks i 0 ≡ key → ⊥
  stands-not f h k = no_test (e ∙ rw (lt-ltb i (length ks) h, eq-eqb (get_or ks i 0) key k)) f

-- ---- no key is given twice

abbrev pub Apart : List ℕ → Type 0
Apart ks = (i j : ℕ) → i < j → j < length ks → get_or ks i 0 ≡ get_or ks j 0 → ⊥

-- the key looked for at one position
pub apart_found : {r : Bool} (ks : List ℕ) (i key : ℕ) → Apart ks → r ≡ ltb i (length ks) && eqb (get_or ks i 0) key → r ≡ true → i ≡ lowest key ks
apart_found ks i key a e t = let s = stands ks i key e t in lowest_is key ks i (omega arith) (λ j l k. a j i l s.0 (k ∙ sym s.1)) (λ l. s.1)

-- ---- the answer

module _ (ks : List ℕ) (key : ℕ) {r : ℕ} (e : r ≡ lowest key ks) where
  pub position-found : r < length ks → answers (Some r) ≡ position ks key
  unfolding position
  position-found h = rw (← e, lt-ltb r (length ks) h)

  pub position-none : length ks ≤ r → answers None ≡ position ks key
  unfolding position
  position-none h = rw (← e, le-ltb r (length ks) h)
