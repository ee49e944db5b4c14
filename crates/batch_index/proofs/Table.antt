-- A table of the positions of keys: what is found in it for a key, whatever it holds.
-- Assumes nothing.
use Prim.Native.Nat.{ℕ, zero, suc, ◌+◌, ◌-◌, ◌≤◌, ◌<◌}
use mathlib.Core.Bool.{Bool, true, false, cond}
use mathlib.Core.List.{List}
use mathlib.Core.Path.{◌≡◌, refl, sym, ap, ◌∙◌}
use native.Mathlib.Omega.{arith}
use lib.Dec.{eqb, ltb}
use lib.ListN.{length, get_or, set, length-set}
use lib.Seq.{get_or-set_same, get_or-set_other}
use borrow.Author.Tests.{eqb-true, eq-eqb, ne_eqb, ltb-true, lt-ltb, le-ltb}
use Rattle.num.proofs.Tests.{by-test}
use Rattle.batch_index.specs.Workers.{mixed, place_of, in_filter, probed, looked_up, Put, Entered}

-- ---- places

-- ---- what is found

-- a position of the key, or how many keys there are
pub record Position (key : ℕ) (ks : List ℕ) (r : ℕ) : Type 0 where
  pub within : r ≤ length ks
  pub here : r < length ks → get_or ks r 0 ≡ key

none : (key : ℕ) (ks : List ℕ) → Position key ks (length ks)
none key ks = record { within = omega arith; here = λ h. let z : ⊥ = omega arith in absurd z }

if_position : {key : ℕ} {ks : List ℕ} {m n : ℕ} (t : Bool) → (t ≡ true → Position key ks m) → (t ≡ false → Position key ks n) → Position key ks
    (cond t m n)
if_position true p q = p refl
if_position false p q = q refl

probed-position : (n : ℕ) (table ks : List ℕ) (key x : ℕ) → Position key ks (probed n table ks key x)
unfolding probed
probed-position zero table ks key x = none key ks
probed-position (suc n) table ks key x =
    let at = get_or table (place_of (length table) (mixed x)) 0 in
    if_position (ltb at (length ks))
    (λ t. if_position (eqb (get_or ks at 0) key)
    (λ e. record { within = omega (arith, ltb-true at (length ks) t); here = λ h. eqb-true (get_or ks at 0) key e })
    (λ e. probed-position n table ks key (mixed x)))
    (λ t. none key ks)

pub looked_up-position : (table filter ks : List ℕ) (key : ℕ) → Position key ks (looked_up table filter ks key)
unfolding looked_up
looked_up-position table filter ks key =
    if_position (in_filter filter (mixed key)) (λ t. probed-position 32 table ks key (mixed key)) (λ t. none key ks)

module _ (table filter ks : List ℕ) (key : ℕ) {x : ℕ} (e : x ≡ mixed key) where
  pub looked_up-set : {r : ℕ} → in_filter filter x ≡ true → r ≡ probed 32 table ks key x → r ≡ looked_up table filter ks key
  unfolding looked_up
  looked_up-set t q = q ∙ rw (sym e, t)

  pub looked_up_unset : in_filter filter x ≡ false → length ks ≡ looked_up table filter ks key
  unfolding looked_up
  looked_up_unset t = rw (sym e, t)

-- ---- one slot after another: d of them are probed

pub record Probing (table ks : List ℕ) (key from x d : ℕ) : Type 0 where
  pub within : d ≤ 32
  pub same : probed 32 table ks key from ≡ probed (32 - d) table ks key x

module _ {table ks : List ℕ} {key from x d : ℕ} (p : Probing table ks key from x d) where
  pub probing_end : 32 ≤ d → length ks ≡ probed 32 table ks key from
  unfolding probed
  probing_end h = let e : 32 - d ≡ 0 = omega arith in sym (p.same ∙ rw e)

  -- the next number, its slot, and what that holds
  module _ {y slot at : ℕ} (l : d < 32) (ey : y ≡ mixed x) (es : slot ≡ place_of (length table) y) (e : at ≡ get_or table slot 0) where
    step : probed 32 table ks key from
        ≡ cond (ltb at (length ks)) (cond (eqb (get_or ks at 0) key) at (probed (32 - (d + 1)) table ks key y)) (length ks)
    unfolding probed
    step = let k : 32 - d ≡ suc (32 - (d + 1)) = omega arith in p.same ∙ rw (k, e, es, ey)

    pub probing_empty : length ks ≤ at → length ks ≡ probed 32 table ks key from
    probing_empty h = sym (step ∙ rw (le-ltb at (length ks) h))

    pub probing_found : at < length ks → get_or ks at 0 ≡ key → at ≡ probed 32 table ks key from
    probing_found h k = sym (step ∙ rw (lt-ltb at (length ks) h, eq-eqb (get_or ks at 0) key k))

    pub probing_next : at < length ks → (get_or ks at 0 ≡ key → ⊥) → Probing table ks key from y (d + 1)
    probing_next h k = record { within = omega arith; same = step ∙ rw (lt-ltb at (length ks) h, ne_eqb (get_or ks at 0) key k) }

-- ---- a position in an empty slot

module _ (table ks : List ℕ) (s v : ℕ) (empty : length ks ≤ get_or table s 0) where
  -- a slot that holds a position does so still
  held : (slot : ℕ) → get_or table slot 0 < length ks → get_or (set table s v) slot 0 ≡ get_or table slot 0
  held slot h =
      get_or-set_other table s slot v 0
      (λ e. let q : get_or table slot 0 ≡ get_or table s 0 = ap (λ (x : ℕ). get_or table x 0) e in let z : ⊥ = omega arith in z)

  probed-kept : (n key x : ℕ) → probed n table ks key x < length ks → probed n (set table s v) ks key x ≡ probed n table ks key x
  unfolding probed
  probed-kept zero key x h = let z : ⊥ = omega arith in absurd z
  probed-kept (suc n) key x h =
      let slot = place_of (length table) (mixed x) in
      let at = get_or table slot 0 in
      by-test (ltb at (length ks))
      (λ t. rw (length-set table s v, held slot (ltb-true at (length ks) t), t)
      (by-test (eqb (get_or ks at 0) key) (λ u. rw u) (λ u. rw u (probed-kept n key (mixed x) (rw (t, u) at h)))))
      (λ t. let g : length ks < length ks = rw t at h in let z : ⊥ = omega arith in absurd z)

  pub looked_up-kept : (filter : List ℕ) (key : ℕ) → looked_up table filter ks key < length ks
      → looked_up (set table s v) filter ks key ≡ looked_up table filter ks key
  unfolding looked_up
  looked_up-kept filter key h =
      by-test (in_filter filter (mixed key)) (λ t. rw t (probed-kept 32 key (mixed key) (rw t at h))) (λ t. rw t)

-- the same slots are probed, whatever an empty one is given
pub record Seeking (table ks : List ℕ) (key from x d : ℕ) : Type 0 where
  pub same : Probing table ks key from x d
  pub given : (s v : ℕ) → length ks ≤ get_or table s 0 → Probing (set table s v) ks key from x d

-- the next number, its slot, and what that holds
module _ {table ks : List ℕ} {key from x d : ℕ} (q : Seeking table ks key from x d) {y slot at : ℕ} (l : d < 32) (ey : y ≡ mixed x)
    (es : slot ≡ place_of (length table) y) (e : at ≡ get_or table slot 0) where
  slot_still : (s v : ℕ) → slot ≡ place_of (length (set table s v)) y
  slot_still s v = rw (length-set table s v) es

  pub seeking_next : at < length ks → (get_or ks at 0 ≡ key → ⊥) → Seeking table ks key from y (d + 1)
  seeking_next h k =
      record {
        same = probing_next q.same l ey es e h k;
        given = λ s v m. probing_next (q.given s v m) l ey (slot_still s v) (e ∙ sym (held table ks s v m slot (rw (sym e) h))) h k;
      }

  pub seeking_put : {i : ℕ} → length ks ≤ at → slot < length table → i < length ks → get_or ks i 0 ≡ key → i ≡ probed 32 (set table slot i) ks key from
  seeking_put {i} h s m k =
      probing_found (q.given slot i (rw (sym e) h)) l ey (slot_still slot i) (sym (get_or-set_same table slot i 0 s)) m k

-- ---- a key is put into a table, or found in it

module _ {ks : List ℕ} (table : List ℕ) {key from : ℕ} where
  pub put_full : length ks ≡ probed 32 table ks key from → Put ks key from table table (length ks)
  put_full q = record { within = omega arith; here = λ h. q; none = λ h. q; kept = λ f k h. refl }

  pub put_found : {at : ℕ} → at < length ks → at ≡ probed 32 table ks key from → Put ks key from table table at
  put_found h q = record { within = omega arith; here = λ l. q; none = λ l. let z : ⊥ = omega arith in absurd z; kept = λ f k l. refl }

  pub put_empty : (slot i : ℕ) → i < length ks → length ks ≤ get_or table slot 0 → i ≡ probed 32 (set table slot i) ks key from
      → Put ks key from table (set table slot i) i
  put_empty slot i h m q =
      record { within = omega arith; here = λ l. q; none = λ l. let z : ⊥ = omega arith in absurd z; kept = looked_up-kept table ks slot i m }

module _ (filter ks : List ℕ) (i : ℕ) (table table' : List ℕ) {x : ℕ} (e : x ≡ mixed (get_or ks i 0)) where
  pub entered_set : {r : ℕ} → in_filter filter x ≡ true → Put ks (get_or ks i 0) x table table' r → Entered filter ks i table table' r
  entered_set t p =
      record {
        within = p.within;
        here = λ h. looked_up-set table' filter ks (get_or ks i 0) e t (p.here h);
        none = λ h. looked_up-set table filter ks (get_or ks i 0) e t (p.none h);
        kept = p.kept;
      }

  pub entered_unset : in_filter filter x ≡ false → table' ≡ table → Entered filter ks i table table' (length ks)
  entered_unset t q =
      record {
        within = omega arith;
        here = λ h. looked_up_unset table' filter ks (get_or ks i 0) e t;
        none = λ h. looked_up_unset table filter ks (get_or ks i 0) e t;
        kept = λ f k h. rw q;
      }
