-- Links from each position of a key to the next, by a search f in a block that finds one of a key's positions, and the same for equal keys.
-- Assumes nothing.
use Prim.Native.Nat.{ℕ, ◌+◌, ◌-◌, ◌≤◌, ◌<◌}
use mathlib.Core.Bool.{Bool, true, false}
use mathlib.Core.List.{List}
use mathlib.Core.Path.{◌≡◌, refl, sym, ap, ◌∙◌}
use native.Mathlib.Omega.{arith}
use lib.Dec.{eqb, ltb, leb}
use lib.ListN.{length, get_or, set}
use lib.Seq.{get_or-set_same, get_or-set_other}
use borrow.Author.Tests.{eqb-true, eqb-false, eq-eqb, ltb-true, ltb-false, lt-ltb, le-ltb, leb-true, leb-false}
use Rattle.num.proofs.Tests.{by-test}
use Rattle.batch_index.specs.declared.inner.links.Links.{Links}
use Rattle.batch_index.specs.declared.inner.links.Member.{Member}
use Rattle.batch_index.specs.Workers.{doubled, NextPosition, part, capacity, dropped, CheckedEnd, FoundBefore, Marks, entry_position}
use Rattle.batch_index.specs.Workers.{Entry, Entries, Head, Chains, Listed, Linked, LinkedFrom, LinkLent}
use Rattle.batch_index.proofs.Lowest.{no_test, skip-start, next-found, next-end, next-earlier}
use Rattle.batch_index.proofs.Doubles.{among_none, among_at}
use Rattle.batch_index.proofs.Table.{Position}
use Rattle.batch_index.proofs.Wanted.{changed}
use Rattle.batch_index.proofs.Blocks.{found_at}

-- ---- entries

-- a later entry does not change the position of an earlier one
position-kept : (ks ps : List ℕ) (count v x : ℕ) → (x < capacity → x < count) → entry_position ks ps x ≡ entry_position ks (set ps count v) x
unfolding entry_position
position-kept ks ps count v x h =
    by-test (ltb x capacity)
    (λ t. let l = h (ltb-true x capacity t) in rw (get_or-set_other ps count x v 0 (λ z. let y : ⊥ = omega arith in y)))
    (λ t. rw t)

position_of_lem : (ks ps : List ℕ) (e : ℕ) → e < capacity → entry_position ks ps e ≡ get_or ps e 0
unfolding entry_position
position_of_lem ks ps e h = rw (lt-ltb e capacity h)

pub position-none : (ks ps : List ℕ) (e : ℕ) → capacity ≤ e → entry_position ks ps e ≡ length ks
unfolding entry_position
position-none ks ps e h = rw (le-ltb e capacity h)

-- a key that is found stands there
pub found-stands : (f : ℕ → ℕ) (ks : List ℕ) (n : ℕ) {m v key : ℕ} → n ≤ m → m ≤ length ks → ((k : ℕ) → Position k (part n m ks) (f k)) → v ≡ f key
    → v < m - n → key ≡ get_or ks (n + v) 0
found-stands f ks n {key = key} nm ml sound e h = found_at ks f nm ml sound key (omega arith) ∙ ap (λ (x : ℕ). get_or ks (n + x) 0) (sym e)

-- ---- the block's keys: from the last position to the one at i, with `count` entries

module _ (f : ℕ → ℕ) (ks : List ℕ) (n size : ℕ) where
  -- x is what is noted for the key of rank w
  pub record Rank (ps : List ℕ) (count i w x : ℕ) : Type 0 where
    pub some : x ≡ dropped → FoundBefore f ks n w
    pub none : (x ≡ dropped → ⊥) → (j : ℕ) → j < n → f (get_or ks j 0) ≡ w → ⊥
    pub next : (x ≡ dropped → ⊥) → f (get_or ks (n + w) 0) ≡ w → NextPosition (get_or ks (n + w) 0) ks i (entry_position ks ps x)
    pub made : x < capacity → x < count
    pub own : x < capacity → f (get_or ks (n + w) 0) ≡ w

  pub record Linking (fs ns ps : List ℕ) (count i : ℕ) : Type 0 where
    pub within : i ≤ length ks
    pub room : count ≤ capacity
    pub ranks : (w : ℕ) → w < size → Rank ps count i w (get_or fs w 0)
    pub entries : Entries ks ns ps count

  pub linking_start : {fs ns ps : List ℕ} → Marks f ks size n fs → Linking fs ns ps 0 (length ks)
  linking_start {fs} {ns} {ps} m = record {
    within = omega arith;
    room = omega arith;
    ranks = λ w h. let k = m.each w h in record {
      some = k.some;
      none = k.none;
      next = λ d o. rw (position-none ks ps (get_or fs w 0) k.unlinked)
          (next-end (get_or ks (n + w) 0) ks (skip-start (get_or ks (n + w) 0) ks (omega arith)) (omega arith));
      made = λ l. let z : ⊥ = omega (arith, k.unlinked) in absurd z;
      own = λ l. let z : ⊥ = omega (arith, k.unlinked) in absurd z;
    };
    entries = record { each = λ e h. let z : ⊥ = omega arith in absurd z };
  }

  -- the key before i is found at v
  module _ {fs ns ps : List ℕ} {count i v : ℕ} (s : Linking fs ns ps count i) (h : 0 < i) (e : v ≡ f (get_or ks (i - 1) 0)) where
    -- what is noted for another key
    other : {w x : ℕ} → (v ≡ w → ⊥) → Rank ps count i w x → Rank ps count (i - 1) w x
    other {w} d r = record {
      some = r.some;
      none = r.none;
      next = λ x o. next-earlier (get_or ks (n + w) 0) ks (omega arith) (λ q. d (e ∙ ap f q ∙ o)) (r.next x o);
      made = r.made;
      own = r.own;
    }

    -- one more entry
    module _ (a : v < size) (stands : get_or ks (i - 1) 0 ≡ get_or ks (n + v) 0) {head : ℕ} (eh : head ≡ get_or fs v 0) (d : head ≡ dropped → ⊥)
        (room : count < capacity) (rf : size ≤ length fs) (rn : capacity ≤ length ns) (rp : capacity ≤ length ps) where
      is-own : f (get_or ks (n + v) 0) ≡ v
      is-own = ap f (sym stands) ∙ sym e

      more : {w x : ℕ} → (v ≡ w → ⊥) → Rank ps count i w x → Rank (set ps count (i - 1)) (count + 1) (i - 1) w x
      more {w} {x} z r = let k = other z r in record {
        some = k.some;
        none = k.none;
        next = λ y o. rw (sym (position-kept ks ps count (i - 1) x k.made)) (k.next y o);
        made = λ l. let y = k.made l in omega arith;
        own = k.own;
      }

      last : Entry ks (set ps count (i - 1)) (count + 1) (i - 1) head
      last = let r = s.ranks v a in
          let p : NextPosition (get_or ks (n + v) 0) ks i (entry_position ks ps head) = rw eh (r.next (λ q. d (eh ∙ q)) is-own) in
          let q : i - 1 + 1 ≡ i = omega arith in
          let m : head < capacity → head < count = λ l. rw eh (r.made (rw eh at l)) in
          record {
            within = omega (arith, s.within);
            position = rw (sym (position-kept ks ps count (i - 1) head m), stands, q) p;
            made = λ l. let y = m l in omega arith;
          }

      before : {p x : ℕ} → Entry ks ps count p x → Entry ks (set ps count (i - 1)) (count + 1) p x
      before {p} {x} r = record {
        within = r.within;
        position = rw (sym (position-kept ks ps count (i - 1) x r.made)) r.position;
        made = λ l. let y = r.made l in omega arith;
      }

      pub linking-more : Linking (set fs v count) (set ns count head) (set ps count (i - 1)) (count + 1) (i - 1)
      linking-more = record {
        within = omega (arith, s.within);
        room = omega arith;
        ranks = λ w l. changed (λ y x. y < size → Rank (set ps count (i - 1)) (count + 1) (i - 1) y x) fs v count w (omega arith)
            (λ k. record {
              some = λ z. let y : ⊥ = omega arith in absurd y;
              none = λ z. (s.ranks v a).none (λ q. d (eh ∙ q));
              next = λ z o. rw (position_of_lem ks (set ps count (i - 1)) count room, get_or-set_same ps count (i - 1) 0 (omega arith))
                  (next-found (get_or ks (n + v) 0) ks (skip-start (get_or ks (n + v) 0) ks (omega (arith, s.within))) stands);
              made = λ z. omega arith;
              own = λ z. is-own;
            })
            (λ z k. more (λ q. z (sym q)) (s.ranks w k)) l;
        entries = record {
          each = λ x l. by-test (eqb x count)
              (λ t. let z = eqb-true x count t in
              rw (z, get_or-set_same ps count (i - 1) 0 (omega arith), get_or-set_same ns count head 0 (omega arith)) last)
              (λ t. let z = eqb-false x count t in
              rw (get_or-set_other ps count x (i - 1) 0 z, get_or-set_other ns count x head 0 z) (before (s.entries.each x (omega (arith, z)))));
        };
      }

  -- ---- all are linked

  module _ {m r : ℕ} (c : CheckedEnd f ks n m r) (es : r - n ≡ size) (ml : m ≤ length ks) (sound : (key : ℕ) → Position key (part n m ks) (f key))
      {fs ns ps : List ℕ} (rf : size ≤ length fs) (rn : capacity ≤ length ns) (rp : capacity ≤ length ps) {count i : ℕ} (s : Linking fs ns ps count i)
      (ei : i ≡ n) where
    nm : n ≤ m
    nm = omega (arith, c.after, c.within)

    module _ (p : ℕ) (a : n ≤ p) (b : p < r) (x : ℕ) (k : Rank ps count n (p - n) x) where
      ep : n + (p - n) ≡ p
      ep = omega arith

      -- where the key is its own, it does not stand in the block before it
      first-own : f (get_or ks p 0) ≡ p - n → (j : ℕ) → n ≤ j → j < p → get_or ks p 0 ≡ get_or ks j 0 → ⊥
      first-own o j h l e = let q : f (get_or ks p 0) ≡ f (get_or ks j 0) = ap f e in let z : ⊥ = omega (arith, c.low j h (omega arith)) in z

      -- one that is an entry
      module _ (l : x < capacity) where
        o : f (get_or ks p 0) ≡ p - n
        o = rw ep at (k.own l)

        nd : x ≡ dropped → ⊥
        nd z = let y : ⊥ = omega arith in y

        next : NextPosition (get_or ks p 0) ks n (get_or ps x 0)
        next = rw (ep, position_of_lem ks ps x l) at (k.next nd (k.own l))

        head-single : doubled ks p ≡ false
        head-single = among_none (get_or ks p 0) ks p (omega (arith, c.within))
            (λ j h e. by-test (ltb j n)
            (λ t. k.none nd j (ltb-true j n t) (ap f (sym e) ∙ o))
            (λ t. first-own o j (ltb-false j n t) h e))

        head-here : get_or ps x 0 ≡ p
        head-here = by-test (ltb (get_or ps x 0) p)
            (λ t. let u = ltb-true (get_or ps x 0) p t in
            absurd (first-own o (get_or ps x 0) next.after u (sym (next.here (omega (arith, c.within))))))
            (λ t. by-test (ltb p (get_or ps x 0))
            (λ u. no_test (eq-eqb (get_or ks p 0) (get_or ks p 0) refl) (next.before p a (ltb-true p (get_or ps x 0) u)))
            (λ u. omega (arith, ltb-false (get_or ps x 0) p t, ltb-false p (get_or ps x 0) u)))

      head-again : capacity ≤ x → doubled ks p ≡ true
      head-again l = by-test (eqb x dropped)
          (λ t. let g = k.some (eqb-true x dropped t) in
          let q = g.found in
          among_at (get_or ks p 0) ks p g.position (omega (arith, g.before)) (omega (arith, g.before, c.within))
          (let z : n + f (get_or ks g.position 0) ≡ p = omega arith in
          sym (found_at ks f nm ml sound (get_or ks g.position 0) (omega (arith, c.within)) ∙ ap (λ (y : ℕ). get_or ks y 0) z)))
          (λ t. by-test (eqb (f (get_or ks p 0)) (p - n))
          (λ u. let o = eqb-true (f (get_or ks p 0)) (p - n) u in
          let q = k.next (eqb-false x dropped t) (rw ep o) in
          let y : NextPosition (get_or ks p 0) ks n (length ks) = rw (ep, position-none ks ps x l) at q in
          no_test (eq-eqb (get_or ks p 0) (get_or ks p 0) refl) (y.before p a (omega (arith, c.within))))
          (λ u. let o = eqb-false (f (get_or ks p 0)) (p - n) u in
          let w = c.low p a b in
          let g : n + f (get_or ks p 0) < p = omega (arith, o) in
          among_at (get_or ks p 0) ks p (n + f (get_or ks p 0)) g (omega (arith, c.within))
          (found_at ks f nm ml sound (get_or ks p 0) (omega (arith, c.within)))))

      head : Head ks ps count p x
      head = record { made = k.made; here = head-here; single = head-single; again = head-again }

    pub linking_end : {l : Links} → l.from ≡ n → l.to ≡ r → l.count ≡ count → (l.linked ≡ true → n < r) → LinkedFrom n ks fs ns ps l
    linking_end {l} ef et ec h = record {
      known = record {
        ordered = omega (arith, c.after);
        within = omega (arith, c.within);
        heads = λ t. rw (ef, et, ec) record { each = λ p a b. head p a b (get_or fs (p - n) 0) (rw ei at (s.ranks (p - n) (omega arith))) };
        firsts = λ t. omega (arith, c.after);
        chains = record { entries = λ t. rw ec s.entries; nexts = λ t. rn; positions = λ t. rp };
      };
      begun = omega arith;
      some = λ t. rw et (h t);
    }

-- ---- none is linked

none-chains : {ks ns ps : List ℕ} {l : Links} → l.linked ≡ false → Chains ks ns ps l
none-chains e = record { entries = λ t. no_test t e; nexts = λ t. no_test t e; positions = λ t. no_test t e }

module _ {n : ℕ} {ks fs ns ps : List ℕ} {l : Links} (e : l.linked ≡ false) (a : l.from ≤ l.to) (b : l.to ≤ length ks) (h : l.from ≤ n) where
  none-known : Linked ks fs ns ps l
  none-known = record { ordered = a; within = b; heads = λ t. no_test t e; firsts = λ t. no_test t e; chains = none-chains e }

  pub none_from : LinkedFrom n ks fs ns ps l
  none_from = record { known = none-known; begun = h; some = λ t. no_test t e }

-- ---- reading them

module _ {ks ns ps : List ℕ} {l : Links} (c : Chains ks ns ps l) (t : l.linked ≡ true) {e x : ℕ} (h : e < l.count) (ex : x ≡ get_or ns e 0) where
  entry : Entry ks ps l.count (get_or ps e 0) x
  entry = rw ex ((c.entries t).each e h)

  pub entry_next : {p : ℕ} → x < capacity → p ≡ get_or ps x 0 → NextPosition (get_or ks (get_or ps e 0) 0) ks (get_or ps e 0 + 1) p
  entry_next a q = rw (q, sym (position_of_lem ks ps x a)) entry.position

  pub entry-last : capacity ≤ x → NextPosition (get_or ks (get_or ps e 0) 0) ks (get_or ps e 0 + 1) (length ks)
  entry-last a = rw (position-none ks ps x a) at entry.position

  pub next-listed : {m : Member} → x < capacity → m.entry ≡ x → m.at ≡ get_or ps x 0 → Listed ks ps l m
  next-listed a q p = record {
    made = λ u v. rw q (entry.made a);
    few = λ u v. rw q a;
    here = λ u v. rw (q, p) refl;
  }

pub last-listed : {ks ps : List ℕ} {l : Links} {m : Member} → length ks ≤ m.at → Listed ks ps l m
last-listed h = record {
  made = λ t u. let z : ⊥ = omega arith in absurd z;
  few = λ t u. let z : ⊥ = omega arith in absurd z;
  here = λ t u. let z : ⊥ = omega arith in absurd z;
}

-- it is enough to know it of linked keys
pub if_linked : {ks ps : List ℕ} {l : Links} {m : Member} → (l.linked ≡ true → Listed ks ps l m) → Listed ks ps l m
if_linked f = record { made = λ t. (f t).made t; few = λ t. (f t).few t; here = λ t. (f t).here t }

pub none-listed : {ks ps : List ℕ} {l : Links} {m : Member} → l.linked ≡ false → Listed ks ps l m
none-listed e = record { made = λ t. no_test t e; few = λ t. no_test t e; here = λ t. no_test t e }

module _ {ks fs ns ps : List ℕ} {l : Links} {i x : ℕ} (s : LinkedFrom i ks fs ns ps l) (t : l.linked ≡ true) (ex : x ≡ get_or fs (i - l.from) 0) where
  at_head : Head ks ps l.count i x
  at_head = rw ex ((s.known.heads t).each i s.begun (s.some t))

  pub head_doubled : {b : Bool} → b ≡ leb capacity x → b ≡ doubled ks i
  head_doubled e = by-test (leb capacity x)
      (λ u. e ∙ u ∙ sym (at_head.again (leb-true capacity x u)))
      (λ u. e ∙ u ∙ sym (at_head.single (leb-false capacity x u)))

  pub head_listed : {m : Member} → doubled ks i ≡ false → m.entry ≡ x → m.at ≡ i → Listed ks ps l m
  head_listed d q p =
      by-test (ltb x capacity)
      (λ u. let a = ltb-true x capacity u in
      record { made = λ y z. rw q (at_head.made a); few = λ y z. rw q a; here = λ y z. rw (q, p) (at_head.here a) })
      (λ u. no_test (at_head.again (ltb-false x capacity u)) d)

-- ---- what is lent stays lent

pub lent_same : {ks fs fs' ns ns' ps ps' : List ℕ} → LinkLent ks fs ns ps → length fs' ≡ length fs → length ns' ≡ length ns → length ps' ≡ length ps
    → LinkLent ks fs' ns' ps'
lent_same s f n p = record {
  room = λ h. let r = s.room (omega arith) in
      record { few = r.few; firsts = h; nexts = omega (arith, r.nexts); positions = omega (arith, r.positions) };
}
