-- The first double key, by blocks: f is a search in the keys from n up to m that finds one of a key's positions, and the same for equal keys.
-- Assumes nothing.
use Prim.Native.Nat.{ℕ, ◌+◌, ◌-◌, ◌≤◌, ◌<◌, min}
use mathlib.Core.Bool.{true}
use mathlib.Core.List.{List}
use mathlib.Core.Path.{◌≡◌, sym, ap, ◌∙◌}
use native.Mathlib.Omega.{arith}
use lib.Dec.{eqb, ltb}
use lib.ListN.{length, get_or, drop, length-take, length-drop}
use lib.Seq.{get_or-take, get_or-drop}
use borrow.Author.Tests.{eqb-true, eqb-false, ltb-true, ltb-false}
use Rattle.num.proofs.Tests.{by-test}
use Rattle.batch_index.specs.Workers.{
  doubled,
  FirstDouble,
  part,
  Own,
  Alone,
  Limited,
  Entered,
  looked_up,
  NextLimit,
  CheckedBlock,
  PassedRest,
  PassedBlock,
}
use Rattle.batch_index.proofs.Doubles.{among_none, among_at}
use Rattle.batch_index.proofs.Table.{Position, looked_up-position}

pub part_length : (n m : ℕ) (ks : List ℕ) → n ≤ m → m ≤ length ks → length (part n m ks) ≡ m - n
part_length n m ks h l = simp (length-take, length-drop) (omega arith)

module _ (ks : List ℕ) where
  doubled_at : (i j : ℕ) → j < i → i < length ks → get_or ks i 0 ≡ get_or ks j 0 → doubled ks i ≡ true
  doubled_at i j h l e = among_at (get_or ks i 0) ks i j h (omega arith) e

  alone_less : {i r s : ℕ} → s ≤ r → Alone ks i r → Alone ks i s
  alone_less h a j l k = a j l (omega arith)

  limited-same : {limit : ℕ} → Limited ks limit limit
  limited-same = record { within = omega arith; here = λ h. let z : ⊥ = omega arith in absurd z }

  -- the lower of a limit and another position, at which a key stands before, too
  limited-min : {limit r s t : ℕ} → Limited ks limit r → t ≡ min s r → (s < limit → doubled ks s ≡ true) → Limited ks limit t
  limited-min {limit} {r} {s} {t} l e d =
      record {
        within = omega (arith, l.within);
        here = λ h. by-test (ltb s r)
            (λ x. let z : t ≡ s = omega (arith, ltb-true s r x) in rw z (d (omega arith)))
            (λ x. let z : t ≡ r = omega (arith, ltb-false s r x) in rw z (l.here (omega arith)));
      }

  limited-more : {limit r s : ℕ} → Limited ks limit r → Limited ks r s → Limited ks limit s
  limited-more {limit} {r} {s} a b =
      record {
        within = omega (arith, a.within, b.within);
        here = λ h. by-test (ltb s r)
            (λ x. b.here (ltb-true s r x))
            (λ x. let z : s ≡ r = omega (arith, ltb-false s r x, b.within) in rw z (a.here (omega arith)));
      }

  -- the keys of the block before i are entered
  pub record Entering (f : ℕ → ℕ) (n m limit r i : ℕ) : Type 0 where
    pub begun : n ≤ i
    pub ended : i ≤ m
    pub limited : Limited ks limit r
    pub single : (j : ℕ) → n ≤ j → (k : ℕ) → j < k → k < i → k < r → get_or ks k 0 ≡ get_or ks j 0 → ⊥
    pub known : (j : ℕ) → n ≤ j → j < i → (Own f ks n j → ⊥) → Alone ks j r

  -- each key after the block is looked up, those before i have been
  pub record Resting (f : ℕ → ℕ) (n m i : ℕ) : Type 0 where
    pub begun : m ≤ i
    pub other : (j : ℕ) → m ≤ j → j < i → m - n ≤ f (get_or ks j 0)

  module _ (f : ℕ → ℕ) {n m : ℕ} (nm : n ≤ m) (ml : m ≤ length ks) (sound : (key : ℕ) → Position key (part n m ks) (f key)) where
    -- a key that is found stands there
    pub found_at : (key : ℕ) → f key < m - n → key ≡ get_or ks (n + f key) 0
    found_at key h =
        sym ((sound key).here (rw (part_length n m ks nm ml) h)) ∙ get_or-take (m - n) (drop n ks) (f key) 0 h ∙ get_or-drop n ks (f key) 0

    -- ---- the keys after it

    module _ {i : ℕ} (s : Resting f n m i) where
      pub resting-found : {limit at : ℕ} → i < limit → limit ≤ length ks → at ≡ f (get_or ks i 0) → at < m - n → PassedRest f ks n m limit i
      resting-found {limit} l x e k =
          record {
            limited = record {
              within = omega arith;
              here = λ y. doubled_at i (n + f (get_or ks i 0)) (omega (arith, s.begun)) (omega arith) (found_at (get_or ks i 0) (omega arith));
            };
            other = s.other;
          }

  -- ---- the key at i is entered, and found at w of the block

  module _ {n m : ℕ} (nm : n ≤ m) (ml : m ≤ length ks) (filter table table' : List ℕ) {limit r i w : ℕ} (h : i < m)
      (c : Entering (looked_up table filter (part n m ks)) n m limit r i) (e : Entered filter (part n m ks) (i - n) table table' w) where
    abbrev block : List ℕ
    block = part n m ks

    abbrev f : ℕ → ℕ
    f key = looked_up table filter block key

    abbrev f' : ℕ → ℕ
    f' key = looked_up table' filter block key

    here : get_or block (i - n) 0 ≡ get_or ks i 0
    here =
        let z : n + (i - n) ≡ i = omega (arith, c.begun) in
        get_or-take (m - n) (drop n ks) (i - n) 0 (omega (arith, c.begun)) ∙ get_or-drop n ks (i - n) 0 ∙ ap (λ (x : ℕ). get_or ks x 0) z

    found : w < m - n → f' (get_or ks i 0) ≡ w
    found l = sym (ap f' here) ∙ sym (e.here (rw (part_length n m ks nm ml) l))

    -- a key that was found at its own position still is
    still : (j : ℕ) → j < m → (Own f' ks n j → ⊥) → Own f ks n j → ⊥
    still j l o q =
        let k : f (get_or ks j 0) < length block = rw (part_length n m ks nm ml) (omega arith) in
        o (ap (λ (x : ℕ). n + x) (e.kept filter (get_or ks j 0) k) ∙ q)

    -- and another than the one at i, unless that is found before it
    other : i ≤ n + w → i < r → (j : ℕ) → n ≤ j → j < i → get_or ks i 0 ≡ get_or ks j 0 → ⊥
    other a b j l k q =
        by-test (eqb (n + f (get_or ks j 0)) j)
        (λ t. let o = eqb-true (n + f (get_or ks j 0)) j t in
        let g : f (get_or ks i 0) ≡ f (get_or ks j 0) = ap f q in
        let s : f (get_or ks i 0) < length block = rw (part_length n m ks nm ml) (omega arith) in
        by-test (ltb w (m - n))
        (λ u. let z : ⊥ = omega (arith, found (ltb-true w (m - n) u), e.kept filter (get_or ks i 0) s) in z)
        (λ u. let v : length block ≤ w = rw (part_length n m ks nm ml) (ltb-false w (m - n) u) in
        let z : ⊥ = omega (arith, sym (ap f here) ∙ sym (e.none v), s) in z))
        (λ t. c.known j l k (eqb-false (n + f (get_or ks j 0)) j t) i k b q)

    pub entering_found : {s : ℕ} → n + w < i → s ≡ min i r → CheckedBlock f' ks n m limit s
    entering_found l q =
        let v : f' (get_or ks i 0) ≡ w = found (omega arith) in
        record {
          limited = limited-min c.limited q
              (λ x. doubled_at i (n + f' (get_or ks i 0)) (omega arith) (omega arith)
              (found_at f' nm ml (looked_up-position table' filter block) (get_or ks i 0) (omega arith)));
          single = λ j a b k d x y. c.single j a k d (omega arith) (omega arith);
          known = λ x j a b o. let z : ⊥ = omega arith in absurd z;
        }

    -- with a limit that is not above the one before it
    next : {s : ℕ} → i ≤ n + w → s ≤ r → Limited ks limit s → ((Own f' ks n i → ⊥) → Alone ks i s) → Entering f' n m limit s (i + 1)
    next {s} l y t o =
        record {
          begun = omega (arith, c.begun);
          ended = omega arith;
          limited = t;
          single = λ j a k b d x q. by-test (eqb k i)
              (λ u. let z = eqb-true k i u in other l (omega arith) j a (omega arith) (rw z at q))
              (λ u. c.single j a k b (omega (arith, eqb-false k i u)) (omega arith) q);
          known = λ j a b p. by-test (eqb j i)
              (λ u. let z = eqb-true j i u in rw z (o (rw z at p)))
              (λ u. alone_less y (c.known j a (omega (arith, eqb-false j i u)) (still j (omega arith) p)));
        }

    own : i ≤ n + w → n + w ≤ i → Own f' ks n i
    own a b = let v : f' (get_or ks i 0) ≡ w = found (omega arith) in omega arith

    limit_next : {s : ℕ} → i ≤ n + w → limit ≤ length ks → NextLimit ks i r s → Entering f' n m limit s (i + 1)
    limit_next {s} a x o =
        let p = o.position in
        let q = o.lower in
        next a (omega arith)
        (limited-min c.limited q (λ y. doubled_at o.next i (omega (arith, p.after)) (omega arith) (p.here (omega arith))))
        (λ z k u v g. eqb-false (get_or ks i 0) (get_or ks k 0) (p.before k (omega arith) (omega arith)) (sym g))

    pub entering_next : {s : ℕ} → i ≤ n + w → limit ≤ length ks → (n + w ≤ i → s ≡ r) → (i < n + w → NextLimit ks i r s)
        → Entering f' n m limit s (i + 1)
    entering_next a x p q =
        by-test (ltb i (n + w)) (λ t. limit_next a x (q (ltb-true i (n + w) t)))
        (λ t. let b = ltb-false i (n + w) t in rw (p b) (next a (omega arith) c.limited (λ o. absurd (o (own a b)))))

  -- ---- one block after another, those before n are passed

  pub record Passing (limit n : ℕ) : Type 0 where
    pub limited : Limited ks (length ks) limit
    pub single : (i : ℕ) → i < n → Alone ks i limit

  pub passing-start : Passing (length ks) 0
  passing-start = record { limited = limited-same; single = λ i h. let z : ⊥ = omega arith in absurd z }

  module _ {limit n : ℕ} (p : Passing limit n) where
    pub passing-next : {m r : ℕ} → PassedBlock ks n m limit r → Passing r m
    passing-next {m} {r} b =
        record {
          limited = limited-more p.limited b.limited;
          single = λ i h. by-test (ltb i n)
              (λ t. alone_less b.limited.within (p.single i (ltb-true i n t)))
              (λ t. b.single i (ltb-false i n t) h);
        }

    pub passing-end : limit ≤ n → FirstDouble ks limit
    passing-end h =
        record {
          within = p.limited.within;
          before = λ i l. among_none (get_or ks i 0) ks i (omega (arith, p.limited.within)) (λ j a e. p.single j (omega arith) i a l e);
          here = p.limited.here;
        }

  pub passing-last : {limit n r : ℕ} → Passing limit n → PassedBlock ks n limit limit r → FirstDouble ks r
  passing-last p b = passing-end (passing-next p b) b.limited.within
