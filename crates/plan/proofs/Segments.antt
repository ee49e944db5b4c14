-- The segments of columns: one step after the other, as many as there are.
-- Assumes nothing.
use Prim.Native.Nat.{ℕ, zero, suc, ◌+◌, ◌≤◌, ◌<◌, min}
use Rattle.std.specs.Prelude.{Option, Some, None}
use mathlib.Core.List.{List, [], ◌∷◌}
use mathlib.Core.Path.{◌≡◌, refl, ap, sym, ◌∙◌}
use native.Mathlib.Omega.{arith}
use lib.ListN.{length}
use lib.Dec.{eqb}
use borrow.Author.Tests.{eqb-false, eq-eqb}
use Rattle.num.proofs.Tests.{by-test}
use Rattle.plan.specs.Calls.{Place, least, least_end, stepped_on, rests, indexes, stepped, segments_from}

-- the runs that are left
abbrev pub left : List Place → ℕ
left [] = 0
left (p ∷ ps) = length p.rest + left ps

-- ---- a step, and the end

pub segments-step : (n : ℕ) (ps : List Place) (e : ℕ) → least_end (rests ps) ≡ Some e
    → segments_from (suc n) ps ≡ record { end = e; indexes = indexes ps } ∷ segments_from n (stepped e ps)
unfolding segments_from
segments-step n ps e h = rw (h, segments_from)

pub segments-end : (n : ℕ) (ps : List Place) → least_end (rests ps) ≡ None → segments_from n ps ≡ []
unfolding segments_from
segments-end zero ps h = refl
segments-end (suc n) ps h = rw (h, segments_from)

few-step : (n : ℕ) (ps : List Place) (o : Option ℕ) → least_end (rests ps) ≡ o → ((e : ℕ) → length (segments_from n (stepped e ps)) ≤ n)
    → length (segments_from (suc n) ps) ≤ suc n
few-step n ps None h k = rw (segments-end (suc n) ps h) (omega arith)
few-step n ps (Some e) h k = rw (segments-step n ps e h) (omega (arith, k e))

pub segments-few : (n : ℕ) (ps : List Place) → length (segments_from n ps) ≤ n
unfolding segments_from
segments-few zero ps = omega arith
segments-few (suc n) ps = few-step n ps (least_end (rests ps)) refl (λ e. segments-few n (stepped e ps))

-- ---- each step leaves fewer runs

length-step : (e i : ℕ) (es : List ℕ) → length (stepped_on e i es).rest ≤ length es
length-step e i [] = omega arith
length-step e i (d ∷ ds) = by-test (eqb d e) (λ t. rw t (omega arith)) (λ t. rw t (omega arith))

left_step : (e : ℕ) (ps : List Place) → left (stepped e ps) ≤ left ps
left_step e [] = omega arith
left_step e (p ∷ ps) = omega (arith, length-step e p.index p.rest, left_step e ps)

-- the least of a column's current end and of what the others have
abbrev pub with_others : List ℕ → Option ℕ → Option ℕ
with_others [] o = o
with_others (d ∷ ds) o = Some (least d o)

pub least-cons : (es : List ℕ) (rs : List (List ℕ)) → least_end (es ∷ rs) ≡ with_others es (least_end rs)
least-cons [] rs = refl
least-cons (d ∷ ds) rs = refl

less_cons : (e i : ℕ) (es : List ℕ) (o : Option ℕ) (m m' : ℕ) → with_others es o ≡ Some e → (o ≡ Some e → m' < m) → m' ≤ m
    → length (stepped_on e i es).rest + m' < length es + m
less_cons e i [] o m m' h k l = omega (arith, k h)
less_cons e i (d ∷ ds) None m m' h k l = let q : d ≡ e = cc in rw (eq-eqb d e q) (omega arith)
less_cons e i (d ∷ ds) (Some x) m m' h k l =
    let q : min d x ≡ e = cc in
    by-test (eqb d e)
    (λ t. rw t (omega arith))
    (λ t. let n = eqb-false d e t in
    let y : x ≡ e = omega arith in
    rw t (omega (arith, k (ap Some y))))

pub left_less : (e : ℕ) (ps : List Place) → least_end (rests ps) ≡ Some e → left (stepped e ps) < left ps
left_less e [] h = absurd (let z : ◌≡◌ {A = ℕ} 0 1 = cc in omega arith)
left_less e (p ∷ ps) h =
    less_cons e p.index p.rest (least_end (rests ps)) (left ps) (left (stepped e ps)) (sym (least-cons p.rest (rests ps)) ∙ h) (left_less e ps)
    (left_step e ps)

-- ---- there is a next end where runs are left, and there alone

pub none_left : (ps : List Place) → left ps ≡ 0 → least_end (rests ps) ≡ None
none_left [] h = refl
none_left (p ∷ ps) h = least-cons p.rest (rests ps) ∙ spent p.rest (least_end (rests ps)) (omega arith) (none_left ps (omega arith))
  where
    spent : (es : List ℕ) (o : Option ℕ) → length es ≡ 0 → o ≡ None → with_others es o ≡ None
    spent [] o k e = e
    spent (d ∷ ds) o k e = absurd (let z : ⊥ = omega arith in z)

pub some_left : (ps : List Place) → 0 < left ps → (e : ℕ) × (least_end (rests ps) ≡ Some e)
some_left [] h = let z : ⊥ = omega arith in absurd z
some_left (p ∷ ps) h = go p.rest h (some_left ps)
  where
    go : (es : List ℕ) → 0 < length es + left ps → (0 < left ps → (e : ℕ) × (least_end (rests ps) ≡ Some e)) → (e : ℕ) × (least_end (es ∷ rests ps) ≡ Some e)
    go [] k f = f (omega arith)
    go (d ∷ ds) k f = (least d (least_end (rests ps)), refl)
