-- The ranges of positions that pass, as a run is added; the loop that writes them, and the call.
-- Assumes nothing.
use Prim.Native.Nat.{ℕ, zero, suc, ◌+◌, ◌-◌, ◌≤◌, ◌<◌}
use mathlib.Core.Bool.{Bool, true, false, not, ◌&&◌, cond}
use mathlib.Core.List.{List, [], ◌∷◌, ◌++◌, map, map-append, append-nil}
use Rattle.std.specs.Prelude.{Some, None, Result, Ok, IsErrAnd}
use mathlib.Core.Path.{◌≡◌, refl, ap, sym, ◌∙◌}
use native.Mathlib.Numerals.{add-one}
use native.Mathlib.Omega.{arith}
use lib.IntN.{ℤ, pos}
use lib.ListN.{length, get_or, take, set, replicate, length-append, length-map, length-set}
use lib.Seq.{take_all, take_at, take-suc}
use Rattle.num.specs.Numbers.{eq_z, comparison}
use Rattle.num.proofs.Operation.{comparison-operation}
use Rattle.num.proofs.Tests.{eq_z-true, by-test}
use Rattle.column.specs.Asking.{Question, ◌otherwise◌}
use Rattle.column.specs.Lists.{any}
use Rattle.column.specs.Paper.{answers, paper}
use Rattle.column.specs.Questions.{listed, ends_valid, sequence_asked}
use Rattle.column.specs.declared.error.Refusal.{Refusal}
use Rattle.column.specs.Runs.{sequence, Runs, to_nat, end_before, runs_of, last_end, length_of, dense, dense_from, encode, encode_from, push_merged, over}
use Rattle.column.specs.Workers.{RisingEnds, last_of}
use Rattle.column.proofs.Appending.{rising_at}
use Rattle.column.proofs.Buffer.{over_store, over-next, over-over, Written, write_next}
use Rattle.column.proofs.Dense.{length-dense, length-encode, dense-append}
use Rattle.column.proofs.Encode.{encode_up, last_push}
use Rattle.column.proofs.Ends.{runs-rise}
use Rattle.column.proofs.FirstNo.{all_yes}
use Rattle.column.proofs.Lists.{any_append}
use Rattle.column.proofs.Promised.{passed_on}
use Rattle.column.proofs.Told.{listed-told, sequence-told}
use Rattle.ranges_where.specs.Calls.{Range, ranges_from, ranges_of, range_starts, range_ends, ranges_where_asked, WrittenRanges}
use Rattle.ranges_where.specs.Workers.{passing, FirstPassing, open_after, FilledRanges}
use Rattle.ranges_where.specs.declared.inner.Open.{Open}
use Rattle.column.proofs.Cover.{last-end}

-- ---- a run pushed onto runs of 1 and of other values

-- the last range, up to another end
abbrev grown : List Range → ℕ → List Range
grown [] e = []
grown (g ∷ []) e = record { start = g.start; end = e } ∷ []
grown (g ∷ h ∷ gs) e = g ∷ grown (h ∷ gs) e

grown-cons : (g : Range) (gs : List Range) (e : ℕ) → 0 < length gs → grown (g ∷ gs) e ≡ g ∷ grown gs e
grown-cons g [] e h = let z : ⊥ = omega arith in absurd z
grown-cons g (k ∷ gs) e h = refl

grown-last : (gs : List Range) (g : Range) (e : ℕ) → grown (gs ++ g ∷ []) e ≡ gs ++ record { start = g.start; end = e } ∷ []
grown-last [] g e = refl
grown-last (h ∷ []) g e = refl
grown-last (h ∷ k ∷ gs) g e = ap {B = List Range} (λ l. h ∷ l) (grown-last (k ∷ gs) g e)

-- the last run is of 1
abbrev Marked : Runs → Bool → Type 0
Marked d b = eq_z (last_of (pos 0) d) (pos 1) ≡ b

marked_some : (p : ℕ) (d : Runs) → Marked d true → 0 < length (ranges_from p d)
unfolding ranges_from last_of
marked_some p [] m = absurd (let z : ◌≡◌ {A = ℕ} 0 1 = cc in omega arith)
marked_some p (r ∷ []) m = rw m (omega arith)
marked_some p (r ∷ q ∷ rs) m =
    let k = marked_some r.end (q ∷ rs) m in
    by-test (eq_z r.value (pos 1)) (λ t. rw t (omega arith)) (λ t. rw t k)

-- another value begins no range
push_other : (p : ℕ) (d : Runs) (e : ℕ) (v : ℤ) → eq_z v (pos 1) ≡ false → ranges_from p (push_merged d e v) ≡ ranges_from p d
unfolding ranges_from push_merged
push_other p [] e v n = rw n
push_other p (r ∷ []) e v n =
    by-test (eq_z r.value v)
    (λ t. let q : r.value ≡ v = eq_z-true r.value v t in rw (t, n, q, n))
    (λ t. rw (t, n))
push_other p (r ∷ q ∷ rs) e v n = rw (push_other r.end (q ∷ rs) e v n)

-- 1 after another value does
push_new : (p : ℕ) (d : Runs) (e : ℕ) (v : ℤ) → Marked d false → eq_z v (pos 1) ≡ true
    → ranges_from p (push_merged d e v) ≡ ranges_from p d ++ record { start = last_end p d; end = e } ∷ []
unfolding ranges_from push_merged last_of
push_new p [] e v m y = rw y
push_new p (r ∷ []) e v m y =
    by-test (eq_z r.value v)
    (λ t. absurd (let q : r.value ≡ v = eq_z-true r.value v t in
    let f : eq_z v (pos 1) ≡ false = rw q at m in
    let z : ◌≡◌ {A = Bool} true false = sym y ∙ f in
    let w : ◌≡◌ {A = ℕ} 0 1 = cc in
    omega arith))
    (λ t. rw (t, m, y))
push_new p (r ∷ q ∷ rs) e v m y =
    let k = push_new r.end (q ∷ rs) e v m y in
    by-test (eq_z r.value (pos 1)) (λ t. rw (t, k)) (λ t. rw (t, k))

-- 1 after 1 goes on with the last
push_on : (p : ℕ) (d : Runs) (e : ℕ) (v : ℤ) → Marked d true → eq_z v (pos 1) ≡ true → ranges_from p (push_merged d e v) ≡ grown (ranges_from p d) e
unfolding ranges_from push_merged last_of
push_on p [] e v m y = absurd (let z : ◌≡◌ {A = ℕ} 0 1 = cc in omega arith)
push_on p (r ∷ []) e v m y =
    let a : r.value ≡ pos 1 = eq_z-true r.value (pos 1) m in
    let b : v ≡ pos 1 = eq_z-true v (pos 1) y in
    rw (a, b)
push_on p (r ∷ q ∷ rs) e v m y =
    let k = push_on r.end (q ∷ rs) e v m y in
    let s = marked_some r.end (q ∷ rs) m in
    by-test (eq_z r.value (pos 1))
    (λ t. rw (t, k) (sym (grown-cons (record { start = p; end = r.end }) (ranges_from r.end (q ∷ rs)) e s)))
    (λ t. rw (t, k))

-- ---- the first entries, one more of them

module _ {A : Type 0} (passes : A → Bool) where
  none_more : (xs : List A) (r : ℕ) (d : A) → passes (get_or xs r d) ≡ false → any passes (take r xs) ≡ false → r < length xs
      → any passes (take (r + 1) xs) ≡ false
  none_more xs r d e n h = rw (add-one, take-suc xs r d h, any_append, n, e)

  none_fewer : (xs : List A) (r : ℕ) (d : A) → any passes (take (suc r) xs) ≡ false → r < length xs
      → (any passes (take r xs) ≡ false) × (passes (get_or xs r d) ≡ false)
  none_fewer [] r d n h = let z : ⊥ = omega arith in absurd z
  none_fewer (x ∷ xs) zero d n h =
      by-test (passes x) (λ t. absurd (let z : ◌≡◌ {A = Bool} true false = rw t at n in let w : ◌≡◌ {A = ℕ} 0 1 = cc in omega arith)) (λ t. (refl, t))
  none_fewer (x ∷ xs) (suc r) d n h =
      by-test (passes x)
      (λ t. absurd (let z : ◌≡◌ {A = Bool} true false = rw t at n in let w : ◌≡◌ {A = ℕ} 0 1 = cc in omega arith))
      (λ t. let k = none_fewer xs r d (rw t at n) (omega arith) in (rw t k.0, k.1))

-- ---- a value that is read and tested against a number that a local holds

module _ {code : ℕ} (low : 7 ≤ code) (high : code ≤ 8) {n m : ℤ} (en : n ≡ m) where
  pub tested : {x v : ℤ} {b : Bool} → b ≡ comparison code x n → x ≡ v → b ≡ passing code n v
  tested {x} eb ex = rw (← ex) (eb ∙ comparison-operation code x n low high)

  -- the values before the i-th do not pass
  module _ (vs : List ℤ) (i : ℕ) (none : any (passing code n) (take i vs) ≡ false)
      {x : ℤ} {b : Bool} (eb : b ≡ comparison code x n) (ex : x ≡ get_or vs i (pos 0)) (h : i < length vs) where
    pub first-passing : b ≡ true → FirstPassing (passing code m) vs i
    first-passing et = rw (← en) (record { within = omega arith; before = none; here = λ k. sym (tested eb ex) ∙ et })

    pub not-passing : b ≡ false → any (passing code n) (take (i + 1) vs) ≡ false
    not-passing et = none_more (passing code n) vs i (pos 0) (sym (tested eb ex) ∙ et) none h

-- ---- the first runs of a sequence

runs-next : (es vs : List ℤ) (r : ℕ) → r < length es → length es ≡ length vs
    → runs_of (take (suc r) es) (take (suc r) vs) ≡ runs_of (take r es) (take r vs) ++ record { end = to_nat (get_or es r (pos 0)); value = get_or vs r (pos 0) } ∷ []
unfolding runs_of
runs-next [] vs r h l = let z : ⊥ = omega arith in absurd z
runs-next (e ∷ es) [] r h l = let z : ⊥ = omega arith in absurd z
runs-next (e ∷ es) (v ∷ vs) zero h l = refl
runs-next (e ∷ es) (v ∷ vs) (suc r) h l = ap {B = Runs} (λ rs. record { end = to_nat e; value = v } ∷ rs) (runs-next es vs r (omega arith) (omega arith))

rising-take : (p : ℕ) (es : List ℤ) (r : ℕ) → RisingEnds p es → RisingEnds p (take r es)
rising-take p es zero h = tt
rising-take p [] (suc r) h = tt
rising-take p (e ∷ es) (suc r) h = (h.0, h.1, rising-take (to_nat e) es r h.2)

-- their length is the end before the next
length-first : (es vs : List ℤ) (r : ℕ) → r ≤ length es → length es ≡ length vs → length_of (runs_of (take r es) (take r vs)) ≡ to_nat (end_before es r)
unfolding length_of runs_of
length-first es vs zero h l = refl
length-first es vs (suc r) h l =
    rw (runs-next es vs r (omega arith) l) (last-end 0 (runs_of (take r es) (take r vs)) (record { end = to_nat (get_or es r (pos 0)); value = get_or vs r (pos 0) }))

ends-rise : (p : ℕ) (es : List ℤ) (r : ℕ) → RisingEnds p es → suc r < length es → to_nat (get_or es r (pos 0)) < to_nat (get_or es (suc r) (pos 0))
ends-rise p [] r h l = let z : ⊥ = omega arith in absurd z
ends-rise p (e ∷ es) zero h l = (rising_at (to_nat e) es 0 h.2 (omega arith)).1
ends-rise p (e ∷ es) (suc r) h l = ends-rise (to_nat e) es r h.2 (omega arith)

end-above : (es : List ℤ) (r : ℕ) → RisingEnds 0 es → r < length es → to_nat (end_before es r) < to_nat (get_or es r (pos 0))
end-above es zero h l = (rising_at 0 es 0 h l).1
end-above es (suc r) h l = ends-rise 0 es r h l

before-natural : (es : List ℤ) (r : ℕ) → RisingEnds 0 es → r ≤ length es → end_before es r ≡ pos (to_nat (end_before es r))
before-natural es zero h l = refl
before-natural es (suc r) h l = (rising_at 0 es r h (omega arith)).0

map-replicate : (f : ℤ → ℤ) (n : ℕ) (v : ℤ) → map f (replicate n v) ≡ replicate n (f v)
map-replicate f zero v = refl
map-replicate f (suc n) v = ap {B = List ℤ} (λ l. f v ∷ l) (map-replicate f n v)

-- ---- a loop that writes f of one thing after another, or over the last of them

module _ {P A : Type 0} (f : P → A) where
  write_over : (done : List P) (p : P) {before now : List A} {n : ℕ} → Written f (done ++ p ∷ []) before now (n + 1) → n < length before → (q : P) {x : A}
      → x ≡ f q
      → Written f (done ++ q ∷ []) before (set now n x) (n + 1)
  write_over done p {before} {n = n} w h q e =
      let c : n ≡ length done = omega (arith, w.count, length-append done (p ∷ [])) in
      let m : length (map f done ++ f p ∷ []) ≡ suc n = rw (length-append, length-map) (omega arith) in
      rw e (record {
        count = rw length-append (omega arith);
        entries = rw (w.entries, map-append, map-append)
            (over_store (map f done ++ f p ∷ []) before n (f q) (omega arith) (omega arith) h
            ∙ ap (λ (l : List A). over (l ++ f q ∷ []) before) (take_at (map f done) (f p ∷ []) n (rw length-map (sym c))));
        long = rw length-set w.long;
      })

  module _ (before : List A) (some : 0 < length before) where
    first_store : (x : A) → set before 0 x ≡ over (x ∷ []) before
    unfolding over
    first_store x = over-next [] before 0 x refl some

    -- from the first store on
    write_one : (p : P) {x : A} → x ≡ f p → Written f (p ∷ []) (set before 0 x) (set before 0 x) 1
    write_one p e = rw e (record {
      count = refl;
      entries = first_store (f p) ∙ sym (over-over (f p ∷ []) (f p ∷ []) before (omega arith)) ∙ ap (over (f p ∷ [])) (sym (first_store (f p)));
      long = refl;
    })

    write_whole : {done : List P} {now : List A} {n : ℕ} (x : A) → Written f done (set before 0 x) now n → 0 < n → now ≡ over (map f done) before
    write_whole {done} x w h = w.entries ∙ ap (over (map f done)) (first_store x)
        ∙ over-over (map f done) (x ∷ []) before (rw length-map (omega (arith, w.count)))

-- ---- the loop: f is the operation, and the runs before the r-th are seen

abbrev range_of : Open → Range
range_of last = record { start = to_nat last.start; end = to_nat last.end }

abbrev start_of : Range → ℤ
start_of g = pos g.start

abbrev end_of : Range → ℤ
end_of g = pos g.end

module _ (f : ℤ → ℤ) (es vs : List ℤ) where
  abbrev seen : ℕ → List ℤ
  seen r = map f (dense (runs_of (take r es) (take r vs)))

  -- they are 1 where a position passes
  abbrev marks : ℕ → Runs
  marks r = encode (seen r)

  module _ (valid : RisingEnds 0 es) (paired : length es ≡ length vs) where
    seen-length : (r : ℕ) → r ≤ length es → length (seen r) ≡ to_nat (end_before es r)
    seen-length r h =
        rw length-map (length-dense (runs_of (take r es) (take r vs)) (runs-rise 0 (take r es) (take r vs) (rising-take 0 es r valid))
        ∙ length-first es vs r h paired)

    seen_next : (r : ℕ) → r < length es → seen (suc r) ≡ seen r ++ replicate (to_nat (get_or es r (pos 0)) - length (seen r)) (f (get_or vs r (pos 0)))
    unfolding dense_from
    seen_next r h =
        let rs = runs_of (take r es) (take r vs) in
        let n : length_of rs ≡ length (seen r) = length-first es vs r (omega arith) paired ∙ sym (seen-length r (omega arith)) in
        rw (runs-next es vs r h paired, dense-append, append-nil, map-append, map-replicate, n)

    -- one run more
    marks-next : (r : ℕ) → r < length es → marks (suc r) ≡ push_merged (marks r) (to_nat (get_or es r (pos 0))) (f (get_or vs r (pos 0)))
    marks-next r h =
        ap encode (seen_next r h)
        ∙ encode_up (seen r) (to_nat (get_or es r (pos 0))) (f (get_or vs r (pos 0))) (omega (arith, seen-length r (omega arith), end-above es r valid h))

    marks-more : (r : ℕ) → r < length es → marks (r + 1) ≡ push_merged (marks r) (to_nat (get_or es r (pos 0))) (f (get_or vs r (pos 0)))
    marks-more r h = rw (add-one r) (marks-next r h)

    marks-length : (r : ℕ) → r ≤ length es → last_end 0 (marks r) ≡ to_nat (end_before es r)
    unfolding length_of
    marks-length r h = length-encode (seen r) ∙ seen-length r h

    -- no range where no value passes
    none_yet : (r : ℕ) → r ≤ length es → any (λ v. eq_z (f v) (pos 1)) (take r vs) ≡ false → (ranges_from 0 (marks r) ≡ []) × Marked (marks r) false
    unfolding ranges_from last_of runs_of dense dense_from encode encode_from
    none_yet zero h n = (refl, refl)
    none_yet (suc r) h n =
        let a = none_fewer (λ v. eq_z (f v) (pos 1)) vs r (pos 0) n (omega arith) in
        let k = none_yet r (omega arith) a.0 in
        rw (marks-next r (omega arith)) (
          push_other 0 (marks r) (to_nat (get_or es r (pos 0))) (f (get_or vs r (pos 0))) a.1 ∙ k.0,
          rw (last_push (pos 0) (marks r) (to_nat (get_or es r (pos 0))) (f (get_or vs r (pos 0)))) a.1,
        )

  -- no value passes: nothing is written
  pub no_ranges : (s₀ e₀ : List ℤ) {r : ℕ} → RisingEnds 0 es → length es ≡ length vs → FirstPassing (λ v. eq_z (f v) (pos 1)) vs r → r ≡ length es
      → FilledRanges (ranges_from 0 (encode (map f (dense (runs_of es vs))))) s₀ s₀ e₀ e₀ 0
  unfolding range_starts range_ends over
  no_ranges s₀ e₀ {r} valid paired p h =
      let k = (none_yet valid paired r (omega arith) p.before).0 in
      let m : ranges_from 0 (encode (map f (dense (runs_of es vs)))) ≡ [] = rw (take_all r es (omega arith), take_all r vs (omega arith)) at k in
      rw m (record { count = refl; starts = refl; ends = refl })

  -- `last` is the last range, and gs are those before it; all are written into s₁ and e₁, and `before` is where the r-th run begins
  pub record Ranging (s₁ e₁ s e : List ℤ) (last : Open) (before : ℤ) (r : ℕ) : Type 0 where
    pub few : last.at < r
    pub gs : List Range
    pub ranges : ranges_from 0 (marks r) ≡ gs ++ range_of last ∷ []
    pub inside : Marked (marks r) last.inside
    pub natural_start : last.start ≡ pos (to_nat last.start)
    pub natural_end : last.end ≡ pos (to_nat last.end)
    pub starts : Written start_of (gs ++ range_of last ∷ []) s₁ s (last.at + 1)
    pub ends : Written end_of (gs ++ range_of last ∷ []) e₁ e (last.at + 1)
    pub end_before_lem : before ≡ end_before es r

  module _ (valid : RisingEnds 0 es) (paired : length es ≡ length vs) where
    -- the first value that passes begins a range
    pub range_first : (s₀ e₀ : List ℤ) {r : ℕ} {x y : ℤ} → FirstPassing (λ v. eq_z (f v) (pos 1)) vs r
        → x ≡ end_before es r → y ≡ get_or es r (pos 0) → r < length es → length es ≤ length s₀ → length es ≤ length e₀
        → Ranging (set s₀ 0 x) (set e₀ 0 y) (set s₀ 0 x) (set e₀ 0 y) (record { at = 0; start = x; end = y; inside = true }) y (r + 1)
    range_first s₀ e₀ {r} {x} {y} p ex ey h room_s room_e =
        let none = none_yet valid paired r (omega arith) p.before in
        let v : ℤ = f (get_or vs r (pos 0)) in
        let yes : eq_z v (pos 1) ≡ true = p.here (omega arith) in
        let e : ℕ = to_nat (get_or es r (pos 0)) in
        let more = marks-more valid paired r h in
        let nx : x ≡ pos (to_nat x) = rw ex (before-natural es r valid (omega arith)) in
        let ny : y ≡ pos (to_nat y) = rw ey (rising_at 0 es r valid h).0 in
        let g : Range = record { start = to_nat x; end = to_nat y } in
        record {
          few = omega arith;
          gs = [];
          ranges = rw (more, push_new 0 (marks r) e v none.1 yes, none.0, marks-length valid paired r (omega arith), ex, ey);
          inside = rw (more, last_push (pos 0) (marks r) e v) yes;
          natural_start = nx;
          natural_end = ny;
          starts = write_one start_of s₀ (omega arith) g nx;
          ends = write_one end_of e₀ (omega arith) g ny;
          end_before_lem = rw (add-one r) ey;
        }

    module _ {s₁ e₁ s e : List ℤ} {last : Open} {before : ℤ} {r : ℕ} (i : Ranging s₁ e₁ s e last before r) (h : r < length es)
        (room_s : length es ≤ length s₁) (room_e : length es ≤ length e₁) where
      abbrev value : ℤ
      value = f (get_or vs r (pos 0))

      abbrev end : ℕ
      end = to_nat (get_or es r (pos 0))

      more : marks (r + 1) ≡ push_merged (marks r) end value
      more = marks-more valid paired r h

      module _ {next : Open} {b : Bool} {x y z : ℤ} (eb : b ≡ eq_z value (pos 1)) (en : next ≡ open_after last b before z)
          (ez : z ≡ get_or es r (pos 0)) (ex : x ≡ next.start) (ey : y ≡ next.end) where
        -- the next range is written at its place
        abbrev Next : Type 0
        Next = Ranging s₁ e₁ (set s next.at x) (set e next.at y) next z (r + 1)

        natural : z ≡ pos (to_nat z)
        natural = rw ez (rising_at 0 es r valid h).0

        marked : Marked (marks (r + 1)) next.inside
        marked = rw (more, last_push (pos 0) (marks r) end value) (sym (ap (λ (o : Open). o.inside) en ∙ eb))

        -- over the last range
        range-over : next.at ≡ last.at → next.start ≡ last.start → next.end ≡ pos (to_nat next.end)
            → ranges_from 0 (marks (r + 1)) ≡ i.gs ++ range_of next ∷ [] → Next
        range-over at st ne rs =
            let ns : next.start ≡ pos (to_nat next.start) = rw st i.natural_start in
            let g = range_of next in
            let few = i.few in
            record {
              few = rw at (omega arith);
              gs = i.gs;
              ranges = rs;
              inside = marked;
              natural_start = ns;
              natural_end = ne;
              starts = rw at (write_over start_of i.gs (range_of last) i.starts (omega arith) g (ex ∙ ns));
              ends = rw at (write_over end_of i.gs (range_of last) i.ends (omega arith) g (ey ∙ ne));
              end_before_lem = rw (add-one r) ez;
            }

        at_is : next.at ≡ cond (not last.inside && b) (last.at + 1) last.at
        at_is = ap (λ (o : Open). o.at) en

        start_is : next.start ≡ cond (not last.inside && b) before last.start
        start_is = ap (λ (o : Open). o.start) en

        end_is : next.end ≡ cond b z last.end
        end_is = ap (λ (o : Open). o.end) en

        -- the run does not pass
        range-kept : b ≡ false → next.at ≡ last.at → next.start ≡ last.start → Next
        range-kept tb at st =
            let te : next.end ≡ last.end = rw tb at end_is in
            range-over at st (rw te i.natural_end) (rw (more, st, te) (push_other 0 (marks r) end value (sym eb ∙ tb) ∙ i.ranges))

        -- it passes as the run before it does
        range-on : last.inside ≡ true → b ≡ true → next.at ≡ last.at → next.start ≡ last.start → Next
        range-on ti tb at st =
            let te : next.end ≡ z = rw tb at end_is in
            range-over at st (rw te natural)
            (rw (more, push_on 0 (marks r) end value (rw ti at i.inside) (sym eb ∙ tb), i.ranges, grown-last, st, te, ez))

        -- it begins a range
        range-new : last.inside ≡ false → b ≡ true → next.at ≡ last.at + 1 → next.start ≡ before → Next
        range-new ti tb at st =
            let te : next.end ≡ z = rw tb at end_is in
            let ns : next.start ≡ pos (to_nat next.start) = rw (st, i.end_before_lem) (before-natural es r valid (omega arith)) in
            let ne : next.end ≡ pos (to_nat next.end) = rw te natural in
            let new = push_new 0 (marks r) end value (rw ti at i.inside) (sym eb ∙ tb) in
            let few = i.few in
            record {
              few = rw at (omega arith);
              gs = i.gs ++ range_of last ∷ [];
              ranges = rw (more, new, i.ranges, marks-length valid paired r (omega arith), st, i.end_before_lem, te, ez);
              inside = marked;
              natural_start = ns;
              natural_end = ne;
              starts = rw at (write_next start_of i.starts (omega arith) (range_of next) (ex ∙ ns));
              ends = rw at (write_next end_of i.ends (omega arith) (range_of next) (ey ∙ ne));
              end_before_lem = rw (add-one r) ez;
            }

        -- one run more
        pub range-next : Next
        range-next =
            by-test last.inside
            (λ ti. let at : next.at ≡ last.at = rw ti at at_is in
            let st : next.start ≡ last.start = rw ti at start_is in
            by-test b (λ tb. range-on ti tb at st) (λ tb. range-kept tb at st))
            (λ ti. by-test b
            (λ tb. range-new ti tb (rw (ti, tb) at at_is) (rw (ti, tb) at start_is))
            (λ tb. range-kept tb (rw (ti, tb) at at_is) (rw (ti, tb) at start_is)))

  -- after the first store into each buffer
  pub range_end : (s₀ e₀ : List ℤ) (x y : ℤ) {s e : List ℤ} {last : Open} {before : ℤ} {r : ℕ}
      → Ranging (set s₀ 0 x) (set e₀ 0 y) s e last before r → length es ≡ length vs → length es ≤ r → 0 < length s₀ → 0 < length e₀
      → FilledRanges (ranges_from 0 (encode (map f (dense (runs_of es vs))))) s₀ s e₀ e (last.at + 1)
  unfolding range_starts range_ends
  range_end s₀ e₀ x y {r = r} i paired h some_s some_e =
      rw (rw (take_all r es h, take_all r vs (omega arith)) at i.ranges)
      (record {
        count = i.starts.count;
        starts = write_whole start_of s₀ some_s x i.starts (omega arith);
        ends = write_whole end_of e₀ some_e y i.ends (omega arith);
      })

-- of a number that a local holds
pub with_number : (code : ℕ) {n m : ℤ} (rs : Runs) {s s' e e' : List ℤ} {k : ℕ} → n ≡ m → FilledRanges (ranges_of code n rs) s s' e e' k
    → FilledRanges (ranges_of code m rs) s s' e e' k
with_number code rs en f = rw en at f

-- ---- the call

-- what its questions tell where all are answered "yes"
pub ranges-yes : (es vs : List ℤ) (code : ℕ) (s e : List ℤ) → ranges_where_asked (sequence es vs) code (length s ∷ length e ∷ []) ≡ None
    → (7 ≤ code) × (code ≤ 8) × (ends_valid es ≡ None) × (length es ≡ length vs) × (length es ≤ length s) × (length es ≤ length e)
unfolding ranges_where_asked
ranges-yes es vs code s e h =
    let buffers = length s ∷ length e ∷ [] in
    let y = all_yes (listed 7 8 code ∷ sequence_asked (sequence es vs) (length es) buffers ∷ []) h in
    let c = listed-told 7 8 code y.0 in
    let k = sequence-told es vs (length es) (length s) (length e) y.1.0 in
    (c.0, c.1, k.0, k.1, k.2, k.3)

pub ranges-written : {q : Question} (rs : List Range) {s s' e e' : List ℤ} {n : ℕ} → q ≡ None → FilledRanges rs s s' e e' n
    → WrittenRanges (q otherwise rs) (Ok n) s s' e e'
ranges-written rs h f = rw h (record { answer = ap answers f.count; starts = f.starts; ends = f.ends })

pub ranges-refused : {q : Question} (rs : List Range) (r : Result ℕ Refusal) (y : Refusal) {s e : List ℤ} → IsErrAnd r (λ (z : Refusal). z ≡ y)
    → Some (paper y) ≡ q → WrittenRanges (q otherwise rs) r s s e e
ranges-refused rs r y h f = rw (sym f, passed_on r y h) (record { answer = refl; starts = refl; ends = refl })
