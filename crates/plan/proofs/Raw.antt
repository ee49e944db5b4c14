-- A run for each segment: their ends rise, and they show, position by position, what the columns show together.
-- Assumes nothing.
use Prim.Native.Nat.{ℕ, zero, suc, ◌+◌, ◌-◌, ◌≤◌, ◌<◌, max}
use Rattle.std.specs.Prelude.{Option, Some, None}
use mathlib.Core.List.{List, [], ◌∷◌, ◌++◌, map, map-map}
use mathlib.Core.Path.{◌≡◌, refl, ap, sym, ◌∙◌}
use native.Mathlib.Nat.{zero-add, sub-zero}
use native.Mathlib.Numerals.{add-one}
use native.Mathlib.Omega.{arith}
use lib.IntN.{ℤ}
use lib.ListN.{length, get_or, drop, replicate}
use lib.Seq.{drop-drop}
use lib.Dec.{eqb}
use borrow.Author.Tests.{eqb-true, eqb-false, lt-ltb, le-ltb}
use Rattle.num.proofs.Tests.{by-test}
use Rattle.column.specs.Combine.{Column, value_of, value_at, greatest_length, folded, row_at, each_position, table, combined}
use Rattle.column.specs.Lists.{total}
use Rattle.column.specs.Runs.{Run, Runs, last_end, length_of, dense_from, dense, encode, values_of}
use Rattle.column.proofs.All.{All}
use Rattle.column.proofs.Cover.{cover, cover-dense, last-above}
use Rattle.column.proofs.Dense.{length-dense}
use Rattle.column.proofs.Encode.{push_all_lem}
use Rattle.column.proofs.Positions.{each_position-add, each_position-length, each_position_const}
use Rattle.column.proofs.Rising.{Rising, Valid}
use Rattle.plan.specs.Calls.{Place, least_end, stepped_on, rests, indexes, stepped, segments_from, first_places, segments, values_for, segment_run, ends_in}
use Rattle.plan.specs.Calls.{segment_runs}
use Rattle.plan.proofs.Segments.{left, left_less, with_others, least-cons, none_left, segments-step, segments-end}
use Rattle.column.specs.Workers.{push_all}

-- a column, and the index of its current run
record At : Type 0 where
  column : Column
  index : ℕ

abbrev runs_left : At → Runs
runs_left a = drop a.index a.column.runs

abbrev place_of : At → Place
place_of a = record { index = a.index; rest = ends_in (runs_left a) }

abbrev step_at : ℕ → At → At
step_at e a = record { column = a.column; index = (stepped_on e a.index (ends_in (runs_left a))).index }

-- ---- the places step as the indexes do

drop-suc : (i : ℕ) (rs : Runs) (r : Run) (ds : Runs) → drop i rs ≡ r ∷ ds → drop (suc i) rs ≡ ds
drop-suc i rs r ds q = ap (λ (n : ℕ). drop n rs) (sym (add-one i)) ∙ sym (drop-drop 1 i rs) ∙ ap (drop 1) q

step-drop : (e i : ℕ) (rs ds : Runs) → drop i rs ≡ ds
    → ◌≡◌ {A = Place} (record { index = (stepped_on e i (ends_in ds)).index; rest = ends_in (drop (stepped_on e i (ends_in ds)).index rs) })
    (stepped_on e i (ends_in ds))
step-drop e i rs [] q = rw q
step-drop e i rs (d ∷ ds) q =
    by-test (eqb d.end e)
    (λ t. rw (t, drop-suc i rs d ds q))
    (λ t. rw (t, q))

places-step : (e : ℕ) (ys : List At) → map place_of (map (step_at e) ys) ≡ stepped e (map place_of ys)
places-step e [] = refl
places-step e (a ∷ ys) = rw (step-drop e a.index a.column.runs (runs_left a) refl, places-step e ys)

-- ---- where a column stands at position p: what it shows from there on, and how long it is

record Stands (p : ℕ) (c : Column) (rs : Runs) : Type 0 where
  rises : Rising p rs
  shows : (j : ℕ) → p ≤ j → value_at j c ≡ cover rs j (value_of c.fill)
  long : last_end p rs ≡ max p (length_of c.runs)

abbrev Here : ℕ → At → Type 0
Here p a = Stands p a.column (runs_left a)

here-start : (c : Column) → Valid c.runs → Here 0 (record { column = c; index = 0 })
unfolding value_at dense length_of
here-start c v = record { rises = v; shows = λ j h. rw zero-add at (cover-dense 0 c.runs j (value_of c.fill) v); long = omega arith }

-- e is no further than the current end
abbrev Upto : ℕ → Runs → Type 0
Upto e [] = Unit {0}
Upto e (r ∷ rs) = e ≤ r.end

module _ (p e : ℕ) (c : Column) (h : p < e) where
  spent : Stands p c [] → Stands e c []
  spent w = record { rises = tt; shows = λ j k. w.shows j (omega arith); long = omega (arith, w.long) }

  -- the current run goes on past e
  goes_on : (d : Run) (ds : Runs) → e < d.end → Stands p c (d ∷ ds) → Stands e c (d ∷ ds)
  goes_on d ds k w = record {
    rises = (k, w.rises.1);
    shows = λ j l. w.shows j (omega arith);
    long = omega (arith, w.long, last-above d.end ds w.rises.1);
  }

  -- the current run ends at e
  ends-here : (d : Run) (ds : Runs) → d.end ≡ e → Stands p c (d ∷ ds) → Stands e c ds
  ends-here d ds q w =
      let r : Rising e ds = rw q at w.rises.1 in
      let g : last_end e ds ≡ max p (length_of c.runs) = rw q at w.long in
      record {
        rises = r;
        shows = λ j l. w.shows j (omega arith) ∙ rw (le-ltb j d.end (omega arith));
        long = omega (arith, g, last-above e ds r);
      }

here-step : (p e : ℕ) (a : At) → p < e → Upto e (runs_left a) → Here p a → Here e (step_at e a)
here-step p e a h u w = go (runs_left a) refl u w
  where
    go : (ds : Runs) → runs_left a ≡ ds → Upto e ds → Stands p a.column ds → Here e (step_at e a)
    go [] q u w = rw (q, q) (spent p e a.column h w)
    go (d ∷ ds) q u w =
        by-test (eqb d.end e)
        (λ t. rw (q, t, drop-suc a.index a.column.runs d ds q) (ends-here p e a.column h d ds (eqb-true d.end e t) w))
        (λ t. let n = eqb-false d.end e t in rw (q, t, q) (goes_on p e a.column h d ds (omega arith) w))

-- ---- the next segment's end: no further than any current end, past p, and within the longest column

abbrev Below : ℕ → Option ℕ → Type 0
Below e None = Unit {0}
Below e (Some x) = e ≤ x

abbrev Past : ℕ → Option ℕ → Type 0
Past p None = Unit {0}
Past p (Some x) = p < x

abbrev Within : ℕ → Option ℕ → Type 0
Within n None = Unit {0}
Within n (Some x) = x ≤ n

abbrev next_end : List At → Option ℕ
next_end ys = least_end (rests (map place_of ys))

columns_in : List At → List Column
columns_in ys = map (λ (a : At). a.column) ys

all_upto : (e : ℕ) (ys : List At) → Below e (next_end ys) → All (λ a. Upto e (runs_left a)) ys
all_upto e [] b = tt
all_upto e (a ∷ ys) b =
    let s = split (runs_left a) (next_end ys) (rw (least-cons (ends_in (runs_left a)) (rests (map place_of ys))) at b) in
    (s.0, all_upto e ys s.1)
  where
    split : (ds : Runs) (o : Option ℕ) → Below e (with_others (ends_in ds) o) → Upto e ds × Below e o
    split [] o b = (tt, b)
    split (d ∷ ds) None b = (b, tt)
    split (d ∷ ds) (Some x) b = (omega arith, omega arith)

all_past : (p : ℕ) (ys : List At) → All (Here p) ys → Past p (next_end ys)
all_past p [] h = tt
all_past p (a ∷ ys) h =
    rw (least-cons (ends_in (runs_left a)) (rests (map place_of ys))) (both (runs_left a) (next_end ys) h.0.rises (all_past p ys h.1))
  where
    both : (ds : Runs) (o : Option ℕ) → Rising p ds → Past p o → Past p (with_others (ends_in ds) o)
    both [] o r k = k
    both (d ∷ ds) None r k = r.0
    both (d ∷ ds) (Some x) r k = omega (arith, r.0)

all-within : (p : ℕ) (ys : List At) → All (Here p) ys → Within (greatest_length (columns_in ys)) (next_end ys)
unfolding greatest_length columns_in
all-within p [] h = tt
all-within p (a ∷ ys) h =
    rw (least-cons (ends_in (runs_left a)) (rests (map place_of ys)))
    (both (runs_left a) (next_end ys) (greatest_length (columns_in ys)) h.0 (all-within p ys h.1))
  where
    both : (ds : Runs) (o : Option ℕ) (n : ℕ) → Stands p a.column ds → Within n o → Within (max (length_of a.column.runs) n) (with_others (ends_in ds) o)
    both [] None n w k = tt
    both [] (Some x) n w k = omega arith
    both (d ∷ ds) None n w k = omega (arith, w.long, w.rises.0, last-above d.end ds w.rises.1)
    both (d ∷ ds) (Some x) n w k = omega (arith, w.long, w.rises.0, last-above d.end ds w.rises.1)

-- where every column is spent, none is longer than p
all-spent : (p : ℕ) (ys : List At) → All (Here p) ys → next_end ys ≡ None → greatest_length (columns_in ys) ≤ p
unfolding greatest_length columns_in
all-spent p [] h e = omega arith
all-spent p (a ∷ ys) h e =
    let s = split (runs_left a) (next_end ys) h.0 (sym (least-cons (ends_in (runs_left a)) (rests (map place_of ys))) ∙ e) in
    omega (arith, s.0, all-spent p ys h.1 s.1)
  where
    split : (ds : Runs) (o : Option ℕ) → Stands p a.column ds → with_others (ends_in ds) o ≡ None → (length_of a.column.runs ≤ p) × (o ≡ None)
    split [] o w q = (omega (arith, w.long), q)
    split (d ∷ ds) o w q = absurd (let z : ◌≡◌ {A = ℕ} 0 1 = cc in omega arith)

-- ---- within a segment every position shows the values at the indexes

-- the value at an index is the first of the runs from there on
value-first : (i : ℕ) (rs : Runs) (d : ℤ) → get_or (values_of rs) i d ≡ get_or (values_of (drop i rs)) 0 d
unfolding values_of
value-first zero rs d = refl
value-first (suc i) [] d = refl
value-first (suc i) (r ∷ rs) d = value-first i rs d

module _ (p e j : ℕ) (h : p ≤ j) (k : j < e) where
  value-here : (a : At) → Here p a → Upto e (runs_left a) → value_at j a.column ≡ get_or (values_of a.column.runs) a.index (value_of a.column.fill)
  unfolding values_of
  value-here a w u = w.shows j h ∙ go (runs_left a) u ∙ sym (value-first a.index a.column.runs (value_of a.column.fill))
    where
      go : (ds : Runs) → Upto e ds → cover ds j (value_of a.column.fill) ≡ get_or (values_of ds) 0 (value_of a.column.fill)
      go [] u = refl
      go (d ∷ ds) u = rw (lt-ltb j d.end (omega arith))

  values-here : (ys : List At) → All (Here p) ys → All (λ a. Upto e (runs_left a)) ys
      → map (value_at j) (columns_in ys) ≡ values_for (columns_in ys) (map (λ (a : At). a.index) ys)
  unfolding columns_in
  values-here [] w u = refl
  values-here (a ∷ ys) w u = rw (value-here a w.0 u.0, values-here ys w.1 u.1)

-- ---- from position p on

columns-step : (e : ℕ) (ys : List At) → columns_in (map (step_at e) ys) ≡ columns_in ys
unfolding columns_in
columns-step e [] = refl
columns-step e (a ∷ ys) = rw (columns-step e ys)

all-step : (p e : ℕ) (ys : List At) → p < e → All (λ a. Upto e (runs_left a)) ys → All (Here p) ys → All (Here e) (map (step_at e) ys)
all-step p e [] h u w = tt
all-step p e (a ∷ ys) h u w = (here-step p e a h u.0 w.0, all-step p e ys h u.1 w.1)

indexes_in : (ys : List At) → indexes (map place_of ys) ≡ map (λ (a : At). a.index) ys
indexes_in ys = map-map (λ (p : Place). p.index) place_of ys

module _ (op : ℤ → ℤ → ℤ) (cs : List Column) where
  -- runs that are right from position p on
  record Right (p : ℕ) (rs : Runs) : Type 0 where
    rises : Rising p rs
    shows : dense_from p rs ≡ each_position (row_at op cs) p (greatest_length cs - p)

  nothing_left : (n p : ℕ) (ys : List At) → columns_in ys ≡ cs → All (Here p) ys → next_end ys ≡ None
      → Right p (map (segment_run op cs) (segments_from n (map place_of ys)))
  unfolding dense_from each_position
  nothing_left n p ys q w e =
      let l : greatest_length cs - p ≡ 0 = rw (← q) (omega (arith, all-spent p ys w e)) in
      rw (segments-end n (map place_of ys) e) (record { rises = tt; shows = rw l })

  next_segment : (n p e : ℕ) (ys : List At) → columns_in ys ≡ cs → All (Here p) ys → next_end ys ≡ Some e
      → Right e (map (segment_run op cs) (segments_from n (map place_of (map (step_at e) ys))))
      → Right p (map (segment_run op cs) (segments_from (suc n) (map place_of ys)))
  unfolding dense_from row_at
  next_segment n p e ys q w r i =
      let past : p < e = rw r at (all_past p ys w) in
      let within : e ≤ greatest_length cs = rw (r, q) at (all-within p ys w) in
      let upto = all_upto e ys (rw r (omega arith)) in
      let v = folded op (values_for cs (map (λ (a : At). a.index) ys)) in
      let l : greatest_length cs - p ≡ (e - p) + (greatest_length cs - e) = omega arith in
      let m : p + (e - p) ≡ e = omega arith in
      let c : each_position (row_at op cs) p (e - p) ≡ replicate (e - p) v =
      each_position_const (row_at op cs) p (e - p) v (λ j h k. ap (folded op) (rw q at (values-here p e j h (omega arith) ys w upto))) in
      let g : each_position (row_at op cs) p (greatest_length cs - p) ≡ replicate (e - p) v ++ each_position (row_at op cs) e (greatest_length cs - e) =
      ap (each_position (row_at op cs) p) l ∙ each_position-add (row_at op cs) p (e - p) (greatest_length cs - e) ∙ rw (c, m) in
      rw (segments-step n (map place_of ys) e r, indexes_in ys, ← places-step e ys) (record { rises = (past, i.rises); shows = rw i.shows (sym g) })

  raw_from : (n p : ℕ) (ys : List At) → columns_in ys ≡ cs → left (map place_of ys) ≤ n → All (Here p) ys
      → Right p (map (segment_run op cs) (segments_from n (map place_of ys)))
  raw_from zero p ys q f w = nothing_left 0 p ys q w (none_left (map place_of ys) (omega arith))
  raw_from (suc n) p ys q f w = go (next_end ys)
      refl (λ e r. raw_from n e (map (step_at e) ys) (columns-step e ys ∙ q) (rw (places-step e ys) (omega (arith, left_less e (map place_of ys) r)))
      (all-step p e ys (rw r at (all_past p ys w)) (all_upto e ys (rw r (omega arith))) w))
    where
      go : (o : Option ℕ) → next_end ys ≡ o
          → ((e : ℕ) → next_end ys ≡ Some e → Right e (map (segment_run op cs) (segments_from n (map place_of (map (step_at e) ys)))))
          → Right p (map (segment_run op cs) (segments_from (suc n) (map place_of ys)))
      go None r k = nothing_left (suc n) p ys q w r
      go (Some e) r k = next_segment n p e ys q w r (k e r)

-- ---- the whole

abbrev start : Column → At
start c = record { column = c; index = 0 }

columns-start : (cs : List Column) → columns_in (map start cs) ≡ cs
unfolding columns_in
columns-start [] = refl
columns-start (c ∷ cs) = rw (columns-start cs)

places-start : (cs : List Column) → map place_of (map start cs) ≡ first_places (map (λ (c : Column). ends_in c.runs) cs)
places-start [] = refl
places-start (c ∷ cs) = rw (places-start cs)

left-start : (cs : List Column) → left (map place_of (map start cs)) ≡ total (map length (map (λ (c : Column). ends_in c.runs) cs))
left-start [] = refl
left-start (c ∷ cs) = rw (left-start cs)

here-all : (cs : List Column) → All (λ c. Valid c.runs) cs → All (Here 0) (map start cs)
here-all [] v = tt
here-all (c ∷ cs) v = (here-start c v.0, here-all cs v.1)

module _ (op : ℤ → ℤ → ℤ) (cs : List Column) (v : All (λ c. Valid c.runs) cs) where
  raw_right : Right op cs 0 (segment_runs op cs)
  unfolding segment_runs segments
  raw_right =
      rw (← places-start cs)
      (raw_from op cs (total (map length (map (λ (c : Column). ends_in c.runs) cs))) 0 (map start cs) (columns-start cs)
      (rw (left-start cs) (omega arith)) (here-all cs v))

  pub raw_rises : Rising 0 (segment_runs op cs)
  raw_rises = raw_right.rises

  -- what `zip_with_raw` shows at each position is what `zip_with` shows there
  pub raw_dense : dense (segment_runs op cs) ≡ table op cs
  unfolding dense table
  raw_dense = raw_right.shows ∙ ap (each_position (row_at op cs) 0) (sub-zero (greatest_length cs))

  -- and merged it is `zip_with`'s result
  pub raw_merges : push_all [] (segment_runs op cs) ≡ combined op cs
  unfolding combined
  raw_merges = push_all_lem (segment_runs op cs) raw_rises ∙ ap encode raw_dense

  pub raw_length : length_of (segment_runs op cs) ≡ greatest_length cs
  unfolding table
  raw_length = sym (length-dense (segment_runs op cs) raw_rises) ∙ ap length raw_dense ∙ each_position-length (row_at op cs) 0 (greatest_length cs)
