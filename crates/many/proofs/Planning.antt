-- The loop of `plan_many`: the segments of the walk so far are written, with an index for each column.
-- Assumes nothing.
use Prim.Native.Nat.{ℕ, ◌+◌, ◌*◌, ◌-◌, ◌≤◌, ◌<◌}
use mathlib.Core.List.{List, [], ◌∷◌, ◌++◌, append-nil, append_assoc}
use mathlib.Core.Path.{◌≡◌, refl, ap, sym, ◌∙◌}
use native.Mathlib.Nat.{suc-mul, zero-mul, mul-le-mul_right}
use native.Mathlib.Numerals.{add-one}
use native.Mathlib.Omega.{arith}
use lib.IntN.{ℤ, pos}
use lib.ListN.{length, take, drop, set, length-append}
use Rattle.column.specs.Runs.{over}
use Rattle.column.proofs.Buffer.{Written, write_start, write_next, over-rest}
use Rattle.plan.specs.Calls.{Segment, segments}
use Rattle.plan.specs.Workers.{spent}
use Rattle.plan.proofs.Listing.{segment_at}
use Rattle.many.specs.Calls.{all_indexes}
use Rattle.many.specs.Workers.{places_of, Stepped, Walkable, PlanManyFilled}
use Rattle.many.proofs.Walking.{Walk, ends_of_parts, walk_start, walk_end, walk-indexes, walk-few, walk-next}

all_append : (ss : List Segment) (s : Segment) → all_indexes (ss ++ s ∷ []) ≡ all_indexes ss ++ s.indexes
all_append [] s = append-nil s.indexes
all_append (t ∷ ss) s = ap (λ (l : List ℕ). t.indexes ++ l) (all_append ss s) ∙ sym (append_assoc t.indexes (all_indexes ss) s.indexes)

abbrev end_of : Segment → ℤ
end_of s = pos s.end

module _ (os : List ℕ) (es e₀ : List ℤ) (x₀ : List ℕ) where
  pub record Planning (is : List ℕ) (e : List ℤ) (x : List ℕ) (n m end : ℕ) : Type 0 where
    pub done : List Segment
    pub walk : Walk os es done is end
    pub ends : Written end_of done e₀ e n
    pub entries : x ≡ over (all_indexes done) x₀
    pub count : m ≡ length (all_indexes done)
    pub product : m ≡ n * (length os - 1)
    pub long : length x ≡ length x₀

  pub planning-start : {is is' : List ℕ} {end : ℕ} → Walkable os es is → Stepped os es 0 is is' end → Planning is' e₀ x₀ 0 0 end
  unfolding over
  planning-start q s = record {
    done = [];
    walk = walk_start os es q s;
    ends = write_start end_of e₀;
    entries = refl;
    count = refl;
    product = sym (zero-mul (length os - 1));
    long = refl;
  }

module _ {os : List ℕ} {es e₀ : List ℤ} {x₀ is : List ℕ} {e : List ℤ} {x : List ℕ} {n m end : ℕ} (p : Planning os es e₀ x₀ is e x n m end) where
  pub planning-end : spent ≤ end → PlanManyFilled (segments (ends_of_parts os es)) e₀ e x₀ x (record { segments = n; indexes = m })
  planning-end h = rw (walk_end p.walk h)
      (record { segments = p.ends.count; indexes = p.count; ends_written = p.ends.entries; indexes_written = p.entries })

  columns : length os - 1 ≡ length is
  columns = omega (arith, p.walk.placed.count)

  module _ (h : end < spent) (room_e : length es ≤ length e₀) (room_x : length es * (length os - 1) ≤ length x₀) where
    pub planning-ends : n < length e
    planning-ends = omega (arith, walk-few p.walk h, p.ends.count, p.ends.long)

    more : m + length is ≡ (n + 1) * (length os - 1)
    more = rw (add-one n, suc-mul n (length os - 1)) (omega (arith, p.product, columns))

    pub planning-indexes : m + length is ≤ length x
    planning-indexes = omega (
      arith,
      more,
      mul-le-mul_right {m = n + 1} {n = length es} (length os - 1) (omega (arith, walk-few p.walk h, p.ends.count)),
      p.long,
    )

    pub planning-next : {is' : List ℕ} {x' : List ℕ} {m' end' : ℕ} {z : ℤ} → z ≡ pos end → m' ≡ m + length is → length x' ≡ length x
        → x' ≡ take m x ++ over is (drop m x)
        → Stepped os es end is is' end' → Planning os es e₀ x₀ is' (set e n z) x' (n + 1) m' end'
    planning-next ez em el ex s =
        let i : all_indexes (p.done ++ segment_at (places_of os es is) (pos end) ∷ []) ≡ all_indexes p.done ++ is =
        all_append p.done (segment_at (places_of os es is) (pos end)) ∙ ap (λ (l : List ℕ). all_indexes p.done ++ l) (walk-indexes p.walk) in
        record {
          done = p.done ++ segment_at (places_of os es is) (pos end) ∷ [];
          walk = walk-next p.walk h s;
          ends = write_next end_of p.ends (omega (arith, planning-ends, p.ends.long)) (segment_at (places_of os es is) (pos end)) ez;
          entries = ex ∙ rw (p.entries, p.count) (over-rest (all_indexes p.done) is x₀) ∙ ap (λ (l : List ℕ). over l x₀) (sym i);
          count = em ∙ rw i (simp length-append (omega (arith, p.count)));
          product = em ∙ more;
          long = el ∙ p.long;
        }
