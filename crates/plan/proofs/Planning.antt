-- A walk that writes its segments: their ends, and the indexes of both columns.
-- Assumes nothing.
use Prim.Native.Nat.{ℕ, ◌+◌, ◌≤◌, ◌<◌}
use Rattle.std.specs.Prelude.{Some, None, Result, Ok, IsErrAnd}
use mathlib.Core.List.{List, []}
use mathlib.Core.Path.{◌≡◌, refl, ap, sym, ◌∙◌}
use native.Mathlib.Omega.{arith}
use lib.IntN.{ℤ, pos}
use lib.ListN.{length, get_or, set}
use Rattle.column.specs.declared.error.Refusal.{Refusal}
use Rattle.column.specs.Asking.{Question, ◌otherwise◌}
use Rattle.column.specs.Paper.{answers, paper}
use Rattle.column.proofs.Buffer.{Written, write_start, write_next}
use Rattle.column.proofs.Promised.{passed_on}
use Rattle.plan.specs.Calls.{Segment, segments_of, WrittenPlan}
use Rattle.plan.specs.declared.inner.Segments.{Segments}
use Rattle.plan.specs.Workers.{places_at, Starts, Walks, PlanFilled}
use Rattle.plan.proofs.Listing.{segment_at}
use Rattle.plan.proofs.Walking.{Walk, walk_start, walk-few, walk-next, walk_end}

abbrev end_of : Segment → ℤ
end_of s = pos s.end

abbrev index_in : ℕ → Segment → ℕ
index_in c s = get_or s.indexes c 0

pub record Planning (a b e₀ : List ℤ) (x₀ y₀ : List ℕ) (e : List ℤ) (x y : List ℕ) (n : ℕ) (c : Segments) : Type 0 where
  pub done : List Segment
  pub walk : Walk a b done c
  pub ends : Written end_of done e₀ e n
  pub left : Written (index_in 0) done x₀ x n
  pub right : Written (index_in 1) done y₀ y n

pub planning-start : (a b e₀ : List ℤ) (x₀ y₀ : List ℕ) {c : Segments} → Starts a b c → Planning a b e₀ x₀ y₀ e₀ x₀ y₀ 0 c
planning-start a b e₀ x₀ y₀ s =
    record { done = []; walk = walk_start a b s; ends = write_start end_of e₀; left = write_start (index_in 0) x₀; right = write_start (index_in 1) y₀ }

module _ {a b e₀ : List ℤ} {x₀ y₀ : List ℕ} {e : List ℤ} {x y : List ℕ} {n : ℕ} {c : Segments} (p : Planning a b e₀ x₀ y₀ e x y n c) where
  pub planning-few : n ≤ c.a.index + c.b.index
  planning-few = omega (arith, walk-few a b p.walk, p.ends.count)

  pub planning-next : {z z' : ℤ} {c' : Segments} → Walks a b c z c' → z' ≡ z → c.a.index + c.b.index < length a + length b
      → length a + length b ≤ length e₀ → length a + length b ≤ length x₀ → length a + length b ≤ length y₀
      → Planning a b e₀ x₀ y₀ (set e n z') (set x n c.a.index) (set y n c.b.index) (n + 1) c'
  planning-next {z} s ez h re rx ry =
      let t = segment_at (places_at a b c) z in
      record {
        done = _;
        walk = walk-next a b p.walk s;
        ends = write_next end_of p.ends (omega (arith, planning-few)) t (ez ∙ s.steps.natural);
        left = write_next (index_in 0) p.left (omega (arith, planning-few)) t refl;
        right = write_next (index_in 1) p.right (omega (arith, planning-few)) t refl;
      }

  pub planning-end : length a + length b ≤ c.a.index + c.b.index → PlanFilled (segments_of a b) e₀ e x₀ x y₀ y n
  planning-end h =
      rw (walk_end a b p.walk h)
      (record { count = p.ends.count; ends = p.ends.entries; left = p.left.entries; right = p.right.entries })

-- ---- what is promised

pub plan-written : {q : Question} (ss : List Segment) {e e' : List ℤ} {x x' y y' : List ℕ} {n : ℕ} → q ≡ None → PlanFilled ss e e' x x' y y' n
    → WrittenPlan (q otherwise ss) (Ok n) e e' x x' y y'
plan-written ss h f = rw h (record { answer = ap answers f.count; ends = f.ends; left = f.left; right = f.right })

pub plan-refused : {q : Question} (ss : List Segment) (r : Result ℕ Refusal) (e : Refusal) {b : List ℤ} {x y : List ℕ}
    → IsErrAnd r (λ (z : Refusal). z ≡ e) → Some (paper e) ≡ q → WrittenPlan (q otherwise ss) r b b x x y y
plan-refused ss r e h f = rw (sym f, passed_on r e h) (record { answer = refl; ends = refl; left = refl; right = refl })
