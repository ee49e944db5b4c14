-- What the workers leave and require.
use Rattle.std.specs.Prelude.{ℕ, ◌+◌, ◌-◌, ◌≤◌, ◌<◌, ◌^◌, Bool, cond, List, ◌≡◌, ℤ, pos, length, get_or, set, eqb, None}
use Rattle.column.specs.Questions.{ends_valid}
use Rattle.column.specs.Workers.{place_after}
use Rattle.merge_mask.specs.declared.inner.GroupWriter.{GroupWriter}

-- whose value its group keeps then, where the last is to be kept or the first
abbrev pub kept_after : Bool → Bool → ℕ → ℕ → ℕ
kept_after joins last kept run = cond joins (cond last run kept) run

-- run r of a sequence can be written there
pub record Writable (w : GroupWriter) (joins : Bool) (es vs : List ℤ) (r : ℕ) (e v : List ℤ) : Type 0 where
  pub small : w.at + 1 < 2 ^ 64
  pub kept : w.kept ≤ r
  pub run_ends : r < length es
  pub run_values : r < length vs
  pub room_ends : place_after joins w.at < length e
  pub room_values : place_after joins w.at < length v

-- it was written, into two buffers, each before and after
pub record WroteRun (w : GroupWriter) (joins last : Bool) (es vs : List ℤ) (r : ℕ) (e e' v v' : List ℤ) (next : GroupWriter) : Type 0 where
  pub place : next.at ≡ place_after joins w.at
  pub kept : next.kept ≡ kept_after joins last w.kept r
  pub ends : e' ≡ set e (place_after joins w.at) (get_or es r (pos 0))
  pub values : v' ≡ set v (place_after joins w.at) (get_or vs (kept_after joins last w.kept r) (pos 0))

-- a valid sequence, and room for as many runs
pub record Mergeable (es vs e v : List ℤ) : Type 0 where
  pub valid : ends_valid es ≡ None
  pub paired : length es ≡ length vs
  pub room_ends : length es ≤ length e
  pub room_values : length es ≤ length v

-- does the run after run i join it
abbrev pub joins_at : List ℕ → ℕ → Bool
joins_at mask i = eqb (get_or mask i 0) 1

-- what is told of each run and the next is what the mask says
abbrev pub Tells : (ℕ → ℕ → Bool → Type 0) → List ℕ → ℕ → Type 0
Tells told mask n = (run : ℕ) (b : Bool) → 0 < run → run < n → told (run - 1) run b → b ≡ joins_at mask (run - 1)
