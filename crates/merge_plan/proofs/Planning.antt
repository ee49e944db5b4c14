-- A loop that writes the end of each group and one past its last run: the first `run` runs are in the groups so far, and `group` is the place of the
-- group that the next one is in.
-- Assumes nothing.
use Prim.Native.Nat.{ℕ, suc, ◌+◌, ◌-◌, ◌≤◌, ◌<◌}
use mathlib.Core.Bool.{Bool, true, false}
use mathlib.Core.List.{List, [], ◌∷◌, ◌++◌}
use mathlib.Core.Path.{◌≡◌, refl, sym, ap, ap₂, ◌∙◌}
use native.Mathlib.Numerals.{add-one}
use native.Mathlib.Omega.{arith}
use lib.IntN.{ℤ, pos}
use lib.ListN.{length, get_or, take, set, length-set}
use lib.Seq.{take_all}
use Rattle.num.proofs.Tests.{by-test}
use Rattle.column.specs.Workers.{mask_ones}
use Rattle.column.specs.Runs.{over}
use Rattle.column.proofs.Buffer.{over_store, over-next}
use Rattle.merge_mask.specs.Calls.{Group, groups}
use Rattle.merge_plan.specs.Calls.{group_ends, past_each, group_offsets}
use Rattle.column.specs.Workers.{place_after}
use Rattle.merge_mask.specs.Workers.{joins_at}
use Rattle.merge_plan.specs.Workers.{Stored, Planned}
use Rattle.merge_mask.proofs.First.{over-again, over_first}
use Rattle.merge_mask.proofs.Groups.{place_up, push_group, push_cons, place-next, group_place, place_is, place_le, le_place, length_push, new_last}
use Rattle.merge_mask.proofs.Groups.{groups-take, groups-count, push_store}

-- how many runs groups have
abbrev count_runs : List (Group ℤ) → ℕ
count_runs [] = 0
count_runs (g ∷ gs) = g.count + count_runs gs

count_push : (joins : Bool) (gs : List (Group ℤ)) (y : ℤ) → count_runs (push_group joins gs y) ≡ suc (count_runs gs)
unfolding push_group
count_push joins [] y = refl
count_push true (g ∷ []) y = omega arith
count_push false (g ∷ []) y = omega arith
count_push joins (g ∷ h ∷ gs) y = let e = count_push joins (h ∷ gs) y in omega arith

length-past : (n : ℕ) (gs : List (Group ℤ)) → length (past_each n gs) ≡ length gs
unfolding past_each
length-past n [] = refl
length-past n (g ∷ gs) = ap suc (length-past (n + g.count) gs)

-- one run more ends its group
past-last : (n : ℕ) (joins : Bool) (g : Group ℤ) (y : ℤ)
    → past_each n (push_group joins (g ∷ []) y) ≡ take (group_place joins (g ∷ [])) (past_each n (g ∷ [])) ++ (n + suc (g.count + 0)) ∷ []
unfolding past_each push_group
past-last n true g y = let e : n + suc g.count ≡ n + suc (g.count + 0) = omega arith in ap (λ (k : ℕ). k ∷ []) e
past-last n false g y = let e : n + g.count + 1 ≡ n + suc (g.count + 0) = omega arith in ap (λ (k : ℕ). (n + g.count) ∷ k ∷ []) e

past-none : (n : ℕ) (joins : Bool) (y : ℤ) → past_each n (push_group joins [] y) ≡ take (group_place {A = ℤ} joins []) [] ++ (n + suc 0) ∷ []
unfolding past_each push_group
past-none n true y = refl
past-none n false y = refl

past_push : (n : ℕ) (joins : Bool) (gs : List (Group ℤ)) (y : ℤ)
    → past_each n (push_group joins gs y) ≡ take (group_place joins gs) (past_each n gs) ++ (n + suc (count_runs gs)) ∷ []
unfolding past_each
past_push n joins [] y = past-none n joins y
past_push n joins (g ∷ []) y = past-last n joins g y
past_push n joins (g ∷ h ∷ gs) y =
    let m = n + g.count in
    let e : m + suc (count_runs (h ∷ gs)) ≡ n + suc (count_runs (g ∷ h ∷ gs)) = omega arith in
    ap (past_each n) (push_cons joins g (h ∷ gs) y (omega arith))
    ∙ ap {B = List ℕ} (λ l. m ∷ l) (past_push m joins (h ∷ gs) y)
    ∙ ap₂ (λ (k i : ℕ). take k (past_each n (g ∷ h ∷ gs)) ++ i ∷ []) (sym (place-next joins g (h ∷ gs) (omega arith))) e

offsets_store : (joins : Bool) (gs : List (Group ℤ)) (y : ℤ) (before : List ℕ) → group_place joins gs + 1 < length before
    → set (over (group_offsets gs) before) (group_place joins gs + 1) (count_runs gs + 1) ≡ over (group_offsets (push_group joins gs y)) before
offsets_store joins gs y before room =
    let at = group_place joins gs in
    let n = length-past 0 gs in
    let l = place_le joins gs in
    let k = le_place joins gs in
    let c : count_runs gs + 1 ≡ 0 + suc (count_runs gs) = omega arith in
    rw (add-one at)
    (over_store (group_offsets gs) before (suc at) (count_runs gs + 1) (omega arith) (omega arith) (omega arith)
    ∙ ap (λ (r : List ℕ). over (0 ∷ r) before) (ap (λ (i : ℕ). take at (past_each 0 gs) ++ i ∷ []) c ∙ sym (past_push 0 joins gs y)))

-- ---- the loop

pub record Planning (gs : List (Group ℤ)) (joins : Bool) (e₀ e : List ℤ) (x₀ x : List ℕ) (group run : ℕ) : Type 0 where
  pub ends : e ≡ over (group_ends gs) e₀
  pub offsets : x ≡ over (group_offsets gs) x₀
  pub long_ends : length e ≡ length e₀
  pub long_offsets : length x ≡ length x₀
  pub place : group ≡ group_place joins gs
  pub few : group ≤ run
  pub count : count_runs gs ≡ run

planning-more : {gs : List (Group ℤ)} {joins : Bool} {e₀ e e' : List ℤ} {x₀ x x' : List ℕ} {group run : ℕ}
    → Planning gs joins e₀ e x₀ x group run → (y : ℤ) {past : ℕ} → Stored e e' x x' group y past → past ≡ run + 1
    → run < length e₀ → run + 1 < length x₀ → (next : Bool)
    → Planning (push_group joins gs y) next e₀ e' x₀ x' (place_after next group) (run + 1)
unfolding group_ends
planning-more {gs} {joins} {e₀} {x₀ = x₀} {group = group} {run} n y d ep room_e room_x next = record {
  ends = push_store (λ (g : Group ℤ). g.last) joins gs y e₀ n.ends d.ends n.place (sym (new_last joins gs y)) (omega (arith, n.few));
  offsets = d.offsets ∙ rw (n.offsets, n.place, ep, ← n.count) (offsets_store joins gs y x₀ (omega (arith, n.place, n.few)));
  long_ends = ap length d.ends ∙ rw length-set n.long_ends;
  long_offsets = ap length d.offsets ∙ rw length-set n.long_offsets;
  place = place_is next (push_group joins gs y) group (rw length_push (ap (λ (k : ℕ). k + 1) n.place));
  few = omega (arith, n.few, place_up next group);
  count = count_push joins gs y ∙ omega (arith, n.count);
}

-- of the first runs of all
pub record Grouping (es : List ℤ) (mask : List ℕ) (e₀ e : List ℤ) (x₀ x : List ℕ) (group run : ℕ) : Type 0 where
  pub planning : Planning (groups (take run es) mask) (joins_at mask (run - 1)) e₀ e x₀ x group run

pub grouping_start : (es : List ℤ) (mask : List ℕ) (e₀ : List ℤ) (x₀ : List ℕ) {x : List ℕ}
    → x ≡ set x₀ 0 0 → 0 < length x₀ → Grouping es mask e₀ e₀ x x 0 0
unfolding groups group_ends past_each over
grouping_start es mask e₀ x₀ e k = record {
  planning = record {
    ends = refl;
    offsets = over-again (0 ∷ []) x₀ (e ∙ over-next [] x₀ 0 0 refl k);
    long_ends = refl;
    long_offsets = refl;
    place = by-test (joins_at mask (0 - 1)) (λ t. rw t) (λ t. rw t);
    few = omega arith;
    count = refl;
  };
}

-- no runs: the leading 0 alone
pub grouping_none : (es : List ℤ) (mask : List ℕ) (e₀ : List ℤ) (x₀ : List ℕ) → length es ≡ 0 → 0 < length x₀ → Planned (groups es mask) e₀ e₀ x₀ (set x₀ 0 0) 0
unfolding groups group_ends past_each over
grouping_none [] mask e₀ x₀ h k = record { count = refl; ends = refl; offsets = over-next [] x₀ 0 0 refl k }
grouping_none (y ∷ es) mask e₀ x₀ h k = let z : ⊥ = omega arith in absurd z

module _ {es : List ℤ} {mask : List ℕ} {e₀ e : List ℤ} {x₀ x : List ℕ} {group run : ℕ} (n : Grouping es mask e₀ e x₀ x group run)
    (within : run < length es) (room_e : length es ≤ length e₀) (room_x : length es + 1 ≤ length x₀) where
  module _ {e' : List ℤ} {x' : List ℕ} {y : ℤ} {past : ℕ} (d : Stored e e' x x' group y past) (ey : y ≡ get_or es run (pos 0)) (ep : past ≡ run + 1) where
    grouped : (next : Bool) → Planning (groups (take (run + 1) es) mask) next e₀ e' x₀ x' (place_after next group) (run + 1)
    grouped next =
        rw (groups-take es run (pos 0) mask within, ← ey)
        (planning-more n.planning y d ep (omega arith) (omega arith) next)

    pub grouping_more : {group' : ℕ} → group' ≡ place_after (joins_at mask run) group → Grouping es mask e₀ e' x₀ x' group' (run + 1)
    grouping_more eg =
        let r : run + 1 - 1 ≡ run = omega arith in
        record { planning = rw (r, eg) (grouped (joins_at mask run)) }

    -- the last run closes its group; z₀ are the offsets as they were lent
    pub grouping_end : (z₀ : List ℕ) {k : ℕ} → x₀ ≡ set z₀ 0 0 → run + 1 ≡ length es → length mask ≡ length es - 1
        → k ≡ length es - mask_ones mask → Planned (groups es mask) e₀ e' z₀ x' k
    grouping_end z₀ {k} ez er em ek =
        let all : take (run + 1) es ≡ es = take_all (run + 1) es (omega arith) in
        let g = rw all at (grouped true) in
        let c = groups-count es mask em in
        let l : length x₀ ≡ length z₀ = ap length ez ∙ simp length-set refl in
        let long : 0 < length z₀ = omega arith in
        record {
          count = omega arith;
          ends = g.ends;
          offsets = g.offsets ∙ over_first (group_offsets (groups es mask)) z₀ 0 ez (omega arith) long;
        }
