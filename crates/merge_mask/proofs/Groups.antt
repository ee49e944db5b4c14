-- Groups as a loop makes them: those of one run more, from those before it.
-- Assumes nothing.
use Prim.Native.Nat.{ℕ, zero, suc, ◌+◌, ◌-◌, ◌≤◌, ◌<◌}
use mathlib.Core.Bool.{Bool, true, false, cond}
use mathlib.Core.List.{List, [], ◌∷◌, ◌++◌, map, map-append}
use mathlib.Core.Path.{◌≡◌, refl, sym, ap, ◌∙◌}
use native.Mathlib.Numerals.{add-one}
use native.Mathlib.Omega.{arith}
use lib.Dec.{eqb}
use lib.ListN.{length, get_or, take, set, length-map, length-append}
use lib.Seq.{take-suc, length-take-le}
use Rattle.num.proofs.Tests.{by-test}
use Rattle.column.specs.Workers.{mask_ones}
use Rattle.column.specs.Runs.{over}
use Rattle.column.proofs.Buffer.{over_store}
use Rattle.merge_mask.specs.Calls.{Group, alone, in_front, groups_from, groups}
use Rattle.column.specs.Workers.{place_after}
use Rattle.merge_mask.specs.Workers.{joins_at}

pub place_up : (joins : Bool) (at : ℕ) → place_after joins at ≤ at + 1
place_up true at = omega arith
place_up false at = omega arith

map-take : {A B : Type 0} (f : A → B) (n : ℕ) (xs : List A) → take n (map f xs) ≡ map f (take n xs)
map-take f zero xs = refl
map-take f (suc n) [] = refl
map-take f (suc n) (x ∷ xs) = ap (λ l. f x ∷ l) (map-take f n xs)

module _ {A : Type 0} where
  -- a run after the last of a group
  abbrev pub grown : Group A → A → Group A
  grown g y = record { first = g.first; last = y; count = suc g.count }

  -- one run more, that joins the last group or not; the group that it is in then, and its place
  unfoldable pub push_group : Bool → List (Group A) → A → List (Group A)
  push_group joins [] y = alone y ∷ []
  push_group joins (g ∷ []) y = cond joins (grown g y ∷ []) (g ∷ alone y ∷ [])
  push_group joins (g ∷ h ∷ gs) y = g ∷ push_group joins (h ∷ gs) y

  unfoldable pub new_group : Bool → List (Group A) → A → Group A
  new_group joins [] y = alone y
  new_group joins (g ∷ []) y = cond joins (grown g y) (alone y)
  new_group joins (g ∷ h ∷ gs) y = new_group joins (h ∷ gs) y

  abbrev pub group_place : Bool → List (Group A) → ℕ
  group_place joins gs = cond joins (length gs - 1) (length gs)

  pub place-next : (joins : Bool) (g : Group A) (gs : List (Group A)) → 0 < length gs → group_place joins (g ∷ gs) ≡ suc (group_place joins gs)
  place-next true g gs h = omega arith
  place-next false g gs h = refl

  pub place_le : (joins : Bool) (gs : List (Group A)) → group_place joins gs ≤ length gs
  place_le true gs = omega arith
  place_le false gs = omega arith

  pub le_place : (joins : Bool) (gs : List (Group A)) → length gs ≤ suc (group_place joins gs)
  le_place true gs = omega arith
  le_place false gs = omega arith

  -- by the place of the last group
  pub place_is : (joins : Bool) (gs : List (Group A)) (at : ℕ) → at + 1 ≡ length gs → place_after joins at ≡ group_place joins gs
  place_is true gs at e = omega arith
  place_is false gs at e = e

  -- the groups before it stay, and the new one stands there
  pub push_place : (joins : Bool) (gs : List (Group A)) (y : A) → push_group joins gs y ≡ take (group_place joins gs) gs ++ new_group joins gs y ∷ []
  unfolding push_group new_group
  push_place true [] y = refl
  push_place false [] y = refl
  push_place true (g ∷ []) y = refl
  push_place false (g ∷ []) y = refl
  push_place joins (g ∷ h ∷ gs) y =
      ap {B = List (Group A)} (λ l. g ∷ l) (push_place joins (h ∷ gs) y)
      ∙ ap (λ (n : ℕ). take n (g ∷ h ∷ gs) ++ new_group joins (h ∷ gs) y ∷ []) (sym (place-next joins g (h ∷ gs) (omega arith)))

  pub length_push : (joins : Bool) (gs : List (Group A)) (y : A) → length (push_group joins gs y) ≡ group_place joins gs + 1
  length_push joins gs y =
      ap length (push_place joins gs y)
      ∙ simp (length-append, length-take-le (group_place joins gs) gs (place_le joins gs)) refl

  -- the last group, d where there is none
  abbrev pub last_group : Group A → List (Group A) → Group A
  last_group d [] = d
  last_group d (g ∷ gs) = last_group g gs

  pub new_group_lem : (joins : Bool) (d : Group A) (gs : List (Group A)) (y : A) → 0 < length gs
      → new_group joins gs y ≡ cond joins (grown (last_group d gs) y) (alone y)
  unfolding new_group
  new_group_lem joins d [] y h = let z : ⊥ = omega arith in absurd z
  new_group_lem joins d (g ∷ []) y h = refl
  new_group_lem joins d (g ∷ k ∷ gs) y h = new_group_lem joins g (k ∷ gs) y (omega arith)

  pub new_last : (joins : Bool) (gs : List (Group A)) (y : A) → (new_group joins gs y).last ≡ y
  unfolding new_group
  new_last joins [] y = refl
  new_last true (g ∷ []) y = refl
  new_last false (g ∷ []) y = refl
  new_last joins (g ∷ k ∷ gs) y = new_last joins (k ∷ gs) y

  pub last_push : (joins : Bool) (d : Group A) (gs : List (Group A)) (y : A) → last_group d (push_group joins gs y) ≡ new_group joins gs y
  unfolding push_group new_group
  last_push joins d [] y = refl
  last_push true d (g ∷ []) y = refl
  last_push false d (g ∷ []) y = refl
  last_push joins d (g ∷ k ∷ gs) y = last_push joins g (k ∷ gs) y

  -- ---- groups of runs, one after the other

  length_front : (x : A) (gs : List (Group A)) → 0 < length gs → length (in_front x gs) ≡ length gs
  length_front x [] h = let z : ⊥ = omega arith in absurd z
  length_front x (g ∷ gs) h = refl

  pub from_some : (x : A) (ys : List A) (mask : List ℕ) → 0 < length (groups_from x ys mask)
  unfolding groups_from
  from_some x [] mask = omega arith
  from_some x (y ∷ ys) [] = omega arith
  from_some x (y ∷ ys) (m ∷ mask) =
      by-test (eqb m 1)
      (λ t. rw t (let h = from_some y ys mask in omega (arith, length_front x (groups_from y ys mask) h)))
      (λ t. rw t (omega arith))

  pub push_cons : (joins : Bool) (g : Group A) (gs : List (Group A)) (y : A) → 0 < length gs → push_group joins (g ∷ gs) y ≡ g ∷ push_group joins gs y
  unfolding push_group
  push_cons joins g [] y h = let z : ⊥ = omega arith in absurd z
  push_cons joins g (k ∷ gs) y h = refl

  push_front : (joins : Bool) (x : A) (gs : List (Group A)) (y : A) → 0 < length gs → push_group joins (in_front x gs) y ≡ in_front x (push_group joins gs y)
  unfolding push_group
  push_front joins x [] y h = let z : ⊥ = omega arith in absurd z
  push_front true x (g ∷ []) y h = refl
  push_front false x (g ∷ []) y h = refl
  push_front joins x (g ∷ k ∷ gs) y h = refl

  from_first_lem : (x z : A) (mask : List ℕ) → groups_from x (z ∷ []) mask ≡ push_group (joins_at mask 0) (alone x ∷ []) z
  unfolding groups_from push_group
  from_first_lem x z [] = refl
  from_first_lem x z (m ∷ mask) = by-test (eqb m 1) (λ t. rw t) (λ t. rw t)

  from_push : (x : A) (ys : List A) (z : A) (mask : List ℕ) → groups_from x (ys ++ z ∷ []) mask ≡ push_group (joins_at mask (length ys)) (groups_from x ys mask) z
  unfolding groups_from
  from_push x [] z mask = from_first_lem x z mask
  from_push x (y ∷ ys) z [] =
      ap {B = List (Group A)} (λ l. alone x ∷ l) (from_push y ys z []) ∙ sym (push_cons false (alone x) (groups_from y ys []) z (from_some y ys []))
  from_push x (y ∷ ys) z (m ∷ mask) =
      let joins = joins_at mask (length ys) in
      by-test (eqb m 1)
      (λ t. rw t (ap (in_front x) (from_push y ys z mask) ∙ sym (push_front joins x (groups_from y ys mask) z (from_some y ys mask))))
      (λ t. rw t
      (ap {B = List (Group A)} (λ l. alone x ∷ l) (from_push y ys z mask)
      ∙ sym (push_cons joins (alone x) (groups_from y ys mask) z (from_some y ys mask))))

  pub groups_push : (xs : List A) (z : A) (mask : List ℕ) → groups (xs ++ z ∷ []) mask ≡ push_group (joins_at mask (length xs - 1)) (groups xs mask) z
  unfolding groups groups_from push_group
  groups_push [] z mask = refl
  groups_push (x ∷ xs) z mask =
      let n : length xs ≡ suc (length xs) - 1 = omega arith in
      from_push x xs z mask ∙ ap (λ (i : ℕ). push_group (joins_at mask i) (groups_from x xs mask) z) n

  -- the groups of the first runs, with one more of them
  pub groups-take : (xs : List A) (r : ℕ) (d : A) (mask : List ℕ) → r < length xs
      → groups (take (r + 1) xs) mask ≡ push_group (joins_at mask (r - 1)) (groups (take r xs) mask) (get_or xs r d)
  groups-take xs r d mask h =
      ap (λ (k : ℕ). groups (take k xs) mask) (add-one r)
      ∙ ap (λ (l : List A). groups l mask) (take-suc xs r d h)
      ∙ groups_push (take r xs) (get_or xs r d) mask
      ∙ ap (λ (n : ℕ). push_group (joins_at mask (n - 1)) (groups (take r xs) mask) (get_or xs r d)) (length-take-le r xs (omega arith))

  pub groups-some : (xs : List A) (mask : List ℕ) → 0 < length xs → 0 < length (groups xs mask)
  unfolding groups
  groups-some [] mask h = let z : ⊥ = omega arith in absurd z
  groups-some (x ∷ xs) mask h = from_some x xs mask

  -- ---- how many they are: a group fewer for each 1 of the mask

  from-count : (x : A) (ys : List A) (mask : List ℕ) → length mask ≡ length ys → length (groups_from x ys mask) + mask_ones mask ≡ suc (length ys)
  unfolding groups_from mask_ones
  from-count x [] [] h = refl
  from-count x [] (m ∷ mask) h = let z : ⊥ = omega arith in absurd z
  from-count x (y ∷ ys) [] h = let z : ⊥ = omega arith in absurd z
  from-count x (y ∷ ys) (m ∷ mask) h =
      by-test (eqb m 1)
      (λ t. rw t (omega (arith, length_front x (groups_from y ys mask) (from_some y ys mask), from-count y ys mask (omega arith))))
      (λ t. rw t (omega (arith, from-count y ys mask (omega arith))))

  pub groups-count : (xs : List A) (mask : List ℕ) → length mask ≡ length xs - 1 → length (groups xs mask) + mask_ones mask ≡ length xs
  unfolding groups mask_ones
  groups-count [] [] h = refl
  groups-count [] (m ∷ mask) h = let z : ⊥ = omega arith in absurd z
  groups-count (x ∷ xs) mask h = from-count x xs mask (omega arith)

  -- ---- what is written of each group: one more run stores at its group's place

  module _ {B : Type 0} (f : Group A → B) (joins : Bool) (gs : List (Group A)) (y : A) (before : List B) {now now' : List B} {p : ℕ} {x : B} where
    pub push_store : now ≡ over (map f gs) before → now' ≡ set now p x → p ≡ group_place joins gs → x ≡ f (new_group joins gs y) → p < length before
        → now' ≡ over (map f (push_group joins gs y)) before
    push_store e d ep ex room =
        let at = group_place joins gs in
        let new = f (new_group joins gs y) in
        let n = length-map gs f in
        d
        ∙ rw (e, ep, ex) (over_store (map f gs) before at new (rw n (place_le joins gs)) (rw n (le_place joins gs)) (rw ep at room))
        ∙ ap (λ (l : List B). over l before)
        (ap (λ (l : List B). l ++ new ∷ []) (map-take f at gs)
        ∙ sym (map-append f (take at gs) (new_group joins gs y ∷ []))
        ∙ ap (map f) (sym (push_place joins gs y)))
