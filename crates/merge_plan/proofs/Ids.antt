-- The ids of one group after another. Behind the last group there may be any entries as far as the last offset, which is the limit.
-- Assumes nothing.
use Prim.Native.Nat.{ℕ, suc, ◌+◌, ◌-◌, ◌≤◌, ◌<◌}
use mathlib.Core.Bool.{true}
use mathlib.Core.List.{List, [], ◌∷◌, ◌++◌, append_assoc, append-nil}
use mathlib.Core.Path.{◌≡◌, refl, sym, ap, ap₂, ◌∙◌}
use native.Mathlib.Numerals.{add-one}
use native.Mathlib.Omega.{arith}
use lib.ListN.{length, get_or, take, drop, set, replicate, length-append, length-replicate, length-drop, replicate-append-replicate, take-append-drop}
use lib.ListN.{drop_of_length-le}
use lib.Seq.{take-append-le, take_at, length-take-le, drop-append-add, drop-drop, drop-cons}
use Rattle.column.specs.Questions.{start_and_rise, last_offset}
use Rattle.column.specs.Runs.{over}
use Rattle.column.proofs.Buffer.{stretched, stretched-none, stretched-more}
use Rattle.column.proofs.Flattened.{offsets-some, offset-within}
use Rattle.column.proofs.Lists.{last_is}
use Rattle.column.proofs.YesNo.{offsets-yes}
use Rattle.merge_plan.specs.Calls.{ids_from, ids_at}
use Rattle.merge_plan.specs.Workers.{PutIds, FilledIds}

-- ---- one id, or a block

stored : (l : List ℕ) (p e v : ℕ) {b : List ℕ} → b ≡ stretched l p e v → p ≤ e → e < length l → set b e v ≡ stretched l p (e + 1) v
stored l p e v d h k = ap (λ (b : List ℕ). set b e v) d ∙ stretched-more l p e v h k

pub put_one : (l : List ℕ) (p limit v : ℕ) → p < limit → limit ≤ length l → PutIds l (set l p v) p limit v (p + 1)
put_one l p limit v h k = record { some = omega arith; within = omega arith; entries = stored l p p v (sym (stretched-none l p v)) (omega arith) (omega arith) }

pub put_block : (l : List ℕ) (p limit v : ℕ) → p + 4 ≤ limit → limit ≤ length l
    → PutIds l (set (set (set (set l p v) (p + 1) v) (p + 2) v) (p + 3) v) p limit v (p + 4)
put_block l p limit v h k =
    let two : p + 1 + 1 ≡ p + 2 = omega arith in
    let three : p + 2 + 1 ≡ p + 3 = omega arith in
    let four : p + 3 + 1 ≡ p + 4 = omega arith in
    let a = stored l p p v (sym (stretched-none l p v)) (omega arith) (omega arith) in
    let b = stored l p (p + 1) v a (omega arith) (omega arith) ∙ ap (λ (n : ℕ). stretched l p n v) two in
    let c = stored l p (p + 2) v b (omega arith) (omega arith) ∙ ap (λ (n : ℕ). stretched l p n v) three in
    let d = stored l p (p + 3) v c (omega arith) (omega arith) ∙ ap (λ (n : ℕ). stretched l p n v) four in
    record { some = omega arith; within = h; entries = d }

-- ---- a group

-- its ids as far as i
pub record Filling (b₀ b : List ℕ) (from limit id i : ℕ) : Type 0 where
  pub begun : from ≤ i
  pub within : i ≤ limit
  pub long : length b ≡ length b₀
  pub filled : FilledIds b₀ b from i limit id

pub filling_start : (b : List ℕ) (from limit id : ℕ) → from ≤ limit → Filling b b from limit id from
filling_start b from limit id h =
    let n : from - from ≡ 0 = omega arith in
    record { begun = omega arith; within = h; long = refl; filled = record { ids = rw n (sym (append-nil (take from b))); rest = refl } }

module _ {b₀ b : List ℕ} {from limit id i : ℕ} (n : Filling b₀ b from limit id i) (room : limit ≤ length b₀) where
  pub filling_more : {b' : List ℕ} {r : ℕ} → PutIds b b' i limit id r → Filling b₀ b' from limit id r
  filling_more {b'} {r} p =
      let xs = take i b ++ replicate (r - i) id in
      let l : length (take i b) ≡ i = length-take-le i b (omega (arith, n.within, n.long)) in
      let m : length xs ≡ r = simp (length-append, length-replicate) (omega (arith, p.some)) in
      let k : i - from + (r - i) ≡ r - from = omega (arith, n.begun, p.some) in
      let d : limit ≡ length xs + (limit - r) = omega (arith, p.within) in
      let f : r + (limit - r) ≡ limit = omega (arith, p.within) in
      record {
        begun = omega (arith, n.begun, p.some);
        within = p.within;
        long = ap length p.entries ∙ simp (length-append, length-drop, length-replicate) (omega (arith, l, n.long, p.some, p.within));
        filled = record {
          ids = ap (take r) p.entries ∙ take_at xs (drop r b) r m ∙ ap (λ (t : List ℕ). t ++ replicate (r - i) id) n.filled.ids
              ∙ append_assoc (take from b₀) (replicate (i - from) id) (replicate (r - i) id)
              ∙ ap (λ (t : List ℕ). take from b₀ ++ t) (replicate-append-replicate (i - from) (r - i) id ∙ ap (λ (q : ℕ). replicate q id) k);
          rest = ap (drop limit) p.entries ∙ ap (λ (q : ℕ). drop q (xs ++ drop r b)) d ∙ drop-append-add xs (drop r b) (limit - r)
              ∙ drop-drop (limit - r) r b
              ∙ ap (λ (q : ℕ). drop q b) f ∙ n.filled.rest;
        };
      }

  -- up to its end, which may be passed
  pub filling_end : (to : ℕ) → from ≤ to → to ≤ i → FilledIds b₀ b from to limit id
  filling_end to h k =
      let front = take from b₀ ++ replicate (to - from) id in
      let m : to - from + (i - to) ≡ i - from = omega arith in
      let l : length front ≡ to = simp (length-append, length-replicate, length-take-le from b₀ (omega (arith, n.begun, n.within))) (omega arith) in
      let e : take from b₀ ++ replicate (i - from) id ≡ front ++ replicate (i - to) id =
      ap (λ (t : List ℕ). take from b₀ ++ t) (ap (λ (q : ℕ). replicate q id) (sym m) ∙ sym (replicate-append-replicate (to - from) (i - to) id))
      ∙ sym (append_assoc (take from b₀) (replicate (to - from) id) (replicate (i - to) id)) in
      record {
        ids = ap (take to) (sym (take-append-drop i b))
            ∙ take-append-le to (take i b) (drop i b) (omega (arith, length-take-le i b (omega (arith, n.within, n.long))))
            ∙ ap (take to) (n.filled.ids ∙ e) ∙ take_at front (replicate (i - to) id) to l;
        rest = n.filled.rest;
      }

-- ---- group by group: the groups before `group` are written, and `from` is where it starts

pub record Numbering (os b₀ b : List ℕ) (limit from group : ℕ) : Type 0 where
  pub starts : from ≡ get_or os group 0
  pub written : take from b ++ ids_from group from (drop (group + 1) os) ≡ ids_at os
  pub rest : drop limit b ≡ drop limit b₀
  pub long : length b ≡ length b₀

module _ {os b₀ b : List ℕ} {limit from group : ℕ} (n : Numbering os b₀ b limit from group)
    (t : start_and_rise os ≡ true) (el : limit ≡ last_offset 0 os) (room : last_offset 0 os ≤ length b₀) where
  pub numbering_end : group ≡ length os - 1 → (from ≡ length (ids_at os)) × (b ≡ over (ids_at os) b₀)
  unfolding ids_from over
  numbering_end h =
      let some : 0 < length os = offsets-some os limit (offsets-yes os limit t (sym el)) in
      let none : drop (group + 1) os ≡ [] = drop_of_length-le os {i = group + 1} (omega arith) in
      let last = last_is os (λ z. let f : ⊥ = omega arith in f) in
      let all : from ≡ limit = n.starts ∙ ap (λ (k : ℕ). get_or os k 0) h ∙ sym last ∙ sym el in
      let ids : take from b ≡ ids_at os = sym (append-nil (take from b)) ∙ rw none at n.written in
      let many : from ≡ length (ids_at os) = sym (length-take-le from b (omega (arith, n.long))) ∙ ap length ids in (
        many,
        sym (take-append-drop from b)
            ∙ ap₂ (λ (l r : List ℕ). l ++ r) ids (ap (λ (k : ℕ). drop k b) all ∙ n.rest ∙ ap (λ (k : ℕ). drop k b₀) (sym all ∙ many)),
      )

  module _ (h : group + 1 < length os) where
    abbrev to : ℕ
    to = get_or os (group + 1) 0

    pub numbering_room : (from ≤ to) × (to ≤ limit) × (limit ≤ length b)
    numbering_room =
        let w = offset-within os limit group (offsets-yes os limit t (sym el)) h in
        (omega (arith, n.starts), w.1, omega (arith, n.long))

    pub numbering_more : {b' : List ℕ} → FilledIds b b' from to limit group → length b' ≡ length b → Numbering os b₀ b' limit to (group + 1)
    unfolding ids_from
    numbering_more f l =
        let next = drop (group + 1 + 1) os in
        let split : drop (group + 1) os ≡ to ∷ next = drop-cons os (group + 1) 0 h ∙ ap (λ (k : ℕ). to ∷ drop k os) (sym (add-one (group + 1))) in
        record {
          starts = refl;
          written = ap₂ (λ (t : List ℕ) (g : ℕ). t ++ ids_from g to next) f.ids (add-one group)
              ∙ append_assoc (take from b) (replicate (to - from) group) (ids_from (suc group) to next)
              ∙ rw split at n.written;
          rest = f.rest ∙ n.rest;
          long = l ∙ n.long;
        }
