-- Cut points, the pieces between them, and calls that get what earlier calls returned.
use Rattle.std.specs.Prelude.{ℕ, suc, ◌^◌, Bool, false, ◌&&◌, List, [], ◌∷◌, ℤ, pos, ◌+ℤ◌, eqb, None}
use Rattle.std.specs.Int.Signed.{le_z, lt_z}
use Rattle.num.specs.Numbers.{eq_z, wrap}
use Rattle.column.specs.Combine.{many, greatest_length}
use Rattle.column.specs.Flat.{Flat, flat, flat_offsets, flat_ends, flat_values}
use Rattle.column.specs.Lists.{any}
use Rattle.column.specs.Paper.{Outcome, answers, refuses}
use Rattle.column.specs.Runs.{Sequence, sequence, Runs, ends_of, values_of}
use Rattle.batch.specs.Batch.{Batch, Entry, keys_of, columns_of}

-- ---- cut points

-- "The longest length is the greatest handed in, or 0", whichever fills are given
abbrev pub longest : List Runs → ℕ
longest cs = greatest_length (many None cs)

-- from p on the points never fall, the last reaches n, and it is an i64, as all of them then are
abbrev pub reaches : ℕ → ℤ → List ℤ → Bool
reaches n p [] = le_z (pos n) p && lt_z p (pos (2 ^ 63))
reaches n p (q ∷ ps) = le_z p q && reaches n q ps

-- "every list of two or more cut points that starts at 0, never falls and reaches the longest length", which is n
abbrev pub cut_points : ℕ → List ℤ → Bool
cut_points n [] = false
cut_points n (p ∷ []) = false
cut_points n (p ∷ q ∷ ps) = eq_z p (pos 0) && reaches n p (q ∷ ps)

-- "from each cut point (i64) to the next"
pub record Span : Type 0 where
  pub start : ℤ
  pub end : ℤ

abbrev pub spans_from : ℤ → List ℤ → List Span
spans_from p [] = []
spans_from p (q ∷ ps) = record { start = p; end = q } ∷ spans_from q ps

abbrev pub spans : List ℤ → List Span
spans [] = []
spans (p ∷ ps) = spans_from p ps

-- f of each entry and of its number, from i on
abbrev pub numbered : {A B : Type 0} → (ℕ → A → B) → ℕ → List A → List B
numbered f i [] = []
numbered f i (x ∷ xs) = f i x ∷ numbered f (suc i) xs

-- ---- "what earlier calls returned .. laid flat where a call takes several"

abbrev pub sequence_of : Runs → Sequence
sequence_of rs = sequence (ends_of rs) (values_of rs)

abbrev pub flat_of : List Runs → Flat
flat_of cs = flat (flat_offsets cs) (flat_ends cs) (flat_values cs)

abbrev pub batch_of : List Entry → Batch
batch_of es = record { keys = keys_of es; flat = flat_of (columns_of es) }

infixl 20 ◌then◌
-- a call that gets what an earlier one answered; "after a refusal nothing is joined"
abbrev pub ◌then◌ : {X Y : Type 0} → Outcome X → (X → Outcome Y) → Outcome Y
answers x then next = next x
refuses r then next = refuses r

-- one call after the other: all that they answered, or the first refusal
abbrev pub in_turn : {X : Type 0} → List (Outcome X) → Outcome (List X)
in_turn [] = answers []
in_turn (o ∷ os) = o then (λ x. in_turn os then (λ xs. answers (x ∷ xs)))

-- ---- refusals, and sums

abbrev pub refused_with : {X : Type 0} → ℕ → Outcome X → Bool
refused_with number (answers x) = false
refused_with number (refuses r) = eqb r.number number

-- "Some set of pieces is refused"
abbrev pub some_refused_with : {X : Type 0} → ℕ → List (Outcome X) → Bool
some_refused_with number os = any (refused_with number) os

-- "add, wrapping", from a on
unfoldable pub add_wrapping : ℤ → List ℤ → ℤ
add_wrapping a [] = a
add_wrapping a (z ∷ zs) = add_wrapping (wrap (a +ℤ z)) zs
