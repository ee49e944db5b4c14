-- What the workers require and leave.
use Rattle.std.specs.Prelude.{ℕ, ◌+◌, ◌-◌, ◌≤◌, ◌<◌, ◌^◌, List, [], ◌∷◌, ◌++◌, map, ◌≡◌, ℤ, pos, length, get_or, None}
use Rattle.column.specs.Flat.{Flat, columns, offsets_flat, ends_flat}
use Rattle.column.specs.Lists.{total}
use Rattle.column.specs.Questions.{ends_valid}
use Rattle.column.specs.Runs.{to_nat, runs_of, length_of, length_of_ends}

-- what is known once concat is not refused
pub record Joinable (f : Flat) (e v : List ℤ) : Type 0 where
  pub paired : length f.ends ≡ length f.values
  pub offsets : offsets_flat f ≡ None
  pub valid : ends_flat f ≡ None
  pub fitting : total (map length_of (columns f)) < 2 ^ 63
  pub room_ends : length f.ends ≤ length e
  pub room_values : length f.ends ≤ length v

-- ---- reversed

-- what is made of each entry is g of it
abbrev pub Makes : (ℤ → ℤ → Type 0) → (ℤ → ℤ) → List ℤ → Type 0
Makes made g xs = (i : ℕ) (y : ℤ) → i < length xs → made (get_or xs i (pos 0)) y → y ≡ g (get_or xs i (pos 0))

-- how far it is from the start of each run to n, the last run first, the first of them from p on
unfoldable pub turned_from : ℕ → ℕ → List ℤ → List ℤ
turned_from n p [] = []
turned_from n p (e ∷ es) = turned_from n (to_nat e) es ++ pos (n - p) ∷ []

abbrev pub turned_ends : List ℤ → List ℤ
turned_ends es = turned_from (to_nat (length_of_ends es)) 0 es

-- ---- concat of two

-- two sequences whose joined length fits, and room for them
pub record JoinableTwo (ea va eb vb e v : List ℤ) : Type 0 where
  pub valid_a : ends_valid ea ≡ None
  pub valid_b : ends_valid eb ≡ None
  pub paired_a : length ea ≡ length va
  pub paired_b : length eb ≡ length vb
  pub fitting : length_of (runs_of ea va) + length_of (runs_of eb vb) < 2 ^ 63
  pub room_ends : length ea + length eb ≤ length e
  pub room_values : length ea + length eb ≤ length v
