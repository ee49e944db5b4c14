-- A sequence: its ends and values, its runs, and the values that it shows position by position.
use Rattle.std.specs.Prelude.{ℕ, zero, suc, ◌-◌, cond, List, [], ◌∷◌, ◌++◌, map, ◌≡◌, ℤ, pos, negsuc, length, get_or, drop, replicate}
use Rattle.num.specs.Numbers.{eq_z}
use Rattle.column.specs.Lent.{Lent, given, after}

-- "A sequence is a list of ends and an equally long list of values", as a call is handed it
pub record Sequence : Type 0 where
  pub ends : List ℤ
  pub values : List ℤ

abbrev pub sequence : List ℤ → List ℤ → Sequence
sequence es vs = record { ends = es; values = vs }

-- a run: its end, and its value
pub record Run : Type 0 where
  pub end : ℕ
  pub value : ℤ

abbrev pub Runs : Type 0
Runs = List Run

-- a natural number as it is, and 0 for a number below 0
abbrev pub to_nat : ℤ → ℕ
to_nat (pos n) = n
to_nat (negsuc n) = 0

-- the runs that two flat lists say
unfoldable pub runs_of : List ℤ → List ℤ → Runs
runs_of [] vs = []
runs_of (e ∷ es) [] = []
runs_of (e ∷ es) (v ∷ vs) = record { end = to_nat e; value = v } ∷ runs_of es vs

abbrev pub runs : Sequence → Runs
runs s = runs_of s.ends s.values

-- and back: the ends and the values of runs
unfoldable pub ends_of : Runs → List ℤ
ends_of rs = map (λ (r : Run). pos r.end) rs

unfoldable pub values_of : Runs → List ℤ
values_of rs = map (λ (r : Run). r.value) rs

-- "The length is the last end, or 0"
abbrev pub last_end : ℕ → Runs → ℕ
last_end p [] = p
last_end p (r ∷ rs) = last_end r.end rs

unfoldable pub length_of : Runs → ℕ
length_of rs = last_end 0 rs

-- the same of a list of ends as it is handed in, from the end before it on
abbrev pub last_from : ℤ → List ℤ → ℤ
last_from before [] = before
last_from before (e ∷ es) = last_from e es

unfoldable pub length_of_ends : List ℤ → ℤ
length_of_ends es = last_from (pos 0) es

-- "the end before it (0 for the first)", of the run at an index
abbrev pub end_before : List ℤ → ℕ → ℤ
end_before es zero = pos 0
end_before es (suc i) = get_or es i (pos 0)

-- "Run r covers positions from the end before it (0 for the first) up to its own end": the values shown, one for each position
unfoldable pub dense_from : ℕ → Runs → List ℤ
dense_from p [] = []
dense_from p (r ∷ rs) = replicate (r.end - p) r.value ++ dense_from r.end rs

unfoldable pub dense : Runs → List ℤ
dense rs = dense_from 0 rs

-- a run that ends at p + 1 with value x, before the runs that follow: none of its own where the next run has the value x
unfoldable pub joined : ℕ → ℤ → Runs → Runs
joined p x [] = record { end = suc p; value = x } ∷ []
joined p x (r ∷ rs) = cond (eq_z x r.value) (r ∷ rs) (record { end = suc p; value = x } ∷ r ∷ rs)

-- "A sequence is merged when neighbouring values differ": the merged runs that show the values, from position p on
unfoldable pub encode_from : ℕ → List ℤ → Runs
encode_from p [] = []
encode_from p (x ∷ xs) = joined p x (encode_from (suc p) xs)

unfoldable pub encode : List ℤ → Runs
encode xs = encode_from 0 xs

-- a run up to e after the runs: the last run grows if it has the value already
unfoldable pub push_merged : Runs → ℕ → ℤ → Runs
push_merged [] e v = record { end = e; value = v } ∷ []
push_merged (r ∷ []) e v = cond (eq_z r.value v) (record { end = e; value = v } ∷ []) (r ∷ record { end = e; value = v } ∷ [])
push_merged (r ∷ q ∷ rs) e v = r ∷ push_merged (q ∷ rs) e v

-- "It fills that many first entries of each output buffer; later entries keep what they held"
unfoldable pub over : {A : Type 0} → List A → List A → List A
over xs before = xs ++ drop (length xs) before

-- two buffers, before and after, into whose front the runs were written, and how many they are
pub record Filled (rs : Runs) (e e' v v' : List ℤ) (n : ℕ) : Type 0 where
  pub count : n ≡ length rs
  pub ends : e' ≡ over (ends_of rs) e
  pub values : v' ≡ over (values_of rs) v

-- of the buffers that a call is lent
abbrev pub Fills : Runs → Lent ℤ → Lent ℤ → ℕ → Type 0
Fills rs e v n = Filled rs (given e) (after e) (given v) (after v) n
