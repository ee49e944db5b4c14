-- What a worker wrote, after a "yes" to every question, is what a call promises; and so is what was there, after a "no".
-- Assumes nothing.
use Prim.Native.Nat.{ℕ}
use Rattle.std.specs.Prelude.{Some, None, Result, Ok, Err, IsErrAnd}
use mathlib.Core.List.{List}
use mathlib.Core.Path.{◌≡◌, refl, ap, sym}
use lib.IntN.{ℤ}
use lib.ListN.{length}
use Rattle.column.specs.declared.error.Refusal.{Refusal}
use Rattle.column.specs.Asking.{Question, ◌otherwise◌}
use Rattle.column.specs.Paper.{answers, paper, outcome_of, WrittenRuns, WrittenEntries}
use Rattle.column.specs.Runs.{Runs, over, Filled}

-- what the code returns at a "no" is that refusal
pub passed_on : {X : Type 0} (r : Result X Refusal) (e : Refusal) → IsErrAnd r (λ (y : Refusal). y ≡ e) → r ≡ Err e
passed_on (Ok x) e h = elim h [ ]
passed_on (Err y) e h = ap Err h

pub runs-written : {q : Question} (rs : Runs) {e e' v v' : List ℤ} {n : ℕ} → q ≡ None → Filled rs e e' v v' n
    → WrittenRuns (q otherwise rs) (Ok n) e e' v v'
runs-written rs h f = rw h (record { answer = ap answers f.count; ends = f.ends; values = f.values })

pub runs-refused : {q : Question} (rs : Runs) (r : Result ℕ Refusal) (e : Refusal) {b v : List ℤ}
    → IsErrAnd r (λ (y : Refusal). y ≡ e) → Some (paper e) ≡ q → WrittenRuns (q otherwise rs) r b b v v
runs-refused rs r e h f = rw (sym f, passed_on r e h) (record { answer = refl; ends = refl; values = refl })

module _ {A : Type 0} where
  pub entries-written : {q : Question} (xs : List A) {b b' : List A} {n : ℕ} → q ≡ None → n ≡ length xs → b' ≡ over xs b
      → WrittenEntries (q otherwise xs) (Ok n) b b'
  entries-written xs h e f = rw h (record { answer = ap answers e; entries = f })

  pub entries-refused : {q : Question} (xs : List A) (r : Result ℕ Refusal) (e : Refusal) {b : List A}
      → IsErrAnd r (λ (y : Refusal). y ≡ e) → Some (paper e) ≡ q → WrittenEntries (q otherwise xs) r b b
  entries-refused xs r e h f = rw (sym f, passed_on r e h) (record { answer = refl; entries = refl })

-- an answer that is not a count of what was written
module _ {X : Type 0} {q : Question} where
  pub value-answered : {x y : X} → q ≡ None → x ≡ y → answers x ≡ q otherwise y
  value-answered h e = rw (h, e)

  pub value-refused : (y : X) (r : Result X Refusal) (e : Refusal) → IsErrAnd r (λ (z : Refusal). z ≡ e) → Some (paper e) ≡ q → outcome_of r ≡ q otherwise y
  value-refused y r e h f = rw (sym f) (ap outcome_of (passed_on r e h))
