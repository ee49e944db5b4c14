-- A list that a call is lent to be written.
use Rattle.std.specs.Prelude.{List}
use Rattle.std.specs.Borrow.{MutBor}
use denote.Triple.Both.{Both}

abbrev pub Lent : Type 0 → Type 0
Lent A = Both (MutBor (List A)) (MutBor (List A))

-- what it held when the call began
abbrev pub given : {A : Type 0} → Lent A → List A
given x = x.entry.now

-- and what it holds when the call has returned
abbrev pub after : {A : Type 0} → Lent A → List A
after x = x.exit.now
