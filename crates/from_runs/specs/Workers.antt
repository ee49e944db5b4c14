-- What the workers leave.
use Rattle.std.specs.Prelude.{ℕ, ◌+◌, cond, List, ◌≡◌, ℤ, pos, set}
use Rattle.num.specs.Numbers.{eq_z}

-- a run put at entry n of two buffers, each before and after, unless its length is 0
pub record PutRun (e e' v v' : List ℤ) (n : ℕ) (run end value : ℤ) (r : ℕ) : Type 0 where
  pub count : r ≡ cond (eq_z run (pos 0)) n (n + 1)
  pub ends : e' ≡ cond (eq_z run (pos 0)) e (set e n end)
  pub values : v' ≡ cond (eq_z run (pos 0)) v (set v n value)
