-- How the check of ends goes: four quarters of a list first, then what comes after them.
use Rattle.std.specs.Prelude.{◌*◌, ◌/◌, List, ℤ, length, drop}
use Rattle.column.specs.Asking.{Question}
use Rattle.column.specs.Questions.{ends_from}
use Rattle.column.specs.Runs.{end_before}

-- the question after four quarters of a list
abbrev pub ends_from_quarters : List ℤ → Question
ends_from_quarters es = let n = length es / 4 * 4 in ends_from n (end_before es n) (drop n es)
