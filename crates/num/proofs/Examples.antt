-- Worked examples of the operation codes, computed from their definitions, each at the ends of i64 where that tells something.
-- Assumes nothing.
use Rattle.std.proofs.Common.{◌≡◌, ℕ, ◌-◌, ◌^◌, List, [], ◌∷◌, ℤ, pos, negsuc, refl}
use Rattle.num.specs.Numbers.{wrap, midpoint, operation}

-- the greatest and the least i64
abbrev greatest : ℤ
greatest = pos (2 ^ 63 - 1)

abbrev least : ℤ
least = negsuc (2 ^ 63 - 1)

-- a code, two values, and what it shows for them
record Row : Type 0 where
  code : ℕ
  left : ℤ
  right : ℤ
  shown : ℤ

abbrev row : ℕ → ℤ → ℤ → ℤ → Row
row code x y z = record { code = code; left = x; right = y; shown = z }

abbrev Hold : List Row → Type 0
Hold [] = Unit {0}
Hold (r ∷ rs) = (operation r.code r.left r.right ≡ r.shown) × Hold rs

-- 0 add, 1 subtract, 2 multiply
abbrev wrapped : List Row
wrapped =
    row 0 (pos 7) (negsuc 8) (negsuc 1)
    ∷ row 0 greatest (pos 1) least
    ∷ row 0 least least (pos 0)
    ∷ row 1 (pos 7) (pos 9) (negsuc 1)
    ∷ row 1 least (pos 1) greatest
    ∷ row 1 (pos 0) least least
    ∷ row 2 (negsuc 2) (pos 5) (negsuc 14)
    ∷ row 2 greatest (pos 2) (negsuc 1)
    ∷ row 2 least (negsuc 0) least
    ∷ []

pub wrapped-examples : Hold wrapped
unfolding wrap operation
wrapped-examples = (refl, (refl, (refl, (refl, (refl, (refl, (refl, (refl, (refl, tt)))))))))

-- 3 smaller, 4 larger, 5 first, 6 second, 7 equal, 8 less
abbrev chosen : List Row
chosen =
    row 3 (negsuc 0) least least
    ∷ row 4 (negsuc 0) least (negsuc 0)
    ∷ row 5 (pos 3) (pos 4) (pos 3)
    ∷ row 6 (pos 3) (pos 4) (pos 4)
    ∷ row 7 least least (pos 1)
    ∷ row 7 (pos 5) (negsuc 4) (pos 0)
    ∷ row 8 least greatest (pos 1)
    ∷ row 8 greatest least (pos 0)
    ∷ row 8 (pos 5) (pos 5) (pos 0)
    ∷ []

pub chosen-examples : Hold chosen
unfolding operation
chosen-examples = (refl, (refl, (refl, (refl, (refl, (refl, (refl, (refl, (refl, tt)))))))))

-- 9 midpoint
abbrev halves : List Row
halves =
    row 9 (pos 3) (pos 4) (pos 3)
    ∷ row 9 (negsuc 2) (negsuc 3) (negsuc 2)
    ∷ row 9 greatest greatest greatest
    ∷ row 9 least least least
    ∷ row 9 least (pos 1) (negsuc (2 ^ 62 - 2))
    ∷ row 9 least greatest (pos 0)
    ∷ []

pub halves-examples : Hold halves
unfolding midpoint operation
halves-examples = (refl, (refl, (refl, (refl, (refl, (refl, tt))))))
