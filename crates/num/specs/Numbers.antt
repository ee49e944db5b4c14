-- Numbers modulo 2^64, and the operation codes of document 01.
use Rattle.std.specs.Prelude.{ℕ, suc, ◌-◌, ◌/◌, ◌%◌, ◌^◌, min, Bool, false, cond, ℤ, pos, negsuc, ◌+ℤ◌, ◌-ℤ◌, ◌*ℤ◌, neg_ℤ, ◌==◌, int_le, int_lt, nat_lt}

-- equality of integers, as a test
abbrev pub eq_z : ℤ → ℤ → Bool
eq_z (pos a) (pos b) = a == b
eq_z (pos a) (negsuc b) = false
eq_z (negsuc a) (pos b) = false
eq_z (negsuc a) (negsuc b) = a == b

-- "modulo 2^64"
abbrev pub residue : ℤ → ℕ
residue (pos n) = n % 2 ^ 64
residue (negsuc n) = 2 ^ 64 - suc (n % 2 ^ 64)

-- "read as signed"
abbrev pub signed : ℕ → ℤ
signed u = cond (nat_lt u (2 ^ 63)) (pos u) (negsuc (2 ^ 64 - suc u))

unfoldable pub wrap : ℤ → ℤ
wrap z = signed (residue z)

-- "at most 2^64 − 1 is shown"
abbrev pub saturated : ℕ → ℕ
saturated n = min n (2 ^ 64 - 1)

-- "3 smaller; 4 larger"
abbrev pub smaller_of : ℤ → ℤ → ℤ
smaller_of x y = cond (int_le x y) x y

abbrev pub larger_of : ℤ → ℤ → ℤ
larger_of x y = cond (int_le x y) y x

-- half a number, toward zero
abbrev pub halved : ℤ → ℤ
halved (pos n) = pos (n / 2)
halved (negsuc n) = neg_ℤ (pos (suc n / 2))

-- "9 midpoint: the exact sum halved toward zero"
unfoldable pub midpoint : ℤ → ℤ → ℤ
midpoint x y = halved (x +ℤ y)

-- "7 equal; 8 less (1 or 0)"
abbrev pub flag : Bool → ℤ
flag holds = cond holds (pos 1) (pos 0)

-- "0 add, 1 subtract, 2 multiply, each modulo 2^64, read as signed; 3 smaller; 4 larger; 5 first; 6 second; 7 equal; 8 less (1 or 0); 9 midpoint"
unfoldable pub operation : ℕ → ℤ → ℤ → ℤ
operation code x y =
    cond (code == 0) (wrap (x +ℤ y))
    (cond (code == 1) (wrap (x -ℤ y))
    (cond (code == 2) (wrap (x *ℤ y))
    (cond (code == 3) (smaller_of x y)
    (cond (code == 4) (larger_of x y)
    (cond (code == 5) x
    (cond (code == 6) y
    (cond (code == 7) (flag (eq_z x y))
    (cond (code == 8) (flag (int_lt x y)) (midpoint x y)))))))))

-- codes 7 and 8 as a test: 7 is equal, and any other code less
abbrev pub comparison : ℕ → ℤ → ℤ → Bool
comparison code x y = cond (code == 7) (eq_z x y) (int_lt x y)
