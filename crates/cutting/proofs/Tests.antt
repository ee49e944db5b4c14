-- Tests over lists that agree entry by entry.
-- Assumes nothing.
use mathlib.Core.Bool.{Bool, true, false, ◌&&◌, ◌||◌}
use mathlib.Core.List.{List, [], ◌∷◌, map}
use mathlib.Core.Path.{◌≡◌, refl, ap, ◌∙◌}
use Rattle.column.specs.Lists.{any}
use Rattle.column.proofs.All.{All}

or_swap : (a b c d : Bool) → (a || b) || (c || d) ≡ (a || c) || (b || d)
or_swap true b c d = refl
or_swap false true true d = refl
or_swap false true false d = refl
or_swap false false c d = refl

any_or : {A : Type 0} (f g : A → Bool) (xs : List A) → any (λ x. f x || g x) xs ≡ any f xs || any g xs
any_or f g [] = refl
any_or f g (x ∷ xs) = rw (any_or f g xs) (or_swap (f x) (g x) (any f xs) (any g xs))

any_none : {A : Type 0} (xs : List A) → any (λ x. false) xs ≡ false
any_none [] = refl
any_none (x ∷ xs) = any_none xs

pub any_and : {A : Type 0} (f : A → Bool) (b : Bool) (xs : List A) → any (λ x. f x && b) xs ≡ any f xs && b
any_and f b [] = refl
any_and f b (x ∷ xs) = rw (any_and f b xs) (distribute (f x) (any f xs) b)
  where
    distribute : (p q r : Bool) → (p && r) || (q && r) ≡ (p || q) && r
    distribute true true true = refl
    distribute true true false = refl
    distribute true false true = refl
    distribute true false false = refl
    distribute false q r = refl

pub any-map : {A B : Type 0} (f : B → Bool) (g : A → B) (xs : List A) → any f (map g xs) ≡ any (λ x. f (g x)) xs
any-map f g [] = refl
any-map f g (x ∷ xs) = ap (f (g x) ||◌) (any-map f g xs)

-- some row of some column, in either order
pub any-any : {A B : Type 0} (f : A → B → Bool) (xs : List A) (ys : List B) → any (λ x. any (f x) ys) xs ≡ any (λ y. any (λ x. f x y) xs) ys
any-any f xs [] = any_none xs
any-any f xs (y ∷ ys) = any_or (λ x. f x y) (λ x. any (f x) ys) xs ∙ ap (any (λ x. f x y) xs ||◌) (any-any f xs ys)

pub any_same : {A : Type 0} (f g : A → Bool) (xs : List A) → ((x : A) → f x ≡ g x) → any f xs ≡ any g xs
any_same f g [] h = refl
any_same f g (x ∷ xs) h = rw (h x, any_same f g xs h)

pub any-all : {A : Type 0} (f g : A → Bool) (xs : List A) → All (λ x. f x ≡ g x) xs → any f xs ≡ any g xs
any-all f g [] h = refl
any-all f g (x ∷ xs) h = rw (h.0, any-all f g xs h.1)

pub all_map : {A : Type 0} {P Q : A → Type 0} (f : (x : A) → P x → Q x) (xs : List A) → All P xs → All Q xs
all_map f [] h = tt
all_map f (x ∷ xs) h = (f x h.0, all_map f xs h.1)
