-- Names (document 01, "Declaration book"): the rule of a declared name, and equality without ASCII case.
use Rattle.std.specs.Prelude.{ℕ, ◌+◌, Bool, true, false, cond, not, ◌&&◌, List, [], ◌∷◌, eqb, leb, length}

-- a capital letter A..Z as its small one, any other byte as it is
unfoldable pub lower_of : ℕ → ℕ
lower_of x = cond (leb 65 x && leb x 90) (x + 32) x

-- names compare without ASCII case
unfoldable pub same_name : List ℕ → List ℕ → Bool
same_name [] [] = true
same_name [] (y ∷ ys) = false
same_name (x ∷ xs) [] = false
same_name (x ∷ xs) (y ∷ ys) = eqb (lower_of x) (lower_of y) && same_name xs ys

-- 0x21..0x7E and not `;`
unfoldable pub name_byte : ℕ → Bool
name_byte x = leb 0x21 x && leb x 0x7E && not (eqb x 59)

unfoldable pub name_bytes : List ℕ → Bool
name_bytes [] = true
name_bytes (x ∷ xs) = name_byte x && name_bytes xs

-- a type or member name has 1 to 40 such bytes
unfoldable pub good_name : List ℕ → Bool
good_name s = leb 1 (length s) && leb (length s) 40 && name_bytes s
