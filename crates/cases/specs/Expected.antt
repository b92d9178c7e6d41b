-- What a recorded expectation says of an answer (document 01, last paragraph of "Refusal numbers": refusals compare
-- only as such, but where the document alone decides). Its first byte is its form, and bytes follow.
use Rattle.std.specs.Prelude.{ℕ, Bool, true, false, cond, ◌&&◌, List, [], ◌∷◌, eqb, leb, length, take, drop, get_or}

unfoldable pub same_bytes : List ℕ → List ℕ → Bool
same_bytes [] [] = true
same_bytes [] (y ∷ ys) = false
same_bytes (x ∷ xs) [] = false
same_bytes (x ∷ xs) (y ∷ ys) = eqb x y && same_bytes xs ys

-- number and place of an answer without a refusal
abbrev pub zeros : List ℕ
zeros = 0 ∷ 0 ∷ 0 ∷ 0 ∷ 0 ∷ []

-- form 0: no refusal, and exactly these bytes follow
unfoldable pub accepts : List ℕ → List ℕ → Bool
accepts bytes answer = same_bytes (take 5 answer) zeros && same_bytes (drop 5 answer) bytes

-- form 1: any refusal, 1 to 254; after that of a write the image stands as it was
unfoldable pub refuses : ℕ → List ℕ → List ℕ → Bool
refuses kind image answer =
    leb 1 (get_or answer 0 0) && leb (get_or answer 0 0) 254
    && cond (eqb kind 6) (same_bytes (drop 5 answer) image) true

-- form 2: exactly these bytes, a refusal's number and place and after that of a write the image
abbrev pub in_form : ℕ → ℕ → List ℕ → List ℕ → Bool
in_form form kind rest answer =
    cond (eqb form 0) (accepts rest answer)
    (cond (eqb form 1) (refuses kind rest answer) (eqb form 2 && same_bytes answer rest))

unfoldable pub agrees_of : ℕ → List ℕ → List ℕ → Bool
agrees_of kind expected answer =
    leb 1 (length expected) && leb 5 (length answer) && in_form (get_or expected 0 0) kind (drop 1 expected) answer
