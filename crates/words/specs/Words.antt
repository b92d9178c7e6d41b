-- Little-endian words of any width in a list of bytes: the number that some bytes make, the bytes of a number, and a
-- part of a list.
use Rattle.std.specs.Prelude.{ℕ, zero, suc, ◌+◌, ◌*◌, ◌/◌, ◌%◌, ◌<◌, List, [], ◌∷◌, get_or, take, drop}

-- the number that the n bytes from a place on make, the lowest byte first
unfoldable pub word_at : ℕ → List ℕ → ℕ → ℕ
word_at zero s at = 0
word_at (suc n) s at = get_or s at 0 + 256 * word_at n s (at + 1)

-- the n lowest bytes of a number, the lowest first
unfoldable pub bytes_of : ℕ → ℕ → List ℕ
bytes_of zero x = []
bytes_of (suc n) x = x % 256 ∷ bytes_of n (x / 256)

-- the n elements from a place on
unfoldable pub part : {A : Type 0} → List A → ℕ → ℕ → List A
part s at n = take n (drop at s)

-- each element is a byte
abbrev pub Bytes : List ℕ → Type 0
Bytes s = (k : ℕ) → get_or s k 0 < 256
