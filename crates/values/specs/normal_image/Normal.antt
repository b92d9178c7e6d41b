-- The normal image (document 01, "Normal image"): what a leaf's bits become, which bits a value holds, and the whole,
-- bit by bit: held bits as their leaf says, every other bit zero.
use Rattle.std.specs.Prelude.{ℕ, ◌-◌, ◌*◌, false, cond, ◌&&◌, ◌||◌, List, [], ◌∷◌, ltb, length}
use Rattle.words.specs.Bits.{Bits, from, bit_of, digit, flat, inside, val}
use Rattle.values.specs.reading.Leaf.{Leaf, flag, byte, int, word, str, width, is_true, chars, clipped}
use Rattle.values.specs.reading.Tree.{Tree, Item, say, at, items}

-- a BOOL byte is 1 where it is read as true, else 0; other atomics as they are; LEN becomes min(LEN, capacity), and the
-- bytes after the text zero
abbrev pub norm : Leaf → Bits → Bits
norm flag b k = b k
norm byte b k = bit_of (digit (is_true (val 8 b))) k
norm (int n) b k = b k
norm (word kind n) b k = b k
norm (str capacity) b k =
    cond (ltb k 32) (bit_of (clipped capacity b) k) (ltb (k - 32) (8 * clipped capacity b) && b k)

-- the bits that the leaves of some items hold
unfoldable pub held : List Item → Bits
held [] k = false
held (say e ∷ is) k = held is k
held (at p l ∷ is) k = inside p (width l) k || held is k

unfoldable pub normal : List Item → Bits → Bits
normal [] x k = false
normal (say e ∷ is) x k = normal is x k
normal (at p l ∷ is) x k = cond (inside p (width l) k) (norm l (from p x) (k - p)) (normal is x k)

-- the normal image of a value of a tree, as bytes
unfoldable pub normal_image : Tree → List ℕ → List ℕ
normal_image tree image = chars (length image) (normal (items tree 0) (flat image))
