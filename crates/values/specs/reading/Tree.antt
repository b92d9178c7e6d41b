-- Types as trees (document 01, "Value stream", "Reading"), and the walk over a tree: fixed entries, and leaves, each at
-- its first bit. Reading a value is reading the items of its tree in order.
use Rattle.std.specs.Prelude.{ℕ, zero, suc, ◌+◌, ◌*◌, ◌/◌, List, [], ◌∷◌, ◌++◌}
use Rattle.words.specs.Bits.{Bits, from}
use Rattle.values.specs.reading.Leaf.{Leaf, flag, byte, int, word, str, emit}
use Rattle.values.specs.stream.Stream.{Token, member, mark}

mutual
  -- the tree of a type
  pub data Tree : Type 0 where
    leaf : Leaf → Tree
    -- a bit string of so many bits, or n of them where n is not 0
    bits : ℕ → ℕ → Tree
    -- so many elements
    array : ℕ → Tree → Tree
    -- a structure of so many bits
    struct : ℕ → Branches → Tree

  -- the visible members of a structure
  pub data Branches : Type 0 where
    none : Branches
    -- a member's number among all, its first bit, its tree
    branch : ℕ → ℕ → Tree → Branches → Branches

-- the bits that a leaf takes: a string's DATA is rounded up to 4 bytes
abbrev pub room : Leaf → ℕ
room flag = 1
room byte = 8
room (int n) = n
room (word kind n) = n
room (str capacity) = 32 + 32 * ((capacity + 3) / 4)

-- the bits of a bit string, or of an array of them
unfoldable pub all_bits : ℕ → ℕ → ℕ
all_bits w zero = w
all_bits w (suc n) = w * suc n

-- the bits that a tree takes
unfoldable pub span : Tree → ℕ
span (leaf l) = room l
span (bits w n) = all_bits w n
span (array n t) = n * span t
span (struct size bs) = size

-- what a reading goes through, one after the other
pub data Item : Type 0 where
  -- an entry that is the same for every image
  say : Token → Item
  -- a leaf at a bit
  at : ℕ → Leaf → Item

-- n times f, from bit p on, w bits apart
unfoldable pub each : ℕ → (ℕ → List Item) → ℕ → ℕ → List Item
each zero f w p = []
each (suc n) f w p = f p ++ each n f w (p + w)

-- brackets of two kinds around some items
abbrev pub between : ℕ → ℕ → List Item → List Item
between start stop is = say (mark start) ∷ (is ++ say (mark stop) ∷ [])

abbrev pub one_flag : ℕ → List Item
one_flag p = at p flag ∷ []

-- a tree's items, where it begins at bit p
unfoldable mutual
  pub items : Tree → ℕ → List Item
  items (leaf l) p = at p l ∷ []
  items (bits w n) p = between 10 11 (each (all_bits w n) one_flag 1 p)
  items (array n t) p = between 10 11 (each n (items t) (span t) p)
  items (struct size bs) p = between 8 9 (branch_items bs p)

  pub branch_items : Branches → ℕ → List Item
  branch_items none p = []
  branch_items (branch j o t bs) p = say (member j) ∷ (items t (p + o) ++ branch_items bs p)

-- the entries of some items over the bits of an image
unfoldable pub read : List Item → Bits → List Token
read [] x = []
read (say e ∷ is) x = e ∷ read is x
read (at p l ∷ is) x = emit l (from p x) ∷ read is x
