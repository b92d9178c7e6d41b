-- The leaves of a value (document 01, "Value stream"): what is read as one entry that is no bracket, from its bits.
use Rattle.std.specs.Prelude.{ℕ, zero, suc, ◌+◌, ◌-◌, ◌*◌, ◌^◌, min, Bool, cond, not, List, [], ◌∷◌, eqb, ltb}
use Rattle.words.specs.Bits.{Bits, from, val}
use Rattle.types.specs.declared.atomics.atomic.Atomic.{Atomic}
use Rattle.types.specs.declared.atomics.atomic.Atomic.TheVariants as atomic
use Rattle.values.specs.stream.Stream.{Token, bool, number, text}

-- a leaf, by the bits that it takes
pub data Leaf : Type 0 where
  -- a BOOL of a structure: one bit
  flag : Leaf
  -- a BOOL outside a structure: one byte
  byte : Leaf
  -- a signed number of so many bits
  int : ℕ → Leaf
  -- a number without a sign, given as an entry of a kind, of so many bits
  word : ℕ → ℕ → Leaf
  -- a string of a capacity
  str : ℕ → Leaf

-- flag is a BOOL of a structure, byte a BOOL outside one, int a signed number of so many bits, word any other of a kind
-- and so many bits, str a string of a capacity; the bits that it holds
abbrev pub width : Leaf → ℕ
width flag = 1
width byte = 8
width (int n) = n
width (word kind n) = n
width (str capacity) = 32 + 8 * capacity

-- a number of n bits as a signed one, in 64 bits
unfoldable pub signed : ℕ → ℕ → ℕ
signed n x = cond (ltb x (2 ^ (n - 1))) x (x + (2 ^ 64 - 2 ^ n))

-- a byte is true when it is not 0
abbrev pub is_true : ℕ → Bool
is_true x = not (eqb x 0)

-- n bytes of some bits
unfoldable pub chars : ℕ → Bits → List ℕ
chars zero b = []
chars (suc n) b = val 8 b ∷ chars n (from 8 b)

-- a string's text is clipped to its capacity: it is min(LEN as u32, capacity) bytes long
abbrev pub clipped : ℕ → Bits → ℕ
clipped capacity b = min (val 32 b) capacity

-- what a leaf gives of its bits
abbrev pub emit : Leaf → Bits → Token
emit flag b = bool (b 0)
emit byte b = bool (is_true (val 8 b))
emit (int n) b = number 2 (signed n (val n b))
emit (word kind n) b = number kind (val n b)
emit (str capacity) b = text (chars (clipped capacity b) (from 32 b))

-- the leaf of an atomic that is no bit string: signed types give kind 2, unsigned 3, REAL 4, LREAL 5
abbrev pub leaf_of : Atomic → Leaf
leaf_of atomic.Bool = byte
leaf_of atomic.SInt = int 8
leaf_of atomic.Int = int 16
leaf_of atomic.DInt = int 32
leaf_of atomic.LInt = int 64
leaf_of atomic.USInt = word 3 8
leaf_of atomic.UInt = word 3 16
leaf_of atomic.UDInt = word 3 32
leaf_of atomic.ULInt = word 3 64
leaf_of atomic.Real = word 4 32
leaf_of atomic.LReal = word 5 64
leaf_of atomic.Byte = word 3 8
leaf_of atomic.Word = word 3 16
leaf_of atomic.DWord = word 3 32
leaf_of atomic.LWord = word 3 64
