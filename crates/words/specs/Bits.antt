-- A list of bytes seen as bits: bit k of a number and of a list, the number of some bits, and bits put over others.
use Rattle.std.specs.Prelude.{ℕ, zero, suc, ◌+◌, ◌-◌, ◌*◌, ◌/◌, ◌%◌, ◌^◌, Bool, true, false, cond, not, ◌&&◌, List, eqb}
use Rattle.std.specs.Prelude.{ltb, get_or}
use Rattle.std.specs.Int.Bits.{bit_and, bit_or}

abbrev pub Bits : Type 0
Bits = ℕ → Bool

-- the bits from bit p on
abbrev pub from : ℕ → Bits → Bits
from p b k = b (p + k)

-- bit k of a number
unfoldable pub bit_of : ℕ → ℕ → Bool
bit_of x k = eqb (x / 2 ^ k % 2) 1

-- bit k of a list of bytes: bit k % 8 of byte k / 8
unfoldable pub flat : List ℕ → Bits
flat s k = bit_of (get_or s (k / 8) 0) (k % 8)

abbrev pub digit : Bool → ℕ
digit true = 1
digit false = 0

-- the number of n bits
unfoldable pub val : ℕ → Bits → ℕ
val zero b = 0
val (suc n) b = digit (b 0) + 2 * val n (λ k. b (suc k))

-- bit k is one of the n bits from p on
unfoldable pub inside : ℕ → ℕ → ℕ → Bool
inside p n k = not (ltb k p) && ltb k (p + n)

-- n bits of b put over z from bit p on
unfoldable pub stamp : ℕ → ℕ → Bits → Bits → Bits
stamp p n b z k = cond (inside p n k) (b (k - p)) (z k)

-- a byte with one bit set or cleared
unfoldable pub with_bit : ℕ → ℕ → Bool → ℕ
with_bit x k true = bit_or x (2 ^ k)
with_bit x k false = bit_and x (255 - 2 ^ k)
