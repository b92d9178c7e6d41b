-- One bit of a byte, set or cleared (document 01, "What is ported": `set_bit`).
use Rattle.std.specs.Prelude.{ℕ, Bool, cond, ltb}
use Rattle.words.specs.Bits.{with_bit}

-- a byte has eight bits; there is no other to set
unfoldable pub bit_set : ℕ → ℕ → Bool → ℕ
bit_set byte bit value = cond (ltb bit 8) (with_bit byte bit value) byte
