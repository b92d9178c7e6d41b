-- What one entry does to a place (document 01, "Writing"): null keeps what stands; a value that fits sets the bits; any
-- other is refused, with its number: 18 does not fit here, 19 out of range, 21 a text longer than the capacity.
use Rattle.std.specs.Prelude.{ℕ, ◌-◌, ◌^◌, Bool, cond, ◌&&◌, ◌||◌, List, ◌++◌, eqb, leb, ltb, length}
use Rattle.words.specs.Bits.{Bits, bit_of, flat}
use Rattle.words.specs.Words.{bytes_of}
use Rattle.values.specs.reading.Leaf.{Leaf, flag, byte, int, word, str}
use Rattle.values.specs.stream.Stream.{Token, kind_of, payload_of, body_of}

-- what an entry does to its place
pub data Effect : Type 0 where
  -- it keeps what stands
  keep : Effect
  -- it sets these bits
  put : Bits → Effect
  -- it is refused, with this number
  refuse : ℕ → Effect

-- the bits of an entry's payload
abbrev pub payload_bits : Token → Bits
payload_bits t = bit_of (payload_of 0 t)

-- an entry of the one kind that is taken
unfoldable pub of_kind : ℕ → Token → Effect
of_kind kind t = cond (eqb (kind_of t) kind) (put (payload_bits t)) (refuse 18)

-- signed or unsigned
abbrev pub is_whole : ℕ → Bool
is_whole kind = eqb kind 2 || eqb kind 3

-- a signed number below zero is 2^64 more than its value
abbrev pub is_negative : ℕ → ℕ → Bool
is_negative kind x = eqb kind 2 && leb (2 ^ 63) x

-- its value lies from -low up to high - 1
unfoldable pub in_range : ℕ → ℕ → ℕ → ℕ → Bool
in_range low high kind x = cond (is_negative kind x) (leb (2 ^ 64 - x) low) (ltb x high)

-- a whole number in that range
unfoldable pub whole : ℕ → ℕ → Token → Effect
whole low high t =
    cond (is_whole (kind_of t))
    (cond (in_range low high (kind_of t) (payload_of 0 t)) (put (payload_bits t)) (refuse 19))
    (refuse 18)

-- a w-bit string takes -2^(w-1)..2^w - 1
abbrev pub bits_whole : ℕ → Token → Effect
bits_whole w t = whole (2 ^ (w - 1)) (2 ^ w) t

-- LEN, the text, and zeros after it: a list has zeros past its end
abbrev pub text_bits : List ℕ → Bits
text_bits s = flat (bytes_of 4 (length s) ++ s)

unfoldable pub as_text : ℕ → Token → Effect
as_text capacity t =
    cond (eqb (kind_of t) 6)
    (cond (leb (length (body_of t)) capacity) (put (text_bits (body_of t))) (refuse 21))
    (refuse 18)

-- what a leaf takes: BOOL kind 1, REAL 4, LREAL 5, a string 6; signed or unsigned where its value is in range
abbrev pub taken : Leaf → Token → Effect
taken flag t = of_kind 1 t
taken byte t = of_kind 1 t
taken (int n) t = whole (2 ^ (n - 1)) (2 ^ (n - 1)) t
taken (word kind n) t = cond (eqb kind 3) (whole 0 (2 ^ n) t) (of_kind kind t)
taken (str capacity) t = as_text capacity t

-- null keeps what stands
unfoldable pub or_null : (Token → Effect) → Token → Effect
or_null takes t = cond (eqb (kind_of t) 0) keep (takes t)
