-- The value stream (document 01, "Value stream"): its entries, each with its text, the twelve bytes of an entry, and
-- the bytes of the whole.
use Rattle.std.specs.Prelude.{ℕ, ◌+◌, ◌*◌, ◌^◌, Bool, List, [], ◌∷◌, ◌++◌, length}
use Rattle.words.specs.Bits.{digit}
use Rattle.words.specs.Words.{bytes_of}

-- an entry of a stream
pub data Token : Type 0 where
  -- its kind and its payload
  plain : ℕ → ℕ → Token
  -- a text, together with its bytes
  text : List ℕ → Token

-- 0 null, 1 bool, 2 signed, 3 unsigned, 4 REAL bits, 5 LREAL bits, 6 text, 7 member number, 8 and 9 structure open and
-- close, 10 and 11 array open and close
abbrev pub kind_of : Token → ℕ
kind_of (plain kind x) = kind
kind_of (text s) = 6

-- the payload as a number of 64 bits; a text's place is the low half, its length the high one
abbrev pub payload_of : ℕ → Token → ℕ
payload_of place (plain kind x) = x
payload_of place (text s) = place + 2 ^ 32 * length s

abbrev pub body_of : Token → List ℕ
body_of (plain kind x) = []
body_of (text s) = s

abbrev pub null : Token
null = plain 0 0

abbrev pub bool : Bool → Token
bool b = plain 1 (digit b)

-- of the kinds 2 to 5
abbrev pub number : ℕ → ℕ → Token
number kind x = plain kind x

abbrev pub member : ℕ → Token
member j = plain 7 j

-- of the kinds 8 to 11
abbrev pub mark : ℕ → Token
mark kind = plain kind 0

-- twelve bytes: the kind, three zeros, the payload
unfoldable pub entry_bytes : ℕ → ℕ → List ℕ
entry_bytes kind payload = kind ∷ 0 ∷ 0 ∷ 0 ∷ bytes_of 8 payload

-- the entries' bytes, where the next text stands at a place of the bodies
unfoldable pub heads : ℕ → List Token → List ℕ
heads place [] = []
heads place (t ∷ ts) = entry_bytes (kind_of t) (payload_of place t) ++ heads (place + length (body_of t)) ts

-- the texts, gapless, in entry order
unfoldable pub bodies : List Token → List ℕ
bodies [] = []
bodies (t ∷ ts) = body_of t ++ bodies ts

-- the whole: how many entries, the entries, the bodies
unfoldable pub stream_bytes : List Token → List ℕ
stream_bytes ts = bytes_of 4 (length ts) ++ (heads 0 ts ++ bodies ts)

-- at most 2^31 bytes
abbrev pub most_bytes : ℕ
most_bytes = 2 ^ 31
