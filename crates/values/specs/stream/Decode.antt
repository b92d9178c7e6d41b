-- What a value stream says (document 01, "Value stream"): its entries in order, each with its text.
use Rattle.std.specs.Prelude.{ℕ, zero, suc, ◌+◌, ◌*◌, ◌/◌, ◌%◌, ◌^◌, cond, List, [], ◌∷◌, eqb}
use Rattle.words.specs.Words.{part}
use Rattle.values.specs.stream.Entry.{kind_at, payload_at}
use Rattle.values.specs.stream.Form.{count_in, base_in}
use Rattle.values.specs.stream.Stream.{Token, plain, text}

-- the entry at a place with its text, where the bodies begin at a base
unfoldable pub token_at : List ℕ → ℕ → ℕ → Token
token_at s base at =
    cond (eqb (kind_at s at) 6) (text (part s (base + payload_at s at % 2 ^ 32) (payload_at s at / 2 ^ 32)))
    (plain (kind_at s at) (payload_at s at))

-- the n entries from number k on
unfoldable pub tokens_from : List ℕ → ℕ → ℕ → ℕ → List Token
tokens_from s base k zero = []
tokens_from s base k (suc n) = token_at s base (4 + 12 * k) ∷ tokens_from s base (k + 1) n

unfoldable pub tokens_in : List ℕ → List Token
tokens_in s = tokens_from s (base_in s) 0 (count_in s)
