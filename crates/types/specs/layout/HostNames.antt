-- Decimal digits, and the names of hidden hosts (document 01, "Layout").
use Rattle.std.specs.Prelude.{ℕ, zero, suc, ◌+◌, ◌/◌, ◌%◌, cond, List, [], ◌∷◌, ◌++◌, ltb, take}

-- the digits of a number, of at most so many
unfoldable pub digits_in : ℕ → ℕ → List ℕ
digits_in zero x = []
digits_in (suc n) x = cond (ltb x 10) ((48 + x) ∷ []) (digits_in n (x / 10) ++ ((48 + x % 10) ∷ []))

-- no count of members has more than twenty
unfoldable pub digits : ℕ → List ℕ
digits x = digits_in 20 x

abbrev pub ten_z : List ℕ
ten_z = 90 ∷ 90 ∷ 90 ∷ 90 ∷ 90 ∷ 90 ∷ 90 ∷ 90 ∷ 90 ∷ 90 ∷ []

-- a UDT's host: ten Z, the type name's first 10 bytes, and the count of members so far
unfoldable pub host_name : List ℕ → ℕ → List ℕ
host_name name k = ten_z ++ (take 10 name ++ digits k)

-- the bytes of `__BitHost`
abbrev pub bit_host : List ℕ
bit_host = 95 ∷ 95 ∷ 66 ∷ 105 ∷ 116 ∷ 72 ∷ 111 ∷ 115 ∷ 116 ∷ []

-- an AOI's host: `__BitHost` and two or more digits
unfoldable pub bit_host_name : ℕ → List ℕ
bit_host_name i = bit_host ++ cond (ltb i 10) (48 ∷ (48 + i) ∷ []) (digits i)
