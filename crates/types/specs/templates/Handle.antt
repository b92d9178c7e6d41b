-- The structure handle (document 01, "Template and handle"): a fold over the template's bytes.
use Rattle.std.specs.Prelude.{ℕ, ◌+◌, ◌*◌, ◌/◌, ◌%◌, cond, List, [], ◌∷◌, eqb}
use Rattle.std.specs.Int.Bits.{bit_xor}

-- rotate left 5 in 16 bits, xor the byte, times 0x9E37, modulo 65,536
abbrev pub fold_byte : ℕ → ℕ → ℕ
fold_byte h b = bit_xor (h * 32 % 65536 + h / 2048) b * 0x9E37 % 65536

unfoldable pub fold_from : ℕ → List ℕ → ℕ
fold_from h [] = h
fold_from h (b ∷ bs) = fold_from (fold_byte h b) bs

-- 0 becomes 1
unfoldable pub not_zero : ℕ → ℕ
not_zero h = cond (eqb h 0) 1 h

-- start 0x1D0F
unfoldable pub handle_of : List ℕ → ℕ
handle_of s = not_zero (fold_from 0x1D0F s)
