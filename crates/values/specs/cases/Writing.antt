-- Sentences of document 01's paragraph "Writing", each on a small value, by computation: what the entries leave of an
-- image, or the refusal's number and the entries from the bad one on.
use Rattle.std.specs.Prelude.{ℕ, true, false, List, [], ◌∷◌, ◌≡◌, refl}
use Rattle.words.specs.Bits.{bit_of, flat, inside, stamp, val}
use Rattle.words.specs.Words.{bytes_of}
use Rattle.values.specs.cases.Reading.{chan_tree}
use Rattle.values.specs.reading.Leaf.{chars, int, str, word}
use Rattle.values.specs.reading.Tree.{Tree, leaf, bits, array, span}
use Rattle.values.specs.stream.Stream.{Token, null, bool, number, text, member, mark}
use Rattle.values.specs.writing.Effects.{of_kind, in_range, whole, as_text, or_null}
use Rattle.values.specs.writing.Writing.{Outcome, bad, write_one, opened, elements, members_in, write_bits, write}
use Rattle.values.specs.writing.Writing.{written}
use Rattle.values.specs.writing.Written.{bytes_after}

-- what some entries do to an image
unfoldable pub outcome : Tree → List Token → List ℕ → Outcome
unfolding written write write_bits write_one opened elements members_in or_null of_kind whole in_range as_text span
outcome tree ts image = written tree ts (flat image)

-- what they leave of it
unfoldable pub after : Tree → List Token → List ℕ → List ℕ
unfolding outcome stamp inside chars val flat bit_of bytes_of
after tree ts image = bytes_after (outcome tree ts image) image

abbrev ones : List ℕ
ones = 0xFF ∷ 0xFF ∷ 0xFF ∷ 0xFF ∷ []

-- members in any order, later wins
pub later_wins : after chan_tree (mark 8 ∷ member 3 ∷ number 2 7 ∷ member 1 ∷ bool false ∷ member 3 ∷ number 2 0x1234
    ∷ mark 9 ∷ []) ones ≡ 0xFE ∷ 0xFF ∷ 0x34 ∷ 0x12 ∷ []
unfolding after
later_wins = refl

-- null keeps what stands, for a BOOL member too
pub null_keeps : after chan_tree (mark 8 ∷ member 1 ∷ null ∷ mark 9 ∷ []) ones ≡ ones
unfolding after
null_keeps = refl

-- and counts as an element; a short array keeps the rest
pub short_keeps : after (array 4 (leaf (int 8))) (mark 10 ∷ null ∷ number 2 1 ∷ mark 11 ∷ []) ones
    ≡ 0xFF ∷ 0x01 ∷ 0xFF ∷ 0xFF ∷ []
unfolding after
short_keeps = refl

-- one DWORD takes an array of bools, missing ones zero
pub missing_zero : after (bits 32 0) (mark 10 ∷ bool true ∷ mark 11 ∷ []) ones ≡ 0x01 ∷ 0x00 ∷ 0x00 ∷ 0x00 ∷ []
unfolding after
missing_zero = refl

-- an array of them takes bools if its first entry is a bool, and missing bits keep
pub missing_keeps : after (bits 32 1) (mark 10 ∷ bool false ∷ mark 11 ∷ []) ones ≡ 0xFE ∷ 0xFF ∷ 0xFF ∷ 0xFF ∷ []
unfolding after
missing_keeps = refl

-- else whole numbers; an 8-bit string takes -128
pub negative_bits : after (bits 8 4) (mark 10 ∷ number 2 0xFFFFFFFFFFFFFF80 ∷ null ∷ number 3 255 ∷ mark 11 ∷ []) ones
    ≡ 0x80 ∷ 0xFF ∷ 0xFF ∷ 0xFF ∷ []
unfolding after
negative_bits = refl

-- text zeroes the rest of DATA
pub text_zeroes : after (leaf (str 4)) (text (65 ∷ 66 ∷ []) ∷ []) (0xFF ∷ 0xFF ∷ 0xFF ∷ 0xFF ∷ ones)
    ≡ 2 ∷ 0 ∷ 0 ∷ 0 ∷ 65 ∷ 66 ∷ 0 ∷ 0 ∷ []
unfolding after
text_zeroes = refl

-- ---- outcomes

-- a mixture is refused
pub mixture : outcome (bits 8 4) (mark 10 ∷ bool true ∷ number 3 5 ∷ mark 11 ∷ []) ones
    ≡ bad 18 (number 3 5 ∷ mark 11 ∷ [])
unfolding outcome
mixture = refl

-- a hidden member
pub hidden_member : outcome chan_tree (mark 8 ∷ member 0 ∷ null ∷ mark 9 ∷ []) ones
    ≡ bad 18 (member 0 ∷ null ∷ mark 9 ∷ [])
unfolding outcome
hidden_member = refl

-- a missing entry, also after a full array; and a left-over one
pub missing : outcome (array 1 (leaf (int 8))) (mark 10 ∷ number 2 1 ∷ []) ones ≡ bad 18 []
unfolding outcome
missing = refl

pub left_over : outcome (leaf (word 3 32)) (number 3 1 ∷ null ∷ []) ones ≡ bad 18 (null ∷ [])
unfolding outcome
left_over = refl

-- a whole number out of range: 128 and -129
pub above_range : outcome (leaf (int 8)) (number 3 128 ∷ []) ones ≡ bad 19 (number 3 128 ∷ [])
unfolding outcome
above_range = refl

pub below_range : outcome (leaf (int 8)) (number 2 0xFFFFFFFFFFFFFF7F ∷ []) ones
    ≡ bad 19 (number 2 0xFFFFFFFFFFFFFF7F ∷ [])
unfolding outcome
below_range = refl

-- after an array's last place 20 goes before 18
pub past_last : outcome (array 1 (leaf (int 8))) (mark 10 ∷ number 2 1 ∷ bool true ∷ mark 11 ∷ []) ones
    ≡ bad 20 (bool true ∷ mark 11 ∷ [])
unfolding outcome
past_last = refl

-- a text longer than the capacity
pub too_long : outcome (leaf (str 1)) (text (65 ∷ 66 ∷ []) ∷ []) ones ≡ bad 21 (text (65 ∷ 66 ∷ []) ∷ [])
unfolding outcome
too_long = refl
