-- The reference case of document 01 on stored texts that is marked P, by computation: capacity 82, LEN FFFFFFFF reads
-- 82 bytes.
use Rattle.std.specs.Prelude.{ℕ, List, ◌++◌, ◌≡◌, refl, replicate}
use Rattle.words.specs.Bits.{bit_of, flat, val}
use Rattle.words.specs.Words.{part}
use Rattle.types.specs.tables.Lent.{kind_of_word, member_at, type_at}
use Rattle.types.specs.declared.tables.member.Ty.TheVariants as ty
use Rattle.values.specs.cases.Tables.{members_of, string82_def, types_of}
use Rattle.values.specs.reading.Texts.{string_number, text_number, text_part}

-- LEN FFFFFFFF, and then 84 bytes
abbrev pub full : List ℕ
full = replicate 4 0xFF ++ replicate 84 0x41

pub full_number : text_number (types_of string82_def) (ty.Struct 0) full ≡ 0
unfolding text_number string_number type_at kind_of_word types_of string82_def
full_number = refl

pub full_text : text_part (types_of string82_def) (members_of string82_def) (ty.Struct 0) full ≡ replicate 82 0x41
unfolding text_part text_number string_number type_at kind_of_word member_at part val flat bit_of types_of members_of
    string82_def
full_text = refl
