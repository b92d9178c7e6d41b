-- How much the tables hold (document 01, "Declaration book"): 200 types, 2,000 members and 32,768 bytes of names; a row
-- is eight words.
use Rattle.std.specs.Prelude.{ℕ}

abbrev pub most_types : ℕ
most_types = 200

abbrev pub most_members : ℕ
most_members = 2000

abbrev pub most_names : ℕ
most_names = 32768

-- the words of both tables of rows
abbrev pub type_words : ℕ
type_words = 1600

abbrev pub member_words : ℕ
member_words = 16000
