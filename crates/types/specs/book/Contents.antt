-- The declaration book (document 01, "Declaration book"): a table of contents, then the bodies; its entries with their
-- flags, and when the whole is well formed.
use Rattle.std.specs.Prelude.{ℕ, zero, suc, ◌+◌, ◌*◌, ◌/◌, ◌%◌, Bool, true, ◌&&◌, ◌||◌, List, [], ◌∷◌, eqb, leb, length}
use Rattle.words.specs.Words.{word_at}
use Rattle.types.specs.declared.book.contents.MemberEntry.{MemberEntry}
use Rattle.types.specs.declared.book.contents.TypeEntry.{TypeEntry}
use Rattle.types.specs.declared.tables.member.Span.{Span}

-- u16 T, u16 M
abbrev pub types_in : List ℕ → ℕ
types_in s = word_at 2 s 0

abbrev pub members_in : List ℕ → ℕ
members_in s = word_at 2 s 2

-- T type entries of 16 bytes: name place u32, name length u8, flags u8, template id u16, string length u32, member
-- count u16, u16 zero
unfoldable pub type_entry : List ℕ → ℕ → TypeEntry
type_entry s i =
    record {
      name = record { at = word_at 4 s (4 + 16 * i); long = word_at 1 s (4 + 16 * i + 4) };
      flags = word_at 1 s (4 + 16 * i + 5);
      id = word_at 2 s (4 + 16 * i + 6);
      string = word_at 4 s (4 + 16 * i + 8);
      count = word_at 2 s (4 + 16 * i + 12);
      zero = word_at 2 s (4 + 16 * i + 14);
    }

-- then M member entries of 16: name place u32, name length u8, type name length u8, local u8, access u8, dim u32,
-- type name place u32
abbrev pub member_entry_at : List ℕ → ℕ → MemberEntry
member_entry_at s at =
    record {
      name = record { at = word_at 4 s at; long = word_at 1 s (at + 4) };
      ty = record { at = word_at 4 s (at + 12); long = word_at 1 s (at + 5) };
      local = word_at 1 s (at + 6);
      access = word_at 1 s (at + 7);
      dim = word_at 4 s (at + 8);
    }

abbrev pub member_entry : List ℕ → ℕ → ℕ → MemberEntry
member_entry s t i = member_entry_at s (4 + 16 * t + 16 * i)

-- the bodies begin after both
abbrev pub bodies_at : List ℕ → ℕ
bodies_at s = 4 + 16 * types_in s + 16 * members_in s

-- places lie wholly in the bodies; a length of 0 may lie at their end
unfoldable pub in_bodies : ℕ → ℕ → Span → Bool
in_bodies start end s = leb start s.at && leb (s.at + s.long) end

-- flags: 1 AOI, 2 string, 4 id given
abbrev pub is_aoi : TypeEntry → Bool
is_aoi e = eqb (e.flags % 2) 1

abbrev pub is_string : TypeEntry → Bool
is_string e = eqb (e.flags / 2 % 2) 1

abbrev pub has_id : TypeEntry → Bool
has_id e = leb 4 e.flags

-- other flag bits are 0; an unset flag needs 0 in its field
unfoldable pub type_ok : ℕ → ℕ → TypeEntry → Bool
type_ok start end e =
    leb e.flags 7 && eqb e.zero 0 && (has_id e || eqb e.id 0)
    && (is_string e || eqb e.string 0) && in_bodies start end e.name

-- local 0 or 1
unfoldable pub member_ok : ℕ → ℕ → MemberEntry → Bool
member_ok start end e = leb e.local 1 && in_bodies start end e.name && in_bodies start end e.ty

-- n values by their numbers, from the i-th on
unfoldable pub list_from : {A : Type 0} → (ℕ → A) → ℕ → ℕ → List A
list_from f i zero = []
list_from f i (suc n) = f i ∷ list_from f (i + 1) n

unfoldable pub every : {A : Type 0} → (A → Bool) → List A → Bool
every p [] = true
every p (x ∷ xs) = p x && every p xs

unfoldable pub sum_counts : List TypeEntry → ℕ
sum_counts [] = 0
sum_counts (e ∷ es) = e.count + sum_counts es

abbrev pub type_entries : List ℕ → List TypeEntry
type_entries s = list_from (type_entry s) 0 (types_in s)

abbrev pub member_entries : List ℕ → List MemberEntry
member_entries s = list_from (member_entry s (types_in s)) 0 (members_in s)

-- members belong to types in order; the counts sum to M
unfoldable pub book_ok : List ℕ → Bool
book_ok s =
    leb 4 (length s) && leb (bodies_at s) (length s) && every (type_ok (bodies_at s) (length s)) (type_entries s)
    && eqb (sum_counts (type_entries s)) (members_in s) && every (member_ok (bodies_at s) (length s)) (member_entries s)
