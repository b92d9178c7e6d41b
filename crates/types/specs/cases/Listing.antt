-- The listing of UDT Chan (Good BOOL, Live BOOL, Level INT) that document 01 prints whole (end of "Reference cases"), a
-- line after the other, and the line of a refusal: each from its values, by computation.
use Rattle.std.specs.Prelude.{ℕ, Bool, true, false, List, [], ◌∷◌, ◌≡◌, refl, Option, Some, None}
use Rattle.types.specs.atomics.Atomic.{name_of}
use Rattle.types.specs.layout.HostNames.{digits_in, digits, host_name}
use Rattle.types.specs.listing.Lines.{line, type_line, printed_type, member_line, refused_line}
use Rattle.types.specs.declared.atomics.atomic.Atomic.{Atomic as AtomicType}
use Rattle.types.specs.declared.atomics.atomic.Atomic.TheVariants.{Bool as BOOL, SInt, Int}
use Rattle.types.specs.declared.tables.member.Member.{Member}
use Rattle.types.specs.declared.tables.member.Ty.TheVariants.{Atomic}

-- the bytes of Chan, Good, Live and Level
abbrev chan : List ℕ
chan = 67 ∷ 104 ∷ 97 ∷ 110 ∷ []

abbrev good : List ℕ
good = 71 ∷ 111 ∷ 111 ∷ 100 ∷ []

abbrev live : List ℕ
live = 76 ∷ 105 ∷ 118 ∷ 101 ∷ []

abbrev level : List ℕ
level = 76 ∷ 101 ∷ 118 ∷ 101 ∷ 108 ∷ []

abbrev member : AtomicType → ℕ → Option ℕ → Bool → Member
member a offset bit hidden =
    record { ty = Atomic a; count = 0; offset = offset; bit = bit; hidden = hidden; local = false; access = 0 }

-- a member's line, whatever the structures are called: none is embedded
unfoldable pub shown : (ℕ → List ℕ) → ℕ → Member → List ℕ → List ℕ
unfolding member_line line digits digits_in name_of
shown structs number m name = member_line number (printed_type structs m.ty) m name

-- `type Chan 256 4 4 80 14`
pub chan_type : type_line chan 256 4 4 80 14
    ≡
    116 ∷ 121 ∷ 112 ∷ 101 ∷ 32 ∷ 67 ∷ 104 ∷ 97 ∷ 110 ∷ 32
    ∷ 50 ∷ 53 ∷ 54 ∷ 32 ∷ 52 ∷ 32 ∷ 52 ∷ 32 ∷ 56 ∷ 48 ∷ 32 ∷ 49 ∷ 52 ∷ 10 ∷ []
unfolding type_line line digits digits_in
chan_type = refl

-- `0 h SINT 0 0 - ZZZZZZZZZZChan0`
pub chan_host : (structs : ℕ → List ℕ) → shown structs 0 (member SInt 0 None true) (host_name chan 0)
    ≡
    48 ∷ 32 ∷ 104 ∷ 32 ∷ 83 ∷ 73 ∷ 78 ∷ 84 ∷ 32 ∷ 48 ∷ 32 ∷ 48 ∷ 32 ∷ 45 ∷ 32
    ∷ 90 ∷ 90 ∷ 90 ∷ 90 ∷ 90 ∷ 90 ∷ 90 ∷ 90 ∷ 90 ∷ 90 ∷ 67 ∷ 104 ∷ 97 ∷ 110 ∷ 48 ∷ 10 ∷ []
unfolding shown host_name digits digits_in
chan_host structs = refl

-- `1 v BOOL 0 0 0 Good`
pub chan_good : (structs : ℕ → List ℕ) → shown structs 1 (member BOOL 0 (Some 0) false) good
    ≡
    49 ∷ 32 ∷ 118 ∷ 32 ∷ 66 ∷ 79 ∷ 79 ∷ 76 ∷ 32 ∷ 48 ∷ 32 ∷ 48 ∷ 32 ∷ 48 ∷ 32
    ∷ 71 ∷ 111 ∷ 111 ∷ 100 ∷ 10 ∷ []
unfolding shown
chan_good structs = refl

-- `2 v BOOL 0 0 1 Live`
pub chan_live : (structs : ℕ → List ℕ) → shown structs 2 (member BOOL 0 (Some 1) false) live
    ≡
    50 ∷ 32 ∷ 118 ∷ 32 ∷ 66 ∷ 79 ∷ 79 ∷ 76 ∷ 32 ∷ 48 ∷ 32 ∷ 48 ∷ 32 ∷ 49 ∷ 32
    ∷ 76 ∷ 105 ∷ 118 ∷ 101 ∷ 10 ∷ []
unfolding shown
chan_live structs = refl

-- `3 v INT 0 2 - Level`
pub chan_level : (structs : ℕ → List ℕ) → shown structs 3 (member Int 2 None false) level
    ≡
    51 ∷ 32 ∷ 118 ∷ 32 ∷ 73 ∷ 78 ∷ 84 ∷ 32 ∷ 48 ∷ 32 ∷ 50 ∷ 32 ∷ 45 ∷ 32
    ∷ 76 ∷ 101 ∷ 118 ∷ 101 ∷ 108 ∷ 10 ∷ []
unfolding shown
chan_level structs = refl

-- `refused 10 0`
pub refused_10 : refused_line 10 0
    ≡
    114 ∷ 101 ∷ 102 ∷ 117 ∷ 115 ∷ 101 ∷ 100 ∷ 32 ∷ 49 ∷ 48 ∷ 32 ∷ 48 ∷ 10 ∷ []
unfolding refused_line line digits digits_in
refused_10 = refl

-- the largest number of 64 bits
pub most : digits 18446744073709551615
    ≡
    49 ∷ 56 ∷ 52 ∷ 52 ∷ 54 ∷ 55 ∷ 52 ∷ 52 ∷ 48 ∷ 55
    ∷ 51 ∷ 55 ∷ 48 ∷ 57 ∷ 53 ∷ 53 ∷ 49 ∷ 54 ∷ 49 ∷ 53 ∷ []
unfolding digits digits_in
most = refl
