-- The reference cases of reading that document 01 marks P, each by computation: the image of Chan gives 8 entries, and
-- a string of capacity 82 with LEN FFFFFFFF reads 82 bytes; and one DWORD gives its 32 bits as an array.
use Rattle.std.specs.Prelude.{ℕ, true, false, List, [], ◌∷◌, ◌≡◌, refl, length, replicate, take}
use Rattle.words.specs.Bits.{bit_of, flat, val}
use Rattle.words.specs.Words.{bytes_of}
use Rattle.types.specs.atomics.Atomic.{bit_string, size_of}
use Rattle.types.specs.declared.atomics.atomic.Atomic.TheVariants.{DWord}
use Rattle.types.specs.declared.tables.member.Ty.{Ty}
use Rattle.types.specs.declared.tables.member.Ty.TheVariants.{Atomic, Struct}
use Rattle.values.specs.cases.Tables.{chan_def, known_of, string82_def}
use Rattle.values.specs.reading.Leaf.{flag, int, str, signed, chars}
use Rattle.values.specs.reading.Tree.{Tree, leaf, struct, none, branch, span, all_bits, each, items, read}
use Rattle.values.specs.reading.Trees.{KnownStruct, atomics_tree, structs_tree, branches_from, struct_tree}
use Rattle.values.specs.reading.Trees.{tree_within, tree_of, tree_of_value}
use Rattle.values.specs.stream.Stream.{Token, bool, number, text, member, mark, entry_bytes, heads, bodies}
use Rattle.values.specs.stream.Stream.{stream_bytes}

-- ---- what is asked of a value

-- what the tables of UDT Chan, and of a string of capacity 82, say
abbrev pub chan : ℕ → KnownStruct
chan = known_of chan_def

abbrev pub string82 : ℕ → KnownStruct
string82 = known_of string82_def

-- a value's tree
unfoldable pub tree : (ℕ → KnownStruct) → Ty → ℕ → Tree
unfolding tree_of_value tree_of tree_within struct_tree structs_tree branches_from atomics_tree bit_string size_of
tree known t n = tree_of_value known t n

-- the entries of an image of a value
unfoldable pub entries : (ℕ → KnownStruct) → Ty → ℕ → List ℕ → List Token
unfolding tree items read each span all_bits signed chars val flat bit_of
entries known t n image = read (items (tree known t n) 0) (flat image)

-- and its stream
unfoldable pub stream : (ℕ → KnownStruct) → Ty → ℕ → List ℕ → List ℕ
unfolding entries stream_bytes heads bodies entry_bytes bytes_of
stream known t n image = stream_bytes (entries known t n image)

-- ---- Chan

-- a host of 8 bits is hidden; Good and Live are its bits 0 and 1, and Level begins at bit 16
abbrev pub chan_tree : Tree
chan_tree = struct 32 (branch 1 0 (leaf flag) (branch 2 1 (leaf flag) (branch 3 16 (leaf (int 16)) none)))

pub chan_tree_lem : tree chan (Struct 0) 0 ≡ chan_tree
unfolding tree known_of
chan_tree_lem = refl

abbrev pub chan_image : List ℕ
chan_image = 0x03 ∷ 0x7F ∷ 0xFE ∷ 0xFF ∷ []

-- Good and Live are true, Level is -2
pub chan_entries : entries chan (Struct 0) 0 chan_image
    ≡ mark 8 ∷ member 1 ∷ bool true ∷ member 2 ∷ bool true ∷ member 3 ∷ number 2 0xFFFFFFFFFFFFFFFE ∷ mark 9 ∷ []
unfolding entries known_of
chan_entries = refl

pub chan_eight : length (entries chan (Struct 0) 0 chan_image) ≡ 8
unfolding entries known_of
chan_eight = refl

-- the count, and the first three entries: structure open, member 1, true
pub chan_bytes : take 40 (stream chan (Struct 0) 0 chan_image)
    ≡
    8 ∷ 0 ∷ 0 ∷ 0
    ∷ 8 ∷ 0 ∷ 0 ∷ 0 ∷ 0 ∷ 0 ∷ 0 ∷ 0 ∷ 0 ∷ 0 ∷ 0 ∷ 0
    ∷ 7 ∷ 0 ∷ 0 ∷ 0 ∷ 1 ∷ 0 ∷ 0 ∷ 0 ∷ 0 ∷ 0 ∷ 0 ∷ 0
    ∷ 1 ∷ 0 ∷ 0 ∷ 0 ∷ 1 ∷ 0 ∷ 0 ∷ 0 ∷ 0 ∷ 0 ∷ 0 ∷ 0 ∷ []
unfolding stream known_of
chan_bytes = refl

-- 4 bytes and 8 entries of 12
pub chan_long : length (stream chan (Struct 0) 0 chan_image) ≡ 100
unfolding stream known_of
chan_long = refl

-- ---- strings

pub string_tree : tree string82 (Struct 0) 0 ≡ leaf (str 82)
unfolding tree known_of
string_tree = refl

-- LEN FFFFFFFF reads 82 bytes
abbrev pub long_image : List ℕ
long_image = 0xFF ∷ 0xFF ∷ 0xFF ∷ 0xFF ∷ replicate 84 65

pub string_entries : entries string82 (Struct 0) 0 long_image ≡ text (replicate 82 65) ∷ []
unfolding entries known_of
string_entries = refl

-- one entry: its text's place 0 and length 82, and the text
pub string_bytes : stream string82 (Struct 0) 0 long_image
    ≡ 1 ∷ 0 ∷ 0 ∷ 0 ∷ 6 ∷ 0 ∷ 0 ∷ 0 ∷ 0 ∷ 0 ∷ 0 ∷ 0 ∷ 82 ∷ 0 ∷ 0 ∷ 0 ∷ replicate 82 65
unfolding stream known_of
string_bytes = refl

-- ---- bit strings

-- whatever its bits are
pub dword_entries : (known : ℕ → KnownStruct) (image : List ℕ) → length (entries known (Atomic DWord) 0 image) ≡ 34
unfolding entries
dword_entries known image = refl

-- the lowest bit first, between array open and close
pub dword_first : take 3 (entries chan (Atomic DWord) 0 (0x02 ∷ 0 ∷ 0 ∷ 0 ∷ [])) ≡ mark 10 ∷ bool false ∷ bool true ∷ []
unfolding entries
dword_first = refl
