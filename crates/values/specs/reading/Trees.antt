-- The tree of a type (document 01, "Value stream"), made from what is known of each structure; no tables are in it. A
-- structure holds only earlier ones, so that 200 steps of nesting are enough.
use Rattle.std.specs.Prelude.{ℕ, zero, suc, ◌+◌, ◌*◌, Bool, true, false, cond, List, [], ◌∷◌, eqb, Option, Some, None}
use Rattle.types.specs.atomics.Atomic.{bit_string, size_of}
use Rattle.types.specs.layout.Laid.{first_bit}
use Rattle.types.specs.tables.Lent.{member_at, type_at}
use Rattle.types.specs.tables.Limits.{most_types}
use Rattle.types.specs.declared.atomics.atomic.Atomic.{Atomic}
use Rattle.types.specs.declared.tables.member.Member.{Member}
use Rattle.types.specs.declared.tables.member.StructKind.{StructKind}
use Rattle.types.specs.declared.tables.member.StructKind.TheVariants.{Udt, Predefined, Str, Aoi}
use Rattle.types.specs.declared.tables.member.Ty.{Ty}
use Rattle.types.specs.declared.tables.member.Ty.TheVariants as ty
use Rattle.values.specs.reading.Leaf.{flag, str, leaf_of}
use Rattle.values.specs.reading.Tree.{Tree, leaf, bits, array, struct, Branches, none, branch}

-- what values ask of a structure; its members are all, the hidden ones among them
pub record KnownStruct : Type 0 where
  pub kind : StructKind
  pub size : ℕ
  pub members : List Member

-- the n members from a row on
unfoldable pub members_at : List ℕ → ℕ → ℕ → List Member
members_at members row zero = []
members_at members row (suc n) = member_at members row ∷ members_at members (row + 1) n

-- what the tables say of structure i
unfoldable pub known_in : List ℕ → List ℕ → ℕ → KnownStruct
known_in types members i =
    record {
      kind = (type_at types i).kind;
      size = (type_at types i).size;
      members = members_at members (type_at types i).first (type_at types i).count;
    }

-- a string's capacity is the count of its second member, DATA
abbrev pub second_count : List Member → ℕ
second_count [] = 0
second_count (len ∷ []) = 0
second_count (len ∷ chars ∷ rest) = chars.count

abbrev pub is_string_kind : StructKind → Bool
is_string_kind Str = true
is_string_kind Udt = false
is_string_kind Predefined = false
is_string_kind Aoi = false

-- an atomic, or n of them where n is not 0: bit strings give one array of all their bits
unfoldable pub atomics_tree : Atomic → ℕ → Tree
atomics_tree a n =
    cond (bit_string a) (bits (8 * size_of a) n) (cond (eqb n 0) (leaf (leaf_of a)) (array n (leaf (leaf_of a))))

-- a BOOL of a structure is one bit
abbrev pub bit_tree : Option ℕ → Tree → Tree
bit_tree None t = t
bit_tree (Some k) t = leaf flag

-- a hidden member is left out
abbrev pub seen : Bool → ℕ → ℕ → Tree → Branches → Branches
seen true j o t bs = bs
seen false j o t bs = branch j o t bs

-- the tree of each earlier structure is given by its number
module _ (rec : ℕ → Tree) where
  unfoldable pub structs_tree : ℕ → ℕ → Tree
  structs_tree i n = cond (eqb n 0) (rec i) (array n (rec i))

  -- a value has a type and a count: 0 for one, else an array
  abbrev pub value_tree : Ty → ℕ → Tree
  value_tree (ty.Atomic a) n = atomics_tree a n
  value_tree (ty.Struct i) n = structs_tree i n

  -- the members from number j on
  unfoldable pub branches_from : ℕ → List Member → Branches
  branches_from j [] = none
  branches_from j (m ∷ ms) =
      seen m.hidden j (first_bit m) (bit_tree m.bit (value_tree m.ty m.count)) (branches_from (suc j) ms)

  -- a string is a leaf
  unfoldable pub struct_tree : KnownStruct → Tree
  struct_tree s =
      cond (is_string_kind s.kind) (leaf (str (second_count s.members)))
      (struct (8 * s.size) (branches_from 0 s.members))

-- nested at most so deep
unfoldable pub tree_within : (ℕ → KnownStruct) → ℕ → ℕ → Tree
tree_within known zero i = leaf flag
tree_within known (suc f) i = struct_tree (tree_within known f) (known i)

-- structure i: there are at most 200
unfoldable pub tree_of : (ℕ → KnownStruct) → ℕ → Tree
tree_of known i = tree_within known most_types i

-- a value
unfoldable pub tree_of_value : (ℕ → KnownStruct) → Ty → ℕ → Tree
tree_of_value known t n = value_tree (tree_of known) t n
