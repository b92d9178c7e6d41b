-- What the passes of a write ask of the tables' rows (document 01, "Writing"): a member by its number, the tree of a
-- member, and what stands inside an array of atomics.
use Rattle.std.specs.Prelude.{ℕ, ◌+◌, ◌*◌, ◌<◌, ◌≤◌, false, cond, List, ◌⊎◌, ◌≡◌, ltb, length, Option, None, Some}
use Rattle.words.specs.Bits.{Bits}
use Rattle.types.specs.atomics.Atomic.{bit_string, size_of}
use Rattle.types.specs.layout.Laid.{past_bit}
use Rattle.types.specs.tables.Lent.{member_at, type_at}
use Rattle.types.specs.tables.Limits.{most_types, most_members}
use Rattle.types.specs.tables.Sizes.{sizes_in}
use Rattle.types.specs.declared.atomics.atomic.Atomic.{Atomic}
use Rattle.types.specs.declared.tables.member.Member.{Member}
use Rattle.values.specs.inside.reading.Walk.{is_nested}
use Rattle.values.specs.inside.writing.Effects.{atomic_takes}
use Rattle.values.specs.reading.Tree.{Tree, Branches}
use Rattle.values.specs.reading.Trees.{bit_tree, branches_from, known_in, members_at, tree_of, value_tree}
use Rattle.values.specs.stream.Stream.{Token}
use Rattle.values.specs.writing.Effects.{or_null}
use Rattle.values.specs.writing.Writing.{Outcome, bools_in, elements, first_is, write_one}

-- the tree of structure i, and its branches
abbrev pub tree_in : List ℕ → List ℕ → ℕ → Tree
tree_in types members i = tree_of (known_in types members) i

abbrev pub branches_in : List ℕ → List ℕ → ℕ → Branches
branches_in types members i =
    branches_from (tree_in types members) 0 (members_at members (type_at types i).first (type_at types i).count)

-- the tree of a visible member
abbrev pub member_tree : (ℕ → Tree) → Member → Tree
member_tree trees m = bit_tree m.bit (value_tree trees m.ty m.count)

-- the row of the visible member of a number, among `count` from a row on, where there is one
unfoldable pub visible_row : List ℕ → ℕ → ℕ → ℕ → Option ℕ
visible_row members first count j =
    cond (ltb j count) (cond (member_at members (first + j)).hidden None (Some (first + j))) None

-- a visible member that is no structure
pub record LeafRow (members : List ℕ) (row : ℕ) : Type 0 where
  pub inside : row < most_members
  pub visible : (member_at members row).hidden ≡ false
  pub flat : is_nested (member_at members row) ≡ false

-- its structure's bytes lie in the image from a place on
pub record Here (types : List ℕ) (i base : ℕ) (image : List ℕ) : Type 0 where
  pub low : i < most_types
  pub inside : base + sizes_in types i ≤ length image

-- the bytes of n structures i
pub record AllHere (types : List ℕ) (i n base : ℕ) (image : List ℕ) : Type 0 where
  pub low : i < most_types
  pub inside : base + sizes_in types i * n ≤ length image

-- a member's bits lie in the image, where its structure begins at a byte
pub record MemberHere (sizes : ℕ → ℕ) (m : Member) (base : ℕ) (image : List ℕ) : Type 0 where
  pub inside : 8 * base + past_bit sizes m ≤ 8 * length image

-- an atomic has 1, 2, 4 or 8 bytes
abbrev pub Width : ℕ → Type 0
Width size = (size ≡ 1) ⊎ ((size ≡ 2) ⊎ ((size ≡ 4) ⊎ (size ≡ 8)))

-- the elements of an array of atomics, after its opening: bit strings take bools if the first entry is a bool
unfoldable pub run_in : Atomic → ℕ → ℕ → List Token → Bits → Outcome
run_in a n p ts z =
    cond (bit_string a)
    (cond (first_is 1 ts) (bools_in (8 * (size_of a * n)) p ts z)
    (elements n (write_one (or_null (atomic_takes a)) (8 * size_of a)) (8 * size_of a) p ts z))
    (elements n (write_one (or_null (atomic_takes a)) (8 * size_of a)) (8 * size_of a) p ts z)
