-- Trees whose branches share no bit (document 01, "Layout", "Normal image"), and what demand 3's theorems and the walk
-- that makes an image normal ask of the tables. Tables as our own calls left them are so.
use Rattle.std.specs.Prelude.{ℕ, suc, ◌+◌, ◌*◌, ◌<◌, ◌≤◌, Bool, true, false, List, [], ◌∷◌, ◌⊎◌}
use Rattle.types.specs.layout.Laid.{first_bit}
use Rattle.types.specs.tables.Lent.{type_at}
use Rattle.types.specs.tables.Limits.{most_types}
use Rattle.types.specs.tables.Sizes.{sizes_in}
use Rattle.types.specs.declared.tables.member.Member.{Member}
use Rattle.values.specs.inside.normal_image.InPlace.{is_plain, past_tree}
use Rattle.values.specs.inside.reading.Walkable.{Walkable}
use Rattle.values.specs.inside.writing.Rows.{member_tree, tree_in}
use Rattle.values.specs.reading.Leaf.{Leaf, flag, byte, int, word, str}
use Rattle.values.specs.reading.Tree.{Tree, leaf, bits, array, struct, Branches, none, branch, span}
use Rattle.values.specs.reading.Trees.{members_at}

-- ---- trees

-- the leaves that types have
abbrev pub GoodLeaf : Leaf → Type 0
GoodLeaf flag = Unit {0}
GoodLeaf byte = Unit {0}
GoodLeaf (int n) = (1 ≤ n) × (n ≤ 64)
GoodLeaf (word kind n) = (3 ≤ kind) × (kind ≤ 5)
GoodLeaf (str c) = Unit {0}

-- no branch has a bit among n bits from o on
abbrev pub ClearOfBranches : ℕ → ℕ → Branches → Type 0
ClearOfBranches o n none = Unit {0}
ClearOfBranches o n (branch j q t bs) = ((o + n ≤ q) ⊎ (q + span t ≤ o)) × ClearOfBranches o n bs

-- each branch's number is larger than that of the one before
abbrev pub Ascending : ℕ → Branches → Type 0
Ascending low none = Unit {0}
Ascending low (branch j o t bs) = (low ≤ j) × Ascending (suc j) bs

unfoldable mutual
  pub TreePlaced : Tree → Type 0
  TreePlaced (leaf l) = GoodLeaf l
  TreePlaced (bits w n) = Unit {0}
  TreePlaced (array n t) = TreePlaced t
  TreePlaced (struct size bs) = BranchesPlaced size bs × Ascending 0 bs

  -- the branches lie inside the size and share no bit
  pub BranchesPlaced : ℕ → Branches → Type 0
  BranchesPlaced size none = Unit {0}
  BranchesPlaced size (branch j o t bs) =
      TreePlaced t × ((o + span t ≤ size) × (ClearOfBranches o (span t) bs × BranchesPlaced size bs))

-- ---- a structure's plain members

-- one of two claims
abbrev pub If : Bool → Type 0 → Type 0 → Type 0
If true A B = A
If false A B = B

-- the plain members from bit c on stand one after another, up to the size
module _ (trees : ℕ → Tree) (size : ℕ) where
  unfoldable pub Stairs : List Member → ℕ → Type 0
  Stairs [] c = c ≤ size
  Stairs (m ∷ ms) c =
      If (is_plain m) ((c ≤ first_bit m) × (TreePlaced (member_tree trees m) × Stairs ms (past_tree trees m)))
      (Stairs ms c)

-- ---- tables

-- they can be walked, and no two members of a structure share a bit
pub record Disjoint (types members : List ℕ) : Type 0 where
  pub walkable : Walkable types members
  pub placed : (i : ℕ) → i < most_types → TreePlaced (tree_in types members i)

-- and the plain members of a structure stand in the order of their rows, so that one sweep over them comes to all
pub record Sweepable (types members : List ℕ) : Type 0 where
  pub disjoint : Disjoint types members
  pub stairs : (i : ℕ) → i < most_types
      → Stairs (tree_in types members) (8 * sizes_in types i)
      (members_at members (type_at types i).first (type_at types i).count) 0
