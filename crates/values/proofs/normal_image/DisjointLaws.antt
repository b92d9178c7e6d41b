-- What tables whose members share no bit promise (document 01, "Layout", "Normal image"): the tree of every value of
-- them has branches that share no bit.
use Rattle.std.specs.Prelude.{Option, Some, None}
use Prim.Native.Nat.{ℕ, ◌*◌, ◌<◌}
use native.Mathlib.Omega.{arith}
use mathlib.Core.Bool.{Bool, true, false, cond}
use mathlib.Core.List.{List}
use lib.Dec.{eqb}
use Rattle.types.specs.atomics.Atomic.{bit_string, size_of}
use Rattle.types.specs.inside.tables.Lent.{TyFits}
use Rattle.types.specs.layout.Laid.{Earlier}
use Rattle.types.specs.tables.Limits.{most_types}
use Rattle.types.specs.declared.atomics.atomic.Atomic.{Atomic}
use Rattle.types.specs.declared.atomics.atomic.Atomic.TheVariants as atomic
use Rattle.types.specs.declared.tables.member.Ty.{Ty}
use Rattle.types.specs.declared.tables.member.Ty.TheVariants as ty
use Rattle.values.specs.inside.normal_image.Placed.{Disjoint, GoodLeaf, TreePlaced}
use Rattle.values.specs.inside.writing.Rows.{tree_in}
use Rattle.values.specs.reading.Leaf.{leaf_of}
use Rattle.values.specs.reading.Tree.{Tree, leaf, bits, array}
use Rattle.values.specs.reading.Trees.{atomics_tree, bit_tree, known_in, structs_tree, tree_of_value, value_tree}

leaf_good : (a : Atomic) → GoodLeaf (leaf_of a)
leaf_good atomic.Bool = tt
leaf_good atomic.SInt = (omega arith, omega arith)
leaf_good atomic.Int = (omega arith, omega arith)
leaf_good atomic.DInt = (omega arith, omega arith)
leaf_good atomic.LInt = (omega arith, omega arith)
leaf_good atomic.USInt = (omega arith, omega arith)
leaf_good atomic.UInt = (omega arith, omega arith)
leaf_good atomic.UDInt = (omega arith, omega arith)
leaf_good atomic.ULInt = (omega arith, omega arith)
leaf_good atomic.Real = (omega arith, omega arith)
leaf_good atomic.LReal = (omega arith, omega arith)
leaf_good atomic.Byte = (omega arith, omega arith)
leaf_good atomic.Word = (omega arith, omega arith)
leaf_good atomic.DWord = (omega arith, omega arith)
leaf_good atomic.LWord = (omega arith, omega arith)

atomics_placed : (a : Atomic) (n : ℕ) → TreePlaced (atomics_tree a n)
unfolding atomics_tree TreePlaced
atomics_placed a n = go (bit_string a) (eqb n 0)
  where
    go : (b c : Bool)
        → TreePlaced (cond b (bits (8 * size_of a) n) (cond c (leaf (leaf_of a)) (array n (leaf (leaf_of a)))))
    go true c = tt
    go false true = leaf_good a
    go false false = leaf_good a

-- where the trees of the structures before structure i are placed
module _ (trees : ℕ → Tree) (i : ℕ) (placed : (s : ℕ) → s < i → TreePlaced (trees s)) where
  structs_placed : (s n : ℕ) → s < i → TreePlaced (structs_tree trees s n)
  unfolding structs_tree TreePlaced
  structs_placed s n l = go (eqb n 0)
    where
      go : (b : Bool) → TreePlaced (cond b (trees s) (array n (trees s)))
      go true = placed s l
      go false = placed s l

  -- so are their values, and the members of these types
  value_placed : (t : Ty) (n : ℕ) → Earlier i t → TreePlaced (value_tree trees t n)
  value_placed (ty.Atomic a) n l = atomics_placed a n
  value_placed (ty.Struct s) n l = structs_placed s n l

  -- the tree of a member whose type is earlier has branches that share no bit
  pub member_placed : (b : Option ℕ) (t : Ty) (n : ℕ) → Earlier i t → TreePlaced (bit_tree b (value_tree trees t n))
  member_placed None t n l = value_placed t n l
  member_placed (Some k) t n l = unfold TreePlaced in tt

-- a value's tree has branches that share no bit
pub disjoint_value : {types members : List ℕ} → Disjoint types members → (t : Ty) (n : ℕ) → TyFits t
    → TreePlaced (tree_of_value (known_in types members) t n)
unfolding tree_of_value
disjoint_value {types} {members} d (ty.Atomic a) n l = atomics_placed a n
disjoint_value {types} {members} d (ty.Struct s) n l = structs_placed (tree_in types members) most_types d.placed s n l
