-- Every type's tree has branches that share no bit and no number (document 01, "Layout", "Normal image"): what the
-- layouts promise, carried over to trees, for tables as our own calls left them.
use Prim.Native.Nat.{ℕ, zero, suc, ◌+◌, ◌*◌, ◌<◌, ◌≤◌}
use native.Mathlib.Omega.{arith}
use mathlib.Core.Path.{◌≡◌, refl}
use mathlib.Core.Bool.{Bool, true, false, cond}
use mathlib.Core.List.{List, [], ◌∷◌}
use mathlib.Core.Logic.{inl, inr, ⊎_elim}
use Rattle.types.specs.layout.Laid.{Earlier, first_bit, Laid, Clear as ClearOf}
use Rattle.types.specs.tables.Defs.{part_at, parts_at}
use Rattle.types.specs.tables.Kept.{Kept}
use Rattle.types.specs.tables.Lent.{member_at, type_at}
use Rattle.types.specs.tables.Limits.{most_types}
use Rattle.types.specs.tables.Sizes.{bits_of, sizes_in}
use Rattle.types.specs.declared.tables.member.Member.{Member}
use Rattle.types.proofs.Face.{RowIs, holds, empty, kept_row}
use Rattle.values.specs.inside.normal_image.Placed.{BranchesPlaced, ClearOfBranches, Disjoint, Ascending}
use Rattle.values.specs.inside.normal_image.Placed.{TreePlaced}
use Rattle.values.specs.reading.Leaf.{str}
use Rattle.values.specs.reading.Tree.{Tree, leaf, struct, span}
use Rattle.values.specs.reading.Trees.{bit_tree, branches_from, is_string_kind, known_in, members_at, second_count}
use Rattle.values.specs.reading.Trees.{seen}
use Rattle.values.specs.reading.Trees.{struct_tree, tree_of, tree_within, value_tree}
use Rattle.values.proofs.normal_image.DisjointLaws.{member_placed}
use Rattle.values.proofs.reading.KeptWalkable.{kept_walkable}
use Rattle.values.proofs.reading.SpanLaws.{TreesSized, sound_below, sound_within, bit_span}

-- ---- a structure whose earlier ones are placed

module _ (types members names : List ℕ) (trees : ℕ → Tree) (i : ℕ) (sound : TreesSized types trees i)
    (placed : (s : ℕ) → s < i → TreePlaced (trees s)) where
  abbrev tree : Member → Tree
  tree m = bit_tree m.bit (value_tree trees m.ty m.count)

  -- a visible member shares no bit with the visible ones after it
  rows_clear : (m : Member) → m.hidden ≡ false → Earlier i m.ty → (size j row n : ℕ)
      → ClearOf (sizes_in types) m (parts_at members names row n)
      → Laid (sizes_in types) i size (parts_at members names row n)
      → ClearOfBranches (first_bit m) (span (tree m)) (branches_from trees j (members_at members row n))
  unfolding ClearOf Laid parts_at part_at branches_from members_at
  rows_clear m v e size j row zero c d = tt
  rows_clear m v e size j row (suc n) (c, cs) (d, ds) =
      go (member_at members row).hidden refl (rows_clear m v e size (suc j) (row + 1) n cs ds)
    where
      mine : span (tree m) ≡ bits_of (sizes_in types) m.bit m
      mine = bit_span types members trees i sound m.bit m e

      theirs : span (tree (member_at members row))
          ≡ bits_of (sizes_in types) (member_at members row).bit (member_at members row)
      theirs = bit_span types members trees i sound (member_at members row).bit (member_at members row) d.earlier

      go : (h : Bool) → (member_at members row).hidden ≡ h
          → ClearOfBranches (first_bit m) (span (tree m)) (branches_from trees (suc j) (members_at members (row + 1) n))
          → ClearOfBranches (first_bit m) (span (tree m))
          (seen h j (first_bit (member_at members row)) (tree (member_at members row))
          (branches_from trees (suc j) (members_at members (row + 1) n)))
      go true h rest = rest
      go false h rest =
          (⊎_elim (λ p. inl (omega (arith, p, mine))) (λ p. inr (omega (arith, p, theirs))) (c v h), rest)

  rows_placed : (size j row n : ℕ) → Laid (sizes_in types) i size (parts_at members names row n)
      → BranchesPlaced (8 * size) (branches_from trees j (members_at members row n))
  unfolding Laid parts_at part_at branches_from members_at TreePlaced
  rows_placed size j row zero d = tt
  rows_placed size j row (suc n) (d, ds) =
      go (member_at members row).hidden refl (rows_placed size (suc j) (row + 1) n ds)
    where
      m : Member
      m = member_at members row

      go : (h : Bool) → (member_at members row).hidden ≡ h
          → BranchesPlaced (8 * size) (branches_from trees (suc j) (members_at members (row + 1) n))
          → BranchesPlaced (8 * size)
          (seen h j (first_bit (member_at members row)) (tree (member_at members row))
          (branches_from trees (suc j) (members_at members (row + 1) n)))
      go true h rest = rest
      go false h rest = (
        member_placed trees i placed (member_at members row).bit (member_at members row).ty
            (member_at members row).count d.earlier,
        (
          omega (
            arith,
            d.inside,
            bit_span types members trees i sound (member_at members row).bit
                (member_at members row) d.earlier,
          ),
          (rows_clear (member_at members row) h d.earlier size (suc j) (row + 1) n d.clear ds, rest),
        ),
      )

  -- members are numbered in their order
  rows_numbered : (low j : ℕ) (ms : List Member) → low ≤ j → Ascending low (branches_from trees j ms)
  unfolding branches_from
  rows_numbered low j [] l = tt
  rows_numbered low j (m ∷ ms) l =
      go m.hidden (rows_numbered low (suc j) ms (omega arith)) (rows_numbered (suc j) (suc j) ms (omega arith))
    where
      go : (h : Bool) → Ascending low (branches_from trees (suc j) ms)
          → Ascending (suc j) (branches_from trees (suc j) ms)
          → Ascending low (seen h j (first_bit m) (tree m) (branches_from trees (suc j) ms))
      go true skipped next = skipped
      go false skipped next = (l, next)

  struct_placed : Laid (sizes_in types) i (type_at types i).size
      (parts_at members names (type_at types i).first (type_at types i).count)
      → TreePlaced (struct_tree trees (known_in types members i))
  unfolding struct_tree known_in TreePlaced
  struct_placed d = go (is_string_kind (type_at types i).kind)
    where
      go : (b : Bool)
          → TreePlaced
          (cond b (leaf (str (second_count (members_at members (type_at types i).first (type_at types i).count))))
          (struct (8 * (type_at types i).size)
          (branches_from trees 0 (members_at members (type_at types i).first (type_at types i).count))))
      go true = tt
      go false = (
        rows_placed (type_at types i).size 0 (type_at types i).first (type_at types i).count d,
        rows_numbered 0 0 (members_at members (type_at types i).first (type_at types i).count) (omega arith),
      )

-- ---- tables as our own calls left them

module _ {types members names : List ℕ} (k : Kept types members names) where
  -- the rows of every type are laid out as a layout promises
  pub laid_all : (i : ℕ) → Laid (sizes_in types) i (type_at types i).size
      (parts_at members names (type_at types i).first (type_at types i).count)
  laid_all i = go (kept_row k i)
    where
      go : RowIs types members names i → Laid (sizes_in types) i (type_at types i).size
          (parts_at members names (type_at types i).first (type_at types i).count)
      go (holds r) = r.laid
      go (empty e) = rw e (unfold parts_at Laid in tt)

  within_placed : (f i : ℕ) → f ≤ most_types → i < f → TreePlaced (tree_within (known_in types members) f i)
  unfolding tree_within
  within_placed zero i h l = absurd (let z : ⊥ = omega arith in z)
  within_placed (suc f) i h l =
      struct_placed types members names (tree_within (known_in types members) f) i
      (sound_below i (omega arith) (sound_within types members (kept_walkable k) f (omega arith)))
      (λ s q. within_placed f s (omega arith) (omega arith)) (laid_all i)

  -- tables as our own calls left them have members that share no bit
  pub kept_disjoint : Disjoint types members
  unfolding tree_of
  kept_disjoint = record { walkable = kept_walkable k; placed = λ i l. within_placed most_types i (omega arith) l }
