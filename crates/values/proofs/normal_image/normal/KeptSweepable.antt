-- Tables as our own calls left them can be swept (document 01, "Layout", "Normal image"): the plain members of a
-- structure stand in the order of their rows.
use Prim.Native.Nat.{ℕ, zero, suc, ◌+◌, ◌*◌, ◌<◌, ◌≤◌}
use native.Mathlib.Omega.{arith}
use mathlib.Core.Path.{◌≡◌, refl, sym, ap, subst}
use mathlib.Core.Bool.{Bool, true, false}
use mathlib.Core.List.{List, [], ◌∷◌}
use Rattle.types.specs.layout.Laid.{Earlier, Laid, Plain, Rising, first_bit, past_bit}
use Rattle.types.specs.tables.Defs.{Part, part_at, parts_at}
use Rattle.types.specs.tables.Kept.{KeptRows}
use Rattle.types.specs.tables.Lent.{member_at, type_at}
use Rattle.types.specs.tables.Limits.{most_types}
use Rattle.types.specs.tables.Sizes.{sizes_in}
use Rattle.types.specs.declared.tables.member.Member.{Member}
use Rattle.types.specs.declared.tables.member.Ty.{Ty}
use Rattle.types.specs.declared.tables.member.Ty.TheVariants as ty
use Rattle.values.specs.inside.normal_image.InPlace.{is_plain, past_tree}
use Rattle.values.specs.inside.normal_image.Placed.{Disjoint, If, TreePlaced, Stairs, Sweepable}
use Rattle.values.specs.inside.writing.Rows.{member_tree, tree_in}
use Rattle.values.specs.reading.Trees.{members_at}
use Rattle.values.proofs.normal_image.DisjointLaws.{member_placed}
use Rattle.values.proofs.normal_image.KeptPlaced.{kept_disjoint, laid_all}
use Rattle.values.proofs.normal_image.SweepableLaws.{plain_is}
use Rattle.values.proofs.reading.SpanLaws.{bit_span, sound_all, sound_below}

-- ---- rows that rise

-- every plain one of the parts begins at or after bit c
unfoldable PlainFrom : ℕ → List Part → Type 0
PlainFrom c [] = Unit {0}
PlainFrom c (p ∷ ps) = (Plain p.member → c ≤ first_bit p.member) × PlainFrom c ps

from_start : (ps : List Part) → PlainFrom 0 ps
unfolding PlainFrom
from_start [] = tt
from_start (p ∷ ps) = (λ v. omega arith, from_start ps)

from_past : (sizes : ℕ → ℕ) (m : Member) (ps : List Part) → Plain m → Rising sizes m ps
    → PlainFrom (past_bit sizes m) ps
unfolding PlainFrom Rising
from_past sizes m [] v r = tt
from_past sizes m (p ∷ ps) v (r, rs) = (r v, from_past sizes m ps v rs)

-- ---- the tables

earlier_low : {i : ℕ} (t : Ty) → i < most_types → Earlier i t → Earlier most_types t
earlier_low (ty.Atomic a) low l = tt
earlier_low (ty.Struct n) low l = omega arith

module _ {types members : List ℕ} (k : KeptRows types members) where
  disjoint : Disjoint types members
  disjoint = kept_disjoint k.kept

  module _ (i : ℕ) (low : i < most_types) where
    -- the plain ones of some rows, from bit c on
    rows_stairs : (row n c : ℕ) → c ≤ 8 * sizes_in types i → PlainFrom c (parts_at members k.names row n)
        → Laid (sizes_in types) i (sizes_in types i) (parts_at members k.names row n)
        → Stairs (tree_in types members) (8 * sizes_in types i) (members_at members row n) c
    unfolding PlainFrom Laid parts_at part_at members_at Stairs
    rows_stairs row zero c l f d = l
    rows_stairs row (suc n) c l (f, fs) (d, ds) =
        go (is_plain m) refl (rows_stairs (row + 1) n c l fs ds)
        (λ v. rows_stairs (row + 1) n (past_tree (tree_in types members) m) (omega (arith, past, d.inside))
        (subst (λ (b : ℕ). PlainFrom b (parts_at members k.names (row + 1) n)) (sym past)
        (from_past (sizes_in types) m (parts_at members k.names (row + 1) n) v d.rising)) ds)
      where
        m : Member
        m = member_at members row

        past : past_tree (tree_in types members) m ≡ past_bit (sizes_in types) m
        past =
            ap (first_bit m +◌)
            (bit_span types members (tree_in types members) i
            (sound_below i (omega arith) (sound_all types members disjoint.walkable)) m.bit m d.earlier)

        go : (b : Bool) → is_plain m ≡ b
            → Stairs (tree_in types members) (8 * sizes_in types i) (members_at members (row + 1) n) c
            → (Plain m → Stairs (tree_in types members) (8 * sizes_in types i) (members_at members (row + 1) n)
            (past_tree (tree_in types members) m))
            → If b
            ((c ≤ first_bit m) × (TreePlaced (member_tree (tree_in types members) m)
            × Stairs (tree_in types members) (8 * sizes_in types i) (members_at members (row + 1) n)
            (past_tree (tree_in types members) m)))
            (Stairs (tree_in types members) (8 * sizes_in types i) (members_at members (row + 1) n) c)
        go false e same next = same
        go true e same next = (
          f (plain_is m e),
          (
            member_placed (tree_in types members) most_types disjoint.placed m.bit m.ty m.count
                (earlier_low m.ty low d.earlier),
            next (plain_is m e),
          ),
        )

    -- its plain members stand in order
    all_stairs : Stairs (tree_in types members) (8 * sizes_in types i)
        (members_at members (type_at types i).first (type_at types i).count) 0
    all_stairs =
        rows_stairs (type_at types i).first (type_at types i).count 0 (omega arith)
        (from_start (parts_at members k.names (type_at types i).first (type_at types i).count))
        (laid_all k.kept i)

  -- kept tables can be swept
  pub kept_sweepable : Sweepable types members
  kept_sweepable = record { disjoint = disjoint; stairs = all_stairs }
