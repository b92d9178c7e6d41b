-- What tables that can be swept promise (document 01, "Layout", "Normal image"): a structure's branches share no bit,
-- and its rows lie in its image.
use Rattle.std.specs.Prelude.{Option, Some, None}
use Prim.Native.Nat.{ℕ, ◌*◌, ◌<◌}
use native.Mathlib.Omega.{arith}
use mathlib.Core.Path.{◌≡◌, refl, sym, subst}
use mathlib.Core.Bool.{Bool, true, false, cond, not, true≢false}
use mathlib.Core.List.{List}
use Rattle.types.specs.layout.Laid.{Plain, has_bit}
use Rattle.types.specs.tables.Lent.{type_at}
use Rattle.types.specs.tables.Limits.{most_types}
use Rattle.types.specs.tables.Sizes.{sizes_in}
use Rattle.types.specs.declared.tables.member.Member.{Member}
use Rattle.values.specs.inside.normal_image.InPlace.{RowsHere, is_plain}
use Rattle.values.specs.inside.normal_image.Placed.{BranchesPlaced, TreePlaced, Sweepable}
use Rattle.values.specs.inside.reading.Walkable.{Walkable}
use Rattle.values.specs.inside.writing.Rows.{Here, branches_in}
use Rattle.values.specs.reading.Trees.{is_string_kind}
use Rattle.values.proofs.writing.BranchLaws.{members_tree}

-- a member is plain where the test says so
pub plain_is : (m : Member) → is_plain m ≡ true → Plain m
unfolding is_plain
plain_is m e = go m.hidden m.bit refl refl e
  where
    go : (h : Bool) (b : Option ℕ) → m.hidden ≡ h → m.bit ≡ b → cond h false (not (has_bit b)) ≡ true → Plain m
    go true b f g q = absurd (true≢false (sym q))
    go false (Some k) f g q = absurd (true≢false (sym q))
    go false None f g q = record { visible = f; whole = g }

module _ {types members : List ℕ} (s : Sweepable types members) where
  -- tables that can be swept can be walked
  pub sweepable_walkable : Walkable types members
  sweepable_walkable = s.disjoint.walkable

  module _ (i : ℕ) (low : i < most_types) where
    -- a structure that is no string has branches that share no bit
    pub sweepable_branches : is_string_kind (type_at types i).kind ≡ false
        → BranchesPlaced (8 * sizes_in types i) (branches_in types members i)
    unfolding TreePlaced
    sweepable_branches e =
        (subst TreePlaced (members_tree types members sweepable_walkable i low e) (s.disjoint.placed i low)).0

    -- its rows lie in the image
    pub sweepable_rows : (base : ℕ) (image : List ℕ) → Here types i base image
        → RowsHere members (type_at types i).first (type_at types i).count base image
    sweepable_rows base image h =
        let w = sweepable_walkable.each i low in
        record {
          rows = w.rows;
          sizes = sizes_in types;
          each = λ k l. record { inside = omega (arith, (w.each k l).inside, h.inside) };
        }
