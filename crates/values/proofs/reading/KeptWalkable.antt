-- Tables as our own calls left them are walkable (document 01, "What promises shut out" and "Layout"): a type's rows
-- are as it was laid out, and a row after the types has no members.
use Prim.Native.Nat.{ℕ, ◌+◌, ◌*◌, ◌/◌, ◌<◌}
use native.Mathlib.Omega.{arith}
use mathlib.Core.Path.{◌≡◌, refl, sym, ap, ◌∙◌}
use mathlib.Core.Bool.{true, true≢false}
use mathlib.Core.List.{List}
use Rattle.types.specs.inside.tables.Lent.{no_type}
use Rattle.types.specs.tables.Kept.{Kept}
use Rattle.types.specs.tables.Lent.{member_at, type_at}
use Rattle.types.specs.tables.Sizes.{sizes_in}
use Rattle.types.specs.declared.tables.member.Member.{Member}
use Rattle.types.specs.declared.tables.member.StructDef.{StructDef}
use Rattle.types.specs.declared.tables.member.StructKind.{StructKind}
use Rattle.types.specs.declared.tables.member.StructKind.TheVariants.{Udt, Predefined, Str, Aoi}
use Rattle.types.proofs.Face.{row_lies, TypeRow, RowIs, holds, empty, kept_row, StringRow}
use Rattle.values.specs.inside.reading.Walkable.{MemberWithin, IsString, WalkableType, Walkable}
use Rattle.values.specs.reading.Trees.{is_string_kind}

string_kind : (k : StructKind) → is_string_kind k ≡ true → k ≡ Str
string_kind Str e = refl
string_kind Udt e = cc
string_kind Predefined e = cc
string_kind Aoi e = cc

string_row : {members : List ℕ} {d : StructDef} → StringRow members d → IsString members d
string_row s =
    record {
      rows = s.count;
      size = s.size ∙ ap (λ (m : Member). 4 + 4 * ((m.count + 3) / 4)) (sym s.chars);
    }

-- a row after the types
unused_walkable : {types members : List ℕ} (i : ℕ) → type_at types i ≡ no_type → WalkableType types members i
unused_walkable i e =
    record {
      rows = rw e (omega arith);
      most = rw e (omega arith);
      string = rw e (λ q. absurd (true≢false (sym q)));
      each = rw e (λ j h. absurd (omega arith));
    }

module _ {types members names : List ℕ} where
  -- a type
  used_walkable : (i : ℕ) → TypeRow types members names i → WalkableType types members i
  used_walkable i r =
      record {
        rows = r.listable.rows.rows.rows;
        most = r.most;
        string = λ e. string_row (r.string (string_kind (type_at types i).kind e));
        each = within;
      }
    where
      within : (j : ℕ) → j < (type_at types i).count
          → MemberWithin types i (type_at types i).size (member_at members ((type_at types i).first + j))
      within j h =
          let w = row_lies (sizes_in types) i (type_at types i).size members names (type_at types i).first
          (type_at types i).count j r.laid h in
          record { earlier = w.earlier; inside = w.inside }

  row_walkable : (i : ℕ) → RowIs types members names i → WalkableType types members i
  row_walkable i (holds r) = used_walkable i r
  row_walkable i (empty e) = unused_walkable i e

-- tables as our own calls left them are walkable
pub kept_walkable : {types members names : List ℕ} → Kept types members names → Walkable types members
kept_walkable k = record { each = λ i l. row_walkable i (kept_row k i) }
