-- Rows of a structure in the walk (document 01, "Reading"): what the tables say of a row, and what a member gives by
-- whether it is a structure: its number and that structure or those structures, or else what `leaf_out` gives.
use Rattle.std.specs.Prelude.{Option, Some, None}
use Prim.Native.Nat.{ℕ, ◌+◌, ◌*◌, ◌<◌, ◌≤◌}
use native.Mathlib.Omega.{arith}
use mathlib.Core.Path.{◌≡◌, refl}
use mathlib.Core.Bool.{Bool, true, false, cond}
use mathlib.Core.List.{List, [], ◌∷◌}
use Rattle.words.specs.Bits.{flat}
use Rattle.words.specs.Words.{part}
use Rattle.words.proofs.TestLaws.{clash}
use Rattle.types.specs.layout.Placing.{times}
use Rattle.types.specs.tables.Lent.{member_at, type_at}
use Rattle.types.specs.tables.Limits.{most_types}
use Rattle.types.specs.tables.Sizes.{size_in, sizes_in}
use Rattle.types.specs.declared.atomics.atomic.Atomic.{Atomic}
use Rattle.types.specs.declared.tables.member.Member.{Member}
use Rattle.types.specs.declared.tables.member.Ty.{Ty}
use Rattle.types.specs.declared.tables.member.Ty.TheVariants as ty
use Rattle.values.specs.inside.reading.Walk.{bit_nested, is_nested, bit_out, leaf_value, leaf_out, structs_by, value_by}
use Rattle.values.specs.inside.reading.Walk.{member_by}
use Rattle.values.specs.inside.reading.Walkable.{HeldIn, Walkable, RowOf, NestedRow}
use Rattle.values.specs.stream.Stream.{Token, bool, member}
use Rattle.values.specs.declared.reading.rows.Nested.{Nested}

-- ---- which rows are structures

nested_parts : (h : Bool) (b : Option ℕ) (t : Ty) → cond h false (bit_nested b t) ≡ true
    → (h ≡ false) × ((b ≡ None) × (bit_nested None t ≡ true))
nested_parts true b t e = clash e refl
nested_parts false None t e = (refl, (refl, e))
nested_parts false (Some k) t e = clash e refl

module _ (m : Member) (nested : is_nested m ≡ true) where
  parts : (m.hidden ≡ false) × ((m.bit ≡ None) × (bit_nested None m.ty ≡ true))
  unfolding is_nested
  parts = nested_parts m.hidden m.bit m.ty nested

  -- a member that is a nested structure is visible
  pub nested_shown : m.hidden ≡ false
  nested_shown = parts.0

  -- a member that is a nested structure has no bit
  pub nested_whole : m.bit ≡ None
  nested_whole = parts.1.0

  -- a member that is a nested structure is no atomic
  pub never_atomic : {a : Atomic} → m.ty ≡ ty.Atomic a → ⊥
  never_atomic e = clash parts.1.1 (rw e)

-- ---- what a row gives

module _ (types members : List ℕ) (rec : ℕ → List ℕ → List Token) (j : ℕ) (m : Member) (image : List ℕ) where
  leaf_parts : (h : Bool) (b : Option ℕ) (t : Ty) (n at : ℕ) (f : ℕ → List Token)
      → cond h false (bit_nested b t) ≡ false
      → cond h [] (member j ∷ bit_out b f
      (value_by types members rec t n (part image at (size_in (sizes_in types) t * times n))))
      ≡ cond h [] (member j ∷ bit_out b f (leaf_value t n (part image at)))
  leaf_parts true b t n at f e = refl
  leaf_parts false (Some k) t n at f e = refl
  leaf_parts false None (ty.Atomic a) n at f e = refl
  leaf_parts false None (ty.Struct s) n at f e = clash refl e

  -- a member that is no structure
  pub member_leaf : is_nested m ≡ false → member_by types members rec j m image ≡ leaf_out j m image
  unfolding is_nested member_by leaf_out
  member_leaf e =
      leaf_parts m.hidden m.bit m.ty m.count m.offset
      (λ k. bool (flat image (8 * m.offset + k)) ∷ []) e

  -- a nested structure, or an array of them, gives its number and what its own part of the image gives
  pub member_nested : (s : ℕ) → is_nested m ≡ true → m.ty ≡ ty.Struct s
      → member_by types members rec j m image
      ≡ member j
      ∷ structs_by types members rec s m.count (part image m.offset (sizes_in types s * times m.count))
  unfolding member_by
  member_nested s e q = rw (nested_shown m e, nested_whole m e, q)

-- ---- what the tables say of a row

module _ {types members : List ℕ} where
  -- where the tables can be walked, row k of a structure is one of its rows
  pub row_of : {i k first n : ℕ} → Walkable types members → i < most_types → first ≡ (type_at types i).first
      → n ≡ (type_at types i).count → k < n → RowOf types members i (first + k)
  row_of {i} {k} w l p q h =
      rw p (record {
        low = l;
        inside = omega (arith, (w.each i l).rows);
        within = (w.each i l).each k (omega arith);
      })

  -- a row of structure i whose member is a nested structure is a nested row
  pub nested_row : {i row : ℕ} → RowOf types members i row → is_nested (member_at members row) ≡ true
      → NestedRow types members i row
  nested_row r e = record { row_of = r; nested = e }

  module _ {i row : ℕ} {r : Nested} (nested : NestedRow types members i row) (held : HeldIn (member_at members row) r)
    where
      -- the structure that a nested row holds is an earlier one
      pub held_earlier : r.structure < i
      held_earlier = rw held.struct at nested.row_of.within.earlier

      -- it has a number of the table
      pub held_low : r.structure < most_types
      held_low = omega (arith, held_earlier, nested.row_of.low)

      -- what a nested row holds lies inside its structure
      pub held_within : r.start + sizes_in types r.structure * times r.count ≤ sizes_in types i
      held_within =
          let m = member_at members row in
          let h : 8 * m.offset + 8 * (sizes_in types r.structure * times m.count) ≤ 8 * sizes_in types i =
          rw (nested_whole m nested.nested, held.struct) at nested.row_of.within.inside in
          rw held.count (omega (arith, held.at))
