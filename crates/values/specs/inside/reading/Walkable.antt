-- What the walk counts on in the tables (document 01, "Layout"): a structure's rows are in the table, each of its
-- members names an earlier type and lies inside it, and a string is LEN and DATA. Tables as our own calls left them
-- are so.
use Rattle.std.specs.Prelude.{ℕ, ◌+◌, ◌*◌, ◌/◌, ◌<◌, ◌≤◌, true, List, ◌≡◌, length}
use Rattle.types.specs.inside.tables.Lent.{TyFits}
use Rattle.types.specs.layout.Laid.{Earlier, past_bit}
use Rattle.types.specs.layout.Placing.{most_size, times}
use Rattle.types.specs.tables.Lent.{member_at, type_at}
use Rattle.types.specs.tables.Limits.{most_types, most_members}
use Rattle.types.specs.tables.Sizes.{size_in, sizes_in}
use Rattle.types.specs.declared.tables.member.Member.{Member}
use Rattle.types.specs.declared.tables.member.StructDef.{StructDef}
use Rattle.types.specs.declared.tables.member.Ty.{Ty}
use Rattle.types.specs.declared.tables.member.Ty.TheVariants as ty
use Rattle.values.specs.inside.reading.Walk.{is_nested}
use Rattle.values.specs.reading.Texts.{capacity_at}
use Rattle.values.specs.reading.Trees.{is_string_kind}
use Rattle.values.specs.declared.reading.rows.Nested.{Nested}

-- a member of structure i, of so many bytes
pub record MemberWithin (types : List ℕ) (i size : ℕ) (m : Member) : Type 0 where
  pub earlier : Earlier i m.ty
  pub inside : past_bit (sizes_in types) m ≤ 8 * size

-- a string has two rows, and its size is 4 plus its capacity rounded up to 4
pub record IsString (members : List ℕ) (d : StructDef) : Type 0 where
  pub rows : d.count ≡ 2
  pub size : d.size ≡ 4 + 4 * ((capacity_at members d.first + 3) / 4)

pub record WalkableType (types members : List ℕ) (i : ℕ) : Type 0 where
  pub rows : (type_at types i).first + (type_at types i).count ≤ most_members
  pub most : (type_at types i).size ≤ most_size + 224
  pub string : is_string_kind (type_at types i).kind ≡ true → IsString members (type_at types i)
  pub each : (k : ℕ) → k < (type_at types i).count
      → MemberWithin types i (type_at types i).size (member_at members ((type_at types i).first + k))

pub record Walkable (types members : List ℕ) : Type 0 where
  pub each : (i : ℕ) → i < most_types → WalkableType types members i

-- a row of structure i
pub record RowOf (types members : List ℕ) (i row : ℕ) : Type 0 where
  pub low : i < most_types
  pub inside : row < most_members
  pub within : MemberWithin types i (sizes_in types i) (member_at members row)

-- that holds a visible structure, or an array of structures
pub record NestedRow (types members : List ℕ) (i row : ℕ) : Type 0 where
  pub row_of : RowOf types members i row
  pub nested : is_nested (member_at members row) ≡ true

-- what is read of it: the structure, how many, and the byte where it begins
pub record HeldIn (m : Member) (r : Nested) : Type 0 where
  pub struct : m.ty ≡ ty.Struct r.structure
  pub count : r.count ≡ m.count
  pub at : r.start ≡ m.offset

-- an image of structure i
pub record ImageOf (types : List ℕ) (i : ℕ) (image : List ℕ) : Type 0 where
  pub low : i < most_types
  pub long : length image ≡ sizes_in types i

-- an image of n structures i
pub record ImagesOf (types : List ℕ) (i n : ℕ) (image : List ℕ) : Type 0 where
  pub low : i < most_types
  pub long : length image ≡ sizes_in types i * n

-- an image of a value: size times max(count, 1) bytes
pub record ValueImage (types : List ℕ) (t : Ty) (n : ℕ) (image : List ℕ) : Type 0 where
  pub fits : TyFits t
  pub long : length image ≡ size_in (sizes_in types) t * times n
