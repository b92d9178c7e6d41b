-- What counting a structure's waste asks of its rows (document 01, "Template and handle", Waste), so that no sum is too
-- large.
use Rattle.std.specs.Prelude.{ℕ, ◌+◌, ◌*◌, ◌^◌, ◌≤◌, ◌<◌, cond, List, ◌≡◌, None}
use Rattle.types.specs.inside.tables.Defs.{Readable}
use Rattle.types.specs.inside.tables.Lent.{TyFits}
use Rattle.types.specs.layout.Placing.{times}
use Rattle.types.specs.tables.Lent.{member_at}
use Rattle.types.specs.tables.Sizes.{size_in, sizes_in, bits_of}
use Rattle.types.specs.declared.tables.member.Member.{Member}
use Rattle.types.specs.declared.tables.member.StructDef.{StructDef}

-- a member whose bytes are few enough to count its bits
pub record Fitting (types : List ℕ) (m : Member) : Type 0 where
  pub ty : TyFits m.ty
  pub small : m.bit ≡ None → size_in (sizes_in types) m.ty * times m.count ≤ 2 ^ 28

pub record SeenBits (types : List ℕ) (m : Member) (r : ℕ) : Type 0 where
  pub is : r ≡ cond m.hidden 0 (bits_of (sizes_in types) m.bit m)
  pub small : r ≤ 2 ^ 31

-- a structure whose rows can be read, with such members
pub record Countable (types members : List ℕ) (d : StructDef) : Type 0 where
  pub rows : Readable members d
  pub small : (k : ℕ) → k < d.count → (member_at members (d.first + k)).bit ≡ None
      → size_in (sizes_in types) (member_at members (d.first + k)).ty * times (member_at members (d.first + k)).count
      ≤ 2 ^ 28
