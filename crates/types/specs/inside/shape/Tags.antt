-- Tag shapes as the code makes them (document 01, "Tag shape"): the product of the lengths, and a tag that is no array
-- of BOOLs.
use Rattle.std.specs.Prelude.{ℕ, ◌-◌, ◌^◌, true, cond, List, ◌≡◌, leb, Option, Some, None}
use Rattle.types.specs.inside.tables.Lent.{TyFits}
use Rattle.types.specs.shape.Tags.{product, none_zero}
use Rattle.types.specs.declared.tables.member.Ty.{Ty}

-- the product, where 64 bits hold it
unfoldable pub product_of : List ℕ → Option ℕ
product_of ns = cond (leb (product ns) (2 ^ 64 - 1)) (Some (product ns)) None

-- a type that is there, and lengths that are none 0
pub record PlainTag (t : Ty) (ns : List ℕ) : Type 0 where
  pub ty : TyFits t
  pub lengths : none_zero ns ≡ true
