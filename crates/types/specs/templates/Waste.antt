-- Waste (document 01, "Template and handle", added): size in bits less the visible members' bits; an embedded structure
-- counts whole, a BOOL one.
use Rattle.std.specs.Prelude.{ℕ, ◌+◌, ◌-◌, ◌*◌, cond, List, [], ◌∷◌}
use Rattle.types.specs.refusals.Said.{Said, done, refused}
use Rattle.types.specs.tables.Defs.{Part, Def, def_of}
use Rattle.types.specs.tables.Lent.{type_at}
use Rattle.types.specs.tables.Sizes.{bits_of, sizes_in}
use Rattle.types.specs.templates.Template.{has_template}
use Rattle.types.specs.declared.tables.member.StructDef.{StructDef}
use Rattle.types.specs.declared.tables.member.Ty.TheVariants.{Struct}

-- the visible members' bits
unfoldable pub visible_bits : (ℕ → ℕ) → List Part → ℕ
visible_bits sizes [] = 0
visible_bits sizes (p ∷ ps) =
    cond p.member.hidden 0 (bits_of sizes p.member.bit p.member) + visible_bits sizes ps

unfoldable pub waste_of : (ℕ → ℕ) → Def → ℕ
waste_of sizes d = 8 * d.size - visible_bits sizes d.parts

-- the waste of the structure in some rows
abbrev pub waste_in : List ℕ → List ℕ → List ℕ → StructDef → ℕ
waste_in types members names d = waste_of (sizes_in types) (def_of members names d)

-- the waste of the structure with a number; 15 where there is none
unfoldable pub waste_at : List ℕ → List ℕ → List ℕ → ℕ → Said ℕ
waste_at types members names n =
    cond (has_template types (Struct n)) (done (waste_in types members names (type_at types n))) (refused 15 0)
