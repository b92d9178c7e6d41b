-- Rows of the lent tables that hold nothing, and types whose word has 16 bits (document 01, "Declaration book": the
-- tables).
use Rattle.std.specs.Prelude.{◌<◌, false, None}
use Rattle.types.specs.tables.Limits.{most_types}
use Rattle.types.specs.declared.atomics.atomic.Atomic.TheVariants.{Bool as BOOL}
use Rattle.types.specs.declared.tables.member.Member.{Member}
use Rattle.types.specs.declared.tables.member.Span.{Span}
use Rattle.types.specs.declared.tables.member.StructDef.{StructDef}
use Rattle.types.specs.declared.tables.member.StructKind.TheVariants.{Udt}
use Rattle.types.specs.declared.tables.member.Ty.{Ty}
use Rattle.types.specs.declared.tables.member.Ty.TheVariants.{Atomic, Struct}

-- a structure's number is below the number of rows
abbrev pub TyFits : Ty → Type 0
TyFits (Atomic a) = Unit {0}
TyFits (Struct n) = n < most_types

-- ---- a row of zeros: one that is not in use, and one past a table's end

abbrev pub no_name : Span
no_name = record { at = 0; long = 0 }

abbrev pub no_member : Member
no_member =
    record { ty = Atomic BOOL; count = 0; offset = 0; bit = None; hidden = false; local = false; access = 0 }

abbrev pub no_type : StructDef
no_type = record { name = no_name; id = 0; handle = 0; size = 0; kind = Udt; first = 0; count = 0 }
