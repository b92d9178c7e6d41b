-- Declared members whose types were found (document 01, "Declaration book" and "Layout"): a book's entry as a
-- declaration, and those of one type, in order.
use Rattle.std.specs.Prelude.{ℕ, ◌+◌, ◌/◌, min, Bool, cond, not, ◌&&◌, eqb}
use Rattle.types.specs.atomics.Atomic.{size_of}
use Rattle.types.specs.layout.Placing.{is_bool}
use Rattle.types.specs.tables.Sizes.{size_in}
use Rattle.types.specs.declared.atomics.atomic.Atomic.TheVariants.{DWord}
use Rattle.types.specs.declared.book.contents.MemberEntry.{MemberEntry}
use Rattle.types.specs.declared.layout.placing.Decl.{Decl}
use Rattle.types.specs.declared.tables.member.Span.{Span}
use Rattle.types.specs.declared.tables.member.Ty.{Ty}
use Rattle.types.specs.declared.tables.member.Ty.TheVariants.{Atomic, Struct}

-- BOOL with dim above 0 becomes ceil(dim / 32) DWORDs
unfoldable pub bool_array : Ty → ℕ → Bool
bool_array ty dim = is_bool ty && not (eqb dim 0)

unfoldable pub stored_ty : Ty → ℕ → Ty
stored_ty ty dim = cond (bool_array ty dim) (Atomic DWord) ty

unfoldable pub stored_count : Ty → ℕ → ℕ
stored_count ty dim = cond (bool_array ty dim) ((dim + 31) / 32) dim

-- atomic size but at most 4; structure 4
abbrev pub align_in : Ty → ℕ
align_in (Atomic a) = min (size_of a) 4
align_in (Struct n) = 4

-- a member that is stored as so many of a type
abbrev pub plain : (ℕ → ℕ) → Ty → ℕ → Span → Bool → ℕ → Decl
plain sizes ty count name local access =
    record {
      name = name;
      ty = ty;
      size = size_in sizes ty;
      align = align_in ty;
      count = count;
      local = local;
      access = access;
    }

-- a declared member of a type that was found
unfoldable pub resolved : (ℕ → ℕ) → Ty → ℕ → Span → Bool → ℕ → Decl
resolved sizes ty dim name local access = plain sizes (stored_ty ty dim) (stored_count ty dim) name local access

abbrev pub declared : (ℕ → ℕ) → Ty → MemberEntry → Decl
declared sizes ty e = resolved sizes ty e.dim e.name (eqb e.local 1) e.access
