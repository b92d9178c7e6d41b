-- Tag shapes (document 01, "Tag shape"): up to three lengths, none 0; BOOL with a length has one only, rounded up to
-- 32s, stored as DWORDs; and the refusals 15, 23 and 24, in this order.
use Rattle.std.specs.Prelude.{ℕ, ◌+◌, ◌-◌, ◌*◌, ◌/◌, ◌^◌, Bool, true, cond, not, ◌&&◌, List, [], ◌∷◌, eqb, leb, ltb}
use Rattle.std.specs.Prelude.{length, get_or}
use Rattle.types.specs.layout.Placing.{most_size, is_bool, align_up}
use Rattle.types.specs.refusals.Said.{Said, done, refused}
use Rattle.types.specs.tables.Sizes.{size_in, sizes_in}
use Rattle.types.specs.tables.There.{is_there}
use Rattle.types.specs.tables.TypeWord.{type_in, ids_in}
use Rattle.types.specs.declared.atomics.atomic.Atomic.TheVariants.{DWord}
use Rattle.types.specs.declared.shape.tags.Shape.{Shape}
use Rattle.types.specs.declared.tables.member.Ty.{Ty}
use Rattle.types.specs.declared.tables.member.Ty.TheVariants.{Atomic}

-- up to three lengths, BOOL one only
unfoldable pub most_lengths : Ty → ℕ
most_lengths ty = cond (is_bool ty) 1 3

unfoldable pub none_zero : List ℕ → Bool
none_zero [] = true
none_zero (n ∷ ns) = not (eqb n 0) && none_zero ns

unfoldable pub lengths_ok : Ty → List ℕ → Bool
lengths_ok ty ns = leb (length ns) (most_lengths ty) && none_zero ns

-- with no length there is one element
unfoldable pub product : List ℕ → ℕ
product [] = 1
product (n ∷ ns) = n * product ns

-- the lengths that a shape holds: 0 where it has fewer
abbrev pub three : List ℕ → List ℕ
three ns = get_or ns 0 0 ∷ get_or ns 1 0 ∷ get_or ns 2 0 ∷ []

-- n elements of a stored type, not above 2^26 bytes
unfoldable pub within : (ℕ → ℕ) → Ty → List ℕ → ℕ → ℕ → Said Shape
within sizes ty lengths used n =
    cond (leb (size_in sizes ty * n) most_size)
    (done (record { ty = ty; lengths = lengths; used = used; elements = n; bytes = size_in sizes ty * n }))
    (refused 24 0)

-- BOOL with a length
unfoldable pub bool_tag : Ty → List ℕ → Bool
bool_tag ty ns = is_bool ty && ltb 0 (length ns)

-- its length is rounded up to 32s, not above 2^32 - 1, and stored as DWORDs
unfoldable pub bool_shape : (ℕ → ℕ) → ℕ → Said Shape
bool_shape sizes n =
    cond (leb (align_up n 32) (2 ^ 32 - 1))
    (within sizes (Atomic DWord) (three (align_up n 32 ∷ [])) 1 (align_up n 32 / 32))
    (refused 24 0)

-- any other tag has as many elements as the product of its lengths says, not above 2^64 - 1
unfoldable pub plain_shape : (ℕ → ℕ) → Ty → List ℕ → Said Shape
plain_shape sizes ty ns =
    cond (leb (product ns) (2 ^ 64 - 1)) (within sizes ty (three ns) (length ns) (product ns)) (refused 24 0)

unfoldable pub shape_of : List ℕ → Ty → List ℕ → Said Shape
shape_of types ty ns =
    cond (is_there types ty)
    (cond (lengths_ok ty ns)
    (cond (bool_tag ty ns) (bool_shape (sizes_in types) (get_or ns 0 0)) (plain_shape (sizes_in types) ty ns))
    (refused 23 0))
    (refused 15 0)

-- code or 0x8000 plus id, plus 8,192 per length
abbrev pub symbol_of : (ℕ → ℕ) → Ty → ℕ → ℕ
symbol_of ids ty used = type_in ids ty + 8192 * used

-- the symbol type of a shape that a caller hands in
unfoldable pub symbol_for : List ℕ → Ty → ℕ → Said ℕ
symbol_for types ty used =
    cond (is_there types ty) (cond (leb used 3) (done (symbol_of (ids_in types) ty used)) (refused 23 0))
    (refused 15 0)
