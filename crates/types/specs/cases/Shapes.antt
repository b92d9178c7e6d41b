-- Tag shapes by computation (document 01, "Tag shape"): an array of BOOLs, one of DINTs with two lengths, and one that
-- is too large. No structure is asked for, so no table matters.
use Rattle.std.specs.Prelude.{ℕ, ◌+◌, ◌^◌, List, [], ◌∷◌, ◌≡◌, refl}
use Rattle.types.specs.atomics.Atomic.{code_of, size_of}
use Rattle.types.specs.layout.Placing.{is_bool, align_up}
use Rattle.types.specs.refusals.Said.{Said, done, refused}
use Rattle.types.specs.shape.Tags.{most_lengths, none_zero, lengths_ok, product}
use Rattle.types.specs.shape.Tags.{within, bool_tag, bool_shape, plain_shape, shape_of, symbol_of}
use Rattle.types.specs.declared.atomics.atomic.Atomic.{Atomic as AtomicType}
use Rattle.types.specs.declared.atomics.atomic.Atomic.TheVariants.{Bool as BOOL, SInt, DInt, DWord}
use Rattle.types.specs.declared.shape.tags.Shape.{Shape}
use Rattle.types.specs.declared.tables.member.Ty.TheVariants.{Atomic}

-- what a case opens to compute a shape
unfoldable pub shaped : List ℕ → AtomicType → List ℕ → Said Shape
unfolding shape_of plain_shape bool_shape bool_tag within product lengths_ok none_zero most_lengths is_bool align_up
    size_of
shaped types a ns = shape_of types (Atomic a) ns

-- BOOL with length 33: 64 BOOLs in 2 DWORDs
pub bools_33 : (types : List ℕ) → shaped types BOOL (33 ∷ [])
    ≡ done (record { ty = Atomic DWord; lengths = 64 ∷ 0 ∷ 0 ∷ []; used = 1; elements = 2; bytes = 8 })
unfolding shaped
bools_33 types = refl

-- DINT[2, 3]
pub dints_2_3 : (types : List ℕ) → shaped types DInt (2 ∷ 3 ∷ [])
    ≡ done (record { ty = Atomic DInt; lengths = 2 ∷ 3 ∷ 0 ∷ []; used = 2; elements = 6; bytes = 24 })
unfolding shaped
dints_2_3 types = refl

-- SINT with length 2^26 + 1
pub sints_over : (types : List ℕ) → shaped types SInt ((2 ^ 26 + 1) ∷ []) ≡ refused 24 0
unfolding shaped
sints_over types = refl

-- the symbol type of that DINT[2, 3]
pub symbol_2_3 : (ids : ℕ → ℕ) → symbol_of ids (Atomic DInt) 2 ≡ 0x40C4
unfolding code_of
symbol_2_3 ids = refl
