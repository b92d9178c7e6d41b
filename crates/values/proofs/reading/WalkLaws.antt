-- The walk over the tables (document 01, "Reading"): a structure holds only earlier ones, so that it is what its rows
-- say with each nested structure as it is, however deep nesting was allowed for.
use Prim.Native.Nat.{ℕ, zero, suc, ◌+◌, ◌*◌, ◌<◌}
use native.Mathlib.Omega.{arith}
use mathlib.Core.Path.{◌≡◌, refl, ap, ap₂}
use mathlib.Core.Bool.{cond}
use mathlib.Core.List.{List, [], ◌∷◌}
use lib.Dec.{eqb}
use Rattle.words.specs.Bits.{flat}
use Rattle.words.specs.Words.{part}
use Rattle.types.specs.layout.Laid.{Earlier}
use Rattle.types.specs.tables.Lent.{member_at, type_at}
use Rattle.types.specs.tables.Limits.{most_types}
use Rattle.types.specs.tables.Sizes.{sizes_in}
use Rattle.types.specs.declared.tables.member.Member.{Member}
use Rattle.types.specs.declared.tables.member.Ty.{Ty}
use Rattle.types.specs.declared.tables.member.Ty.TheVariants as ty
use Rattle.values.specs.inside.reading.Walk.{wrap, text_out, bit_out, element_by, elements_by, structs_by, value_by}
use Rattle.values.specs.inside.reading.Walk.{bytes_by, member_by, row_by, members_by, struct_by, struct_within}
use Rattle.values.specs.inside.reading.Walk.{struct_out}
use Rattle.values.specs.inside.reading.Walkable.{WalkableType, Walkable}
use Rattle.values.specs.reading.Texts.{capacity_at}
use Rattle.values.specs.reading.Trees.{is_string_kind}
use Rattle.values.specs.stream.Stream.{Token, bool, member}
use Rattle.values.proofs.reading.UpLaws.{up_ext}

-- ---- what the nested structures give is all that matters

module _ (types members : List ℕ) (f g : ℕ → List ℕ → List Token) (i : ℕ)
    (same : (s : ℕ) (image : List ℕ) → s < i → f s image ≡ g s image) where
  elements_same : (s n : ℕ) (image : List ℕ) → s < i
      → elements_by types members f s n image ≡ elements_by types members g s n image
  unfolding elements_by
  elements_same s n image l =
      ap (wrap 10 11) (up_ext (element_by types members f s image) (element_by types members g s image) n
      (λ k h. same s (part image (sizes_in types s * k) (sizes_in types s)) l))

  structs_same : (s n : ℕ) (image : List ℕ) → s < i
      → structs_by types members f s n image ≡ structs_by types members g s n image
  unfolding structs_by
  structs_same s n image l = ap₂ (cond (eqb n 0)) (same s image l) (elements_same s n image l)

  value_same : (t : Ty) (n : ℕ) (image : List ℕ) → Earlier i t
      → value_by types members f t n image ≡ value_by types members g t n image
  value_same (ty.Atomic a) n image l = refl
  value_same (ty.Struct s) n image l = structs_same s n image l

  member_same : (j : ℕ) (m : Member) (image : List ℕ) → Earlier i m.ty
      → member_by types members f j m image ≡ member_by types members g j m image
  unfolding member_by
  member_same j m image l =
      ap (λ (ts : List Token). cond m.hidden []
      (member j ∷ bit_out m.bit (λ k. bool (flat image (8 * m.offset + k)) ∷ []) ts))
      (value_same m.ty m.count (part image m.offset (bytes_by types members f m)) l)

  struct_same : WalkableType types members i → (image : List ℕ)
      → struct_by types members f i image ≡ struct_by types members g i image
  unfolding struct_by members_by
  struct_same w image =
      ap (λ (ts : List Token). cond (is_string_kind (type_at types i).kind)
      (text_out (capacity_at members (type_at types i).first) image) (wrap 8 9 ts))
      (up_ext (row_by types members f (type_at types i).first image)
      (row_by types members g (type_at types i).first image)
      (type_at types i).count
      (λ k h. member_same k (member_at members ((type_at types i).first + k)) image (w.each k h).earlier))

module _ (types members : List ℕ) (w : Walkable types members) where
  -- any depth above the structure's number is enough
  within_same : (f g i : ℕ) (image : List ℕ) → i < most_types → i < f → i < g
      → struct_within types members f i image ≡ struct_within types members g i image
  unfolding struct_within
  within_same zero g i image a b c = absurd (let z : ⊥ = omega arith in z)
  within_same (suc f) zero i image a b c = absurd (let z : ⊥ = omega arith in z)
  within_same (suc f) (suc g) i image a b c =
      struct_same types members (struct_within types members f) (struct_within types members g) i
      (λ s im l. within_same f g s im (omega arith) (omega arith) (omega arith)) (w.each i a) image

  -- a structure is what its rows say
  pub struct_out_lem : (i : ℕ) (image : List ℕ) → i < most_types
      → struct_out types members i image ≡ struct_by types members (struct_out types members) i image
  unfolding struct_out struct_within
  struct_out_lem i image a =
      struct_same types members (struct_within types members 199) (struct_out types members) i
      (λ s im l. unfold struct_out in within_same 199 most_types s im (omega arith) (omega arith) (omega arith))
      (w.each i a) image
