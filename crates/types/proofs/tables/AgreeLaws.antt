-- Laws of what is known by numbers (document 01, "Template and handle" and "Declaration book": the tables): where ids
-- or sizes agree below n, templates and declared members that name only those types are the same; the list of the
-- first n values.
use Prim.Native.Nat.{ℕ, zero, suc, ◌+◌, ◌<◌}
use native.Mathlib.Nat.{add-zero}
use native.Mathlib.Omega.{arith}
use mathlib.Core.Path.{◌≡◌, refl, ap, ◌∙◌}
use mathlib.Core.Bool.{Bool, true, false, cond}
use mathlib.Core.List.{List, [], ◌∷◌}
use lib.ListN.{length, get_or}
use Rattle.types.specs.book.Contents.{list_from}
use Rattle.types.specs.book.Decls.{bool_array, stored_ty, resolved, declared}
use Rattle.types.specs.layout.Laid.{Earlier, Every}
use Rattle.types.specs.tables.Defs.{Part, Def}
use Rattle.types.specs.tables.Sizes.{size_in}
use Rattle.types.specs.tables.TypeWord.{type_in}
use Rattle.types.specs.templates.Template.{info_bytes, infos, front_of, template_of}
use Rattle.types.specs.declared.atomics.atomic.Atomic.TheVariants.{DWord}
use Rattle.types.specs.declared.book.contents.MemberEntry.{MemberEntry}
use Rattle.types.specs.declared.tables.member.Ty.{Ty}
use Rattle.types.specs.declared.tables.member.Ty.TheVariants.{Atomic, Struct}
use Rattle.types.proofs.tables.DefLaws.{PartFits}

-- ---- numbers that agree below n

module _ (f g : ℕ → ℕ) (n : ℕ) (same : (k : ℕ) → k < n → f k ≡ g k) where
  type_same : (ty : Ty) → Earlier n ty → type_in f ty ≡ type_in g ty
  type_same (Atomic a) e = refl
  type_same (Struct k) e = rw (same k e)

  infos_same : (ps : List Part) → Every (PartFits n) ps → infos f ps ≡ infos g ps
  unfolding infos info_bytes Every
  infos_same [] e = refl
  infos_same (p ∷ ps) e = rw (type_same p.member.ty e.0.earlier, infos_same ps e.1)

  -- ids that agree for the earlier types give the same template
  pub template_same : (d : Def) → Every (PartFits n) d.parts → template_of f d ≡ template_of g d
  unfolding template_of front_of
  template_same d e = rw (infos_same d.parts e)

  -- sizes that agree for the earlier types give an earlier type the same size
  pub size_same : (ty : Ty) → Earlier n ty → size_in f ty ≡ size_in g ty
  size_same (Atomic a) e = refl
  size_same (Struct k) e = same k e

  stored_same : (ty : Ty) (dim : ℕ) → Earlier n ty → size_in f (stored_ty ty dim) ≡ size_in g (stored_ty ty dim)
  unfolding stored_ty
  stored_same ty dim e = go (bool_array ty dim)
    where
      go : (b : Bool) → size_in f (cond b (Atomic DWord) ty) ≡ size_in g (cond b (Atomic DWord) ty)
      go true = refl
      go false = size_same ty e

  -- sizes that agree for the earlier types give the same declared member
  pub declared_same : (ty : Ty) (e : MemberEntry) → Earlier n ty → declared f ty e ≡ declared g ty e
  unfolding resolved
  declared_same ty e h = rw (stored_same ty e.dim h)

-- ---- the first n values

module _ {A : Type 0} where
  -- the list of n values has length n
  pub length_list : (f : ℕ → A) (i n : ℕ) → length (list_from f i n) ≡ n
  unfolding list_from
  length_list f i zero = refl
  length_list f i (suc n) = ap suc (length_list f (i + 1) n)

  -- the k-th of the values from the i-th on is the one with number i + k
  pub get_d_from : (f : ℕ → A) (i n k : ℕ) (d : A) → k < n → get_or (list_from f i n) k d ≡ f (i + k)
  unfolding list_from
  get_d_from f i zero k d h = absurd (omega arith)
  get_d_from f i (suc n) zero d h = rw add-zero
  get_d_from f i (suc n) (suc k) d h =
      let e : i + suc k ≡ i + 1 + k = omega arith in
      rw e (get_d_from f (i + 1) n k d (omega arith))

  -- the k-th of the list of the first n values is the value with number k
  pub get_d_list : (f : ℕ → A) (n k : ℕ) (d : A) → k < n → get_or (list_from f 0 n) k d ≡ f k
  get_d_list f n k d h =
      let e : 0 + k ≡ k = omega arith in
      get_d_from f 0 n k d h ∙ ap f e
