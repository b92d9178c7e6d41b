-- Laws of declared members: the ways that a found type becomes a declaration, and the entries that are left.
use Prim.Native.Nat.{ℕ, suc, ◌+◌, ◌-◌, ◌*◌, ◌/◌, ◌<◌, ◌≤◌}
use native.Mathlib.Omega.{arith}
use mathlib.Core.Path.{◌≡◌}
use mathlib.Core.Bool.{Bool, true, false, cond}
use mathlib.Core.List.{List, [], ◌∷◌}
use borrow.Author.Tests.{eq-eqb, ne_eqb}
use lib.Dec.{lit≤}
use lib.ListN.{get_or}
use Rattle.words.specs.Words.{Bytes, word_at}
use Rattle.words.proofs.WordLaws.{word_below}
use Rattle.types.specs.atomics.Atomic.{size_of}
use Rattle.types.specs.book.Decls.{bool_array, stored_ty, stored_count, align_in, plain, resolved}
use Rattle.types.specs.inside.book.Decls.{decl_at, decls_from, Found}
use Rattle.types.specs.inside.layout.Passes.{Fair}
use Rattle.types.specs.inside.tables.Lent.{TyFits}
use Rattle.types.specs.layout.Placing.{is_bool}
use Rattle.types.specs.tables.Lent.{ty_of_word}
use Rattle.types.specs.declared.atomics.atomic.Atomic.{Atomic as Kind}
use Rattle.types.specs.declared.atomics.atomic.Atomic.TheVariants.{Bool as BOOL, SInt, Int, DInt, LInt, USInt}
use Rattle.types.specs.declared.atomics.atomic.Atomic.TheVariants.{UInt, UDInt, ULInt, Real, LReal, Byte, Word}
use Rattle.types.specs.declared.atomics.atomic.Atomic.TheVariants.{DWord, LWord}
use Rattle.types.specs.declared.tables.member.Span.{Span}
use Rattle.types.specs.declared.tables.member.Ty.{Ty}
use Rattle.types.specs.declared.tables.member.Ty.TheVariants.{Atomic, Struct}

module _ (sizes : ℕ → ℕ) (ty : Ty) (dim : ℕ) (name : Span) (local : Bool) (access : ℕ) where
  -- a BOOL with dim 0 is stored as it is
  pub one_bool : is_bool ty ≡ true → dim ≡ 0
      → plain sizes ty dim name local access ≡ resolved sizes ty dim name local access
  unfolding resolved stored_ty stored_count bool_array
  one_bool b e = simp (b, eq-eqb dim 0 e)

  -- a BOOL with dim above 0 is stored as DWORDs, one for every 32 that were begun
  pub bool_array_lem : is_bool ty ≡ true → (dim ≡ 0 → ⊥)
      → plain sizes (Atomic DWord) ((dim - 1) / 32 + 1) name local access ≡ resolved sizes ty dim name local access
  unfolding resolved stored_ty stored_count bool_array
  bool_array_lem b n =
      let e : (dim + 31) / 32 ≡ (dim - 1) / 32 + 1 = omega (arith, n) in
      simp (b, ne_eqb dim 0 n, e)

  -- a member of any other type is stored as it is
  pub no_bool : is_bool ty ≡ false → plain sizes ty dim name local access ≡ resolved sizes ty dim name local access
  unfolding resolved stored_ty stored_count bool_array
  no_bool b = simp b

-- the first of the declared members that are left, and those after it
pub decls_cons : (types book tys : List ℕ) (at n j : ℕ) → j < n
    → decls_from types book tys at j (n - j)
    ≡ decl_at types book tys at j ∷ decls_from types book tys at (j + 1) (n - (j + 1))
unfolding decls_from
decls_cons types book tys at n j l =
    let e : n - j ≡ suc (n - (j + 1)) = omega arith in
    rw e

-- past the last declared member none is left
pub decls_none : (types book tys : List ℕ) (at n j : ℕ) → n ≤ j → decls_from types book tys at j (n - j) ≡ []
unfolding decls_from
decls_none types book tys at n j l =
    let e : n - j ≡ 0 = omega arith in
    rw e

-- fewer entries are found where more are
pub found_first : {book tys : List ℕ} {at n : ℕ} (m : ℕ) → m ≤ n → Found book tys at n → Found book tys at m
found_first m l f =
    record {
      inside = omega (arith, f.inside);
      known = omega (arith, f.known);
      types = λ k h. f.types k (omega arith);
    }

-- ---- what every declared member of a book has

size_least : (a : Kind) → 1 ≤ size_of a
unfolding size_of
size_least BOOL = lit≤ tt
size_least SInt = lit≤ tt
size_least Int = lit≤ tt
size_least DInt = lit≤ tt
size_least LInt = lit≤ tt
size_least USInt = lit≤ tt
size_least UInt = lit≤ tt
size_least UDInt = lit≤ tt
size_least ULInt = lit≤ tt
size_least Real = lit≤ tt
size_least LReal = lit≤ tt
size_least Byte = lit≤ tt
size_least Word = lit≤ tt
size_least DWord = lit≤ tt
size_least LWord = lit≤ tt

-- a type's alignment is from 1 to 4
pub align_fair : (t : Ty) → (0 < align_in t) × (align_in t ≤ 4)
align_fair (Atomic a) = (omega (arith, size_least a), omega arith)
align_fair (Struct n) = (omega arith, omega arith)

-- a declared member of a book has an alignment from 1 to 4 and a name of fewer than 256 bytes
pub decl_fair : (types book tys : List ℕ) (at j : ℕ) → Bytes book → Fair (decl_at types book tys at j)
unfolding decl_at resolved
decl_fair types book tys at j b =
    let a = align_fair (stored_ty (ty_of_word (get_or tys j 0)) (word_at 4 book (at + 16 * j + 8))) in
    record { least = a.0; most = a.1; name = word_below 1 book (at + 16 * j + 4) b }

-- what is stored for a found type is of that type, or DWORDs
stored_fits : (t : Ty) (dim : ℕ) → TyFits t → TyFits (stored_ty t dim)
unfolding stored_ty
stored_fits t dim f = go (bool_array t dim)
  where
    go : (b : Bool) → TyFits (cond b (Atomic DWord) t)
    go true = tt
    go false = f

-- the type of a declared member whose type was found is an atomic or a structure below 200
pub decl_ty : (types book tys : List ℕ) (at n j : ℕ) → j < n → Found book tys at n
    → TyFits (decl_at types book tys at j).ty
unfolding decl_at resolved
decl_ty types book tys at n j l f = stored_fits (ty_of_word (get_or tys j 0)) _ (f.types j l)
