-- A book's declared members whose types were found are what the theorems about layouts ask for: of earlier types,
-- with those types' sizes, and with names as long as their entries say. So every layout that the code measures is
-- laid out well.
use Prim.Native.Nat.{ℕ, zero, suc, ◌+◌, ◌*◌, ◌<◌, ◌≤◌}
use native.Mathlib.Omega.{arith}
use mathlib.Core.Path.{◌≡◌, refl}
use mathlib.Core.Bool.{Bool, true, false, cond}
use mathlib.Core.List.{List}
use lib.ListN.{length, get_or}
use Rattle.words.specs.Words.{word_at}
use Rattle.words.proofs.Lists.{length_part}
use Rattle.types.specs.book.Decls.{bool_array, stored_ty, resolved}
use Rattle.types.specs.inside.book.Decls.{decl_at, decls_from}
use Rattle.types.specs.layout.Laid.{Earlier, Resolved, Every}
use Rattle.types.specs.layout.Structs.{named_in}
use Rattle.types.specs.tables.Lent.{ty_of_word}
use Rattle.types.specs.tables.Sizes.{sizes_in}
use Rattle.types.specs.declared.atomics.atomic.Atomic.TheVariants.{DWord}
use Rattle.types.specs.declared.tables.member.Ty.{Ty}
use Rattle.types.specs.declared.tables.member.Ty.TheVariants.{Atomic}
use Rattle.types.proofs.book.DeclLaws.{align_fair}

-- what is stored for an earlier type is of an earlier type
pub stored_earlier : (i : ℕ) (t : Ty) (dim : ℕ) → Earlier i t → Earlier i (stored_ty t dim)
unfolding stored_ty
stored_earlier i t dim e = go (bool_array t dim)
  where
    go : (b : Bool) → Earlier i (cond b (Atomic DWord) t)
    go true = tt
    go false = e

module _ (types book tys : List ℕ) (at i : ℕ) where
  -- a declared member of an earlier type is stored as an earlier type, with its size and an alignment above 0
  pub decl_resolved : (j : ℕ) → Earlier i (ty_of_word (get_or tys j 0)) → Resolved (sizes_in types) i
      (decl_at types book tys at j)
  unfolding decl_at resolved
  decl_resolved j e =
      let ty = stored_ty (ty_of_word (get_or tys j 0)) (word_at 4 book (at + 16 * j + 8)) in
      record { size = refl; earlier = stored_earlier i (ty_of_word (get_or tys j 0)) _ e; align = (align_fair ty).0 }

  named_from : (j n : ℕ)
      → ((k : ℕ) → j ≤ k → k < j + n
      → (decl_at types book tys at k).name.at + (decl_at types book tys at k).name.long ≤ length book)
      → Every (λ d. length (named_in book d) ≡ d.name.long) (decls_from types book tys at j n)
  unfolding decls_from Every
  named_from j zero h = tt
  named_from j (suc n) h = (
    length_part book _ _ (h j (omega arith) (omega arith)),
    named_from (j + 1) n (λ k a b. h k (omega arith) (omega arith)),
  )

  -- each declared member's name is as long as its entry says
  pub all_named : (n : ℕ)
      → ((k : ℕ) → k < n → (decl_at types book tys at k).name.at + (decl_at types book tys at k).name.long
      ≤ length book)
      → Every (λ d. length (named_in book d) ≡ d.name.long) (decls_from types book tys at 0 n)
  all_named n h = named_from 0 n (λ k a b. h k (omega arith))
