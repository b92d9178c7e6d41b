-- Laws of looking a type up: the structures that are left, one after the other.
use Rattle.std.specs.Prelude.{Option, Some, None}
use Prim.Native.Nat.{ℕ, suc, ◌+◌, ◌-◌, ◌<◌, ◌≤◌}
use native.Mathlib.Omega.{arith}
use mathlib.Core.Path.{◌≡◌, refl, sym, ap₂, ◌∙◌}
use mathlib.Core.Bool.{Bool, true, false, cond}
use mathlib.Core.List.{List, [], ◌∷◌}
use Rattle.types.specs.atomics.Atomic.{atomic_named, said_by as atomic_says}
use Rattle.types.specs.atomics.Lookup.{atomic_or, named_among, number_among, or_else, said_by, type_among, word_among}
use Rattle.types.specs.book.Contents.{list_from}
use Rattle.types.specs.book.Names.{same_name}
use Rattle.types.specs.refusals.Said.{done}
use Rattle.types.specs.declared.tables.member.Ty.{Ty}
use Rattle.types.specs.declared.atomics.atomic.Atomic.{Atomic}
use Rattle.types.specs.declared.tables.member.Ty.TheVariants.{Struct}
use Rattle.types.proofs.atomics.AtomicLaws.{named_said}

module _ (name : ℕ → List ℕ) (s : List ℕ) (n i : ℕ) where
  module _ (l : i < n) (b : Bool) (e : b ≡ same_name (name i) s) where
    -- where the i-th name is the same, the i-th structure is the first of those left with it
    pub named_here : b ≡ true → Some (Struct i) ≡ named_among (list_from name i (n - i)) s i
    unfolding named_among list_from
    named_here q =
        let f : n - i ≡ suc (n - (i + 1)) = omega arith in
        let g : same_name (name i) s ≡ true = sym e ∙ q in
        rw f (rw g)

    -- where the i-th name differs, the search has the same answer over the structures after it
    pub named_later : b ≡ false → named_among (list_from name i (n - i)) s i
        ≡ named_among (list_from name (i + 1) (n - (i + 1))) s (i + 1)
    unfolding named_among list_from
    named_later q =
        let f : n - i ≡ suc (n - (i + 1)) = omega arith in
        let g : same_name (name i) s ≡ false = sym e ∙ q in
        rw f (rw g)

  -- where no structure is left, none is found
  pub named_never : n ≤ i → None ≡ named_among (list_from name i (n - i)) s i
  unfolding named_among list_from
  named_never l =
      let f : n - i ≡ 0 = omega arith in
      rw f

-- ---- what a search says

numbers_said : (known : List (List ℕ)) (s : List ℕ) (i : ℕ) → said_by (named_among known s i) ≡ number_among known s i
unfolding named_among number_among
numbers_said [] s i = refl
numbers_said (x ∷ xs) s i = go (same_name x s) (numbers_said xs s (i + 1))
  where
    go : (b : Bool) → said_by (named_among xs s (i + 1)) ≡ number_among xs s (i + 1)
        → said_by (cond b (Some (Struct i)) (named_among xs s (i + 1)))
        ≡ cond b (done (0x8000 + i)) (number_among xs s (i + 1))
    go true e = refl
    go false e = e

or_said : (a : Option Atomic) (f : Option Ty) → said_by (atomic_or a f) ≡ or_else (atomic_says a) (said_by f)
or_said (Some a) f = refl
or_said None f = refl

-- what the type of a name says is its word
pub among_said : (known : List (List ℕ)) (s : List ℕ) → said_by (type_among known s) ≡ word_among known s
unfolding type_among word_among
among_said known s =
    or_said (atomic_named s) (named_among known s 0) ∙ ap₂ or_else (named_said s) (numbers_said known s 0)
