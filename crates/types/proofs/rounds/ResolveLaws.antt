-- Laws of resolving member types: what is found is one of the known types, and the words of all are those found so far
-- and those of the rest.
use Rattle.std.specs.Prelude.{Option, Some, None}
use Prim.Native.Nat.{ℕ, suc, ◌+◌, ◌-◌, ◌<◌, ◌≤◌}
use native.Mathlib.Omega.{arith}
use native.Mathlib.Nat.{zero-add}
use mathlib.Core.Path.{◌≡◌, sym, ◌∙◌}
use mathlib.Core.Bool.{Bool, true, false, cond}
use mathlib.Core.List.{List, [], ◌∷◌}
use lib.ListN.{length, set, length-set}
use lib.Seq.{sets}
use Rattle.types.specs.atomics.Atomic.{atomic_named}
use Rattle.types.specs.atomics.Lookup.{named_among, type_among, atomic_or}
use Rattle.types.specs.book.Names.{same_name}
use Rattle.types.specs.inside.rounds.Resolve.{found_words, Resolves}
use Rattle.types.specs.layout.Laid.{Earlier}
use Rattle.types.specs.rounds.Resolve.{type_name, type_names}
use Rattle.types.specs.tables.Lent.{ty_word}
use Rattle.types.specs.declared.atomics.atomic.Atomic.{Atomic as AtomicType}
use Rattle.types.specs.declared.tables.member.Ty.{Ty}
use Rattle.types.specs.declared.tables.member.Ty.TheVariants.{Atomic, Struct}
use Rattle.types.proofs.book.BookLaws.{from_cons, from_none}

-- ---- what is found

abbrev Below : ℕ → Option Ty → Type 0
Below n (Some ty) = Earlier n ty
Below n None = Unit {0}

among_below : (known : List (List ℕ)) (s : List ℕ) (i : ℕ) → Below (i + length known) (named_among known s i)
unfolding named_among
among_below [] s i = tt
among_below (x ∷ xs) s i = go (same_name x s) (among_below xs s (i + 1))
  where
    up : (f : Option Ty) → Below (i + 1 + length xs) f → Below (i + suc (length xs)) f
    up (Some (Atomic a)) b = tt
    up (Some (Struct n)) b = omega arith
    up None b = tt

    go : (b : Bool) → Below (i + 1 + length xs) (named_among xs s (i + 1))
        → Below (i + suc (length xs)) (cond b (Some (Struct i)) (named_among xs s (i + 1)))
    go true b = omega arith
    go false b = up (named_among xs s (i + 1)) b

found_below : (known : List (List ℕ)) (s : List ℕ) → Below (length known) (type_among known s)
unfolding type_among
found_below known s = go (atomic_named s)
  where
    go : (a : Option AtomicType) → Below (length known) (atomic_or a (named_among known s 0))
    go (Some a) = tt
    go None = rw zero-add at (among_below known s 0)

-- a type that is found is an atomic or one of the known types
pub found_earlier : (known : List (List ℕ)) (s : List ℕ) (ty : Ty) → type_among known s ≡ Some ty
    → Earlier (length known) ty
found_earlier known s ty e = rw e at (found_below known s)

-- ---- the words that are left

-- the words of the first j member types stand in the scratch, and those that are found from the j-th on are left
pub record WordsLeft (known : List (List ℕ)) (book : List ℕ) (at n : ℕ) (tys₀ tys : List ℕ) (j : ℕ) : Type 0 where
  pub count : length (found_words known (type_names book at 0 n))
      ≡ j + length (found_words known (type_names book at j (n - j)))
  pub words : sets tys₀ 0 (found_words known (type_names book at 0 n))
      ≡ sets tys j (found_words known (type_names book at j (n - j)))
  pub long : length tys ≡ length tys₀

module _ {known : List (List ℕ)} {book : List ℕ} {at n : ℕ} {tys₀ tys : List ℕ} (j : ℕ)
    (w : WordsLeft known book at n tys₀ tys j) where
  module _ (l : j < n) where
    names_cons : type_names book at j (n - j) ≡ type_name book at j ∷ type_names book at (j + 1) (n - (j + 1))
    names_cons = from_cons (type_name book at) n j l

    -- where the j-th member's type is found, its word is stored and those after it are left
    pub left_on : (ty : Ty) → type_among known (type_name book at j) ≡ Some ty
        → WordsLeft known book at n tys₀ (set tys j (ty_word ty)) (j + 1)
    unfolding found_words
    left_on ty e =
        let a : j + 1 ≡ suc j = omega arith in
        record {
          count = w.count ∙ rw (names_cons, e) (omega arith);
          words = w.words ∙ rw (names_cons, e) (rw a);
          long = length-set tys j (ty_word ty) ∙ w.long;
        }

    -- where the j-th member's type is not known, the types are resolved up to it
    pub left_stop : type_among known (type_name book at j) ≡ None
        → Resolves known (type_names book at 0 n) tys₀ tys j
    unfolding found_words
    left_stop e =
        record {
          is = sym (w.count ∙ rw (names_cons, e) (omega arith));
          words = sym (w.words ∙ rw (names_cons, e));
        }

  -- past the last member all types are resolved
  pub left_end : n ≤ j → Resolves known (type_names book at 0 n) tys₀ tys j
  unfolding found_words
  left_end l =
      let e = from_none (type_name book at) n j l in
      record { is = sym (w.count ∙ rw e (omega arith)); words = sym (w.words ∙ rw e) }
