-- Orderings of the book's types (document 01, "Order of building"): every member type is known at the start, as the
-- atomics and the predefined types are, or earlier in the ordering. Over any names and any test for being known.
use Rattle.std.specs.Prelude.{ℕ, Bool, true, ◌≡◌, length}
use mathlib.Core.List.{List, [], ◌∷◌, ◌++◌, map, Memᴰ}
use Rattle.types.specs.book.Contents.{every}

module _ {N : Type 0} (has : List N → N → Bool) where
  -- all names of a list are known where the types with the names K are
  abbrev pub all_known : List N → List N → Bool
  all_known K us = every (has K) us

  -- what is known with the names K is known with the names L
  abbrev pub Within : List N → List N → Type 0
  Within K L = (x : N) → has K x ≡ true → has L x ≡ true

  -- what is asked of a test for being known: a name that is added is known, what was known stays so, and nothing else
  -- becomes known
  pub record Known : Type 0 where
    pub self : (K : List N) (n : N) → has (K ++ n ∷ []) n ≡ true
    pub more : (K : List N) (n : N) → Within K (K ++ n ∷ [])
    pub least : (K L : List N) (n : N) → Within K L → has L n ≡ true → Within (K ++ n ∷ []) L

  module _ (name : ℕ → N) (uses : ℕ → List N) where
    -- types in an order in which every member type is known at the start or earlier
    unfoldable pub Ordered : List N → List ℕ → Type 0
    Ordered K [] = Unit {0}
    Ordered K (i ∷ o) = (all_known K (uses i) ≡ true) × Ordered (K ++ name i ∷ []) o

-- two lists of the same length and with the same numbers
pub record Same (o ws : List ℕ) : Type 0 where
  pub long : length o ≡ length ws
  pub into : (i : ℕ) → Memᴰ i o → Memᴰ i ws
  pub back : (i : ℕ) → Memᴰ i ws → Memᴰ i o

-- the types that waited, in such an order; with them the names K become L
pub record Shown {N : Type 0} (has : List N → N → Bool) (name : ℕ → N) (uses : ℕ → List N) (K : List N)
    (waited : List ℕ) (L : List N) : Type 0 where
  pub order : List ℕ
  pub same : Same order waited
  pub ordered : Ordered has name uses K order
  pub names : L ≡ K ++ map name order
