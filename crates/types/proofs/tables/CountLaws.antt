-- Laws of the number of types in a table: the rows that are left, and the number of a registry's types.
use Prim.Native.Nat.{ℕ, zero, suc, ◌+◌, ◌-◌, ◌<◌, ◌≤◌}
use native.Mathlib.Decide.{dec_lt}
use native.Mathlib.Omega.{arith}
use native.Mathlib.Nat.{add-zero, zero-add, sub-zero}
use mathlib.Core.Path.{◌≡◌, sym, ◌∙◌}
use mathlib.Core.List.{List}
use borrow.Author.Tests.{eq-eqb, ne_eqb}
use Rattle.types.specs.adding.Ids.{id_word}
use Rattle.types.specs.tables.Limits.{most_types}
use Rattle.types.specs.tables.Registry.{count_from, type_count}

module _ (ids : ℕ → ℕ) (n i : ℕ) where
  -- a row with id 0 ends the count
  pub count_stop : i < n → ids i ≡ 0 → i + count_from ids i (n - i) ≡ i
  unfolding count_from
  count_stop l e =
      let f : n - i ≡ suc (n - (i + 1)) = omega arith in
      rw f (simp (eq-eqb _ _ e, add-zero))

  -- a row with any other id is counted, and the count goes on after it
  pub count_on : i < n → (ids i ≡ 0 → ⊥) → i + count_from ids i (n - i) ≡ i + 1 + count_from ids (i + 1) (n - (i + 1))
  unfolding count_from
  count_on l e =
      let f : n - i ≡ suc (n - (i + 1)) = omega arith in
      rw (f, ne_eqb _ _ e) (omega arith)

  -- past the last row nothing more is counted
  pub count_end : n ≤ i → i + count_from ids i (n - i) ≡ i
  unfolding count_from
  count_end l =
      let f : n - i ≡ 0 = omega arith in
      rw (f, add-zero)

-- so many rows are in use, and the next is not
pub count_of : (types : List ℕ) (n : ℕ) → n ≤ most_types → ((i : ℕ) → i < n → id_word types i ≡ 0 → ⊥)
    → (n < most_types → id_word types n ≡ 0) → type_count types ≡ n
unfolding type_count
count_of types n l some none = sym (rw (zero-add, sub-zero) at (go 0 n (omega arith)))
  where
    go : (i m : ℕ) → i + m ≡ n → n ≡ i + count_from (id_word types) i (most_types - i)
    go i zero e = omega (arith, last i (omega arith) (dec_lt i most_types))
      where
        last : (i : ℕ) → i ≡ n → Dec (i < most_types) → i + count_from (id_word types) i (most_types - i) ≡ i
        last i q (yes o) = count_stop (id_word types) most_types i o (rw q (none (omega arith)))
        last i q (no o) = count_end (id_word types) most_types i (omega (arith, o))
    go i (suc m) e =
        go (i + 1) m (omega arith)
        ∙ sym (count_on (id_word types) most_types i (omega arith) (some i (omega arith)))
