-- Rows past the end of a table are rows of zeros (document 01, "Declaration book": the tables).
use Prim.Native.Nat.{ℕ, ◌*◌, ◌≤◌}
use mathlib.Core.Path.{◌≡◌}
use mathlib.Core.List.{List}
use lib.ListN.{length, get_or-eq_default}
use Rattle.words.proofs.Lists.{get_d_past}
use Rattle.types.specs.atomics.Atomic.{atomic_at}
use Rattle.types.specs.inside.tables.Lent.{no_member, no_name, no_type}
use Rattle.types.specs.tables.Lent.{bit_of_word, kind_of_word, member_at, name_at, ty_of_word, type_at}

module _ (t : List ℕ) (i : ℕ) (past : length t ≤ 8 * i) where
  -- the structure of such a row is that of a row of zeros
  pub type_past : no_type ≡ type_at t i
  unfolding type_at kind_of_word
  type_past =
      let word = get_d_past t (8 * i) past in
      rw (get_or-eq_default t 0 past, word 1, word 2, word 3, word 4, word 5, word 6, word 7)

  -- the member of such a row is that of a row of zeros
  pub member_past : no_member ≡ member_at t i
  unfolding member_at ty_of_word bit_of_word atomic_at
  member_past = let word = get_d_past t (8 * i) past in rw (word 2, word 3, word 4, word 5, word 6, word 7)

  -- the name of such a row is at place 0 and has length 0
  pub name_past : no_name ≡ name_at t i
  unfolding name_at
  name_past = rw (get_or-eq_default t 0 past, get_d_past t (8 * i) past 1)
