-- Laws of the predefined types' ids (document 01, "What is ported": distinct, 1..0xFFF, outside 0x100..0xEFF): one
-- test after the other.
use Prim.Native.Nat.{ℕ, ◌≤◌}
use mathlib.Core.Path.{◌≡◌}
use mathlib.Core.Bool.{true, false, not, and-eq-true_iff}
use borrow.Author.Tests.{leb-true, eq-eqb, ne_eqb}
use lib.Dec.{eqb, leb}
use Rattle.types.specs.layout.Predefined.{predefined_id, distinct, predefined_ids}
use Rattle.types.specs.templates.Template.{user_id}
use Rattle.types.specs.declared.layout.predefined.PredefinedIds.{PredefinedIds}

module _ (ids : PredefinedIds) where
  -- where TIMER and COUNTER have one id, the four are not distinct
  pub same_1 : ids.timer ≡ ids.counter → false ≡ distinct ids
  unfolding distinct
  same_1 e = simp (eq-eqb _ _ e)

  module _ (p : ids.timer ≡ ids.counter → ⊥) where
    -- where TIMER and CONTROL have one id, the four are not distinct
    pub same_2 : ids.timer ≡ ids.control → false ≡ distinct ids
    unfolding distinct
    same_2 e = simp (ne_eqb _ _ p, eq-eqb _ _ e)

    module _ (q : ids.timer ≡ ids.control → ⊥) where
      -- where TIMER and STRING have one id, the four are not distinct
      pub same_3 : ids.timer ≡ ids.string → false ≡ distinct ids
      unfolding distinct
      same_3 e = simp (ne_eqb _ _ p, ne_eqb _ _ q, eq-eqb _ _ e)

      module _ (r : ids.timer ≡ ids.string → ⊥) where
        -- where COUNTER and CONTROL have one id, the four are not distinct
        pub same_4 : ids.counter ≡ ids.control → false ≡ distinct ids
        unfolding distinct
        same_4 e = simp (ne_eqb _ _ p, ne_eqb _ _ q, ne_eqb _ _ r, eq-eqb _ _ e)

        module _ (s : ids.counter ≡ ids.control → ⊥) where
          -- where COUNTER and STRING have one id, the four are not distinct
          pub same_5 : ids.counter ≡ ids.string → false ≡ distinct ids
          unfolding distinct
          same_5 e = simp (ne_eqb _ _ p, ne_eqb _ _ q, ne_eqb _ _ r, ne_eqb _ _ s, eq-eqb _ _ e)

          -- where no other two are the same, the four are distinct where CONTROL's and STRING's ids differ
          pub same_6 : (ids.counter ≡ ids.string → ⊥) → not (eqb ids.control ids.string) ≡ distinct ids
          unfolding distinct
          same_6 t = simp (ne_eqb _ _ p, ne_eqb _ _ q, ne_eqb _ _ r, ne_eqb _ _ s, ne_eqb _ _ t)

-- where each of the four is allowed, the ids are good where they are distinct
pub ids_differ : (ids : PredefinedIds) → predefined_id ids.timer ≡ true → predefined_id ids.counter ≡ true
    → predefined_id ids.control ≡ true → predefined_id ids.string ≡ true → distinct ids ≡ predefined_ids ids
unfolding predefined_ids
ids_differ ids p q r e = simp (p, q, r, e)

-- what they are where all tests are passed
pub record Allowed (ids : PredefinedIds) : Type 0 where
  pub timer : predefined_id ids.timer ≡ true
  pub counter : predefined_id ids.counter ≡ true
  pub control : predefined_id ids.control ≡ true
  pub string : predefined_id ids.string ≡ true

-- where the ids are good, each of the four is allowed
pub ids_allowed : (ids : PredefinedIds) → predefined_ids ids ≡ true → Allowed ids
unfolding predefined_ids
ids_allowed ids e =
    let four = ((and-eq-true_iff _ (distinct ids)).0 e).0 in
    let three = (and-eq-true_iff _ (predefined_id ids.string)).0 four in
    let two = (and-eq-true_iff _ (predefined_id ids.control)).0 three.0 in
    let one = (and-eq-true_iff _ (predefined_id ids.counter)).0 two.0 in
    record { timer = one.0; counter = one.1; control = two.1; string = three.1 }

-- an id that a predefined type may have
pub record Id (id : ℕ) : Type 0 where
  pub least : 1 ≤ id
  pub most : id ≤ 0xFFF

-- an id that passes the test lies from 1 to 0xFFF
pub id_within : (id : ℕ) → predefined_id id ≡ true → Id id
unfolding predefined_id
id_within id e =
    let range = ((and-eq-true_iff _ (not (user_id id))).0 e).0 in
    let both = (and-eq-true_iff _ (leb id 0xFFF)).0 range in
    record { least = leb-true _ _ both.0; most = leb-true _ _ both.1 }
