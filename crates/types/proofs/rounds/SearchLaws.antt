-- Laws of the search for member types (document 01, "Order of building"): a name that was not among the first types and
-- is not among the later ones is not among all; what is known of earlier turns stays where a type is added.
use Rattle.std.specs.Prelude.{Option, Some, None}
use Prim.Native.Nat.{ℕ, zero, suc, ◌+◌, ◌-◌, ◌<◌, ◌≤◌}
use native.Mathlib.Decide.{dec_lt}
use native.Mathlib.Omega.{arith}
use mathlib.Core.Path.{◌≡◌, refl}
use mathlib.Core.Bool.{Bool, true, false, cond, true≢false}
use mathlib.Core.List.{List, [], ◌∷◌, ◌++◌}
use lib.ListN.{length, get_or, set, length-set, length-append, get_or-append}
use lib.Seq.{get_or-set_same, get_or-set_other}
use Rattle.words.proofs.TestLaws.{and_off}
use Rattle.types.specs.atomics.Atomic.{atomic_named}
use Rattle.types.specs.atomics.Lookup.{named_among, type_among, atomic_or}
use Rattle.types.specs.book.Contents.{every, list_from, types_in}
use Rattle.types.specs.book.Names.{same_name}
use Rattle.types.specs.inside.atomics.Lookup.{Unseen}
use Rattle.types.specs.inside.rounds.Resolve.{then_word, found_words}
use Rattle.types.specs.inside.rounds.Turns.{Missed, Tries}
use Rattle.types.specs.rounds.Order.{all_known}
use Rattle.types.specs.rounds.Resolve.{type_name, is_found, has_name}
use Rattle.types.specs.rounds.Turns.{entries_at, count_of}
use Rattle.types.specs.declared.tables.member.Ty.{Ty}
use Rattle.types.specs.declared.atomics.atomic.Atomic.{Atomic}
use Rattle.types.specs.declared.tables.member.Ty.TheVariants.{Struct}
use Rattle.types.proofs.tables.AgreeLaws.{length_list, get_d_from, get_d_list}

-- ---- a name that is not found is none of the names

none_other : (xs : List (List ℕ)) (s : List ℕ) (i : ℕ) → named_among xs s i ≡ None → (j : ℕ) → j < length xs
    → same_name (get_or xs j []) s ≡ false
unfolding named_among
none_other [] s i e j l = absurd (let z : ⊥ = omega arith in z)
none_other (x ∷ xs) s i e j l = go (same_name x s) refl e (none_other xs s (i + 1)) j l
  where
    go : (b : Bool) → same_name x s ≡ b → cond b (Some (Struct i)) (named_among xs s (i + 1)) ≡ None
        → (named_among xs s (i + 1) ≡ None → (j : ℕ) → j < length xs → same_name (get_or xs j []) s ≡ false)
        → (j : ℕ) → j < suc (length xs) → same_name (get_or (x ∷ xs) j []) s ≡ false
    go true q e rest j l = let z : true ≡ false = cc in absurd (true≢false z)
    go false q e rest zero l = q
    go false q e rest (suc j) l = rest e j (omega arith)

other_none : (xs : List (List ℕ)) (s : List ℕ) (i : ℕ)
    → ((j : ℕ) → j < length xs → same_name (get_or xs j []) s ≡ false) → named_among xs s i ≡ None
unfolding named_among
other_none [] s i h = refl
other_none (x ∷ xs) s i h =
    let q : same_name x s ≡ false = h 0 (omega arith) in
    rw q (other_none xs s (i + 1) (λ j l. h (suc j) (omega arith)))

neither : (a : Option Atomic) (f : Option Ty) → atomic_or a f ≡ None → (a ≡ None) × (f ≡ None)
neither (Some a) f e = let z : true ≡ false = cc in absurd (true≢false z)
neither None f e = (refl, e)

pub unseen_all : (known : List (List ℕ)) {s : List ℕ} → type_among known s ≡ None → (n : ℕ) → n ≡ length known
    → Unseen known s n
unfolding type_among
unseen_all known {s} e n q =
    let d = neither (atomic_named s) (named_among known s 0) e in
    record {
      few = omega (arith, q);
      plain = d.0;
      other = λ j l. none_other known s 0 d.1 j (omega (arith, q));
    }

-- ---- not among the first, nor among the later ones

module _ (f : ℕ → List ℕ) (s : List ℕ) (from n : ℕ) (u : Unseen (list_from f 0 n) s from)
    (e : named_among (list_from f from (n - from)) s from ≡ None) where
  each : (j : ℕ) → j < n → same_name (get_or (list_from f 0 n) j []) s ≡ false
  each j l = go (dec_lt j from)
    where
      go : Dec (j < from) → same_name (get_or (list_from f 0 n) j []) s ≡ false
      go (yes o) = u.other j o
      go (no o) =
          let p : from + (j - from) ≡ j = omega (arith, o) in
          let q = none_other (list_from f from (n - from)) s from e (j - from)
          (omega (arith, o, length_list f from (n - from))) in
          rw (get_d_list f n j [] l, ← p)
          (rw (get_d_from f from (n - from) (j - from) [] (omega (arith, o))) at q)

  -- a name that is no atomic's, none of the first types' and none of the later ones' is not found
  pub unseen_none : type_among (list_from f 0 n) s ≡ None
  unfolding type_among
  unseen_none = rw u.plain (other_none (list_from f 0 n) s 0 (λ j l. each j (omega (arith, length_list f 0 n))))

-- ---- a member's type that is not found

-- where one name is not known, not all are
pub one_unknown : (known names : List (List ℕ)) (k : ℕ) → k < length names
    → type_among known (get_or names k []) ≡ None
    → all_known has_name known names ≡ false
unfolding every
one_unknown known [] k l e = absurd (let z : ⊥ = omega arith in z)
one_unknown known (s ∷ ss) zero l e = rw e
one_unknown known (s ∷ ss) (suc k) l e =
    and_off (is_found (type_among known s)) _ (one_unknown known ss k (omega arith) e)

-- the first that is not known
pub first_unknown : (known names : List (List ℕ)) → length (found_words known names) < length names
    → type_among known (get_or names (length (found_words known names)) []) ≡ None
unfolding found_words
first_unknown known [] l = absurd (let z : ⊥ = omega arith in z)
first_unknown known (s ∷ ss) l = go (type_among known s) refl l (first_unknown known ss)
  where
    go : (f : Option Ty) → type_among known s ≡ f → length (then_word f (found_words known ss)) < suc (length ss)
        → (length (found_words known ss) < length ss
        → type_among known (get_or ss (length (found_words known ss)) []) ≡ None)
        → type_among known (get_or (s ∷ ss) (length (then_word f (found_words known ss))) []) ≡ None
    go (Some ty) e h rest = rest (omega arith)
    go None e h rest = e

-- ---- what is known of earlier turns

unseen_more : {known : List (List ℕ)} {s : List ℕ} {n : ℕ} (x : List ℕ) → Unseen known s n
    → Unseen (known ++ x ∷ []) s n
unseen_more {known} x u =
    record {
      few = omega (arith, u.few, length-append known (x ∷ []));
      plain = u.plain;
      other = λ j l. rw (get_or-append known (x ∷ []) [] j (omega (arith, u.few))) (u.other j l);
    }

-- where no type was tried, what the scratches say is true of any known names
pub tries_start : {book stuck tried : List ℕ} {known : List (List ℕ)} → types_in book ≤ length stuck
    → types_in book ≤ length tried → ((k : ℕ) → get_or tried k 0 ≡ 0) → Tries book known stuck tried
tries_start {known} a b z = record { members = a; rows = b; missed = λ i l o. absurd (o (z i)) }

module _ {book stuck tried : List ℕ} {known : List (List ℕ)} (t : Tries book known stuck tried) where
  -- what is known of earlier turns stays true with one known name more
  pub tries_more : (x : List ℕ) → Tries book (known ++ x ∷ []) stuck tried
  tries_more x =
      record {
        members = t.members;
        rows = t.rows;
        missed = λ i l o. record {
          below = (t.missed i l o).below;
          unseen = unseen_more x (t.missed i l o).unseen;
        };
      }

  module _ (i n : ℕ) (l : i < types_in book) where
    tries_at : (stuck' : List ℕ) → types_in book ≤ length stuck'
        → ((j : ℕ) → (j ≡ i → ⊥) → get_or stuck' j 0 ≡ get_or stuck j 0) → Missed book known i (get_or stuck' i 0) n
        → Tries book known stuck' (set tried i n)
    tries_at stuck' a same m =
        record {
          members = a;
          rows = omega (arith, t.rows, length-set tried i n);
          missed = λ j h o. go j h o (dec_lt j i) (dec_lt i j);
        }
      where
        beside : (j : ℕ) → j < types_in book → (get_or (set tried i n) j 0 ≡ 0 → ⊥) → (j ≡ i → ⊥)
            → Missed book known j (get_or stuck' j 0) (get_or (set tried i n) j 0)
        beside j h o d =
            let e = get_or-set_other tried i j n 0 d in
            rw (e, same j d) (t.missed j h (rw e at o))

        go : (j : ℕ) → j < types_in book → (get_or (set tried i n) j 0 ≡ 0 → ⊥) → Dec (j < i) → Dec (i < j)
            → Missed book known j (get_or stuck' j 0) (get_or (set tried i n) j 0)
        go j h o (yes p) q = beside j h o (λ e. omega (arith, p))
        go j h o (no p) (yes q) = beside j h o (λ e. omega (arith, q))
        go j h o (no p) (no q) =
            let e : j ≡ i = omega (arith, p, q) in
            rw (e, get_or-set_same tried i n 0 (omega (arith, t.rows))) m

    module _ (long : n ≡ length known) (k : ℕ) (below : k < count_of book i)
        (none_is : type_among known (type_name book (entries_at book i) k) ≡ None) where
      missed_now : Missed book known i k n
      missed_now = record { below = below; unseen = unseen_all known none_is n long }

      -- where type i still waits for the same member, what the scratches say stays true
      pub tries_again : get_or stuck i 0 ≡ k → Tries book known stuck (set tried i n)
      tries_again e = tries_at stuck t.members (λ j d. refl) (rw e missed_now)

      -- where type i waits for the k-th member, what the scratches then say is true
      pub tries_new : Tries book known (set stuck i k) (set tried i n)
      tries_new =
          tries_at (set stuck i k) (omega (arith, t.members, length-set stuck i k))
          (λ j d. get_or-set_other stuck i j k 0 d)
          (rw (get_or-set_same stuck i k 0 (omega (arith, t.members))) missed_now)
