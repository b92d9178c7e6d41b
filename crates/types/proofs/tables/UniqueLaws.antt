-- No two types of a registry hold the same template id, and no two have the same name without ASCII case (document 01,
-- "Ids": "that no type holds"; refusals 3, 5 and 22). It holds of the predefined types, and stays when a type with a
-- new id and a new name is added.
use Rattle.std.specs.Prelude.{Option, Some, None}
use Prim.Native.Nat.{ℕ, ◌+◌, ◌<◌}
use native.Mathlib.Decide.{dec_lt}
use native.Mathlib.Omega.{arith}
use mathlib.Core.Path.{◌≡◌, refl, sym, ap, ◌∙◌}
use mathlib.Core.Bool.{Bool, true, false, cond, not, ◌||◌, true≢false}
use mathlib.Core.List.{List, [], ◌∷◌, ◌++◌, map}
use borrow.Author.Tests.{eqb-false, eq-eqb}
use lib.Dec.{eqb}
use lib.ListN.{length, get_or, get_or-append}
use lib.Seq.{get_or-append_seam}
use Rattle.types.specs.adding.Add.{new_def}
use Rattle.types.specs.adding.Ids.{in_use}
use Rattle.types.specs.atomics.Atomic.{atomic_named}
use Rattle.types.specs.atomics.Lookup.{named_among, atomic_or, type_among}
use Rattle.types.specs.book.Names.{lower_of, same_name}
use Rattle.types.specs.layout.Laid.{Every}
use Rattle.types.specs.layout.Predefined.{distinct, predefined_ids, with_timer, with_counter, with_control}
use Rattle.types.specs.layout.Predefined.{predefined}
use Rattle.types.specs.rounds.Resolve.{is_found}
use Rattle.types.specs.tables.Defs.{Def}
use Rattle.types.specs.tables.Registry.{view_of}
use Rattle.types.specs.declared.tables.member.Ty.{Ty}
use Rattle.types.specs.declared.atomics.atomic.Atomic.{Atomic}
use Rattle.types.specs.declared.layout.predefined.PredefinedIds.{PredefinedIds}
use Rattle.types.specs.declared.tables.member.Ty.TheVariants.{Struct}
use Rattle.types.proofs.adding.AddLaws.{every_nth}
use Rattle.types.proofs.layout.PredefinedIds.{same_1, same_2, same_3, same_4, same_5, same_6, ids_differ}
use Rattle.types.proofs.layout.PredefinedIds.{ids_allowed}
use Rattle.types.proofs.tables.RegistryLaws.{length_snoc}
use Rattle.types.proofs.tables.ShownLaws.{no_def}

-- a type holds another id and has another name than an earlier one
pub record Differs (d x : Def) : Type 0 where
  pub id : x.id ≡ d.id → ⊥
  pub name : same_name x.name d.name ≡ false

-- each type of a registry differs from each earlier one
abbrev pub Unlike : List Def → Type 0
Unlike ds = (i j : ℕ) → i < j → j < length ds → Differs (get_or ds j no_def) (get_or ds i no_def)

-- in a registry of no types it is so
pub unlike_none : Unlike []
unlike_none i j l h = absurd (let z : ⊥ = omega arith in z)

-- it stays so with one type more that differs from each of them
pub unlike_more : (ds : List Def) (d : Def) → Unlike ds → Every (Differs d) ds → Unlike (ds ++ d ∷ [])
unlike_more ds d u n i j l h = go (dec_lt j (length ds))
  where
    go : Dec (j < length ds) → Differs (get_or (ds ++ d ∷ []) j no_def) (get_or (ds ++ d ∷ []) i no_def)
    go (yes o) =
        let e = get_or-append ds (d ∷ []) no_def i (omega arith) in
        rw (e, get_or-append ds (d ∷ []) no_def j o) (u i j l o)
    go (no o) =
        let q : j ≡ length ds = omega (arith, o, length_snoc ds d) in
        let k : i < length ds = omega arith in
        let e : get_or (ds ++ d ∷ []) (length ds) no_def ≡ d = get_or-append_seam ds d [] no_def in
        rw (q, e, get_or-append ds (d ∷ []) no_def i k) (every_nth (Differs d) no_def ds i n k)

-- ---- a new id and a new name

module _ (d : Def) where
  abbrev held : List Def → Bool
  held ds = in_use d.id (map (λ (x : Def). x.id) ds)

  abbrev named : List Def → ℕ → Option Ty
  named ds i = named_among (map (λ (x : Def). x.name) ds) d.name i

  each_differs : (ds : List Def) (i : ℕ) → held ds ≡ false → is_found (named ds i) ≡ false → Every (Differs d) ds
  unfolding Every in_use named_among
  each_differs [] i u n = tt
  each_differs (x ∷ ds) i u n =
      go (eqb x.id d.id) (same_name x.name d.name) refl refl u n (each_differs ds (i + 1))
    where
      go : (p q : Bool) → eqb x.id d.id ≡ p → same_name x.name d.name ≡ q → (p || held ds) ≡ false
          → is_found (cond q (Some (Struct i)) (named ds (i + 1))) ≡ false
          → (held ds ≡ false → is_found (named ds (i + 1)) ≡ false → Every (Differs d) ds)
          → Differs d x × Every (Differs d) ds
      go true q a b u n rest = absurd (true≢false u)
      go false true a b u n rest = absurd (true≢false n)
      go false false a b u n rest = (record { id = eqb-false _ _ a; name = b }, rest u n)

not_atomic : (a : Option Atomic) (f : Option Ty) → is_found (atomic_or a f) ≡ false → is_found f ≡ false
not_atomic (Some a) f e = absurd (true≢false e)
not_atomic None f e = e

-- what is not in use and not known is new
pub new_differs : (ds : List Def) (d : Def) → in_use d.id (view_of ds).ids ≡ false
    → is_found (type_among (view_of ds).names d.name) ≡ false → Every (Differs d) ds
unfolding view_of type_among
new_differs ds d u n = each_differs d ds 0 u (not_atomic (atomic_named d.name) _ n)

-- ---- the predefined types

module _ (ids : PredefinedIds) (good : predefined_ids ids ≡ true) where
  apart : false ≡ distinct ids → ⊥
  apart e =
      let i = ids_allowed ids good in
      true≢false (sym (e ∙ ids_differ ids i.timer i.counter i.control i.string ∙ good))

  timer_counter : ids.timer ≡ ids.counter → ⊥
  timer_counter e = apart (same_1 ids e)

  timer_control : ids.timer ≡ ids.control → ⊥
  timer_control e = apart (same_2 ids timer_counter e)

  timer_string : ids.timer ≡ ids.string → ⊥
  timer_string e = apart (same_3 ids timer_counter timer_control e)

  counter_control : ids.counter ≡ ids.control → ⊥
  counter_control e = apart (same_4 ids timer_counter timer_control timer_string e)

  counter_string : ids.counter ≡ ids.string → ⊥
  counter_string e = apart (same_5 ids timer_counter timer_control timer_string counter_control e)

  control_string : ids.control ≡ ids.string → ⊥
  control_string e =
      apart
      (sym (ap not (eq-eqb ids.control ids.string e))
      ∙ same_6 ids timer_counter timer_control timer_string counter_control counter_string)

  timer_unlike : Unlike (with_timer ids)
  unfolding with_timer Every
  timer_unlike = unlike_more [] _ unlike_none tt

  counter_unlike : Unlike (with_counter ids)
  unfolding with_timer with_counter new_def Every same_name lower_of
  counter_unlike = unlike_more (with_timer ids) _ timer_unlike (record { id = timer_counter; name = refl }, tt)

  control_unlike : Unlike (with_control ids)
  unfolding with_timer with_counter with_control new_def Every same_name lower_of
  control_unlike =
      unlike_more (with_counter ids) _ counter_unlike
      (record { id = timer_control; name = refl }, (record { id = counter_control; name = refl }, tt))

  -- under good ids no two predefined types hold the same id or have the same name
  pub predefined_unlike : Unlike (predefined ids)
  unfolding with_timer with_counter with_control predefined new_def Every same_name lower_of
  predefined_unlike =
      unlike_more (with_control ids) _ control_unlike (
        record { id = timer_string; name = refl },
        (record { id = counter_string; name = refl }, (record { id = control_string; name = refl }, tt)),
      )
