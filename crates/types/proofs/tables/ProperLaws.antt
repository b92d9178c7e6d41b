-- Every type of a registry is proper (document 01, "Declaration book": the rule of names; "What is ported" and "Ids":
-- the ids of the predefined types lie outside 0x100..0xEFF, those of the book's types inside; "Layout": how a member
-- stands). It holds of the predefined types, and stays when a type of the book is added.
use Prim.Native.Nat.{ℕ, ◌≤◌, ◌<◌}
use native.Mathlib.Omega.{arith}
use mathlib.Core.Path.{◌≡◌, refl, sym, ap, ◌∙◌}
use mathlib.Core.Bool.{Bool, true, false, not, ◌&&◌, true≢false}
use mathlib.Core.List.{List, [], ◌∷◌, ◌++◌}
use borrow.Author.Tests.{le-leb}
use lib.Dec.{eqb, leb}
use lib.ListN.{length, get_or}
use Rattle.words.proofs.TestLaws.{and_right, clash}
use Rattle.types.specs.adding.Add.{new_def}
use Rattle.types.specs.book.Contents.{every}
use Rattle.types.specs.book.Names.{name_byte, name_bytes, good_name}
use Rattle.types.specs.layout.Laid.{Every}
use Rattle.types.specs.layout.Predefined.{predefined_id, predefined_ids, with_timer, with_counter, with_control}
use Rattle.types.specs.layout.Predefined.{predefined, timer_name, counter_name, control_name, string_name}
use Rattle.types.specs.layout.Structs.{laid_kind, timer_parts, counter_parts, control_type_parts}
use Rattle.types.specs.tables.Defs.{Def}
use Rattle.types.specs.tables.Lent.{kind_word}
use Rattle.types.specs.templates.Template.{user_id}
use Rattle.types.specs.declared.layout.predefined.PredefinedIds.{PredefinedIds}
use Rattle.types.specs.declared.tables.member.StructKind.{StructKind}
use Rattle.types.specs.declared.tables.member.StructKind.TheVariants.{Udt, Predefined, Str}
use Rattle.types.proofs.layout.PartLaws.{PartFormed, control_formed, string_formed}
use Rattle.types.proofs.layout.PredefinedIds.{ids_allowed}
use Rattle.types.proofs.tables.ShownLaws.{no_def, each_more}

-- ---- ids

-- a predefined type's id is no user's
pub predefined_outside : (id : ℕ) → predefined_id id ≡ true → user_id id ≡ false
unfolding predefined_id
predefined_outside id e = go (user_id id) (and_right (leb 1 id && leb id 0xFFF) (not (user_id id)) e)
  where
    go : (b : Bool) → not b ≡ true → b ≡ false
    go true q = sym q
    go false q = refl

-- an id in 0x100..0xEFF is a user's
pub user_inside : (id : ℕ) → 0x100 ≤ id → id ≤ 0xEFF → user_id id ≡ true
unfolding user_id
user_inside id l h = rw (le-leb 0x100 id l, le-leb id 0xEFF h)

-- a kind whose word is not 1 is not Predefined
pub not_predefined : (k : StructKind) → eqb (kind_word k) 1 ≡ false → k ≡ Predefined → ⊥
not_predefined k n e = true≢false (sym (ap (λ (x : StructKind). eqb (kind_word x) 1) e) ∙ n)

-- nor is that of a UDT or an AOI
pub declared_kind : (aoi : Bool) → eqb (kind_word (laid_kind aoi)) 1 ≡ false
declared_kind true = refl
declared_kind false = refl

-- ---- a registry

-- row i of the first four is the i-th predefined type
abbrev pub first_names : List (List ℕ)
first_names = timer_name ∷ counter_name ∷ control_name ∷ string_name ∷ []

abbrev pub first_kinds : List StructKind
first_kinds = Predefined ∷ Predefined ∷ Predefined ∷ Str ∷ []

-- the name and the kind are those of the i-th predefined type
pub record FirstFour (i : ℕ) (s : List ℕ) (k : StructKind) : Type 0 where
  pub name : s ≡ get_or first_names i []
  pub kind : k ≡ get_or first_kinds i Udt

-- type i: its name and its members' follow the rule, each member stands as it should; the first four are the predefined
-- types, with their ids, and the others have users' ids; one with a user's id is not of kind Predefined
pub record Proper (i : ℕ) (d : Def) : Type 0 where
  pub name : good_name d.name ≡ true
  pub parts : Every PartFormed d.parts
  pub first : i < 4 → FirstFour i d.name d.kind
  pub early : i < 4 → predefined_id d.id ≡ true
  pub late : 4 ≤ i → user_id d.id ≡ true
  pub kind : user_id d.id ≡ true → d.kind ≡ Predefined → ⊥

-- each type of a registry is proper
abbrev pub AllProper : List Def → Type 0
AllProper ds = (i : ℕ) → i < length ds → Proper i (get_or ds i no_def)

-- each of no types is proper
pub proper_none : AllProper []
proper_none i l = absurd (let z : ⊥ = omega arith in z)

-- one proper type more leaves all of them proper
pub proper_more : (ds : List Def) (d : Def) → AllProper ds → Proper (length ds) d → AllProper (ds ++ d ∷ [])
proper_more = each_more Proper

-- ---- the predefined types

module _ (i : ℕ) (few : i < 4) {d : Def} (id : predefined_id d.id ≡ true) where
  early_proper : FirstFour i d.name d.kind → good_name d.name ≡ true → Every PartFormed d.parts → Proper i d
  early_proper f g p =
      record {
        name = g;
        parts = p;
        first = λ l. f;
        early = λ l. id;
        late = λ l. absurd (let z : ⊥ = omega arith in z);
        kind = λ u k. clash u (predefined_outside d.id id);
      }

module _ (ids : PredefinedIds) (good : predefined_ids ids ≡ true) where
  timer_proper : AllProper (with_timer ids)
  unfolding with_timer new_def timer_parts every good_name name_bytes name_byte
  timer_proper =
      proper_more [] _ proper_none
      (early_proper 0 (omega arith) (ids_allowed ids good).timer (record { name = refl; kind = refl }) refl
      (control_formed _ _ _ refl))

  counter_proper : AllProper (with_counter ids)
  unfolding with_timer with_counter new_def counter_parts every good_name name_bytes name_byte
  counter_proper =
      proper_more (with_timer ids) _ timer_proper
      (early_proper 1 (omega arith) (ids_allowed ids good).counter (record { name = refl; kind = refl }) refl
      (control_formed _ _ _ refl))

  control_proper : AllProper (with_control ids)
  unfolding with_timer with_counter with_control new_def control_type_parts every good_name name_bytes name_byte
  control_proper =
      proper_more (with_counter ids) _ counter_proper
      (early_proper 2 (omega arith) (ids_allowed ids good).control (record { name = refl; kind = refl }) refl
      (control_formed _ _ _ refl))

  -- all four predefined types are proper
  pub predefined_proper : AllProper (predefined ids)
  unfolding with_timer with_counter with_control predefined new_def good_name name_bytes name_byte
  predefined_proper =
      proper_more (with_control ids) _ control_proper
      (early_proper 3 (omega arith) (ids_allowed ids good).string (record { name = refl; kind = refl }) refl
      (string_formed 82))
