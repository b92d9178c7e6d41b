-- What follows from tables as our own calls left them (document 01, "What promises shut out"): each call's conditions,
-- that a row is a type with all that is known of one or zero, and that no two types hold the same id or have the same
-- name. A build keeps it, and says how many types there are.
use Rattle.std.specs.Prelude.{Result, Ok}
use Prim.Native.Nat.{ℕ, ◌+◌, ◌*◌, ◌<◌, ◌≤◌}
use native.Mathlib.Decide.{dec_lt}
use native.Mathlib.Omega.{arith}
use mathlib.Core.Path.{◌≡◌, refl, sym, ap, ◌∙◌}
use mathlib.Core.Bool.{true, false, true≢false}
use mathlib.Core.List.{List, []}
use lib.ListN.{length}
use Rattle.words.specs.Words.{Bytes}
use Rattle.types.specs.atomics.Lookup.{row_name}
use Rattle.types.specs.book.Names.{same_name, good_name}
use Rattle.types.specs.inside.atomics.Lookup.{NamesInside}
use Rattle.types.specs.inside.listing.Lines.{Listable}
use Rattle.types.specs.inside.tables.Lent.{no_type}
use Rattle.types.specs.layout.Laid.{Laid}
use Rattle.types.specs.layout.Placing.{most_size}
use Rattle.types.specs.layout.Predefined.{predefined_id, predefined}
use Rattle.types.specs.refusals.Said.{Why}
use Rattle.types.specs.rounds.Build.{build_of, Ended}
use Rattle.types.specs.rounds.Rounds.{Answer, refused, accepted}
use Rattle.types.specs.tables.Defs.{Def, parts_at}
use Rattle.types.specs.tables.Kept.{Made, none, built, Kept}
use Rattle.types.specs.tables.Lent.{type_at}
use Rattle.types.specs.tables.Limits.{most_types}
use Rattle.types.specs.tables.Registry.{no_types, no_members, no_names, types_table, members_table, names_table}
use Rattle.types.specs.tables.Registry.{type_count, type_rows, member_rows, name_bytes_of}
use Rattle.types.specs.tables.Sizes.{sizes_in}
use Rattle.types.specs.templates.Template.{user_id}
use Rattle.types.specs.templates.Waste.{visible_bits}
use Rattle.types.specs.declared.refusals.refusal.Refusal.{Refusal}
use Rattle.types.specs.declared.layout.predefined.PredefinedIds.{PredefinedIds}
use Rattle.types.specs.declared.tables.member.StructDef.{StructDef}
use Rattle.types.specs.declared.tables.member.StructKind.TheVariants.{Predefined, Str}
use Rattle.types.proofs.layout.StringLaws.{StringRow}
use Rattle.types.proofs.rounds.BuildWays.{accepted_both}
use Rattle.types.proofs.rounds.RoundsKeep.{Good, predefined_begun, rounds_begun}
use Rattle.types.proofs.tables.GoodLaws.{MemberRow, good_count, good_inside, good_laid, good_most, good_listable}
use Rattle.types.proofs.tables.GoodLaws.{good_used, good_id, good_kind, good_first, good_name_lem, good_members}
use Rattle.types.proofs.tables.GoodLaws.{good_string, good_unused, good_ids_apart, good_names_apart}
use Rattle.types.proofs.tables.ProperLaws.{FirstFour, proper_none}
use Rattle.types.proofs.tables.ShownLaws.{shown_none, ids_fit}
use Rattle.types.proofs.tables.UniqueLaws.{unlike_none}
use Rattle.types.proofs.tables.WellLaws.{well_none}
use Rattle.types.proofs.templates.VisibleLaws.{visible_inside}

-- ---- what a build makes

-- a registry that a build can leave is good
pub made_good : (ds : List Def) → Made ds → Good ds
made_good ds (none e) =
    rw e (record { shown = shown_none; well = well_none; unlike = unlike_none; proper = proper_none })
made_good ds (built ids book bytes e) =
    let a = accepted_both ids book ds e in
    (rounds_begun book bytes (predefined ids) ds
    (predefined_begun ids a.0) a.1).good

-- ---- a row: a type with all that is known of one, or no type

-- row i is a type's, with all that is known of one
pub record TypeRow (types members names : List ℕ) (i : ℕ) : Type 0 where
  pub counted : i < type_count types
  pub few : i < most_types
  pub used : (type_at types i).id ≡ 0 → ⊥
  pub listable : Listable types members (type_at types i)
  -- it is laid out well, is at most 2^26 + 224 bytes long, and its visible members' bits never pass them
  pub laid : Laid (sizes_in types) i (type_at types i).size
      (parts_at members names (type_at types i).first (type_at types i).count)
  pub most : (type_at types i).size ≤ most_size + 224
  pub bits : visible_bits (sizes_in types) (parts_at members names (type_at types i).first (type_at types i).count)
      ≤ 8 * (type_at types i).size
  -- one of kind Str is a string
  pub string : (type_at types i).kind ≡ Str → StringRow members (type_at types i)
  -- the first four are TIMER, COUNTER, CONTROL and STRING, with predefined types' ids; the others have users' ids
  pub first : i < 4 → FirstFour i (row_name types names i) (type_at types i).kind
  pub early : i < 4 → predefined_id (type_at types i).id ≡ true
  pub late : 4 ≤ i → user_id (type_at types i).id ≡ true
  pub kind : user_id (type_at types i).id ≡ true → (type_at types i).kind ≡ Predefined → ⊥
  -- its name and its members' follow the rule, and each member stands as it should
  pub name : good_name (row_name types names i) ≡ true
  pub parts : (k : ℕ) → k < (type_at types i).count → MemberRow members names ((type_at types i).first + k)

-- row i is a type's, or it is zero
pub data RowIs (types members names : List ℕ) (i : ℕ) : Type 0 where
  holds : TypeRow types members names i → RowIs types members names i
  empty : type_at types i ≡ no_type → RowIs types members names i

good_row : (ds : List Def) (g : Good ds) (i : ℕ) → i < length ds
    → TypeRow (types_table ds) (members_table ds) (names_table ds) i
good_row ds g i l =
    let p = g.proper i l in
    let id = good_id ds g i l in
    record {
      counted = rw (good_count ds g) l;
      few = omega (arith, g.shown.few);
      used = good_used ds g i l;
      listable = good_listable ds g i l;
      laid = good_laid ds g i l;
      most = good_most ds g i l;
      bits = visible_inside (sizes_in (types_table ds)) i _ _ (good_laid ds g i l);
      string = good_string ds g i l;
      first = good_first ds g i l;
      early = rw id p.early;
      late = rw id p.late;
      kind = rw (id, good_kind ds g i l) p.kind;
      name = good_name_lem ds g i l;
      parts = good_members ds g i l;
    }

-- ---- what a caller may count on

module _ {types members names : List ℕ} (k : Kept types members names) where
  good : Good k.defs
  good = made_good k.defs k.made

  -- the names of all types there are lie inside the table
  pub kept_inside : NamesInside types names (type_count types)
  kept_inside = rw (k.rows, k.bytes) (good_inside k.defs good)

  -- ids have twelve bits
  pub kept_ids : (n : ℕ) → n < most_types → (type_at types n).id < 0x1000
  kept_ids n l = rw k.rows (ids_fit k.defs good.shown n l)

  -- so many types there are
  pub kept_count : type_count types ≡ length k.defs
  kept_count = rw k.rows (good_count k.defs good)

  -- a row below the count is a type's
  pub kept_type : (i : ℕ) → i < type_count types → TypeRow types members names i
  kept_type =
      rw (k.rows, k.parts, k.bytes)
      (λ i l. good_row k.defs good i (rw (good_count k.defs good) at l))

  -- each row is a type, with all that is known of one, or it is empty
  pub kept_row : (i : ℕ) → RowIs types members names i
  kept_row i = go (dec_lt i (type_count types))
    where
      after : length k.defs ≤ i → type_at types i ≡ no_type
      after = rw k.rows (good_unused k.defs good i)

      go : Dec (i < type_count types) → RowIs types members names i
      go (yes l) = holds (kept_type i l)
      go (no l) = empty (after (omega (arith, l, kept_count)))

  -- a row that holds an id is a type's
  pub kept_used : (i : ℕ) → ((type_at types i).id ≡ 0 → ⊥) → TypeRow types members names i
  kept_used i u = go (kept_row i)
    where
      go : RowIs types members names i → TypeRow types members names i
      go (holds r) = r
      go (empty e) = absurd (u (ap (λ (d : StructDef). d.id) e))

  -- no two types hold the same template id, and no two have the same name
  pub kept_ids_apart : (i j : ℕ) → i < j → j < type_count types → (type_at types i).id ≡ (type_at types j).id → ⊥
  kept_ids_apart =
      rw k.rows (λ i j l h. good_ids_apart k.defs good i j l (rw (good_count k.defs good) at h))

  pub kept_names_apart : (i j : ℕ) → i < j → j < type_count types
      → same_name (row_name types names i) (row_name types names j) ≡ false
  kept_names_apart =
      rw (k.rows, k.bytes)
      (λ i j l h. good_names_apart k.defs good i j l (rw (good_count k.defs good) at h))

-- ---- and what keeps it

-- tables of zeros are kept
pub none_kept : {types members names : List ℕ} → types ≡ no_types → members ≡ no_members → names ≡ no_names
    → Kept types members names
unfolding types_table members_table names_table type_rows member_rows name_bytes_of
none_kept a b c = record { defs = []; made = none refl; rows = a; parts = b; bytes = c }

module _ (ids : PredefinedIds) (book : List ℕ) (bytes : Bytes book) where
  kept_by : (a : Answer (List Def) Why) → build_of ids book ≡ a
      → {t m n : List ℕ} {r : Result ℕ Refusal} → Ended a t m n r → Kept t m n
  kept_by (refused x) e w = none_kept w.types w.members w.names
  kept_by (accepted ds) e w =
      record {
        defs = ds;
        made = built ids book bytes e;
        rows = w.types;
        parts = w.members;
        bytes = w.names;
      }

  -- a build keeps it, accepted or refused
  pub build_kept : {t m n : List ℕ} {r : Result ℕ Refusal} → Ended (build_of ids book) t m n r
      → Kept t m n
  build_kept w = kept_by (build_of ids book) refl w

  count_by : (a : Answer (List Def) Why) → build_of ids book ≡ a
      → {t m n : List ℕ} (x : ℕ) → Ended a t m n (Ok x) → x ≡ type_count t
  count_by (refused y) e x w = let z : true ≡ false = cc w.is in absurd (true≢false z)
  count_by (accepted ds) e x w =
      let is : x ≡ length ds = cc w.is in
      is ∙ rw w.types (sym (good_count ds (made_good ds (built ids book bytes e))))

  -- an accepted build says how many types there are
  pub build_count : {t m n : List ℕ} {r : Result ℕ Refusal} (x : ℕ) → Ended (build_of ids book) t m n r
      → r ≡ Ok x → x ≡ type_count t
  build_count x w q = count_by (build_of ids book) refl x (rw q at w)
