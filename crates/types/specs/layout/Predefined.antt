-- The predefined types (document 01, "Layout", Predefined; "Order of building"; "What is ported": their ids): TIMER,
-- COUNTER, CONTROL and STRING, added one after the other before the book's types, under the ids that the caller gives.
use Rattle.std.specs.Prelude.{ℕ, Bool, not, ◌&&◌, List, [], ◌∷◌, ◌++◌, eqb, leb}
use Rattle.types.specs.adding.Add.{new_def}
use Rattle.types.specs.layout.Structs.{timer_parts, counter_parts, control_type_parts, string_parts, string_size}
use Rattle.types.specs.tables.Defs.{Part, Def}
use Rattle.types.specs.tables.Registry.{view_of}
use Rattle.types.specs.templates.Template.{user_id}
use Rattle.types.specs.declared.layout.predefined.PredefinedIds.{PredefinedIds}
use Rattle.types.specs.declared.tables.member.StructKind.{StructKind}
use Rattle.types.specs.declared.tables.member.StructKind.TheVariants.{Predefined, Str}

-- ---- their ids

-- 1 to 0xFFF, outside 0x100..0xEFF
unfoldable pub predefined_id : ℕ → Bool
predefined_id id = leb 1 id && leb id 0xFFF && not (user_id id)

-- no two are the same
unfoldable pub distinct : PredefinedIds → Bool
distinct ids =
    not (eqb ids.timer ids.counter) && not (eqb ids.timer ids.control)
    && not (eqb ids.timer ids.string) && not (eqb ids.counter ids.control)
    && not (eqb ids.counter ids.string) && not (eqb ids.control ids.string)

unfoldable pub predefined_ids : PredefinedIds → Bool
predefined_ids ids =
    predefined_id ids.timer && predefined_id ids.counter && predefined_id ids.control
    && predefined_id ids.string && distinct ids

-- ---- the types, one after the other

-- the bytes of `TIMER`, `COUNTER`, `CONTROL` and `STRING`
abbrev pub timer_name : List ℕ
timer_name = 84 ∷ 73 ∷ 77 ∷ 69 ∷ 82 ∷ []

abbrev pub counter_name : List ℕ
counter_name = 67 ∷ 79 ∷ 85 ∷ 78 ∷ 84 ∷ 69 ∷ 82 ∷ []

abbrev pub control_name : List ℕ
control_name = 67 ∷ 79 ∷ 78 ∷ 84 ∷ 82 ∷ 79 ∷ 76 ∷ []

abbrev pub string_name : List ℕ
string_name = 83 ∷ 84 ∷ 82 ∷ 73 ∷ 78 ∷ 71 ∷ []

-- one type more, after the earlier ones
abbrev pub with_one : List Def → List ℕ → ℕ → ℕ → StructKind → List Part → List Def
with_one ds name id size kind parts = ds ++ new_def (view_of ds) name id size kind parts ∷ []

unfoldable pub with_timer : PredefinedIds → List Def
with_timer ids = with_one [] timer_name ids.timer 12 Predefined timer_parts

unfoldable pub with_counter : PredefinedIds → List Def
with_counter ids = with_one (with_timer ids) counter_name ids.counter 12 Predefined counter_parts

unfoldable pub with_control : PredefinedIds → List Def
with_control ids = with_one (with_counter ids) control_name ids.control 12 Predefined control_type_parts

-- all four; STRING has capacity 82
unfoldable pub predefined : PredefinedIds → List Def
predefined ids = with_one (with_control ids) string_name ids.string (string_size 82) Str (string_parts 82)
