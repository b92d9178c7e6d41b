-- Laws of the predefined types (document 01, "Layout", Predefined; "Order of building"): their parts can be stored and
-- read back, each is added to the earlier ones, and the tables show all four.
use Rattle.std.specs.Prelude.{Ok}
use Prim.Native.Nat.{ℕ, ◌+◌, ◌/◌, ◌<◌, ◌≤◌}
use native.Mathlib.Omega.{arith}
use mathlib.Core.Path.{◌≡◌, refl}
use mathlib.Core.Bool.{true}
use mathlib.Core.List.{List, [], ◌∷◌, ◌++◌}
use lib.ListN.{length}
use Rattle.words.specs.Words.{part}
use Rattle.types.specs.adding.Add.{yes, new_def}
use Rattle.types.specs.inside.adding.Add.{Took, Ready}
use Rattle.types.specs.inside.layout.Predefined.{ControlReady}
use Rattle.types.specs.inside.layout.Structs.{control_of, pairs}
use Rattle.types.specs.inside.tables.Registry.{view_in, Stands}
use Rattle.types.specs.layout.Laid.{Every}
use Rattle.types.specs.layout.Predefined.{predefined_id, predefined_ids, with_one, with_timer, with_counter}
use Rattle.types.specs.layout.Predefined.{with_control, predefined, timer_name, counter_name, control_name}
use Rattle.types.specs.layout.Predefined.{string_name}
use Rattle.types.specs.layout.Structs.{names_of, status_parts, control_parts, string_parts, string_size, timer_parts}
use Rattle.types.specs.layout.Structs.{counter_parts, control_type_parts}
use Rattle.types.specs.tables.Defs.{Part, Def}
use Rattle.types.specs.tables.Limits.{most_types, most_members, most_names}
use Rattle.types.specs.tables.Registry.{view_of, members_of, name_bytes_of, no_types, no_members, no_names, type_rows}
use Rattle.types.specs.tables.Registry.{member_rows, types_table, members_table, names_table}
use Rattle.types.specs.declared.adding.used.Used.{Used}
use Rattle.types.specs.declared.layout.predefined.PredefinedIds.{PredefinedIds}
use Rattle.types.specs.declared.tables.member.StructKind.{StructKind}
use Rattle.types.specs.declared.tables.member.StructKind.TheVariants.{Predefined, Str}
use Rattle.types.proofs.adding.AddLaidLaws.{string_counted}
use Rattle.types.proofs.adding.AddStoreLaws.{PartsCounted}
use Rattle.types.proofs.layout.PredefinedIds.{Allowed, Id, ids_allowed, id_within}
use Rattle.types.proofs.tables.DefLaws.{PartFits}
use Rattle.types.proofs.tables.RegistryLaws.{length_snoc, members_of_snoc, long_snoc, members_long, names_long}
use Rattle.types.proofs.tables.RegistryLaws.{stands_more}
use Rattle.types.proofs.tables.ShownLaws.{TablesShow, FitsRegistry, shown_none, shown_more, view_same}
use Rattle.types.proofs.tables.ShownLaws.{names_inside, ids_small}
use Rattle.types.proofs.templates.HandleLaws.{handle_small}

-- ---- their parts can be stored and read back

status_fit : (n i : ℕ) (bits : List (List ℕ)) → Every (PartFits n) (status_parts i bits)
unfolding status_parts Every
status_fit n i [] = tt
status_fit n i (b ∷ bits) =
    (record { bit = omega arith; access = omega arith; earlier = tt }, status_fit n (i + 1) bits)

control_fits : (n : ℕ) (one two : List ℕ) (bits : List (List ℕ)) → Every (PartFits n) (control_parts one two bits)
unfolding control_parts Every
control_fits n one two bits = (
  record { bit = tt; access = omega arith; earlier = tt },
  (
    record { bit = tt; access = omega arith; earlier = tt },
    (record { bit = tt; access = omega arith; earlier = tt }, status_fit n 0 bits),
  ),
)

timer_fits : (n : ℕ) → Every (PartFits n) timer_parts
unfolding timer_parts
timer_fits n = control_fits n _ _ _

counter_fits : (n : ℕ) → Every (PartFits n) counter_parts
unfolding counter_parts
counter_fits n = control_fits n _ _ _

control_type_fits : (n : ℕ) → Every (PartFits n) control_type_parts
unfolding control_type_parts
control_type_fits n = control_fits n _ _ _

-- their parts and names counted, after any number of types
abbrev pub Counts : List ℕ → List Part → ℕ → ℕ → Type 0
Counts name parts k l = (n : ℕ) → PartsCounted name parts n k l

timer_counts : Counts timer_name timer_parts 6 20
unfolding timer_parts control_parts status_parts names_of
timer_counts n = record { count = refl; long = refl; fit = timer_fits n }

counter_counts : Counts counter_name counter_parts 8 26
unfolding counter_parts control_parts status_parts names_of
counter_counts n = record { count = refl; long = refl; fit = counter_fits n }

control_counts : Counts control_name control_type_parts 11 32
unfolding control_type_parts control_parts status_parts names_of
control_counts n = record { count = refl; long = refl; fit = control_type_fits n }

-- the code's byte strings: the names of the two words, three bytes each, and those of the bits, two bytes each
abbrev pre_acc : List ℕ
pre_acc = 80 ∷ 82 ∷ 69 ∷ 65 ∷ 67 ∷ 67 ∷ []

abbrev len_pos : List ℕ
len_pos = 76 ∷ 69 ∷ 78 ∷ 80 ∷ 79 ∷ 83 ∷ []

abbrev timer_bits : List ℕ
timer_bits = 69 ∷ 78 ∷ 84 ∷ 84 ∷ 68 ∷ 78 ∷ []

abbrev counter_bits : List ℕ
counter_bits = 67 ∷ 85 ∷ 67 ∷ 68 ∷ 68 ∷ 78 ∷ 79 ∷ 86 ∷ 85 ∷ 78 ∷ []

abbrev control_bits : List ℕ
control_bits = 69 ∷ 78 ∷ 69 ∷ 85 ∷ 68 ∷ 78 ∷ 69 ∷ 77 ∷ 69 ∷ 82 ∷ 85 ∷ 76 ∷ 73 ∷ 78 ∷ 70 ∷ 68 ∷ []

module _ {t m n : List ℕ} {u : Used} where
  -- tables with room for 6 members and 20 bytes of names are ready for TIMER
  pub timer_ready : Ready t m n u 6 20 → ControlReady t m n u timer_name pre_acc timer_bits
  unfolding part pairs control_parts status_parts names_of
  timer_ready r = record { ready = r; two = refl; few = omega arith; parts = refl; long = refl }

  -- tables with room for 8 members and 26 bytes of names are ready for COUNTER
  pub counter_ready : Ready t m n u 8 26 → ControlReady t m n u counter_name pre_acc counter_bits
  unfolding part pairs control_parts status_parts names_of
  counter_ready r = record { ready = r; two = refl; few = omega arith; parts = refl; long = refl }

  -- tables with room for 11 members and 32 bytes of names are ready for CONTROL
  pub control_ready : Ready t m n u 11 32 → ControlReady t m n u control_name len_pos control_bits
  unfolding part pairs control_parts status_parts names_of
  control_ready r = record { ready = r; two = refl; few = omega arith; parts = refl; long = refl }

-- any control type's parts and names are counted
pub control_counted : {t m n name words bits : List ℕ} {u : Used} → ControlReady t m n u name words bits
    → Counts name (control_of words bits) (3 + length bits / 2) (length name + 9 + length bits)
control_counted r n = record { count = r.parts; long = r.long; fit = control_fits n _ _ _ }

string_counts : Counts string_name (string_parts 82) 2 13
string_counts n = string_counted string_name 82 n

-- ---- a type with a predefined id, added to the earlier ones

-- a registry that its tables show, with so many types, members and bytes of names
pub record RegistryBuilt (ds : List Def) (types members bytes : ℕ) : Type 0 where
  pub shown : TablesShow ds
  pub few : length ds ≡ types
  pub rows : members_of ds ≡ members
  pub long : length (name_bytes_of ds) ≡ bytes

module _ (ds : List Def) (name : List ℕ) (id size : ℕ) (kind : StructKind) (parts : List Part) where
  abbrev new : Def
  new = new_def (view_of ds) name id size kind parts

  new_fits : length ds < most_types → members_of ds + length parts ≤ most_members
      → length (name_bytes_of ds) + length (name ++ names_of parts) ≤ most_names → Every (PartFits (length ds)) parts
      → Id id → FitsRegistry ds new
  unfolding new_def
  new_fits f r b p i =
      record {
        few = f;
        rows = r;
        bytes = b;
        parts = p;
        id = omega (arith, i.most);
        used = λ e. omega (arith, i.least);
        handle = handle_small _;
      }

  built_more : {t m b k l : ℕ} → Counts name parts k l → RegistryBuilt ds t m b → predefined_id id ≡ true
      → t < most_types
      → m + k ≤ most_members → b + l ≤ most_names
      → RegistryBuilt (with_one ds name id size kind parts) (t + 1) (m + k) (b + l)
  unfolding new_def
  built_more p u i f r b =
      let c = p (length ds) in
      record {
        shown =
            shown_more ds new u.shown
            (new_fits (omega (arith, u.few)) (omega (arith, u.rows, c.count)) (omega (arith, u.long, c.long))
            c.fit (id_within id i));
        few = omega (arith, length_snoc ds new, u.few);
        rows = omega (arith, members_of_snoc ds new, u.rows, c.count);
        long = omega (arith, long_snoc ds new, u.long, c.long);
      }

  -- and the tables that stand for it
  added_stands : {t m n t' m' n' : List ℕ} {u r : Used} → TablesShow ds → Stands ds t m n u
      → Took (yes (new_def (view_in t n u) name id size kind parts)) u t m n t' m' n' (Ok r)
      → Stands (with_one ds name id size kind parts) t' m' n' r
  added_stands {t} {n = n} {u = u} s k took =
      let view : view_in t n u ≡ view_of ds = rw (k.types, k.names, k.used) (view_same ds s) in
      stands_more new k (rw view at took)

-- ---- the four

-- no types, no members and no bytes of names, which their tables show
pub none_built : RegistryBuilt [] 0 0 0
unfolding members_of name_bytes_of
none_built = record { shown = shown_none; few = refl; rows = refl; long = refl }

module _ (ids : PredefinedIds) (good : Allowed ids) where
  -- with TIMER 1 type, 6 members and 20 bytes of names, which its tables show
  pub timer_built : RegistryBuilt (with_timer ids) 1 6 20
  unfolding with_timer
  timer_built =
      built_more [] _ ids.timer _ _ _ timer_counts none_built good.timer (omega arith) (omega arith) (omega arith)

  -- with COUNTER 2 types, 14 members and 46 bytes of names, which their tables show
  pub counter_built : RegistryBuilt (with_counter ids) 2 14 46
  unfolding with_counter
  counter_built =
      built_more (with_timer ids) _ ids.counter _ _ _ counter_counts timer_built good.counter (omega arith)
      (omega arith) (omega arith)

  -- with CONTROL 3 types, 25 members and 78 bytes of names, which their tables show
  pub control_built : RegistryBuilt (with_control ids) 3 25 78
  unfolding with_control
  control_built =
      built_more (with_counter ids) _ ids.control _ _ _ control_counts counter_built good.control (omega arith)
      (omega arith) (omega arith)

  -- 4 types, 27 members and 91 bytes of names, which their tables show
  pub predefined_built : RegistryBuilt (predefined ids) 4 27 91
  unfolding predefined
  predefined_built =
      built_more (with_control ids) _ ids.string _ _ _ string_counts control_built good.string (omega arith)
      (omega arith) (omega arith)

-- under good ids their tables show the four predefined types
pub predefined_shown : (ids : PredefinedIds) → predefined_ids ids ≡ true → TablesShow (predefined ids)
predefined_shown ids e = (predefined_built ids (ids_allowed ids e)).shown

-- ---- in the tables

-- tables of zeros are those of no types
pub none_stands : {t m n : List ℕ} → t ≡ no_types → m ≡ no_members → n ≡ no_names
    → Stands [] t m n (record { types = 0; members = 0; bytes = 0 })
unfolding types_table type_rows members_table member_rows names_table name_bytes_of members_of
none_stands e f g = record { types = e; members = f; names = g; used = refl }

module _ (ids : PredefinedIds) {t m n t' m' n' : List ℕ} {u r : Used} where
  -- where TIMER was added to the tables of no types, they are those of TIMER
  pub timer_stands : Stands [] t m n u
      → Took (yes (new_def (view_in t n u) timer_name ids.timer 12 Predefined (control_of pre_acc timer_bits))) u t m n
      t' m' n' (Ok r)
      → Stands (with_timer ids) t' m' n' r
  unfolding with_timer timer_parts part pairs
  timer_stands s k = added_stands [] _ _ _ _ _ shown_none s k

  module _ (good : Allowed ids) where
    -- where COUNTER was added after TIMER, the tables are those of both
    pub counter_stands : Stands (with_timer ids) t m n u
        → Took (yes (new_def (view_in t n u) counter_name ids.counter 12 Predefined (control_of pre_acc counter_bits)))
        u t m n t' m' n' (Ok r)
        → Stands (with_counter ids) t' m' n' r
    unfolding with_counter counter_parts part pairs
    counter_stands s k = added_stands (with_timer ids) _ _ _ _ _ (timer_built ids good).shown s k

    -- where CONTROL was added after these, the tables are those of the three
    pub control_stands : Stands (with_counter ids) t m n u
        → Took (yes (new_def (view_in t n u) control_name ids.control 12 Predefined (control_of len_pos control_bits)))
        u t m n t' m' n' (Ok r)
        → Stands (with_control ids) t' m' n' r
    unfolding with_control control_type_parts part pairs
    control_stands s k = added_stands (with_counter ids) _ _ _ _ _ (counter_built ids good).shown s k

    -- where STRING was added after these, the tables are those of all four
    pub string_stands : Stands (with_control ids) t m n u
        → Took (yes (new_def (view_in t n u) string_name ids.string (string_size 82) Str (string_parts 82))) u t m n
        t' m' n' (Ok r)
        → Stands (predefined ids) t' m' n' r
    unfolding predefined
    string_stands s k = added_stands (with_control ids) _ _ _ _ _ (control_built ids good).shown s k

-- the tables of a registry are ready for one type more
pub ready_for : {ds : List Def} {x y z k l : ℕ} {t m n : List ℕ} {u : Used} → RegistryBuilt ds x y z → Stands ds t m n u
    → x < most_types → y + k ≤ most_members → z + l ≤ most_names → Ready t m n u k l
ready_for {ds} b s f r g =
    rw (s.types, s.members, s.names, s.used) record {
      usable =
          record {
            rows = names_inside ds b.shown;
            members = b.shown.members;
            bytes = b.shown.bytes;
            ids = ids_small ds b.shown;
          };
      members = members_long ds;
      names = names_long ds;
      few = omega (arith, b.few);
      rows = omega (arith, b.rows);
      bytes = omega (arith, b.long);
    }
