-- Laws of adding a type: the parts of a layout are stored and read back, so the new row's handle is that of the
-- definition; one law for each way that a type is added or refused.
use Prim.Native.Nat.{ℕ, zero, suc, ◌+◌, ◌*◌, ◌%◌, ◌<◌, ◌≤◌}
use native.Mathlib.Omega.{arith}
use mathlib.Core.Path.{◌≡◌, sym, ap, ◌∙◌}
use mathlib.Core.Bool.{Bool, true, false}
use mathlib.Core.List.{List, [], ◌∷◌, ◌++◌}
use lib.ListN.{length, get_or}
use lib.Seq.{sets}
use Rattle.types.specs.adding.Add.{no, yes, room_in_tables, used_in, new_def, fitted}
use Rattle.types.specs.adding.Ids.{id_word}
use Rattle.types.specs.atomics.Lookup.{row_name}
use Rattle.types.specs.inside.adding.Add.{Usable}
use Rattle.types.specs.inside.layout.Passes.{then_parts, parts_from, udt_parts, aoi_parts, parts_of}
use Rattle.types.specs.inside.tables.Registry.{view_in, with_handle}
use Rattle.types.specs.layout.HostNames.{host_name}
use Rattle.types.specs.layout.Laid.{Earlier, Every}
use Rattle.types.specs.layout.Placing.{opened, next_bit}
use Rattle.types.specs.layout.Structs.{names_of, rows_of, host_parts, aoi_hosts, aoi_start, udt_start, string_parts}
use Rattle.types.specs.tables.Defs.{Part, Def}
use Rattle.types.specs.tables.Lent.{type_at}
use Rattle.types.specs.tables.Limits.{most_members, most_names, member_words}
use Rattle.types.specs.tables.Registry.{View, id_at, head_of}
use Rattle.types.specs.tables.TypeWord.{ids_in}
use Rattle.types.specs.templates.Handle.{handle_of}
use Rattle.types.specs.templates.Template.{template_in, template_of}
use Rattle.types.specs.declared.adding.used.Used.{Used}
use Rattle.types.specs.declared.layout.placing.Cursor.{Cursor}
use Rattle.types.specs.declared.layout.placing.Decl.{Decl}
use Rattle.types.specs.declared.tables.member.StructKind.{StructKind}
use Rattle.types.proofs.layout.PlaceLaws.{place_cases}
use Rattle.types.proofs.tables.AgreeLaws.{template_same, length_list, get_d_list}
use Rattle.types.proofs.tables.DefLaws.{PartFits, def_back}

-- ---- the parts of every layout can be stored and read back

-- a declared member whose access is a byte and whose type is one of the first n
pub record DeclAble (n : ℕ) (d : Decl) : Type 0 where
  pub access : d.access < 256
  pub earlier : Earlier n d.ty

-- what holds of each element of two lists holds of each of the two joined
pub every_append : {A : Type 0} (P : A → Type 0) (xs ys : List A) → Every P xs → Every P ys → Every P (xs ++ ys)
unfolding Every
every_append P [] ys p q = q
every_append P (x ∷ xs) ys (p, ps) q = (p, every_append P xs ys ps q)

-- what holds of each element of a list holds of the k-th
pub every_nth : {A : Type 0} (P : A → Type 0) (z : A) (xs : List A) (k : ℕ) → Every P xs → k < length xs
    → P (get_or xs k z)
unfolding Every
every_nth P z [] k a l = absurd (let y : ⊥ = omega arith in y)
every_nth P z (x ∷ xs) zero (a, rest) l = a
every_nth P z (x ∷ xs) (suc k) (a, rest) l = every_nth P z xs k rest (omega arith)

hosts_fit : (n i h : ℕ) → Every (PartFits n) (host_parts i h)
unfolding host_parts Every
hosts_fit n i zero = tt
hosts_fit n i (suc h) = (record { bit = tt; access = omega arith; earlier = tt }, hosts_fit n (i + 1) h)

module _ (n : ℕ) (name : Decl → List ℕ) (host : ℕ → List ℕ) where
  parts_fit : (ds : List Decl) (c : Cursor) → Every (DeclAble n) ds → Every (PartFits n) (parts_from name host c ds)
  unfolding parts_from Every opened next_bit
  parts_fit [] c a = tt
  parts_fit (d ∷ ds) c (a, rest) =
      place_cases
      (λ p. Every (PartFits n) (then_parts p (host c.members) (name d) (λ c'. parts_from name host c' ds))) c d
      (record {
        wrong = λ q. tt;
        opens = λ b f. (
          record { bit = tt; access = omega arith; earlier = tt },
          (record { bit = omega arith; access = a.access; earlier = tt }, parts_fit ds _ rest),
        );
        next = λ b byte bit h l. (record { bit = l; access = a.access; earlier = tt }, parts_fit ds _ rest);
        shared = λ b i h. (record { bit = omega arith; access = a.access; earlier = tt }, parts_fit ds _ rest);
        other = λ b l. (record { bit = tt; access = a.access; earlier = a.earlier }, parts_fit ds _ rest);
        far = λ b l. tt;
      })

module _ (n : ℕ) (name : Decl → List ℕ) (type : List ℕ) (ds : List Decl) (a : Every (DeclAble n) ds) where
  udt_fits : Every (PartFits n) (udt_parts name type ds)
  unfolding udt_parts
  udt_fits = parts_fit n name (host_name type) ds udt_start a

  aoi_fits : Every (PartFits n) (aoi_parts name type ds)
  unfolding aoi_parts Every
  aoi_fits =
      every_append (PartFits n) (host_parts 0 (aoi_hosts ds)) _ (hosts_fit n 0 (aoi_hosts ds)) (
        record { bit = omega arith; access = omega arith; earlier = tt },
        (
          record { bit = omega arith; access = omega arith; earlier = tt },
          parts_fit n name (host_name type) ds (aoi_start (aoi_hosts ds)) a,
        ),
      )

-- rows can hold the parts of a UDT or AOI whose members have an access of one byte and earlier types
pub type_fits : (aoi : Bool) (n : ℕ) (name : Decl → List ℕ) (type : List ℕ) (ds : List Decl) → Every (DeclAble n) ds
    → Every (PartFits n) (parts_of aoi name type ds)
type_fits true n name type ds a = aoi_fits n name type ds a
type_fits false n name type ds a = udt_fits n name type ds a

-- rows can hold the two parts of any string
pub string_fits : (n c : ℕ) → Every (PartFits n) (string_parts c)
unfolding string_parts Every
string_fits n c = (
  record { bit = tt; access = omega arith; earlier = tt },
  (record { bit = tt; access = omega arith; earlier = tt }, tt),
)

-- ---- the new type, in its row

module _ (types members names : List ℕ) (u : Used) (name : List ℕ) (id size : ℕ) (kind : StructKind)
    (parts : List Part) where
  abbrev view : View
  view = view_in types names u

  -- the type without its handle, and with it
  abbrev bare : Def
  bare = record { name = name; id = id; handle = 0; size = size; kind = kind; parts = parts }

  abbrev new : Def
  new = new_def view name id size kind parts

  -- the tables with its parts and names
  abbrev rows : List ℕ
  rows = sets members (8 * u.members) (rows_of (u.bytes + length name) parts)

  abbrev bytes : List ℕ
  bytes = sets names u.bytes (name ++ names_of parts)

  module _ (ready : Usable types names u) (fit : Every (PartFits u.types) parts)
      (m : length members ≡ member_words) (k : length names ≡ most_names) (a : u.members + length parts ≤ most_members)
      (b : u.bytes + length (name ++ names_of parts) ≤ most_names) where
    -- the ids that a template names are those of the view
    ids_same : (j : ℕ) → j < u.types → ids_in types j ≡ id_at view j
    unfolding view_in type_at
    ids_same j l =
        let e : id_word types j % 65536 ≡ id_word types j = omega (arith, ready.ids j l) in
        e ∙ sym (get_d_list (id_word types) u.types j 0 l)

    -- the handle that the stored parts give is the definition's
    pub handle_same : handle_of (template_in types rows bytes (head_of u.bytes u.members bare)) ≡ new.handle
    unfolding new_def
    handle_same =
        ap handle_of
        (ap (template_of (ids_in types)) (def_back members names u.members u.bytes u.types bare
        (omega (arith, m)) (omega (arith, k)) fit)
        ∙ template_same (ids_in types) (id_at view) u.types ids_same bare fit)

    -- the row with the handle that the stored parts give is the definition's row
    pub row_same : with_handle (head_of u.bytes u.members bare)
        (handle_of (template_in types rows bytes (head_of u.bytes u.members bare)))
        ≡ head_of u.bytes u.members new
    unfolding new_def
    row_same = ap (with_handle (head_of u.bytes u.members bare)) handle_same

  -- ---- 13, or the new type

  view_used : used_in view ≡ u
  unfolding view_in
  view_used = ap (λ (k : ℕ). record { types = k; members = u.members; bytes = u.bytes })
      (length_list (row_name types names) 0 u.types)

  module _ (i : ℕ) (r : Bool) (e : r ≡ room_in_tables u (length parts) (length (name ++ names_of parts))) where
    -- without room the verdict on the new type is refusal 13
    pub fitted_no : r ≡ false → fitted view i new ≡ no (13, i)
    unfolding fitted new_def
    fitted_no q = rw (view_used, sym e ∙ q)

    -- with room the verdict is the new type
    pub fitted_yes : r ≡ true → fitted view i new ≡ yes new
    unfolding fitted new_def
    fitted_yes q = rw (view_used, sym e ∙ q)
