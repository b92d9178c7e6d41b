-- Laws of what the tables of a registry show (document 01, "Declaration book": the tables; "Order of building"): every
-- type that was added is read back from its row, the rows after them are unused, and one type more leaves the others.
use Prim.Native.Nat.{ℕ, suc, ◌+◌, ◌*◌, ◌≤◌, ◌<◌}
use native.Mathlib.Decide.{dec_lt}
use native.Mathlib.Nat.{add-zero, zero-add}
use native.Mathlib.Omega.{arith}
use mathlib.Core.Path.{◌≡◌, refl, ap, ◌∙◌}
use mathlib.Core.List.{List, [], ◌∷◌, ◌++◌, map}
use mathlib.Core.Logic.{inl}
use lib.ListN.{length, get_or, length-append, get_or-append}
use lib.Seq.{sets, get_or-append_seam}
use Rattle.words.specs.Words.{part}
use Rattle.words.proofs.Lists.{get_d_sets, get_d_beside, part_beside}
use Rattle.types.specs.adding.Ids.{id_word}
use Rattle.types.specs.atomics.Lookup.{row_name}
use Rattle.types.specs.book.Contents.{list_from}
use Rattle.types.specs.inside.atomics.Lookup.{NamesInside}
use Rattle.types.specs.inside.tables.Defs.{Readable}
use Rattle.types.specs.inside.tables.Registry.{used_by, view_in}
use Rattle.types.specs.layout.Laid.{Every}
use Rattle.types.specs.layout.Structs.{names_of, rows_of}
use Rattle.types.specs.tables.Defs.{Def, def_of}
use Rattle.types.specs.tables.Lent.{type_at, type_row}
use Rattle.types.specs.tables.Limits.{most_types, most_members, most_names}
use Rattle.types.specs.tables.Registry.{own_names, members_of, name_bytes_of, head_of, types_table, members_table}
use Rattle.types.specs.tables.Registry.{names_table, view_of}
use Rattle.types.specs.tables.Sizes.{sizes_in}
use Rattle.types.specs.declared.tables.member.StructDef.{StructDef}
use Rattle.types.specs.declared.tables.member.StructKind.TheVariants.{Udt}
use Rattle.types.proofs.tables.DefLaws.{PartFits, RowWithin, type_stays, member_stays, name_stays, parts_beside}
use Rattle.types.proofs.tables.DefLaws.{def_back, rows_within, within_fits}
use Rattle.types.proofs.tables.RegistryLaws.{length_snoc, members_of_snoc, long_snoc, types_more, members_more}
use Rattle.types.proofs.tables.RegistryLaws.{names_more, types_long, members_long, names_long, word_after}
use Rattle.types.proofs.tables.TableLaws.{type_back}

-- ---- what a type that is added has, and what the tables show

-- what a type that is added to a registry has
pub record FitsRegistry (ds : List Def) (d : Def) : Type 0 where
  pub few : length ds < most_types
  pub rows : members_of ds + length d.parts ≤ most_members
  pub bytes : length (name_bytes_of ds) + length (own_names d) ≤ most_names
  pub parts : Every (PartFits (length ds)) d.parts
  pub id : d.id < 0x1000
  pub used : d.id ≡ 0 → ⊥
  pub handle : d.handle < 65536

-- row i shows the type: its names begin at a place, its members at a row
pub record RowShown (ds : List Def) (i : ℕ) (d : Def) : Type 0 where
  pub at : ℕ
  pub row : ℕ
  pub head : type_at (types_table ds) i ≡ head_of at row d
  pub word : id_word (types_table ds) i ≡ d.id
  pub def : def_of (members_table ds) (names_table ds) (head_of at row d) ≡ d
  pub bytes : at + length (own_names d) ≤ length (name_bytes_of ds)
  pub rows : row + length d.parts ≤ members_of ds
  pub within : (k : ℕ) → k < length d.parts → RowWithin (members_table ds) i (at + length (own_names d)) (row + k)
  pub parts : Every (PartFits i) d.parts
  pub id : d.id < 0x1000
  pub used : d.id ≡ 0 → ⊥

-- no type
unfoldable pub no_def : Def
no_def = record { name = []; id = 0; handle = 0; size = 0; kind = Udt; parts = [] }

-- what holds of each type of a registry, by its number, and of one type more, holds of each with it
pub each_more : (P : ℕ → Def → Type 0) (ds : List Def) (d : Def) → ((i : ℕ) → i < length ds → P i (get_or ds i no_def))
    → P (length ds) d → (i : ℕ) → i < length (ds ++ d ∷ []) → P i (get_or (ds ++ d ∷ []) i no_def)
each_more P ds d w n i l = go (dec_lt i (length ds))
  where
    go : Dec (i < length ds) → P i (get_or (ds ++ d ∷ []) i no_def)
    go (yes o) = rw (get_or-append ds (d ∷ []) no_def i o) (w i o)
    go (no o) =
        let q : i ≡ length ds = omega (arith, o, length_snoc ds d) in
        let e : get_or (ds ++ d ∷ []) (length ds) no_def ≡ d = get_or-append_seam ds d [] no_def in
        rw (q, e) n

-- each type of the registry is shown by its row, and the rows after them are unused
pub record TablesShow (ds : List Def) : Type 0 where
  pub few : length ds ≤ most_types
  pub members : members_of ds ≤ most_members
  pub bytes : length (name_bytes_of ds) ≤ most_names
  pub rows : (i : ℕ) → i < length ds → RowShown ds i (get_or ds i no_def)
  pub unused : (i : ℕ) → length ds ≤ i → (type_at (types_table ds) i).id ≡ 0
  pub blank : (i : ℕ) → length ds ≤ i → id_word (types_table ds) i ≡ 0

-- the rows after the types have id 0
word_none : (ds : List Def) (i : ℕ) → length ds ≤ i → id_word (types_table ds) i ≡ 0
word_none ds i l = word_after ds (8 * i + 2) (omega arith)

id_after : (ds : List Def) (i : ℕ) → length ds ≤ i → (type_at (types_table ds) i).id ≡ 0
unfolding type_at
id_after ds i l = rw (word_after ds (8 * i + 2) (omega arith))

-- ---- no type

-- the tables of a registry of no types show it
pub shown_none : TablesShow []
unfolding members_of name_bytes_of
shown_none =
    record {
      few = omega arith;
      members = omega arith;
      bytes = omega arith;
      rows = λ i l. absurd (omega arith);
      unused = id_after [];
      blank = word_none [];
    }

-- ---- one type more

-- its row, and its members' rows
abbrev type_run : List Def → Def → List ℕ
type_run ds d = type_row (head_of (length (name_bytes_of ds)) (members_of ds) d)

abbrev member_run : List Def → Def → List ℕ
member_run ds d = rows_of (length (name_bytes_of ds) + length d.name) d.parts

-- the rows before it stay
module _ (ds : List Def) (d : Def) (i : ℕ) (x : Def) (h : i < length ds) (r : RowShown ds i x) where
  stays_head : type_at (types_table (ds ++ d ∷ [])) i ≡ head_of r.at r.row x
  stays_head =
      rw (types_more ds d)
      (type_stays (types_table ds) (8 * length ds) (type_run ds d) i (inl (omega arith)) ∙ r.head)

  stays_word : id_word (types_table (ds ++ d ∷ [])) i ≡ x.id
  stays_word =
      rw (types_more ds d)
      (get_d_beside (types_table ds) (8 * length ds) (type_run ds d) (8 * i + 2) 0 (inl (omega arith)) ∙ r.word)

  stays_def : def_of (members_table (ds ++ d ∷ [])) (names_table (ds ++ d ∷ [])) (head_of r.at r.row x) ≡ x
  unfolding def_of
  stays_def =
      let long = length-append x.name (names_of x.parts) in
      let edge = length (name_bytes_of ds) in
      let own : part (sets (names_table ds) edge (own_names d)) r.at (length x.name)
      ≡ part (names_table ds) r.at (length x.name) =
      part_beside (names_table ds) edge (own_names d) r.at (length x.name) (inl (omega arith)) in
      let parts = parts_beside (members_table ds) (names_table ds) r.row (length x.parts) (8 * members_of ds)
      (member_run ds d) edge (own_names d) (omega arith) (λ k l. omega (arith, (r.within k l).name)) in
      rw (members_more ds d, names_more ds d) (rw (own, parts) r.def)

  stays_within : (k : ℕ) → k < length x.parts
      → RowWithin (members_table (ds ++ d ∷ [])) i (r.at + length (own_names x)) (r.row + k)
  stays_within k l =
      let after = 8 * members_of ds in
      let name = name_stays (members_table ds) after (member_run ds d) (r.row + k) (inl (omega arith)) in
      let member = member_stays (members_table ds) after (member_run ds d) (r.row + k) (inl (omega arith)) in
      rw (members_more ds d)
      record { name = rw name (r.within k l).name; earlier = rw member (r.within k l).earlier }

  row_stays : RowShown (ds ++ d ∷ []) i x
  row_stays =
      record {
        at = r.at;
        row = r.row;
        head = stays_head;
        word = stays_word;
        def = stays_def;
        bytes = omega (arith, long_snoc ds d);
        rows = omega (arith, members_of_snoc ds d);
        within = stays_within;
        parts = r.parts;
        id = r.id;
        used = r.used;
      }

-- its own row shows it
module _ (ds : List Def) (d : Def) (f : FitsRegistry ds d) where
  own_head : type_at (types_table (ds ++ d ∷ [])) (length ds) ≡ head_of (length (name_bytes_of ds)) (members_of ds) d
  own_head =
      rw (types_more ds d)
      (type_back (types_table ds) (length ds) (omega (arith, types_long ds))
      record { id = omega (arith, f.id); handle = f.handle })

  own_word : id_word (types_table (ds ++ d ∷ [])) (length ds) ≡ d.id
  unfolding type_row
  own_word =
      rw (types_more ds d)
      (get_d_sets (types_table ds) (8 * length ds) (type_run ds d) 2 0 (omega (arith, types_long ds)) (omega arith))

  own_def : def_of (members_table (ds ++ d ∷ [])) (names_table (ds ++ d ∷ []))
      (head_of (length (name_bytes_of ds)) (members_of ds) d)
      ≡ d
  own_def =
      rw (members_more ds d, names_more ds d)
      (def_back (members_table ds) (names_table ds) (members_of ds) (length (name_bytes_of ds)) (length ds) d
      (omega (arith, members_long ds)) (omega (arith, names_long ds)) f.parts)

  own_within : (k : ℕ) → k < length d.parts
      → RowWithin (members_table (ds ++ d ∷ [])) (length ds)
      (length (name_bytes_of ds) + length (own_names d)) (members_of ds + k)
  own_within k l =
      let e : length (name_bytes_of ds) + length (own_names d)
      ≡ length (name_bytes_of ds) + length d.name + length (names_of d.parts) =
      omega (arith, length-append d.name (names_of d.parts)) in
      rw (members_more ds d, e)
      (rows_within (members_table ds) (members_of ds) (length (name_bytes_of ds) + length d.name) (length ds) d.parts
      (omega (arith, members_long ds)) f.parts k l)

  own_row : RowShown (ds ++ d ∷ []) (length ds) d
  own_row =
      record {
        at = length (name_bytes_of ds);
        row = members_of ds;
        head = own_head;
        word = own_word;
        def = own_def;
        bytes = omega (arith, long_snoc ds d);
        rows = omega (arith, members_of_snoc ds d);
        within = own_within;
        parts = f.parts;
        id = f.id;
        used = f.used;
      }

-- one type more is shown beside the others
pub shown_more : (ds : List Def) (d : Def) → TablesShow ds → FitsRegistry ds d → TablesShow (ds ++ d ∷ [])
shown_more ds d s f =
    let long = length_snoc ds d in
    record {
      few = omega arith;
      members = omega (arith, members_of_snoc ds d);
      bytes = omega (arith, long_snoc ds d);
      rows = each_more (RowShown (ds ++ d ∷ [])) ds d (λ i h. row_stays ds d i (get_or ds i no_def) h (s.rows i h))
          (own_row ds d f);
      unused = id_after (ds ++ d ∷ []);
      blank = word_none (ds ++ d ∷ []);
    }

-- ---- what follows

-- values by their numbers that are those of a list's elements
list_map : {A B : Type 0} (f : ℕ → B) (g : A → B) (l : List A) (z : A) (i : ℕ)
    → ((k : ℕ) → k < length l → f (i + k) ≡ g (get_or l k z)) → list_from f i (length l) ≡ map g l
unfolding list_from
list_map f g [] z i h = refl
list_map {A} f g (x ∷ l) z i h =
    let e : f i ≡ g x = rw add-zero at (h 0 (omega arith)) in
    rw (e, list_map f g l z (i + 1) later)
  where
    later : (k : ℕ) → k < length l → f (i + 1 + k) ≡ g (get_or l k z)
    later k o =
        let e : i + 1 + k ≡ i + suc k = omega arith in
        rw e (h (suc k) (omega arith))

map_same : {B : Type 0} (f : ℕ → B) (g : Def → B) (ds : List Def)
    → ((k : ℕ) → k < length ds → f k ≡ g (get_or ds k no_def)) → list_from f 0 (length ds) ≡ map g ds
map_same f g ds h = list_map f g ds no_def 0 (λ k l. rw zero-add (h k l))

-- the name in a row is the type's
pub name_same : (ds : List Def) (i : ℕ) (d : Def) → RowShown ds i d
    → row_name (types_table ds) (names_table ds) i ≡ d.name
unfolding def_of
name_same ds i d r = rw r.head (ap (λ (x : Def). x.name) r.def)

-- the size in a row is the type's
pub sizes_same : (ds : List Def) → TablesShow ds → (k : ℕ) → k < length ds
    → sizes_in (types_table ds) k ≡ (get_or ds k no_def).size
sizes_same ds s k l = ap (λ (h : StructDef). h.size) (s.rows k l).head

-- the view of the tables is the view of the registry that they show
pub view_same : (ds : List Def) → TablesShow ds → view_in (types_table ds) (names_table ds) (used_by ds) ≡ view_of ds
unfolding view_in view_of
view_same ds s =
    let names = map_same (row_name (types_table ds) (names_table ds)) (λ d. d.name) ds
    (λ k l. name_same ds k (get_or ds k no_def) (s.rows k l)) in
    let ids = map_same (id_word (types_table ds)) (λ d. d.id) ds (λ k l. (s.rows k l).word) in
    let sizes = map_same (sizes_in (types_table ds)) (λ d. d.size) ds (sizes_same ds s) in
    rw (names, ids, sizes)

-- the types' names lie among the names
pub names_inside : (ds : List Def) → TablesShow ds → NamesInside (types_table ds) (names_table ds) (length ds)
names_inside ds s = record { few = s.few; inside = inside }
  where
    inside : (i : ℕ) → i < length ds
        → (type_at (types_table ds) i).name.at + (type_at (types_table ds) i).name.long ≤ length (names_table ds)
    inside i l =
        let d = get_or ds i no_def in
        let r = s.rows i l in
        rw (r.head, names_long ds) (omega (arith, r.bytes, s.bytes, length-append d.name (names_of d.parts)))

-- ids are small: of the types, as words, and of all rows
pub ids_small : (ds : List Def) → TablesShow ds → (k : ℕ) → k < length ds → id_word (types_table ds) k < 65536
ids_small ds s k l = rw (s.rows k l).word (omega (arith, (s.rows k l).id))

-- the id in each of the 200 rows is below 0x1000
pub ids_fit : (ds : List Def) → TablesShow ds → (n : ℕ) → n < most_types → (type_at (types_table ds) n).id < 0x1000
ids_fit ds s n l = go (dec_lt n (length ds))
  where
    go : Dec (n < length ds) → (type_at (types_table ds) n).id < 0x1000
    go (yes h) = rw (s.rows n h).head (s.rows n h).id
    go (no h) = omega (arith, s.unused n (omega (arith, h)))

-- the row of a type can be read
pub row_readable : (ds : List Def) → TablesShow ds → (i : ℕ) → i < length ds
    → Readable (members_table ds) (type_at (types_table ds) i)
row_readable ds s i l =
    let d = get_or ds i no_def in
    let r = s.rows i l in
    let long = length-append d.name (names_of d.parts) in
    rw r.head
    (record {
      name = omega (arith, r.bytes, s.bytes);
      rows = omega (arith, r.rows, s.members);
      names = λ k o. omega (arith, (r.within k o).name, r.bytes, s.bytes);
      types = λ k o. within_fits (omega (arith, s.few)) (r.within k o);
    })
