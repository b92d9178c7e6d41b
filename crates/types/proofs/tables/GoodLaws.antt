-- What every caller may count on in the tables of a registry that our own calls made (document 01, "What promises shut
-- out"): each type can be read, counted and listed, is laid out well, is a string where its kind says so, and has good
-- names. No two hold the same id or have the same name. The rows after them are zero.
use Rattle.std.specs.Prelude.{None}
use Prim.Native.Nat.{ℕ, zero, suc, ◌+◌, ◌*◌, ◌^◌, ◌<◌, ◌≤◌}
use native.Mathlib.Nat.{add-zero}
use native.Mathlib.Omega.{arith}
use mathlib.Core.Path.{◌≡◌, refl, sym, ap, ◌∙◌}
use mathlib.Core.Bool.{true, false}
use mathlib.Core.List.{List, [], ◌∷◌, map}
use lib.ListN.{length, get_or, drop, length-append}
use Rattle.words.proofs.Lists.{length_part}
use Rattle.types.specs.atomics.Lookup.{row_name}
use Rattle.types.specs.book.Names.{same_name, good_name}
use Rattle.types.specs.inside.atomics.Lookup.{NamesInside}
use Rattle.types.specs.inside.listing.Lines.{Short, TypeNamed, Listable}
use Rattle.types.specs.inside.tables.Lent.{no_type}
use Rattle.types.specs.inside.templates.Waste.{Countable}
use Rattle.types.specs.layout.Laid.{Earlier, Lies, Laid}
use Rattle.types.specs.layout.Placing.{most_size, times}
use Rattle.types.specs.layout.Structs.{names_of, string_parts}
use Rattle.types.specs.tables.Defs.{Part, Def, name_in, part_at, parts_at, def_of}
use Rattle.types.specs.tables.Lent.{kind_of_word, member_at, name_at, type_at}
use Rattle.types.specs.tables.Limits.{most_names}
use Rattle.types.specs.tables.Registry.{types_table, members_table, names_table, type_count}
use Rattle.types.specs.tables.Sizes.{size_in, sizes_in, bits_of}
use Rattle.types.specs.declared.tables.member.Member.{Member}
use Rattle.types.specs.declared.tables.member.StructDef.{StructDef}
use Rattle.types.specs.declared.tables.member.StructKind.TheVariants.{Str}
use Rattle.types.specs.declared.tables.member.Ty.{Ty}
use Rattle.types.specs.declared.tables.member.Ty.TheVariants.{Atomic, Struct}
use Rattle.types.proofs.adding.AddLaws.{every_nth}
use Rattle.types.proofs.book.NameLaws.{name_rule}
use Rattle.types.proofs.layout.LaidLaws.{part_lies}
use Rattle.types.proofs.layout.PartLaws.{Formed, PartFormed}
use Rattle.types.proofs.layout.StringLaws.{StringRow, string_bytes}
use Rattle.types.proofs.rounds.RoundsKeep.{Good}
use Rattle.types.proofs.tables.CountLaws.{count_of}
use Rattle.types.proofs.tables.ProperLaws.{FirstFour}
use Rattle.types.proofs.tables.RegistryLaws.{names_long, word_after}
use Rattle.types.proofs.tables.ShownLaws.{no_def, RowShown, name_same, sizes_same, names_inside, row_readable}
use Rattle.types.proofs.tables.WellLaws.{sizes_of, laid_same}
use Rattle.types.proofs.templates.TemplateLaws.{parts_long}

-- ---- parts by their numbers

no_part : Part
no_part = part_at [] [] 0

parts_nth : (m n : List ℕ) (row count k : ℕ) → k < count
    → get_or (parts_at m n row count) k no_part ≡ part_at m n (row + k)
unfolding parts_at
parts_nth m n row zero k l = absurd (let z : ⊥ = omega arith in z)
parts_nth m n row (suc count) zero l = let e : row + 0 ≡ row = omega arith in rw e
parts_nth m n row (suc count) (suc k) l =
    let e : row + suc k ≡ row + 1 + k = omega arith in
    rw e (parts_nth m n (row + 1) count k (omega arith))

-- each row of a structure that is laid out well lies in it
pub row_lies : (sizes : ℕ → ℕ) (i size : ℕ) (m n : List ℕ) (row count k : ℕ)
    → Laid sizes i size (parts_at m n row count)
    → k < count → Lies sizes i size (member_at m (row + k)) (drop (suc k) (parts_at m n row count))
unfolding part_at
row_lies sizes i size m n row count k laid l =
    let e = ap (λ (p : Part). p.member) (parts_nth m n row count k l) in
    rw e at (part_lies sizes i size no_part (parts_at m n row count) k laid (omega (arith, parts_long m n row count)))

-- a member's row: its name follows the rule, and it stands as it should
pub record MemberRow (members names : List ℕ) (row : ℕ) : Type 0 where
  pub name : good_name (name_in names (name_at members row)) ≡ true
  pub formed : Formed (member_at members row)

-- ---- one type of the registry

module _ (ds : List Def) (g : Good ds) where
  abbrev types : List ℕ
  types = types_table ds

  abbrev members : List ℕ
  members = members_table ds

  abbrev names : List ℕ
  names = names_table ds

  -- so many types stand in the tables
  pub good_count : type_count types ≡ length ds
  good_count =
      let s = g.shown in
      count_of types (length ds) s.few
      (λ i l e. (s.rows i l).used (sym (s.rows i l).word ∙ e))
      (λ l. s.blank (length ds) (omega arith))

  -- the names of all types there are lie among the names
  pub good_inside : NamesInside types names (type_count types)
  good_inside = rw good_count (names_inside ds g.shown)

  -- the rows after them are zero
  pub good_unused : (i : ℕ) → length ds ≤ i → type_at types i ≡ no_type
  unfolding type_at kind_of_word
  good_unused i l =
      let word : (k : ℕ) → get_or types (8 * i + k) 0 ≡ 0 = λ k. word_after ds (8 * i + k) (omega arith) in
      let first : get_or types (8 * i) 0 ≡ 0 = rw add-zero at (word 0) in
      rw (first, word 1, word 2, word 3, word 4, word 5, word 6, word 7)

  module _ (i j : ℕ) (l : i < j) (h : j < length ds) where
    -- no two types hold the same id
    pub good_ids_apart : (type_at types i).id ≡ (type_at types j).id → ⊥
    good_ids_apart =
        let r = g.shown.rows i (omega arith) in
        rw (r.head, (g.shown.rows j h).head) (g.unlike i j l h).id

    -- and no two have the same name
    pub good_names_apart : same_name (row_name types names i) (row_name types names j) ≡ false
    good_names_apart =
        let e = name_same ds i (get_or ds i no_def) (g.shown.rows i (omega arith)) in
        rw (e, name_same ds j (get_or ds j no_def) (g.shown.rows j h)) (g.unlike i j l h).name

  module _ (i : ℕ) (l : i < length ds) where
    abbrev d : Def
    d = get_or ds i no_def

    abbrev r : RowShown ds i d
    r = g.shown.rows i l

    parts_are : parts_at members names r.row (length d.parts) ≡ d.parts
    unfolding def_of
    parts_are = ap (λ (x : Def). x.parts) r.def

    part_is : (k : ℕ) → k < length d.parts → part_at members names (r.row + k) ≡ get_or d.parts k no_part
    part_is k h =
        sym (parts_nth members names r.row (length d.parts) k h)
        ∙ ap (λ (ps : List Part). get_or ps k no_part) parts_are

    sizes_are : (k : ℕ) → k < i → sizes_of ds k ≡ sizes_in types k
    sizes_are k h = go ds k (omega arith) ∙ sym (sizes_same ds g.shown k (omega arith))
      where
        go : (xs : List Def) (j : ℕ) → j < length xs
            → get_or (map (λ (x : Def). x.size) xs) j 0 ≡ (get_or xs j no_def).size
        go [] j q = absurd (let z : ⊥ = omega arith in z)
        go (x ∷ xs) zero q = refl
        go (x ∷ xs) (suc j) q = go xs j (omega arith)

    def_laid : Laid (sizes_in types) i d.size d.parts
    def_laid = laid_same (sizes_of ds) (sizes_in types) i sizes_are d.size d.parts (g.well i l).laid

    -- its rows are laid out well
    pub good_laid : Laid (sizes_in types) i (type_at types i).size
        (parts_at members names (type_at types i).first (type_at types i).count)
    good_laid = rw (r.head, parts_are) def_laid

    -- the row of a type holds an id
    pub good_used : (type_at types i).id ≡ 0 → ⊥
    good_used = rw r.head r.used

    -- its row holds its id
    pub good_id : (type_at types i).id ≡ d.id
    good_id = ap (λ (h : StructDef). h.id) r.head

    -- its row holds its kind
    pub good_kind : (type_at types i).kind ≡ d.kind
    good_kind = ap (λ (h : StructDef). h.kind) r.head

    -- it is at most 2^26 + 224 bytes long
    pub good_most : (type_at types i).size ≤ most_size + 224
    good_most = rw r.head (g.well i l).most

    member_is : (k : ℕ) → k < length d.parts → member_at members (r.row + k) ≡ (get_or d.parts k no_part).member
    unfolding part_at
    member_is k h = ap (λ (p : Part). p.member) (part_is k h)

    -- LEN and DATA, where its kind says so
    pub good_string : (type_at types i).kind ≡ Str → StringRow members (type_at types i)
    unfolding string_parts
    good_string e =
        let s = (g.well i l).string (sym good_kind ∙ e) in
        let two : length d.parts ≡ 2 = ap (λ (ps : List Part). length ps) s.rows in
        let part : (k : ℕ) → k < 2
        → member_at members (r.row + k) ≡ (get_or (string_parts s.capacity) k no_part).member =
        λ k h. member_is k (omega arith) ∙ ap (λ (ps : List Part). (get_or ps k no_part).member) s.rows in
        rw r.head
        (record {
          capacity = s.capacity;
          count = two;
          len = rw add-zero at (part 0 (omega arith));
          chars = part 1 (omega arith);
          size = s.bytes ∙ string_bytes s.capacity;
        })

    small : (m : Member) (rest : List Part) → Lies (sizes_in types) i d.size m rest → m.bit ≡ None
        → size_in (sizes_in types) m.ty * times m.count ≤ 2 ^ 28
    small m rest w b =
        let e : bits_of (sizes_in types) m.bit m ≡ 8 * (size_in (sizes_in types) m.ty * times m.count) = rw b in
        omega (arith, w.inside, e, (g.well i l).most)

    pub good_countable : Countable types members (type_at types i)
    good_countable =
        record {
          rows = row_readable ds g.shown i l;
          small = rw r.head
              (λ k h b. small (member_at members (r.row + k)) (drop (suc k) d.parts)
              (rw (member_is k h) (part_lies (sizes_in types) i d.size no_part d.parts k def_laid h)) b);
        }

    -- ---- its names

    -- its name follows the rule
    pub good_name_lem : good_name (row_name types names i) ≡ true
    good_name_lem = rw (name_same ds i d r) (g.proper i l).name

    -- and is a predefined type's in the first four rows, its kind too
    pub good_first : i < 4 → FirstFour i (row_name types names i) (type_at types i).kind
    good_first = rw (name_same ds i d r, good_kind) (g.proper i l).first

    part_formed : (k : ℕ) → k < length d.parts → PartFormed (part_at members names (r.row + k))
    part_formed k h = rw (part_is k h) (every_nth PartFormed no_part d.parts k (g.proper i l).parts h)

    -- and its members stand as they should, under names that follow it
    pub good_members : (k : ℕ) → k < (type_at types i).count → MemberRow members names ((type_at types i).first + k)
    unfolding part_at
    good_members =
        rw r.head (λ k h. record { name = (part_formed k h).name; formed = (part_formed k h).member })

    name_short : Short (type_at types i).name
    name_short =
        let h = r.head in
        record {
          inside = rw h (omega (arith, r.bytes, g.shown.bytes, length-append d.name (names_of d.parts)));
          most = rw h (omega (arith, (name_rule d.name (g.proper i l).name).most));
        }

    member_short : (k : ℕ) → k < length d.parts → Short (name_at members (r.row + k))
    unfolding part_at
    member_short k h =
        let w = r.within k h in
        let inside : (name_at members (r.row + k)).at + (name_at members (r.row + k)).long ≤ most_names
        = omega (arith, w.name, r.bytes, g.shown.bytes) in
        let long = length_part names (name_at members (r.row + k)).at (name_at members (r.row + k)).long
        (omega (arith, inside, names_long ds)) in
        record {
          inside = inside;
          most = omega (arith, long, (name_rule _ (part_formed k h).name).most);
        }

module _ (ds : List Def) (g : Good ds) where
  type_named : (i : ℕ) → i < length ds → (t : Ty) → Earlier i t → TypeNamed (types_table ds) t
  type_named i l (Atomic a) e = tt
  type_named i l (Struct n) e =
      record { row = omega (arith, g.shown.few); name = name_short ds g n (omega arith) }

  -- each type can be listed
  pub good_listable : (i : ℕ) → i < length ds
      → Listable (types_table ds) (members_table ds) (type_at (types_table ds) i)
  good_listable i l =
      let r = g.shown.rows i l in
      record {
        rows = good_countable ds g i l;
        name = name_short ds g i l;
        names = rw r.head (λ k h. member_short ds g i l k h);
        tys = rw r.head (λ k h. type_named i l (member_at (members_table ds) (r.row + k)).ty
            (r.within k h).earlier);
      }
