-- Laws of the registry's tables (document 01, "Declaration book": the tables; "Order of building"): one type more is
-- its row after the rows, its members' rows after the members' rows, and its names after the names; and how long the
-- tables are.
use Rattle.std.specs.Prelude.{Ok}
use Prim.Native.Nat.{ℕ, ◌+◌, ◌*◌, ◌≤◌}
use native.Mathlib.Nat.{add-zero, zero-add}
use native.Mathlib.Omega.{arith}
use mathlib.Core.Path.{◌≡◌, refl, sym, ap, ◌∙◌}
use mathlib.Core.List.{List, [], ◌∷◌, ◌++◌, append_assoc, append-nil}
use mathlib.Core.Logic.{inr}
use lib.ListN.{length, get_or, length-append, length-replicate}
use lib.Seq.{sets, length-sets}
use Rattle.words.proofs.Lists.{sets_append, get_d_beside, zero_at}
use Rattle.types.specs.adding.Add.{yes}
use Rattle.types.specs.inside.adding.Add.{Took}
use Rattle.types.specs.inside.tables.Registry.{used_by, used_more, Stands}
use Rattle.types.specs.layout.Structs.{rows_of}
use Rattle.types.specs.refusals.Said.{done}
use Rattle.types.specs.tables.Defs.{Def}
use Rattle.types.specs.tables.Lent.{type_row}
use Rattle.types.specs.tables.Limits.{most_names, type_words, member_words}
use Rattle.types.specs.tables.Registry.{own_names, members_of, name_bytes_of, head_of, type_rows, member_rows, no_types}
use Rattle.types.specs.tables.Registry.{no_members, no_names, types_table, members_table, names_table}
use Rattle.types.specs.declared.adding.used.Used.{Used}
use Rattle.types.proofs.layout.StoreLaws.{row_long}

-- ---- one type more: how many, and which rows

-- with one type more the registry is longer by one
pub length_snoc : (ds : List Def) (d : Def) → length (ds ++ d ∷ []) ≡ length ds + 1
length_snoc ds d = length-append ds (d ∷ [])

-- with one type more there are as many more members as it has parts
pub members_of_snoc : (ds : List Def) (d : Def) → members_of (ds ++ d ∷ []) ≡ members_of ds + length d.parts
unfolding members_of
members_of_snoc [] d = omega arith
members_of_snoc (x ∷ ds) d = omega (arith, members_of_snoc ds d)

pub bytes_of_snoc : (ds : List Def) (d : Def) → name_bytes_of (ds ++ d ∷ []) ≡ name_bytes_of ds ++ own_names d
unfolding name_bytes_of
bytes_of_snoc [] d = append-nil (own_names d)
bytes_of_snoc (x ∷ ds) d =
    ap (λ (l : List ℕ). own_names x ++ l) (bytes_of_snoc ds d)
    ∙ sym (append_assoc (own_names x) (name_bytes_of ds) (own_names d))

-- with one type more there are as many more bytes of names as its own have
pub long_snoc : (ds : List Def) (d : Def)
    → length (name_bytes_of (ds ++ d ∷ [])) ≡ length (name_bytes_of ds) + length (own_names d)
long_snoc ds d = rw (bytes_of_snoc ds d) (length-append (name_bytes_of ds) (own_names d))

type_rows_snoc : (at row : ℕ) (ds : List Def) (d : Def) → type_rows at row (ds ++ d ∷ [])
    ≡ type_rows at row ds ++ type_row (head_of (at + length (name_bytes_of ds)) (row + members_of ds) d)
unfolding type_rows name_bytes_of members_of
type_rows_snoc at row [] d = rw (add-zero at, add-zero row) (append-nil _)
type_rows_snoc at row (x ∷ ds) d =
    let e : at + length (own_names x) + length (name_bytes_of ds) ≡ at + length (own_names x ++ name_bytes_of ds) =
    omega (arith, length-append (own_names x) (name_bytes_of ds)) in
    let f : row + length x.parts + members_of ds ≡ row + (length x.parts + members_of ds) = omega arith in
    rw (append_assoc (type_row (head_of at row x)), ← e, ← f) (ap (λ (l : List ℕ). type_row (head_of at row x) ++ l)
    (type_rows_snoc (at + length (own_names x)) (row + length x.parts) ds d))

member_rows_snoc : (at : ℕ) (ds : List Def) (d : Def) → member_rows at (ds ++ d ∷ [])
    ≡ member_rows at ds ++ rows_of (at + length (name_bytes_of ds) + length d.name) d.parts
unfolding member_rows name_bytes_of
member_rows_snoc at [] d = rw add-zero (append-nil _)
member_rows_snoc at (x ∷ ds) d =
    let e : at + length (own_names x) + length (name_bytes_of ds) ≡ at + length (own_names x ++ name_bytes_of ds) =
    omega (arith, length-append (own_names x) (name_bytes_of ds)) in
    let first = rows_of (at + length x.name) x.parts in
    rw (append_assoc first, ← e) (ap (λ (l : List ℕ). first ++ l)
    (member_rows_snoc (at + length (own_names x)) ds d))

type_rows_long : (at row : ℕ) (ds : List Def) → length (type_rows at row ds) ≡ 8 * length ds
unfolding type_rows type_row
type_rows_long at row [] = refl
type_rows_long at row (d ∷ ds) =
    omega (arith, type_rows_long (at + length (own_names d)) (row + length d.parts) ds)

member_rows_long : (at : ℕ) (ds : List Def) → length (member_rows at ds) ≡ 8 * members_of ds
unfolding member_rows members_of
member_rows_long at [] = refl
member_rows_long at (d ∷ ds) =
    let own = rows_of (at + length d.name) d.parts in
    let rest = member_rows (at + length (own_names d)) ds in
    omega (
      arith,
      length-append own rest,
      row_long (at + length d.name) d.parts,
      member_rows_long (at + length (own_names d)) ds,
    )

-- ---- one type more: the tables

-- the types' table of one type more is the old one with its row stored after the others
pub types_more : (ds : List Def) (d : Def) → types_table (ds ++ d ∷ [])
    ≡ sets (types_table ds) (8 * length ds) (type_row (head_of (length (name_bytes_of ds)) (members_of ds) d))
unfolding types_table
types_more ds d =
    let e : 0 + length (type_rows 0 0 ds) ≡ 8 * length ds = omega (arith, type_rows_long 0 0 ds) in
    rw (type_rows_snoc 0 0 ds d, zero-add (length (name_bytes_of ds)), zero-add (members_of ds))
    (rw (← e) (sets_append no_types 0 (type_rows 0 0 ds) _))

-- the members' table of one type more is the old one with its members' rows stored after the others
pub members_more : (ds : List Def) (d : Def) → members_table (ds ++ d ∷ [])
    ≡ sets (members_table ds) (8 * members_of ds) (rows_of (length (name_bytes_of ds) + length d.name) d.parts)
unfolding members_table
members_more ds d =
    let e : 0 + length (member_rows 0 ds) ≡ 8 * members_of ds = omega (arith, member_rows_long 0 ds) in
    rw (member_rows_snoc 0 ds d, zero-add) (rw (← e) (sets_append no_members 0 (member_rows 0 ds) _))

-- the names of one type more are the old ones with its own stored after them
pub names_more : (ds : List Def) (d : Def)
    → names_table (ds ++ d ∷ []) ≡ sets (names_table ds) (length (name_bytes_of ds)) (own_names d)
unfolding names_table
names_more ds d =
    let e : 0 + length (name_bytes_of ds) ≡ length (name_bytes_of ds) = omega arith in
    rw (bytes_of_snoc ds d) (sets_append no_names 0 (name_bytes_of ds) (own_names d)
    ∙ ap (λ (k : ℕ). sets (sets no_names 0 (name_bytes_of ds)) k (own_names d)) e)

-- and how much of them is used
pub used_more_lem : (ds : List Def) (d : Def) → used_by (ds ++ d ∷ []) ≡ used_more (used_by ds) d
used_more_lem ds d = rw (length_snoc ds d, members_of_snoc ds d, long_snoc ds d)

-- ---- how long the tables are

no_types_long : length no_types ≡ type_words
unfolding no_types
no_types_long = length-replicate {A = ℕ} type_words 0

no_members_long : length no_members ≡ member_words
unfolding no_members
no_members_long = length-replicate {A = ℕ} member_words 0

no_names_long : length no_names ≡ most_names
unfolding no_names
no_names_long = length-replicate {A = ℕ} most_names 0

-- the types' table has 1,600 words
pub types_long : (ds : List Def) → length (types_table ds) ≡ type_words
unfolding types_table
types_long ds = length-sets no_types 0 (type_rows 0 0 ds) ∙ no_types_long

-- the members' table has 16,000 words
pub members_long : (ds : List Def) → length (members_table ds) ≡ member_words
unfolding members_table
members_long ds = length-sets no_members 0 (member_rows 0 ds) ∙ no_members_long

-- the names have 32,768 bytes
pub names_long : (ds : List Def) → length (names_table ds) ≡ most_names
unfolding names_table
names_long ds = length-sets no_names 0 (name_bytes_of ds) ∙ no_names_long

-- ---- the words after the types' rows are zero

no_word : (k : ℕ) → get_or no_types k 0 ≡ 0
unfolding no_types
no_word k = zero_at type_words k

-- a word of the types' table after the rows of all types is zero
pub word_after : (ds : List Def) (k : ℕ) → 8 * length ds ≤ k → get_or (types_table ds) k 0 ≡ 0
unfolding types_table
word_after ds k l =
    get_d_beside no_types 0 (type_rows 0 0 ds) k 0 (inr (omega (arith, type_rows_long 0 0 ds))) ∙ no_word k

-- ---- tables that stand for a registry, with one type more

used_then : (u u' : Used) (d : Def) → done u' ≡ done (used_more u d) → u' ≡ used_more u d
used_then u u' d e = cc

-- where a type was added, the tables are those of the registry with that type at its end
pub stands_more : {ds : List Def} {t m n t' m' n' : List ℕ} {u u' : Used} (d : Def) → Stands ds t m n u
    → Took (yes d) u t m n t' m' n' (Ok u') → Stands (ds ++ d ∷ []) t' m' n' u'
stands_more {ds} {u = u} {u' = u'} d s k =
    record {
      types = k.types ∙ rw (s.types, s.used) (sym (types_more ds d));
      members = k.members ∙ rw (s.members, s.used) (sym (members_more ds d));
      names = k.names ∙ rw (s.names, s.used) (sym (names_more ds d));
      used = used_then u u' d k.is ∙ rw s.used (sym (used_more_lem ds d));
    }
