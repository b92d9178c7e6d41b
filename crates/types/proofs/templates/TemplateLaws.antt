-- Laws of a template's pieces (document 01, "Template and handle"): a piece's first part and the rest, as the functions
-- send them, and how long each piece can be.
use Prim.Native.Nat.{ℕ, zero, suc, ◌+◌, ◌-◌, ◌*◌, ◌/◌, ◌%◌, ◌≤◌, ◌<◌}
use native.Mathlib.Nat.{add-zero}
use native.Mathlib.Omega.{arith}
use mathlib.Core.Path.{◌≡◌, refl, ap}
use mathlib.Core.Bool.{Bool, true, false, cond}
use mathlib.Core.List.{List, [], ◌∷◌, ◌++◌}
use borrow.Author.Tests.{le-leb, lt-leb}
use lib.Dec.{leb}
use lib.ListN.{length, replicate, take, length-append, length-replicate}
use lib.Seq.{sets}
use Rattle.words.specs.Words.{bytes_of}
use Rattle.words.proofs.WordLaws.{length_bytes, bytes_low}
use Rattle.words.proofs.Lists.{part_most, take_replicate}
use Rattle.types.specs.inside.tables.Defs.{Readable}
use Rattle.types.specs.inside.tables.Lent.{TyFits}
use Rattle.types.specs.inside.templates.Pieces.{shown_in}
use Rattle.types.specs.inside.templates.Sink.{Emitted}
use Rattle.types.specs.tables.Defs.{Part, part_at, parts_at, name_in}
use Rattle.types.specs.tables.Lent.{member_at, name_at}
use Rattle.types.specs.tables.Limits.{most_members, most_names}
use Rattle.types.specs.tables.TypeWord.{type_in}
use Rattle.types.specs.templates.Template.{info_of, info_bytes, infos, user_id, semicolon_n, ascii_string82, shown_name}
use Rattle.types.specs.templates.Template.{member_names, padding, member_ids}
use Rattle.types.specs.declared.tables.member.Member.{Member}
use Rattle.types.specs.declared.tables.member.Span.{Span}
use Rattle.types.specs.declared.tables.member.StructDef.{StructDef}
use Rattle.types.specs.declared.tables.member.StructKind.{StructKind}
use Rattle.types.specs.declared.tables.member.StructKind.TheVariants.{Udt, Predefined, Str, Aoi}
use Rattle.types.specs.declared.templates.sink.Sink.{Sink}
use Rattle.types.proofs.templates.SinkLaws.{PiecesLeft, left_on}

-- ---- one member

-- three stores in eight bytes are a member's info
pub info_bytes_lem : (ids : ℕ → ℕ) (m : Member) {x y : ℕ} → x ≡ info_of m.bit m.count → y ≡ type_in ids m.ty % 65536
    → sets (sets (sets (replicate 8 0) 0 (bytes_of 2 x)) 2 (bytes_of 2 y)) 4 (bytes_of 4 m.offset) ≡ info_bytes ids m
unfolding info_bytes
info_bytes_lem ids m p q =
    rw (p, q, bytes_low 2 (type_in ids m.ty)) (whole (info_of m.bit m.count) (type_in ids m.ty) m.offset)
  where
    whole : (a b c : ℕ) → sets (sets (sets (replicate 8 0) 0 (bytes_of 2 a)) 2 (bytes_of 2 b)) 4 (bytes_of 4 c)
        ≡ bytes_of 2 a ++ (bytes_of 2 b ++ bytes_of 4 c)
    whole a b c = unfold bytes_of in refl

-- ---- a row of a structure

-- a row of a structure that can be read
module _ {members : List ℕ} {d : StructDef} {row : ℕ} (l : d.first ≤ row) (h : row < d.first + d.count)
    (r : Readable members d) where
  -- the row lies in the table of members
  pub row_inside : row < most_members
  row_inside = omega (arith, r.rows)

  nth : d.first + (row - d.first) ≡ row
  nth = omega arith

  -- the name in the row lies inside the names
  pub row_name : (names : List ℕ) → length names ≡ most_names
      → (name_at members row).at + (name_at members row).long ≤ length names
  row_name names e = rw e (rw nth at (r.names (row - d.first) (omega arith)))

  -- the type in the row is an atomic or a structure with a number below 200
  pub row_type : TyFits (member_at members row).ty
  row_type = rw nth at (r.types (row - d.first) (omega arith))

-- ---- the first of what is left

module _ (members names : List ℕ) (row end : ℕ) (h : row < end) where
  -- the parts of the rows that are left are that of the next row, then those of the rows after it
  pub parts_on : parts_at members names row (end - row)
      ≡ part_at members names row ∷ parts_at members names (row + 1) (end - (row + 1))
  unfolding parts_at
  parts_on =
      let e : end - row ≡ suc (end - (row + 1)) = omega arith in
      rw e

  -- the infos of the rows that are left are that of the next row, then those of the rows after it
  pub infos_on : (ids : ℕ → ℕ) → infos ids (parts_at members names row (end - row))
      ≡ info_bytes ids (member_at members row) ++ infos ids (parts_at members names (row + 1) (end - (row + 1)))
  unfolding infos part_at
  infos_on ids = rw parts_on

  -- the names of the rows that are left are that of the next row with its 0, then those of the rows after it
  pub names_on : member_names (parts_at members names row (end - row))
      ≡ name_in names (name_at members row)
      ++ (0 ∷ member_names (parts_at members names (row + 1) (end - (row + 1))))
  unfolding member_names part_at
  names_on = rw parts_on

  -- after a name its 0 is left
  pub name_came : {whole out left last : List ℕ} {k m r : Sink} {s : Span} → s ≡ name_at members row
      → PiecesLeft whole k out (member_names (parts_at members names row (end - row))) m left
      → Emitted (name_in names s) m left r last
      → PiecesLeft whole k out (0 ∷ member_names (parts_at members names (row + 1) (end - (row + 1)))) r last
  name_came e l c = left_on _ names_on l (rw e at c)

-- the member ids that are left are that of the next member, then those of the members after it
pub ids_on : (n i : ℕ) → i < n → member_ids i (n - i) ≡ bytes_of 2 (0xE000 + i) ++ member_ids (i + 1) (n - (i + 1))
unfolding member_ids
ids_on n i h =
    let e : n - i ≡ suc (n - (i + 1)) = omega arith in
    rw e

-- ---- nothing is left

-- where no row is left there are no parts
pub parts_off : (members names : List ℕ) (row end : ℕ) → end ≤ row → parts_at members names row (end - row) ≡ []
unfolding parts_at
parts_off members names row end h =
    let e : end - row ≡ 0 = omega arith in
    rw e

-- where no row is left there are no infos
pub infos_off : (ids : ℕ → ℕ) (members names : List ℕ) (row end : ℕ) → end ≤ row
    → infos ids (parts_at members names row (end - row)) ≡ []
unfolding infos
infos_off ids members names row end h = rw (parts_off members names row end h)

-- where no row is left there are no member names
pub names_off : (members names : List ℕ) (row end : ℕ) → end ≤ row
    → member_names (parts_at members names row (end - row)) ≡ []
unfolding member_names
names_off members names row end h = rw (parts_off members names row end h)

-- where no member is left there are no member ids
pub ids_off : (n i : ℕ) → n ≤ i → member_ids i (n - i) ≡ []
unfolding member_ids
ids_off n i h =
    let e : n - i ≡ 0 = omega arith in
    rw e

-- ---- what a structure's rows give

-- the infos are the same whatever the names are
pub infos_any : (ids : ℕ → ℕ) (members names other : List ℕ) (row n : ℕ)
    → infos ids (parts_at members names row n) ≡ infos ids (parts_at members other row n)
unfolding infos parts_at part_at
infos_any ids members names other row zero = refl
infos_any ids members names other row (suc n) =
    ap (λ (l : List ℕ). info_bytes ids (member_at members row) ++ l) (infos_any ids members names other (row + 1) n)

-- the padding is as many of three zeros as a length lacks to a multiple of 4
pub zeros_padding : (n : ℕ) → take {A = ℕ} ((n + 3) / 4 * 4 - n) (replicate 3 0) ≡ padding n
unfolding padding
zeros_padding n = take_replicate ((n + 3) / 4 * 4 - n) 3 0 (omega arith)

-- the padding is as long as what a length lacks to a multiple of 4
pub padding_count : (n : ℕ) → length (padding n) ≡ (n + 3) / 4 * 4 - n
unfolding padding
padding_count n = length-replicate ((n + 3) / 4 * 4 - n) 0

-- ---- the shown name

module _ (names : List ℕ) (d : StructDef) where
  -- a UDT is shown by its name and `;n`
  pub shown_udt : d.kind ≡ Udt → shown_in names d ≡ name_in names d.name ++ semicolon_n
  unfolding shown_name
  shown_udt e = rw e

  -- a predefined type is shown by its bare name
  pub shown_bare : d.kind ≡ Predefined → shown_in names d ≡ name_in names d.name
  unfolding shown_name
  shown_bare e = rw e

  -- an AOI is shown by its name and `;n`
  pub shown_aoi : d.kind ≡ Aoi → shown_in names d ≡ name_in names d.name ++ semicolon_n
  unfolding shown_name
  shown_aoi e = rw e

  module _ (e : d.kind ≡ Str) {user : Bool} (p : user ≡ user_id d.id) where
    -- a string with a user's id is shown by its name and `;n`
    pub shown_string : user ≡ true → shown_in names d ≡ name_in names d.name ++ semicolon_n
    unfolding shown_name
    shown_string q = rw (e, ← p, q)

    -- a string without a user's id is shown as `ASCIISTRING82`
    pub shown_ascii : user ≡ false → shown_in names d ≡ ascii_string82
    unfolding shown_name
    shown_ascii q = rw (e, ← p, q)

-- the name of each kind
pub ruleset shown = (shown_udt, shown_bare, shown_aoi, shown_string, shown_ascii)

-- ---- ids of a book's types

-- an id below 0x100 is not a user's
pub id_below : (id : ℕ) → id < 0x100 → false ≡ user_id id
unfolding user_id
id_below id h = simp (lt-leb 0x100 id h)

-- an id of 0x100 or above is a user's just where it is at most 0xEFF
pub id_within : (id : ℕ) → 0x100 ≤ id → leb id 0xEFF ≡ user_id id
unfolding user_id
id_within id h = simp (le-leb 0x100 id h)

-- ---- how long a template can be

-- n rows have n parts
pub parts_long : (members names : List ℕ) (row n : ℕ) → length (parts_at members names row n) ≡ n
unfolding parts_at
parts_long members names row zero = refl
parts_long members names row (suc n) = ap suc (parts_long members names (row + 1) n)

-- the infos have eight bytes for each part
pub infos_long : (ids : ℕ → ℕ) (ps : List Part) → length (infos ids ps) ≡ 8 * length ps
unfolding infos info_bytes
infos_long ids [] = refl
infos_long ids (p ∷ ps) = simp (length-append, length_bytes) (omega (arith, infos_long ids ps))

-- the member ids have two bytes for each member
pub ids_long : (i n : ℕ) → length (member_ids i n) ≡ 2 * n
unfolding member_ids
ids_long i zero = refl
ids_long i (suc n) = simp (length-append, length_bytes) (omega (arith, ids_long (i + 1) n))

-- the padding has at most three bytes
pub padding_long : (n : ℕ) → length (padding n) ≤ 3
padding_long n = omega (arith, padding_count n)

-- a type is shown by at most 13 bytes more than its name has
pub shown_long : (k : StructKind) (id : ℕ) (s : List ℕ) → length (shown_name k id s) ≤ length s + 13
unfolding shown_name
shown_long Udt id s = simp length-append (omega arith)
shown_long Predefined id s = omega arith
shown_long Str id s = by_id (user_id id)
  where
    by_id : (b : Bool) → length (cond b (s ++ semicolon_n) ascii_string82) ≤ length s + 13
    by_id true = simp length-append (omega arith)
    by_id false = omega arith
shown_long Aoi id s = simp length-append (omega arith)

-- the names of n rows of at most 32,768 bytes each have, with their zeros, at most 32,769 bytes a row
pub names_long : (members names : List ℕ) (row n : ℕ)
    → ((k : ℕ) → k < n → (name_at members (row + k)).long ≤ most_names)
    → length (member_names (parts_at members names row n)) ≤ 32769 * n
unfolding member_names parts_at part_at
names_long members names row zero h = omega arith
names_long members names row (suc n) h =
    let here : (name_at members row).long ≤ most_names = rw add-zero at (h 0 (omega arith)) in
    let rest : length (member_names (parts_at members names (row + 1) n)) ≤ 32769 * n =
    names_long members names (row + 1) n
    (λ k l.
    let e : row + 1 + k ≡ row + (k + 1) = omega arith in
    rw e (h (k + 1) (omega arith))) in
    simp length-append (omega (arith, here, rest, part_most names (name_at members row).at (name_at members row).long))
