-- The code's two passes over a layout (document 01, "Layout"): what is measured, then what is stored; together they are
-- what is laid out. And what each step asks of the book and the tables.
use Rattle.std.specs.Prelude.{ℕ, ◌+◌, ◌*◌, ◌^◌, ◌<◌, ◌≤◌, Bool, true, false, List, [], ◌∷◌, ◌++◌, ◌≡◌, length}
use Rattle.std.specs.Prelude.{Option, Some, None, Result, Ok, Err}
use Rattle.std.proofs.lemmas.List.Edits.{sets}
use Rattle.types.specs.inside.book.Decls.{decl_at, decls_from, Found}
use Rattle.types.specs.inside.layout.Placing.{shared_bits, Able}
use Rattle.types.specs.inside.tables.Lent.{TyFits}
use Rattle.types.specs.layout.HostNames.{host_name, bit_host_name}
use Rattle.types.specs.layout.Placing.{most_size, placed}
use Rattle.types.specs.layout.Structs.{names_of, rows_of, named, named_in, udt_start, aoi_hosts, host_parts}
use Rattle.types.specs.layout.Structs.{enable_parts, aoi_start, bit_host_at, bools}
use Rattle.types.specs.tables.Defs.{Part, name_in}
use Rattle.types.specs.tables.Limits.{most_members, most_names}
use Rattle.types.specs.declared.adding.new_types.NewType.{NewType}
use Rattle.types.specs.declared.layout.placing.Cursor.{Cursor}
use Rattle.types.specs.declared.layout.placing.Decl.{Decl}
use Rattle.types.specs.declared.layout.placing.LayoutFault.{LayoutFault}
use Rattle.types.specs.declared.layout.placing.LayoutFault.TheVariants.{AccessWrong, TooFar}
use Rattle.types.specs.declared.layout.placing.Placed.{Placed}
use Rattle.types.specs.declared.layout.placing.Placed.TheVariants.{Hosted, One}
use Rattle.types.specs.declared.layout.store.StoreNext.{StoreNext}

-- ---- the parts, and how far they come

-- what a step adds: a host and the member, or the member alone
abbrev pub then_parts : Result Placed LayoutFault → List ℕ → List ℕ → (Cursor → List Part) → List Part
then_parts (Ok (Hosted h m c)) host name rest = named host h ∷ named name m ∷ rest c
then_parts (Ok (One m c)) host name rest = named name m ∷ rest c
then_parts (Err f) host name rest = []

-- the parts of the declared members from a cursor on: `name` gives a declared member's name, `host` a host's
unfoldable pub parts_from : (Decl → List ℕ) → (ℕ → List ℕ) → Cursor → List Decl → List Part
parts_from name host c [] = []
parts_from name host c (d ∷ ds) = then_parts (placed c d) (host c.members) (name d) (λ c'. parts_from name host c' ds)

-- how far a layout came, and how many bytes its names have; or the fault that it meets first
abbrev pub Measured : Type 0
Measured = Result (Cursor × ℕ) LayoutFault

abbrev pub came : Cursor → ℕ → Measured
came c n = Ok (c, n)

-- how far they come, after n bytes of names; or the first refusal
abbrev pub then_measure : Result Placed LayoutFault → ℕ → ℕ → ℕ → (Cursor → ℕ → Measured) → Measured
then_measure (Ok (Hosted h m c)) host name n rest = rest c (n + host + name)
then_measure (Ok (One m c)) host name n rest = rest c (n + name)
then_measure (Err AccessWrong) host name n rest = Err AccessWrong
then_measure (Err TooFar) host name n rest = Err TooFar

unfoldable pub measured : (ℕ → List ℕ) → Cursor → ℕ → List Decl → Measured
measured host c n [] = came c n
measured host c n (d ∷ ds) =
    then_measure (placed c d) (length (host c.members)) d.name.long n (λ c' n'. measured host c' n' ds)

unfoldable pub udt_parts : (Decl → List ℕ) → List ℕ → List Decl → List Part
udt_parts name type ds = parts_from name (host_name type) udt_start ds

unfoldable pub aoi_parts : (Decl → List ℕ) → List ℕ → List Decl → List Part
aoi_parts name type ds =
    host_parts 0 (aoi_hosts ds) ++ (enable_parts ++ parts_from name (host_name type) (aoi_start (aoi_hosts ds)) ds)

abbrev pub parts_of : Bool → (Decl → List ℕ) → List ℕ → List Decl → List Part
parts_of true name type ds = aoi_parts name type ds
parts_of false name type ds = udt_parts name type ds

-- an AOI's declared members, after the hosts' names and the 17 bytes of EnableIn and EnableOut
unfoldable pub measured_aoi : List ℕ → List Decl → Measured
measured_aoi type ds =
    measured (host_name type) (aoi_start (aoi_hosts ds)) (length (names_of (host_parts 0 (aoi_hosts ds))) + 17) ds

abbrev pub measured_of : Bool → List ℕ → List Decl → Measured
measured_of true type ds = measured_aoi type ds
measured_of false type ds = measured (host_name type) udt_start 0 ds

-- ---- one member of a measured layout

unfoldable pub measure_one : (ℕ → List ℕ) → Cursor → ℕ → Decl → Measured
measure_one host c n d = then_measure (placed c d) (length (host c.members)) d.name.long n (λ c' n'. came c' n')

-- what keeps the sums of one step inside 32 bits
pub record Near (c : Cursor) (n : ℕ) (d : Decl) : Type 0 where
  pub able : Able c d
  pub few : c.members < 1000000
  pub names : n ≤ 2 ^ 27
  pub name : d.name.long < 256

-- what every declared member of a book has
pub record Fair (d : Decl) : Type 0 where
  pub least : 0 < d.align
  pub most : d.align ≤ 4
  pub name : d.name.long < 256

-- how far a layout can have come after k members, with n bytes of names
pub record Far (k : ℕ) (c : Cursor) (n : ℕ) : Type 0 where
  pub offset : c.offset ≤ most_size + k
  pub members : c.members ≤ 2 * k
  pub bits : shared_bits c.host ≤ k
  pub names : n ≤ 300 * k

-- n declared members can be measured from a cursor that has come as far as k members can
pub record Measurable (book tys : List ℕ) (at n : ℕ) (c : Cursor) (names : ℕ) : Type 0 where
  pub found : Found book tys at n
  pub passed : ℕ
  pub few : passed + n ≤ 131072
  pub far : Far passed c names

-- ---- one member of a stored layout

-- the parts that one declared member becomes
unfoldable pub one_parts : List ℕ → List ℕ → Cursor → Decl → List Part
one_parts book type c d = then_parts (placed c d) (host_name type c.members) (name_in book d.name) (λ c'. [])

-- where the next member goes: the cursor, the row, and the place of its name; nothing is left where it was refused
abbrev pub then_next : Result Placed LayoutFault → ℕ → ℕ → ℕ → ℕ → Option StoreNext
then_next (Ok (Hosted h m c)) host name row at =
    Some (record { cursor = c; row = row + 2; place = at + host + name })
then_next (Ok (One m c)) host name row at = Some (record { cursor = c; row = row + 1; place = at + name })
then_next (Err f) host name row at = None

unfoldable pub stored_one : List ℕ → Cursor → Decl → ℕ → ℕ → Option StoreNext
stored_one type c d row at = then_next (placed c d) (length (host_name type c.members)) d.name.long row at

-- what one declared member's parts ask of the book and the tables
pub record StepFits (book type : List ℕ) (c : Cursor) (d : Decl) (row at : ℕ) : Type 0 where
  pub near : Near c 0 d
  pub name : d.name.at + d.name.long ≤ length book
  pub ty : TyFits d.ty
  pub rows : row + length (one_parts book type c d) ≤ most_members
  pub names : at + length (names_of (one_parts book type c d)) ≤ most_names

-- n declared members can be stored from a cursor on, from a row and a place on
pub record Storable (types book tys type : List ℕ) (at n : ℕ) (c : Cursor) (row place : ℕ) : Type 0 where
  pub found : Found book tys at n
  pub passed : ℕ
  pub few : passed + n ≤ 131072
  pub far : Far passed c 0
  pub inside : (k : ℕ) → k < n
      → (decl_at types book tys at k).name.at + (decl_at types book tys at k).name.long ≤ length book
  pub rows : row + length (parts_from (named_in book) (host_name type) c (decls_from types book tys at 0 n)) ≤
      most_members
  pub names : place
      + length (names_of (parts_from (named_in book) (host_name type) c (decls_from types book tys at 0 n)))
      ≤ most_names

-- ---- what an AOI's functions answer

pub record BoolsCounted (n : ℕ) (ds : List Decl) (r : ℕ) : Type 0 where
  pub is : r ≡ bools ds
  pub most : r ≤ n

-- a host's row and name are stored, and its name's length is answered
pub record HostPut (i row at : ℕ) (m₀ t₀ m t : List ℕ) (r : ℕ) : Type 0 where
  pub long : r ≡ length (bit_host_name i)
  pub rows : m ≡ sets m₀ (8 * row) (rows_of at (named (bit_host_name i) (bit_host_at i) ∷ []))
  pub names : t ≡ sets t₀ at (names_of (named (bit_host_name i) (bit_host_at i) ∷ []))

-- some parts are stored from a row and a place on, and the place after their names is answered
pub record PartsPut (ps : List Part) (row place : ℕ) (m₀ t₀ m t : List ℕ) (r : ℕ) : Type 0 where
  pub next : r ≡ place + length (names_of ps)
  pub rows : m ≡ sets m₀ (8 * row) (rows_of place ps)
  pub names : t ≡ sets t₀ place (names_of ps)

-- a type's declared members can be stored after what is used and its own name
pub record StorableType (types book tys type : List ℕ) (new : NewType) : Type 0 where
  pub found : Found book tys new.at new.count
  pub few : new.count ≤ 65536
  pub inside : (k : ℕ) → k < new.count
      → (decl_at types book tys new.at k).name.at + (decl_at types book tys new.at k).name.long ≤ length book
  pub rows : new.used.members
      + length (parts_of new.aoi (named_in book) type (decls_from types book tys new.at 0 new.count))
      ≤ most_members
  pub names : new.used.bytes + length type
      + length (names_of (parts_of new.aoi (named_in book) type (decls_from types book tys new.at 0 new.count)))
      ≤ most_names

-- an AOI of n declared members and h hosts can be stored from a row and a place on
pub record StorableAoi (types book tys type : List ℕ) (at n h row place : ℕ) : Type 0 where
  pub found : Found book tys at n
  pub few : n ≤ 65536
  pub hosts : h ≡ aoi_hosts (decls_from types book tys at 0 n)
  pub inside : (k : ℕ) → k < n
      → (decl_at types book tys at k).name.at + (decl_at types book tys at k).name.long ≤ length book
  pub rows : row + length (aoi_parts (named_in book) type (decls_from types book tys at 0 n)) ≤ most_members
  pub names : place + length (names_of (aoi_parts (named_in book) type (decls_from types book tys at 0 n))) ≤ most_names

pub record BitHostLong (i r : ℕ) : Type 0 where
  pub is : r ≡ length (bit_host_name i)
  pub most : r ≤ 15

pub record HostsLong (h r : ℕ) : Type 0 where
  pub is : r ≡ length (names_of (host_parts 0 h))
  pub most : r ≤ 15 * h
