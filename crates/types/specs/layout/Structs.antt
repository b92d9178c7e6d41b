-- Whole layouts (document 01, "Layout"): a UDT's and an AOI's parts from their declared members, a string's and the
-- predefined types' parts, and their sizes.
use Rattle.std.specs.Prelude.{ℕ, zero, suc, ◌+◌, ◌-◌, ◌*◌, ◌/◌, ◌%◌, Bool, true, false, cond, List, [], ◌∷◌, ◌++◌}
use Rattle.std.specs.Prelude.{length, Some, None, Result, Ok, Err}
use Rattle.types.specs.layout.HostNames.{host_name, bit_host_name}
use Rattle.types.specs.layout.Placing.{placed, is_bool, align_up}
use Rattle.types.specs.tables.Defs.{Part, name_in}
use Rattle.types.specs.tables.Lent.{member_row}
use Rattle.types.specs.declared.atomics.atomic.Atomic.TheVariants.{Bool as BOOL, SInt, DInt}
use Rattle.types.specs.declared.layout.placing.Cursor.{Cursor}
use Rattle.types.specs.declared.layout.placing.Decl.{Decl}
use Rattle.types.specs.declared.layout.placing.Host.TheVariants.{Closed, Shared}
use Rattle.types.specs.declared.layout.placing.LayoutFault.{LayoutFault}
use Rattle.types.specs.declared.layout.placing.LayoutFault.TheVariants.{AccessWrong, TooFar}
use Rattle.types.specs.declared.layout.placing.Placed.{Placed}
use Rattle.types.specs.declared.layout.placing.Placed.TheVariants.{Hosted, One}
use Rattle.types.specs.declared.tables.member.Member.{Member}
use Rattle.types.specs.declared.tables.member.StructKind.{StructKind}
use Rattle.types.specs.declared.tables.member.StructKind.TheVariants.{Udt, Aoi}
use Rattle.types.specs.declared.tables.member.Ty.TheVariants.{Atomic}

-- the names of some parts, one after the other
unfoldable pub names_of : List Part → List ℕ
names_of [] = []
names_of (p ∷ ps) = p.name ++ names_of ps

-- the rows of some parts whose names stand one after the other, from a place on
unfoldable pub rows_of : ℕ → List Part → List ℕ
rows_of at [] = []
rows_of at (p ∷ ps) =
    member_row (record { at = at; long = length p.name }) p.member ++ rows_of (at + length p.name) ps

-- ---- declared members, one after the other

abbrev pub named : List ℕ → Member → Part
named n m = record { name = n; member = m }

-- the names of declared members, as the book has them
abbrev pub named_in : List ℕ → Decl → List ℕ
named_in book d = name_in book d.name

-- what is laid out
pub data LaidOut : Type 0 where
  -- the parts, and how far they came
  laid : List Part → Cursor → LaidOut
  -- the first refusal's number
  stopped : ℕ → LaidOut

-- after some parts
abbrev pub after : List Part → LaidOut → LaidOut
after ps (laid qs c) = laid (ps ++ qs) c
after ps (stopped number) = stopped number

-- what a step adds: a host and the member, or the member alone; or why it cannot
abbrev pub then_laid : Result Placed LayoutFault → List ℕ → List ℕ → (Cursor → LaidOut) → LaidOut
then_laid (Ok (Hosted h m c)) host name rest = after (named host h ∷ named name m ∷ []) (rest c)
then_laid (Ok (One m c)) host name rest = after (named name m ∷ []) (rest c)
then_laid (Err AccessWrong) host name rest = stopped 11
then_laid (Err TooFar) host name rest = stopped 12

-- the declared members from a cursor on: `name` gives a declared member's name, `host` a host's
unfoldable pub layout_from : (Decl → List ℕ) → (ℕ → List ℕ) → Cursor → List Decl → LaidOut
layout_from name host c [] = laid [] c
layout_from name host c (d ∷ ds) = then_laid (placed c d) (host c.members) (name d) (λ c'. layout_from name host c' ds)

-- the size is rounded up to 4
abbrev pub rounded_size : Cursor → ℕ
rounded_size c = align_up c.offset 4

-- ---- UDT

abbrev pub udt_start : Cursor
udt_start = record { offset = 0; host = Closed; members = 0 }

unfoldable pub udt_layout : (Decl → List ℕ) → List ℕ → List Decl → LaidOut
udt_layout name type ds = layout_from name (host_name type) udt_start ds

-- ---- AOI

-- how many BOOLs (dim 0) are declared
unfoldable pub bools : List Decl → ℕ
bools [] = 0
bools (d ∷ ds) = cond (is_bool d.ty) 1 0 + bools ds

-- ceil(n / 32) hidden DINT hosts from offset 0, over EnableIn, EnableOut and all declared BOOLs
unfoldable pub aoi_hosts : List Decl → ℕ
aoi_hosts ds = (2 + bools ds + 31) / 32

abbrev pub bit_host_at : ℕ → Member
bit_host_at i =
    record { ty = Atomic DInt; count = 0; offset = 4 * i; bit = None; hidden = true; local = false; access = 0 }

unfoldable pub host_parts : ℕ → ℕ → List Part
host_parts i zero = []
host_parts i (suc n) = named (bit_host_name i) (bit_host_at i) ∷ host_parts (i + 1) n

-- EnableIn and EnableOut are the first two BOOLs, with access 2
abbrev pub enable_at : ℕ → Member
enable_at bit =
    record { ty = Atomic BOOL; count = 0; offset = 0; bit = Some bit; hidden = false; local = false; access = 2 }

abbrev pub enable_in : List ℕ
enable_in = 69 ∷ 110 ∷ 97 ∷ 98 ∷ 108 ∷ 101 ∷ 73 ∷ 110 ∷ []

abbrev pub enable_out : List ℕ
enable_out = 69 ∷ 110 ∷ 97 ∷ 98 ∷ 108 ∷ 101 ∷ 79 ∷ 117 ∷ 116 ∷ []

-- where the declared members begin: after h hosts, with two BOOLs placed
abbrev pub aoi_start : ℕ → Cursor
aoi_start h = record { offset = 4 * h; host = Shared 2; members = h + 2 }

abbrev pub enable_parts : List Part
enable_parts = named enable_in (enable_at 0) ∷ named enable_out (enable_at 1) ∷ []

unfoldable pub aoi_layout : (Decl → List ℕ) → List ℕ → List Decl → LaidOut
aoi_layout name type ds =
    after (host_parts 0 (aoi_hosts ds)) (after enable_parts
    (layout_from name (host_name type) (aoi_start (aoi_hosts ds)) ds))

-- either, by what the entry says
abbrev pub layout_of : Bool → (Decl → List ℕ) → List ℕ → List Decl → LaidOut
layout_of true name type ds = aoi_layout name type ds
layout_of false name type ds = udt_layout name type ds

abbrev pub laid_kind : Bool → StructKind
laid_kind true = Aoi
laid_kind false = Udt

-- ---- strings

-- a visible DINT at an offset
abbrev pub dint_at : ℕ → Member
dint_at o = record { ty = Atomic DInt; count = 0; offset = o; bit = None; hidden = false; local = false; access = 0 }

-- c SINT from offset 4 on
abbrev pub data_of : ℕ → Member
data_of c = record { ty = Atomic SInt; count = c; offset = 4; bit = None; hidden = false; local = false; access = 0 }

-- DINT LEN at 0, c SINT DATA at 4, size 4 + c rounded up to 4
unfoldable pub string_parts : ℕ → List Part
string_parts c = named (76 ∷ 69 ∷ 78 ∷ []) (dint_at 0) ∷ named (68 ∷ 65 ∷ 84 ∷ 65 ∷ []) (data_of c) ∷ []

unfoldable pub string_size : ℕ → ℕ
string_size c = align_up (4 + c) 4

-- ---- predefined, size 12

-- BOOLs from bit 31 of CTL downwards
abbrev pub status_at : ℕ → Member
status_at i =
    record {
      ty = Atomic BOOL;
      count = 0;
      offset = (31 - i) / 8;
      bit = Some ((31 - i) % 8);
      hidden = false;
      local = false;
      access = 0;
    }

unfoldable pub status_parts : ℕ → List (List ℕ) → List Part
status_parts i [] = []
status_parts i (n ∷ ns) = named n (status_at i) ∷ status_parts (i + 1) ns

-- hidden DINT CTL at 0, two DINT words at 4 and 8, then the BOOLs
abbrev pub ctl_at : Member
ctl_at = record { ty = Atomic DInt; count = 0; offset = 0; bit = None; hidden = true; local = false; access = 0 }

unfoldable pub control_parts : List ℕ → List ℕ → List (List ℕ) → List Part
control_parts one two bits =
    named (67 ∷ 84 ∷ 76 ∷ []) ctl_at ∷ named one (dint_at 4) ∷ named two (dint_at 8) ∷ status_parts 0 bits

-- TIMER: PRE ACC, EN TT DN
unfoldable pub timer_parts : List Part
timer_parts =
    control_parts (80 ∷ 82 ∷ 69 ∷ []) (65 ∷ 67 ∷ 67 ∷ [])
    ((69 ∷ 78 ∷ []) ∷ (84 ∷ 84 ∷ []) ∷ (68 ∷ 78 ∷ []) ∷ [])

-- COUNTER: PRE ACC, CU CD DN OV UN
unfoldable pub counter_parts : List Part
counter_parts =
    control_parts (80 ∷ 82 ∷ 69 ∷ []) (65 ∷ 67 ∷ 67 ∷ [])
    ((67 ∷ 85 ∷ []) ∷ (67 ∷ 68 ∷ []) ∷ (68 ∷ 78 ∷ []) ∷ (79 ∷ 86 ∷ []) ∷ (85 ∷ 78 ∷ []) ∷ [])

-- CONTROL: LEN POS, EN EU DN EM ER UL IN FD
unfoldable pub control_type_parts : List Part
control_type_parts =
    control_parts (76 ∷ 69 ∷ 78 ∷ []) (80 ∷ 79 ∷ 83 ∷ [])
    ((69 ∷ 78 ∷ []) ∷ (69 ∷ 85 ∷ []) ∷ (68 ∷ 78 ∷ []) ∷ (69 ∷ 77 ∷ [])
    ∷ (69 ∷ 82 ∷ []) ∷ (85 ∷ 76 ∷ []) ∷ (73 ∷ 78 ∷ []) ∷ (70 ∷ 68 ∷ []) ∷ [])
