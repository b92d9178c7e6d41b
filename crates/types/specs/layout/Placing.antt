-- Layout (document 01, "Layout"): where a declared member goes, as a step from a cursor to what lies where and the next
-- cursor. The UDT paragraph is `placed`; an AOI differs only in that its BOOLs share the hosts at its start.
use Rattle.std.specs.Prelude.{ℕ, ◌+◌, ◌-◌, ◌*◌, ◌/◌, ◌%◌, Bool, true, false, cond, ◌||◌, eqb, leb, ltb}
use Rattle.std.specs.Prelude.{Option, Some, None, Result, Ok, Err}
use Rattle.types.specs.atomics.Atomic.{num_of}
use Rattle.types.specs.refusals.Said.{Said, done, refused}
use Rattle.types.specs.declared.atomics.atomic.Atomic.TheVariants.{Bool as BOOL, SInt}
use Rattle.types.specs.declared.layout.placing.Cursor.{Cursor}
use Rattle.types.specs.declared.layout.placing.Decl.{Decl}
use Rattle.types.specs.declared.layout.placing.Host.{Host}
use Rattle.types.specs.declared.layout.placing.Host.TheVariants.{Closed, Open, Shared}
use Rattle.types.specs.declared.layout.placing.LayoutFault.{LayoutFault}
use Rattle.types.specs.declared.layout.placing.LayoutFault.TheVariants.{AccessWrong, TooFar}
use Rattle.types.specs.declared.layout.placing.Placed.{Placed}
use Rattle.types.specs.declared.layout.placing.Placed.TheVariants.{Hosted, One}
use Rattle.types.specs.declared.tables.member.Member.{Member}
use Rattle.types.specs.declared.tables.member.Ty.{Ty}
use Rattle.types.specs.declared.tables.member.Ty.TheVariants.{Atomic, Struct}

-- a count of 0 is one element
unfoldable pub times : ℕ → ℕ
times n = cond (eqb n 0) 1 n

-- a member must end at or below 2^26
abbrev pub most_size : ℕ
most_size = 67108864

unfoldable pub member_end : ℕ → ℕ → ℕ → Said ℕ
member_end offset size count =
    cond (leb (offset + size * times count) most_size) (done (offset + size * times count)) (refused 12 0)

-- what an answer says
abbrev pub said_by : Option ℕ → Said ℕ
said_by (Some e) = done e
said_by None = refused 12 0

-- access 0, 2 or 3
unfoldable pub access_ok : ℕ → Bool
access_ok a = eqb a 0 || eqb a 2 || eqb a 3

unfoldable pub is_bool : Ty → Bool
is_bool (Atomic a) = eqb (num_of a) 0
is_bool (Struct n) = false

-- the lowest multiple of a from x on
unfoldable pub align_up : ℕ → ℕ → ℕ
align_up x a = (x + (a - 1)) / a * a

-- a hidden SINT host at an offset
abbrev pub host_at : ℕ → Member
host_at o = record { ty = Atomic SInt; count = 0; offset = o; bit = None; hidden = true; local = false; access = 0 }

-- a declared BOOL at a bit
abbrev pub bool_at : Decl → ℕ → ℕ → Member
bool_at d byte bit =
    record {
      ty = Atomic BOOL;
      count = 0;
      offset = byte;
      bit = Some bit;
      hidden = false;
      local = d.local;
      access = d.access;
    }

-- any other declared member at an offset
abbrev pub other_at : Decl → ℕ → Member
other_at d o =
    record {
      ty = d.ty;
      count = d.count;
      offset = o;
      bit = None;
      hidden = false;
      local = d.local;
      access = d.access;
    }

-- a hidden host opens at the current offset, which grows by 1, and the BOOL takes its bit 0
unfoldable pub opened : Cursor → Decl → Placed
opened c d =
    Hosted (host_at c.offset) (bool_at d c.offset 0)
    (record { offset = c.offset + 1; host = Open c.offset 1; members = c.members + 2 })

-- the BOOL takes a bit of a host that stands already
unfoldable pub next_bit : Cursor → Decl → ℕ → ℕ → Host → Placed
next_bit c d byte bit host =
    One (bool_at d byte bit) (record { offset = c.offset; host = host; members = c.members + 1 })

-- a BOOL takes the next bit of the open host; with no host, or eight used, a host opens. In an AOI the i-th BOOL is
-- at byte 4 * floor(i / 32) + floor((i mod 32) / 8), bit i mod 8
unfoldable pub place_bool : Host → Cursor → Decl → Placed
place_bool Closed c d = opened c d
place_bool (Open byte bit) c d = cond (ltb bit 8) (next_bit c d byte bit (Open byte (bit + 1))) (opened c d)
place_bool (Shared i) c d = next_bit c d (4 * (i / 32) + i % 32 / 8) (i % 8) (Shared (i + 1))

-- any other member closes the host; an AOI's hosts are shared to the end
unfoldable pub closed : Host → Host
closed Closed = Closed
closed (Open byte bit) = Closed
closed (Shared i) = Shared i

-- where any other member begins
unfoldable pub start_of : Cursor → Decl → ℕ
start_of c d = align_up c.offset d.align

-- the refusal's number of a fault
abbrev pub fault_number : LayoutFault → ℕ
fault_number AccessWrong = 11
fault_number TooFar = 12

abbrev pub on_end : Said ℕ → (ℕ → Placed) → Result Placed LayoutFault
on_end (done e) k = Ok (k e)
on_end (refused number place) k = Err TooFar

-- any other member closes the host, is aligned, and must end at or below 2^26
unfoldable pub place_other : Cursor → Decl → Result Placed LayoutFault
place_other c d =
    on_end (member_end (start_of c d) d.size d.count)
    (λ e. One (other_at d (start_of c d)) (record { offset = e; host = closed c.host; members = c.members + 1 }))

-- one declared member: first its access, then a BOOL (dim 0) or any other
unfoldable pub placed : Cursor → Decl → Result Placed LayoutFault
placed c d =
    cond (access_ok d.access)
    (cond (is_bool d.ty) (Ok (place_bool c.host c d)) (place_other c d))
    (Err AccessWrong)
