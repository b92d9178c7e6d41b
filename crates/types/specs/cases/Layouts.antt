-- The reference cases that document 01 marks P, each by computation: layouts from their declared members, the size of a
-- string, and the fold of one byte.
use Rattle.std.specs.Prelude.{ℕ, Bool, true, false, cond, ◌≡◌, refl, length, replicate, Option, Some, None, Result}
use mathlib.Core.List.{List, [], ◌∷◌, ◌++◌, get_last?}
use Rattle.std.proofs.Math.Option.{Option as Maybe, none, some}
use Rattle.words.specs.Words.{bytes_of}
use Rattle.types.specs.atomics.Atomic.{code_of, size_of}
use Rattle.types.specs.book.Decls.{bool_array, stored_ty, stored_count, resolved}
use Rattle.types.specs.layout.Placing.{access_ok, is_bool, align_up, times, bool_at, other_at, opened, next_bit, closed}
use Rattle.types.specs.layout.Placing.{start_of, member_end, place_bool, place_other, placed}
use Rattle.types.specs.layout.Structs.{LaidOut, laid, stopped, layout_from, rounded_size, udt_layout, bools}
use Rattle.types.specs.layout.Structs.{aoi_hosts, host_parts, aoi_layout, string_size}
use Rattle.types.specs.tables.Defs.{Part, Def}
use Rattle.types.specs.templates.Handle.{fold_from}
use Rattle.types.specs.templates.Template.{info_bytes, infos, user_id, shown_name, member_names, padding, member_ids}
use Rattle.types.specs.templates.Template.{front_of, template_of}
use Rattle.types.specs.templates.Waste.{visible_bits, waste_of}
use Rattle.types.specs.declared.atomics.atomic.Atomic.{Atomic as AtomicType}
use Rattle.types.specs.declared.atomics.atomic.Atomic.TheVariants.{Bool as BOOL, SInt, Int, DWord}
use Rattle.types.specs.declared.layout.placing.Cursor.{Cursor}
use Rattle.types.specs.declared.layout.placing.Decl.{Decl}
use Rattle.types.specs.declared.layout.placing.LayoutFault.{LayoutFault}
use Rattle.types.specs.declared.layout.placing.Placed.{Placed}
use Rattle.types.specs.declared.tables.member.Member.{Member}
use Rattle.types.specs.declared.tables.member.StructKind.TheVariants.{Udt}
use Rattle.types.specs.declared.tables.member.Ty.TheVariants.{Atomic}

-- ---- declared members, and what is asked of their layout

-- a member of an atomic type with a dim, as a book declares it; no name is asked for
unfoldable pub declared_as : AtomicType → ℕ → Decl
unfolding resolved stored_ty stored_count bool_array is_bool size_of
declared_as a dim = resolved (λ n. 0) (Atomic a) dim (record { at = 0; long = 0 }) false 0

abbrev pub bool : Decl
bool = declared_as BOOL 0

abbrev pub sint : Decl
sint = declared_as SInt 0

abbrev pub bool_dim : ℕ → Decl
bool_dim dim = declared_as BOOL dim

-- what a case opens to compute one step
unfoldable pub step : Cursor → Decl → Result Placed LayoutFault
unfolding placed access_ok is_bool place_bool place_other opened next_bit closed start_of member_end align_up times
    declared_as
step c d = placed c d

unfoldable pub udt : List Decl → LaidOut
unfolding udt_layout layout_from step
udt ds = udt_layout (λ d. []) [] ds

unfoldable pub aoi : List Decl → LaidOut
unfolding aoi_layout aoi_hosts bools host_parts layout_from step
aoi ds = aoi_layout (λ d. []) [] ds

-- the size and the parts, if the layout is not refused
abbrev pub size_if : LaidOut → Maybe ℕ
size_if (laid parts c) = some (rounded_size c)
size_if (stopped number) = none

abbrev pub parts_if : LaidOut → List Part
parts_if (laid parts c) = parts
parts_if (stopped number) = []

-- where the hidden parts lie: the hosts
unfoldable pub hosts_of : List Part → List ℕ
hosts_of [] = []
hosts_of (p ∷ ps) = cond p.member.hidden (p.member.offset ∷ hosts_of ps) (hosts_of ps)

abbrev pub hosts_at : LaidOut → List ℕ
hosts_at l = hosts_of (parts_if l)

-- the visible members
unfoldable pub visible_of : List Part → List Member
visible_of [] = []
visible_of (p ∷ ps) = cond p.member.hidden (visible_of ps) (p.member ∷ visible_of ps)

abbrev pub visible : LaidOut → List Member
visible l = visible_of (parts_if l)

-- ---- UDT

pub no_members : size_if (udt []) ≡ some 0
unfolding udt
no_members = refl

-- eight BOOLs: one host
pub eight_bools : hosts_at (udt (replicate 8 bool)) ≡ 0 ∷ []
unfolding udt hosts_of
eight_bools = refl

-- nine: hosts at 0 and 1, 11 members, size 4
pub nine_bools : hosts_at (udt (replicate 9 bool)) ≡ 0 ∷ 1 ∷ []
unfolding udt hosts_of
nine_bools = refl

pub nine_members : length (parts_if (udt (replicate 9 bool))) ≡ 11
unfolding udt
nine_members = refl

pub nine_size : size_if (udt (replicate 9 bool)) ≡ some 4
unfolding udt
nine_size = refl

-- BOOL, SINT, BOOL: hosts at 0 and 2, SINT at 1
pub between_hosts : hosts_at (udt (bool ∷ sint ∷ bool ∷ [])) ≡ 0 ∷ 2 ∷ []
unfolding udt hosts_of
between_hosts = refl

pub between : visible (udt (bool ∷ sint ∷ bool ∷ [])) ≡ bool_at bool 0 0 ∷ other_at sint 1 ∷ bool_at bool 2 0 ∷ []
unfolding udt visible_of
between = refl

-- BOOL dim 32: one DWORD
pub dim_32 : visible (udt (bool_dim 32 ∷ [])) ≡ other_at (declared_as DWord 1) 0 ∷ []
unfolding udt visible_of
dim_32 = refl

-- dim 33: two, size 8
pub dim_33 : visible (udt (bool_dim 33 ∷ [])) ≡ other_at (declared_as DWord 2) 0 ∷ []
unfolding udt visible_of
dim_33 = refl

pub dim_33_size : size_if (udt (bool_dim 33 ∷ [])) ≡ some 8
unfolding udt
dim_33_size = refl

-- ---- AOI

-- 30 BOOLs: one host, last at byte 3 bit 7
pub thirty_bools : hosts_at (aoi (replicate 30 bool)) ≡ 0 ∷ []
unfolding aoi hosts_of
thirty_bools = refl

pub thirty_last : get_last? (visible (aoi (replicate 30 bool))) ≡ some (bool_at bool 3 7)
unfolding aoi visible_of
thirty_last = refl

-- 31: two, last at byte 4 bit 0
pub thirty_one_bools : hosts_at (aoi (replicate 31 bool)) ≡ 0 ∷ 4 ∷ []
unfolding aoi hosts_of
thirty_one_bools = refl

pub thirty_one_last : get_last? (visible (aoi (replicate 31 bool))) ≡ some (bool_at bool 4 0)
unfolding aoi visible_of
thirty_one_last = refl

-- ---- strings

-- capacity 82
pub string_size_lem : string_size 82 ≡ 88
unfolding string_size align_up
string_size_lem = refl

-- ---- fold of one zero byte

pub zero_byte : fold_from 0x1D0F (0 ∷ []) ≡ 0xE1C5
unfolding fold_from
zero_byte = refl

-- ---- the structure Chan (Good BOOL, Live BOOL, Level INT) of the program's example

abbrev chan_member : AtomicType → ℕ → Option ℕ → Bool → Member
chan_member a offset bit hidden =
    record { ty = Atomic a; count = 0; offset = offset; bit = bit; hidden = hidden; local = false; access = 0 }

abbrev chan : Def
chan =
    record {
      name = 67 ∷ 104 ∷ 97 ∷ 110 ∷ [];
      id = 256;
      handle = 0;
      size = 4;
      kind = Udt;
      parts =
          record { name = replicate 10 90 ++ (67 ∷ 104 ∷ 97 ∷ 110 ∷ 48 ∷ []); member = chan_member SInt 0 None true }
          ∷ record { name = 71 ∷ 111 ∷ 111 ∷ 100 ∷ []; member = chan_member BOOL 0 (Some 0) false }
          ∷ record { name = 76 ∷ 105 ∷ 118 ∷ 101 ∷ []; member = chan_member BOOL 0 (Some 1) false }
          ∷ record { name = 76 ∷ 101 ∷ 118 ∷ 101 ∷ 108 ∷ []; member = chan_member Int 2 None false }
          ∷ [];
    }

-- no structure is embedded, so no id and no size matters
pub chan_template : (ids : ℕ → ℕ) → length (template_of ids chan) ≡ 80
unfolding template_of front_of infos info_bytes bytes_of user_id shown_name member_names padding member_ids code_of
chan_template ids = refl

pub chan_waste : (sizes : ℕ → ℕ) → waste_of sizes chan ≡ 14
unfolding waste_of visible_bits size_of times
chan_waste sizes = refl
