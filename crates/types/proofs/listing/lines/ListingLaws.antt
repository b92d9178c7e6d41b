-- Laws of the lines that the program `layout` prints (document 01, end of "Reference cases"): fields put one after
-- the other, and how long a line can be.
use Rattle.std.specs.Prelude.{Option, Some, None}
use Prim.Native.Nat.{ℕ, ◌+◌, ◌≤◌, ◌<◌}
use native.Mathlib.Omega.{arith}
use mathlib.Core.Path.{◌≡◌, refl, sym, ap, ◌∙◌}
use mathlib.Core.Bool.{Bool, true, false}
use mathlib.Core.List.{List, [], ◌∷◌, ◌++◌}
use lib.ListN.{length, length-append}
use lib.Seq.{length-sets}
use Rattle.words.proofs.Lists.{sets_append, part_most}
use Rattle.types.specs.atomics.Atomic.{name_of}
use Rattle.types.specs.inside.listing.Lines.{Short, StructNamed, TypeNamed, Listable, FieldFits, FieldPut, Lined}
use Rattle.types.specs.layout.HostNames.{digits}
use Rattle.types.specs.listing.Lines.{with_stop, line, type_word, type_numbers, type_line, seen_letter, bit_text}
use Rattle.types.specs.listing.Lines.{member_place, member_line, refused_word, refused_line, printed_type, struct_names}
use Rattle.types.specs.tables.Defs.{name_in}
use Rattle.types.specs.tables.Lent.{member_at, name_at}
use Rattle.types.specs.declared.atomics.atomic.Atomic.{Atomic as AtomicType}
use Rattle.types.specs.declared.atomics.atomic.Atomic.TheVariants.{Bool as BOOL, SInt, Int, DInt, LInt, USInt}
use Rattle.types.specs.declared.atomics.atomic.Atomic.TheVariants.{UInt, UDInt, ULInt, Real, LReal, Byte, Word}
use Rattle.types.specs.declared.atomics.atomic.Atomic.TheVariants.{DWord, LWord}
use Rattle.types.specs.declared.tables.member.Member.{Member}
use Rattle.types.specs.declared.tables.member.Span.{Span}
use Rattle.types.specs.declared.tables.member.StructDef.{StructDef}
use Rattle.types.specs.declared.tables.member.Ty.{Ty}
use Rattle.types.specs.declared.tables.member.Ty.TheVariants.{Atomic, Struct}
use Rattle.types.proofs.layout.DigitLaws.{digits_most}

-- ---- bytes put one after the other

-- bytes put, and others put after them, are both put as one
pub added_both : {s t : List ℕ} {at m r : ℕ} {out mid left : List ℕ} → FieldPut s at out m mid → FieldPut t m mid r left
    → FieldPut (s ++ t) at out r left
added_both {s} {t} {at} {m} {r} {out} {mid} {left} a b =
    record {
      next = omega (arith, a.next, b.next, length-append s t);
      bytes = b.bytes ∙ rw (a.bytes, a.next) (sym (sets_append out at s t));
    }

-- some bytes fit where more do, and so do the others after them
pub fits_first : {at : ℕ} {out : List ℕ} (s t : List ℕ) → FieldFits (s ++ t) at out → FieldFits s at out
fits_first s t h = record { room = omega (arith, h.room, length-append s t) }

-- where bytes fit with others after them and were put, the others fit after them
pub fits_then : {s t : List ℕ} {at m : ℕ} {out mid : List ℕ} → FieldFits (s ++ t) at out → FieldPut s at out m mid
    → FieldFits t m mid
fits_then {s} {t} {at} {m} {out} {mid} h a =
    let n : length mid ≡ length out = ap length a.bytes ∙ length-sets out at s in
    record { room = omega (arith, h.room, length-append s t, a.next, n) }

pub lined : {s : List ℕ} {r : ℕ} {out left : List ℕ} → FieldFits s 0 out → FieldPut s 0 out r left → Lined s out r left
lined h a = record { long = omega (arith, a.next); room = omega (arith, h.room); bytes = a.bytes }

-- any number's digits fit into twenty places
pub digits_20 : (x : ℕ) → length (digits x) ≤ 20
unfolding digits
digits_20 x = digits_most 20 x

-- ---- the fields of a line, one after the other

-- of a whole that is put at a place of the buffer first, a line of the fields fs is left for a place of the buffer now
pub record FieldsLeft (whole : List ℕ) (start : ℕ) (first : List ℕ) (fs : List (List ℕ)) (at : ℕ) (now : List ℕ)
    : Type 0 where
  pub fits : FieldFits (line fs) at now
  pub then : (r : ℕ) (last : List ℕ) → FieldPut (line fs) at now r last → FieldPut whole start first r last

-- before the first field the whole line is left
pub left_all : {at : ℕ} {out : List ℕ} (fs : List (List ℕ)) → FieldFits (line fs) at out
    → FieldsLeft (line fs) at out fs at out
left_all fs h = record { fits = h; then = λ r last a. a }

module _ {whole : List ℕ} {start : ℕ} {first f : List ℕ} {at : ℕ} {now : List ℕ} where
  module _ {g : List ℕ} {fs : List (List ℕ)} (l : FieldsLeft whole start first (f ∷ g ∷ fs) at now) where
    -- the next field of what is left fits, with its space
    pub left_room : FieldFits (with_stop f 32) at now
    unfolding line
    left_room = fits_first (with_stop f 32) (line (g ∷ fs)) l.fits

    -- where the next field was put, the fields after it are left
    pub left_on : {r : ℕ} {next : List ℕ} → FieldPut (with_stop f 32) at now r next
        → FieldsLeft whole start first (g ∷ fs) r next
    unfolding line
    left_on a = record { fits = fits_then l.fits a; then = λ r last b. l.then r last (added_both a b) }

  module _ (l : FieldsLeft whole start first (f ∷ []) at now) where
    -- the last field of what is left fits, with its newline
    pub last_room : FieldFits (with_stop f 10) at now
    unfolding line
    last_room = l.fits

    -- where the last field was put, the whole line is
    pub left_done : {r : ℕ} {last : List ℕ} → FieldPut (with_stop f 10) at now r last
        → FieldPut whole start first r last
    unfolding line
    left_done {r} {last} a = l.then r last a

-- ---- lines of 512 bytes

bit_20 : (b : Option ℕ) → length (bit_text b) ≤ 20
bit_20 None = omega arith
bit_20 (Some k) = digits_20 k

seen_1 : (b : Bool) → length (seen_letter b) ≡ 1
seen_1 true = refl
seen_1 false = refl

atomic_5 : (a : AtomicType) → length (name_of a) ≤ 5
unfolding name_of
atomic_5 BOOL = omega arith
atomic_5 SInt = omega arith
atomic_5 Int = omega arith
atomic_5 DInt = omega arith
atomic_5 LInt = omega arith
atomic_5 USInt = omega arith
atomic_5 UInt = omega arith
atomic_5 UDInt = omega arith
atomic_5 ULInt = omega arith
atomic_5 Real = omega arith
atomic_5 LReal = omega arith
atomic_5 Byte = omega arith
atomic_5 Word = omega arith
atomic_5 DWord = omega arith
atomic_5 LWord = omega arith

short_long : (names : List ℕ) {s : Span} → Short s → length (name_in names s) ≤ 200
short_long names {s} h = omega (arith, part_most names s.at s.long, h.most)

type_long : (types names : List ℕ) (t : Ty) → TypeNamed types t
    → length (printed_type (struct_names types names) t) ≤ 200
type_long types names (Atomic a) h = omega (arith, atomic_5 a)
type_long types names (Struct n) h = short_long names h.name

-- a type's line
module _ (names : List ℕ) (d : StructDef) (bytes bits : ℕ) where
  -- the fields of a type's line: `type`, its name, and its numbers
  abbrev pub type_fields : List (List ℕ)
  type_fields = type_word ∷ name_in names d.name ∷ type_numbers d.id d.size d.count bytes bits

  -- a type's line with a short name fits into 512 bytes, and all of it is left
  pub type_left : {out : List ℕ} → Short d.name → 512 ≤ length out
      → FieldsLeft (line type_fields) 0 out type_fields 0 out
  unfolding line
  type_left h k =
      left_all type_fields record {
        room = simp length-append
            (omega (
              arith,
              short_long names h,
              digits_20 d.id,
              digits_20 d.size,
              digits_20 d.count,
              digits_20 bytes,
              digits_20 bits,
            ));
      }

  -- the fields of a type put one after the other are its line
  pub type_lined : {r : ℕ} {out left : List ℕ} → FieldsLeft (line type_fields) 0 out type_fields 0 out
      → FieldPut (line type_fields) 0 out r left
      → Lined (type_line (name_in names d.name) d.id d.size d.count bytes bits) out r left
  unfolding type_line
  type_lined l a = lined l.fits a

-- a member's line
module _ (types names : List ℕ) (number : ℕ) (m : Member) (name : Span) where
  -- the fields of a member's line: its number, hidden or visible, its type, and its place with its name
  abbrev pub member_fields : List (List ℕ)
  member_fields =
      digits number ∷ seen_letter m.hidden ∷ printed_type (struct_names types names) m.ty
      ∷ member_place m (name_in names name)

  pub member_left : {out : List ℕ} → TypeNamed types m.ty → Short name → 512 ≤ length out
      → FieldsLeft (line member_fields) 0 out member_fields 0 out
  unfolding line
  member_left t h k =
      left_all member_fields record {
        room = simp length-append
            (omega (
              arith,
              type_long types names m.ty t,
              short_long names h,
              seen_1 m.hidden,
              bit_20 m.bit,
              digits_20 number,
              digits_20 m.count,
              digits_20 m.offset,
            ));
      }

  -- the fields of a member put one after the other are its line
  pub member_lined : {r : ℕ} {out left : List ℕ} → FieldsLeft (line member_fields) 0 out member_fields 0 out
      → FieldPut (line member_fields) 0 out r left
      → Lined (member_line number (printed_type (struct_names types names) m.ty) m (name_in names name)) out r left
  unfolding member_line
  member_lined l a = lined l.fits a

-- a refusal's line
module _ (number place : ℕ) where
  -- the fields of a refusal's line: `refused`, its number, and its place
  abbrev pub refused_fields : List (List ℕ)
  refused_fields = refused_word ∷ digits number ∷ digits place ∷ []

  -- a refusal's line fits into 512 bytes, and all of it is left
  pub refused_left : {out : List ℕ} → 512 ≤ length out → FieldsLeft (line refused_fields) 0 out refused_fields 0 out
  unfolding line
  refused_left k =
      left_all refused_fields record {
        room = simp length-append (omega (arith, digits_20 number, digits_20 place));
      }

  -- the fields of a refusal put one after the other are its line
  pub refused_lined : {r : ℕ} {out left : List ℕ} → FieldsLeft (line refused_fields) 0 out refused_fields 0 out
      → FieldPut (line refused_fields) 0 out r left
      → Lined (refused_line number place) out r left
  unfolding refused_line
  refused_lined l a = lined l.fits a

-- ---- rows

-- the structure that was read is the one that is asked for
pub listed : {types members : List ℕ} {d e : StructDef} → d ≡ e → Listable types members e → Listable types members d
listed q h = rw q h

-- a type that can be printed and is structure n: n is a row, and the name there is short
pub struct_named : {types : List ℕ} {t : Ty} {n : ℕ} → t ≡ Struct n → TypeNamed types t → StructNamed types n
struct_named e h = rw e at h

-- the k-th row of the structure that was read
module _ {types members : List ℕ} {d e : StructDef} {first k : ℕ} (q : d ≡ e) (p : first ≡ d.first) (l : k < e.count)
    (h : Listable types members e) where
  -- the row is the k-th of the structure that is asked for
  pub row_same : first + k ≡ e.first + k
  row_same = rw (p, q)

  -- the k-th row lies in the table of members
  pub row_below : first + k < 2000
  row_below = rw row_same (omega (arith, h.rows.rows.rows))

  -- the name in the k-th row is short
  pub row_short : {name : Span} → name ≡ name_at members (first + k) → Short name
  row_short n = rw (n, row_same) (h.names k l)

  -- the type in the k-th row is an atomic, or a structure with a short name
  pub row_named : {m : Member} → m ≡ member_at members (first + k) → TypeNamed types m.ty
  row_named n = rw (n, row_same) (h.tys k l)

  -- before the first field of a member's line all of it is left
  pub row_left : (names : List ℕ) {m : Member} {name : Span} {out : List ℕ} → m ≡ member_at members (first + k)
      → name ≡ name_at members (first + k) → 512 ≤ length out
      → FieldsLeft (line (member_fields types names k m name)) 0 out (member_fields types names k m name) 0 out
  row_left names {m} {name} a b g = member_left types names k m name (row_named a) (row_short b) g
