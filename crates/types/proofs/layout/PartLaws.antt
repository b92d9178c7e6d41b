-- What every part of a layout has (document 01, "Layout" and "Declaration book"): its name follows the rule, hidden
-- hosts' too; a BOOL has a bit of a byte and count 0, any other member no bit; a hidden one has access 0 and is not
-- local.
use Rattle.std.specs.Prelude.{Some, None, Result, Ok, Err}
use Prim.Native.Nat.{ℕ, zero, suc, ◌+◌, ◌-◌, ◌%◌, ◌<◌}
use native.Mathlib.Omega.{arith}
use mathlib.Core.Path.{◌≡◌, refl}
use mathlib.Core.Bool.{Bool, true, false, cond, not, ◌&&◌}
use mathlib.Core.List.{List, [], ◌∷◌}
use lib.Dec.{eqb}
use Rattle.words.proofs.TestLaws.{and_left, and_right, clash}
use Rattle.types.specs.adding.Checks.{among, checked}
use Rattle.types.specs.book.Contents.{every}
use Rattle.types.specs.book.Names.{name_byte, name_bytes, good_name}
use Rattle.types.specs.inside.layout.Passes.{then_parts, parts_from, udt_parts, aoi_parts, parts_of}
use Rattle.types.specs.layout.HostNames.{host_name}
use Rattle.types.specs.layout.Laid.{Every}
use Rattle.types.specs.layout.Placing.{is_bool, opened, next_bit}
use Rattle.types.specs.layout.Structs.{named_in, host_parts, aoi_hosts, aoi_start, udt_start, string_parts}
use Rattle.types.specs.layout.Structs.{status_parts}
use Rattle.types.specs.layout.Structs.{control_parts, bit_host_at, enable_at, dint_at, data_of, status_at, ctl_at}
use Rattle.types.specs.tables.Defs.{Part, name_in}
use Rattle.types.specs.declared.adding.checks.MemberFault.{MemberFault}
use Rattle.types.specs.declared.adding.checks.MemberFault.TheVariants.{NameWrong, Twice, LocalOutside}
use Rattle.types.specs.declared.book.contents.MemberEntry.{MemberEntry}
use Rattle.types.specs.declared.layout.placing.Cursor.{Cursor}
use Rattle.types.specs.declared.layout.placing.Decl.{Decl}
use Rattle.types.specs.declared.tables.member.Member.{Member}
use Rattle.types.proofs.adding.AddLaws.{every_append}
use Rattle.types.proofs.layout.HostNames.{host_good, bit_host_good}
use Rattle.types.proofs.layout.PlaceLaws.{place_cases}

-- ---- one member

-- a BOOL's bit of its byte
pub record BoolBit (m : Member) : Type 0 where
  pub at : ℕ
  pub small : at < 8
  pub bit : m.bit ≡ Some at
  pub count : m.count ≡ 0

-- a BOOL has a bit and count 0, any other member no bit; a hidden one has access 0 and is not local
pub record Formed (m : Member) : Type 0 where
  pub bool : is_bool m.ty ≡ true → BoolBit m
  pub other : is_bool m.ty ≡ false → m.bit ≡ None
  pub hidden : m.hidden ≡ true → (m.access ≡ 0) × (m.local ≡ false)

-- a part with a good name
pub record PartFormed (p : Part) : Type 0 where
  pub name : good_name p.name ≡ true
  pub member : Formed p.member

-- a visible BOOL
bool_formed : (m : Member) (k : ℕ) → k < 8 → is_bool m.ty ≡ true → m.bit ≡ Some k → m.count ≡ 0 → m.hidden ≡ false
    → Formed m
bool_formed m k l e b c v =
    record {
      bool = λ q. record { at = k; small = l; bit = b; count = c };
      other = λ q. clash e q;
      hidden = λ q. clash q v;
    }

-- any other visible member
other_formed : (m : Member) → is_bool m.ty ≡ false → m.bit ≡ None → m.hidden ≡ false → Formed m
other_formed m e b v = record { bool = λ q. clash q e; other = λ q. b; hidden = λ q. clash q v }

-- a hidden host
host_formed : (m : Member) → is_bool m.ty ≡ false → m.bit ≡ None → m.access ≡ 0 → m.local ≡ false → Formed m
host_formed m e b a l = record { bool = λ q. clash q e; other = λ q. b; hidden = λ q. (a, l) }

-- ---- the parts of a layout

-- declared members, and the entries of a book, whose names follow the rule
abbrev pub NamedDecls : List ℕ → List Decl → Type 0
NamedDecls book ds = Every (λ (d : Decl). good_name (named_in book d) ≡ true) ds

-- entries of a book whose names follow the rule
abbrev pub NamedEntries : List ℕ → List MemberEntry → Type 0
NamedEntries book es = Every (λ (e : MemberEntry). good_name (name_in book e.name) ≡ true) es

module _ (book type : List ℕ) (good : good_name type ≡ true) where
  parts_formed : (ds : List Decl) (c : Cursor) → NamedDecls book ds
      → Every PartFormed (parts_from (named_in book) (host_name type) c ds)
  unfolding parts_from Every opened next_bit is_bool
  parts_formed [] c a = tt
  parts_formed (d ∷ ds) c (a, rest) =
      place_cases
      (λ p. Every PartFormed
      (then_parts p (host_name type c.members) (named_in book d) (λ c'. parts_from (named_in book)
      (host_name type) c' ds)))
      c d
      (record {
        wrong = λ q. tt;
        opens = λ b f. (
          record { name = host_good type c.members good; member = host_formed _ refl refl refl refl },
          (
            record { name = a; member = bool_formed _ 0 (omega arith) refl refl refl refl },
            parts_formed ds _ rest,
          ),
        );
        next = λ b byte bit h l. (
          record { name = a; member = bool_formed _ bit l refl refl refl refl },
          parts_formed ds _ rest,
        );
        shared = λ b i h. (
          record { name = a; member = bool_formed _ (i % 8) (omega arith) refl refl refl refl },
          parts_formed ds _ rest,
        );
        other = λ b l. (record { name = a; member = other_formed _ b refl refl }, parts_formed ds _ rest);
        far = λ b l. tt;
      })

  udt_formed : (ds : List Decl) → NamedDecls book ds → Every PartFormed (udt_parts (named_in book) type ds)
  unfolding udt_parts
  udt_formed ds a = parts_formed ds udt_start a

  hosts_formed : (i h : ℕ) → Every PartFormed (host_parts i h)
  unfolding host_parts Every is_bool
  hosts_formed i zero = tt
  hosts_formed i (suc h) = (
    record { name = bit_host_good i; member = host_formed (bit_host_at i) refl refl refl refl },
    hosts_formed (i + 1) h,
  )

  aoi_formed : (ds : List Decl) → NamedDecls book ds → Every PartFormed (aoi_parts (named_in book) type ds)
  unfolding aoi_parts Every is_bool good_name name_bytes name_byte
  aoi_formed ds a =
      let enable : (k : ℕ) → k < 8 → Formed (enable_at k) = λ k l. bool_formed (enable_at k) k l refl refl refl refl in
      every_append PartFormed (host_parts 0 (aoi_hosts ds)) _ (hosts_formed 0 (aoi_hosts ds)) (
        record { name = refl; member = enable 0 (omega arith) },
        (
          record { name = refl; member = enable 1 (omega arith) },
          parts_formed ds (aoi_start (aoi_hosts ds)) a,
        ),
      )

-- the parts of a UDT or an AOI are formed so, where the names follow the rule
pub type_formed : (aoi : Bool) (book type : List ℕ) → good_name type ≡ true → (ds : List Decl) → NamedDecls book ds
    → Every PartFormed (parts_of aoi (named_in book) type ds)
type_formed true book type good ds a = aoi_formed book type good ds a
type_formed false book type good ds a = udt_formed book type good ds a

-- the parts of a string are formed so
pub string_formed : (c : ℕ) → Every PartFormed (string_parts c)
unfolding string_parts Every is_bool good_name name_bytes name_byte
string_formed c = (
  record { name = refl; member = other_formed (dint_at 0) refl refl refl },
  (record { name = refl; member = other_formed (data_of c) refl refl refl }, tt),
)

-- ---- predefined types, whose names a computed test finds good

status_formed : (i : ℕ) (bits : List (List ℕ)) → every good_name bits ≡ true → Every PartFormed (status_parts i bits)
unfolding status_parts Every every is_bool
status_formed i [] e = tt
status_formed i (s ∷ bits) e = (
  record {
    name = and_left (good_name s) _ e;
    member = bool_formed (status_at i) ((31 - i) % 8) (omega arith) refl refl refl refl;
  },
  status_formed (i + 1) bits (and_right (good_name s) _ e),
)

-- the parts of TIMER, COUNTER and CONTROL are formed so, where their names are good
pub control_formed : (one two : List ℕ) (bits : List (List ℕ)) → every good_name (one ∷ two ∷ bits) ≡ true
    → Every PartFormed (control_parts one two bits)
unfolding control_parts Every every is_bool good_name name_bytes name_byte
control_formed one two bits e =
    let more = and_right (good_name one) _ e in (
      record { name = refl; member = host_formed ctl_at refl refl refl refl },
      (
        record { name = and_left (good_name one) _ e; member = other_formed (dint_at 4) refl refl refl },
        (
          record { name = and_left (good_name two) _ more; member = other_formed (dint_at 8) refl refl refl },
          status_formed 0 bits (and_right (good_name two) _ more),
        ),
      ),
    )

-- ---- members that were checked

good_only : (g t l : Bool) (k : Result (Unit {0}) MemberFault)
    → cond g (cond t (Err Twice) (cond l (Err LocalOutside) k)) (Err NameWrong) ≡ Ok tt → (g ≡ true) × (k ≡ Ok tt)
good_only true false false k e = (refl, e)
good_only true false true k e = (refl, cc)
good_only true true l k e = (refl, cc)
good_only false t l k e = (cc, cc)

-- entries that were checked and found good have good names
pub checked_named : (book : List ℕ) (aoi : Bool) (before : List (List ℕ)) (es : List MemberEntry)
    → checked book aoi before es ≡ Ok tt → NamedEntries book es
unfolding checked Every
checked_named book aoi before [] q = tt
checked_named book aoi before (e ∷ es) q =
    let name = name_in book e.name in
    let g = good_only (good_name name) (among name before) (eqb e.local 1 && not aoi)
    (checked book aoi (name ∷ before) es) q in
    (g.0, checked_named book aoi (name ∷ before) es g.1)
