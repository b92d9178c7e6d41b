-- Laws of adding a type (document 01, "Refusal numbers"): what is known of a UDT, an AOI or a string where there is
-- room, and the ways out of a layout.
use Rattle.std.specs.Prelude.{Err}
use Prim.Native.Nat.{ℕ, ◌+◌, ◌/◌, ◌^◌, ◌≤◌}
use native.Mathlib.Omega.{arith}
use mathlib.Core.Path.{◌≡◌, refl, sym, ◌∙◌}
use mathlib.Core.Bool.{true, false}
use mathlib.Core.List.{List}
use lib.ListN.{length, length-append}
use Rattle.words.specs.Words.{Bytes}
use Rattle.types.specs.adding.Add.{Verdict, no, new_def, fitted, add_laid}
use Rattle.types.specs.inside.adding.Add.{Usable, Declared}
use Rattle.types.specs.inside.book.Decls.{decls_from}
use Rattle.types.specs.inside.layout.Passes.{udt_parts, parts_of, measured_of, StorableType, StorableAoi, Storable}
use Rattle.types.specs.inside.layout.Passes.{came}
use Rattle.types.specs.inside.layout.Passes.{BoolsCounted}
use Rattle.types.specs.layout.Placing.{align_up, fault_number}
use Rattle.types.specs.layout.Structs.{names_of, named_in, rounded_size, udt_start, aoi_hosts, laid_kind, string_parts}
use Rattle.types.specs.tables.Defs.{Part}
use Rattle.types.specs.tables.Registry.{View}
use Rattle.types.specs.declared.adding.new_types.NewType.{NewType}
use Rattle.types.specs.declared.layout.placing.LayoutFault.{LayoutFault}
use Rattle.types.specs.declared.layout.placing.LayoutFault.TheVariants.{AccessWrong, TooFar}
use Rattle.types.specs.declared.layout.placing.Cursor.{Cursor}
use Rattle.types.specs.declared.layout.placing.Decl.{Decl}
use Rattle.types.proofs.adding.AddLaws.{type_fits, string_fits}
use Rattle.types.proofs.adding.AddStoreLaws.{declared_found, decls_able, decl_inside, decls_named, Roomy}
use Rattle.types.proofs.adding.AddStoreLaws.{PartsCounted}
use Rattle.types.proofs.layout.BoundLaws.{type_count, type_names, type_most}
use Rattle.types.proofs.layout.LaidOutLaws.{laid_passes}

-- ---- strings

-- a string has two parts, with seven bytes of names beside its own name
pub string_counted : (name : List ℕ) (capacity n : ℕ) → PartsCounted name (string_parts capacity) n 2 (length name + 7)
unfolding string_parts names_of
string_counted name capacity n =
    record { count = refl; long = length-append name _; fit = string_fits n capacity }

-- ---- UDTs and AOIs

-- the verdict on what was measured
module _ (v : View) (book name : List ℕ) (new : NewType) (ds : List Decl) where
  abbrev verdict : Verdict
  verdict = add_laid v book new.number new.aoi name new.id ds

  -- where a member's access is wrong, or it ends too far, the verdict is that refusal with the type's number
  pub laid_fault : (f : LayoutFault) → Err f ≡ measured_of new.aoi name ds → verdict ≡ no (fault_number f, new.number)
  unfolding add_laid
  laid_fault AccessWrong q = rw (laid_passes new.aoi (named_in book) name ds, ← q)
  laid_fault TooFar q = rw (laid_passes new.aoi (named_in book) name ds, ← q)

  -- where all members are measured, the verdict is the new type of the rounded size, or 13
  pub laid_fitted : {c : Cursor} {long : ℕ} → came c long ≡ measured_of new.aoi name ds
      → verdict
      ≡ fitted v new.number
      (new_def v name new.id (rounded_size c) (laid_kind new.aoi) (parts_of new.aoi (named_in book) name ds))
  unfolding add_laid
  laid_fitted q = rw (laid_passes new.aoi (named_in book) name ds, ← q)

module _ {types names book tys : List ℕ} (new : NewType) (ready : Usable types names new.used)
    (d : Declared book tys new.used.types new.at new.count) (name : List ℕ) {c : Cursor} {long : ℕ}
    (q : came c long ≡ measured_of new.aoi name (decls_from types book tys new.at 0 new.count)) where
  abbrev ds : List Decl
  ds = decls_from types book tys new.at 0 new.count

  abbrev parts : List Part
  parts = parts_of new.aoi (named_in book) name ds

  names_long : length (names_of parts) ≡ long
  names_long = type_names new.aoi (named_in book) name ds c long (sym q) (decls_named d types)

  -- a measured type has as many parts and bytes of names as were measured, and rows can hold its parts
  pub laid_counted : Bytes book → PartsCounted name parts new.used.types c.members (length name + long)
  laid_counted b =
      record {
        count = type_count new.aoi (named_in book) name ds c long (sym q);
        long = length-append name (names_of parts) ∙ rw names_long;
        fit = type_fits new.aoi new.used.types (named_in book) name ds (decls_able d types b);
      }

  module _ (room : Roomy new.used c.members (length name + long)) where
    -- a measured layout for which there is room ends at or below 2^27
    pub laid_near : c.offset ≤ 2 ^ 27
    unfolding align_up
    laid_near = omega (arith, type_most new.aoi name ds c long (sym q) (omega (arith, room.members)))

    -- the declared members of a measured type for which there is room can be stored
    pub laid_storable : StorableType types book tys name new
    laid_storable =
        record {
          found = declared_found d ready.rows.few;
          few = d.few;
          inside = decl_inside d types;
          rows = omega (arith, type_count new.aoi (named_in book) name ds c long (sym q), room.members);
          names = omega (arith, names_long, room.bytes);
        }

-- what can be stored, by its kind
module _ {types book tys type : List ℕ} {new : NewType} (s : StorableType types book tys type new) where
  -- an AOI that can be stored can be so with its hosts, after what is used and its own name
  pub storable_aoi : new.aoi ≡ true → {h : ℕ} → h ≡ aoi_hosts (decls_from types book tys new.at 0 new.count)
      → StorableAoi types book tys type new.at new.count h new.used.members (new.used.bytes + length type)
  storable_aoi a e =
      record {
        found = s.found;
        few = s.few;
        hosts = e;
        inside = s.inside;
        rows = rw a at s.rows;
        names = rw a at s.names;
      }

  -- a UDT that can be stored can be so from the start of a layout, after what is used and its own name
  pub storable_udt : new.aoi ≡ false
      → Storable types book tys type new.at new.count udt_start new.used.members
      (new.used.bytes + length type)
  unfolding udt_parts
  storable_udt a =
      record {
        found = s.found;
        passed = 0;
        few = omega (arith, s.few);
        far = record { offset = omega arith; members = omega arith; bits = omega arith; names = omega arith };
        inside = s.inside;
        rows = rw a at s.rows;
        names = rw a at s.names;
      }

-- where the BOOLs are counted, the hosts are as many as they ask for
pub hosts_counted : {n r h : ℕ} {ds : List Decl} → BoolsCounted n ds r → h ≡ (2 + r + 31) / 32 → h ≡ aoi_hosts ds
unfolding aoi_hosts
hosts_counted b e = e ∙ rw b.is
