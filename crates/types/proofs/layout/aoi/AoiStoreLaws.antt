-- Laws of a stored AOI: its hosts, EnableIn and EnableOut, and its declared members have room one after the other,
-- and are its parts.
use Prim.Native.Nat.{ℕ, ◌+◌, ◌*◌, ◌≤◌}
use native.Mathlib.Omega.{arith}
use mathlib.Core.Path.{◌≡◌, sym, ◌∙◌}
use mathlib.Core.List.{List, ◌++◌}
use lib.ListN.{length, length-append}
use lib.Seq.{sets}
use Rattle.types.specs.inside.book.Decls.{decls_from}
use Rattle.types.specs.inside.layout.Passes.{parts_from, aoi_parts, PartsPut, Storable, StorableAoi}
use Rattle.types.specs.layout.HostNames.{host_name}
use Rattle.types.specs.layout.Structs.{names_of, rows_of, named_in, host_parts, enable_parts, aoi_start}
use Rattle.types.specs.tables.Defs.{Part}
use Rattle.types.specs.tables.Limits.{most_members, most_names}
use Rattle.types.proofs.layout.BoundLaws.{hosts_count}
use Rattle.types.proofs.layout.StoreLaws.{names_append, rows_then, names_then}

module _ {types book tys type : List ℕ} {at n h row place : ℕ} (s : StorableAoi types book tys type at n h row place)
  where
    abbrev rest : List Part
    rest = parts_from (named_in book) (host_name type) (aoi_start h) (decls_from types book tys at 0 n)

    parts : aoi_parts (named_in book) type (decls_from types book tys at 0 n) ≡ host_parts 0 h ++ (enable_parts ++ rest)
    unfolding aoi_parts
    parts = rw s.hosts

    -- how many rows and bytes of names the three take
    pub rows_room : row + (h + (2 + length rest)) ≤ most_members
    rows_room = omega (arith, hosts_count 0 h, simp (length-append, length-append) at (rw parts at s.rows))

    -- the names have room for the hosts' names, 17 bytes of EnableIn and EnableOut, and the members' names
    pub names_room : place + (length (names_of (host_parts 0 h)) + (17 + length (names_of rest))) ≤ most_names
    unfolding names_of
    names_room =
        omega (arith, simp (names_append, length-append, names_append, length-append) at (rw parts at s.names))

    -- the declared members can be stored after the hosts, EnableIn and EnableOut
    pub rest_storable : (at₂ : ℕ) → at₂ ≡ place + length (names_of (host_parts 0 h)) + 17
        → Storable types book tys type at n (aoi_start h) (row + h + 2) at₂
    rest_storable at₂ e =
        record {
          found = s.found;
          passed = most_members;
          few = omega (arith, s.few);
          far = record {
            offset = omega (arith, rows_room);
            members = omega (arith, rows_room);
            bits = omega arith;
            names = omega arith;
          };
          inside = s.inside;
          rows = omega (arith, rows_room);
          names = omega (arith, e, names_room);
        }

    module _ {m₀ t₀ m₁ t₁ m₂ t₂ : List ℕ} {p₁ p₂ : ℕ} (a : PartsPut (host_parts 0 h) row place m₀ t₀ m₁ t₁ p₁)
        (b : PartsPut enable_parts (row + h) p₁ m₁ t₁ m₂ t₂ p₂) where
      -- the declared members' names begin 17 bytes after the hosts' names
      pub third : p₂ ≡ place + length (names_of (host_parts 0 h)) + 17
      unfolding names_of
      third = b.next ∙ rw a.next

      -- the hosts, EnableIn and EnableOut, and the declared members, one after the other, are all parts
      pub all_rows : {m : List ℕ} → m ≡ sets m₂ (8 * (row + h + 2)) (rows_of p₂ rest)
          → m ≡ sets m₀ (8 * row) (rows_of place (aoi_parts (named_in book) type (decls_from types book tys at 0 n)))
      all_rows u =
          rw (u, b.rows, a.rows, parts, b.next, a.next)
          (sym (rows_then m₀ row place (host_parts 0 h) (enable_parts ++ rest)
          ∙ rw (hosts_count 0 h) (rows_then _ (row + h) _ enable_parts rest)))

      -- their names, one after the other, are the names of all parts
      pub all_names : {t : List ℕ} → t ≡ sets t₂ p₂ (names_of rest)
          → t ≡ sets t₀ place (names_of (aoi_parts (named_in book) type (decls_from types book tys at 0 n)))
      all_names u =
          rw (u, b.names, a.names, parts, b.next, a.next)
          (sym (names_then t₀ place (host_parts 0 h) (enable_parts ++ rest) ∙ names_then _ _ enable_parts rest))
