-- How large a layout gets (document 01, "Layout"): as many parts and bytes of names as were counted, and at most
-- 2^26 + 224 bytes where at most 2,000 members result.
use Rattle.std.specs.Prelude.{Result}
use Prim.Native.Nat.{ℕ, zero, suc, ◌+◌, ◌-◌, ◌*◌, ◌≤◌}
use native.Mathlib.Omega.{arith}
use mathlib.Core.Path.{◌≡◌, refl, ap}
use mathlib.Core.Bool.{Bool, true, false}
use mathlib.Core.List.{List, [], ◌∷◌}
use lib.ListN.{length, length-append}
use Rattle.types.specs.inside.layout.Passes.{then_parts, parts_from, measured, udt_parts, aoi_parts, parts_of, came}
use Rattle.types.specs.inside.layout.Passes.{measured_aoi, measured_of}
use Rattle.types.specs.layout.HostNames.{host_name}
use Rattle.types.specs.layout.Laid.{Every}
use Rattle.types.specs.layout.Placing.{most_size, align_up, opened, next_bit}
use Rattle.types.specs.layout.Structs.{names_of, rounded_size, udt_start, aoi_hosts, host_parts, aoi_start, string_size}
use Rattle.types.specs.tables.Defs.{Part}
use Rattle.types.specs.tables.Limits.{most_members}
use Rattle.types.specs.declared.layout.placing.Cursor.{Cursor}
use Rattle.types.specs.declared.layout.placing.Decl.{Decl}
use Rattle.types.specs.declared.layout.placing.Host.{Host}
use Rattle.types.specs.declared.layout.placing.Host.TheVariants.{Closed, Open, Shared}
use Rattle.types.specs.declared.layout.placing.LayoutFault.{LayoutFault}
use Rattle.types.specs.declared.layout.placing.Placed.{Placed}
use Rattle.types.proofs.layout.PlaceLaws.{Full, place_cases, LayoutEnds, no_access, no_far, past_other, came_cursor}
use Rattle.types.proofs.layout.PlaceLaws.{came_names}
use Rattle.types.proofs.layout.StoreLaws.{names_append}

-- ---- the counts

module _ (name : Decl → List ℕ) (host : ℕ → List ℕ) (e : Cursor) (n' : ℕ) where
  -- the parts from a step on
  abbrev after : Cursor → Decl → List Decl → Result Placed LayoutFault → List Part
  after c d ds p = then_parts p (host c.members) (name d) (λ c'. parts_from name host c' ds)

  -- there are as many parts as were counted
  pub parts_count : (ds : List Decl) (c : Cursor) (n : ℕ) → measured host c n ds ≡ came e n'
      → c.members + length (parts_from name host c ds) ≡ e.members
  unfolding measured parts_from opened next_bit
  parts_count [] c n q = rw (came_cursor q) (omega arith)
  parts_count (d ∷ ds) c n q =
      place_cases (λ p. LayoutEnds host e n' c n d ds p → c.members + length (after c d ds p) ≡ e.members) c d
      (record {
        wrong = λ a r. no_access r;
        opens = λ b f r. omega (arith, parts_count ds _ _ r);
        next = λ b byte bit h l r. omega (arith, parts_count ds _ _ r);
        shared = λ b i h r. omega (arith, parts_count ds _ _ r);
        other = λ b l r. omega (arith, parts_count ds _ _ r);
        far = λ b l r. no_far r;
      })
      q

  -- and as many bytes of names
  pub names_count : (ds : List Decl) (c : Cursor) (n : ℕ) → Every (λ d. length (name d) ≡ d.name.long) ds
      → measured host c n ds ≡ came e n' → n + length (names_of (parts_from name host c ds)) ≡ n'
  unfolding measured parts_from opened next_bit names_of Every
  names_count [] c n l q = omega (arith, came_names q)
  names_count (d ∷ ds) c n (l, ls) q =
      place_cases (λ p. LayoutEnds host e n' c n d ds p → n + length (names_of (after c d ds p)) ≡ n') c d
      (record {
        wrong = λ a r. no_access r;
        opens = λ b f r. simp length-append (omega (arith, names_count ds _ _ ls r));
        next = λ b byte bit h k r. simp length-append (omega (arith, names_count ds _ _ ls r));
        shared = λ b i h r. simp length-append (omega (arith, names_count ds _ _ ls r));
        other = λ b k r. simp length-append (omega (arith, names_count ds _ _ ls r));
        far = λ b k r. no_far r;
      })
      q

-- h hosts are h parts
pub hosts_count : (k h : ℕ) → length (host_parts k h) ≡ h
unfolding host_parts
hosts_count k zero = refl
hosts_count k (suc h) = ap suc (hosts_count (k + 1) h)

module _ (name : Decl → List ℕ) (type : List ℕ) (ds : List Decl) (n₀ : ℕ) (c : Cursor) (n : ℕ)
    (q : measured (host_name type) udt_start n₀ ds ≡ came c n) where
  udt_count : length (udt_parts name type ds) ≡ c.members
  unfolding udt_parts
  udt_count = omega (arith, parts_count name (host_name type) c n ds udt_start n₀ q)

  udt_names : Every (λ d. length (name d) ≡ d.name.long) ds → n₀ + length (names_of (udt_parts name type ds)) ≡ n
  unfolding udt_parts
  udt_names l = names_count name (host_name type) c n ds udt_start n₀ l q

-- an AOI's names begin with its hosts', EnableIn and EnableOut, which have 17 bytes
module _ (name : Decl → List ℕ) (type : List ℕ) (ds : List Decl) (n₀ : ℕ) (c : Cursor) (n : ℕ)
    (q : measured (host_name type) (aoi_start (aoi_hosts ds)) n₀ ds ≡ came c n) where
  aoi_count : length (aoi_parts name type ds) ≡ c.members
  unfolding aoi_parts
  aoi_count =
      let h = aoi_hosts ds in
      simp length-append (omega (arith, hosts_count 0 h, parts_count name (host_name type) c n ds (aoi_start h) n₀ q))

  aoi_names : Every (λ d. length (name d) ≡ d.name.long) ds
      → n₀ ≡ length (names_of (host_parts 0 (aoi_hosts ds))) + 17 → length (names_of (aoi_parts name type ds)) ≡ n
  unfolding aoi_parts names_of
  aoi_names l e =
      let h = aoi_hosts ds in
      simp (names_append, length-append) (omega (arith, names_count name (host_name type) c n ds (aoi_start h) n₀ l q))

-- a UDT or an AOI has as many parts as were counted
pub type_count : (aoi : Bool) (name : Decl → List ℕ) (type : List ℕ) (ds : List Decl) (c : Cursor) (n : ℕ)
    → measured_of aoi type ds ≡ came c n → length (parts_of aoi name type ds) ≡ c.members
unfolding measured_aoi
type_count true name type ds c n q = aoi_count name type ds _ c n q
type_count false name type ds c n q = udt_count name type ds 0 c n q

-- a UDT or an AOI has as many bytes of names as were counted, where each is as long as its entry says
pub type_names : (aoi : Bool) (name : Decl → List ℕ) (type : List ℕ) (ds : List Decl) (c : Cursor) (n : ℕ)
    → measured_of aoi type ds ≡ came c n → Every (λ d. length (name d) ≡ d.name.long) ds
    → length (names_of (parts_of aoi name type ds)) ≡ n
unfolding measured_aoi
type_names true name type ds c n q l = aoi_names name type ds _ c n q l refl
type_names false name type ds c n q l = omega (arith, udt_names name type ds 0 c n q l)

-- ---- the size

-- bits that the open host has left
abbrev spare : Host → ℕ
spare Closed = 0
spare (Open byte bit) = 8 - bit
spare (Shared i) = 0

spare_full : (h : Host) → Full h → spare h ≡ 0
spare_full Closed f = refl
spare_full (Open byte bit) f = omega arith
spare_full (Shared _) f = elim f [ ]

spare_most : (h : Host) → spare h ≤ 8
spare_most Closed = omega arith
spare_most (Open byte bit) = omega arith
spare_most (Shared i) = omega arith

-- opening a host past 2^26 costs nine members in the end: itself, and the eight bits of which some may be left
abbrev NearEnd : Cursor → Type 0
NearEnd c = 9 * c.offset ≤ 9 * most_size + (c.members + spare c.host)

module _ (host : ℕ → List ℕ) (e : Cursor) (n' : ℕ) where
  near : (c : Cursor) (n : ℕ) (ds : List Decl) → NearEnd c → measured host c n ds ≡ came e n' → NearEnd e
  unfolding measured opened next_bit
  near c n [] k q = rw (← came_cursor q) k
  near c n (d ∷ ds) k q =
      place_cases (λ p. LayoutEnds host e n' c n d ds p → NearEnd e) c d
      (record {
        wrong = λ a r. no_access r;
        opens = λ b f r.
            near (record { offset = c.offset + 1; host = Open c.offset 1; members = c.members + 2 }) _ ds
            (omega (arith, spare_full c.host f)) r;
        next = λ b byte bit h l r.
            near (record { offset = c.offset; host = Open byte (bit + 1); members = c.members + 1 }) _ ds
            (let j = rw h at k in omega arith) r;
        shared = λ b i h r.
            near (record { offset = c.offset; host = Shared (i + 1); members = c.members + 1 }) _ ds
            (let j = rw h at k in omega arith) r;
        other = λ b l r. near (past_other c d) _ ds (omega arith) r;
        far = λ b l r. no_far r;
      })
      q

  -- 2,000 members are at most 222 hosts of nine and one of two past 2^26
  size_most : (c : Cursor) (n : ℕ) (ds : List Decl) → NearEnd c → measured host c n ds ≡ came e n'
      → e.members ≤ most_members
      → rounded_size e ≤ most_size + 224
  unfolding align_up
  size_most c n ds k q l = omega (arith, near c n ds k q, spare_most e.host)

-- the hosts of an AOI are members too
module _ (host : ℕ → List ℕ) (n₀ : ℕ) (ds : List Decl) (c : Cursor) (n : ℕ) where
  udt_most : measured host udt_start n₀ ds ≡ came c n → c.members ≤ most_members → rounded_size c ≤ most_size + 224
  udt_most q l = size_most host c n udt_start n₀ ds (omega arith) q l

  aoi_most : (h : ℕ) → measured host (aoi_start h) n₀ ds ≡ came c n → c.members ≤ most_members
      → rounded_size c ≤ most_size + 224
  aoi_most h q l =
      let few = parts_count (λ d. []) host c n ds (aoi_start h) n₀ q in
      size_most host c n (aoi_start h) n₀ ds (omega arith) q l

-- a UDT or an AOI of at most 2,000 members has at most 2^26 + 224 bytes
pub type_most : (aoi : Bool) (type : List ℕ) (ds : List Decl) (c : Cursor) (n : ℕ)
    → measured_of aoi type ds ≡ came c n → c.members ≤ most_members → rounded_size c ≤ most_size + 224
unfolding measured_aoi
type_most true type ds c n q l = aoi_most (host_name type) _ ds c n (aoi_hosts ds) q l
type_most false type ds c n q l = udt_most (host_name type) 0 ds c n q l

-- refusal 7 keeps a string's capacity at or below 2^26 - 4
pub string_most : (c : ℕ) → c ≤ most_size - 4 → string_size c ≤ most_size
unfolding string_size align_up
string_most c l = omega arith
