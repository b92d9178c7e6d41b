-- Laws of waste (document 01, "Template and handle", added): the bits of the rows from one on, one row after the other,
-- and that they are few enough to add up.
use Rattle.std.specs.Prelude.{None}
use Prim.Native.Nat.{ℕ, ◌+◌, ◌-◌, ◌*◌, ◌^◌, ◌≤◌, ◌<◌}
use native.Mathlib.Nat.{add-zero}
use native.Mathlib.Omega.{arith}
use mathlib.Core.Path.{◌≡◌, ◌∙◌}
use mathlib.Core.Bool.{false}
use mathlib.Core.List.{List}
use Rattle.types.specs.inside.templates.Waste.{Fitting, SeenBits, Countable}
use Rattle.types.specs.layout.Placing.{times}
use Rattle.types.specs.tables.Defs.{part_at, parts_at, def_of}
use Rattle.types.specs.tables.Lent.{member_at}
use Rattle.types.specs.tables.Sizes.{size_in, sizes_in}
use Rattle.types.specs.templates.Waste.{visible_bits, waste_of, waste_in}
use Rattle.types.specs.declared.tables.member.Member.{Member}
use Rattle.types.specs.declared.tables.member.StructDef.{StructDef}
use Rattle.types.proofs.templates.TemplateLaws.{row_type, parts_on, parts_off}

-- ---- one member

-- the bits of a visible member without a bit of its own are those of all its elements
pub whole_bits : (types : List ℕ) (m : Member) {size n : ℕ} → m.hidden ≡ false → m.bit ≡ None
    → size ≡ size_in (sizes_in types) m.ty → n ≡ times m.count → Fitting types m → SeenBits types m (8 * (size * n))
whole_bits types m e f p q h = record { is = rw (e, f, p, q); small = rw (p, q) (omega (arith, h.small f)) }

-- ---- the rows

-- the bits of the rows from first to row, and of those from it to the end, are the bits of all
pub record CountingBits (types members : List ℕ) (first end bits row : ℕ) : Type 0 where
  pub small : bits ≤ row * 2 ^ 31
  pub rest : (names : List ℕ) → visible_bits (sizes_in types) (parts_at members names first (end - first))
      ≡ bits + visible_bits (sizes_in types) (parts_at members names row (end - row))

-- before the first row no bits are counted, and those of all rows are left
pub count_first : (types members : List ℕ) (first end : ℕ) → CountingBits types members first end 0 first
count_first types members first end = record { small = omega arith; rest = λ names. omega arith }

module _ {types members : List ℕ} {first end bits row : ℕ} (w : CountingBits types members first end bits row) where
  count_step : {more : ℕ} → row < end → SeenBits types (member_at members row) more → (names : List ℕ)
      → bits + visible_bits (sizes_in types) (parts_at members names row (end - row))
      ≡ bits + more + visible_bits (sizes_in types) (parts_at members names (row + 1) (end - (row + 1)))
  unfolding visible_bits part_at
  count_step h s names = rw (parts_on members names row end h) (omega (arith, s.is))

  -- the bits of the next row are counted, and those of the rows after it are left
  pub count_on : {more : ℕ} → row < end → SeenBits types (member_at members row) more
      → CountingBits types members first end (bits + more) (row + 1)
  count_on h s =
      record {
        small = omega (arith, w.small, s.small);
        rest = λ names. w.rest names ∙ count_step h s names;
      }

  -- where no row is left, the size in bits less the bits that were counted is the waste
  pub count_done : (d : StructDef) → first ≡ d.first → end ≡ d.first + d.count → end ≤ row → (names : List ℕ)
      → 8 * d.size - bits ≡ waste_in types members names d
  unfolding waste_of def_of visible_bits
  count_done d p q h names =
      let n : end - first ≡ d.count = omega arith in
      let all : visible_bits (sizes_in types) (parts_at members names first (end - first)) ≡ bits =
      w.rest names ∙ rw (parts_off members names row end h) (add-zero bits) in
      rw (← all, n, p)

-- a row of a structure that can be counted
pub row_fitting : {types members : List ℕ} {d : StructDef} {row : ℕ} → d.first ≤ row → row < d.first + d.count
    → Countable types members d → Fitting types (member_at members row)
row_fitting {types} {members} {d} {row} l h r =
    let nth : d.first + (row - d.first) ≡ row = omega arith in
    record { ty = row_type l h r.rows; small = rw nth at (r.small (row - d.first) (omega arith)) }
