-- A visible member that is no structure, set in an image (document 01, "Writing"): by its bit and its type it is one
-- bit, or atomics from a byte on, and it lies in the image.
use Rattle.std.specs.Prelude.{Option, Some, None}
use Prim.Native.Nat.{ℕ, ◌+◌, ◌*◌, ◌<◌, ◌≤◌}
use native.Mathlib.Omega.{arith}
use mathlib.Core.Path.{◌≡◌, sym, ap, ◌∙◌}
use mathlib.Core.Bool.{false, true≢false}
use mathlib.Core.List.{List}
use lib.ListN.{length}
use Rattle.words.specs.Bits.{Bits}
use Rattle.types.specs.atomics.Atomic.{size_of}
use Rattle.types.specs.layout.Laid.{first_bit, first_in}
use Rattle.types.specs.layout.Placing.{times}
use Rattle.types.specs.tables.Lent.{member_at}
use Rattle.types.specs.declared.atomics.atomic.Atomic.{Atomic}
use Rattle.types.specs.declared.tables.member.Member.{Member}
use Rattle.types.specs.declared.tables.member.Ty.TheVariants as ty
use Rattle.values.specs.inside.reading.Walk.{is_nested}
use Rattle.values.specs.inside.writing.Rows.{LeafRow, MemberHere, member_tree}
use Rattle.values.specs.reading.Leaf.{flag}
use Rattle.values.specs.reading.Tree.{Tree}
use Rattle.values.specs.reading.Trees.{atomics_tree}
use Rattle.values.specs.stream.Stream.{Token}
use Rattle.values.specs.writing.Effects.{or_null, taken}
use Rattle.values.specs.writing.Writing.{write, write_one}
use Rattle.values.proofs.reading.LeafLaws.{row_bit}

-- the member of a row was read, with its place and its count
pub record LeafHere (members : List ℕ) (row base : ℕ) (image : List ℕ) (m : Member) (from n : ℕ) : Type 0 where
  pub is : m ≡ member_at members row
  pub leaf : LeafRow members row
  pub sizes : ℕ → ℕ
  pub here : MemberHere sizes (member_at members row) base image
  pub start : from ≡ m.offset
  pub count : n ≡ m.count

-- a member begins in the image
bit_start : (b : Option ℕ) (base offset bits long : ℕ) → 8 * base + (first_in b offset + bits) ≤ 8 * long
    → base + offset ≤ long
bit_start None base offset bits long h = omega arith
bit_start (Some k) base offset bits long h = omega arith

module _ {members : List ℕ} {row base : ℕ} {image : List ℕ} {m : Member} {from n : ℕ}
    (w : LeafHere members row base image m from n) where
  -- the member begins in the image
  pub leaf_start : base + from ≤ length image
  leaf_start =
      let h = rw (← w.is) at w.here.inside in
      rw w.start (bit_start m.bit base m.offset _ (length image) h)

  -- a BOOL is one bit of a byte
  module _ {k : ℕ} (e : m.bit ≡ Some k) where
    -- its byte lies in the image, and its bit in that byte
    pub flag_inside : (base + from < length image) × (k < 8)
    flag_inside =
        let h : 8 * base + (8 * m.offset + k + 1) ≤ 8 * length image = rw (← w.is, e) at w.here.inside in
        (omega (arith, w.start), row_bit members row k (ap (λ (x : Member). x.bit) (sym w.is) ∙ e))

    -- writing the member is writing one bool or null at that bit
    pub flag_is : (trees : ℕ → Tree) (ts : List Token) (z : Bits)
        → write (member_tree trees (member_at members row)) (8 * base + first_bit (member_at members row)) ts z
        ≡ write_one (or_null (taken flag)) 1 (8 * (base + from) + k) ts z
    unfolding write
    flag_is trees ts z =
        let at : 8 * base + (8 * m.offset + k) ≡ 8 * (base + from) + k = omega (arith, w.start) in
        rw (← w.is, e) (ap (λ (p : ℕ). write_one (or_null (taken flag)) 1 p ts z) at)

  -- atomics from a byte on
  module _ {a : Atomic} (none : m.bit ≡ None) (e : m.ty ≡ ty.Atomic a) where
    -- their bytes lie in the image
    pub atomics_inside : base + from + size_of a * times n ≤ length image
    atomics_inside =
        let h : 8 * base + (8 * m.offset + 8 * (size_of a * times m.count)) ≤ 8 * length image =
        rw (← w.is, none, e) at w.here.inside in
        rw w.count (omega (arith, w.start))

    -- writing the member is writing these atomics from that byte on
    pub atomics_is : (trees : ℕ → Tree) (ts : List Token) (z : Bits)
        → write (member_tree trees (member_at members row)) (8 * base + first_bit (member_at members row)) ts z
        ≡ write (atomics_tree a n) (8 * (base + from)) ts z
    atomics_is trees ts z =
        let at : 8 * base + 8 * m.offset ≡ 8 * (base + from) = omega (arith, w.start) in
        rw (← w.is, none, e, w.count) (ap (λ (p : ℕ). write (atomics_tree a m.count) p ts z) at)

  -- a visible row that is not nested and has no bit is no structure
  pub nested_never : {i : ℕ} → m.bit ≡ None → m.ty ≡ ty.Struct i → ⊥
  unfolding is_nested
  nested_never none e =
      let shown : m.hidden ≡ false = ap (λ (x : Member). x.hidden) w.is ∙ w.leaf.visible in
      true≢false (rw (← w.is, shown, none, e) at w.leaf.flat)
