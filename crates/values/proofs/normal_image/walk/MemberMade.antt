-- A plain member made normal in place (document 01, "Normal image"): what its row says of where it lies, and of what is
-- between it and the byte from which on its structure is still to be swept.
use Rattle.std.specs.Prelude.{None}
use Prim.Native.Nat.{ℕ, ◌+◌, ◌-◌, ◌*◌, ◌<◌, ◌≤◌}
use native.Mathlib.Nat.{mul-one}
use native.Mathlib.Omega.{arith}
use borrow.Author.Tests.{eq-eqb, ne_eqb}
use mathlib.Core.Path.{◌≡◌, refl, sym, ap, ap₂, ◌∙◌}
use mathlib.Core.List.{List}
use lib.ListN.{length, replicate}
use lib.Seq.{sets, length-sets}
use borrow.Rule.Slice.PartMut.{mid_of, put_mid}
use Rattle.words.specs.Bits.{flat}
use Rattle.types.specs.atomics.Atomic.{size_of}
use Rattle.types.specs.layout.Laid.{first_bit}
use Rattle.types.specs.layout.Placing.{times}
use Rattle.types.specs.tables.Lent.{member_at}
use Rattle.types.specs.tables.Limits.{most_types}
use Rattle.types.specs.tables.Sizes.{sizes_in}
use Rattle.types.specs.declared.atomics.atomic.Atomic.{Atomic}
use Rattle.types.specs.declared.tables.member.Member.{Member}
use Rattle.types.specs.declared.tables.member.Ty.TheVariants as ty
use Rattle.types.proofs.Face.{times_one, times_same}
use Rattle.values.specs.inside.normal_image.InPlace.{OnwardTo, PlainRow, cleared, made, onward}
use Rattle.values.specs.inside.normal_image.Placed.{Sweepable}
use Rattle.values.specs.inside.writing.Rows.{AllHere, Here, member_tree, tree_in}
use Rattle.values.specs.reading.Tree.{Tree, array, span}
use Rattle.values.specs.reading.Trees.{atomics_tree, structs_tree}
use Rattle.values.proofs.normal_image.FilledLaws.{zeros_filled}
use Rattle.values.proofs.normal_image.SweepableLaws.{plain_is, sweepable_walkable}
use Rattle.values.proofs.reading.SpanLaws.{atomics_span, sound_all, value_span}
use Rattle.values.proofs.writing.ClearLaws.{zeros_cleared}

-- ---- a plain member was read

-- with its place and its count; its structure begins at `base`, and is swept up to byte c
pub record PlainHere (types members : List ℕ) (i row base c : ℕ) (image : List ℕ) (m : Member) (start n : ℕ)
    : Type 0 where
  pub sweepable : Sweepable types members
  pub row_of : PlainRow types members i row c
  pub here : Here types i base image
  pub is : m ≡ member_at members row
  pub at : start ≡ m.offset
  pub count : n ≡ m.count

module _ {types members : List ℕ} {i row base c : ℕ} {image : List ℕ} {m : Member} {start n : ℕ}
    (w : PlainHere types members i row base c image m start n) where
  abbrev trees : ℕ → Tree
  trees = tree_in types members

  whole : m.bit ≡ None
  whole = ap (λ (x : Member). x.bit) w.is ∙ (plain_is (member_at members row) w.row_of.plain).whole

  first_row_is : first_bit (member_at members row) ≡ 8 * start
  first_row_is = rw (← w.is, whole, w.at) refl

  -- a plain member begins at or after the byte up to which its structure is swept
  pub plain_after : c ≤ start
  plain_after = omega (arith, first_row_is, w.row_of.after)

  -- a plain member begins in the image
  plain_start : base + start ≤ length image
  plain_start = omega (arith, first_row_is, w.row_of.row_of.within.inside, w.here.inside)

  -- and so does what is before it
  plain_gap : base + c + (start - c) ≤ length image
  plain_gap = omega (arith, plain_start, plain_after)

  -- that is cleared
  abbrev Gap : List ℕ → Type 0
  Gap mid = mid ≡ sets image (base + c) (replicate (start - c) 0)

  -- where it is filled with zeros
  pub gap_filled : {part : List ℕ}
      → part ≡ replicate (length (mid_of (base + c) (base + start - (base + c)) image)) 0
      → Gap (put_mid (base + c) (base + start - (base + c)) image part)
  gap_filled f =
      zeros_filled image (base + c) (base + start) (start - c) (omega (arith, plain_after)) plain_start f

  module _ {mid : List ℕ} (e : Gap mid) where
    gap_long : length mid ≡ length image
    gap_long = ap length e ∙ length-sets image (base + c) (replicate (start - c) 0)

    gap_cleared : flat mid ≡ cleared (8 * base + 8 * c) (first_bit (member_at members row) - 8 * c) (flat image)
    gap_cleared =
        let p : 8 * (base + c) ≡ 8 * base + 8 * c = omega arith in
        let q : 8 * (start - c) ≡ first_bit (member_at members row) - 8 * c = omega (arith, first_row_is, plain_after)
        in
        ap flat e ∙ zeros_cleared image (base + c) (start - c) plain_gap
        ∙ ap₂ (λ (k j : ℕ). cleared k j (flat image)) p q

    -- the member is a tree of so many bytes, and that is made normal
    onward_to : (t : Tree) (bytes r : ℕ) {new : List ℕ} → member_tree trees (member_at members row) ≡ t
        → span t ≡ 8 * bytes → r ≡ start + bytes → flat new ≡ made t (8 * (base + start)) (flat mid)
        → OnwardTo trees base c (member_at members row) image new r
    unfolding onward
    onward_to t bytes r f s q d =
        let p : 8 * (base + start) ≡ 8 * base + first_bit (member_at members row) = omega (arith, first_row_is) in
        record {
          next = omega (arith, q, first_row_is, ap span f ∙ s);
          bits = d ∙ ap (made t (8 * (base + start))) gap_cleared
              ∙ ap₂ (λ (u : Tree) (k : ℕ). made u k
              (cleared (8 * base + 8 * c) (first_bit (member_at members row) - 8 * c) (flat image))) (sym f) p;
        }

  -- ---- atomics

  module _ {a : Atomic} (type : m.ty ≡ ty.Atomic a) where
    atomics_inside : base + start + size_of a * times n ≤ length image
    atomics_inside =
        let h : 8 * m.offset + 8 * (size_of a * times m.count) ≤ 8 * sizes_in types i =
        rw (← w.is, whole, type) at w.row_of.row_of.within.inside in
        rw w.count (omega (arith, w.at, w.here.inside))

    -- the bytes of atomics lie in the image whose gap is cleared
    pub atomics_here : {mid : List ℕ} → Gap mid → base + start + size_of a * times n ≤ length mid
    atomics_here e = omega (arith, atomics_inside, gap_long e)

    atomics_tree_lem : member_tree trees (member_at members row) ≡ atomics_tree a n
    atomics_tree_lem = rw (← w.is, whole, type, w.count) refl

    module _ {size k : ℕ} (s : size ≡ size_of a) (q : k ≡ times n) where
      atomics_bytes : size * k ≡ size_of a * times n
      atomics_bytes = ap₂ ◌*◌ s q

      -- the end of atomics in their structure is at most the image's length
      pub atomics_end : start + size * k ≤ length image
      atomics_end = omega (arith, atomics_inside, atomics_bytes)

      -- the gap cleared and the atomics made normal: the sweep is on to the byte after them
      pub atomics_onward : {mid new : List ℕ} → Gap mid
          → flat new ≡ made (atomics_tree a n) (8 * (base + start)) (flat mid)
          → OnwardTo trees base c (member_at members row) image new (start + size * k)
      atomics_onward e d =
          onward_to e (atomics_tree a n) (size_of a * times n) (start + size * k) atomics_tree_lem (atomics_span a n)
          (ap (λ (b : ℕ). start + b) atomics_bytes) d

  -- ---- a structure, or an array of structures

  module _ {t : ℕ} (type : m.ty ≡ ty.Struct t) where
    -- a member that is a structure has an earlier one as its type
    pub struct_below : t < i
    struct_below = rw (← w.is, type) at w.row_of.row_of.within.earlier

    -- and the number of that structure is below 200
    struct_low : t < most_types
    struct_low = omega (arith, struct_below, w.here.low)

    structs_inside : base + start + sizes_in types t * times n ≤ length image
    structs_inside =
        let h : 8 * m.offset + 8 * (sizes_in types t * times m.count) ≤ 8 * sizes_in types i =
        rw (← w.is, whole, type) at w.row_of.row_of.within.inside in
        rw w.count (omega (arith, w.at, w.here.inside))

    structs_tree_lem : member_tree trees (member_at members row) ≡ structs_tree trees t n
    structs_tree_lem = rw (← w.is, whole, type, w.count) refl

    structs_bits : span (structs_tree trees t n) ≡ 8 * (sizes_in types t * times n)
    structs_bits =
        value_span types members trees most_types (sound_all types members (sweepable_walkable w.sweepable))
        (ty.Struct t) n
        struct_low

    module _ (none : n ≡ 0) where
      one_bytes : sizes_in types t ≡ sizes_in types t * times n
      one_bytes = sym (mul-one (sizes_in types t)) ∙ ap (λ (k : ℕ). sizes_in types t * k) (times_one n none)

      one_tree : structs_tree trees t n ≡ trees t
      unfolding structs_tree
      one_tree = rw (eq-eqb n 0 none) refl

      -- the bytes of one structure lie in the image whose gap is cleared
      pub one_here : {mid : List ℕ} → Gap mid → Here types t (base + start) mid
      one_here e = record { low = struct_low; inside = omega (arith, structs_inside, one_bytes, gap_long e) }

      module _ {size : ℕ} (s : size ≡ sizes_in types t) where
        -- the gap cleared and one structure made normal: the sweep is on to the byte after it
        pub one_onward : {mid new : List ℕ} → Gap mid → flat new ≡ made (trees t) (8 * (base + start)) (flat mid)
            → OnwardTo trees base c (member_at members row) image new (start + size)
        one_onward e d =
            onward_to e (trees t) (sizes_in types t) (start + size) (structs_tree_lem ∙ one_tree)
            (ap span (sym one_tree) ∙ structs_bits ∙ ap (8 *◌) (sym one_bytes)) (ap (λ (b : ℕ). start + b) s) d

    module _ (some : n ≡ 0 → ⊥) where
      all_bytes : sizes_in types t * n ≡ sizes_in types t * times n
      all_bytes = ap (λ (k : ℕ). sizes_in types t * k) (times_same n some)

      all_tree : structs_tree trees t n ≡ array n (trees t)
      unfolding structs_tree
      all_tree = rw (ne_eqb n 0 some) refl

      -- the bytes of an array of structures lie in the image whose gap is cleared
      pub all_here : {mid : List ℕ} → Gap mid → AllHere types t n (base + start) mid
      all_here e = record { low = struct_low; inside = omega (arith, structs_inside, all_bytes, gap_long e) }

      module _ {size : ℕ} (s : size ≡ sizes_in types t) where
        elements_bytes : size * n ≡ sizes_in types t * n
        elements_bytes = ap (λ (k : ℕ). k * n) s

        -- the gap cleared and an array of structures made normal: the sweep is on to the byte after it
        pub all_onward : {mid new : List ℕ} → Gap mid
            → flat new ≡ made (array n (trees t)) (8 * (base + start)) (flat mid)
            → OnwardTo trees base c (member_at members row) image new (start + size * n)
        all_onward e d =
            onward_to e (array n (trees t)) (sizes_in types t * n) (start + size * n) (structs_tree_lem ∙ all_tree)
            (ap span (sym all_tree) ∙ structs_bits ∙ ap (8 *◌) (sym all_bytes))
            (ap (λ (b : ℕ). start + b) elements_bytes) d
