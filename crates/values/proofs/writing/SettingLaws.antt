-- Structures and what their rows hold (document 01, "Writing"), set where the check accepted: a string is a text, any
-- other structure its members; what a row holds lies inside its structure's bytes; and values of a type.
use Prim.Native.Nat.{ℕ, ◌+◌, ◌*◌, ◌^◌, ◌<◌, ◌≤◌}
use native.Mathlib.Nat.{mul-one, mul-zero}
use native.Mathlib.Decide.{ℕ_discrete}
use native.Mathlib.Omega.{arith}
use borrow.Author.Tests.{eq-eqb, ne_eqb}
use mathlib.Core.Path.{◌≡◌, refl, sym, ap, ◌∙◌}
use mathlib.Core.Bool.{Bool, true, false}
use mathlib.Core.List.{List}
use lib.ListN.{length}
use Rattle.words.specs.Bits.{Bits}
use Rattle.types.specs.atomics.Atomic.{size_of}
use Rattle.types.specs.layout.Laid.{first_bit}
use Rattle.types.specs.layout.Placing.{times}
use Rattle.types.specs.tables.Lent.{member_at, type_at}
use Rattle.types.specs.tables.Limits.{most_types}
use Rattle.types.specs.tables.Sizes.{size_in, sizes_in}
use Rattle.types.specs.declared.atomics.atomic.Atomic.{Atomic}
use Rattle.types.specs.declared.tables.member.Member.{Member}
use Rattle.types.specs.declared.tables.member.StructDef.{StructDef}
use Rattle.types.specs.declared.tables.member.Ty.{Ty}
use Rattle.types.specs.declared.tables.member.Ty.TheVariants as ty
use Rattle.types.proofs.Face.{times_one, times_same}
use Rattle.values.specs.inside.reading.Walkable.{HeldIn, IsString, NestedRow, ValueImage, Walkable}
use Rattle.values.specs.inside.writing.Rows.{AllHere, Here, branches_in, member_tree, tree_in}
use Rattle.values.specs.reading.Texts.{capacity_at}
use Rattle.values.specs.reading.Tree.{Tree, array, struct}
use Rattle.values.specs.reading.Trees.{atomics_tree, is_string_kind, known_in, structs_tree, tree_of_value}
use Rattle.values.specs.stream.Stream.{Token}
use Rattle.values.specs.writing.Effects.{as_text, or_null}
use Rattle.values.specs.writing.Writing.{write, write_one}
use Rattle.values.specs.declared.reading.rows.Nested.{Nested}
use Rattle.values.proofs.reading.MemberLaws.{held_low, held_within, nested_whole}
use Rattle.values.proofs.writing.BranchLaws.{members_tree, one_tree, some_tree, string_tree}

-- ---- a structure, where d was read from its row

module _ {types members : List ℕ} (w : Walkable types members) {i base : ℕ} {image : List ℕ}
    (here : Here types i base image) {d : StructDef} (is : d ≡ type_at types i) {b : Bool}
    (test : b ≡ is_string_kind d.kind) where
  kind_is : is_string_kind (type_at types i).kind ≡ b
  kind_is = ap (λ (x : StructDef). is_string_kind x.kind) (sym is) ∙ sym test

  -- writing a structure that is no string is writing its members
  pub rows_write : b ≡ false → (p : ℕ) (ts : List Token) (z : Bits)
      → write (tree_in types members i) p ts z
      ≡ write (struct (8 * sizes_in types i) (branches_in types members i)) p ts z
  rows_write e p ts z =
      ap (λ (t : Tree). write t p ts z) (members_tree types members w i here.low (kind_is ∙ e))

  module _ (string : b ≡ true) {first : ℕ} (f : first ≡ d.first) where
    type_string : IsString members (type_at types i)
    type_string = (w.each i here.low).string (kind_is ∙ string)

    first_row_is : first ≡ (type_at types i).first
    first_row_is = f ∙ ap (λ (x : StructDef). x.first) is

    -- a string's second row is in the table
    pub text_rows : first < 1999
    text_rows = omega (arith, first_row_is, (w.each i here.low).rows, type_string.rows)

    module _ {capacity : ℕ} (q : capacity ≡ capacity_at members first) where
      capacity_is : capacity ≡ capacity_at members (type_at types i).first
      capacity_is = q ∙ ap (capacity_at members) first_row_is

      -- LEN and DATA of the string lie in the image
      pub text_fits : base + 4 + capacity ≤ length image
      text_fits = omega (arith, capacity_is, here.inside, type_string.size)

      -- writing the string is writing one text or null of its capacity
      pub text_write : (p : ℕ) (ts : List Token) (z : Bits)
          → write (tree_in types members i) p ts z
          ≡ write_one (or_null (as_text capacity)) (32 + 8 * capacity) p ts z
      unfolding write
      text_write p ts z =
          ap (λ (t : Tree). write t p ts z) (string_tree types members w i here.low (kind_is ∙ string))
          ∙ ap (λ (n : ℕ). write_one (or_null (as_text n)) (32 + 8 * n) p ts z) (sym capacity_is)

-- ---- a structure, or an array of structures, in a row

-- it holds a structure, or so many of it, from a start on
pub record Holds (types members : List ℕ) (i row base : ℕ) (image : List ℕ) (r : Nested) : Type 0 where
  pub nested : NestedRow types members i row
  pub here : Here types i base image
  pub held : HeldIn (member_at members row) r

module _ {types members : List ℕ} {i row base : ℕ} {image : List ℕ} {r : Nested}
    (w : Holds types members i row base image r) where
  abbrev m : Member
  m = member_at members row

  low : r.structure < most_types
  low = held_low w.nested w.held

  -- what a row holds lies inside the image
  pub held_inside : base + r.start + sizes_in types r.structure * times r.count ≤ length image
  held_inside = omega (arith, held_within w.nested w.held, w.here.inside)

  held_at : 8 * base + first_bit m ≡ 8 * (base + r.start)
  held_at = rw (nested_whole m w.nested.nested) (omega (arith, w.held.at))

  module _ (none : r.count ≡ 0) where
    -- count 0: the bytes of one structure lie in the image
    pub one_here : Here types r.structure (base + r.start) image
    one_here =
        let e : sizes_in types r.structure ≡ sizes_in types r.structure * times r.count
        = sym (mul-one (sizes_in types r.structure))
        ∙ ap (λ (k : ℕ). sizes_in types r.structure * k) (times_one r.count none) in
        record { low = low; inside = omega (arith, held_inside) }

    -- count 0: writing the member is writing the structure at its start
    pub one_write : (ts : List Token) (z : Bits)
        → write (member_tree (tree_in types members) m) (8 * base + first_bit m) ts z
        ≡ write (tree_in types members r.structure) (8 * (base + r.start)) ts z
    one_write ts z = rw (one_tree w.nested w.held none, held_at) refl

  module _ (some : r.count ≡ 0 → ⊥) where
    -- any other count: the bytes of so many structures lie in the image
    pub all_here : AllHere types r.structure r.count (base + r.start) image
    all_here =
        let e : sizes_in types r.structure * r.count ≡ sizes_in types r.structure * times r.count
        = ap (λ (k : ℕ). sizes_in types r.structure * k) (times_same r.count some) in
        record { low = low; inside = omega (arith, held_inside) }

    -- any other count: writing the member is writing an array of the structure at its start
    pub all_write : (ts : List Token) (z : Bits)
        → write (member_tree (tree_in types members) m) (8 * base + first_bit m) ts z
        ≡ write (array r.count (tree_in types members r.structure)) (8 * (base + r.start)) ts z
    all_write ts z = rw (some_tree w.nested w.held some, held_at) refl

-- ---- a value is an atomic or a structure, one or an array

-- the bytes of a value's atomics are in its image
pub atomics_fit : {types : List ℕ} {n : ℕ} {image : List ℕ} {t : Ty} {a : Atomic} → ValueImage types t n image
    → t ≡ ty.Atomic a → size_of a * times n ≤ length image
atomics_fit v is = let w = rw is at v in omega (arith, w.long)

-- where a value has fewer than 2^64 bytes, its atomic's size times its count is below 2^64
pub atomics_few : (types : List ℕ) (n : ℕ) {t : Ty} {a : Atomic} → size_in (sizes_in types) t * times n < 2 ^ 64
    → t ≡ ty.Atomic a → size_of a * n < 2 ^ 64
atomics_few types n {t} {a} l is = go (ℕ_discrete n 0)
  where
    all : size_of a * times n < 2 ^ 64
    all = rw is at l

    go : Dec (n ≡ 0) → size_of a * n < 2 ^ 64
    go (yes e) = rw (e, mul-zero (size_of a)) (omega arith)
    go (no e) = let same = ap (λ (k : ℕ). size_of a * k) (times_same n e) in omega (arith, all)

module _ {types : List ℕ} {n : ℕ} {image : List ℕ} {t : Ty} {i : ℕ} (v : ValueImage types t n image)
    (is : t ≡ ty.Struct i) where
  value_low : i < most_types
  value_low = rw is at v.fits

  value_long : length image ≡ sizes_in types i * times n
  value_long = rw is at v.long

  -- a value that is one structure lies in its image from byte 0 on
  pub value_here : n ≡ 0 → Here types i 0 image
  value_here none =
      let e : sizes_in types i ≡ sizes_in types i * times n
      = sym (mul-one (sizes_in types i)) ∙ ap (λ (k : ℕ). sizes_in types i * k) (times_one n none) in
      record { low = value_low; inside = omega (arith, value_long) }

  -- a value that is an array of structures lies in its image from byte 0 on
  pub values_here : (n ≡ 0 → ⊥) → AllHere types i n 0 image
  values_here some =
      let e : sizes_in types i * n ≡ sizes_in types i * times n
      = ap (λ (k : ℕ). sizes_in types i * k) (times_same n some) in
      record { low = value_low; inside = omega (arith, value_long) }

module _ (types members : List ℕ) (n : ℕ) (ts : List Token) (z : Bits) {t : Ty} where
  -- writing a value of an atomic type is writing these atomics
  pub atomics_write : {a : Atomic} → t ≡ ty.Atomic a
      → write (tree_of_value (known_in types members) t n) 0 ts z ≡ write (atomics_tree a n) 0 ts z
  unfolding tree_of_value
  atomics_write is = rw is refl

  -- writing a value of a structure type and count 0 is writing that structure
  pub value_write : {i : ℕ} → t ≡ ty.Struct i → n ≡ 0
      → write (tree_of_value (known_in types members) t n) 0 ts z ≡ write (tree_in types members i) 0 ts z
  unfolding tree_of_value structs_tree
  value_write is none = rw (is, eq-eqb n 0 none) refl

  -- writing a value of a structure type and any other count is writing an array of it
  pub values_write : {i : ℕ} → t ≡ ty.Struct i → (n ≡ 0 → ⊥)
      → write (tree_of_value (known_in types members) t n) 0 ts z ≡ write (array n (tree_in types members i)) 0 ts z
  unfolding tree_of_value structs_tree
  values_write is some = rw (is, ne_eqb n 0 some) refl
