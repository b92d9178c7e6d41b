-- The trees of the types in the tables (document 01, "Layout", "Value stream"): a tree has as many bits as its type's
-- bytes say, and the branches of a structure lie inside it.
use Rattle.std.specs.Prelude.{Option, Some, None}
use Prim.Native.Nat.{ℕ, zero, suc, ◌+◌, ◌*◌, ◌≤◌, ◌<◌}
use native.Mathlib.Nat.{add-zero, mul_assoc, mul-one}
use native.Mathlib.Omega.{arith}
use mathlib.Core.Path.{◌≡◌, refl, ap, ◌∙◌}
use mathlib.Core.Bool.{Bool, true, false, cond}
use mathlib.Core.List.{List}
use lib.Dec.{eqb}
use Rattle.words.proofs.ArithLaws.{array_bits}
use Rattle.types.specs.atomics.Atomic.{bit_string, size_of}
use Rattle.types.specs.inside.tables.Lent.{TyFits}
use Rattle.types.specs.layout.Laid.{Earlier, first_bit}
use Rattle.types.specs.layout.Placing.{times}
use Rattle.types.specs.tables.Lent.{member_at, type_at}
use Rattle.types.specs.tables.Limits.{most_types}
use Rattle.types.specs.tables.Sizes.{bits_of, size_in, sizes_in}
use Rattle.types.specs.declared.atomics.atomic.Atomic.{Atomic}
use Rattle.types.specs.declared.atomics.atomic.Atomic.TheVariants as atomic
use Rattle.types.specs.declared.tables.member.Member.{Member}
use Rattle.types.specs.declared.tables.member.Ty.{Ty}
use Rattle.types.specs.declared.tables.member.Ty.TheVariants as ty
use Rattle.types.proofs.Face.{times_same}
use Rattle.values.specs.inside.reading.Walkable.{MemberWithin, IsString, WalkableType, Walkable}
use Rattle.values.specs.reading.Leaf.{str, leaf_of}
use Rattle.values.specs.reading.Texts.{capacity_at}
use Rattle.values.specs.reading.Tree.{Tree, leaf, bits, array, struct, Branches, room, all_bits, span}
use Rattle.values.specs.reading.Trees.{members_at, known_in, second_count, is_string_kind, atomics_tree, bit_tree, seen}
use Rattle.values.specs.reading.Trees.{structs_tree, value_tree, branches_from, struct_tree, tree_within, tree_of}
use Rattle.values.specs.reading.Trees.{tree_of_value}
use Rattle.values.proofs.reading.TreeLaws.{Inside, AllInside}

-- a count: 0 is one value, any other an array
pub data Many (n : ℕ) : Type 0 where
  one : eqb n 0 ≡ true → times n ≡ 1 → Many n
  some : eqb n 0 ≡ false → times n ≡ n → Many n

-- each count is 0, for one value, or that of an array
pub many : (n : ℕ) → Many n
unfolding times
many n = go (eqb n 0) refl
  where
    go : (b : Bool) → eqb n 0 ≡ b → Many n
    go true e = one e (rw e)
    go false e = some e (rw e)

-- ---- atomics

-- the leaf of an atomic takes the bits of its bytes
pub leaf_room : (a : Atomic) → room (leaf_of a) ≡ 8 * size_of a
unfolding size_of
leaf_room atomic.Bool = refl
leaf_room atomic.SInt = refl
leaf_room atomic.Int = refl
leaf_room atomic.DInt = refl
leaf_room atomic.LInt = refl
leaf_room atomic.USInt = refl
leaf_room atomic.UInt = refl
leaf_room atomic.UDInt = refl
leaf_room atomic.ULInt = refl
leaf_room atomic.Real = refl
leaf_room atomic.LReal = refl
leaf_room atomic.Byte = refl
leaf_room atomic.Word = refl
leaf_room atomic.DWord = refl
leaf_room atomic.LWord = refl

-- an array of bit strings has the bits of all of them
pub all_bits_lem : (w n : ℕ) → all_bits (8 * w) n ≡ 8 * (w * times n)
unfolding all_bits times
all_bits_lem w zero = omega (arith, mul-one w)
all_bits_lem w (suc n) =
    mul_assoc 8 w (suc n) ∙ ap (λ (k : ℕ). 8 * (w * k)) (times_same (suc n) (λ e. omega arith))

-- the tree of an atomic, or of so many, takes the bits of all their bytes
pub atomics_span : (a : Atomic) (n : ℕ) → span (atomics_tree a n) ≡ 8 * (size_of a * times n)
unfolding atomics_tree span
atomics_span a n = go (bit_string a) (many n)
  where
    go : (b : Bool) → Many n
        → span (cond b (bits (8 * size_of a) n) (cond (eqb n 0) (leaf (leaf_of a)) (array n (leaf (leaf_of a)))))
        ≡ 8 * (size_of a * times n)
    go true m = all_bits_lem (size_of a) n
    go false (one e t) = rw (e, t, mul-one (size_of a)) (leaf_room a)
    go false (some e t) = rw (e, t) (array_bits n (size_of a) (room (leaf_of a)) (leaf_room a))

atomics_inside : (a : Atomic) (n : ℕ) → Inside (atomics_tree a n)
unfolding atomics_tree Inside
atomics_inside a n = go (bit_string a) (eqb n 0)
  where
    go : (b c : Bool)
        → Inside (cond b (bits (8 * size_of a) n) (cond c (leaf (leaf_of a)) (array n (leaf (leaf_of a)))))
    go true c = tt
    go false true = tt
    go false false = tt

-- ---- structures whose earlier ones are known

-- the trees of the first i structures have their sizes, and their branches lie inside
pub record TreesSized (types : List ℕ) (trees : ℕ → Tree) (i : ℕ) : Type 0 where
  pub spans : (s : ℕ) → s < i → span (trees s) ≡ 8 * sizes_in types s
  pub insides : (s : ℕ) → s < i → Inside (trees s)

-- where the trees of the first f structures have their sizes, so have those of fewer
pub sound_below : {types : List ℕ} {trees : ℕ → Tree} {f : ℕ} (i : ℕ) → i ≤ f → TreesSized types trees f
    → TreesSized types trees i
sound_below i h sound =
    record { spans = λ s l. sound.spans s (omega arith); insides = λ s l. sound.insides s (omega arith) }

module _ (types members : List ℕ) (trees : ℕ → Tree) (i : ℕ) (sound : TreesSized types trees i) where
  structs_span : (s n : ℕ) → s < i → span (structs_tree trees s n) ≡ 8 * (sizes_in types s * times n)
  unfolding structs_tree span
  structs_span s n l = go (many n)
    where
      go : Many n → span (cond (eqb n 0) (trees s) (array n (trees s))) ≡ 8 * (sizes_in types s * times n)
      go (one e t) = rw (e, t, mul-one (sizes_in types s)) (sound.spans s l)
      go (some e t) = rw (e, t) (array_bits n (sizes_in types s) (span (trees s)) (sound.spans s l))

  structs_inside : (s n : ℕ) → s < i → Inside (structs_tree trees s n)
  unfolding structs_tree Inside
  structs_inside s n l = go (eqb n 0)
    where
      go : (b : Bool) → Inside (cond b (trees s) (array n (trees s)))
      go true = sound.insides s l
      go false = sound.insides s l

  -- the tree of a value whose type is earlier takes the bits of all its bytes
  pub value_span : (t : Ty) (n : ℕ) → Earlier i t
      → span (value_tree trees t n) ≡ 8 * (size_in (sizes_in types) t * times n)
  value_span (ty.Atomic a) n l = atomics_span a n
  value_span (ty.Struct s) n l = structs_span s n l

  -- in the tree of a value whose type is earlier all branches lie inside
  pub value_inside : (t : Ty) (n : ℕ) → Earlier i t → Inside (value_tree trees t n)
  value_inside (ty.Atomic a) n l = atomics_inside a n
  value_inside (ty.Struct s) n l = structs_inside s n l

  -- a member's bits are those that its row says
  pub bit_span : (b : Option ℕ) (m : Member) → Earlier i m.ty
      → span (bit_tree b (value_tree trees m.ty m.count)) ≡ bits_of (sizes_in types) b m
  bit_span None m l = value_span m.ty m.count l
  bit_span (Some k) m l = unfold span in refl

  bit_inside : (b : Option ℕ) (m : Member) → Earlier i m.ty → Inside (bit_tree b (value_tree trees m.ty m.count))
  bit_inside None m l = value_inside m.ty m.count l
  bit_inside (Some k) m l = unfold Inside in tt

  -- a member that lies inside, hidden or not, before others that do
  seen_inside : (hidden : Bool) (size j : ℕ) (m : Member) (rest : Branches) → MemberWithin types i size m
      → AllInside (8 * size) rest
      → AllInside (8 * size)
      (seen hidden j (first_bit m) (bit_tree m.bit (value_tree trees m.ty m.count)) rest)
  unfolding Inside
  seen_inside true size j m rest within others = others
  seen_inside false size j m rest within others =
      (bit_inside m.bit m within.earlier, (rw (bit_span m.bit m within.earlier) within.inside, others))

  rows_inside : (size j row n : ℕ) → ((k : ℕ) → k < n → MemberWithin types i size (member_at members (row + k)))
      → AllInside (8 * size) (branches_from trees j (members_at members row n))
  unfolding branches_from members_at
  rows_inside size j row zero each = unfold Inside in tt
  rows_inside size j row (suc n) each =
      seen_inside (member_at members row).hidden size j (member_at members row)
      (branches_from trees (suc j) (members_at members (row + 1) n)) (rw add-zero at (each 0 (omega arith)))
      (rows_inside size (suc j) (row + 1) n (λ k l. rw (next k) (each (suc k) (omega arith))))
    where
      next : (k : ℕ) → row + 1 + k ≡ row + suc k
      next k = omega arith

  struct_inside : WalkableType types members i → Inside (struct_tree trees (known_in types members i))
  unfolding struct_tree known_in Inside
  struct_inside w = go (is_string_kind (type_at types i).kind)
    where
      go : (b : Bool)
          → Inside
          (cond b (leaf (str (second_count (members_at members (type_at types i).first (type_at types i).count))))
          (struct (8 * (type_at types i).size)
          (branches_from trees 0 (members_at members (type_at types i).first (type_at types i).count))))
      go true = tt
      go false = rows_inside (type_at types i).size 0 (type_at types i).first (type_at types i).count w.each

-- ---- strings

-- a string's capacity stands in its second row
pub capacity_is : (members : List ℕ) (first n : ℕ) → n ≡ 2
    → second_count (members_at members first n) ≡ capacity_at members first
unfolding members_at
capacity_is members first n e = rw e

-- the tree of a structure has its size, whatever the trees inside
struct_span : (types members : List ℕ) (trees : ℕ → Tree) (i : ℕ) → WalkableType types members i
    → span (struct_tree trees (known_in types members i)) ≡ 8 * sizes_in types i
unfolding struct_tree known_in span
struct_span types members trees i w = go (is_string_kind (type_at types i).kind) refl
  where
    go : (b : Bool) → is_string_kind (type_at types i).kind ≡ b
        → span
        (cond b (leaf (str (second_count (members_at members (type_at types i).first (type_at types i).count))))
        (struct (8 * (type_at types i).size)
        (branches_from trees 0 (members_at members (type_at types i).first (type_at types i).count))))
        ≡ 8 * (type_at types i).size
    go true e =
        let s : IsString members (type_at types i) = w.string e in
        rw (capacity_is members (type_at types i).first (type_at types i).count s.rows) (omega (arith, s.size))
    go false e = refl

-- ---- all structures

-- a value's type is an atomic or one of the 200 structures
pub earlier : (t : Ty) → TyFits t → Earlier most_types t
earlier (ty.Atomic a) l = tt
earlier (ty.Struct s) l = l

module _ (types members : List ℕ) (w : Walkable types members) where
  -- nested so deep, the first so many are sound
  pub sound_within : (f : ℕ) → f ≤ most_types → TreesSized types (tree_within (known_in types members) f) f
  unfolding tree_within
  sound_within zero h =
      record {
        spans = λ s l. absurd (let z : ⊥ = omega arith in z);
        insides = λ s l. absurd (let z : ⊥ = omega arith in z);
      }
  sound_within (suc f) h =
      let trees : ℕ → Tree = tree_within (known_in types members) f in
      record {
        spans = λ s l. struct_span types members trees s (w.each s (omega arith));
        insides = λ s l.
            struct_inside types members trees s (sound_below s (omega arith) (sound_within f (omega arith)))
            (w.each s (omega arith));
      }

  -- the trees of all structures have their sizes, and their branches lie inside
  pub sound_all : TreesSized types (tree_of (known_in types members)) most_types
  unfolding tree_of
  sound_all = sound_within most_types (omega arith)

  -- the tree of a structure takes the bits of its size
  pub tree_span : (i : ℕ) → i < most_types → span (tree_of (known_in types members) i) ≡ 8 * sizes_in types i
  tree_span i l = sound_all.spans i l

  -- the tree of a value takes the bits of its type's size times max(count, 1)
  pub tree_value_span : (t : Ty) (n : ℕ) → TyFits t
      → span (tree_of_value (known_in types members) t n) ≡ 8 * (size_in (sizes_in types) t * times n)
  unfolding tree_of_value
  tree_value_span t n l = value_span types members (tree_of (known_in types members)) most_types sound_all t n
      (earlier t l)
