-- The law `meaning` (document 01, "Reading"): the walk over the tables gives what reading the type's tree gives. Each
-- member is read from its own part of the image; a string's text is a part of the image's bytes.
use Rattle.std.specs.Prelude.{Option, Some, None}
use Prim.Native.Nat.{ℕ, zero, suc, ◌+◌, ◌*◌, ◌≤◌, ◌<◌}
use native.Mathlib.Nat.{add-zero, zero-add, mul_assoc, mul-one, mul-suc, mul-le-mul_left}
use native.Mathlib.Omega.{arith}
use mathlib.Core.Path.{◌≡◌, refl, sym, ap, ap₂, ◌∙◌, fun_ext}
use mathlib.Core.Bool.{Bool, true, false, cond}
use mathlib.Core.List.{List, [], ◌∷◌, ◌++◌}
use lib.Dec.{eqb}
use lib.ListN.{length}
use Rattle.words.specs.Bits.{Bits, flat}
use Rattle.words.specs.Words.{Bytes, part}
use Rattle.words.proofs.Lists.{length_part}
use Rattle.words.proofs.WordLaws.{part_bytes}
use Rattle.types.specs.atomics.Atomic.{bit_string, size_of}
use Rattle.types.specs.inside.tables.Lent.{TyFits}
use Rattle.types.specs.layout.Laid.{Earlier, first_in, first_bit}
use Rattle.types.specs.layout.Placing.{times}
use Rattle.types.specs.tables.Lent.{member_at, type_at}
use Rattle.types.specs.tables.Limits.{most_types}
use Rattle.types.specs.tables.Sizes.{bits_of, size_in, sizes_in}
use Rattle.types.specs.declared.atomics.atomic.Atomic.{Atomic}
use Rattle.types.specs.declared.tables.member.Member.{Member}
use Rattle.types.specs.declared.tables.member.Ty.{Ty}
use Rattle.types.specs.declared.tables.member.Ty.TheVariants as ty
use Rattle.values.specs.inside.reading.Walk.{up_to, wrap, bit_token, bits_out, number_out, element_out, numbers_out}
use Rattle.values.specs.inside.reading.Walk.{atomics_out, text_out, bit_out, element_by, elements_by, structs_by}
use Rattle.values.specs.inside.reading.Walk.{value_by, bytes_by, member_by, row_by, members_by, struct_by}
use Rattle.values.specs.inside.reading.Walk.{struct_within}
use Rattle.values.specs.inside.reading.Walk.{struct_out, value_out}
use Rattle.values.specs.inside.reading.Walkable.{MemberWithin, IsString, WalkableType, Walkable}
use Rattle.values.specs.reading.Leaf.{Leaf, flag, str, leaf_of, emit, clipped}
use Rattle.values.specs.reading.Texts.{capacity_at}
use Rattle.values.specs.reading.Tree.{Tree, leaf, bits, array, struct, Branches, all_bits, span, each, one_flag}
use Rattle.values.specs.reading.Tree.{items, branch_items, read}
use Rattle.values.specs.reading.Trees.{members_at, known_in, second_count, is_string_kind, atomics_tree, bit_tree, seen}
use Rattle.values.specs.reading.Trees.{structs_tree, value_tree, branches_from, struct_tree, tree_within, tree_of}
use Rattle.values.specs.reading.Trees.{tree_of_value}
use Rattle.values.specs.stream.Stream.{Token, bool, text, member}
use Rattle.values.proofs.reading.SpanLaws.{Many, one, some, many, leaf_room, all_bits_lem, TreesSized, value_span}
use Rattle.values.proofs.reading.SpanLaws.{value_inside, sound_below, capacity_is, earlier, sound_within}
use Rattle.values.proofs.reading.SpanLaws.{sound_all}
use Rattle.values.proofs.reading.TreeLaws.{Inside, read_append, read_between, part_read, chars_part, each_up}
use Rattle.values.proofs.reading.UpLaws.{up_cons, up_ext}

-- ---- parts of an image have bytes

-- ---- leaves

leaf_read : (l : Leaf) (x : Bits) → read (items (leaf l) 0) x ≡ emit l x ∷ []
unfolding items read
leaf_read l x = ap (λ (b : Bits). emit l b ∷ []) (fun_ext (λ k. ap x (zero-add k)))

flag_read : (x : Bits) (p : ℕ) → read (items (leaf flag) p) x ≡ bool (x p) ∷ []
unfolding items read
flag_read x p = ap (λ (q : ℕ). bool (x q) ∷ []) (add-zero p)

-- all bits of an image, as an array
bits_read : (image : List ℕ) (w n k : ℕ) → all_bits w n ≡ k → bits_out image k ≡ read (items (bits w n) 0) (flat image)
unfolding items bits_out
bits_read image w n k e =
    sym (read_between 10 11 (each (all_bits w n) one_flag 1 0) (flat image)
    ∙ ap (wrap 10 11)
    (each_up (all_bits w n) one_flag 1 0 (flat image)
    ∙ up_ext (λ i. read (one_flag (0 + 1 * i)) (flat image)) (bit_token image) (all_bits w n)
    (λ i l. unfold read in ap (λ (q : ℕ). bool (flat image q) ∷ []) (omega arith))
    ∙ ap (up_to (bit_token image)) e))

-- n elements of so many bytes each, where each is the tree at its place
array_read : (n size : ℕ) (t : Tree) (image : List ℕ) (g : ℕ → List Token) → span t ≡ 8 * size
    → ((k : ℕ) → k < n → g k ≡ read (items t (8 * (size * k))) (flat image))
    → wrap 10 11 (up_to g n) ≡ read (items (array n t) 0) (flat image)
unfolding items
array_read n size t image g e h =
    ap (wrap 10 11)
    (up_ext g (λ k. read (items t (0 + span t * k)) (flat image)) n
    (λ k l. h k l ∙ ap (λ (p : ℕ). read (items t p) (flat image)) (place k))
    ∙ sym (each_up n (items t) (span t) 0 (flat image)))
    ∙ sym (read_between 10 11 (each n (items t) (span t) 0) (flat image))
  where
    place : (k : ℕ) → 8 * (size * k) ≡ 0 + span t * k
    place k = sym (mul_assoc 8 size k) ∙ ap (◌* k) (sym e) ∙ sym (zero-add (span t * k))

element_read : (a : Atomic) (image : List ℕ) (k : ℕ)
    → element_out a image k ≡ read (items (leaf (leaf_of a)) (8 * (size_of a * k))) (flat image)
unfolding Inside span
element_read a image k =
    sym (leaf_read (leaf_of a) (flat (part image (size_of a * k) (size_of a))))
    ∙ part_read (leaf (leaf_of a)) image (size_of a * k) (size_of a) tt (omega (arith, leaf_room a))

atomics_read : (a : Atomic) (n : ℕ) (image : List ℕ)
    → atomics_out a n image ≡ read (items (atomics_tree a n) 0) (flat image)
unfolding atomics_out atomics_tree numbers_out
atomics_read a n image = go (bit_string a) (eqb n 0)
  where
    go : (b c : Bool)
        → cond b (bits_out image (8 * (size_of a * times n))) (cond c (number_out a image) (numbers_out a n image))
        ≡ read
        (items (cond b (bits (8 * size_of a) n) (cond c (leaf (leaf_of a)) (array n (leaf (leaf_of a))))) 0)
        (flat image)
    go true c = bits_read image (8 * size_of a) n (8 * (size_of a * times n)) (all_bits_lem (size_of a) n)
    go false true = sym (leaf_read (leaf_of a) (flat image))
    go false false =
        array_read n (size_of a) (leaf (leaf_of a)) image (element_out a image) (unfold span in leaf_room a)
        (λ k l. element_read a image k)

-- a string's text: LEN and DATA are inside the image
text_read : (capacity : ℕ) (image : List ℕ) → Bytes image → 4 + capacity ≤ length image
    → text_out capacity image ≡ read (items (leaf (str capacity)) 0) (flat image)
text_read capacity image b h =
    sym (leaf_read (str capacity) (flat image)
    ∙ ap (λ (s : List ℕ). text s ∷ []) (chars_part (clipped capacity (flat image)) image 4 b (omega arith)))

-- ---- structures whose earlier ones are read

module _ (types members : List ℕ) (trees : ℕ → Tree) (i : ℕ) (sound : TreesSized types trees i)
    (rec : ℕ → List ℕ → List Token)
    (same : (s : ℕ) (image : List ℕ) → s < i → length image ≡ sizes_in types s → Bytes image
    → rec s image ≡ read (items (trees s) 0) (flat image)) where
  part_same : (s : ℕ) (image : List ℕ) (o : ℕ) → s < i → o + sizes_in types s ≤ length image → Bytes image
      → rec s (part image o (sizes_in types s)) ≡ read (items (trees s) (8 * o)) (flat image)
  part_same s image o l h b =
      same s (part image o (sizes_in types s)) l (length_part image o (sizes_in types s) h)
      (part_bytes image o (sizes_in types s) b)
      ∙ part_read (trees s) image o (sizes_in types s) (sound.insides s l) (omega (arith, sound.spans s l))

  structs_read : (s n : ℕ) (image : List ℕ) → s < i → length image ≡ sizes_in types s * times n → Bytes image
      → structs_by types members rec s n image ≡ read (items (structs_tree trees s n) 0) (flat image)
  unfolding structs_by structs_tree elements_by
  structs_read s n image l h b = go (many n)
    where
      below : (k : ℕ) → k < n → sizes_in types s * k + sizes_in types s ≤ sizes_in types s * n
      below k a = omega (arith, mul-suc (sizes_in types s) k, mul-le-mul_left (sizes_in types s) a)

      go : Many n
          → cond (eqb n 0) (rec s image) (wrap 10 11 (up_to (element_by types members rec s image) n))
          ≡ read (items (cond (eqb n 0) (trees s) (array n (trees s))) 0) (flat image)
      go (one e t) = rw e (same s image l (h ∙ ap (sizes_in types s *◌) t ∙ mul-one (sizes_in types s)) b)
      go (some e t) =
          rw e
          (array_read n (sizes_in types s) (trees s) image (element_by types members rec s image) (sound.spans s l)
          (λ k a.
          part_same s image (sizes_in types s * k) l (omega (arith, below k a, h ∙ ap (sizes_in types s *◌) t)) b))

  value_read : (t : Ty) (n : ℕ) (image : List ℕ) → Earlier i t → length image ≡ size_in (sizes_in types) t * times n
      → Bytes image → value_by types members rec t n image ≡ read (items (value_tree trees t n) 0) (flat image)
  value_read (ty.Atomic a) n image l h b = atomics_read a n image
  value_read (ty.Struct s) n image l h b = structs_read s n image l h b

  -- a member's value, from its own part
  body_read : (v : Option ℕ) (m : Member) (image : List ℕ) → Earlier i m.ty
      → first_in v m.offset + bits_of (sizes_in types) v m ≤ 8 * length image → Bytes image
      → bit_out v (λ k. bool (flat image (8 * m.offset + k)) ∷ [])
      (value_by types members rec m.ty m.count (part image m.offset (bytes_by types members rec m)))
      ≡ read (items (bit_tree v (value_tree trees m.ty m.count)) (first_in v m.offset)) (flat image)
  body_read None m image l h b =
      let size : ℕ = bytes_by types members rec m in
      value_read m.ty m.count (part image m.offset size) l (length_part image m.offset size (omega arith))
      (part_bytes image m.offset size b)
      ∙ part_read (value_tree trees m.ty m.count) image m.offset size
      (value_inside types members trees i sound m.ty m.count l)
      (omega (arith, value_span types members trees i sound m.ty m.count l))
  body_read (Some k) m image l h b = sym (flag_read (flat image) (8 * m.offset + k))

  -- a member, hidden or not, and the branches after it
  member_read : (j : ℕ) (m : Member) (image : List ℕ) (rest : Branches) → MemberWithin types i (length image) m
      → Bytes image
      → member_by types members rec j m image ++ read (branch_items rest 0) (flat image)
      ≡ read
      (branch_items (seen m.hidden j (first_bit m) (bit_tree m.bit (value_tree trees m.ty m.count)) rest) 0)
      (flat image)
  unfolding member_by items
  member_read j m image rest within b = go m.hidden
    where
      go : (hidden : Bool)
          → cond hidden []
          (member j
          ∷ bit_out m.bit (λ k. bool (flat image (8 * m.offset + k)) ∷ [])
          (value_by types members rec m.ty m.count (part image m.offset (bytes_by types members rec m))))
          ++ read (branch_items rest 0) (flat image)
          ≡ read
          (branch_items (seen hidden j (first_bit m) (bit_tree m.bit (value_tree trees m.ty m.count)) rest) 0)
          (flat image)
      go true = refl
      go false =
          ap (λ (ts : List Token). member j ∷ (ts ++ read (branch_items rest 0) (flat image)))
          (body_read m.bit m image within.earlier within.inside b
          ∙ ap
          (λ (p : ℕ). read (items (bit_tree m.bit (value_tree trees m.ty m.count)) p) (flat image))
          (sym (zero-add (first_bit m))))
          ∙ sym
          (unfold read in ap (member j ∷◌)
          (read_append (items (bit_tree m.bit (value_tree trees m.ty m.count)) (0 + first_bit m))
          (branch_items rest 0) (flat image)))

  -- the rows from member j on
  rows_read : (image : List ℕ) (first j n : ℕ) → Bytes image
      → ((k : ℕ) → k < n → MemberWithin types i (length image) (member_at members (first + (j + k))))
      → up_to (λ k. row_by types members rec first image (j + k)) n
      ≡ read (branch_items (branches_from trees j (members_at members (first + j) n)) 0) (flat image)
  unfolding branches_from members_at
  rows_read image first j zero b each = unfold up_to read items in refl
  rows_read image first j (suc n) b each =
      up_cons (λ k. row_by types members rec first image (j + k)) n
      ∙ ap₂ ◌++◌ (ap (row_by types members rec first image) (add-zero j))
      (ap (λ (g : ℕ → List Token). up_to g n) (fun_ext (λ k. ap (row_by types members rec first image) (next k)))
      ∙ rows_read image first (suc j) n b (λ k l. rw (← next k) (each (suc k) (omega arith)))
      ∙ ap (λ (row : ℕ). read (branch_items (branches_from trees (suc j) (members_at members row n)) 0) (flat image))
      past)
      ∙ member_read j (member_at members (first + j)) image
      (branches_from trees (suc j) (members_at members (first + j + 1) n)) (rw add-zero at (each 0 (omega arith))) b
    where
      next : (k : ℕ) → j + suc k ≡ suc j + k
      next k = omega arith

      past : first + suc j ≡ first + j + 1
      past = omega arith

  members_read : WalkableType types members i → (image : List ℕ) → length image ≡ sizes_in types i → Bytes image
      → members_by types members rec i image
      ≡ read
      (items (struct (8 * (type_at types i).size)
      (branches_from trees 0 (members_at members (type_at types i).first (type_at types i).count))) 0)
      (flat image)
  unfolding members_by items
  members_read w image h b =
      let first : ℕ = (type_at types i).first in
      let n : ℕ = (type_at types i).count in
      ap (wrap 8 9)
      (up_ext (row_by types members rec first image) (λ k. row_by types members rec first image (0 + k)) n
      (λ k l. ap (row_by types members rec first image) (sym (zero-add k)))
      ∙ rows_read image first 0 n b (λ k l. rw (zero-add k, h) (w.each k l))
      ∙ ap (λ (row : ℕ). read (branch_items (branches_from trees 0 (members_at members row n)) 0) (flat image))
      (add-zero first))
      ∙ sym (read_between 8 9 (branch_items (branches_from trees 0 (members_at members first n)) 0) (flat image))

  struct_read : WalkableType types members i → (image : List ℕ) → length image ≡ sizes_in types i → Bytes image
      → struct_by types members rec i image ≡ read (items (struct_tree trees (known_in types members i)) 0) (flat image)
  unfolding struct_by struct_tree known_in
  struct_read w image h b = go (is_string_kind (type_at types i).kind) refl
    where
      go : (s : Bool) → is_string_kind (type_at types i).kind ≡ s
          → cond s (text_out (capacity_at members (type_at types i).first) image) (members_by types members rec i image)
          ≡ read
          (items
          (cond s (leaf (str (second_count (members_at members (type_at types i).first (type_at types i).count))))
          (struct (8 * (type_at types i).size)
          (branches_from trees 0 (members_at members (type_at types i).first (type_at types i).count)))) 0)
          (flat image)
      go true e =
          let s : IsString members (type_at types i) = w.string e in
          rw (capacity_is members (type_at types i).first (type_at types i).count s.rows)
          (text_read (capacity_at members (type_at types i).first) image b (omega (arith, s.size)))
      go false e = members_read w image h b

-- ---- all structures

module _ (types members : List ℕ) (w : Walkable types members) where
  within_read : (f i : ℕ) (image : List ℕ) → f ≤ most_types → i < f → length image ≡ sizes_in types i → Bytes image
      → struct_within types members f i image ≡ read (items (tree_within (known_in types members) f i) 0) (flat image)
  unfolding struct_within tree_within
  within_read zero i image h l e b = absurd (let z : ⊥ = omega arith in z)
  within_read (suc f) i image h l e b =
      struct_read types members (tree_within (known_in types members) f) i
      (sound_below i (omega arith) (sound_within types members w f (omega arith))) (struct_within types members f)
      (λ s part k d c. within_read f s part (omega arith) (omega arith) d c) (w.each i (omega arith)) image e b

  -- a structure
  struct_meaning : (i : ℕ) (image : List ℕ) → i < most_types → length image ≡ sizes_in types i → Bytes image
      → struct_out types members i image ≡ read (items (tree_of (known_in types members) i) 0) (flat image)
  unfolding struct_out tree_of
  struct_meaning i image l e b = within_read most_types i image (omega arith) l e b

  -- what the walk over the rows gives for a value is the reading of the value's tree
  pub meaning : (t : Ty) (n : ℕ) (image : List ℕ) → TyFits t → length image ≡ size_in (sizes_in types) t * times n
      → Bytes image
      → value_out types members t n image ≡ read (items (tree_of_value (known_in types members) t n) 0) (flat image)
  unfolding value_out tree_of_value
  meaning t n image l e b =
      value_read types members (tree_of (known_in types members)) most_types (sound_all types members w)
      (struct_out types members) struct_meaning t n image (earlier t l) e b
