-- Members by their numbers (document 01, "Writing"): a structure's tree is what its rows say, and the branch that an
-- entry names is the tree of the member of that number; a hidden one or one too large has none. What a nested row is.
use Prim.Native.Nat.{ℕ, zero, suc, ◌+◌, ◌*◌, ◌<◌, ◌≤◌}
use native.Mathlib.Nat.{add-zero, zero-add}
use native.Mathlib.Omega.{arith}
use mathlib.Core.Path.{◌≡◌, refl, sym, ap, ap₂, ◌∙◌}
use mathlib.Core.Bool.{Bool, true, false, cond, true≢false}
use mathlib.Core.List.{List, ◌∷◌}
use lib.Dec.{eqb}
use borrow.Author.Tests.{eq-eqb, ne_eqb}
use Rattle.words.specs.Bits.{Bits}
use Rattle.types.specs.layout.Laid.{Earlier, first_bit}
use Rattle.types.specs.tables.Lent.{member_at, type_at}
use Rattle.types.specs.tables.Limits.{most_types}
use Rattle.types.specs.tables.Sizes.{sizes_in}
use Rattle.types.specs.declared.tables.member.Ty.{Ty}
use Rattle.types.specs.declared.tables.member.Ty.TheVariants as ty
use Rattle.values.specs.inside.reading.Walkable.{HeldIn, NestedRow, WalkableType, Walkable}
use Rattle.values.specs.inside.writing.Rows.{branches_in, member_tree, tree_in}
use Rattle.values.specs.reading.Leaf.{str}
use Rattle.values.specs.reading.Texts.{capacity_at}
use Rattle.values.specs.reading.Tree.{Tree, leaf, array, struct, Branches}
use Rattle.values.specs.reading.Trees.{is_string_kind, members_at, known_in, second_count, bit_tree, seen, structs_tree}
use Rattle.values.specs.reading.Trees.{value_tree, branches_from, struct_tree, tree_within, tree_of}
use Rattle.values.specs.stream.Stream.{Token, payload_of}
use Rattle.values.specs.writing.Writing.{bad, write, write_branch}
use Rattle.values.specs.declared.reading.rows.Nested.{Nested}
use Rattle.values.proofs.reading.MemberLaws.{nested_whole}
use Rattle.values.proofs.reading.SpanLaws.{capacity_is}

-- ---- the trees of earlier structures are all that matters

module _ (types members : List ℕ) (f g : ℕ → Tree) (i : ℕ) (same : (s : ℕ) → s < i → f s ≡ g s) where
  value_same : (t : Ty) (n : ℕ) → Earlier i t → value_tree f t n ≡ value_tree g t n
  unfolding structs_tree
  value_same (ty.Atomic a) n l = refl
  value_same (ty.Struct s) n l = ap (λ (t : Tree). cond (eqb n 0) t (array n t)) (same s l)

  rows_same : (j row n : ℕ) → ((k : ℕ) → k < n → Earlier i (member_at members (row + k)).ty)
      → branches_from f j (members_at members row n) ≡ branches_from g j (members_at members row n)
  unfolding branches_from members_at
  rows_same j row zero h = refl
  rows_same j row (suc n) h =
      let next : (k : ℕ) → row + 1 + k ≡ row + suc k = λ k. omega arith in
      ap₂ (λ (t : Tree) (bs : Branches).
      seen (member_at members row).hidden j (first_bit (member_at members row))
      (bit_tree (member_at members row).bit t) bs)
      (value_same (member_at members row).ty (member_at members row).count (rw add-zero at (h 0 (omega arith))))
      (rows_same (suc j) (row + 1) n (λ k l. rw (next k) (h (suc k) (omega arith))))

  struct_same : WalkableType types members i
      → struct_tree f (known_in types members i) ≡ struct_tree g (known_in types members i)
  unfolding struct_tree known_in
  struct_same w =
      ap (λ (bs : Branches). cond (is_string_kind (type_at types i).kind)
      (leaf (str (second_count (members_at members (type_at types i).first (type_at types i).count))))
      (struct (8 * (type_at types i).size) bs))
      (rows_same 0 (type_at types i).first (type_at types i).count (λ k l. (w.each k l).earlier))

-- any depth above the structure's number is enough
within_same : (types members : List ℕ) → Walkable types members → (f g i : ℕ) → i < most_types → i < f → i < g
    → tree_within (known_in types members) f i ≡ tree_within (known_in types members) g i
unfolding tree_within
within_same types members w zero g i a b c = absurd (let z : ⊥ = omega arith in z)
within_same types members w (suc f) zero i a b c = absurd (let z : ⊥ = omega arith in z)
within_same types members w (suc f) (suc g) i a b c =
    struct_same types members (tree_within (known_in types members) f) (tree_within (known_in types members) g) i
    (λ s l. within_same types members w f g s (omega arith) (omega arith) (omega arith)) (w.each i a)

module _ (types members : List ℕ) (w : Walkable types members) (i : ℕ) (low : i < most_types) where
  -- a structure's tree is what its rows say
  tree_is : tree_in types members i ≡ struct_tree (tree_in types members) (known_in types members i)
  unfolding tree_of tree_within
  tree_is =
      struct_same types members (tree_within (known_in types members) 199) (tree_in types members) i
      (λ s l. unfold tree_of in within_same types members w 199 most_types s (omega arith) (omega arith) (omega arith))
      (w.each i low)

  -- a string's tree is a leaf of its capacity
  pub string_tree : is_string_kind (type_at types i).kind ≡ true
      → tree_in types members i ≡ leaf (str (capacity_at members (type_at types i).first))
  unfolding struct_tree known_in
  string_tree e =
      tree_is
      ∙ rw (e, capacity_is members (type_at types i).first (type_at types i).count ((w.each i low).string e).rows) refl

  -- the tree of any other structure has its size and its rows' branches
  pub members_tree : is_string_kind (type_at types i).kind ≡ false
      → tree_in types members i ≡ struct (8 * sizes_in types i) (branches_in types members i)
  unfolding struct_tree known_in
  members_tree e = tree_is ∙ rw e refl

-- ---- the branch that an entry names

module _ (members : List ℕ) (trees : ℕ → Tree) (p : ℕ) (t : Token) (ts : List Token) (z : Bits) where
  -- a row that the entry does not name, or a hidden one
  passed : (hidden : Bool) (j o : ℕ) (tree : Tree) (bs : Branches) → (payload_of 0 t ≡ j → hidden ≡ true)
      → write_branch (seen hidden j o tree bs) p t ts z ≡ write_branch bs p t ts z
  unfolding write
  passed true j o tree bs n = refl
  passed false j o tree bs n = rw (ne_eqb (payload_of 0 t) j (λ e. true≢false (sym (n e)))) refl

  named : (hidden : Bool) (j o : ℕ) (tree : Tree) (bs : Branches) → payload_of 0 t ≡ j → hidden ≡ false
      → write_branch (seen hidden j o tree bs) p t ts z ≡ write tree (p + o) ts z
  unfolding write
  named hidden j o tree bs e h = rw (h, eq-eqb (payload_of 0 t) j e) refl

  -- row d of n is visible, and the entry names it
  row_named : (j row n d : ℕ) → payload_of 0 t ≡ j + d → d < n → (member_at members (row + d)).hidden ≡ false
      → write_branch (branches_from trees j (members_at members row n)) p t ts z
      ≡ write (member_tree trees (member_at members (row + d))) (p + first_bit (member_at members (row + d))) ts z
  unfolding branches_from members_at
  row_named j row zero d e l h = absurd (let z : ⊥ = omega arith in z)
  row_named j row (suc n) zero e l h =
      let same : row + 0 ≡ row = add-zero row in
      rw same
      (named (member_at members row).hidden j (first_bit (member_at members row))
      (member_tree trees (member_at members row)) (branches_from trees (suc j) (members_at members (row + 1) n))
      (omega arith) (rw same at h))
  row_named j row (suc n) (suc d) e l h =
      let same : row + suc d ≡ row + 1 + d = omega arith in
      passed (member_at members row).hidden j (first_bit (member_at members row))
      (member_tree trees (member_at members row)) (branches_from trees (suc j) (members_at members (row + 1) n))
      (λ q. absurd (let z : ⊥ = omega arith in z))
      ∙ rw same (row_named (suc j) (row + 1) n d (omega arith) (omega arith) (rw same at h))

  -- no visible row of n is named
  none_named : (j row n : ℕ) → ((d : ℕ) → d < n → payload_of 0 t ≡ j + d → (member_at members (row + d)).hidden ≡ true)
      → write_branch (branches_from trees j (members_at members row n)) p t ts z ≡ bad 18 (t ∷ ts)
  unfolding branches_from members_at write
  none_named j row zero h = refl
  none_named j row (suc n) h =
      let next : (d : ℕ) → row + 1 + d ≡ row + suc d = λ d. omega arith in
      passed (member_at members row).hidden j (first_bit (member_at members row))
      (member_tree trees (member_at members row)) (branches_from trees (suc j) (members_at members (row + 1) n))
      (λ q. rw add-zero at (h 0 (omega arith) (omega arith)))
      ∙ none_named (suc j) (row + 1) n (λ d l q. rw (next d) (h (suc d) (omega arith) (omega arith)))

module _ (types members : List ℕ) (i p : ℕ) (t : Token) (ts : List Token) (z : Bits) where
  -- an entry with the number of a visible member writes that member
  pub branch_is : (j : ℕ) → payload_of 0 t ≡ j → j < (type_at types i).count
      → (member_at members ((type_at types i).first + j)).hidden ≡ false
      → write_branch (branches_in types members i) p t ts z
      ≡ write (member_tree (tree_in types members) (member_at members ((type_at types i).first + j)))
      (p + first_bit (member_at members ((type_at types i).first + j))) ts z
  branch_is j e l h =
      row_named members (tree_in types members) p t ts z 0 (type_at types i).first (type_at types i).count j
      (e ∙ sym (zero-add j)) l h

  -- an entry with the number of a hidden member is refused with 18
  pub branch_hidden : (j : ℕ) → payload_of 0 t ≡ j → j < (type_at types i).count
      → (member_at members ((type_at types i).first + j)).hidden ≡ true
      → write_branch (branches_in types members i) p t ts z ≡ bad 18 (t ∷ ts)
  branch_hidden j e l h =
      none_named members (tree_in types members) p t ts z 0 (type_at types i).first (type_at types i).count
      (λ d a q. let same : d ≡ j = omega arith in rw same h)

  -- an entry with a number past the members is refused with 18
  pub branch_past : (j : ℕ) → payload_of 0 t ≡ j → (type_at types i).count ≤ j
      → write_branch (branches_in types members i) p t ts z ≡ bad 18 (t ∷ ts)
  branch_past j e l =
      none_named members (tree_in types members) p t ts z 0 (type_at types i).first (type_at types i).count
      (λ d a q. absurd (let z : ⊥ = omega arith in z))

-- ---- a nested row

module _ {types members : List ℕ} {i row : ℕ} {r : Nested} (nested : NestedRow types members i row)
    (held : HeldIn (member_at members row) r) where
  held_tree : member_tree (tree_in types members) (member_at members row)
      ≡ structs_tree (tree_in types members) r.structure r.count
  held_tree = rw (nested_whole (member_at members row) nested.nested, held.struct, held.count)

  -- count 0: the tree of a nested row is that of the structure that it holds
  pub one_tree : r.count ≡ 0
      → member_tree (tree_in types members) (member_at members row) ≡ tree_in types members r.structure
  unfolding structs_tree
  one_tree e = held_tree ∙ rw (eq-eqb r.count 0 e) refl

  -- any other count: it is an array of that structure's
  pub some_tree : (r.count ≡ 0 → ⊥)
      → member_tree (tree_in types members) (member_at members row)
      ≡ array r.count (tree_in types members r.structure)
  unfolding structs_tree
  some_tree e = held_tree ∙ rw (ne_eqb r.count 0 e) refl
