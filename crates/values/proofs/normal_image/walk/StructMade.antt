-- A structure made normal (document 01, "Normal image"): its plain members swept and its BOOLs put back, zero but for
-- each visible member's normal place.
use Rattle.std.specs.Prelude.{Option, Some, None}
use Prim.Native.Nat.{ℕ, suc, ◌+◌, ◌-◌}
use native.Mathlib.Omega.{arith}
use mathlib.Core.Path.{◌≡◌, refl, sym, ap, ◌∙◌, fun_ext}
use mathlib.Core.Bool.{Bool, true, false, cond, not, ◌||◌}
use mathlib.Core.List.{List, [], ◌∷◌, ◌++◌}
use Rattle.words.specs.Bits.{Bits, inside}
use Rattle.words.proofs.BitLaws.{BitLies, among, beside, lies}
use Rattle.words.proofs.TestLaws.{not-true, or_first, or_none, or_second, cond_same}
use Rattle.types.specs.layout.Laid.{first_in, has_bit}
use Rattle.types.specs.declared.tables.member.Member.{Member}
use Rattle.values.specs.inside.normal_image.InPlace.{flagged, is_flag, is_plain, made, swept}
use Rattle.values.specs.inside.normal_image.Placed.{BranchesPlaced, ClearOfBranches, TreePlaced, Stairs}
use Rattle.values.specs.normal_image.Normal.{held, normal}
use Rattle.values.specs.reading.Leaf.{flag}
use Rattle.values.specs.reading.Tree.{Branches, Item, Tree, at, between, branch_items, items, span, struct}
use Rattle.values.specs.reading.Trees.{bit_tree, branches_from, seen, value_tree}
use Rattle.values.proofs.normal_image.MadeLaws.{normal_around, normal_first, normal_second}
use Rattle.values.proofs.normal_image.PlacedLaws.{branches_clear, held_append, tree_between}
use Rattle.values.proofs.normal_image.walk.FlagLaws.{SameFlags, flag_items, flagged_is}
use Rattle.values.proofs.normal_image.walk.SweptLaws.{plain_items, swept_is}
use Rattle.values.proofs.writing.OnlyHeld.{held_first, held_second}

-- ---- bits that no visible member holds

-- a bit that neither the BOOLs nor the plain members hold
record HeldByNone (bools others : List Item) (k : ℕ) : Type 0 where
  flags : held bools k ≡ false
  plain : held others k ≡ false

module _ (trees : ℕ → Tree) (p : ℕ) where
  unheld : (ms : List Member) (j k : ℕ) → held (branch_items (branches_from trees j ms) p) k ≡ false
      → HeldByNone (flag_items p ms) (plain_items trees p ms) k
  unfolding branches_from branch_items items flag_items plain_items is_flag is_plain held
  unheld [] j k e = record { flags = refl; plain = refl }
  unheld (m ∷ ms) j k e = go m.hidden m.bit (unheld ms (suc j) k) e
    where
      value : Tree
      value = value_tree trees m.ty m.count

      rest : Branches
      rest = branches_from trees (suc j) ms

      go : (h : Bool) (b : Option ℕ)
          → (held (branch_items rest p) k ≡ false → HeldByNone (flag_items p ms) (plain_items trees p ms) k)
          → held (branch_items (seen h j (first_in b m.offset) (bit_tree b value) rest) p) k ≡ false
          → HeldByNone
          (cond (has_bit (cond h None b)) (at (p + first_in b m.offset) flag ∷ flag_items p ms) (flag_items p ms))
          (cond (cond h false (not (has_bit b)))
          (items (bit_tree b value) (p + first_in b m.offset) ++ plain_items trees p ms) (plain_items trees p ms)) k
      go true b ih e = ih e
      go false None ih e =
          let own : List Item = items value (p + first_in None m.offset) in
          let r : HeldByNone (flag_items p ms) (plain_items trees p ms) k =
          ih (held_second own (branch_items rest p) k e) in
          record {
            flags = r.flags;
            plain = held_append own (plain_items trees p ms) k
                ∙ or_none (held own k) (held (plain_items trees p ms) k) (held_first own (branch_items rest p) k e)
                r.plain;
          }
      go false (Some i) ih e =
          let bit : Bool = inside (p + first_in (Some i) m.offset) 1 k in
          let r : HeldByNone (flag_items p ms) (plain_items trees p ms) k =
          ih (or_second bit (held (branch_items rest p) k) e) in
          record {
            flags = or_none bit (held (flag_items p ms) k) (or_first bit (held (branch_items rest p) k) e) r.flags;
            plain = r.plain;
          }

-- ---- the BOOLs as they were, the plain members normal

-- bit k as it was where a BOOL holds it, else as the plain members have it, is as all of them have it
abbrev Merged : List Item → List Item → List Item → Bits → ℕ → Type 0
Merged bools others all x k = cond (held bools k) (x k) (normal others x k) ≡ normal all x k

-- a BOOL before the others
bool_merged : (q : ℕ) (bools others all : List Item) (x : Bits) (k : ℕ) → Merged bools others all x k
    → Merged (at q flag ∷ bools) others (at q flag ∷ all) x k
unfolding held normal
bool_merged q bools others all x k ih = go (lies q 1 k)
  where
    go : BitLies q 1 k
        → cond (inside q 1 k || held bools k) (x k) (normal others x k)
        ≡ cond (inside q 1 k) (x (q + (k - q))) (normal all x k)
    go (among u v e) = let w : k ≡ q + (k - q) = omega arith in rw e (ap x w)
    go (beside f e) = rw e ih

-- a plain member before the others
plain_merged : (t : Tree) (size p o : ℕ) (bools others : List Item) (bs : Branches) (x : Bits) (k : ℕ) → TreePlaced t
    → ClearOfBranches o (span t) bs → BranchesPlaced size bs
    → (held (branch_items bs p) k ≡ false → HeldByNone bools others k) → Merged bools others (branch_items bs p) x k
    → Merged bools (items t (p + o) ++ others) (items t (p + o) ++ branch_items bs p) x k
plain_merged t size p o bools others bs x k placed clear all none ih = go (lies (p + o) (span t) k)
  where
    own : List Item
    own = items t (p + o)

    go : BitLies (p + o) (span t) k → Merged bools (own ++ others) (own ++ branch_items bs p) x k
    go (among u v e) =
        let w : held (branch_items bs p) k ≡ false =
        not-true (held (branch_items bs p) k) (λ h. branches_clear bs size o (span t) p all clear k h u v) in
        rw (none w).flags
        (normal_first own others x k (none w).plain ∙ sym (normal_first own (branch_items bs p) x k w))
    go (beside f e) =
        let w : held own k ≡ false =
        not-true (held own k)
        (λ h. f (tree_between t (p + o) placed k h).0 (tree_between t (p + o) placed k h).1) in
        rw (normal_second own others x k w, normal_second own (branch_items bs p) x k w) ih

merged : (trees : ℕ → Tree) (p size : ℕ) (ms : List Member) (j : ℕ) → BranchesPlaced size (branches_from trees j ms)
    → (x : Bits) (k : ℕ)
    → Merged (flag_items p ms) (plain_items trees p ms) (branch_items (branches_from trees j ms) p) x k
unfolding branches_from branch_items items flag_items plain_items is_flag is_plain held normal TreePlaced
merged trees p size [] j a x k = refl
merged trees p size (m ∷ ms) j a x k = go m.hidden m.bit a (λ r. merged trees p size ms (suc j) r x k)
  where
    value : Tree
    value = value_tree trees m.ty m.count

    rest : Branches
    rest = branches_from trees (suc j) ms

    go : (h : Bool) (b : Option ℕ) → BranchesPlaced size (seen h j (first_in b m.offset) (bit_tree b value) rest)
        → (BranchesPlaced size rest → Merged (flag_items p ms) (plain_items trees p ms) (branch_items rest p) x k)
        → Merged
        (cond (has_bit (cond h None b)) (at (p + first_in b m.offset) flag ∷ flag_items p ms) (flag_items p ms))
        (cond (cond h false (not (has_bit b)))
        (items (bit_tree b value) (p + first_in b m.offset) ++ plain_items trees p ms) (plain_items trees p ms))
        (branch_items (seen h j (first_in b m.offset) (bit_tree b value) rest) p) x k
    go true b a ih = ih a
    go false None (placed, (_, (clear, all))) ih =
        plain_merged value size p (first_in None m.offset) (flag_items p ms) (plain_items trees p ms) rest x k placed
        clear all (unheld trees p ms (suc j) k) (ih all)
    go false (Some i) (placed, (_, (clear, all))) ih =
        bool_merged (p + first_in (Some i) m.offset) (flag_items p ms) (plain_items trees p ms) (branch_items rest p) x
        k (ih all)

-- ---- the whole

swept_whole : (trees : ℕ → Tree) (p size : ℕ) (ms : List Member) → Stairs trees size ms 0 → (x : Bits) (k : ℕ)
    → swept trees p size ms 0 x k ≡ cond (inside p size k) (normal (plain_items trees p ms) x k) (x k)
swept_whole trees p size ms s x k =
    let e : p + 0 ≡ p = omega arith in
    let f : size - 0 ≡ size = omega arith in
    rw (e, f) at (swept_is trees p size ms 0 s x k)

-- plain members swept and BOOLs put back as they were are the structure made normal
pub struct_made : (trees : ℕ → Tree) (p size : ℕ) (ms : List Member) → Stairs trees size ms 0
    → BranchesPlaced size (branches_from trees 0 ms) → (b x : Bits) → SameFlags b x p 0 ms
    → flagged b p 0 ms (swept trees p size ms 0 x) ≡ made (struct size (branches_from trees 0 ms)) p x
unfolding made span items
struct_made trees p size ms s a b x same =
    fun_ext (λ k. flagged_is b x p 0 ms same (swept trees p size ms 0 x) k ∙ go k (lies p size k))
  where
    all : List Item
    all = branch_items (branches_from trees 0 ms) p

    go : (k : ℕ) → BitLies p size k
        → cond (held (flag_items p ms) k) (x k) (swept trees p size ms 0 x k)
        ≡ cond (inside p size k) (normal (between 8 9 all) x k) (x k)
    go k (among u v e) =
        rw (swept_whole trees p size ms s x k, e) (merged trees p size ms 0 a x k ∙ sym (normal_around 8 9 all x k))
    go k (beside f e) = rw (swept_whole trees p size ms s x k, e) (cond_same (held (flag_items p ms) k) (x k))
