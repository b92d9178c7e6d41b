-- The plain members of a structure swept row by row (document 01, "Normal image"): what is left to sweep after some
-- rows, over the image as it then stands, gives what there was to sweep at the start.
use Prim.Native.Nat.{ℕ, suc, ◌+◌, ◌-◌, ◌*◌, ◌<◌, ◌≤◌}
use native.Mathlib.Nat.{add-zero}
use native.Mathlib.Omega.{arith}
use mathlib.Core.Path.{◌≡◌, refl, sym, ap, ap₂, ◌∙◌, subst}
use mathlib.Core.Bool.{true, false}
use mathlib.Core.List.{List, [], ◌∷◌}
use lib.ListN.{length, replicate}
use lib.Seq.{sets}
use Rattle.words.specs.Bits.{Bits, flat}
use Rattle.types.specs.layout.Laid.{first_bit}
use Rattle.types.specs.tables.Lent.{member_at, type_at}
use Rattle.types.specs.tables.Limits.{most_members}
use Rattle.types.specs.tables.Sizes.{sizes_in}
use Rattle.types.specs.declared.tables.member.Member.{Member}
use Rattle.types.specs.declared.tables.member.StructDef.{StructDef}
use Rattle.values.specs.inside.normal_image.InPlace.{OnwardTo, PlainRow, cleared, is_plain, onward, past_tree}
use Rattle.values.specs.inside.normal_image.InPlace.{swept}
use Rattle.values.specs.inside.normal_image.Placed.{TreePlaced, Stairs, Sweepable}
use Rattle.values.specs.inside.reading.Walkable.{WalkableType, MemberWithin}
use Rattle.values.specs.inside.writing.Rows.{Here, member_tree, tree_in}
use Rattle.values.specs.reading.Tree.{Tree}
use Rattle.values.specs.reading.Trees.{members_at}
use Rattle.values.proofs.normal_image.SweepableLaws.{sweepable_walkable}
use Rattle.values.proofs.writing.ClearLaws.{zeros_cleared}

-- ---- one member before others

module _ (trees : ℕ → Tree) (size c : ℕ) (m : Member) (ms : List Member) where
  stairs_past : is_plain m ≡ false → Stairs trees size (m ∷ ms) c → Stairs trees size ms c
  unfolding Stairs
  stairs_past e s = rw e at s

  stairs_on : is_plain m ≡ true → Stairs trees size (m ∷ ms) c
      → (c ≤ first_bit m) × (TreePlaced (member_tree trees m) × Stairs trees size ms (past_tree trees m))
  unfolding Stairs
  stairs_on e s = rw e at s

  swept_past : is_plain m ≡ false → (p : ℕ) (x : Bits)
      → swept trees p size (m ∷ ms) c x ≡ swept trees p size ms c x
  unfolding swept
  swept_past e p x = rw e refl

  swept_on : is_plain m ≡ true → (p : ℕ) (x : Bits)
      → swept trees p size (m ∷ ms) c x ≡ swept trees p size ms (past_tree trees m) (onward trees p m c x)
  unfolding swept
  swept_on e p x = rw e refl

-- ---- rows

-- the size in a structure's row is how many bytes it has
pub size_of_type : (types : List ℕ) (i : ℕ) {size : ℕ} {d : StructDef} → d ≡ type_at types i → size ≡ d.size
    → size ≡ sizes_in types i
size_of_type types i is e = e ∙ ap (λ (x : StructDef). x.size) is

-- what is left of the rows of structure i before row k, from byte c of it on: `left` rows, over the image as it stands
pub record Sweeping (types members : List ℕ) (i : ℕ) (image : List ℕ) (base first count : ℕ) (now : List ℕ) (c k : ℕ)
    : Type 0 where
  pub sweepable : Sweepable types members
  pub here : Here types i base image
  pub first_row_is : first ≡ (type_at types i).first
  pub count_is : count ≡ (type_at types i).count
  pub left : ℕ
  pub all : k + left ≡ count
  pub long : length now ≡ length image
  pub stairs : Stairs (tree_in types members) (8 * sizes_in types i) (members_at members (first + k) left) (8 * c)
  pub same : swept (tree_in types members) (8 * base) (8 * sizes_in types i) (members_at members (first + k) left)
      (8 * c)
      (flat now)
      ≡ swept (tree_in types members) (8 * base) (8 * sizes_in types i)
      (members_at members (type_at types i).first (type_at types i).count) 0 (flat image)

-- before the first row all are left
pub sweep_start : {types members : List ℕ} {i : ℕ} {image : List ℕ} {base : ℕ} {d : StructDef}
    → Sweepable types members → Here types i base image → d ≡ type_at types i
    → Sweeping types members i image base d.first d.count image 0 0
sweep_start {types} {members} {i} {image} {base} {d} s h is =
    record {
      sweepable = s;
      here = h;
      first_row_is = ap (λ (x : StructDef). x.first) is;
      count_is = ap (λ (x : StructDef). x.count) is;
      left = d.count;
      all = omega arith;
      long = refl;
      stairs = rw (add-zero, is) (s.stairs i h.low);
      same = rw (add-zero, is) refl;
    }

module _ {types members : List ℕ} {i : ℕ} {image : List ℕ} {base first count : ℕ} {now : List ℕ} {c k : ℕ}
    (v : Sweeping types members i image base first count now c k) where
  type_is : WalkableType types members i
  type_is = (sweepable_walkable v.sweepable).each i v.here.low

  -- the structure lies in the image as it now stands
  pub sweep_here : Here types i base now
  sweep_here = record { low = v.here.low; inside = omega (arith, v.here.inside, v.long) }

  -- ---- a row

  module _ (l : k < count) where
    -- the next row is a row of the table
    sweep_row : first + k < most_members
    sweep_row = omega (arith, type_is.rows, v.first_row_is, v.count_is)

    abbrev more : ℕ
    more = v.left - 1

    rows_are : members_at members (first + k) v.left
        ≡ member_at members (first + k) ∷ members_at members (first + (k + 1)) more
    unfolding members_at
    rows_are =
        let e : v.left ≡ suc more = omega (arith, v.all, l) in
        let n : first + k + 1 ≡ first + (k + 1) = omega arith in
        ap (members_at members (first + k)) e
        ∙ ap (λ (row : ℕ). member_at members (first + k) ∷ members_at members row more) n

    rows_stairs : Stairs (tree_in types members) (8 * sizes_in types i)
        (member_at members (first + k) ∷ members_at members (first + (k + 1)) more) (8 * c)
    rows_stairs =
        subst (λ (ms : List Member). Stairs (tree_in types members) (8 * sizes_in types i) ms (8 * c)) rows_are
        v.stairs

    rows_same : swept (tree_in types members) (8 * base) (8 * sizes_in types i)
        (member_at members (first + k) ∷ members_at members (first + (k + 1)) more) (8 * c) (flat now)
        ≡ swept (tree_in types members) (8 * base) (8 * sizes_in types i)
        (members_at members (type_at types i).first (type_at types i).count) 0 (flat image)
    rows_same =
        ap (λ (ms : List Member). swept (tree_in types members) (8 * base) (8 * sizes_in types i) ms (8 * c) (flat now))
        (sym rows_are)
        ∙ v.same

    -- a row that is not plain is passed
    pub sweep_past : is_plain (member_at members (first + k)) ≡ false
        → Sweeping types members i image base first count now c (k + 1)
    sweep_past e =
        let ms : List Member = members_at members (first + (k + 1)) more in
        record {
          sweepable = v.sweepable;
          here = v.here;
          first_row_is = v.first_row_is;
          count_is = v.count_is;
          left = more;
          all = omega (arith, v.all, l);
          long = v.long;
          stairs =
              stairs_past (tree_in types members) (8 * sizes_in types i) (8 * c) (member_at members (first + k)) ms e
              rows_stairs;
          same =
              sym
              (swept_past (tree_in types members) (8 * sizes_in types i) (8 * c) (member_at members (first + k)) ms e
              (8 * base) (flat now))
              ∙ rows_same;
        }

    -- a plain one
    module _ (e : is_plain (member_at members (first + k)) ≡ true) where
      after : (8 * c ≤ first_bit (member_at members (first + k)))
          × (TreePlaced (member_tree (tree_in types members) (member_at members (first + k)))
          × Stairs (tree_in types members) (8 * sizes_in types i) (members_at members (first + (k + 1)) more)
          (past_tree (tree_in types members) (member_at members (first + k))))
      after =
          stairs_on (tree_in types members) (8 * sizes_in types i) (8 * c) (member_at members (first + k))
          (members_at members (first + (k + 1)) more) e rows_stairs

      -- a plain member in the next row begins at or after the byte swept up to
      pub sweep_plain : PlainRow types members i (first + k) c
      sweep_plain =
          record {
            row_of = record { low = v.here.low; inside = sweep_row; within = within };
            plain = e;
            after = after.0;
          }
        where
          within : MemberWithin types i (sizes_in types i) (member_at members (first + k))
          within = rw v.first_row_is (type_is.each k (omega (arith, l, v.count_is)))

      -- a plain row is made normal, with what is before it cleared: one row more
      pub sweep_on : {new : List ℕ} {r : ℕ}
          → OnwardTo (tree_in types members) base c (member_at members (first + k)) now new r → length new ≡ length now
          → Sweeping types members i image base first count new r (k + 1)
      sweep_on {new} {r} o g =
          let ms : List Member = members_at members (first + (k + 1)) more in
          record {
            sweepable = v.sweepable;
            here = v.here;
            first_row_is = v.first_row_is;
            count_is = v.count_is;
            left = more;
            all = omega (arith, v.all, l);
            long = g ∙ v.long;
            stairs =
                subst (Stairs (tree_in types members) (8 * sizes_in types i) ms) (sym o.next) after.1.1;
            same =
                ap₂ (swept (tree_in types members) (8 * base) (8 * sizes_in types i) ms) o.next o.bits
                ∙ sym
                (swept_on (tree_in types members) (8 * sizes_in types i) (8 * c) (member_at members (first + k)) ms e
                (8 * base) (flat now))
                ∙ rows_same;
          }

  -- ---- after the last row

  module _ (l : count ≤ k) where
    none_left : members_at members (first + k) v.left ≡ []
    unfolding members_at
    none_left =
        let e : v.left ≡ 0 = omega (arith, l, v.all) in
        ap (members_at members (first + k)) e

    -- after the last row the byte swept up to is at most the size
    pub sweep_low : c ≤ sizes_in types i
    unfolding Stairs
    sweep_low =
        let h : 8 * c ≤ 8 * sizes_in types i
        = subst (λ (ms : List Member). Stairs (tree_in types members) (8 * sizes_in types i) ms (8 * c)) none_left
        v.stairs in
        omega arith

    -- after the last row, with the rest cleared, the structure is swept
    pub sweep_done : {new : List ℕ} {size : ℕ} → size ≡ sizes_in types i
        → new ≡ sets now (base + c) (replicate (size - c) 0)
        → flat new
        ≡ swept (tree_in types members) (8 * base) (8 * sizes_in types i)
        (members_at members (type_at types i).first (type_at types i).count) 0 (flat image)
    unfolding swept
    sweep_done {new} {size} e q =
        let p : 8 * (base + c) ≡ 8 * base + 8 * c = omega arith in
        let n : 8 * (size - c) ≡ 8 * sizes_in types i - 8 * c = omega arith in
        ap flat q ∙ zeros_cleared now (base + c) (size - c) (omega (arith, sweep_low, sweep_here.inside))
        ∙ ap₂ (λ (a b : ℕ). cleared a b (flat now)) p n
        ∙ ap (λ (ms : List Member). swept (tree_in types members) (8 * base) (8 * sizes_in types i) ms (8 * c)
        (flat now))
        (sym none_left)
        ∙ v.same
