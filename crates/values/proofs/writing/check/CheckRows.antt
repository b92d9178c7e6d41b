-- The check of a structure's members (document 01, "Writing"): the row that an entry names, and what is left at an
-- entry of the members, which come in any order.
use Rattle.std.specs.Prelude.{Option, None, Some, Result, Ok, Err}
use Prim.Native.Nat.{ℕ, zero, suc, ◌+◌, ◌-◌, ◌*◌, ◌<◌, ◌≤◌}
use native.Mathlib.Decide.{dec_lt}
use native.Mathlib.Omega.{arith}
use mathlib.Core.Path.{◌≡◌, refl, sym, ap, ◌∙◌}
use mathlib.Core.Bool.{Bool, true, false, cond}
use mathlib.Core.List.{List, ◌∷◌}
use lib.Dec.{ltb}
use lib.ListN.{length}
use borrow.Author.Tests.{lt-ltb, le-ltb}
use Rattle.words.specs.Bits.{Bits}
use Rattle.words.specs.Words.{word_at}
use Rattle.types.specs.layout.Laid.{first_bit}
use Rattle.types.specs.tables.Lent.{member_at, type_at}
use Rattle.types.specs.tables.Limits.{most_types, most_members}
use Rattle.types.specs.tables.Sizes.{sizes_in}
use Rattle.types.specs.declared.refusals.refusal.Refusal.{Refusal}
use Rattle.types.specs.declared.refusals.refusal.Refusal.TheVariants.{EntryMisfit}
use Rattle.types.specs.declared.tables.member.Member.{Member}
use Rattle.types.specs.declared.tables.member.StructDef.{StructDef}
use Rattle.values.specs.inside.reading.Walk.{is_nested}
use Rattle.values.specs.inside.reading.Walkable.{RowOf, Walkable}
use Rattle.values.specs.inside.writing.Passes.{CheckedFrom, WellFormed, first_kind, left_at}
use Rattle.values.specs.inside.writing.Rows.{LeafRow, branches_in, member_tree, tree_in, visible_row}
use Rattle.values.specs.reading.Tree.{Tree, struct}
use Rattle.values.specs.stream.Form.{count_in}
use Rattle.values.specs.stream.Stream.{Token, kind_of, payload_of}
use Rattle.values.specs.writing.Writing.{Outcome, bad, and_then, members_in, write, write_branch}
use Rattle.values.proofs.reading.MemberLaws.{row_of}
use Rattle.values.proofs.stream.LeftLaws.{EntryThere, kind_there, left_long, there}
use Rattle.values.proofs.writing.BranchLaws.{branch_is, branch_hidden, branch_past}
use Rattle.values.proofs.writing.OutcomeLaws.{in_struct, struct_opens}
use Rattle.values.proofs.writing.StepLaws.{Onward, onward_on, onward_then, refused_then, refuses_at}
use Rattle.values.proofs.writing.StepLaws.{members_missing, members_closes, members_refuse, members_go}
use Rattle.values.proofs.writing.check.CheckLaws.{checked_earlier, opened_left}

-- ---- the row of a visible member

pub data Visible (members : List ℕ) (first count j : ℕ) (row : Option ℕ) : Type 0 where
  past : count ≤ j → row ≡ None → Visible members first count j row
  hides : j < count → (member_at members (first + j)).hidden ≡ true → row ≡ None
      → Visible members first count j row
  shows : j < count → (member_at members (first + j)).hidden ≡ false → row ≡ Some (first + j)
      → Visible members first count j row

visible : (members : List ℕ) (first count j : ℕ) → Visible members first count j (visible_row members first count j)
unfolding visible_row
visible members first count j = go (dec_lt j count)
  where
    side : (hidden : Bool) → (member_at members (first + j)).hidden ≡ hidden → j < count
        → Visible members first count j (cond hidden None (Some (first + j)))
    side true e l = hides l e refl
    side false e l = shows l e refl

    go : Dec (j < count)
        → Visible members first count j
        (cond (ltb j count) (cond (member_at members (first + j)).hidden None (Some (first + j))) None)
    go (yes l) = rw (lt-ltb j count l) (side (member_at members (first + j)).hidden refl l)
    go (no l) =
        let h : count ≤ j = omega (arith, l) in
        rw (le-ltb j count h) (past h refl)

module _ (members : List ℕ) (first count j : ℕ) where
  -- a number past the members has no visible row
  pub row_past : count ≤ j → None ≡ visible_row members first count j
  unfolding visible_row
  row_past l = rw (le-ltb j count l) refl

  module _ {m : Member} (is : m ≡ member_at members (first + j)) (l : j < count) where
    -- the number of a hidden member has no visible row
    pub row_hidden : m.hidden ≡ true → None ≡ visible_row members first count j
    unfolding visible_row
    row_hidden e = rw (lt-ltb j count l, ap (λ (x : Member). x.hidden) (sym is) ∙ e) refl

    -- the number of a visible member has that member's row
    pub row_shown : m.hidden ≡ false → Some (first + j) ≡ visible_row members first count j
    unfolding visible_row
    row_shown e = rw (lt-ltb j count l, ap (λ (x : Member). x.hidden) (sym is) ∙ e) refl

-- ---- the members: up to entry p they are checked

abbrev members_tree : List ℕ → List ℕ → ℕ → Tree
members_tree types members i = struct (8 * sizes_in types i) (branches_in types members i)

-- `most` is at least the number of the entries that are left
pub record MembersChecked (types members : List ℕ) (i : ℕ) (s : List ℕ) (n k first count p : ℕ) : Type 0 where
  pub told : WellFormed s n
  pub walk : Walkable types members
  pub low : i < most_types
  pub first_row_is : first ≡ (type_at types i).first
  pub count_is : count ≡ (type_at types i).count
  pub most : ℕ
  pub enough : count_in s - p ≤ most
  pub left : (q : ℕ) → Onward s k (write (members_tree types members i) q (left_at s k)) p
      (members_in (suc most) (write_branch (branches_in types members i) q) (left_at s p))

-- after the opening no member is checked yet
pub members_start : {types members : List ℕ} {i : ℕ} {s : List ℕ} {n k start : ℕ} {d : StructDef} → WellFormed s n
    → Walkable types members → i < most_types → start ≡ first_kind (left_at s k) → start ≡ 8 → d ≡ type_at types i
    → MembersChecked types members i s n k d.first d.count (k + 1)
members_start {types} {members} {i} {s} {n} {k} told w low is e d =
    record {
      told = told;
      walk = w;
      low = low;
      first_row_is = ap (λ (x : StructDef). x.first) d;
      count_is = ap (λ (x : StructDef). x.count) d;
      most = length (left_at s (k + 1));
      enough = omega (arith, left_long s (k + 1));
      left = λ q. opened_left 8 (in_struct (branches_in types members i) q) told.form (omega arith) (omega arith)
          (sym is ∙ e)
          (λ z. struct_opens (8 * sizes_in types i) (branches_in types members i) q (left_at s k) z);
    }

-- the branch of a visible row
branch_row : (types members : List ℕ) (i q : ℕ) (t : Token) (ts : List Token) (z : Bits) (j row : ℕ)
    → row ≡ (type_at types i).first + j → payload_of 0 t ≡ j → j < (type_at types i).count
    → (member_at members row).hidden ≡ false
    → write_branch (branches_in types members i) q t ts z
    ≡ write (member_tree (tree_in types members) (member_at members row)) (q + first_bit (member_at members row)) ts z
branch_row types members i q t ts z j row e n l h =
    rw e (branch_is types members i q t ts z j n l (rw e at h))

-- entry p names a visible row
pub record RowNamed (types members : List ℕ) (i : ℕ) (s : List ℕ) (p row : ℕ) : Type 0 where
  pub row_of : RowOf types members i row
  pub shown : (member_at members row).hidden ≡ false
  pub here : EntryThere s p
  pub kind : first_kind (left_at s p) ≡ 7
  pub gives : (q : ℕ) (z : Bits)
      → write_branch (branches_in types members i) q here.token (left_at s (p + 1)) z
      ≡ write (member_tree (tree_in types members) (member_at members row)) (q + first_bit (member_at members row))
      (left_at s (p + 1)) z

module _ {types members : List ℕ} {i : ℕ} {s : List ℕ} {n k first count p : ℕ}
    (w : MembersChecked types members i s n k first count p) where
  abbrev one : ℕ → Token → List Token → Bits → Outcome
  one q = write_branch (branches_in types members i) q

  -- what the whole check answers
  abbrev StructAnswer : Result ℕ Refusal → Type 0
  StructAnswer r = (q : ℕ) → CheckedFrom s k r (write (members_tree types members i) q (left_at s k))

  -- the members are checked up to an entry, or to the end of the entries
  pub members_inside : p ≤ n
  members_inside = let l = (w.left 0).inside in omega (arith, w.told.count)

  -- the structure's rows are in the table
  pub rows_inside : first + count ≤ most_members
  rows_inside = omega (arith, w.first_row_is, w.count_is, (w.walk.each i w.low).rows)

  -- the way out with 18: no entry is left
  pub members_short : n ≤ p → StructAnswer (Err (EntryMisfit p))
  members_short h q =
      (w.left q).onward _
      (members_missing w.told.form (one q) (suc w.most) (omega (arith, members_inside, w.told.count)))

  module _ (l : p < n) {kind : ℕ} (is : kind ≡ first_kind (left_at s p)) where
    at_entry : EntryThere s p
    at_entry = there s p w.told.form (omega (arith, w.told.count))

    -- the way out at the close: the next entry is answered
    pub members_done : kind ≡ 9 → StructAnswer (Ok (p + 1))
    members_done h q =
        (w.left q).onward _ (members_closes w.told.form (one q) w.most (sym is ∙ h))

    -- the way out with 18: neither the close nor a member number
    pub members_bad : (kind ≡ 9 → ⊥) → (kind ≡ 7 → ⊥) → StructAnswer (Err (EntryMisfit p))
    members_bad a b q =
        (w.left q).onward _
        (members_refuse w.told.form (one q) w.most at_entry (λ x. a (is ∙ x)) (λ x. b (is ∙ x)))

    module _ (seven : kind ≡ 7) {j : ℕ} (payload : j ≡ word_at 8 s (8 + 12 * p)) where
      number_is : payload_of 0 at_entry.token ≡ j
      number_is =
          let named : kind_of at_entry.token ≡ 7 = sym (kind_there at_entry) ∙ sym is ∙ seven in
          at_entry.payload (λ x. let z : ⊥ = omega arith in z) ∙ sym payload

      -- the way out with 18: the number of no visible row
      pub members_unseen : None ≡ visible_row members first count j → StructAnswer (Err (EntryMisfit p))
      members_unseen none q =
          (w.left q).onward _
          (refuses_at (EntryMisfit p) (omega (arith, members_inside, w.told.count))
          (λ z. members_go w.told.form (one q) w.most at_entry (sym is ∙ seven) z
          ∙ ap (λ (o : Outcome). and_then o (members_in w.most (one q)))
          (lost z (visible members first count j))
          ∙ ap (bad 18) (sym at_entry.left)))
        where
          lost : (z : Bits) → Visible members first count j (visible_row members first count j)
              → one q at_entry.token (left_at s (p + 1)) z ≡ bad 18 (at_entry.token ∷ left_at s (p + 1))
          lost z (past a f) =
              branch_past types members i q at_entry.token (left_at s (p + 1)) z j number_is
              (omega (arith, w.count_is))
          lost z (hides a b f) =
              branch_hidden types members i q at_entry.token (left_at s (p + 1)) z j number_is
              (omega (arith, w.count_is)) (rw w.first_row_is at b)
          lost z (shows a b f) = absurd (let y : ⊥ = cc in y)

      -- a number with a visible row names that row
      pub row_named : {row : ℕ} → Some row ≡ visible_row members first count j
          → RowNamed types members i s p row
      row_named {row} e = go (visible members first count j)
        where
          go : Visible members first count j (visible_row members first count j) → RowNamed types members i s p row
          go (past a f) = absurd (let z : ⊥ = cc in z)
          go (hides a b f) = absurd (let z : ⊥ = cc in z)
          go (shows a b f) =
              let same : row ≡ first + j = cc in
              record {
                row_of = rw same (row_of w.walk w.low w.first_row_is w.count_is a);
                shown = rw same b;
                here = at_entry;
                kind = sym is ∙ seven;
                gives = λ q z. branch_row types members i q at_entry.token (left_at s (p + 1)) z j row
                    (same ∙ ap (◌+ j) w.first_row_is) number_is (omega (arith, w.count_is)) (rw same b);
              }

  module _ {row : ℕ} (v : RowNamed types members i s p row) where
    -- what the check answers of the member, wherever it lies
    abbrev RowAnswer : Result ℕ Refusal → Type 0
    RowAnswer r =
        (q : ℕ) → CheckedFrom s (p + 1) r
        (write (member_tree (tree_in types members) (member_at members row)) q (left_at s (p + 1)))

    -- the member at its place
    abbrev valued : ℕ → Bits → Outcome
    valued q =
        write (member_tree (tree_in types members) (member_at members row)) (q + first_bit (member_at members row))
        (left_at s (p + 1))

    step : (most q : ℕ) (z : Bits)
        → members_in (suc most) (one q) (left_at s p) z ≡ and_then (valued q z) (members_in most (one q))
    step most q z =
        members_go w.told.form (one q) most v.here v.kind z
        ∙ ap (λ (o : Outcome). and_then o (members_in most (one q))) (v.gives q z)

    value_checked : (r : Result ℕ Refusal) → RowAnswer r → (q : ℕ) → CheckedFrom s p r (valued q)
    value_checked r c q = checked_earlier r (omega arith) (c (q + first_bit (member_at members row)))

    -- where a member is refused, so is the structure
    pub members_refused : {why : Refusal} → RowAnswer (Err why) → StructAnswer (Err why)
    members_refused {why} c q =
        (w.left q).onward _
        (refused_then (members_in w.most (one q)) (λ z. step w.most q z) (value_checked (Err why) c q))

    module _ {r : ℕ} (c : RowAnswer (Ok r)) where
      -- where a member is taken, the next entry is a later one
      pub members_further : p < r
      members_further = omega (arith, (c 0).says.further)

      -- a member that is taken: the others are left from the entry after its value on
      pub members_on : MembersChecked types members i s n k first count r
      members_on = go w.most w.enough w.left
        where
          go : (most : ℕ) → count_in s - p ≤ most
              → ((q : ℕ) → Onward s k (write (members_tree types members i) q (left_at s k)) p
              (members_in (suc most) (one q) (left_at s p)))
              → MembersChecked types members i s n k first count r
          go zero l o = absurd (let z : ⊥ = omega (arith, v.here.inside) in z)
          go (suc most) l o =
              record {
                told = w.told;
                walk = w.walk;
                low = w.low;
                first_row_is = w.first_row_is;
                count_is = w.count_is;
                most = most;
                enough = omega (arith, (c 0).says.further);
                left = λ q. onward_on (o q)
                    (onward_then (members_in (suc most) (one q)) (λ z. step (suc most) q z)
                    (value_checked (Ok r) c q).says);
              }

-- a visible row that is no structure
pub leaf_row : {types members : List ℕ} {i : ℕ} {s : List ℕ} {p row : ℕ} → RowNamed types members i s p row
    → is_nested (member_at members row) ≡ false → LeafRow members row
leaf_row v e = record { inside = v.row_of.inside; visible = v.shown; flat = e }
