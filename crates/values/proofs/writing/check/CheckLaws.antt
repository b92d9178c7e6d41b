-- The check of structures and their arrays (document 01, "Writing"): what is left of the members and of the elements at
-- an entry, and what each way out of the two loops answers for every image and every place.
use Rattle.std.specs.Prelude.{Result, Ok, Err}
use Prim.Native.Nat.{ℕ, zero, suc, ◌+◌, ◌*◌, ◌^◌, ◌<◌, ◌≤◌}
use native.Mathlib.Omega.{arith}
use mathlib.Core.Path.{◌≡◌, refl, sym, ap, ◌∙◌}
use mathlib.Core.Bool.{Bool, true, false}
use mathlib.Core.List.{List}
use Rattle.words.specs.Bits.{Bits}
use Rattle.types.specs.tables.Lent.{member_at, type_at}
use Rattle.types.specs.tables.Limits.{most_types}
use Rattle.types.specs.tables.Sizes.{sizes_in}
use Rattle.types.specs.declared.refusals.refusal.Refusal.{Refusal}
use Rattle.types.specs.declared.refusals.refusal.Refusal.TheVariants.{EntryMisfit}
use Rattle.types.specs.declared.tables.member.StructDef.{StructDef}
use Rattle.values.specs.inside.reading.Walkable.{HeldIn, NestedRow, Walkable}
use Rattle.values.specs.inside.writing.Passes.{CheckedFrom, WellFormed, first_kind, left_at}
use Rattle.values.specs.inside.writing.Rows.{branches_in, member_tree, tree_in}
use Rattle.values.specs.reading.Leaf.{str, width}
use Rattle.values.specs.reading.Texts.{capacity_at}
use Rattle.values.specs.reading.Tree.{Tree, leaf, array, struct, Branches, span}
use Rattle.values.specs.reading.Trees.{is_string_kind}
use Rattle.values.specs.stream.Form.{stream_ok}
use Rattle.values.specs.stream.Stream.{Token}
use Rattle.values.specs.writing.Effects.{as_text, or_null}
use Rattle.values.specs.writing.Writing.{Outcome, and_then, write_one, opened, elements, write}
use Rattle.values.specs.declared.reading.rows.Nested.{Nested}
use Rattle.values.proofs.stream.LeftLaws.{EntryThere, by_kind, few_entries, there}
use Rattle.values.proofs.writing.BranchLaws.{members_tree, one_tree, some_tree, string_tree}
use Rattle.values.proofs.writing.OutcomeLaws.{in_struct, in_array, struct_opens, array_opens}
use Rattle.values.proofs.writing.StepLaws.{Onward, checked_as, onward_on, onward_then, refused_then}
use Rattle.values.proofs.writing.StepLaws.{opened_keeps, opened_goes, opened_refuses, elements_missing}
use Rattle.values.proofs.writing.StepLaws.{elements_closes, elements_go}
use Rattle.values.proofs.writing.fits.FitRunLaws.{AtEnd}

-- a stream has fewer than 2^28 entries
pub entry_small : {s : List ℕ} {n k : ℕ} → WellFormed s n → k ≤ n → k < 2 ^ 28
entry_small {s} told l = omega (arith, told.count, few_entries s told.form)

-- an answer of the check from a later entry on is one from an earlier entry on
pub checked_earlier : {s : List ℕ} {k p : ℕ} {f : Bits → Outcome} (r : Result ℕ Refusal) → k ≤ p
    → CheckedFrom s p r f → CheckedFrom s k r f
checked_earlier (Ok r) l c =
    record {
      says = record {
        further = let w = c.says.further in omega arith;
        inside = c.says.inside;
        gives = c.says.gives;
      };
    }
checked_earlier (Err why) l c = record { says = record { inside = c.says.inside; gives = c.says.gives } }

-- ---- a structure, where d was read from its row

module _ {types members : List ℕ} (w : Walkable types members) {i : ℕ} (low : i < most_types) {d : StructDef}
    (is : d ≡ type_at types i) {b : Bool} (test : b ≡ is_string_kind d.kind) where
  kind_is : is_string_kind (type_at types i).kind ≡ b
  kind_is = ap (λ (x : StructDef). is_string_kind x.kind) (sym is) ∙ sym test

  -- no string: what the check answers of the members it answers of the structure
  pub struct_checked : {s : List ℕ} {k : ℕ} {r : Result ℕ Refusal} → b ≡ false
      → ((p : ℕ) → CheckedFrom s k r (write (struct (8 * sizes_in types i) (branches_in types members i)) p
      (left_at s k)))
      → (p : ℕ) → CheckedFrom s k r (write (tree_in types members i) p (left_at s k))
  struct_checked {s} {k} e h p =
      checked_as
      (λ z. ap (λ (t : Tree). write t p (left_at s k) z) (members_tree types members w i low (kind_is ∙ e))) (h p)

  module _ (string : b ≡ true) {first : ℕ} (p : first ≡ d.first) where
    first_row_is : first ≡ (type_at types i).first
    first_row_is = p ∙ ap (λ (x : StructDef). x.first) is

    text_is : (capacity q : ℕ) (ts : List Token) (z : Bits)
        → write (leaf (str capacity)) q ts z ≡ write_one (or_null (as_text capacity)) (width (str capacity)) q ts z
    unfolding write
    text_is capacity q ts z = refl

    -- a string: what the check answers of one text or null it answers of the structure
    pub text_checked : {capacity : ℕ} {s : List ℕ} {k : ℕ} {r : Result ℕ Refusal} → capacity ≡ capacity_at members first
        → ((v q : ℕ) → CheckedFrom s k r (write_one (or_null (as_text capacity)) v q (left_at s k)))
        → (q : ℕ) → CheckedFrom s k r (write (tree_in types members i) q (left_at s k))
    text_checked {capacity} {s} {k} c h q =
        let same : capacity_at members (type_at types i).first ≡ capacity = sym
        (c ∙ ap (capacity_at members) first_row_is)
        in
        checked_as
        (λ z. ap (λ (t : Tree). write t q (left_at s k) z)
        (string_tree types members w i low (kind_is ∙ string) ∙ ap (λ (m : ℕ). leaf (str m)) same)
        ∙ text_is capacity q (left_at s k) z)
        (h (width (str capacity)) q)

-- ---- a nested row is the structure, or the array of structures, that it names

module _ {types members : List ℕ} {i row : ℕ} {h : Nested} (nested : NestedRow types members i row)
    (held : HeldIn (member_at members row) h) where
  -- count 0: what the check answers of the structure it answers of the member
  pub one_checked : {s : List ℕ} {k : ℕ} {r : Result ℕ Refusal} → h.count ≡ 0
      → ((p : ℕ) → CheckedFrom s k r (write (tree_in types members h.structure) p (left_at s k)))
      → (p : ℕ)
      → CheckedFrom s k r (write (member_tree (tree_in types members) (member_at members row)) p (left_at s k))
  one_checked {s} {k} e f p =
      checked_as (λ x. ap (λ (u : Tree). write u p (left_at s k) x) (one_tree nested held e)) (f p)

  -- any other count: what the check answers of the array it answers of the member
  pub some_checked : {s : List ℕ} {k : ℕ} {r : Result ℕ Refusal} → (h.count ≡ 0 → ⊥)
      → ((p : ℕ) → CheckedFrom s k r (write (array h.count (tree_in types members h.structure)) p (left_at s k)))
      → (p : ℕ)
      → CheckedFrom s k r (write (member_tree (tree_in types members) (member_at members row)) p (left_at s k))
  some_checked {s} {k} e f p =
      checked_as (λ x. ap (λ (u : Tree). write u p (left_at s k) x) (some_tree nested held e)) (f p)

-- ---- a null, or an opening

-- after the opening the inside is left to be checked
pub opened_left : {s : List ℕ} {k : ℕ} {f : Bits → Outcome} (start : ℕ) (inner : List Token → Bits → Outcome)
    → stream_ok s ≡ true → 1 ≤ start → start < 12 → first_kind (left_at s k) ≡ start
    → ((z : Bits) → f z ≡ opened start inner (left_at s k) z) → Onward s k f (k + 1) (inner (left_at s (k + 1)))
opened_left {s} {k} start inner form a b e same =
    let t = by_kind s k form (λ h. let z : ⊥ = omega arith in z) in
    record {
      further = omega arith;
      inside = let l = t.inside in omega arith;
      onward = λ r c. checked_as same (opened_goes form start inner a b e c);
    }

module _ {s : List ℕ} {n k start : ℕ} (told : WellFormed s n) (is : start ≡ first_kind (left_at s k)) where
  -- null for a structure: the check goes on to the next entry
  pub struct_null : (size : ℕ) (bs : Branches) → start ≡ 0 → (q : ℕ)
      → CheckedFrom s k (Ok (k + 1)) (write (struct size bs) q (left_at s k))
  struct_null size bs e q =
      checked_as (λ z. struct_opens size bs q (left_at s k) z)
      (opened_keeps told.form 8 (in_struct bs q) (sym is ∙ e))

  -- null for an array: the check goes on to the next entry
  pub array_null : (m : ℕ) (tree : Tree) → start ≡ 0 → (q : ℕ)
      → CheckedFrom s k (Ok (k + 1)) (write (array m tree) q (left_at s k))
  array_null m tree e q =
      checked_as (λ z. array_opens m tree q (left_at s k) z)
      (opened_keeps told.form 10 (in_array m tree q) (sym is ∙ e))

  module _ (l : k ≤ n) (a : start ≡ 0 → ⊥) where
    -- neither null nor an opening for a structure: the check answers 18 here
    pub struct_other : (size : ℕ) (bs : Branches) → (start ≡ 8 → ⊥) → (q : ℕ)
        → CheckedFrom s k (Err (EntryMisfit k)) (write (struct size bs) q (left_at s k))
    struct_other size bs b q =
        checked_as (λ z. struct_opens size bs q (left_at s k) z)
        (opened_refuses told.form 8 (in_struct bs q) (omega (arith, told.count)) (λ h. a (is ∙ h))
        (λ h. b (is ∙ h)))

    -- neither null nor an opening for an array: the check answers 18 here
    pub array_other : (m : ℕ) (tree : Tree) → (start ≡ 10 → ⊥) → (q : ℕ)
        → CheckedFrom s k (Err (EntryMisfit k)) (write (array m tree) q (left_at s k))
    array_other m tree b q =
        checked_as (λ z. array_opens m tree q (left_at s k) z)
        (opened_refuses told.form 10 (in_array m tree q) (omega (arith, told.count)) (λ h. a (is ∙ h))
        (λ h. b (is ∙ h)))

-- ---- the elements of an array of structures: e of them are checked, up to entry p

-- the elements before element e are checked, and the rest is left from entry p on
pub record ElementsChecked (types members : List ℕ) (i count : ℕ) (s : List ℕ) (n k p e : ℕ) : Type 0 where
  pub told : WellFormed s n
  pub walk : Walkable types members
  pub low : i < most_types
  pub rest : ℕ
  pub all : e + rest ≡ count
  pub place : ℕ → ℕ
  pub left : (q : ℕ) → Onward s k (write (array count (tree_in types members i)) q (left_at s k)) p
      (elements rest (write (tree_in types members i)) (span (tree_in types members i)) (place q) (left_at s p))

-- after the opening no element is checked yet
pub elements_start : {types members : List ℕ} {i count : ℕ} {s : List ℕ} {n k start : ℕ} → WellFormed s n
    → Walkable types members → i < most_types → start ≡ first_kind (left_at s k) → start ≡ 10
    → ElementsChecked types members i count s n k (k + 1) 0
elements_start {types} {members} {i} {count} {s} {n} {k} told w low is e =
    record {
      told = told;
      walk = w;
      low = low;
      rest = count;
      all = omega arith;
      place = λ q. q;
      left = λ q. opened_left 10 (in_array count (tree_in types members i) q) told.form (omega arith) (omega arith)
          (sym is ∙ e) (λ z. array_opens count (tree_in types members i) q (left_at s k) z);
    }

module _ {types members : List ℕ} {i count : ℕ} {s : List ℕ} {n k p e : ℕ}
    (w : ElementsChecked types members i count s n k p e) where
  abbrev tree : Tree
  tree = tree_in types members i

  -- what the whole check answers
  abbrev ArrayAnswer : Result ℕ Refusal → Type 0
  ArrayAnswer r = (q : ℕ) → CheckedFrom s k r (write (array count tree) q (left_at s k))

  -- the elements are checked up to an entry, or to the end of the entries
  pub elements_inside : p ≤ n
  elements_inside = let l = (w.left 0).inside in omega (arith, w.told.count)

  -- the way out with 18: no entry is left
  pub elements_short : n ≤ p → ArrayAnswer (Err (EntryMisfit p))
  elements_short h q =
      (w.left q).onward _
      (elements_missing w.told.form (write tree) (span tree) w.rest (w.place q)
      (omega (arith, elements_inside, w.told.count)))

  -- after the last place: what the check answers of the array's end it answers of the array
  pub elements_end : {r : Result ℕ Refusal} → e ≡ count → AtEnd s n p r → ArrayAnswer r
  elements_end full c q =
      let none : w.rest ≡ 0 = omega (arith, w.all) in
      (w.left q).onward _ (c w.rest (write tree) (span tree) (w.place q) (λ l. none))

  module _ (l : p < n) {kind : ℕ} (is : kind ≡ first_kind (left_at s p)) where
    here : EntryThere s p
    here = there s p w.told.form (omega (arith, w.told.count))

    -- the way out at the close: the next entry is answered
    pub elements_done : kind ≡ 11 → ArrayAnswer (Ok (p + 1))
    elements_done h q =
        (w.left q).onward _
        (elements_closes w.told.form (write tree) (span tree) w.rest (w.place q) (sym is ∙ h))

    module _ (more_left : kind ≡ 11 → ⊥) where
      module _ (more : e ≡ count → ⊥) where
        step : (rest q : ℕ) (z : Bits) → elements (suc rest) (write tree) (span tree) q (left_at s p) z
            ≡ and_then (write tree q (left_at s p) z) (elements rest (write tree) (span tree) (q + span tree))
        step rest q z =
            elements_go w.told.form (write tree) (span tree) rest q here (λ x. more_left (is ∙ x)) z

        -- one element that is refused
        pub elements_refused : {why : Refusal} → ((q : ℕ) → CheckedFrom s p (Err why) (write tree q (left_at s p)))
            → ArrayAnswer (Err why)
        elements_refused {why} c q = go w.rest w.all (w.left q)
          where
            go : (rest : ℕ) → e + rest ≡ count
                → Onward s k (write (array count tree) q (left_at s k)) p
                (elements rest (write tree) (span tree) (w.place q) (left_at s p))
                → CheckedFrom s k (Err why) (write (array count tree) q (left_at s k))
            go zero a o = absurd (more (omega arith))
            go (suc rest) a o =
                o.onward (Err why)
                (refused_then (elements rest (write tree) (span tree) (w.place q + span tree))
                (λ z. step rest (w.place q) z) (c (w.place q)))

        -- where an element is taken, one element more is checked
        pub elements_on : {r : ℕ} → ((q : ℕ) → CheckedFrom s p (Ok r) (write tree q (left_at s p)))
            → ElementsChecked types members i count s n k r (e + 1)
        elements_on {r} c = go w.rest w.all w.left
          where
            go : (rest : ℕ) → e + rest ≡ count
                → ((q : ℕ) → Onward s k (write (array count tree) q (left_at s k)) p
                (elements rest (write tree) (span tree) (w.place q) (left_at s p)))
                → ElementsChecked types members i count s n k r (e + 1)
            go zero a o = absurd (more (omega arith))
            go (suc rest) a o =
                record {
                  told = w.told;
                  walk = w.walk;
                  low = w.low;
                  rest = rest;
                  all = omega arith;
                  place = λ q. w.place q + span tree;
                  left = λ q. onward_on (o q)
                      (onward_then (elements rest (write tree) (span tree) (w.place q + span tree))
                      (λ z. step rest (w.place q) z) (c (w.place q)).says);
                }
