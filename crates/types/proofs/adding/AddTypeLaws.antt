-- Laws of adding a type, in the document's order: one for each way out of a test, and what is carried on.
use Rattle.std.specs.Prelude.{Option, Result, Ok, Err}
use Prim.Native.Nat.{ℕ, ◌-◌, ◌≤◌}
use mathlib.Core.Path.{◌≡◌, sym, ◌∙◌}
use mathlib.Core.Bool.{Bool, true, false, not, ◌&&◌}
use mathlib.Core.List.{List, []}
use borrow.Author.Tests.{leb-true}
use lib.Dec.{eqb, leb}
use Rattle.words.proofs.TestLaws.{and_left, and_right}
use Rattle.types.specs.adding.Add.{no, add_laid, add_members, add_string, add_named, add_fresh, add_entry, string_ok}
use Rattle.types.specs.adding.Add.{new_def, fitted}
use Rattle.types.specs.adding.Checks.{checked, entries_from, member_number}
use Rattle.types.specs.adding.Ids.{id_for, id_number}
use Rattle.types.specs.atomics.Lookup.{type_among}
use Rattle.types.specs.book.Contents.{is_aoi, is_string, has_id}
use Rattle.types.specs.book.Names.{good_name}
use Rattle.types.specs.layout.Placing.{most_size}
use Rattle.types.specs.layout.Structs.{string_parts, string_size}
use Rattle.types.specs.rounds.Resolve.{is_found}
use Rattle.types.specs.tables.Registry.{View}
use Rattle.types.specs.declared.adding.checks.MemberFault.{MemberFault}
use Rattle.types.specs.declared.adding.ids.IdFault.{IdFault}
use Rattle.types.specs.declared.book.contents.TypeEntry.{TypeEntry}
use Rattle.types.specs.declared.layout.placing.Decl.{Decl}
use Rattle.types.specs.declared.tables.member.StructKind.TheVariants.{Str}
use Rattle.types.specs.declared.tables.member.Ty.{Ty}

-- ---- per member 2, 8, 9

module _ (v : View) (book : List ℕ) (i at n : ℕ) (aoi : Bool) (name : List ℕ) (id : ℕ) (ds : List Decl)
    {c : Result (Unit {0}) MemberFault} (e : c ≡ checked book aoi [] (entries_from book at 0 n)) where
  -- where all members are good, they are laid out
  pub members_laid : c ≡ Ok tt → add_members v book i at n aoi name id ds ≡ add_laid v book i aoi name id ds
  unfolding add_members
  members_laid q = rw (← e, q)

  -- where a member is bad: refusal 2, 8 or 9, as the first that is bad gives
  pub members_bad : {f : MemberFault} → c ≡ Err f → add_members v book i at n aoi name id ds ≡ no (member_number f, i)
  unfolding add_members
  members_bad q = rw (← e, q)

-- ---- 7

-- what is laid out as a string has at most 2^26 - 4 bytes
pub string_most : (e : TypeEntry) → string_ok e ≡ true → e.string ≤ most_size - 4
unfolding string_ok
string_most e q =
    let a = leb 1 e.string in
    let b = leb e.string (most_size - 4) in
    let c = eqb e.count 0 in
    leb-true _ _ (and_right a b (and_left (a && b) c (and_left (a && b && c) (not (is_aoi e)) q)))

-- what is laid out as a string has at least one byte
pub string_least : (e : TypeEntry) → string_ok e ≡ true → 1 ≤ e.string
unfolding string_ok
string_least e q =
    let a = leb 1 e.string in
    let b = leb e.string (most_size - 4) in
    let c = eqb e.count 0 in
    leb-true _ _ (and_left a b (and_left (a && b) c (and_left (a && b && c) (not (is_aoi e)) q)))

module _ (v : View) (book : List ℕ) (i at : ℕ) (e : TypeEntry) (name : List ℕ) (id : ℕ) (ds : List Decl) (s : Bool)
    (es : s ≡ is_string e) where
  module _ (q : s ≡ true) (k : Bool) (ek : k ≡ string_ok e) where
    -- an entry of a right string gives the new string type, if there is room
    pub named_string : k ≡ true
        → add_named v book i at e name id ds
        ≡ fitted v i (new_def v name id (string_size e.string) Str (string_parts e.string))
    unfolding add_named add_string
    named_string p = rw (sym es ∙ q, sym ek ∙ p)

    -- an entry of a wrong string gets refusal 7
    pub named_wrong : k ≡ false → add_named v book i at e name id ds ≡ no (7, i)
    unfolding add_named add_string
    named_wrong p = rw (sym es ∙ q, sym ek ∙ p)

  -- an entry that is no string goes on with the checks of its members
  pub named_members : s ≡ false
      → add_named v book i at e name id ds ≡ add_members v book i at e.count (is_aoi e) name id ds
  unfolding add_named
  named_members p = rw (sym es ∙ p)

-- ---- 4, 5, 6

module _ (v : View) (book : List ℕ) (i at : ℕ) (e : TypeEntry) (name : List ℕ) (ds : List Decl) {p : Result ℕ IdFault}
    (ep : p ≡ id_for v.ids (has_id e) e.id) where
  -- with an id that is free, the type is added under that id
  pub fresh_free : {id : ℕ} → p ≡ Ok id → add_fresh v book i at e name ds ≡ add_named v book i at e name id ds
  unfolding add_fresh
  fresh_free {id} q = rw (← ep, q)

  -- where no id is picked: refusal 4, 5 or 6
  pub fresh_bad : {f : IdFault} → p ≡ Err f → add_fresh v book i at e name ds ≡ no (id_number f, i)
  unfolding add_fresh
  fresh_bad q = rw (← ep, q)

-- ---- 2, 3

module _ (v : View) (book : List ℕ) (i at : ℕ) (e : TypeEntry) (name : List ℕ) (ds : List Decl) (g : Bool)
    (eg : g ≡ good_name name) where
  -- a type name outside the rule gets refusal 2
  pub entry_bad : g ≡ false → add_entry v book i at e name ds ≡ no (2, i)
  unfolding add_entry
  entry_bad q = rw (sym eg ∙ q)

  module _ (q : g ≡ true) (f : Option Ty) (ef : f ≡ type_among v.names name) where
    -- a type name that is known already: refusal 3
    pub entry_known : is_found f ≡ true → add_entry v book i at e name ds ≡ no (3, i)
    unfolding add_entry
    entry_known p = rw (sym eg ∙ q, ← ef, p)

    -- a type name that meets the rule and is not known goes on with the id
    pub entry_fresh : is_found f ≡ false → add_entry v book i at e name ds ≡ add_fresh v book i at e name ds
    unfolding add_entry
    entry_fresh p = rw (sym eg ∙ q, ← ef, p)
