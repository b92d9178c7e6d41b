-- The cycle of `count_structs`, `count_struct`, `count_members` and `count_nested` meets its contracts (document 01,
-- "Value stream"): a string is one entry, any other structure its members, and an array so many entries an element; the
-- sum is exact where it is at most `most`, and else above it.
use Rattle.std.proofs.Common.{arith, ◌≡◌, sym, ap, ◌∙◌, ℕ}
use Rattle.types.specs.declared.tables.member.StructDef.{StructDef}
use Rattle.types.specs.tables.Lent.{type_at}
use Rattle.values.specs.reading.Trees.{is_string_kind}
use Rattle.values.proofs.stream.CountLaws.{members_counted, structs_all, structs_large, structs_many, structs_one}
use Rattle.values.proofs.stream.CountLaws.{text_counted}
use Rattle.values.proofs.stream.count.CountRows.{nested_counted, rows_all, rows_leaf, rows_nested, rows_none}
use Rattle.values.proofs.stream.count.CountRows.{rows_over}
use Rattle.values.proofs.stream.count.+counting.Goals as goal
use Rattle.values.proofs.stream.count.+counting.Goals.{count_members-else-not-is_nested+else-j-n}
use Rattle.values.proofs.stream.count.+counting.Goals.{count_members-then-not-is_nested, count_struct-After-is_string}

-- ---- members

pub count_members-loop-j-init : goal.count_members-loop-j-init
count_members-loop-j-init t c =
    let p = c.requires in
    rows_none p.0 p.1.0 p.1.1.0 (ap (λ (d : StructDef). d.first) c.type_row-d.ensures)
    (ap (λ (d : StructDef). d.count) c.type_row-d.ensures)

pub count_members-returns-then-most-sum : goal.count_members-returns-then-most-sum
count_members-returns-then-most-sum t c = rows_over c.loop-j.invariant c.if-most-sum.true

pub count_members-returns-then-j-n : goal.count_members-returns-then-j-n
count_members-returns-then-j-n t c =
    rows_all
    (rows_nested c.loop-j.invariant c.loop-j-test.true c.if-most-sum.false (c.count_nested.ensures c.loop-j.j))
    (omega (arith, c.if-j-n.true))

pub count_members-loop-j-preserved : goal.count_members-loop-j-preserved
count_members-loop-j-preserved t c =
    let p = c.loop-j.invariant in
    elim c.if-not-is_nested.branch [
      | count_members-then-not-is_nested w ↦
          rw (w.sum-is, w.texts-is)
          (rows_leaf p c.loop-j-test.true c.if-most-sum.false (sym c.is_nested.ensures ∙ w.if-not-is_nested.true)
          (w.leaf_entries-sum.ensures.0 c.loop-j.j))
      | count_members-else-not-is_nested+else-j-n w ↦
          rw (w.sum-is, w.texts-is)
          (rows_nested p c.loop-j-test.true c.if-most-sum.false (w.count_nested-sum.ensures c.loop-j.j))
    ]

pub count_members-returns : goal.count_members-returns
count_members-returns t c = rows_all c.loop-j.invariant c.loop-j-test.false

-- ---- the structures of a row

pub count_nested-returns : goal.count_nested-returns
count_nested-returns t c = λ j. nested_counted j c.requires.1.0 c.nested_in-m.ensures c.count_structs.ensures

-- ---- a structure

-- what the test says of the table's row
kind : (t : ℕ) (c : count_struct-After-is_string t)
    → is_string_kind (type_at c.args.types.now c.args.i).kind ≡ c.is_string.result
kind t c = ap (λ (d : StructDef). is_string_kind d.kind) (sym c.type_row-d.ensures) ∙ sym c.is_string.ensures

pub count_struct-returns-then-is_string : goal.count_struct-returns-then-is_string
count_struct-returns-then-is_string t c =
    text_counted c.requires.0 c.requires.1.0
    (kind t (goal.at.count_struct-returns-then-is_string t c).After-is_string ∙ c.if-is_string.true)

pub count_struct-returns : goal.count_struct-returns
count_struct-returns t c =
    members_counted c.requires.0 c.requires.1.0
    (kind t (goal.at.count_struct-returns t c).After-is_string ∙ c.if-is_string.false) c.count_members.ensures

-- ---- structures

pub count_structs-returns-then-n-eq0 : goal.count_structs-returns-then-n-eq0
count_structs-returns-then-n-eq0 t c =
    structs_one c.args.types.now c.args.members.now c.args.i c.args.n c.if-n-eq0.true
    c.count_struct.ensures

pub count_structs-returns-then-most-n : goal.count_structs-returns-then-most-n
count_structs-returns-then-most-n t c =
    structs_many c.args.types.now c.args.members.now c.args.i c.args.n c.if-n-eq0.false c.if-most-n.true

pub count_structs-returns-then-most-one : goal.count_structs-returns-then-most-one
count_structs-returns-then-most-one t c =
    structs_large c.args.types.now c.args.members.now c.args.i c.args.n c.if-n-eq0.false
    c.count_struct-one.ensures
    c.if-most-one.true

pub count_structs-returns : goal.count_structs-returns
count_structs-returns t c =
    structs_all c.args.types.now c.args.members.now c.args.i c.args.n c.if-n-eq0.false
    c.count_struct-one.ensures
    c.if-most-one.false
