-- The cycle of `text_struct`, `text_members`, `text_nested` and `text_elements` meets its contracts (document 01,
-- "Value stream"): a string has min(LEN, capacity) bytes of text, any other structure those of its members, and an
-- array those of its elements, each from its own part of the image.
use Rattle.std.proofs.Common.{arith, ◌≡◌, sym, ap, ◌∙◌, ℕ}
use Rattle.types.specs.declared.tables.member.StructDef.{StructDef}
use Rattle.types.specs.tables.Lent.{type_at}
use Rattle.values.specs.inside.reading.Walk.{elements_by, struct_out}
use Rattle.values.specs.reading.Trees.{is_string_kind}
use Rattle.values.proofs.reading.PartLaws.{HeldRow, element_is, one_fits, one_is, some_fits, some_is}
use Rattle.values.proofs.stream.TextCountLaws.{StringAt, members_texts, rows_done, rows_on, rows_past, rows_plain}
use Rattle.values.proofs.stream.TextCountLaws.{rows_start, string_texts, sum_done, sum_on, sum_past, sum_start}
use Rattle.values.proofs.stream.TextCountLaws.{texts_as, texts_member}
use Rattle.values.proofs.stream.lengths.+measuring.Goals as goal
use Rattle.values.proofs.stream.lengths.+measuring.Goals.{text_members-At-loop-j, text_members-else-is_nested}
use Rattle.values.proofs.stream.lengths.+measuring.Goals.{text_members-then-is_nested}
use Rattle.values.proofs.stream.lengths.+measuring.Goals.{text_nested-After-struct_size-size}
use Rattle.values.proofs.stream.lengths.+measuring.Goals.{text_struct-After-is_string}

-- ---- elements

pub text_elements-loop-k-init : goal.text_elements-loop-k-init
text_elements-loop-k-init t c = sum_start

pub text_elements-returns-then-room-t : goal.text_elements-returns-then-room-t
unfolding elements_by
text_elements-returns-then-room-t t c = sum_past 10 11 c.loop-k.invariant c.if-room-t.true

pub text_elements-loop-k-preserved : goal.text_elements-loop-k-preserved
text_elements-loop-k-preserved t c =
    let trees = struct_out c.args.types.now c.args.members.now in
    sum_on c.loop-k.invariant c.loop-k-test.true c.if-room-t.false
    (texts_as (element_is c.requires.1.0 c.struct_size-size.ensures c.args.members.now trees c.loop-k.k)
    c.text_struct-t.ensures)

pub text_elements-returns : goal.text_elements-returns
unfolding elements_by
text_elements-returns t c = sum_done 10 11 c.loop-k.invariant c.loop-k-test.false

-- ---- members

-- the code's first row and count are the table's
first : (t : ℕ) (c : text_members-At-loop-j t)
    → c.type_row-d.result.first ≡ (type_at c.args.types.now c.args.i).first
first t c = ap (λ (d : StructDef). d.first) c.type_row-d.ensures

count : (t : ℕ) (c : text_members-At-loop-j t)
    → c.type_row-d.result.count ≡ (type_at c.args.types.now c.args.i).count
count t c = ap (λ (d : StructDef). d.count) c.type_row-d.ensures

pub text_members-loop-j-init : goal.text_members-loop-j-init
text_members-loop-j-init t c = rows_start

pub text_members-returns-then-room-t : goal.text_members-returns-then-room-t
text_members-returns-then-room-t t c = rows_past c.loop-j.invariant c.if-room-t.true

pub text_members-overflow_add-t : goal.text_members-overflow_add-t
text_members-overflow_add-t t c = omega (arith, (c.text_nested-t.ensures 0).small)

pub text_members-loop-j-preserved : goal.text_members-loop-j-preserved
text_members-loop-j-preserved t c =
    let at = (goal.at.text_members-loop-j-preserved t c).At-loop-j in
    elim c.if-is_nested.branch [
      | text_members-then-is_nested w ↦
          rw w.t-is
          (rows_on c.loop-j.invariant (count t at) (first t at) c.loop-j-test.true c.if-room-t.false
          (w.text_nested-t.ensures c.loop-j.j))
      | text_members-else-is_nested w ↦
          rw w.t-is
          (rows_plain c.loop-j.invariant (count t at) (first t at) c.loop-j-test.true
          (sym c.is_nested.ensures ∙ w.if-is_nested.false))
    ]

pub text_members-returns : goal.text_members-returns
text_members-returns t c =
    rows_done c.loop-j.invariant (count t (goal.at.text_members-returns t c).At-loop-j) c.loop-j-test.false

-- ---- the structures of a row

-- what the row holds
held : (t : ℕ) (c : text_nested-After-struct_size-size t)
    → HeldRow c.args.types.now c.args.members.now c.args.i c.args.row c.args.image.now
    c.nested_in-m.result
    c.struct_size-size.result
held t c =
    record {
      nested = c.requires.1.0;
      whole = c.requires.1.1.0;
      held = c.nested_in-m.ensures;
      long = c.struct_size-size.ensures;
    }

pub text_nested-slice_bounds-text_struct-end : goal.text_nested-slice_bounds-text_struct-end
text_nested-slice_bounds-text_struct-end t c =
    one_fits (held t (goal.at.text_nested-slice_bounds-text_struct-end t c).After-struct_size-size) c.if-m-eq0.true

pub text_nested-returns-then-m-eq0 : goal.text_nested-returns-then-m-eq0
text_nested-returns-then-m-eq0 t c = λ j.
    let w = held t (goal.at.text_nested-returns-then-m-eq0 t c).After-struct_size-size in
    texts_as (one_is w c.if-m-eq0.true (struct_out c.args.types.now c.args.members.now) j)
    (texts_member j c.text_struct.ensures)

pub text_nested-overflow_mul-end : goal.text_nested-overflow_mul-end
text_nested-overflow_mul-end t c =
    let w = held t (goal.at.text_nested-overflow_mul-end t c).After-struct_size-size in
    omega (arith, some_fits w c.if-m-eq0.false)

pub text_nested-overflow_add-end : goal.text_nested-overflow_add-end
text_nested-overflow_add-end t c =
    let w = held t (goal.at.text_nested-overflow_add-end t c).After-struct_size-size in
    omega (arith, some_fits w c.if-m-eq0.false)

pub text_nested-slice_bounds-text_elements-end : goal.text_nested-slice_bounds-text_elements-end
text_nested-slice_bounds-text_elements-end t c =
    some_fits (held t (goal.at.text_nested-slice_bounds-text_elements-end t c).After-struct_size-size)
    c.if-m-eq0.false

pub text_nested-returns : goal.text_nested-returns
text_nested-returns t c = λ j.
    let w = held t (goal.at.text_nested-returns t c).After-struct_size-size in
    texts_as (some_is w c.if-m-eq0.false (struct_out c.args.types.now c.args.members.now) j)
    (texts_member j c.text_elements.ensures)

-- ---- a structure

-- what the test says of the table's row
kind : (t : ℕ) (c : text_struct-After-is_string t)
    → is_string_kind (type_at c.args.types.now c.args.i).kind ≡ c.is_string.result
kind t c = ap (λ (d : StructDef). is_string_kind d.kind) (sym c.type_row-d.ensures) ∙ sym c.is_string.ensures

pub text_struct-returns-then-is_string : goal.text_struct-returns-then-is_string
text_struct-returns-then-is_string t c =
    let a = c.args in
    let string : StringAt a.types.now a.members.now a.i a.image.now c.type_row-d.result.first = record {
      tables = c.requires.0;
      whole = c.requires.1.0;
      kind = kind t (goal.at.text_struct-returns-then-is_string t c).After-is_string ∙ c.if-is_string.true;
      at = ap (λ (d : StructDef). d.first) c.type_row-d.ensures;
    } in
    rw c.text_length.ensures (string_texts string a.room c.capacity_at-capacity.ensures (omega arith))

pub text_struct-returns : goal.text_struct-returns
text_struct-returns t c =
    members_texts c.requires.0 c.requires.1.0
    (kind t (goal.at.text_struct-returns t c).After-is_string ∙ c.if-is_string.false) c.text_members.ensures
