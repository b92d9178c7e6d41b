-- `Atomic::from_code` meets its contract: the first of the fifteen with the code.
use Rattle.std.specs.Prelude.{Some}
use Rattle.std.proofs.Common.{refl, sym, ap, ◌∙◌, true, false, arith}
use borrow.Author.Tests.{eq-eqb, ne_eqb}
use lib.Dec.{eqb}
use Rattle.types.specs.atomics.Atomic.{atomics, row_of, code_of, code_given, said_by}
use Rattle.types.specs.declared.atomics.atomic.AtomicRow.{AtomicRow}
use Rattle.types.proofs.atomics.AtomicLaws.{at_is, table_row, first_hit, first_miss, first_none, first_said}
use Rattle.types.proofs.atomics.atomic.Atomic.from_code.Goals as goal

pub loop-i-init : goal.loop-i-init
unfolding code_given
loop-i-init c = sym (first_said _ atomics)

pub returns-then-from-code : goal.returns-then-from-code
unfolding row_of
returns-then-from-code c =
    let l = c.loop-i in
    let e = ap (λ (r : AtomicRow). r.0) (table_row l.i _ c.table.ensures (omega arith)) in
    ap said_by (ap Some (at_is _ c.at.ensures)
    ∙ first_hit (λ a. eqb (code_of a) c.args.code) l.i (omega arith) true
    (sym (eq-eqb _ _ (sym e ∙ sym c.from.ensures ∙ c.if-from-code.true))) refl)
    ∙ sym l.invariant

pub loop-i-preserved : goal.loop-i-preserved
unfolding row_of
loop-i-preserved c =
    let l = c.loop-i in
    let e = ap (λ (r : AtomicRow). r.0) (table_row l.i _ c.table.ensures (omega arith)) in
    l.invariant
    ∙ ap said_by (first_miss (λ a. eqb (code_of a) c.args.code) l.i (omega arith) false
    (sym (ne_eqb _ _ (λ q. c.if-from-code.false (c.from.ensures ∙ e ∙ q)))) refl)

pub returns : goal.returns
returns c =
    let l = c.loop-i in
    ap said_by (first_none _ l.i (omega arith) (omega arith)) ∙ sym l.invariant
