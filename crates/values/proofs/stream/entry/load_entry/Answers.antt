-- `values::load_entry` meets its contract: one of the three bytes is not zero, or the kind and the payload say it.
use borrow.Author.Tests.{eq-eqb, ne_eqb}
use mathlib.Core.Path.{sym, ◌∙◌}
use Rattle.values.specs.inside.stream.Entry.{entry_in}
use Rattle.values.specs.stream.Entry.{three_zeros}
use Rattle.values.proofs.stream.EntryLaws.{zeros_read}
use Rattle.values.proofs.stream.entry.load_entry.Goals as goal
use Rattle.values.proofs.stream.entry.load_entry.Goals.{then-s-at-ne0-via-then-s-at-ne0}
use Rattle.values.proofs.stream.entry.load_entry.Goals.{then-s-at-ne0-via-else-s-at-ne0+then-s-at-ne0-2}
use Rattle.values.proofs.stream.entry.load_entry.Goals.{then-s-at-ne0-via-else-s-at-ne0+else-s-at-ne0-2+then-s-at-ne0-3}

pub returns-then-s-at-ne0 : goal.returns-then-s-at-ne0
unfolding entry_in three_zeros
returns-then-s-at-ne0 c =
    elim c.then-s-at-ne0.branch [
      | then-s-at-ne0-via-then-s-at-ne0 w ↦ simp (ne_eqb _ _ w.if-s-at-ne0.true)
      | then-s-at-ne0-via-else-s-at-ne0+then-s-at-ne0-2 w ↦
          simp (eq-eqb _ _ w.if-s-at-ne0.false, ne_eqb _ _ w.if-s-at-ne0-2.true)
      | then-s-at-ne0-via-else-s-at-ne0+else-s-at-ne0-2+then-s-at-ne0-3 w ↦
          simp (eq-eqb _ _ w.if-s-at-ne0.false, eq-eqb _ _ w.if-s-at-ne0-2.false, ne_eqb _ _ w.if-s-at-ne0-3.true)
    ]

pub returns : goal.returns
returns c =
    let a = c.args in
    c.loaded_of.ensures ∙ rw c.load.ensures
    (sym (zeros_read a.s.now a.at c.if-s-at-ne0.false c.if-s-at-ne0-2.false c.if-s-at-ne0-3.false))
