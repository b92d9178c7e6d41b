-- `types::row_named` meets its contract: names of two lengths differ; the others are compared.
use Rattle.std.proofs.Common.{sym, ◌∙◌, refl, arith}
use borrow.Author.Tests.{ne_eqb}
use Rattle.words.proofs.Lists.{length_part}
use Rattle.types.specs.atomics.Lookup.{row_name}
use Rattle.types.specs.tables.Lent.{type_at}
use Rattle.types.proofs.book.NameLaws.{same_long}
use Rattle.types.proofs.tables.DefLaws.{lent_name}
use Rattle.types.proofs.atomics.lookup.row_named.Goals as goal

pub slice_bounds-same_name-end : goal.slice_bounds-same_name-end
unfolding type_at
slice_bounds-same_name-end c = omega (arith, c.requires.1)

pub returns-then-long-name : goal.returns-then-long-name
unfolding type_at
returns-then-long-name c =
    let a = c.args in
    c.same_name.ensures ∙ rw (lent_name a.names.now (type_at a.types.now a.i).name refl refl)

pub returns-else-long-name : goal.returns-else-long-name
unfolding type_at
returns-else-long-name c =
    let a = c.args in
    let differ = same_long (row_name a.types.now a.names.now a.i) a.name.now
    (λ e. c.if-long-name.false (sym (length_part a.names.now _ _ c.requires.1) ∙ e)) in
    rw (ne_eqb _ _ c.if-long-name.false) (sym differ)
