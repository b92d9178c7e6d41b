-- `types::type_header` meets its contract: the header of a type that is there, else 15.
use mathlib.Core.Path.{sym, ◌∙◌}
use Rattle.types.specs.atomics.Header.{headed_of}
use Rattle.types.proofs.shape.ShapeLaws.{there_fits}
use Rattle.types.proofs.atomics.header.type_header.Goals as goal

pub header_in-requires : goal.header_in-requires
header_in-requires c =
    let a = c.args in
    there_fits a.types.now a.ty (sym c.is_there.ensures ∙ c.if-not-is_there.false)

pub returns-then-not-is_there : goal.returns-then-not-is_there
unfolding headed_of
returns-then-not-is_there c = rw (sym c.is_there.ensures ∙ c.if-not-is_there.true)

pub returns : goal.returns
unfolding headed_of
returns c = rw (sym c.is_there.ensures ∙ c.if-not-is_there.false, c.header_in.ensures)
