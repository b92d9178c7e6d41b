-- `types::place` meets its contract.
use mathlib.Core.Path.{sym, ap, ◌∙◌}
use Rattle.std.specs.Prelude.{Ok}
use Rattle.types.proofs.layout.LayoutLaws.{placed_bool, placed_other, placed_wrong}
use Rattle.types.proofs.layout.placing.place.Goals as goal

pub returns-then-not-access_ok : goal.returns-then-not-access_ok
returns-then-not-access_ok c =
    placed_wrong c.args.c c.args.d (sym c.access_ok.ensures ∙ c.if-not-access_ok.true)

pub returns-then-is_bool : goal.returns-then-is_bool
returns-then-is_bool c =
    ap Ok c.place_bool.ensures
    ∙ placed_bool c.args.c c.args.d (sym c.access_ok.ensures ∙ c.if-not-access_ok.false)
    (sym c.is_bool.ensures ∙ c.if-is_bool.true)

pub returns-else-is_bool : goal.returns-else-is_bool
returns-else-is_bool c =
    c.place_other.ensures
    ∙ placed_other c.args.c c.args.d (sym c.access_ok.ensures ∙ c.if-not-access_ok.false)
    (sym c.is_bool.ensures ∙ c.if-is_bool.false)
