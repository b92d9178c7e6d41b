-- `types::put_type_line` meets its contract: the line in a buffer of its own, given; or 15.
use native.Mathlib.Omega.{arith}
use mathlib.Core.Path.{◌≡◌, sym, ◌∙◌}
use mathlib.Core.Bool.{true}
use Rattle.types.specs.templates.Template.{has_template}
use Rattle.types.specs.declared.tables.member.Ty.TheVariants.{Struct}
use Rattle.types.proofs.refusals.GivenLaws.{given_absent, line_given, line_inside, line_long, line_short}
use Rattle.types.proofs.tables.ThereLaws.{kept_there}
use Rattle.types.proofs.listing.lines.put_type_line.Goals as goal
use Rattle.types.proofs.listing.lines.put_type_line.Goals.{Else-not-is_there}

-- the test was passed
there : (c : Else-not-is_there)
    → let a = c.args in
    has_template a.tables.now.types (Struct a.i) ≡ true
there c = sym c.is_there.ensures ∙ c.if-not-is_there.false

pub type_line-n-requires : goal.type_line-n-requires
type_line-n-requires c =
    let row = kept_there c.requires c.args.i (there (goal.at.type_line-n-requires c).Else-not-is_there) in
    (row.few, (row.listable, omega arith))

pub slice_bounds-text-end : goal.slice_bounds-text-end
slice_bounds-text-end c = line_inside c.type_line-n.ensures

pub slice_bounds-give-end : goal.slice_bounds-give-end
slice_bounds-give-end c = line_long c.type_line-n.ensures

pub give-requires : goal.give-requires
give-requires c = line_short c.type_line-n.ensures (omega arith)

pub returns-then-not-is_there : goal.returns-then-not-is_there
returns-then-not-is_there c = given_absent (sym c.is_there.ensures ∙ c.if-not-is_there.true)

pub returns : goal.returns
returns c =
    line_given c.type_line-n.ensures (there (goal.at.returns c).Else-not-is_there) c.give.ensures
