-- `types::put_member_line` meets its contract: the line in a buffer of its own, given; or 15.
use native.Mathlib.Omega.{arith}
use mathlib.Core.Path.{◌≡◌, sym, ◌∙◌}
use mathlib.Core.Bool.{true}
use Rattle.types.specs.listing.Lines.{has_member}
use Rattle.types.proofs.refusals.GivenLaws.{given_absent, line_given, line_inside, line_long, line_short}
use Rattle.types.proofs.tables.ThereLaws.{kept_there, member_there}
use Rattle.types.proofs.listing.lines.put_member_line.Goals as goal
use Rattle.types.proofs.listing.lines.put_member_line.Goals.{Else-not-has_member}

-- the test was passed
there : (c : Else-not-has_member)
    → let a = c.args in
    has_member a.tables.now.types a.i a.k ≡ true
there c = sym c.has_member.ensures ∙ c.if-not-has_member.false

pub member_line-n-requires : goal.member_line-n-requires
member_line-n-requires c =
    let m = member_there _ _ (there (goal.at.member_line-n-requires c).Else-not-has_member) in
    let row = kept_there c.requires c.args.i m.0 in
    (row.few, (row.listable, (m.1, omega arith)))

pub slice_bounds-text-end : goal.slice_bounds-text-end
slice_bounds-text-end c = line_inside c.member_line-n.ensures

pub slice_bounds-give-end : goal.slice_bounds-give-end
slice_bounds-give-end c = line_long c.member_line-n.ensures

pub give-requires : goal.give-requires
give-requires c = line_short c.member_line-n.ensures (omega arith)

pub returns-then-not-has_member : goal.returns-then-not-has_member
returns-then-not-has_member c = given_absent (sym c.has_member.ensures ∙ c.if-not-has_member.true)

pub returns : goal.returns
returns c =
    line_given c.member_line-n.ensures (there (goal.at.returns c).Else-not-has_member) c.give.ensures
