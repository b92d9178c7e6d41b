-- `types::among_first` meets its contract: a name is among all where it is among those that are left.
use Rattle.std.proofs.Common.{◌≡◌, ◌-◌, refl, sym, ◌∙◌}
use Rattle.types.specs.book.Names.{same_name}
use Rattle.types.specs.inside.adding.Checks.{member_name}
use Rattle.types.proofs.adding.checks.CheckLaws.{among_here, among_on, among_none}
use Rattle.types.proofs.adding.checks.among_first.Goals as goal
use Rattle.types.proofs.adding.checks.among_first.Goals.{After-same_name}
use Rattle.types.proofs.tables.DefLaws.{lent_name}

-- the comparison, with the entry's name
compared : (c : After-same_name)
    → c.same_name.result
    ≡ same_name (member_name c.args.book.now c.args.at (c.loop-k.k - 1)) c.args.name.now
compared c = c.same_name.ensures ∙ rw (lent_name c.args.book.now c.entry_at.result.name refl refl, c.entry_at.ensures)

pub returns-then-same_name : goal.returns-then-same_name
returns-then-same_name c =
    among_here (member_name c.args.book.now c.args.at) c.args.name.now c.loop-k.k c.loop-k-test.true _
    (compared (goal.at.returns-then-same_name c).After-same_name) c.if-same_name.true
    ∙ sym c.loop-k.invariant

pub loop-k-preserved : goal.loop-k-preserved
loop-k-preserved c =
    c.loop-k.invariant
    ∙ among_on (member_name c.args.book.now c.args.at) c.args.name.now c.loop-k.k c.loop-k-test.true _
    (compared (goal.at.loop-k-preserved c).After-same_name) c.if-same_name.false

pub returns : goal.returns
returns c =
    among_none (member_name c.args.book.now c.args.at) c.args.name.now c.loop-k.k c.loop-k-test.false
    ∙ sym c.loop-k.invariant
